use Rattle.std.proofs.Common.{◌∙◌, ap, sym, subst, List, length, arith}
use Rattle.std.specs.List.{All}
use Rattle.tex_make.specs.declared.field.Field.{Field}
use Rattle.tex_make.specs.Field.{IsField, directory_size}
use Rattle.tex_make.specs.Pyramid.{seen}
use Rattle.tex_make.proofs.Fields.{fields_fit, fields_few, size_same}
use Rattle.tex_make.proofs.Directories.{directory_ends, tiles_end}
use Rattle.tex_make.proofs.head.push_level.Goals as goal

pub push_directory-requires-clause-fields : goal.push_directory-requires-clause-fields
push_directory-requires-clause-fields c =
    let texture = c.args.texture.now in
    let p = seen texture.picture.now in
    let end = tiles_end p texture.side texture.short c.args.level c.requires.level in
    subst (λ (fs : List Field). All IsField fs) (sym (c.deref.ensures.value ∙ c.in_ok-fields.ensures))
    (fields_fit p texture.picture.now.known texture.side c.args.level texture.side_in
    c.requires.level c.args.tiles (omega (arith, end, c.requires.tiles)))

pub push_directory-requires-clause-few : goal.push_directory-requires-clause-few
push_directory-requires-clause-few c =
    let texture = c.args.texture.now in
    let p = seen texture.picture.now in
    let few = fields_few p texture.picture.now.known texture.side c.args.level texture.side_in
    c.requires.level c.args.tiles in
    omega (arith, few, ap length (c.deref.ensures.value ∙ c.in_ok-fields.ensures))

pub push_directory-requires-clause-short : goal.push_directory-requires-clause-short
push_directory-requires-clause-short c =
    let texture = c.args.texture.now in
    let p = seen texture.picture.now in
    let end = directory_ends p texture.side texture.short c.args.level c.requires.level in
    let same = size_same p texture.picture.now.known texture.side c.args.level texture.side_in
    c.requires.level c.args.tiles in
    omega (
      arith,
      end,
      same,
      c.requires.at,
      ap directory_size (c.deref.ensures.value ∙ c.in_ok-fields.ensures),
    )
