use Rattle.std.proofs.Common.{◌∙◌, ap, sym, subst, List, length, arith}
use Rattle.std.specs.List.{All}
use Rattle.tex_make.specs.declared.field.Field.{Field}
use Rattle.tex_make.specs.Field.{IsField, directory_size}
use Rattle.tex_make.specs.Pyramid.{seen}
use Rattle.tex_make.proofs.Fields.{fields_fit, fields_few}
use Rattle.tex_make.proofs.Directories.{next_directory, directory_ends, tiles_end}
use Rattle.tex_make.proofs.head.behind_directory.Goals as goal

pub directory_size-requires-clause-fields : goal.directory_size-requires-clause-fields
directory_size-requires-clause-fields c =
    let texture = c.args.texture.now in
    let p = seen texture.picture.now in
    let end = tiles_end p texture.side texture.short c.args.level c.requires.level in
    subst (λ (fs : List Field). All IsField fs) (sym (c.deref.ensures.value ∙ c.in_ok-fields.ensures))
    (fields_fit p texture.picture.now.known texture.side c.args.level texture.side_in
    c.requires.level 0 (omega (arith, end)))

pub directory_size-requires-clause-few : goal.directory_size-requires-clause-few
directory_size-requires-clause-few c =
    let texture = c.args.texture.now in
    let p = seen texture.picture.now in
    let few = fields_few p texture.picture.now.known texture.side c.args.level texture.side_in
    c.requires.level 0 in
    omega (arith, few, ap length (c.deref.ensures.value ∙ c.in_ok-fields.ensures))

pub directory_size-requires-clause-short : goal.directory_size-requires-clause-short
directory_size-requires-clause-short c =
    let texture = c.args.texture.now in
    let p = seen texture.picture.now in
    let end = directory_ends p texture.side texture.short c.args.level c.requires.level in
    omega (arith, end, ap directory_size (c.deref.ensures.value ∙ c.in_ok-fields.ensures))

pub overflow_add-result : goal.overflow_add-result
overflow_add-result c =
    let texture = c.args.texture.now in
    let p = seen texture.picture.now in
    let end = directory_ends p texture.side texture.short c.args.level c.requires.level in
    omega (
      arith,
      end,
      c.requires.at,
      c.directory_size.ensures,
      ap directory_size (c.deref.ensures.value ∙ c.in_ok-fields.ensures),
    )

pub returns : goal.returns
returns c =
    let texture = c.args.texture.now in
    let p = seen texture.picture.now in
    omega (
      arith,
      next_directory p texture.side c.args.level,
      c.requires.at,
      c.directory_size.ensures,
      ap directory_size (c.deref.ensures.value ∙ c.in_ok-fields.ensures),
    )
