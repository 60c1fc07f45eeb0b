use Rattle.std.proofs.Common.{◌≡◌, refl, ◌∙◌}
use Rattle.std.proofs.lemmas.Result.{err_from_is_err_and}
use Rattle.tiff_dirs.specs.declared.read_level.ReadLevel.{ReadLevel}
use Rattle.tiff_dirs.specs.declared.shape.ReadShape.{ReadShape}
use Rattle.tiff_format.specs.Block.{shape_at}
use Rattle.tiff_format.specs.DirectoryFault.{directory_fault, outside_fault, count_fault}
use Rattle.tiff_dirs.specs.Shape.{seen_shape}
use Rattle.tiff_entries.specs.Entries.{IsDirectoryAt}
use Rattle.tiff_dirs.specs.Numbers.{fields_fault}
use Rattle.tiff_dirs.specs.ReadLevel.{IsLevelAt}
use Rattle.tiff_entries.proofs.Saying.{finds_err, finds_so, leaves_err, leaves_more}
use Rattle.tiff_dirs.proofs.Order.{directory_is}
use Rattle.tiff_dirs.proofs.chain.first_level.Goals as goal

pub returns-in_err-directory-clause-told : goal.returns-in_err-directory-clause-told
returns-in_err-directory-clause-told g c = λ bytes is.
    let form = c.args.place.form in
    let at = c.args.place.at in
    let p = err_from_is_err_and c.from_residual.result c.from_residual.ensures.1 in
    rw (p.1, p.2) (finds_err (outside_fault form bytes at) (directory_fault form bytes at)
    (IsDirectoryAt form bytes at) (IsLevelAt form bytes at)
    c.in_err-directory.field-0.0 (c.in_err-directory.ensures.told bytes is)
    (λ fault shown-fault. directory_is form bytes at ∙ rw shown-fault refl))

pub returns-in_err-shape-clause-told : goal.returns-in_err-shape-clause-told
returns-in_err-shape-clause-told g c = λ bytes is.
    let form = c.args.place.form in
    let at = c.args.place.at in
    let r = c.from_residual-in_err-shape in
    let p = err_from_is_err_and r.result r.ensures.1 in
    let directory = c.in_ok-directory.ensures.told bytes is in
    rw (p.1, p.2) (finds_err (fields_fault form bytes at) (directory_fault form bytes at)
    (λ (s : ReadShape). seen_shape s ≡ shape_at form bytes at) (IsLevelAt form bytes at)
    c.in_err-shape.field-0.0 (c.in_err-shape.ensures.told bytes
    (g.met.B.ByteReader.lawful.same_bytes _ _ c.in_ok-directory.ensures.reader ∙ is) form at
    directory.1.entries)
    (λ fault shown-fault. directory_is form bytes at ∙ rw (directory.0, shown-fault) refl))

pub returns-clause-told : goal.returns-clause-told
returns-clause-told g c = λ bytes is.
    let form = c.args.place.form in
    let at = c.args.place.at in
    let same = g.met.B.ByteReader.lawful.same_bytes in
    let directory = c.in_ok-directory.ensures.told bytes is in
    let is-2 = same _ _ c.in_ok-directory.ensures.reader ∙ is in
    let shape = c.in_ok-shape.ensures.told bytes is-2 form at directory.1.entries in
    finds_so (count_fault form bytes at) (directory_fault form bytes at)
    (IsLevelAt form bytes at) (IsLevelAt form bytes at) c.read_level.result
    (c.read_level.ensures.told bytes (same _ _ c.in_ok-shape.ensures.reader ∙ is-2) form at
    directory.1 shape.1)
    (directory_is form bytes at ∙ rw (directory.0, shape.0) refl) (λ read none seen. seen)

pub returns-in_err-shape-clause-reader : goal.returns-in_err-shape-clause-reader
returns-in_err-shape-clause-reader g c =
    let r = c.from_residual-in_err-shape in
    let p = err_from_is_err_and r.result r.ensures.1 in
    rw (p.1, p.2) (leaves_err ReadShape ReadLevel g.B.ByteReader.keeps g.B.ByteReader.refuses
    _ _ _ c.in_err-shape.field-0.0 g.met.B.ByteReader.lawful.chains
    c.in_ok-directory.ensures.reader c.in_err-shape.ensures.reader)

pub returns-clause-reader : goal.returns-clause-reader
returns-clause-reader g c =
    let chains = g.met.B.ByteReader.lawful.chains in
    leaves_more ReadLevel g.B.ByteReader.keeps g.B.ByteReader.refuses _ _ _ c.read_level.result
    chains (chains _ _ _ c.in_ok-directory.ensures.reader c.in_ok-shape.ensures.reader)
    c.read_level.ensures.reader
