use Rattle.std.proofs.Common.{◌≡◌, Option, refl, sym, ◌∙◌}
use Rattle.std.proofs.lemmas.Result.{err_from_is_err_and}
use Rattle.tiff_dirs.specs.declared.read_level.ReadLevel.{ReadLevel}
use Rattle.tiff_dirs.specs.declared.shape.ReadShape.{ReadShape}
use Rattle.tiff_format.specs.Block.{shape_at}
use Rattle.tiff_format.specs.DirectoryFault.{outside_fault, count_fault}
use Rattle.tiff_entries.specs.Entries.{IsDirectoryAt}
use Rattle.tiff_dirs.specs.Numbers.{fields_fault}
use Rattle.tiff_dirs.specs.Shape.{seen_shape}
use Rattle.tiff_dirs.specs.ReadLevel.{IsLevelAt}
use Rattle.tiff_format.specs.Shown.{shown_shape}
use Rattle.tiff_entries.proofs.Saying.{leaves_err}
use Rattle.tiff_dirs.proofs.Order.{directory_is}
use Rattle.tiff_dirs.proofs.NextLevel.{half_by, half_err}
use Rattle.tiff_dirs.proofs.chain.half_at.Goals as goal

pub returns-in_err-directory-clause-told : goal.returns-in_err-directory-clause-told
returns-in_err-directory-clause-told g c = λ bytes is.
    let form = c.args.place.form in
    let at = c.args.place.at in
    let p = err_from_is_err_and c.from_residual.result c.from_residual.ensures.1 in
    rw (p.1, p.2) (half_err form bytes (outside_fault form bytes at) at
    (shown_shape c.args.first.now) (shown_shape c.args.last.now) (IsDirectoryAt form bytes at)
    c.in_err-directory.field-0.0 (c.in_err-directory.ensures.told bytes is)
    (λ fault shown-fault. directory_is form bytes at ∙ rw shown-fault refl))

pub returns-in_err-shape-clause-told : goal.returns-in_err-shape-clause-told
returns-in_err-shape-clause-told g c = λ bytes is.
    let form = c.args.place.form in
    let at = c.args.place.at in
    let same = g.met.B.ByteReader.lawful.same_bytes in
    let r = c.from_residual-in_err-shape in
    let p = err_from_is_err_and r.result r.ensures.1 in
    let directory = c.in_ok-directory.ensures.told bytes is in
    let is-3 = same _ _ c.in_ok-channels.ensures.reader
    ∙ same _ _ c.in_ok-directory.ensures.reader ∙ is in
    rw (p.1, p.2) (half_err form bytes (fields_fault form bytes at) at
    (shown_shape c.args.first.now) (shown_shape c.args.last.now)
    (λ (s : ReadShape). seen_shape s ≡ shape_at form bytes at)
    c.in_err-shape.field-0.0 (c.in_err-shape.ensures.told bytes is-3 form at directory.1.entries)
    (λ fault shown-fault. directory_is form bytes at ∙ rw (directory.0, shown-fault) refl))

pub returns-then-not-is_half-clause-told : goal.returns-then-not-is_half-clause-told
returns-then-not-is_half-clause-told g c = λ bytes is.
    let form = c.args.place.form in
    let at = c.args.place.at in
    let same = g.met.B.ByteReader.lawful.same_bytes in
    let directory = c.in_ok-directory.ensures.told bytes is in
    let is-3 = same _ _ c.in_ok-channels.ensures.reader
    ∙ same _ _ c.in_ok-directory.ensures.reader ∙ is in
    let shape = c.in_ok-shape.ensures.told bytes is-3 form at directory.1.entries in
    sym (half_by form bytes at (shown_shape c.args.first.now) (shown_shape c.args.last.now)
    (seen_shape c.in_ok-shape.shape) shape.1)
    ∙ sym c.is_half.ensures ∙ c.if-not-is_half.true

pub returns-in_err-next-clause-told : goal.returns-in_err-next-clause-told
returns-in_err-next-clause-told g c = λ bytes is.
    let form = c.args.place.form in
    let at = c.args.place.at in
    let same = g.met.B.ByteReader.lawful.same_bytes in
    let r = c.from_residual-in_err-next in
    let p = err_from_is_err_and r.result r.ensures.1 in
    let directory = c.in_ok-directory.ensures.told bytes is in
    let is-3 = same _ _ c.in_ok-channels.ensures.reader
    ∙ same _ _ c.in_ok-directory.ensures.reader ∙ is in
    let shape = c.in_ok-shape.ensures.told bytes is-3 form at directory.1.entries in
    rw (p.1, p.2) (half_err form bytes (count_fault form bytes at) at
    (shown_shape c.args.first.now) (shown_shape c.args.last.now) (IsLevelAt form bytes at)
    c.in_err-next.field-0.0 (c.in_err-next.ensures.told bytes
    (same _ _ c.in_ok-shape.ensures.reader ∙ is-3) form at directory.1 shape.1)
    (λ fault shown-fault. directory_is form bytes at
    ∙ rw (directory.0, shape.0, shown-fault) refl))

pub returns-in_err-next-clause-reader : goal.returns-in_err-next-clause-reader
returns-in_err-next-clause-reader g c =
    let chains = g.met.B.ByteReader.lawful.chains in
    let r = c.from_residual-in_err-next in
    let p = err_from_is_err_and r.result r.ensures.1 in
    rw (p.1, p.2) (leaves_err ReadLevel (Option ReadLevel) g.B.ByteReader.keeps
    g.B.ByteReader.refuses _ _ _ c.in_err-next.field-0.0 chains
    (chains _ _ _ c.in_ok-directory.ensures.reader
    (chains _ _ _ c.in_ok-channels.ensures.reader c.in_ok-shape.ensures.reader))
    c.in_err-next.ensures.reader)

pub returns-clause-told : goal.returns-clause-told
returns-clause-told g c = λ bytes is.
    let form = c.args.place.form in
    let at = c.args.place.at in
    let same = g.met.B.ByteReader.lawful.same_bytes in
    let directory = c.in_ok-directory.ensures.told bytes is in
    let is-3 = same _ _ c.in_ok-channels.ensures.reader
    ∙ same _ _ c.in_ok-directory.ensures.reader ∙ is in
    let shape = c.in_ok-shape.ensures.told bytes is-3 form at directory.1.entries in
    let next = c.in_ok-next.ensures.told bytes
    (same _ _ c.in_ok-shape.ensures.reader ∙ is-3) form at directory.1 shape.1 in (
      directory_is form bytes at ∙ rw (directory.0, shape.0) next.0,
      sym (half_by form bytes at (shown_shape c.args.first.now) (shown_shape c.args.last.now)
          (seen_shape c.in_ok-shape.shape) shape.1)
          ∙ sym c.is_half.ensures ∙ c.if-not-is_half.false,
      next.1,
    )
