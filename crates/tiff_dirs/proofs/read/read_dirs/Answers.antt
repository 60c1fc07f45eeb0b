use Rattle.std.proofs.Common.{[], ◌∷◌, map, Option, Vec, Global, ap, ◌∙◌}
use Rattle.std.proofs.lemmas.Result.{err_from_is_err_and}
use Rattle.std.specs.Option.{option_or}
use Rattle.tiff_format.specs.declared.form.Form.{Form}
use Rattle.tiff_format.specs.declared.dir.Dir.{Dir}
use Rattle.tiff_format.specs.declared.fault.TiffFault.{TiffFault}
use Rattle.tiff_format.specs.Form.{form_of}
use Rattle.tiff_format.specs.DirectoryFault.{first_of, directory_fault}
use Rattle.tiff_format.specs.Fault.{header_fault, data_faults}
use Rattle.tiff_format.specs.Level.{level_place}
use Rattle.tiff_entries.specs.Header.{IsHeader}
use Rattle.tiff_dirs.specs.Chain.{AreAll}
use Rattle.tiff_format.specs.Shown.{shown}
use Rattle.tiff_dirs.proofs.Saying.{tells_err}
use Rattle.tiff_dirs.proofs.FirstLevel.{fault_is}
use Rattle.tiff_dirs.proofs.read.read_dirs.Goals as goal

pub returns-in_err-first-clause-told : goal.returns-in_err-first-clause-told
returns-in_err-first-clause-told g c = λ bytes is.
    let p = err_from_is_err_and c.from_residual.result c.from_residual.ensures.1 in
    let rest = first_of (directory_fault (form_of bytes) bytes (level_place bytes 0)
    ∷ data_faults bytes ∷ []) in
    rw (p.1, p.2) (tells_err (header_fault bytes) bytes (IsHeader bytes)
    c.in_err-first.field-0.0 (c.in_err-first.ensures.told bytes is)
    (λ fault shown-fault. fault_is bytes
    ∙ ap (λ (f : Option TiffFault). option_or f rest) shown-fault))

pub returns-in_err-levels-clause-told : goal.returns-in_err-levels-clause-told
returns-in_err-levels-clause-told g c = λ bytes is.
    let r = c.from_residual-in_err-levels in
    let p = err_from_is_err_and r.result r.ensures.1 in
    let rest = first_of (directory_fault (form_of bytes) bytes (level_place bytes 0)
    ∷ data_faults bytes ∷ []) in
    let h = c.in_ok-first.ensures.told bytes is in
    rw (p.1, p.2) (tells_err rest bytes
    (λ (levels : Vec Dir Global). AreAll bytes (map shown levels.items))
    c.in_err-levels.field-0.0 (c.in_err-levels.ensures.told bytes
    (g.met.B.ByteReader.lawful.same_bytes _ _ c.in_ok-first.ensures.reader ∙ is) h.1)
    (λ fault shown-fault. fault_is bytes
    ∙ ap (λ (f : Option TiffFault). option_or f rest) h.0 ∙ shown-fault))

pub returns-clause-told : goal.returns-clause-told
returns-clause-told g c = λ bytes is.
    let rest = first_of (directory_fault (form_of bytes) bytes (level_place bytes 0)
    ∷ data_faults bytes ∷ []) in
    let h = c.in_ok-first.ensures.told bytes is in
    let levels = c.in_ok-levels.ensures.told bytes
    (g.met.B.ByteReader.lawful.same_bytes _ _ c.in_ok-first.ensures.reader ∙ is) h.1 in (
      fault_is bytes ∙ ap (λ (f : Option TiffFault). option_or f rest) h.0 ∙ levels.0,
      ap (λ (f : Form). f.big) h.1.form,
      levels.1.0,
      levels.1.1,
    )
