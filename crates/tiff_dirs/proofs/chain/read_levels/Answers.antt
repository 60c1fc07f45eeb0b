use Rattle.std.proofs.Common.{◌≡◌, [], ◌∷◌, length, map, Option, Some, None, Vec, Global}
use Rattle.std.proofs.Common.{refl, sym, ap, ◌∙◌}
use Rattle.std.proofs.lemmas.Result.{err_from_is_err_and}
use Rattle.std.specs.Option.{option_or}
use Rattle.tiff_format.specs.declared.dir.Dir.{Dir}
use Rattle.tiff_format.specs.declared.fault.TiffFault.{TiffFault}
use Rattle.tiff_format.specs.Form.{form_of}
use Rattle.tiff_format.specs.Block.{Level}
use Rattle.tiff_format.specs.DirectoryFault.{first_of, directory_fault}
use Rattle.tiff_format.specs.Level.{level_place}
use Rattle.tiff_format.specs.Fault.{data_faults}
use Rattle.tiff_dirs.specs.ReadLevel.{IsLevelAt}
use Rattle.tiff_dirs.specs.Chain.{AreAll}
use Rattle.tiff_format.specs.Shown.{shown}
use Rattle.tiff_entries.proofs.Saying.{finds_err, leaves_err}
use Rattle.tiff_format.proofs.FirstFault.{or_none}
use Rattle.tiff_dirs.proofs.LevelFaults.{tested_is, faults_at_first}
use Rattle.tiff_dirs.proofs.FirstLevel.{fault_there, first_there, end_there}
use Rattle.tiff_dirs.proofs.chain.read_levels.Goals as goal

pub returns-in_err-first-clause-told : goal.returns-in_err-first-clause-told
returns-in_err-first-clause-told g c = λ bytes is header.
    let p = err_from_is_err_and c.from_residual.result c.from_residual.ensures.1 in
    let place = c.args.place in
    let own = directory_fault (form_of bytes) bytes (level_place bytes 0) in
    rw (p.1, p.2) (finds_err (directory_fault place.form bytes place.at)
    (first_of (own ∷ data_faults bytes ∷ []))
    (IsLevelAt place.form bytes place.at)
    (λ (levels : Vec Dir Global). AreAll bytes (map shown levels.items))
    c.in_err-first.field-0.0 (c.in_err-first.ensures.told bytes is)
    (λ fault shown-fault.
    ap (λ (f : Option TiffFault). option_or f (first_of (data_faults bytes ∷ [])))
    (sym (fault_there bytes place header) ∙ shown-fault)))

pub returns-in_err-dir-clause-told : goal.returns-in_err-dir-clause-told
returns-in_err-dir-clause-told g c = λ bytes is header.
    let lawful = g.met.B.ByteReader.lawful in
    let r = c.from_residual-in_err-dir in
    let p = err_from_is_err_and r.result r.ensures.1 in
    let place = c.args.place in
    let first = c.in_ok-first.ensures.told bytes is in
    let read = c.in_ok-first.first in
    let fault = c.in_err-dir.field-0.0 in
    let own = sym (fault_there bytes place header) ∙ first.0 in
    let long : length bytes ≡ c.len.result =
    lawful.told c.args.b.now bytes is
    ∙ sym (lawful.same_size _ _ c.in_ok-first.ensures.reader) ∙ sym c.len.ensures in
    let there = tested_is bytes 0 c.len.result read (Some fault)
    (end_there bytes place header read first.1).same (first_there bytes place header read first.1)
    long c.in_err-dir.ensures in
    rw (p.1, p.2) (
    ap (λ (f : Option TiffFault). option_or f (first_of (data_faults bytes ∷ []))) own
    ∙ or_none (data_faults bytes) ∙ faults_at_first bytes fault there)

pub returns-in_err-follow-clause-told : goal.returns-in_err-follow-clause-told
returns-in_err-follow-clause-told g c = λ bytes is header.
    let lawful = g.met.B.ByteReader.lawful in
    let r = c.from_residual-in_err-follow in
    let p = err_from_is_err_and r.result r.ensures.1 in
    let place = c.args.place in
    let first = c.in_ok-first.ensures.told bytes is in
    let read = c.in_ok-first.first in
    let own = sym (fault_there bytes place header) ∙ first.0 in
    let end = end_there bytes place header read first.1 in
    let level = first_there bytes place header read first.1 in
    let long : length bytes ≡ c.len.result =
    lawful.told c.args.b.now bytes is
    ∙ sym (lawful.same_size _ _ c.in_ok-first.ensures.reader) ∙ sym c.len.ensures in
    let good = tested_is bytes 0 c.len.result read None end.same level long
    c.in_ok-dir.ensures.0 in
    let items : c.push_reserved.new.self.items ≡ c.in_ok-dir.dir ∷ [] =
    c.push_reserved.ensures.items ∙ rw c.in_ok-levels.ensures.items refl in
    let told = c.in_err-follow.ensures.told bytes
    (lawful.same_bytes _ _ c.in_ok-first.ensures.reader ∙ is)
    (ap (map shown) items
    ∙ ap (λ (l : Level). l ∷ []) (c.in_ok-dir.ensures.1 ∙ level)) good end in
    rw (p.1, p.2) (finds_err (data_faults bytes)
    (first_of (directory_fault (form_of bytes) bytes (level_place bytes 0)
    ∷ data_faults bytes ∷ []))
    (λ (x : Unit {0}). AreAll bytes (map shown c.follow.new.levels.items))
    (λ (levels : Vec Dir Global). AreAll bytes (map shown levels.items))
    c.in_err-follow.field-0.0 told
    (λ fault shown-fault.
    ap (λ (f : Option TiffFault). option_or f (first_of (data_faults bytes ∷ []))) own
    ∙ or_none (data_faults bytes) ∙ shown-fault))

pub returns-in_err-follow-clause-reader : goal.returns-in_err-follow-clause-reader
returns-in_err-follow-clause-reader g c =
    let r = c.from_residual-in_err-follow in
    let p = err_from_is_err_and r.result r.ensures.1 in
    rw (p.1, p.2) (leaves_err (Unit {0}) (Vec Dir Global) g.B.ByteReader.keeps
    g.B.ByteReader.refuses _ _ _ c.in_err-follow.field-0.0 g.met.B.ByteReader.lawful.chains
    c.in_ok-first.ensures.reader c.in_err-follow.ensures.reader)

pub returns-clause-told : goal.returns-clause-told
returns-clause-told g c = λ bytes is header.
    let lawful = g.met.B.ByteReader.lawful in
    let place = c.args.place in
    let first = c.in_ok-first.ensures.told bytes is in
    let read = c.in_ok-first.first in
    let own = sym (fault_there bytes place header) ∙ first.0 in
    let end = end_there bytes place header read first.1 in
    let level = first_there bytes place header read first.1 in
    let long : length bytes ≡ c.len.result =
    lawful.told c.args.b.now bytes is
    ∙ sym (lawful.same_size _ _ c.in_ok-first.ensures.reader) ∙ sym c.len.ensures in
    let good = tested_is bytes 0 c.len.result read None end.same level long
    c.in_ok-dir.ensures.0 in
    let items : c.push_reserved.new.self.items ≡ c.in_ok-dir.dir ∷ [] =
    c.push_reserved.ensures.items ∙ rw c.in_ok-levels.ensures.items refl in
    let told = c.in_ok-follow.ensures.told bytes
    (lawful.same_bytes _ _ c.in_ok-first.ensures.reader ∙ is)
    (ap (map shown) items
    ∙ ap (λ (l : Level). l ∷ []) (c.in_ok-dir.ensures.1 ∙ level)) good end in (
      ap (λ (f : Option TiffFault). option_or f (first_of (data_faults bytes ∷ []))) own
          ∙ or_none (data_faults bytes) ∙ told.0,
      told.1,
    )
