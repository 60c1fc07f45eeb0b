use Rattle.std.proofs.Common.{◌≡◌, ℕ, ◌+◌, true, false, List, length, map, Option, Some, None, sym}
use Rattle.std.proofs.Common.{ap, ◌∙◌, arith, subst}
use Rattle.std.proofs.lemmas.List.{length-append, length-map}
use Rattle.std.proofs.lemmas.Option.{none-some}
use Rattle.std.proofs.lemmas.Result.{err_from_is_err_and}
use Rattle.tiff_format.specs.declared.form.Form.{Form}
use Rattle.tiff_format.specs.declared.dir.Dir.{Dir}
use Rattle.tiff_dirs.specs.declared.read_level.ReadLevel.{ReadLevel}
use Rattle.tiff_format.specs.Level.{level_place, max_levels}
use Rattle.tiff_format.specs.Fault.{data_faults}
use Rattle.tiff_dirs.specs.NextLevel.{IsNext, is_followed, is_half_of}
use Rattle.tiff_entries.specs.Entries.{IsLinkAt}
use Rattle.tiff_format.specs.Block.{Level}
use Rattle.tiff_dirs.specs.Chain.{AreLevels, AreAll}
use Rattle.tiff_format.specs.Shown.{shown, shown_shape}
use Rattle.tiff_entries.proofs.Saying.{finds_err, leaves_err}
use Rattle.tiff_dirs.proofs.Chaining.{chain_one, chain_next}
use Rattle.tiff_dirs.proofs.Leading.{one_level}
use Rattle.tiff_dirs.proofs.LevelFaults.{tested_is, faults_at, no_faults}
use Rattle.tiff_dirs.proofs.Following.{dir_is, next_form, next_end, next_level_is, next_is_level}
use Rattle.tiff_dirs.proofs.Following.{one_more, no_more, no_further}
use Rattle.tiff_dirs.proofs.chain.follow.Goals as goal

pub loop-last-init : goal.loop-last-init
loop-last-init g c =
    let items = c.args.levels.now.items in
    record {
      long = c.requires.one;
      chain = chain_one (map shown items) (length-map items shown ∙ c.requires.one);
      keeps = g.met.B.ByteReader.lawful.itself c.args.b.now;
      told = λ bytes is levels good end. (one_level bytes (map shown items) levels good, end);
    }

pub returns-in_err-next_level-clause-told : goal.returns-in_err-next_level-clause-told
returns-in_err-next_level-clause-told g c = λ bytes is levels good end.
    let p = err_from_is_err_and c.from_residual.result c.from_residual.ensures.1 in
    let so = c.loop-last.invariant in
    let lawful = g.met.B.ByteReader.lawful in
    let items = c.loop-last.levels.items in
    let k = c.loop-last.last in
    let one = level_place bytes 0 in
    let at = level_place bytes k in
    let now = so.told bytes is levels good end in
    let told = c.in_err-next_level.ensures.told bytes (lawful.same_bytes _ _ so.keeps ∙ is) one at
    (rw now.1.same (dir_is bytes (k + 1) 0 items c.index.result.now now.0 so.long (omega arith)
    c.index.ensures))
    (rw now.1.same (dir_is bytes (k + 1) k items c.index-in-loop-last.result.now now.0 so.long
    (omega arith) c.index-in-loop-last.ensures))
    (subst (λ (f : Form). IsLinkAt f bytes at c.loop-last.next) (sym now.1.same) now.1) in
    rw (p.1, p.2) (finds_err None (data_faults bytes) (IsNext c.loop-last.next.form bytes one at)
    (λ (x : Unit {0}). AreAll bytes (map shown items)) c.in_err-next_level.field-0.0 told
    (λ fault none. absurd (none-some fault none)))

pub returns-in_err-next_level-clause-reader : goal.returns-in_err-next_level-clause-reader
returns-in_err-next_level-clause-reader g c =
    let p = err_from_is_err_and c.from_residual.result c.from_residual.ensures.1 in
    rw (p.1, p.2) (leaves_err (Option ReadLevel) (Unit {0}) g.B.ByteReader.keeps
    g.B.ByteReader.refuses _ _ _ c.in_err-next_level.field-0.0 g.met.B.ByteReader.lawful.chains
    c.loop-last.invariant.keeps c.in_err-next_level.ensures.reader)

pub returns-in-None-clause-told : goal.returns-in-None-clause-told
returns-in-None-clause-told g c = λ bytes is levels good end.
    let so = c.loop-last.invariant in
    let lawful = g.met.B.ByteReader.lawful in
    let items = c.loop-last.levels.items in
    let k = c.loop-last.last in
    let one = level_place bytes 0 in
    let at = level_place bytes k in
    let now = so.told bytes is levels good end in
    let told = c.in_ok-next_level.ensures.told bytes (lawful.same_bytes _ _ so.keeps ∙ is) one at
    (rw now.1.same (dir_is bytes (k + 1) 0 items c.index.result.now now.0 so.long (omega arith)
    c.index.ensures))
    (rw now.1.same (dir_is bytes (k + 1) k items c.index-in-loop-last.result.now now.0 so.long
    (omega arith) c.index-in-loop-last.ensures))
    (subst (λ (f : Form). IsLinkAt f bytes at c.loop-last.next) (sym now.1.same) now.1) in
    let stops = subst (λ (f : Form). is_followed f bytes one at ≡ false) now.1.same
    (rw c.in-None.is at told.1) in
    let all = no_more bytes k (map shown items) (omega (arith, c.loop-last-test.true)) now.0
    stops in
    (no_faults bytes (k + 1) (map shown items) now.0 all, all)

pub returns-in_err-dir-in-Some-clause-told : goal.returns-in_err-dir-in-Some-clause-told
returns-in_err-dir-in-Some-clause-told g c = λ bytes is levels good end.
    let r = c.from_residual-in_err-dir-in-Some in
    let p = err_from_is_err_and r.result r.ensures.1 in
    let so = c.loop-last.invariant in
    let lawful = g.met.B.ByteReader.lawful in
    let items = c.loop-last.levels.items in
    let k = c.loop-last.last in
    let one = level_place bytes 0 in
    let at = level_place bytes k in
    let now = so.told bytes is levels good end in
    let told = c.in_ok-next_level.ensures.told bytes (lawful.same_bytes _ _ so.keeps ∙ is) one at
    (rw now.1.same (dir_is bytes (k + 1) 0 items c.index.result.now now.0 so.long (omega arith)
    c.index.ensures))
    (rw now.1.same (dir_is bytes (k + 1) k items c.index-in-loop-last.result.now now.0 so.long
    (omega arith) c.index-in-loop-last.ensures))
    (subst (λ (f : Form). IsLinkAt f bytes at c.loop-last.next) (sym now.1.same) now.1) in
    let follows = subst (λ (f : Form). IsNext f bytes one at (Some c.in-Some.read)) now.1.same
    (rw c.in-Some.is at told.1) in
    let long : length bytes ≡ c.len.result =
    lawful.told c.args.b.now bytes is ∙ sym (lawful.same_size _ _ so.keeps)
    ∙ sym (lawful.same_size _ _ c.in_ok-next_level.ensures.reader) ∙ sym c.len.ensures in
    let read = c.in-Some.read in
    let fault = c.in_err-dir-in-Some.field-0.0 in
    let there = tested_is bytes (k + 1) c.len.result read (Some fault)
    (next_form bytes k read follows) (next_level_is bytes k read follows) long
    c.in_err-dir-in-Some.ensures in
    rw (p.1, p.2) (faults_at bytes (k + 1) (map shown items) fault
    (omega (arith, c.loop-last-test.true)) now.0
    (next_is_level bytes k read follows (map shown items) now.0) there)

pub returns-in_err-dir-in-Some-clause-reader : goal.returns-in_err-dir-in-Some-clause-reader
returns-in_err-dir-in-Some-clause-reader g c =
    let r = c.from_residual-in_err-dir-in-Some in
    let p = err_from_is_err_and r.result r.ensures.1 in
    rw (p.1, p.2) (g.met.B.ByteReader.lawful.chains _ _ _ c.loop-last.invariant.keeps
    c.in_ok-next_level.ensures.reader)

pub returns-in_err-append-in-Some-clause-reader : goal.returns-in_err-append-in-Some-clause-reader
returns-in_err-append-in-Some-clause-reader g c =
    let r = c.from_residual-in_err-append-in-Some in
    let p = err_from_is_err_and r.result r.ensures.1 in
    rw (p.1, p.2) (g.met.B.ByteReader.lawful.chains _ _ _ c.loop-last.invariant.keeps
    c.in_ok-next_level.ensures.reader)

pub loop-last-preserved : goal.loop-last-preserved
loop-last-preserved g c =
    let so = c.loop-last.invariant in
    let lawful = g.met.B.ByteReader.lawful in
    let items = c.loop-last.levels.items in
    let read = c.in-Some.read in
    let dir = c.in_ok-dir-in-Some.dir in
    let more = c.in_ok-append-in-Some.ensures.ok in
    let same = c.in_ok-dir-in-Some.ensures.1 in
    let half = rw c.in-Some.is at c.in_ok-next_level.ensures.half in
    let dir-half : is_half_of (shown_shape c.index.result.now)
    (shown_shape c.index-in-loop-last.result.now) (shown_shape dir) ≡ true =
    ap (λ (l : Level). is_half_of (shown_shape c.index.result.now)
    (shown_shape c.index-in-loop-last.result.now) l.shape) same ∙ half in
    record {
      long = ap (λ (ds : List Dir). length ds) more
          ∙ omega (arith, so.long, length-append {A = Dir});
      chain = rw more (chain_next items c.loop-last.last c.index.result.now
          c.index-in-loop-last.result.now dir so.chain so.long
          (omega (arith, c.loop-last-test.true)) c.index.ensures c.index-in-loop-last.ensures
          dir-half (rw c.in-Some.is at c.in_ok-next_level.ensures.more));
      keeps = lawful.chains _ _ _ so.keeps c.in_ok-next_level.ensures.reader;
      told = λ bytes is levels good end.
          let k = c.loop-last.last in
          let one = level_place bytes 0 in
          let at = level_place bytes k in
          let now = so.told bytes is levels good end in
          let told = c.in_ok-next_level.ensures.told bytes
          (lawful.same_bytes _ _ so.keeps ∙ is) one at
          (rw now.1.same (dir_is bytes (k + 1) 0 items c.index.result.now now.0 so.long
          (omega arith) c.index.ensures))
          (rw now.1.same (dir_is bytes (k + 1) k items c.index-in-loop-last.result.now now.0 so.long
          (omega arith) c.index-in-loop-last.ensures))
          (subst (λ (f : Form). IsLinkAt f bytes at c.loop-last.next) (sym now.1.same) now.1) in
          let follows = subst (λ (f : Form). IsNext f bytes one at (Some c.in-Some.read)) now.1.same
          (rw c.in-Some.is at told.1) in
          let long : length bytes ≡ c.len.result =
          lawful.told c.args.b.now bytes is ∙ sym (lawful.same_size _ _ so.keeps)
          ∙ sym (lawful.same_size _ _ c.in_ok-next_level.ensures.reader) ∙ sym c.len.ensures in
          let inside-there = tested_is bytes (k + 1) c.len.result read None
          (next_form bytes k read follows) (next_level_is bytes k read follows) long
          c.in_ok-dir-in-Some.ensures.0 in
          rw more (
            one_more bytes k read follows items dir now.0 same inside-there,
            next_end bytes k read follows,
          );
    }

pub returns-clause-told : goal.returns-clause-told
returns-clause-told g c = λ bytes is levels good end.
    let so = c.loop-last.invariant in
    let items = c.loop-last.levels.items in
    let now = so.told bytes is levels good end in
    let all-long : c.loop-last.last + 1 ≡ max_levels =
    omega (arith, c.loop-last-test.false, c.loop-last.auto.last-end) in
    let are = subst (λ (n : ℕ). AreLevels bytes n (map shown items)) all-long now.0 in
    let long : length items ≡ max_levels = so.long ∙ all-long in
    let all = no_further bytes items are long so.chain in
    (no_faults bytes max_levels (map shown items) are all, all)
