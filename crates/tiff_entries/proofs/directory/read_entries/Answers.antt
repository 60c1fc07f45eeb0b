use Rattle.std.proofs.Common.{◌≡◌, ℕ, ◌+◌, ◌*◌, None, arith, refl, ap, ◌∙◌}
use Rattle.std.proofs.lemmas.Option.{none-some}
use Rattle.std.proofs.lemmas.Result.{err_from_is_err_and}
use Rattle.tiff_format.specs.Form.{entry_bytes, offset_at}
use Rattle.tiff_entries.specs.Entries.{AddsBlock, AreEntriesAt}
use Rattle.tiff_entries.proofs.Saying.{finds_err}
use Rattle.tiff_entries.proofs.directory.read_entries.Goals as goal

pub reads-init : goal.reads-init
reads-init g c =
    let first = c.args.first in
    record {
      within = omega arith;
      room = c.in_ok-buffer.ensures.len ∙ c.bytes_of_entries.ensures;
      keeps = g.met.B.ByteReader.lawful.itself c.args.b.now;
      covers = λ bytes is. c.nothing-found.ensures first.form bytes first.at;
    }

pub returns-in_err-at-clause-told : goal.returns-in_err-at-clause-told
returns-in_err-at-clause-told g c = λ bytes is.
    let r = c.from_residual-in_err-at in
    let p = err_from_is_err_and r.result r.ensures.1 in
    let lawful = g.met.B.ByteReader.lawful in
    let first = c.args.first in
    let told = c.in_err-at.ensures.told bytes
    (lawful.same_bytes _ _ c.reads.invariant.keeps ∙ is) in
    rw (p.1, p.2) (finds_err None None
    (AddsBlock c.behind-place.result bytes c.min-more.result c.reads.found.entries
    c.read_block.new.found.entries)
    (AreEntriesAt first.form bytes first.at c.args.count) c.in_err-at.field-0.0 told
    (λ fault none. absurd (none-some fault none)))

pub returns-then-done-count-clause-told : goal.returns-then-done-count-clause-told
returns-then-done-count-clause-told g c = λ bytes is.
    let so = c.reads.invariant in
    let first = c.args.first in
    let size = entry_bytes first.form in
    let done = c.reads.done in
    let more = c.min-more.result in
    let adds = (c.in_ok-at.ensures.told bytes
    (g.met.B.ByteReader.lawful.same_bytes _ _ so.keeps ∙ is)).1 in
    let there : c.behind-place.result.at ≡ first.at + size * done =
    c.behind-place.ensures.at ∙ rw c.entry_bytes.ensures.value refl in
    let covers = rw c.behind-place.ensures.form at (adds.covers first.at done) in
    let behind = rw c.behind-place.ensures.form at adds.behind in
    let all = c.if-done-count.true in
    let product : size * (done + more) ≡ size * c.args.count = ap (λ (n : ℕ). size * n) all in
    let end : c.behind-place.result.at + size * more ≡ first.at + size * c.args.count =
    omega (arith, there, product) in (
      refl,
      record {
        covers = rw all at (covers there (so.covers bytes is));
        same = refl;
        next = behind ∙ ap (offset_at first.form bytes) end;
      },
    )

pub reads-preserved : goal.reads-preserved
reads-preserved g c =
    let so = c.reads.invariant in
    let lawful = g.met.B.ByteReader.lawful in
    let first = c.args.first in
    let done = c.reads.done in
    record {
      within = omega (arith, c.min-more.ensures);
      room = so.room;
      keeps = lawful.chains _ _ _ so.keeps c.in_ok-at.ensures.reader;
      covers = λ bytes is.
          let adds = (c.in_ok-at.ensures.told bytes (lawful.same_bytes _ _ so.keeps ∙ is)).1 in
          let there : c.behind-place.result.at ≡ first.at + entry_bytes first.form * done =
          c.behind-place.ensures.at ∙ rw c.entry_bytes.ensures.value refl in
          let covers = rw c.behind-place.ensures.form at (adds.covers first.at done) in
          covers there (so.covers bytes is);
    }
