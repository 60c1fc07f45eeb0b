use Rattle.std.proofs.Common.{◌≡◌, ℕ, ◌+◌, ◌*◌, None, ◌∙◌, ap}
use Rattle.tiff_format.specs.Form.{count_bytes, entry_bytes, offset_at}
use Rattle.tiff_format.specs.Directory.{next_place}
use Rattle.tiff_format.specs.DirectoryFault.{outside_fault}
use Rattle.tiff_entries.specs.Entries.{AreEntriesAt, IsDirectoryAt}
use Rattle.tiff_entries.proofs.Covering.{has_entries}
use Rattle.tiff_entries.proofs.Saying.{finds_so}
use Rattle.tiff_entries.proofs.Shown.{no_outside}
use Rattle.tiff_entries.proofs.directory.read_directory.Goals as goal

pub returns-clause-told : goal.returns-clause-told
returns-clause-told g c = λ bytes is.
    let form = c.args.place.form in
    let at = c.args.place.at in
    let count = c.in_ok-count.ensures.told bytes is in
    let n = c.in_ok-count.count in
    let first = c.behind.result in
    let end : at + count_bytes form + entry_bytes form * n ≡ next_place form bytes at =
    ap (λ (n : ℕ). at + count_bytes form + entry_bytes form * n) count.1 in
    finds_so None (outside_fault form bytes at)
    (AreEntriesAt first.form bytes first.at n) (IsDirectoryAt form bytes at)
    c.read_entries.result
    (c.read_entries.ensures.told bytes
    (g.met.B.ByteReader.lawful.same_bytes _ _ c.in_ok-count.ensures.reader ∙ is))
    count.0 (λ directory none entries.
    let are = rw (c.behind.ensures.form, c.behind.ensures.at, c.count_bytes.ensures.value) at
    entries in
    record {
      link = record {
        same = are.same;
        inside = no_outside form bytes at count.0;
        next = are.next ∙ ap (offset_at form bytes) end;
      };
      entries = has_entries form bytes at n directory.found.entries count.1 are.covers;
    })
