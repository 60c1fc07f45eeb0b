use Rattle.std.proofs.Common.{◌≡◌, ℕ, ◌<◌, ◌≤◌, Bool, true, false, length, get_or, take, List}
use Rattle.std.proofs.Common.{[], Vec}
use Rattle.std.proofs.Common.{Global, None, arith, sym, ap, ◌∙◌}
use Rattle.tiff_format.specs.Field.{field_values, entry_value}
use Rattle.tiff_format.specs.Block.{shape_at, blocks_of, offsets_tag}
use Rattle.tiff_dirs.specs.Shape.{seen_shape}
use Rattle.tiff_format.specs.DirectoryFault.{count_fault}
use Rattle.tiff_entries.specs.Entries.{is_shaped}
use Rattle.tiff_dirs.specs.Values.{AreFirstValues}
use Rattle.tiff_entries.proofs.Saying.{finds_so}
use Rattle.tiff_entries.proofs.FieldValues.{absent_values, misshapen_values, shaped_values}
use Rattle.tiff_dirs.proofs.Gathering.{first_is_taken}
use Rattle.tiff_dirs.proofs.Blocks.{tag_is, blocks_are, too_few, enough, no_default}
use Rattle.tiff_dirs.proofs.offsets.read_offsets.Goals as goal

pub returns-in_default-clause-told : goal.returns-in_default-clause-told
returns-in_default-clause-told g c = λ bytes is form at has shape.
    let tag = c.offsets_tag.ensures ∙ tag_is form bytes at (seen_shape c.args.shape.now) shape in
    let kept = rw c.in_default.is at (c.entry.ensures bytes form at has) in
    let none : field_values form bytes at c.offsets_tag.result ≡ [] =
    absent_values form bytes at c.offsets_tag.result kept
    ∙ rw c.offsets_tag.ensures (no_default c.args.shape.now.tile) in
    let zero : length (field_values form bytes at (offsets_tag form bytes at)) ≡ 0 =
    rw (← tag) (ap length none) in
    let blocks = c.blocks-blocks.ensures.count
    ∙ blocks_are form bytes at (seen_shape c.args.shape.now) shape in
    too_few form bytes at (omega (arith, zero, blocks, c.blocks-blocks.ensures.some))

pub returns-then-not-has_shape-clause-told : goal.returns-then-not-has_shape-clause-told
returns-then-not-has_shape-clause-told g c = λ bytes is form at has shape.
    let entry = c.in-Some.entry in
    let tag = c.offsets_tag.ensures ∙ tag_is form bytes at (seen_shape c.args.shape.now) shape in
    let kept = c.in-Some.ensures bytes form at has in
    let long : length bytes ≡ g.B.ByteReader.size c.args.b.now =
    g.met.B.ByteReader.lawful.told c.args.b.now bytes is in
    let shaped = λ (b : Bool) (is-b : c.has_shape.result ≡ b).
    (ap (λ n. is_shaped n entry) (long ∙ sym c.len.ensures)
    ∙ sym c.has_shape.ensures ∙ is-b) in
    let blocks = c.blocks-blocks.ensures.count
    ∙ blocks_are form bytes at (seen_shape c.args.shape.now) shape in
    elim c.then-not-has_shape.branch [
      | goal.then-not-has_shape-via-then-not-has_shape w ↦
          let none = misshapen_values form bytes at c.offsets_tag.result entry kept
          (shaped false w.if-not-has_shape.true) in
          let zero : length (field_values form bytes at (offsets_tag form bytes at)) ≡ 0 =
          rw (← tag) (ap length none) in
          too_few form bytes at (omega (arith, zero, blocks, c.blocks-blocks.ensures.some))
      | goal.then-not-has_shape-via-else-not-has_shape+then-entry-blocks w ↦
          let v = shaped_values form bytes at c.offsets_tag.result entry kept
          (shaped true w.if-not-has_shape.false) in
          let few : length (field_values form bytes at (offsets_tag form bytes at)) ≡ entry.count =
          rw (← tag) v.long in
          too_few form bytes at (omega (arith, few, blocks, w.if-entry-blocks.true))
    ]

pub returns-clause-told : goal.returns-clause-told
returns-clause-told g c = λ bytes is form at has shape.
    let entry = c.in-Some.entry in
    let tag = c.offsets_tag.ensures ∙ tag_is form bytes at (seen_shape c.args.shape.now) shape in
    let kept = c.in-Some.ensures bytes form at has in
    let long : length bytes ≡ g.B.ByteReader.size c.args.b.now =
    g.met.B.ByteReader.lawful.told c.args.b.now bytes is in
    let good : is_shaped (length bytes) entry ≡ true =
    ap (λ n. is_shaped n entry) (long ∙ sym c.len.ensures)
    ∙ sym c.has_shape.ensures ∙ c.if-not-has_shape.false in
    let v = shaped_values form bytes at c.offsets_tag.result entry kept good in
    let all : List ℕ = field_values form bytes at (offsets_tag form bytes at) in
    let n = blocks_of (shape_at form bytes at) in
    let value = entry_value entry.form bytes v.place in
    let blocks : c.blocks-blocks.result ≡ n = c.blocks-blocks.ensures.count
    ∙ blocks_are form bytes at (seen_shape c.args.shape.now) shape in
    let all-long : length all ≡ entry.count = rw (← tag) v.long in
    let le : n ≤ length all =
    omega (arith, all-long, blocks, c.if-entry-blocks.false) in
    let are = λ (i : ℕ) (lt : i < n).
    let there : get_or all i 0 ≡ value i = rw (← tag) (v.each i
    (omega (arith, all-long))) in there in
    finds_so None (count_fault form bytes at)
    (λ (offsets : Vec ℕ Global). AreFirstValues c.blocks-blocks.result value offsets.items)
    (λ (offsets : Vec ℕ Global). offsets.items ≡ take n all)
    c.first_of_entry.result (c.first_of_entry.ensures.told bytes is v.place v.is)
    (enough form bytes at le)
    (λ offsets none first. first_is_taken n value all offsets.items le are (rw blocks at first))
