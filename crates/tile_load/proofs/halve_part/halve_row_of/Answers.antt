use Rattle.std.proofs.Common.{◌≡◌, ℕ, ◌+◌, ◌*◌, ◌<◌, List, ◌++◌, length, take, drop, slice_index, sym, ap}
use Rattle.std.proofs.Common.{◌∙◌, subst, arith}
use Rattle.std.proofs.Math.Seq.{take-append_seam}
use Rattle.std.proofs.lemmas.List.{get_or-take, length-take-le}
use Rattle.std.proofs.lemmas.Nat.{mul-add-lt}
use Rattle.tiff_format.specs.Level.{halved}
use Rattle.rect_read.specs.declared.texels.RectSamples.{RectSamples}
use Rattle.rect_read.specs.RectSamples.{samples_of}
use Rattle.tile_store.specs.SampleRow.{top_of, bottom_of}
use Rattle.tile_load.specs.CellSamples.{most_of, PutsRow}
use Rattle.tile_load.specs.PartPlace.{HalvesRows}
use Rattle.tile_load.proofs.PartRows.{rows_average, row_written, row_narrowed}
use Rattle.tile_load.proofs.halve_part.halve_row_of.Goals as goal

pub overflow_add-top : goal.overflow_add-top
overflow_add-top g c =
    let down = c.args.place.now.known.part_down in
    let high = c.args.place.now.known.high in
    omega (arith, c.min.ensures)

pub overflow_add-bottom : goal.overflow_add-bottom
overflow_add-bottom g c =
    let down = c.args.place.now.known.part_down in
    let high = c.args.place.now.known.high in
    omega (arith, c.min-2.ensures)

-- a list of the same length that was written over the whole of another
whole : (old new : List ℕ) (n : ℕ) → n ≡ length new
    → take n (new ++ drop (length new) old) ≡ new
whole old new n is =
    let rest = drop (length new) old in
    ap (λ (k : ℕ). take k (new ++ rest)) is ∙ take-append_seam new rest

pub returns-in-Bytes-clause-halves : goal.returns-in-Bytes-clause-halves
returns-in-Bytes-clause-halves g c =
    let place = c.args.place.now in
    let part = place.part in
    let n = place.channels in
    let j = c.args.j in
    let tile = c.args.tile.now in
    let rows = c.two_rows-rows.result in
    let scratch = c.halve_row_at.new.out in
    let size = c.row_samples.result in
    let row = take size scratch in
    let bytes = c.in-Bytes.bytes in
    let new = c.put_row.new.out in
    let fits = c.row_samples.ensures.inside in
    let room = c.requires.room in
    let long = c.halve_row_at.ensures.long in
    let count : length row ≡ halved part.w * n =
    length-take-le size scratch (omega (arith, fits, room, long)) ∙ c.row_samples.ensures.value in
    let puts : PutsRow row c.start-start.result bytes.items new =
    subst (λ (xs : List ℕ). PutsRow row c.start-start.result xs new) c.deref_mut.ensures.value
    c.put_row.ensures in
    let halves : HalvesRows part place.cell n tile.texels 255 j (j + 1) bytes.items new =
    row_narrowed part place.cell n place.known tile.texels 255 j row bytes.items new (omega arith)
    count (rw c.start-start.ensures.value at puts)
    (λ i k across channel.
    let below : i * n + k < size =
    omega (arith, c.row_samples.ensures.value, mul-add-lt i n k (halved part.w) across channel) in
    let at : i * n + k ≡ 0 + (i * n + k) = omega arith in
    get_or-take size scratch (i * n + k) 0 below ∙ ap (slice_index scratch) at
    ∙ c.halve_row_at.ensures.each i k across channel
    ∙ rows_average tile part n j c.min.result c.min-2.result (top_of rows) (bottom_of rows)
    place.known.wide c.requires.part c.requires.channels c.min.ensures c.min-2.ensures
    c.two_rows-rows.ensures.top c.two_rows-rows.ensures.bottom i k channel) in
    let same = halves.long in
    let all : bytes.len ≡ length new = omega (arith, same) in
    subst (λ (s : RectSamples). HalvesRows part place.cell n tile.texels (most_of s) j (j + 1)
    (samples_of s) (take bytes.len (new ++ drop (length new) bytes.items))) (sym c.in-Bytes.is)
    (subst (λ (xs : List ℕ). HalvesRows part place.cell n tile.texels 255 j (j + 1) bytes.items xs)
    (sym (whole bytes.items new bytes.len all)) halves)

pub returns-in-Shorts-clause-halves : goal.returns-in-Shorts-clause-halves
returns-in-Shorts-clause-halves g c =
    let place = c.args.place.now in
    let part = place.part in
    let n = place.channels in
    let j = c.args.j in
    let tile = c.args.tile.now in
    let rows = c.two_rows-rows.result in
    let shorts = c.in-Shorts.shorts in
    let new = c.halve_row_at-in-Shorts.new.out in
    let start = c.start-start.ensures.value in
    let is = c.halve_row_at-in-Shorts.ensures in
    let old_is = c.deref_mut-in-Shorts.ensures.value in
    let halves : HalvesRows part place.cell n tile.texels 65535 j (j + 1) shorts.items new =
    subst (λ (xs : List ℕ). HalvesRows part place.cell n tile.texels 65535 j (j + 1) xs new) old_is
    (row_written part place.cell n place.known tile.texels 65535 j
    c.deref_mut-in-Shorts.result.now new is.long
    (rw start at is.before)
    (λ i k across channel low.
    rw start at (is.each i k across channel)
    ∙ rows_average tile part n j c.min.result c.min-2.result (top_of rows) (bottom_of rows)
    place.known.wide c.requires.part c.requires.channels c.min.ensures c.min-2.ensures
    c.two_rows-rows.ensures.top c.two_rows-rows.ensures.bottom i k channel)
    (rw start at is.behind)) in
    let same = halves.long in
    let all : shorts.len ≡ length new = omega (arith, same) in
    subst (λ (s : RectSamples). HalvesRows part place.cell n tile.texels (most_of s) j (j + 1)
    (samples_of s) (take shorts.len (new ++ drop (length new) shorts.items))) (sym c.in-Shorts.is)
    (subst (λ (xs : List ℕ). HalvesRows part place.cell n tile.texels 65535 j (j + 1) shorts.items xs)
    (sym (whole shorts.items new shorts.len all)) halves)
