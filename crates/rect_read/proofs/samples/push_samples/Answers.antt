use Rattle.std.proofs.Common.{◌≡◌, ℕ, ◌+◌, ◌<◌, ◌≤◌, List, ◌++◌, length, map, take, drop}
use Rattle.std.proofs.Common.{slice_index, ap, ◌∙◌, arith, sym}
use Rattle.std.specs.List.{range_with_len}
use Rattle.std.proofs.Math.Seq.{take-append_seam}
use Rattle.std.proofs.lemmas.List.Elements.{All-same}
use Rattle.tiff_format.specs.Texel.{greatest_sample}
use Rattle.piece_samples.specs.Unpacked.{unpacked}
use Rattle.rect_read.proofs.Appended.{is_appended}
use Rattle.rect_read.proofs.SampleValues.{fit_appended}
use Rattle.rect_read.proofs.samples.push_samples.Goals as goal

pub returns-clause-values : goal.returns-clause-values
returns-clause-values c =
    let value : ℕ → ℕ = unpacked c.args.format.now c.args.bytes.now in
    let old = c.args.samples.now.items in
    let new = c.unpack_behind.new.samples in
    let rest = drop (length new) c.resize.new.self.items in
    let all : c.resize.new.self.len ≡ length new = omega arith in
    let long : length new ≡ length old + c.args.count =
    omega (arith, c.in_ok-resize.ensures.len, c.len-old.ensures) in
    let from : c.len-old.result ≡ length old = omega (arith, c.len-old.ensures) in
    ap (λ (n : ℕ). take n (new ++ rest)) all ∙ take-append_seam new rest
    ∙ is_appended old new value c.args.count long
    (λ k lt. c.unpack_behind.ensures.before k (omega arith)
    ∙ ap (λ (r : List ℕ). slice_index r k) c.deref_mut.ensures.value
    ∙ grind (arith, c.in_ok-resize.ensures.items, c.in_ok-reserve.ensures.items))
    (λ k lt. ap (λ (n : ℕ). slice_index new (n + k)) (sym from)
    ∙ c.unpack_behind.ensures.values k (omega arith))

pub returns-clause-low : goal.returns-clause-low
returns-clause-low c = λ fit.
    let format = c.args.format.now in
    let value : ℕ → ℕ = unpacked format c.args.bytes.now in
    let old = c.args.samples.now.items in
    let new = c.unpack_behind.new.samples in
    let long : length new ≡ length old + c.args.count =
    omega (arith, c.in_ok-resize.ensures.len, c.len-old.ensures) in
    All-same (λ sample. sample ≤ greatest_sample format.depth) _
    (old ++ map value (range_with_len 0 c.args.count)) (returns-clause-values c)
    (fit_appended format.depth old value c.args.count fit (λ k lt.
    let below : c.len-old.result + k < length new = omega (arith, c.len-old.ensures, long) in
    rw (← c.unpack_behind.ensures.values k below) (c.unpack_behind.ensures.low k below)))
