use Rattle.std.proofs.Common.{◌≡◌, ℕ, ◌+◌, ◌*◌, ◌++◌, List, length, take, drop, slice_index, ap, sym, ◌∙◌, arith}
use Rattle.std.proofs.Math.Seq.{take-append_seam}
use Rattle.rect_read.specs.Taken.{taken_by}
use Rattle.piece_samples.specs.Unpacked.{unpacked}
use Rattle.rect_read.specs.RectSamples.{samples_of}
use Rattle.rect_read.proofs.TakenSamples.{taken_more}
use Rattle.rect_read.proofs.samples.Samples.place.Goals as goal

pub returns-clause-values : goal.returns-clause-values
returns-clause-values c =
    let p = c.args.self.now.places in
    let q = c.in_ok-places.places in
    let is = c.in_ok-places.ensures in
    let held : samples_of c.args.self.now.values ≡ c.in-Shorts.values.items =
    ap samples_of c.in-Shorts.is in
    let new = c.unpack_among.new.samples in
    let rest = drop (length new) c.ready.new.values.items in
    let all : c.ready.new.values.len ≡ length new = omega arith in
    ap (λ (n : ℕ). taken_by q (take n (new ++ rest))) all
    ∙ ap (λ (l : List ℕ). taken_by q l) (take-append_seam new rest)
    ∙ taken_more p q (samples_of c.args.self.now.values) new c.args.count
    (unpacked c.args.format.now c.args.bytes.now) c.requires.planar is.step is.first is.done
    (λ k lt.
    c.unpack_among.ensures.before k lt
    ∙ ap (λ (l : List ℕ). slice_index l (k * p.step + p.first)) c.deref_mut.ensures.value
    ∙ c.in_ok-ready-in-Shorts.ensures.same (k * p.step + p.first)
    ∙ ap (λ (l : List ℕ). slice_index l (k * p.step + p.first)) (sym held))
    c.unpack_among.ensures.values

pub returns-clause-low : goal.returns-clause-low
returns-clause-low c = λ fit.
    let format = c.args.format.now in
    let new = c.unpack_among.new.samples in
    let rest = drop (length new) c.ready.new.values.items in
    let all : c.ready.new.values.len ≡ length new = omega arith in
    let is = ap (λ (n : ℕ). take n (new ++ rest)) all ∙ take-append_seam new rest in
    let ready = c.in_ok-ready-in-Shorts.ensures.low format.depth
    (rw (ap samples_of c.in-Shorts.is) at fit) in
    rw is (c.unpack_among.ensures.low (rw c.deref_mut.ensures.value ready))
