use Rattle.std.proofs.Common.{◌≡◌, slice_index, ℕ, ◌+◌, ◌*◌, ◌<◌, ◌≤◌, List, length, set, ap, sym}
use Rattle.std.proofs.Common.{◌∙◌, arith}
use Rattle.std.proofs.lemmas.List.{get_or-set_other, get_or-set_same, length-set}
use Rattle.piece_samples.proofs.PlaneWrites.{same_place, place_within}
use Rattle.rect_read.proofs.TakenSamples.{taken_zero, keeps_more}
use Rattle.rect_read.specs.RectSamples.{samples_of}
use Rattle.std.proofs.lemmas.List.Elements.{All-set}
use Rattle.tiff_format.specs.Texel.{greatest_sample}
use Rattle.rect_read.proofs.samples.Samples.place_zero.Goals as goal

pub returns-clause-values : goal.returns-clause-values
returns-clause-values c =
    let p = c.args.self.now.places in
    let q = c.in_ok-places.places in
    let is = c.in_ok-places.ensures in
    let old = samples_of c.args.self.now.values in
    let held : old ≡ c.in-Shorts.values.items = ap samples_of c.in-Shorts.is in
    let mid = c.ready.new.values.items in
    let at = p.done * p.step + p.first in
    let inside : at < length mid =
    place_within p.done p.step p.first q.done q.step (length mid) p.own is.done is.step
    c.in_ok-ready-in-Shorts.ensures.room in
    taken_zero p q old (set mid at 0) c.requires.planar is.step is.first is.done
    (λ k lt.
    get_or-set_other mid at (k * p.step + p.first) 0 0
    (λ e. let same = (same_place k p.done p.step p.first p.first p.own p.own e).0 in omega (arith, same, lt))
    ∙ c.in_ok-ready-in-Shorts.ensures.same (k * p.step + p.first)
    ∙ ap (λ (l : List ℕ). slice_index l (k * p.step + p.first)) (sym held))
    (get_or-set_same mid at 0 0 inside)

pub returns-clause-others : goal.returns-clause-others
returns-clause-others c =
    let p = c.args.self.now.places in
    let is = c.in_ok-places.ensures in
    let mid = c.ready.new.values.items in
    let at = p.done * p.step + p.first in
    let held : samples_of c.args.self.now.values ≡ c.in-Shorts.values.items =
    ap samples_of c.in-Shorts.is in
    keeps_more c.args.self.now _ 1 (sym c.requires.wide) is.step is.first is.done
    (λ room. length-set mid at 0
    ∙ ap length (c.in_ok-ready-in-Shorts.ensures.there (omega (arith, room, ap length held)))
    ∙ ap length (sym held))
    (λ k d below other.
    get_or-set_other mid at (k * p.step + d) 0 0
    (λ e. other (same_place k p.done p.step d p.first below p.own e).1)
    ∙ c.in_ok-ready-in-Shorts.ensures.same (k * p.step + d)
    ∙ ap (λ (l : List ℕ). slice_index l (k * p.step + d)) (sym held))

pub returns-clause-low : goal.returns-clause-low
returns-clause-low c = λ depth fit.
    let p = c.args.self.now.places in
    let ready = c.in_ok-ready-in-Shorts.ensures.low depth
    (rw (ap samples_of c.in-Shorts.is) at fit) in
    All-set (λ sample. sample ≤ greatest_sample depth) c.ready.new.values.items
    (p.done * p.step + p.first) 0 (omega arith) ready
