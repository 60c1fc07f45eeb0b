use Rattle.std.proofs.Common.{ℕ, ◌+◌, ◌*◌, ◌<◌, ◌≤◌, length, below_more}
use Rattle.std.proofs.Common.{◌∙◌, arith}
use Rattle.std.proofs.Math.Nat.{mul-le-mul_right}
use Rattle.std.proofs.lemmas.List.{get_or-set_other, get_or-set_same}
use Rattle.std.proofs.lemmas.List.Elements.{All-set}
use Rattle.tiff_format.specs.Texel.{greatest_sample}
use Rattle.piece_samples.proofs.PlaneWrites.{same_place}
use Rattle.piece_samples.proofs.samples.clear_to.Goals as goal

-- the place of one more is there
inside : (done count k step first room : ℕ) → first < step → k < count
    → (done + count) * step ≤ room → (done + k) * step + first < room
inside done count k step first room own lt fits =
    let more : (done + k + 1) * step ≤ (done + count) * step = mul-le-mul_right step (omega arith) in
    omega (arith, more, own, fits)

pub loop-k-preserved : goal.loop-k-preserved
loop-k-preserved c =
    let p = c.args.places.now in
    let before = c.loop-k.invariant in
    let xs = c.loop-k.samples in
    let at = (p.done + c.loop-k.k) * p.step + p.first in
    record {
      before = λ j lt.
          get_or-set_other xs at (j * p.step + p.first) 0 0
          (λ e. let same = (same_place j (p.done + c.loop-k.k) p.step p.first p.first p.own p.own e).0
          in omega (arith, same, lt))
          ∙ before.before j lt;
      zeros = below_more _ _
          (λ j lt.
          get_or-set_other xs at ((p.done + j) * p.step + p.first) 0 0
          (λ e. let same = (same_place (p.done + j) (p.done + c.loop-k.k) p.step p.first p.first p.own
          p.own e).0 in omega (arith, same, lt))
          ∙ before.zeros j lt)
          (get_or-set_same xs at 0 0 (inside p.done c.args.count c.loop-k.k p.step p.first (length xs)
          p.own (omega arith) (omega (arith, c.requires))));
      others = λ j d below other.
          get_or-set_other xs at (j * p.step + d) 0 0
          (λ e. other (same_place j (p.done + c.loop-k.k) p.step d p.first below p.own e).1)
          ∙ before.others j d below other;
      low = λ depth fit.
          All-set (λ s. s ≤ greatest_sample depth) xs at 0 (omega arith) (before.low depth fit);
    }
