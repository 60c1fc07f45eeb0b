use Rattle.std.proofs.Common.{◌≡◌, pos, ◌*ℤ◌, w64, to_z, of_z, ◌∙◌, ap, arith}
use Rattle.std.proofs.lemmas.Int.{to_z-of_z}
use Rattle.texel_filter.specs.Coordinate.{from_first_edge, unit}
use Rattle.texel_filter.proofs.FineLemmas.{coarse_edge}
use Rattle.texel_filter.proofs.request.TexRequest.fine.Goals as goal

pub returns-clause-across : goal.returns-clause-across
returns-clause-across c = λ n.
    let s = c.args.self.now.s in
    let is : to_z w64 (of_z w64 (to_z w64 (of_z w64 c.from.result) *ℤ pos 65536)) ≡ s *ℤ pos unit =
    grind (arith, to_z-of_z) in
    ap (λ z. from_first_edge z n) is ∙ coarse_edge s n

pub returns-clause-down : goal.returns-clause-down
returns-clause-down c = λ n.
    let t = c.args.self.now.t in
    let is : to_z w64 (of_z w64 (to_z w64 (of_z w64 c.from-2.result) *ℤ pos 65536)) ≡ t *ℤ pos unit =
    grind (arith, to_z-of_z) in
    ap (λ z. from_first_edge z n) is ∙ coarse_edge t n
