-- The first seat of a new gate.
use Rattle.std.proofs.Common.{◌≡◌, ℕ, List, length, map, subst, refl, sym, ap, arith}
use Rattle.std.specs.List.{All}
use Rattle.std.proofs.lemmas.List.{length-map}
use Rattle.tiff_format.specs.declared.cut.Cut.{Cut}
use Rattle.shard_gate.specs.Seated.{ShardId, SeatAt, IsMadeBy, first_seat}
use Rattle.shard_gate.specs.Gate.{AreLimits, IsFirstSeat}
use Rattle.shard_gate.specs.Kept.{IsPinSeat, gate_state, seat_state}
use Rattle.shard_gate.proofs.SeatLemmas.{first_parts, first_shards, first_keys, first_visits}
use Rattle.shard_gate.proofs.SeatLemmas.{first_joined, none_placed}

module _ (tables : List ShardId) (seats : List SeatAt) (passes : ℕ)
    (each : seats ≡ map first_seat tables) where
  pub first_kept : (budget shards tag : ℕ) (cut : Cut) → AreLimits budget shards passes cut
      → All (IsMadeBy tag passes) tables → length tables ≡ shards → IsPinSeat seats passes
  first_kept budget shards tag cut limits made count =
      subst (λ (l : List SeatAt). IsPinSeat l passes) (sym each)
      (record {
        parts = first_parts tables tag passes made limits.passes_high;
        some = omega (arith, count, limits.shards_low, length-map {A = ShardId} {B = SeatAt});
        least = limits.passes_low;
        few = omega (arith, ap length (first_keys tables));
        placed = none_placed (map first_seat tables) (first_keys tables);
      })

  pub first_seat_is : (share : ℕ) (cut : Cut)
      → IsFirstSeat (gate_state tables share cut passes) (seat_state seats passes)
  first_seat_is share cut = subst
      (λ (l : List SeatAt). IsFirstSeat (gate_state tables share cut passes) (seat_state l passes))
      (sym each)
      (record {
        gate = first_shards tables;
        permits = refl;
        pins = first_keys tables;
        visits = first_visits tables;
        joined = first_joined tables;
      })
