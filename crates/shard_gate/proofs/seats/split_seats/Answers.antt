-- One more seat has given up a permit.
use Rattle.std.proofs.Common.{◌≡◌, ◌<◌, ◌∷◌, ◌++◌, [], map, length, take, set, get_or, ap, sym, ◌∙◌, arith}
use Rattle.std.proofs.lemmas.List.{map-append, take_more, length-map}
use Rattle.std.proofs.lemmas.List.Edits.{map_over_more}
use Rattle.shard_gate.specs.Seated.{SeatAt, ShardId, kept_seat, new_seat}
use Rattle.shard_gate.proofs.ListLemmas.{mapped_here}
use Rattle.shard_gate.proofs.seats.split_seats.Goals as goal

pub loop-k-preserved : goal.loop-k-preserved
loop-k-preserved g c =
    let k = c.loop-k.k in
    let xs = c.args.seats.now in
    let x = c.index-seats-k.result in
    let low : k < length xs =
    omega (arith, c.loop-k-test.true, length-map {A = SeatAt} {B = ShardId}, ap length c.requires.tables) in
    let old : get_or c.loop-k.seats k x ≡ get_or xs k x =
    ap (λ l. get_or l k x) c.loop-k.invariant.seats ∙ mapped_here kept_seat xs k x in
    let new : c.split.result ≡ new_seat (get_or xs k x) =
    c.split.ensures.new ∙ ap new_seat old in
    record {
      seats = ap (λ s. set c.loop-k.seats k s)
          (c.split.ensures.kept ∙ ap kept_seat (sym c.index-seats-k.is))
          ∙ map_over_more kept_seat xs c.loop-k.seats k x low c.loop-k.invariant.seats
          c.index-seats-k.is;
      others = c.push_reserved.ensures.items
          ∙ ((λ i. c.loop-k.invariant.others i ++ new i ∷ [])
          ∙ sym (ap (map new_seat) (take_more xs k x low)
          ∙ map-append new_seat (take k xs) (get_or xs k x ∷ [])));
      room = omega (arith, c.loop-k.invariant.room, c.push_reserved.ensures.capacity);
    }
