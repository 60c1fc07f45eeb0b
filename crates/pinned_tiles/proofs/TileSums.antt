-- What do the numbers of all shards together say of the tiles of a pass? Each tile is of one shard.
use Rattle.std.proofs.Common.{◌≡◌, ℕ, ◌<◌, ◌≤◌, List, [], ◌∷◌, ◌++◌}
use Rattle.std.proofs.Common.{length, get_or, map, refl, arith}
use Rattle.std.proofs.lemmas.List.{length-map}
use Rattle.std.proofs.lemmas.List.Sums.{sum_by-cons, sum_by-append}
use Rattle.std.specs.List.{sum_by}
use Rattle.std.specs.Option.{option_to_list}
use Rattle.tile_store.specs.Tile.{CachedTile}
use Rattle.shard_gate.specs.Gate.{one_of_shard, own_pins}
use Rattle.shard_gate.proofs.ShardSums.{at_least, exactly}
use Rattle.pinned_tiles.specs.Pinned.{PinnedState, key_in, key_sum, tiles_at, tiles_in}
use Rattle.pinned_tiles.proofs.PinnedLemmas.{hand_list}

sum_keys : (f : ℕ → ℕ) (tiles : List CachedTile)
    → sum_by f (map key_in tiles) ≡ key_sum f tiles
sum_keys f [] = refl
sum_keys f (t ∷ tiles) = omega (
  arith,
  sum_by-cons f t.key (map key_in tiles),
  sum_by-cons (λ (tile : CachedTile). f tile.key) t tiles,
  sum_keys f tiles,
)

-- The tiles of a shard are those with a key of it.
keys_at : (shards shard : ℕ) (p : PinnedState)
    → own_pins shards shard (map key_in (tiles_in p)) ≡ tiles_at shards shard p
keys_at shards shard p =
    let f = one_of_shard shards shard in
    let hand = option_to_list p.hand in
    omega (
      arith,
      sum_keys f (tiles_in p),
      sum_by-append (λ (tile : CachedTile). f tile.key) p.holds (p.recent ++ hand),
      sum_by-append (λ (tile : CachedTile). f tile.key) p.recent hand,
      hand_list f p.hand,
    )

module _ {X : Type 0} (f : X → ℕ) (counts : List X) (shards : ℕ) (long : length counts ≡ shards)
    (some : 0 < shards) (p : PinnedState) where
  keys_long : length (map key_in (tiles_in p)) ≡ length (tiles_in p)
  keys_long = length-map {A = CachedTile} {B = ℕ} (tiles_in p) key_in

  -- if the number of each shard is at least that of its tiles, the sum is at least the number of
  -- tiles
  pub at_least_tiles : ((k : ℕ) (d : X) → k < shards → tiles_at shards k p ≤ f (get_or counts k d))
      → length (tiles_in p) ≤ sum_by f counts
  at_least_tiles each = omega (
    arith,
    keys_long,
    at_least shards f (map key_in (tiles_in p)) counts long some
        (λ k d low. omega (arith, keys_at shards k p, each k d low)),
  )

  -- if the number of each shard equals that of its tiles, the sum is the number of tiles
  pub exactly_tiles : ((k : ℕ) (d : X) → k < shards → f (get_or counts k d) ≡ tiles_at shards k p)
      → sum_by f counts ≡ length (tiles_in p)
  exactly_tiles each = omega (
    arith,
    keys_long,
    exactly shards f (map key_in (tiles_in p)) counts long some
        (λ k d low. omega (arith, keys_at shards k p, each k d low)),
  )
