-- None of the first holds is that of the cell.
use Rattle.std.proofs.Common.{◌≡◌, ℕ, ◌<◌, slice_get, Some, false}
use Rattle.tile_store.specs.Tile.{CachedTile}
use Rattle.pinned_tiles.specs.Cell.{is_tile_of}
use Rattle.tile_source.proofs.pass.Pass.hold_of.Given as goal

abbrev pub invariant-holds : goal.invariant-holds
invariant-holds g l = (k : ℕ) (tile : CachedTile) → k < l.place
    → slice_get l.self.pinned.holds k ≡ Some tile → tile.key ≡ l.cell.key
    → is_tile_of l.cell tile ≡ false
