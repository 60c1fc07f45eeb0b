-- What is true of the fields of a shard?
use Rattle.std.specs.Prelude.{◌≡◌, ℕ, ◌+◌, ◌<◌, ◌^◌, Bool, List, length, IfSome}
use Rattle.std.specs.List.{All}
use Rattle.tile_store.specs.Marks.{HasMark}
use Rattle.tile_store.specs.CachedTile.{Entries, IsEntry, entry_at, pin_sum, loose_bytes}

-- the entry of the key can have one more pin
abbrev pub CanPin : ℕ → Entries → Type 0
CanPin key es = IfSome (entry_at key es) (λ entry. entry.pins + 1 < 2 ^ 32)

-- The numbers are the sums over the entries, and the file of each entry is marked.
pub record IsShard (es : Entries) (marks : List Bool) (pins loose : ℕ) : Type 0 where
  pub pins_is : pins ≡ pin_sum es
  pub loose_is : loose ≡ loose_bytes es
  pub keyed : All IsEntry es
  pub few : length es < 2 ^ 32
  pub noted : All (HasMark marks) es
