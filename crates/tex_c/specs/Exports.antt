-- What do the other C calls leave: making a cache, splitting a pass, supplying?
use denote.RawPtr.{Ptr}
use Rattle.std.specs.Prelude.{◌≡◌, ◌⊎◌, ℕ, ◌<◌, List, length, Option, Some, IsSomeAnd}
use Rattle.std_alloc.specs.Vec.{vec_ptr}
use Rattle.tex_world.specs.World.{max_files}
use Rattle.image_cache.specs.Pass.{IsNewCache, IsFirstPass, IsSecondPass, PassAfterSplit}
use Rattle.tile_source.specs.Pass.{KeepsAllBut, nothing, no_counts}
use Rattle.image_cache.specs.Options.{first_bad_large, opened_as}
use Rattle.image_cache.specs.declared.options.LargeOptions.{LargeOptions}
use Rattle.supplied_client.specs.declared.answer.TexAnswer.{TexAnswer}
use Rattle.supplied_client.specs.declared.bytes.Bytes.{Bytes}
use Rattle.tex_c.specs.declared.options.TexOptions.{TexOptions}
use Rattle.supplied_client.specs.Client.{ClientState, KeepsAllButPass}
use Rattle.supplied_tap.specs.SuppliedTap.{HasNoSupplies}

-- ---- a cache and its passes

-- the cache's options, from those that C wrote
abbrev pub large_of : TexOptions → LargeOptions
large_of o = record {
  options = record {
    budget = o.budget;
    shards = o.shards;
    passes = o.passes;
    handles = o.handles;
    cut = record { autotile = o.autotile; automip = o.automip };
    slots = o.slots;
  };
  tiles_per_shard = o.tiles_per_shard;
}

-- a new cache of `files` files, and its first pass, for which nothing is supplied
pub record IsMade (o : TexOptions) (files : ℕ) (made : ClientState) : Type 0 where
  pub cache : IsNewCache (opened_as (large_of o)) files made.cache
  pub pass : IsFirstPass made.cache made.pass
  pub none : HasNoSupplies made.tap
  pub twice : made.twice ≡ no_counts

-- why no cache was made: too many files, an option out of range, or out of memory
abbrev pub IsNotMade : TexOptions → ℕ → ℕ → TexAnswer → Type 0
IsNotMade o files code answer = ((code ≡ 4) × (max_files < files))
    ⊎ (((code ≡ 2) × (first_bad_large (large_of o) ≡ Some answer.detail)) ⊎ (code ≡ 18))

-- a second pass of the same cache, for which nothing is supplied
pub record IsSplitOff (old second : ClientState) : Type 0 where
  pub cache : second.cache ≡ old.cache
  pub pass : IsSecondPass old.pass second.pass
  pub none : HasNoSupplies second.tap
  pub twice : second.twice ≡ no_counts

-- What a split leaves of the first pass: at most one permit went away.
pub record SaysSplit (code : ℕ) (old new : ClientState) : Type 0 where
  pub rest : KeepsAllButPass old new
  pub ok : code ≡ 0 → PassAfterSplit old.pass new.pass
  pub either : PassAfterSplit old.pass new.pass ⊎ KeepsAllBut nothing old.pass new.pass
  pub cause : ¬ (code ≡ 0) → ((code ≡ 6) × (old.pass.pinned.seat.permits ≡ 1)) ⊎ (code ≡ 18)

-- ---- supplies

-- the buffer has bytes, and `P` holds of them
abbrev pub HasBytes : Option Bytes → (List ℕ → Type 0) → Type 0
HasBytes room P = IsSomeAnd room (λ b. P b.items.items)

-- The buffer has this many bytes, and they begin at this place.
pub record IsLent (size : ℕ) (start : Ptr) (room : Bytes) : Type 0 where
  pub long : length room.items.items ≡ size
  pub at : start ≡ vec_ptr room.items
