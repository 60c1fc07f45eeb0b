-- How do contracts see the idle handles, and what do calls change of them?
use Rattle.std.specs.Prelude.{◌≡◌, ℕ, ◌<◌, nat_eq, List, Contains}
use Rattle.std.specs.Prelude.{Option, Some, IsSomeAnd, option_map}
use Rattle.std.specs.Map.{lookup, remove_entry}
use Rattle.lru.specs.LruCache.{LruCache, put_entries, displaced}
use Rattle.tex_world.specs.Tap.{Named}

-- each handle is filed under the number of its file
abbrev pub AreOwn : {H : Type 0} → (H → Named) → List (ℕ × H) → Type 0
AreOwn {H} named entries = (e : ℕ × H) → Contains entries e → (named e.1).file ≡ e.0

-- the idle handle of this file is newer than this generation
abbrev pub HasNewer : {H : Type 0} → (H → Named) → List (ℕ × H) → ℕ → ℕ → Type 0
HasNewer named entries file generation =
    IsSomeAnd (lookup (nat_eq file) entries) (λ h. generation < (named h).generation)

-- The handle of the file, if there is one, is taken out; all others stay.
pub record IsLeft {H : Type 0} (file : ℕ) (old new : LruCache ℕ H) (taken : Option H)
    : Type 0 where
  pub value : taken ≡ lookup (nat_eq file) old.entries
  pub entries : new.entries ≡ remove_entry (nat_eq file) old.entries
  pub cap : new.cap ≡ old.cap

-- The handle is now the idle one of its file, in front of all others. Returned is the handle that
-- it replaced, or the last one if the limit was reached.
pub record TakesHandle {H : Type 0} (file : ℕ) (handle : H) (old new : LruCache ℕ H) (out : Option H)
    : Type 0 where
  pub entries : new.entries ≡ put_entries nat_eq old file handle
  pub back : out ≡ option_map (λ e. e.1) (displaced nat_eq old file handle)
  pub cap : new.cap ≡ old.cap

-- The handle itself is returned; all others stay.
pub record Declines {H : Type 0} (handle : H) (old new : LruCache ℕ H) (out : Option H)
    : Type 0 where
  pub back : out ≡ Some handle
  pub same : new ≡ old
