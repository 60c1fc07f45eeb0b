-- Which options may a cache have?
use Rattle.std.specs.Prelude.{◌≡◌, ℕ, ◌+◌, ◌-◌, ◌/◌, ◌%◌, ◌^◌, ◌==◌, ◌&&◌, ◌≤◌, max, nat_le, Bool}
use Rattle.std.specs.Prelude.{Option, Some, None, if◌then◌else◌}
use Rattle.tiff_format.specs.Cut.{autotile_step, max_autotile}
use Rattle.shard_gate.specs.Gate.{max_budget, max_shards, max_pins, more_slots, AreLimits}
use Rattle.image_cache.specs.declared.options.Options.{Options}
use Rattle.image_cache.specs.declared.options.LargeOptions.{LargeOptions}
use Rattle.image_cache.specs.declared.options.NewError.{NewError}
use Rattle.image_cache.specs.declared.options.NewError.TheVariants as new

-- the greatest budget of `Cache::new`, in bytes; `Cache::new_large` has the gate's
abbrev pub usual_budget : ℕ
usual_budget = 2 ^ 32

-- the greatest number of passes of `Cache::new`
abbrev pub usual_passes : ℕ
usual_passes = 16

-- the greatest number of passes of `Cache::new_large`
abbrev pub many_passes : ℕ
many_passes = 1024

-- the greatest number of idle handles
abbrev pub max_handles : ℕ
max_handles = 1024

-- the greatest number of slots for parts of rows
abbrev pub max_slots : ℕ
max_slots = 65536

-- the greatest number of tiles that a shard can be asked to keep
abbrev pub max_tiles_per_shard : ℕ
max_tiles_per_shard = 65536

-- the number is at least 1 and at most this
abbrev pub is_from_one_to : ℕ → ℕ → Bool
is_from_one_to most n = nat_le 1 n && nat_le n most

-- the number is 0, or a multiple of 16 up to 4096
abbrev pub is_autotile : ℕ → Bool
is_autotile side = nat_le side max_autotile && side % autotile_step == 0

-- The number of the first option that is out of range, with these limits of the budget and of the
-- passes: 1 budget, 2 shards, 3 passes, 4 handles, 5 autotile, 6 slots.
abbrev pub first_bad_within : ℕ → ℕ → Options → Option ℕ
first_bad_within budget passes o =
    if nat_le o.budget budget then
    if is_from_one_to max_shards o.shards then
    if is_from_one_to passes o.passes then
    if is_from_one_to max_handles o.handles then
    if is_autotile o.cut.autotile then
    if nat_le o.slots max_slots then None
    else Some 6 else Some 5 else Some 4 else Some 3 else Some 2 else Some 1

-- the number of the first option that `Cache::new` does not accept
abbrev pub first_bad : Options → Option ℕ
first_bad o = first_bad_within usual_budget usual_passes o

-- the first of both numbers that is there
abbrev pub or_else : Option ℕ → Option ℕ → Option ℕ
or_else None other = other
or_else (Some k) other = Some k

-- The number of the first option that `Cache::new_large` does not accept; 7 is `tiles_per_shard`.
abbrev pub first_bad_large : LargeOptions → Option ℕ
first_bad_large l = or_else (first_bad_within max_budget many_passes l.options)
    (if nat_le l.tiles_per_shard max_tiles_per_shard then None else Some 7)

-- The permits of a large cache: one for each pass, or as many as give its shards enough slots.
abbrev pub permits_of : LargeOptions → ℕ
permits_of l =
    max l.options.passes ((l.tiles_per_shard - more_slots + (max_pins - 1)) / max_pins)

-- the options with which the parts of a large cache are made
abbrev pub opened_as : LargeOptions → Options
opened_as l = record l.options { passes = permits_of l }

-- The parts of a cache can be made with these options.
pub record IsWithin (o : Options) : Type 0 where
  pub gate : AreLimits o.budget o.shards o.passes o.cut
  pub handles : 1 ≤ o.handles
  pub slots : o.slots ≤ max_slots

-- why no cache was made, if this was the first bad option
abbrev pub CauseOf : Option ℕ → NewError → Type 0
CauseOf bad (new.BadOptions k) = bad ≡ Some k
CauseOf bad new.NoMemory = bad ≡ None

-- why `Cache::new` made no cache
abbrev pub NewCause : Options → NewError → Type 0
NewCause o e = CauseOf (first_bad o) e

-- why `Cache::new_large` made no cache
abbrev pub LargeCause : LargeOptions → NewError → Type 0
LargeCause l e = CauseOf (first_bad_large l) e
