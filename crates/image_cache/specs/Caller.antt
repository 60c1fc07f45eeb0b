-- How do contracts see a caller of a cache, and a call that it makes?
use Rattle.std.specs.Prelude.{ℕ}
use Rattle.tex_world.specs.World.{Files}
use Rattle.tex_world.specs.Tap.{TapState}
use Rattle.tile_source.specs.Pass.{CacheState, PassState}
use Rattle.image_cache.specs.Cause.{Around, around}

-- A caller, as contracts see it. `T` is the type of its tap.
pub record CallerState (T : Type 0) : Type 0 where
  pub cache : CacheState
  pub pass : PassState
  pub tap : T

abbrev pub caller_state : {T : Type 0} → CacheState → PassState → T → CallerState T
caller_state cache pass tap = record { cache = cache; pass = pass; tap = tap }

-- A call: the world, and the caller before and after it, with the counts of its tap.
pub record Call : Type 0 where
  pub files : Files
  pub old : CallerState TapState
  pub new : CallerState TapState

-- the call that leads from one state of a caller to another; `state` gives the counts of a tap
abbrev pub call : {T : Type 0} → Files → (T → TapState) → CallerState T → CallerState T → Call
call files state old new = record {
  files = files;
  old = caller_state old.cache old.pass (state old.tap);
  new = caller_state new.cache new.pass (state new.tap);
}

-- the call on a file, as the causes of image_cache see it
abbrev pub around_file : ℕ → Call → Around
around_file file c =
    around c.files file c.old.cache.gate.cut c.old.pass c.new.pass c.old.tap c.new.tap
