-- What does a call leave that changes the pass of a caller alone?
use Rattle.std.specs.Prelude.{◌≡◌}
use Rattle.image_cache.specs.Caller.{CallerState}

-- Cache and tap are unchanged.
pub record KeepsAllButPass {T : Type 0} (old new : CallerState T) : Type 0 where
  pub cache : new.cache ≡ old.cache
  pub tap : new.tap ≡ old.tap
