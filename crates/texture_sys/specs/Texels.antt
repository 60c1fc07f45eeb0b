-- What does it leave to fetch a texel of a picture through the cache?
use Rattle.std.specs.Prelude.{◌≡◌}
use Rattle.tex_world.specs.declared.tap.Tap as a_tap
use Rattle.tex_world.specs.declared.tap.TapHandle as a_handle
use Rattle.waiter.specs.declared.waiting.Waiter as a_waiter
use Rattle.tex_world.specs.World.{Files}
use Rattle.texel_filter.specs.Image.{Texel}
use Rattle.tile_source.specs.declared.error.CacheError.{CacheError}
use Rattle.tile_source.specs.Source.{PassTap, pass_tap}
use Rattle.image_cache.specs.Fetches.{Fetches, Refuses}
use Rattle.texture_sys.specs.declared.cached_texels.CachedTexels.{CachedTexels}

module _ {V T Busy W H : Type 0} {v : a_waiter.Ghosts V Busy} {t : a_tap.Ghosts T W H}
    {h : a_handle.Ghosts H W} where
  abbrev pub moment : CachedTexels V T Busy W H v t h → PassTap
  moment r = pass_tap r.pass.now (t.state r.tap.now)

  -- The call has the same cache, picture, pass and tap.
  pub record IsSameCall (old new : CachedTexels V T Busy W H v t h) : Type 0 where
    pub cache : new.cache ≡ old.cache
    pub picture : new.picture ≡ old.picture
    pub pass_name : new.pass.ghost_name ≡ old.pass.ghost_name
    pub tap_name : new.tap.ghost_name ≡ old.tap.ghost_name

  -- A texel of the call's record was fetched.
  pub record FetchesBy (files : Files) (old : CachedTexels V T Busy W H v t h) (texel : Texel)
      (new : CachedTexels V T Busy W H v t h) : Type 0 where
    pub call : IsSameCall old new
    pub left : Fetches files old.cache.now.gate old.picture.now (moment old) texel (moment new)

  -- A texel of the call's record was not fetched, for this error.
  pub record RefusesBy (files : Files) (old : CachedTexels V T Busy W H v t h) (texel : Texel)
      (e : CacheError Busy) (new : CachedTexels V T Busy W H v t h) : Type 0 where
    pub call : IsSameCall old new
    pub left : Refuses files old.cache.now.gate old.picture.now (moment old) texel e (moment new)
