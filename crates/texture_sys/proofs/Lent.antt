-- What do the fetches of a lookup leave of the values that it was lent?
use Rattle.std.proofs.Common.{◌≡◌, ap, subst, ◌∙◌, inl, inr}
use Rattle.std.proofs.Common.{List, [], ◌∷◌, Result, Ok, Err}
use Rattle.texel_filter.specs.Image.{Texel}
use Rattle.texel_filter.specs.Calls.{EachAnswered, OneRefused, LeftBy}
use Rattle.tex_world.specs.declared.tap.Tap as a_tap
use Rattle.tex_world.specs.declared.tap.TapHandle as a_handle
use Rattle.waiter.specs.declared.waiting.Waiter as a_waiter
use Rattle.tex_world.specs.World.{Files}
use Rattle.shard_gate.specs.Gate.{GateState}
use Rattle.file_table.specs.Record.{RecordState}
use Rattle.tile_source.specs.declared.error.CacheError.{CacheError}
use Rattle.texture_sys.specs.declared.cached_texels.CachedTexels.{CachedTexels}
use Rattle.image_cache.specs.Fetches.{Fetches, Refuses}
use Rattle.texture_sys.specs.Texels.{IsSameCall, moment}

module _ {S E X : Type 0} (leaves : S → Texel → S → Type 0)
    (declines : S → Texel → E → S → Type 0) (f : S → X)
    (kept : (a b : S) (t : Texel) → leaves a t b → f b ≡ f a)
    (refused : (a b : S) (t : Texel) (e : E) → declines a t e b → f b ≡ f a) where
  each_same : (texels : List Texel) (a b : S) → EachAnswered leaves a texels b → f b ≡ f a
  each_same [] a b is = ap f is
  each_same (t ∷ texels) a b (mid, first, rest) =
      each_same texels mid b rest ∙ kept a mid t first

  one_same : (texels : List Texel) (a b : S) (e : E) → OneRefused leaves declines a texels e b
      → f b ≡ f a
  one_same [] a b e none = absurd none
  one_same (t ∷ texels) a b e (inl is) = refused a b t e is
  one_same (t ∷ texels) a b e (inr (mid, first, rest)) =
      one_same texels mid b e rest ∙ kept a mid t first

-- what every fetch leaves unchanged, the whole lookup leaves unchanged
pub left_same : {S E X T : Type 0} (b a : S) (texels : List Texel) (result : Result T E)
    (leaves : S → Texel → S → Type 0) (declines : S → Texel → E → S → Type 0)
    → LeftBy leaves declines a texels b result → (f : S → X)
    → ((a b : S) (t : Texel) → leaves a t b → f b ≡ f a)
    → ((a b : S) (t : Texel) (e : E) → declines a t e b → f b ≡ f a) → f b ≡ f a
left_same b a texels (Ok done) leaves declines left f kept refused =
    each_same leaves declines f kept refused texels a b left
left_same b a texels (Err e) leaves declines left f kept refused =
    one_same leaves declines f kept refused texels a b e left

module _ {S K D E : Type 0} (leaves : S → Texel → S → Type 0)
    (declines : S → Texel → E → S → Type 0) (k : S → K) (d : S → D)
    (rel : K → D → Texel → D → Type 0) (dec : K → D → Texel → E → D → Type 0)
    (kept : (a b : S) (t : Texel) → leaves a t b → (k b ≡ k a) × rel (k a) (d a) t (d b))
    (refused : (a b : S) (t : Texel) (e : E) → declines a t e b
    → (k b ≡ k a) × dec (k a) (d a) t e (d b)) where
  each_as : (texels : List Texel) (a b : S) → EachAnswered leaves a texels b
      → EachAnswered (rel (k a)) (d a) texels (d b)
  each_as [] a b is = ap d is
  each_as (t ∷ texels) a b (mid, first, rest) =
      let here = kept a mid t first in (
        d mid,
        here.1,
        subst (λ (x : K). EachAnswered (rel x) (d mid) texels (d b)) here.0
            (each_as texels mid b rest),
      )

  one_as : (texels : List Texel) (a b : S) (e : E) → OneRefused leaves declines a texels e b
      → OneRefused (rel (k a)) (dec (k a)) (d a) texels e (d b)
  one_as [] a b e none = none
  one_as (t ∷ texels) a b e (inl is) = inl (refused a b t e is).1
  one_as (t ∷ texels) a b e (inr (mid, first, rest)) =
      let here = kept a mid t first in
      inr (
        d mid,
        here.1,
        subst
            (λ (x : K). OneRefused (rel x) (dec x) (d mid) texels e (d b)) here.0
            (one_as texels mid b e rest),
      )

-- the fetches of a lookup, in terms of a smaller state that describes the fetch
pub left_as : {S K D E T : Type 0} (b a : S) (texels : List Texel) (result : Result T E)
    (leaves : S → Texel → S → Type 0) (declines : S → Texel → E → S → Type 0)
    → LeftBy leaves declines a texels b result → (k : S → K) (d : S → D)
    (rel : K → D → Texel → D → Type 0) (dec : K → D → Texel → E → D → Type 0)
    → ((a b : S) (t : Texel) → leaves a t b → (k b ≡ k a) × rel (k a) (d a) t (d b))
    → ((a b : S) (t : Texel) (e : E) → declines a t e b
    → (k b ≡ k a) × dec (k a) (d a) t e (d b))
    → LeftBy (rel (k a)) (dec (k a)) (d a) texels (d b) result
left_as b a texels (Ok done) leaves declines left k d rel dec kept refused =
    each_as leaves declines k d rel dec kept refused texels a b left
left_as b a texels (Err e) leaves declines left k d rel dec kept refused =
    one_as leaves declines k d rel dec kept refused texels a b e left

-- ---- a lookup on a record

module _ {V T Busy W H R : Type 0} {v : a_waiter.Ghosts V Busy} {t : a_tap.Ghosts T W H}
    {h : a_handle.Ghosts H W} (files : Files) (b a : CachedTexels V T Busy W H v t h)
    (texels : RecordState → List Texel) (result : Result R (CacheError Busy))
    (leaves : CachedTexels V T Busy W H v t h → Texel → CachedTexels V T Busy W H v t h → Type 0)
    (declines : CachedTexels V T Busy W H v t h → Texel → CacheError Busy
    → CachedTexels V T Busy W H v t h → Type 0)
    (left : LeftBy leaves declines a (texels a.picture.now) b result)
    (kept : (a b : CachedTexels V T Busy W H v t h) (t : Texel) → leaves a t b → IsSameCall a b
    × Fetches files a.cache.now.gate a.picture.now (moment a) t (moment b))
    (refused : (a b : CachedTexels V T Busy W H v t h) (t : Texel) (e : CacheError Busy)
    → declines a t e b → IsSameCall a b
    × Refuses files a.cache.now.gate a.picture.now (moment a) t e (moment b)) where
  same_of : {X : Type 0} (f : CachedTexels V T Busy W H v t h → X)
      → ((a b : CachedTexels V T Busy W H v t h) → IsSameCall a b → f b ≡ f a) → f b ≡ f a
  same_of f each = left_same b a (texels a.picture.now) result leaves declines left f
      (λ x y s p. each x y (kept x y s p).0) (λ x y s e p. each x y (refused x y s e p).0)

  -- the call that follows has the same cache, record, pass and tap
  pub same_after : IsSameCall a b
  same_after = record {
    cache = same_of (λ r. r.cache) (λ x y call. call.cache);
    picture = same_of (λ r. r.picture) (λ x y call. call.picture);
    pass_name = same_of (λ r. r.pass.ghost_name) (λ x y call. call.pass_name);
    tap_name = same_of (λ r. r.tap.ghost_name) (λ x y call. call.tap_name);
  }

  -- the cache's tiles and the record, which do not change
  abbrev Stays : Type 0
  Stays = GateState × RecordState

  abbrev stays_of : CachedTexels V T Busy W H v t h → Stays
  stays_of r = (r.cache.now.gate, r.picture.now)

  stays : (x y : CachedTexels V T Busy W H v t h) → IsSameCall x y → stays_of y ≡ stays_of x
  stays x y call =
      ap (λ (g : GateState). let p : Stays = (g, y.picture.now) in p) (ap (λ k. k.now.gate) call.cache)
      ∙ ap (λ (k : RecordState). let p : Stays = (x.cache.now.gate, k) in p)
      (ap (λ k. k.now) call.picture)

  -- what the lookup leaves, in terms of the pass and the tap
  pub left_known : (k : RecordState) → a.picture.now ≡ k
      → LeftBy (Fetches files a.cache.now.gate k) (Refuses files a.cache.now.gate k)
      (moment a) (texels k) (moment b) result
  left_known k is = subst (λ (x : RecordState). LeftBy (Fetches files a.cache.now.gate x)
      (Refuses files a.cache.now.gate x) (moment a) (texels x) (moment b) result) is
      (left_as b a (texels a.picture.now) result leaves declines left
      stays_of moment (λ (x : Stays). Fetches files x.0 x.1)
      (λ (x : Stays). Refuses files x.0 x.1)
      (λ x y s p. (stays x y (kept x y s p).0, (kept x y s p).1))
      (λ x y s e p. (stays x y (refused x y s e p).0, (refused x y s e p).1)))
