-- What do the fetches of a lookup leave, when they follow one another?
use Rattle.std.proofs.Common.{◌≡◌, ◌≤◌, refl, ap, ◌∙◌, inl, inr}
use Rattle.std.proofs.Common.{List, [], ◌∷◌, length, Result, Ok, Err}
use Rattle.std.specs.Prelude.{slice_index_or, IfErr, OnOk}
use Rattle.std.proofs.lemmas.List.Elements.{All-head, All-tail}
use Rattle.tex_world.specs.World.{Files}
use Rattle.tex_world.specs.Tap.{TapState}
use Rattle.gen_board.specs.View.{ViewState}
use Rattle.shard_gate.specs.Gate.{GateState}
use Rattle.tile_store.specs.Tile.{CachedTile}
use Rattle.file_table.specs.Record.{RecordState}
use Rattle.texel_filter.specs.Image.{Texel}
use Rattle.texel_filter.specs.Calls.{EachAnswered, OneRefused, LeftBy}
use Rattle.tile_source.specs.declared.error.CacheError.{CacheError}
use Rattle.tile_source.specs.Pass.{PassState}
use Rattle.tile_source.specs.Texel.{has_cell_at, IsStoredAt}
use Rattle.std.specs.List.{All}
use Rattle.tile_source.specs.Call.{MovesCellAt, CountsOn}
use Rattle.tile_source.specs.declared.error.CacheError.TheVariants as refused
use Rattle.tile_source.specs.Cause.{FetchCause, StepCause}
use Rattle.image_cache.specs.Cause.{LookupRefuses, KeepsRecentAt}
use Rattle.tile_source.specs.Cause.{WantsByOpening}
use Rattle.tile_source.proofs.TexelLemmas.{cause_since, wants_since}
use Rattle.image_cache.proofs.UnreadLemmas.{at_fetch}
use Rattle.image_cache.specs.Fetches.{at_of, Fetches, Refuses}
use Rattle.tile_source.specs.Source.{PassTap}
use Rattle.texture_sys.specs.Needs.{HasCell, HasCells, AsksForEach, AsksForCells}
use Rattle.texture_sys.proofs.Counted.{AreCounts, need_counts, counts_chain, each_counts}
use Rattle.texture_sys.proofs.Counted.{asks_cells}
use Rattle.texture_sys.proofs.MovedCells.{has_moved}
use Rattle.texture_sys.proofs.Stays.{Leaves, leaves_none, leaves_chain}

-- a microcache keeps all cells when one of its tiles is moved
pub still_there : (state : RecordState) (at : Texel) (texels : List Texel) (old new : List CachedTile)
    → MovesCellAt state (at_of at) old new → HasCells state old texels → HasCells state new texels
still_there state at texels old new moved has =
    λ i d lt. has_moved state (at_of at) (at_of (slice_index_or texels i d)) old new moved ∙ has i d lt

module _ (files : Files) (gate : GateState) (state : RecordState) where
  each_leaves : (texels : List Texel) (p q : PassTap) → length p.pass.pinned.recent ≤ 2
      → EachAnswered (Fetches files gate state) p texels q → Leaves gate state.file p q
  each_leaves [] p q few is = leaves_none gate state.file p q few is
  each_leaves (t ∷ texels) p q few (mid, first, rest) =
      leaves_chain gate state.file p mid q
      (record { pass = first.pass; tap = first.tap; visits = first.visits })
      (each_leaves texels mid q first.pass.few rest)

  pub each_asks : (texels : List Texel) (p q : PassTap)
      → EachAnswered (Fetches files gate state) p texels q
      → AsksForEach files state texels p.pass q.pass
  each_asks [] p q is =
      let pass : q.pass ≡ p.pass = ap (λ (x : PassTap). x.pass) is in (
        record {
          needs = ap (λ (x : PassState). x.needs) pass;
          hits = ap (λ (x : PassState). x.hits) pass;
          apart = ap (λ (x : PassState). x.apart) pass;
        },
        ap (λ (x : PassState). x.pinned.recent) pass,
      )
  each_asks (t ∷ texels) p q (mid, first, rest) =
      (mid.pass, first.asks, each_asks texels mid q rest)

  -- if the microcache has all cells, the fetches make no call to the tap
  pub each_warm : (texels : List Texel) (p q : PassTap)
      → HasCells state p.pass.pinned.recent texels → EachAnswered (Fetches files gate state) p texels q
      → q.tap ≡ p.tap
  each_warm [] p q has is = ap (λ (x : PassTap). x.tap) is
  each_warm (t ∷ texels) p q has (mid, first, rest) =
      let warm = first.warm (All-head (HasCell state p.pass.pinned.recent) t texels has) in
      each_warm texels mid q (still_there state t texels p.pass.pinned.recent
      mid.pass.pinned.recent warm.moved
      (All-tail (HasCell state p.pass.pinned.recent) t texels has)) rest
      ∙ warm.tap

  module _ {B : Type 0} where
    one_leaves : (texels : List Texel) (p q : PassTap) (e : CacheError B)
        → OneRefused (Fetches files gate state) (Refuses files gate state) p texels e q
        → Leaves gate state.file p q
    one_leaves [] p q e none = absurd none
    one_leaves (t ∷ texels) p q e (inl is) = record { pass = is.pass; tap = is.tap; visits = is.visits }
    one_leaves (t ∷ texels) p q e (inr (mid, first, rest)) =
        leaves_chain gate state.file p mid q
        (record { pass = first.pass; tap = first.tap; visits = first.visits })
        (one_leaves texels mid q e rest)

    pub one_counts : (texels : List Texel) (p q : PassTap) (e : CacheError B)
        → AreCounts p.pass → OneRefused (Fetches files gate state) (Refuses files gate state) p texels e q
        → CountsOn p.pass q.pass
    one_counts [] p q e are none = absurd none
    one_counts (t ∷ texels) p q e are (inl is) =
        (need_counts (has_cell_at state (at_of t) p.pass.pinned.recent) p.pass q.pass are
        is.need is.apart).on
    one_counts (t ∷ texels) p q e are (inr (mid, first, rest)) =
        let further = need_counts (has_cell_at state (at_of t) p.pass.pinned.recent) p.pass
        mid.pass are first.asks.need first.asks.apart.later in
        counts_chain p.pass mid.pass q.pass further.on
        (one_counts texels mid q e further.are rest)

    pub one_cause : (texels : List Texel) (p q : PassTap) (e : CacheError B)
        → OneRefused (Fetches files gate state) (Refuses files gate state) p texels e q
        → FetchCause files state q.pass.view p.tap q.tap e
    one_cause [] p q e none = absurd none
    one_cause (t ∷ texels) p q e (inl is) = is.cause
    one_cause (t ∷ texels) p q e (inr (mid, first, rest)) =
        cause_since files state q.pass.view p.tap mid.tap q.tap e first.tap
        (one_cause texels mid q e rest)

    -- fetches of stored levels run out of memory only if a file was opened
    one_memory : (texels : List Texel) (p q : PassTap) (e : CacheError B)
        → All (λ texel. IsStoredAt state (at_of texel)) texels
        → OneRefused (Fetches files gate state) (Refuses files gate state) p texels e q
        → WantsByOpening p.tap q.tap e
    one_memory [] p q e stored none = absurd none
    one_memory (t ∷ texels) p q e stored (inl is) =
        is.memory (All-head (λ texel. IsStoredAt state (at_of texel)) t texels stored)
    one_memory (t ∷ texels) p q e stored (inr (mid, first, rest)) =
        wants_since p.tap mid.tap q.tap e first.tap (one_memory texels mid q e
        (All-tail (λ texel. IsStoredAt state (at_of texel)) t texels stored) rest)

    -- no fetch fails if the microcache has all cells
    pub one_cold : (texels : List Texel) (p q : PassTap) (e : CacheError B)
        → HasCells state p.pass.pinned.recent texels
        → OneRefused (Fetches files gate state) (Refuses files gate state) p texels e q → ⊥
    one_cold [] p q e has none = none
    one_cold (t ∷ texels) p q e has (inl is) =
        cc (All-head (HasCell state p.pass.pinned.recent) t texels has, is.cold)
    one_cold (t ∷ texels) p q e has (inr (mid, first, rest)) =
        let warm = first.warm (All-head (HasCell state p.pass.pinned.recent) t texels has) in
        one_cold texels mid q e (still_there state t texels p.pass.pinned.recent
        mid.pass.pinned.recent warm.moved
        (All-tail (HasCell state p.pass.pinned.recent) t texels has)) rest

-- ---- a whole lookup

-- a lookup fails for the reason for which one of its texels was not fetched
lookup_cause : {B : Type 0} (files : Files) (k : RecordState) (view : ViewState) (a b : TapState)
    (e : CacheError B) → FetchCause files k view a b e → StepCause files k view a b LookupRefuses e
lookup_cause files k view a b (refused.Again from to) met = met
lookup_cause files k view a b refused.ReadFault rises = rises
lookup_cause files k view a b refused.NoMemory free = tt
lookup_cause files k view a b (refused.Busy x) free = tt
lookup_cause files k view a b (refused.BadFile g fault) none = absurd none
lookup_cause files k view a b (refused.TileTooLarge g) none = absurd none
lookup_cause files k view a b (refused.NoLevel g levels) none = none
lookup_cause files k view a b (refused.Outside g) none = none
lookup_cause files k view a b refused.RegionTooLarge none = none
lookup_cause files k view a b refused.HoldsFull none = none

module _ {B : Type 0} (files : Files) (gate : GateState) (state : RecordState)
    (texels : List Texel) (p q : PassTap) where
  pub left_leaves : (result : Result (Unit {0}) (CacheError B)) → length p.pass.pinned.recent ≤ 2
      → LeftBy (Fetches files gate state) (Refuses files gate state) p texels q result
      → Leaves gate state.file p q
  left_leaves (Ok done) few left = each_leaves files gate state texels p q few left
  left_leaves (Err e) few left = one_leaves files gate state texels p q e left

  pub left_cause : (result : Result (Unit {0}) (CacheError B))
      → LeftBy (Fetches files gate state) (Refuses files gate state) p texels q result
      → IfErr result (StepCause files state q.pass.view p.tap q.tap LookupRefuses)
  left_cause (Ok done) left = tt
  left_cause (Err e) left =
      lookup_cause files state q.pass.view p.tap q.tap e (one_cause files gate state texels p q e left)

  pub left_memory : (result : Result (Unit {0}) (CacheError B))
      → LeftBy (Fetches files gate state) (Refuses files gate state) p texels q result
      → All (λ texel. IsStoredAt state (at_of texel)) texels
      → IfErr result (WantsByOpening p.tap q.tap)
  left_memory (Ok done) left stored = tt
  left_memory (Err e) left stored = one_memory files gate state texels p q e stored left

  pub left_unread : (result : Result (Unit {0}) (CacheError B))
      → LeftBy (Fetches files gate state) (Refuses files gate state) p texels q result
      → IfErr result (KeepsRecentAt p.pass q.pass)
  left_unread (Ok done) left = tt
  left_unread (Err e) left = at_fetch e p.pass q.pass files state q.pass.view p.tap q.tap
      (one_cause files gate state texels p q e left)

  pub left_counts : (result : Result (Unit {0}) (CacheError B)) → AreCounts p.pass
      → LeftBy (Fetches files gate state) (Refuses files gate state) p texels q result
      → CountsOn p.pass q.pass
  left_counts (Ok done) are left =
      each_counts files state texels p.pass q.pass are (each_asks files gate state texels p q left)
  left_counts (Err e) are left = one_counts files gate state texels p q e are left

  pub left_asks : (result : Result (Unit {0}) (CacheError B)) → AreCounts p.pass
      → LeftBy (Fetches files gate state) (Refuses files gate state) p texels q result
      → OnOk result (AsksForCells files state texels p.pass q.pass)
  left_asks (Ok done) are left =
      asks_cells files state texels p.pass q.pass are (each_asks files gate state texels p q left)
  left_asks (Err e) are left = tt

  pub left_warm : (result : Result (Unit {0}) (CacheError B))
      → LeftBy (Fetches files gate state) (Refuses files gate state) p texels q result
      → HasCells state p.pass.pinned.recent texels → (result ≡ Ok tt) × (q.tap ≡ p.tap)
  left_warm (Ok done) left has = (refl, each_warm files gate state texels p q has left)
  left_warm (Err e) left has = absurd (one_cold files gate state texels p q e has left)
