-- What the clauses of each call give of the visits that a seat has made since.
use Rattle.std.proofs.Common.{◌≡◌, ◌≢◌, ℕ, List, [], ◌∷◌, ◌++◌, length, Option, Some, None}
use Rattle.std.proofs.Common.{Result, Ok, Err, OnOk, OnErr, refl, ap, sym, subst, ◌∙◌, append_assoc, option_map}
use Rattle.std.specs.Prelude.{IfOk, IfErr}
use Rattle.std.proofs.lemmas.List.Elements.{All-nil, All-cons, All-append}
use Rattle.tex_world.specs.World.{Files}
use Rattle.tiff_format.specs.declared.shard_count.ShardCount.{ShardCount}
use Rattle.tile_store.specs.Tile.{CachedTile}
use Rattle.tile_store.specs.CachedTile.{EntryState, entry_at}
use Rattle.tile_store.specs.Changes.{pinned_first}
use Rattle.shard_gate.specs.Visit.{Visit, visit, visits_at}
use Rattle.shard_gate.specs.Given.{GivesBack, Finds, Inserts, Releases, Counts}
use Rattle.shard_gate.specs.Given.{AtShard}
use Rattle.shard_gate.specs.Gate.{GateState, PinSeatState, PinState, shard_of, slots_of, IsSameSeat}
use Rattle.shard_gate.specs.Calls.{tile_of, VisitsAt, IfNotPinned, IfNotInserted}
use Rattle.shard_gate.specs.Since.{IsShardOf, IsCallVisit, AddsCalls, PurgesNone, Misses}
use Rattle.shard_gate.specs.Since.IsCallVisit.{looks, pins, inserts, releases}
use Rattle.shard_gate.specs.declared.error.PinError.{PinError}
use Rattle.shard_gate.specs.declared.error.PinError.TheVariants as failed
use Rattle.shard_gate.specs.declared.error.NotPinned.{NotPinned}
use Rattle.shard_gate.specs.declared.error.NotPinned.TheVariants as turned_down
use mathlib.Core.Logic.{dite}
use native.Mathlib.Decide.{ℕ_discrete}

module _ (gate : GateState) where
  -- ---- the visits of one shard

  module _ (shard : ℕ) where
    none_more : (old new : List Visit) → new ≡ old → AddsCalls gate shard old new
    none_more old new same =
        record { added = []; calls = All-nil (IsCallVisit gate shard); left = same }

    -- some, and then some more
    more_after : (old mid new : List Visit) → AddsCalls gate shard old mid
        → AddsCalls gate shard mid new → AddsCalls gate shard old new
    more_after old mid new first second = record {
      added = second.added ++ first.added;
      calls = All-append (IsCallVisit gate shard) second.added first.added second.calls first.calls;
      left = second.left ∙ (ap (λ (l : List Visit). second.added ++ l) first.left
          ∙ sym (append_assoc second.added first.added old));
    }

    -- one visit more
    one_more_visit : (v : Visit) (old new : List Visit) → IsCallVisit gate shard v → new ≡ v ∷ old
        → AddsCalls gate shard old new
    one_more_visit v old new is last = record {
      added = v ∷ [];
      calls = All-cons (IsCallVisit gate shard) v [] is (All-nil (IsCallVisit gate shard));
      left = last;
    }

    adds_given_back : (old new : List Visit) → GivesBack old new → AddsCalls gate shard old new
    adds_given_back old new w =
        one_more_visit _ old new (looks refl) w.left

    adds_found : (key : ℕ) → IsShardOf gate key shard → (tile : Option CachedTile)
        (old new : List Visit) → Finds key tile old new → AddsCalls gate shard old new
    adds_found key at tile old new w = one_more_visit _ old new (pins key at refl) w.left

    adds_inserted : (tile result : CachedTile) → IsShardOf gate tile.key shard
        → (old new : List Visit) → Inserts (slots_of gate.passes) tile result old new
        → AddsCalls gate shard old new
    adds_inserted tile result at old new w = one_more_visit _ old new (inserts tile at refl) w.left

    adds_released : (key : ℕ) → IsShardOf gate key shard → (old new : List Visit)
        → Releases gate.share key old new → AddsCalls gate shard old new
    adds_released key at old new w =
        one_more_visit _ old new (releases key at refl) w.left

    adds_counted : (files : Files) (tag : ℕ) (count : ShardCount) (old new : List Visit)
        → Counts files tag count old new → AddsCalls gate shard old new
    adds_counted files tag count old new w =
        one_more_visit _ old new (looks refl) w.left

  -- ---- those of all shards

  -- If no visit was made, none purges.
  pub purges_none : (old new : PinSeatState) → new.visits ≡ old.visits → PurgesNone gate old new
  purges_none old new same = record {
    each = λ shard. none_more shard _ _ (ap (visits_at shard) same);
  }

  -- What is true of two calls holds of both together.
  pub purges_none_chain : (old mid new : PinSeatState) → PurgesNone gate old mid
      → PurgesNone gate mid new → PurgesNone gate old new
  purges_none_chain old mid new first second = record {
    each = λ shard. more_after shard (visits_at shard old.visits) (visits_at shard mid.visits)
        (visits_at shard new.visits) (first.each shard) (second.each shard);
  }

  -- visits of one shard alone
  at_one : (shard : ℕ) (Changed : List Visit → List Visit → Type 0) (old new : PinSeatState)
      → ((a b : List Visit) → Changed a b → AddsCalls gate shard a b)
      → AtShard shard Changed old.visits new.visits → PurgesNone gate old new
  at_one shard Changed old new adds at = record {
    each = λ k. dite (ℕ_discrete k shard)
        (λ (e : k ≡ shard). subst
        (λ (n : ℕ). AddsCalls gate n (visits_at n old.visits) (visits_at n new.visits)) (sym e)
        (adds _ _ at.here))
        (λ (ne : k ≢ shard). none_more k _ _ (at.others k ne));
  }

  module _ {B : Type 0} (key : ℕ) (old new : PinSeatState) where
    pin_refused : (e : PinError B) → VisitsAt gate key (IfNotPinned e) old new
        → PurgesNone gate old new
    pin_refused failed.NoMemory at =
        at_one _ GivesBack old new (adds_given_back (shard_of (length gate.id) key)) at
    pin_refused (failed.Busy busy) at =
        at_one (shard_of (length gate.id) key) (λ a b. b ≡ a) old new
        (none_more (shard_of (length gate.id) key)) at

    -- a `pin` purges nothing, by its clauses `visits` and `refused`
    pub purges_none_pin : (r : Result (Option PinState) (PinError B))
        → IfOk r (λ found. VisitsAt gate key (Finds key (option_map tile_of found)) old new)
        → IfErr r (λ e. VisitsAt gate key (IfNotPinned e) old new) → PurgesNone gate old new
    purges_none_pin (Ok found) ok err = at_one _ (Finds key (option_map tile_of found)) old new
        (adds_found (shard_of (length gate.id) key) key refl (option_map tile_of found)) ok
    purges_none_pin (Err e) ok err = pin_refused e err

  module _ {W B : Type 0} (tile : CachedTile) (old new : PinSeatState) where
    pin_new_refused : (e : NotPinned W B) → VisitsAt gate tile.key (IfNotInserted e) old new
        → PurgesNone gate old new
    pin_new_refused turned_down.NoMemory at =
        at_one _ GivesBack old new (adds_given_back (shard_of (length gate.id) tile.key)) at
    pin_new_refused (turned_down.Busy back busy) at =
        at_one (shard_of (length gate.id) tile.key) (λ a b. b ≡ a) old new
        (none_more (shard_of (length gate.id) tile.key)) at

    -- a `pin_new` purges nothing, by its clauses `visits` and `refused`
    pub purges_none_pin_new : (r : Result PinState (NotPinned W B))
        → IfOk r (λ pin. VisitsAt gate tile.key
        (Inserts (slots_of gate.passes) tile pin.tile) old new)
        → IfErr r (λ e. VisitsAt gate tile.key (IfNotInserted e) old new)
        → PurgesNone gate old new
    purges_none_pin_new (Ok pin) ok err =
        at_one _ (Inserts (slots_of gate.passes) tile pin.tile) old new
        (adds_inserted (shard_of (length gate.id) tile.key) tile pin.tile refl) ok
    purges_none_pin_new (Err e) ok err = pin_new_refused e err

  -- An `unpin`, by its clauses `visits` and `err`.
  pub purges_none_unpin : {A E : Type 0} (key : ℕ) (old new : PinSeatState) (r : Result A E)
      → OnOk r (VisitsAt gate key (Releases gate.share key) old new)
      → OnErr r (IsSameSeat old new) → PurgesNone gate old new
  purges_none_unpin key old new (Ok a) ok err = at_one _ (Releases gate.share key) old new
      (adds_released (shard_of (length gate.id) key) key refl) ok
  purges_none_unpin key old new (Err e) ok err = purges_none old new err.visits

  -- A `count`, by its clauses `lawful` and `err`.
  pub purges_none_count : {E : Type 0} (files : Files) (tag shard : ℕ) (old new : PinSeatState)
      (r : Result ShardCount E)
      → IfOk r (λ count. AtShard shard (Counts files tag count) old.visits new.visits)
      → OnErr r (IsSameSeat old new) → PurgesNone gate old new
  purges_none_count files tag shard old new (Ok count) ok err =
      at_one _ (Counts files tag count) old new (adds_counted shard files tag count) ok
  purges_none_count files tag shard old new (Err e) ok err = purges_none old new err.visits

  -- ---- a key that was missed

  behind : (later earlier added old mid new : List Visit) (v : Visit) → mid ≡ added ++ old
      → new ≡ (later ++ v ∷ earlier) ++ mid → new ≡ (later ++ v ∷ (earlier ++ added)) ++ old
  behind later earlier added old mid new v first second = second
      ∙ (ap (λ (l : List Visit). (later ++ v ∷ earlier) ++ l) first
      ∙ (sym (append_assoc (later ++ v ∷ earlier) added old)
      ∙ ap (λ (l : List Visit). l ++ old) (append_assoc later (v ∷ earlier) added)))

  before : (later earlier added old mid new : List Visit) (v : Visit)
      → mid ≡ (later ++ v ∷ earlier) ++ old → new ≡ added ++ mid
      → new ≡ ((added ++ later) ++ v ∷ earlier) ++ old
  before later earlier added old mid new v first second = second
      ∙ (ap (λ (l : List Visit). added ++ l) first
      ∙ (sym (append_assoc added (later ++ v ∷ earlier) old)
      ∙ ap (λ (l : List Visit). l ++ old) (sym (append_assoc added later (v ∷ earlier)))))

  no_entry : (entry : Option EntryState) → None ≡ option_map (λ (e : EntryState). e.tile) entry
      → entry ≡ None
  no_entry None same = refl
  no_entry (Some e) same = absurd (cc same)

  -- A `pin` that answers none has missed it.
  pub misses_pin : (key : ℕ) (old new : PinSeatState) → VisitsAt gate key (Finds key None) old new
      → Misses gate key old new
  misses_pin key old new at = record {
    missed = visit at.here.taken at.here.keys (pinned_first key at.here.taken) at.here.keys;
    later = [];
    earlier = [];
    lacks = no_entry (entry_at key at.here.taken) at.here.found;
    left = at.here.left;
  }

  -- a miss is still one after earlier visits
  pub misses_after : (key : ℕ) (old mid new : PinSeatState) → PurgesNone gate old mid
      → Misses gate key mid new → Misses gate key old new
  misses_after key old mid new first second =
      let more = first.each (shard_of (length gate.id) key) in
      record {
        missed = second.missed;
        later = second.later;
        earlier = second.earlier ++ more.added;
        lacks = second.lacks;
        left = behind second.later second.earlier more.added _ _ _ second.missed more.left
            second.left;
      }

  -- a miss is still one after later visits
  pub misses_before : (key : ℕ) (old mid new : PinSeatState) → Misses gate key old mid
      → PurgesNone gate mid new → Misses gate key old new
  misses_before key old mid new first second =
      let more = second.each (shard_of (length gate.id) key) in
      record {
        missed = first.missed;
        later = more.added ++ first.later;
        earlier = first.earlier;
        lacks = first.lacks;
        left = before first.later first.earlier more.added _ _ _ first.missed first.left more.left;
      }
