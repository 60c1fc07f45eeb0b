-- What do the steps of a call by a record leave, one after another?
use Rattle.std.proofs.Common.{◌≡◌, ◌⊎◌, ℕ, ◌≤◌, ◌∙◌, refl, sym, ap, subst, arith, inl, inr}
use Rattle.std.proofs.Common.{length, Option, None, Some, Result, Ok, Err}
use Rattle.std.specs.Prelude.{IfSome, ⊤, slice_index}
use Rattle.std.specs.Result.{IsErrAnd}
use Rattle.tex_world.specs.declared.tap.Tap as a_tap
use Rattle.tex_world.specs.declared.tap.TapHandle as a_handle
use Rattle.waiter.specs.declared.waiting.Waiter as a_waiter
use Rattle.tex_world.specs.World.{Files}
use Rattle.tex_world.specs.Tap.{TapState}
use Rattle.gen_board.specs.View.{ViewState, KeepsLooks}
use Rattle.shard_gate.specs.Gate.{GateState, PinSeatState}
use Rattle.shard_gate.specs.Since.{PurgesNone, Misses}
use Rattle.shard_gate.proofs.SinceLemmas.{purges_none_chain, misses_before}
use Rattle.file_table.specs.Calls.{KeepsView}
use Rattle.file_table.specs.Record.{RecordState}
use Rattle.pinned_tiles.specs.Pinned.{PinnedState}
use Rattle.tile_source.specs.declared.error.CacheError.{CacheError}
use Rattle.tile_source.specs.declared.error.CacheError.TheVariants as refused
use Rattle.tile_source.specs.declared.source.TileSource.{TileSource}
use Rattle.tile_source.specs.Pass.{PassState, SamePlace, SameCounts}
use Rattle.tile_source.specs.Call.{NoneFalls}
use Rattle.tile_source.specs.Cause.{FetchCause}
use Rattle.tile_source.specs.Source.{MeetsOnlyAgain, PassTap, StepsAt, ReadsAt, ReadsOn, moment}
use Rattle.tile_source.specs.Source.{IsSameCall, Steps, Makes, Brings, Reads, IsCold, refusal}
use Rattle.tile_source.proofs.StepLemmas.{after_chain, after_none, none_fell, none_falls_chain}
use Rattle.tile_source.proofs.StepLemmas.{hand_chain, looks_same}
use Rattle.tile_source.proofs.MakingLemmas.{cause_before}
use Rattle.tile_source.proofs.VisitLemmas.{visits_same}

-- ---- errors

moves_then : {B : Type 0} (a b c : TapState) (refused : Option (CacheError B))
    → b.moves ≡ a.moves → MeetsOnlyAgain refused b c → MeetsOnlyAgain refused a c
moves_then a b c None first later = later ∙ first
moves_then a b c (Some e) first later = λ none. later none ∙ first

cause_then : {B : Type 0} (files : Files) (r : RecordState) (view : ViewState)
    (a b c : TapState) (refused : Option (CacheError B)) → NoneFalls a b
    → IfSome refused (FetchCause files r view b c) → IfSome refused (FetchCause files r view a c)
cause_then files r view a b c None falls cause = tt
cause_then files r view a b c (Some e) falls cause = cause_before files r view a b c e falls cause

-- what `?` answers
pub refused_by : {A E : Type 0} (result : Result A E) (e : E) → IsErrAnd result (λ x. x ≡ e)
    → refusal result ≡ Some e
refused_by (Ok x) e is = absurd is
refused_by (Err x) e is = ap (λ y. Some y) is

-- no error
abbrev pub none_of : (B : Type 0) → Option (CacheError B)
none_of B = None

-- out of memory, or the waiter gave up
abbrev pub IsWant : {B : Type 0} → CacheError B → Type 0
IsWant refused.NoMemory = ⊤
IsWant (refused.Busy b) = ⊤
IsWant _ = ⊥

cause_want : {B : Type 0} (files : Files) (r : RecordState) (view : ViewState) (a b : TapState)
    (e : CacheError B) → IsWant e → FetchCause files r view a b e
cause_want files r view a b refused.NoMemory want = tt
cause_want files r view a b (refused.Busy x) want = tt
cause_want files r view a b e want = absurd want

causes_want : {B : Type 0} (files : Files) (r : RecordState) (view : ViewState) (a b : TapState)
    (refused : Option (CacheError B)) → IfSome refused IsWant
    → IfSome refused (FetchCause files r view a b)
causes_want files r view a b None want = tt
causes_want files r view a b (Some e) want = cause_want files r view a b e want

moves_same : {B : Type 0} (a b : TapState) (refused : Option (CacheError B)) → b ≡ a
    → MeetsOnlyAgain refused a b
moves_same a b None same = ap (λ (s : TapState). s.moves) same
moves_same a b (Some e) same = λ none. ap (λ (s : TapState). s.moves) same

-- ---- what a step leaves of a pass

-- Only its microcache, the tile in hand and its counts may be others, and each visit is that of a
-- `pin`, a `pin_new`, an `unpin` or a `count`.
pub record OnlyPins (gate : GateState) (old new : PassState) : Type 0 where
  pub place : SamePlace old new
  pub view : new.view ≡ old.view
  pub few : length new.pinned.recent ≤ 2
  pub holds : new.pinned.holds ≡ old.pinned.holds
  pub latest : new.latest ≡ old.latest
  pub visits : PurgesNone gate old.pinned.seat new.pinned.seat

view_none : (file : ℕ) (view : ViewState) → KeepsView file view view
view_none file view = record {
  board = refl;
  later = λ f. omega arith;
  seen_others = λ f other. refl;
  steps_others = λ f other. refl;
}

-- Nothing but what was seen of the file is another.
pub record OnlySees (file : ℕ) (old new : PassState) : Type 0 where
  pub few : length new.pinned.recent ≤ 2
  pub pinned : new.pinned ≡ old.pinned
  pub latest : new.latest ≡ old.latest
  pub counts : SameCounts old new
  pub view : KeepsView file old.view new.view
  pub looks : KeepsLooks old.view new.view
  pub steps : slice_index old.view.steps file ≤ slice_index new.view.steps file

pub counts_then : {a b c : PassState} → SameCounts a b → SameCounts b c → SameCounts a c
counts_then first later = record {
  needs = later.needs ∙ first.needs;
  hits = later.hits ∙ first.hits;
  apart = later.apart ∙ first.apart;
}

-- ---- steps

pub reads_none : (files : Files) (gate : GateState) (known : RecordState) (a : PassTap)
    (Busy : Type 0) → length a.pass.pinned.recent ≤ 2 → ReadsOn files gate known a a Busy
reads_none files gate known a Busy few = record {
  tap = none_fell a.tap;
  need = after_none known.file a.pass few;
  counts = record { needs = omega arith; hits = omega arith; apart = omega arith };
  hand = inr (inl refl);
  visits = visits_same gate a.pass.pinned.seat a.pass.pinned.seat refl;
}

-- what is left at two moments, one after another
pub steps_at_then : {B : Type 0} {files : Files} {gate : GateState} {known : RecordState}
    {a b c : PassTap} {refused : Option (CacheError B)}
    → StepsAt files gate known a b (none_of B) → StepsAt files gate known b c refused
    → StepsAt files gate known a c refused
steps_at_then {B} {files} {gate} {known} {a} {b} {c} {refused} first later = record {
  cause = cause_then files known c.pass.view a.tap b.tap c.tap refused first.tap later.cause;
  moves = moves_then a.tap b.tap c.tap refused first.moves later.moves;
  tap = none_falls_chain a.tap b.tap c.tap first.tap later.tap;
  need = after_chain known.file a.pass b.pass c.pass first.need later.need;
  visits = purges_none_chain gate a.pass.pinned.seat b.pass.pinned.seat c.pass.pinned.seat
      first.visits later.visits;
}

pub reads_at_then : {B : Type 0} {files : Files} {gate : GateState} {known : RecordState}
    {a b c : PassTap} {refused : Option (CacheError B)}
    → ReadsAt files gate known a b (none_of B) → ReadsAt files gate known b c refused
    → ReadsAt files gate known a c refused
reads_at_then {B} {files} {gate} {known} {a} {b} {c} {refused} first later = record {
  steps = steps_at_then first.steps later.steps;
  counts = record {
    needs = omega (arith, first.counts.needs, later.counts.needs);
    hits = omega (arith, first.counts.hits, later.counts.hits);
    apart = omega (arith, first.counts.apart, later.counts.apart);
  };
  hand = hand_chain B a.pass b.pass c.pass first.hand later.hand;
}

module _ {V T Busy W H : Type 0} {v : a_waiter.Ghosts V Busy} {t : a_tap.Ghosts T W H}
    {h : a_handle.Ghosts H W} where
  pub call_then : {a b c : TileSource V T Busy W H v t h} → IsSameCall a b → IsSameCall b c
      → IsSameCall a c
  call_then first later = record {
    store = later.store ∙ first.store;
    picture = later.picture ∙ first.picture;
    pass_name = later.pass_name ∙ first.pass_name;
    tap_name = later.tap_name ∙ first.tap_name;
  }

  same_call : {a : TileSource V T Busy W H v t h} → IsSameCall a a
  same_call = record { store = refl; picture = refl; pass_name = refl; tap_name = refl }

  -- a fact of the cache and the record at a later moment
  of_first : {a b : TileSource V T Busy W H v t h} (P : GateState → RecordState → Type 0)
      → IsSameCall a b → P b.store.now.gate b.picture.now → P a.store.now.gate a.picture.now
  of_first {a} {b} P call p =
      subst (λ (r : RecordState). P a.store.now.gate r) ((ap (λ k. k.now) call.picture))
      (subst (λ (g : GateState). P g b.picture.now) (ap (λ k. k.now.gate) call.store) p)

  pub steps_then : {files : Files} {a b c : TileSource V T Busy W H v t h}
      {refused : Option (CacheError Busy)} → Steps files a b None → Steps files b c refused
      → Steps files a c refused
  steps_then {files} {a} {b} {c} {refused} first later = record {
    call = call_then first.call later.call;
    left = steps_at_then first.left (of_first {a = a} {b = b}
        (λ g r. StepsAt files g r (moment b) (moment c) refused) first.call later.left);
  }

  pub makes_then : {files : Files} {a b c : TileSource V T Busy W H v t h}
      {refused : Option (CacheError Busy)}
      → Makes files a b None → Makes files b c refused → Makes files a c refused
  makes_then first later = record {
    steps = steps_then first.steps later.steps;
    counts = record {
      needs = later.counts.needs ∙ first.counts.needs;
      hits = later.counts.hits ∙ first.counts.hits;
      apart = later.counts.apart ∙ first.counts.apart;
    };
    recent = later.recent ∙ first.recent;
    empty = later.empty;
  }

  -- a key was missed before further steps
  pub cold_then : {files : Files} {a b c : TileSource V T Busy W H v t h} {refused : Option (CacheError Busy)} (key : ℕ)
      → Misses a.store.now.gate key a.pass.now.pinned.seat b.pass.now.pinned.seat
      → IsSameCall a b → Steps files b c refused → IsCold key a c
  cold_then {files} {a} {b} {c} key missed call later =
      inr (misses_before a.store.now.gate key a.pass.now.pinned.seat b.pass.now.pinned.seat
      c.pass.now.pinned.seat missed (subst (λ (g : GateState).
      PurgesNone g b.pass.now.pinned.seat c.pass.now.pinned.seat)
      (ap (λ k. k.now.gate) call.store) later.left.visits))

  -- pins alone
  pub steps_pinned : {files : Files} {a b : TileSource V T Busy W H v t h} {refused : Option (CacheError Busy)} → IsSameCall a b
      → b.tap.now ≡ a.tap.now → OnlyPins a.store.now.gate a.pass.now b.pass.now
      → IfSome refused IsWant → Steps files a b refused
  steps_pinned {files} {a} {b} {refused} call tap pins want =
      let file = a.picture.now.file in
      let same : t.state b.tap.now ≡ t.state a.tap.now = ap t.state tap in
      record {
        call = call;
        left = record {
          cause = causes_want files a.picture.now b.pass.now.view (t.state a.tap.now)
              (t.state b.tap.now) refused want;
          moves = moves_same (t.state a.tap.now) (t.state b.tap.now) refused same;
          tap = subst (λ (s : TapState). NoneFalls (t.state a.tap.now) s) (sym same)
              (none_fell (t.state a.tap.now));
          need = record {
            place = pins.place;
            view = subst (λ (x : ViewState). KeepsView file a.pass.now.view x) (sym pins.view)
                (view_none file a.pass.now.view);
            looks = looks_same a.pass.now.view b.pass.now.view pins.view;
            steps = subst (λ (x : ViewState).
                slice_index a.pass.now.view.steps file ≤ slice_index x.steps file) (sym pins.view)
                (omega arith);
            few = pins.few;
            holds = pins.holds;
            latest = pins.latest;
          };
          visits = pins.visits;
        };
      }

  pub makes_pinned : {files : Files} {a b : TileSource V T Busy W H v t h} {refused : Option (CacheError Busy)} → IsSameCall a b
      → b.tap.now ≡ a.tap.now → OnlyPins a.store.now.gate a.pass.now b.pass.now
      → SameCounts a.pass.now b.pass.now
      → b.pass.now.pinned.recent ≡ a.pass.now.pinned.recent → IfSome refused IsWant
      → IfSome refused (λ _. (b.pass.now.pinned.hand ≡ None) ⊎ Busy) → Makes files a b refused
  makes_pinned call tap pins counts recent want empty = record {
    steps = steps_pinned call tap pins want;
    counts = counts;
    recent = recent;
    empty = empty;
  }

  -- a read of the file alone
  steps_seen : {files : Files} {a b : TileSource V T Busy W H v t h} {refused : Option (CacheError Busy)} → IsSameCall a b
      → OnlySees a.picture.now.file a.pass.now b.pass.now
      → NoneFalls (t.state a.tap.now) (t.state b.tap.now)
      → IfSome refused (FetchCause files a.picture.now b.pass.now.view (t.state a.tap.now)
      (t.state b.tap.now)) → MeetsOnlyAgain refused (t.state a.tap.now) (t.state b.tap.now)
      → Steps files a b refused
  steps_seen {files} {a} {b} {refused} call sees falls cause moves = record {
    call = call;
    left = record {
      cause = cause;
      moves = moves;
      tap = falls;
      need = record {
        place = record {
          board = sees.view.board;
          gate = ap (λ (p : PinnedState). p.seat.gate) sees.pinned;
          cut = ap (λ (p : PinnedState). p.cut) sees.pinned;
          permits = ap (λ (p : PinnedState). p.seat.permits) sees.pinned;
          joined = ap (λ (p : PinnedState). p.seat.joined) sees.pinned;
        };
        view = sees.view;
        looks = sees.looks;
        steps = sees.steps;
        few = sees.few;
        holds = ap (λ (p : PinnedState). p.holds) sees.pinned;
        latest = sees.latest;
      };
      visits = visits_same a.store.now.gate a.pass.now.pinned.seat b.pass.now.pinned.seat
          (ap (λ (p : PinnedState). p.seat) sees.pinned);
    };
  }

  pub reads_seen : {files : Files} {a b : TileSource V T Busy W H v t h} {refused : Option (CacheError Busy)} → IsSameCall a b
      → OnlySees a.picture.now.file a.pass.now b.pass.now
      → NoneFalls (t.state a.tap.now) (t.state b.tap.now)
      → IfSome refused (FetchCause files a.picture.now b.pass.now.view (t.state a.tap.now)
      (t.state b.tap.now)) → MeetsOnlyAgain refused (t.state a.tap.now) (t.state b.tap.now)
      → Reads files a b refused
  reads_seen {files} {a} {b} {refused} call sees falls cause moves =
      let steps = steps_seen {files = files} {a = a} {b = b} {refused = refused} call sees falls
      cause moves in
      record {
        call = call;
        left = record {
          steps = steps.left;
          counts = record {
            needs = omega (arith, sees.counts.needs);
            hits = omega (arith, sees.counts.hits);
            apart = omega (arith, sees.counts.apart);
          };
          hand = inr (inl (ap (λ (p : PinnedState). p.hand) sees.pinned));
        };
      }

  pub makes_seen : {files : Files} {a b : TileSource V T Busy W H v t h} {refused : Option (CacheError Busy)} → IsSameCall a b
      → OnlySees a.picture.now.file a.pass.now b.pass.now
      → NoneFalls (t.state a.tap.now) (t.state b.tap.now)
      → IfSome refused (FetchCause files a.picture.now b.pass.now.view (t.state a.tap.now)
      (t.state b.tap.now)) → MeetsOnlyAgain refused (t.state a.tap.now) (t.state b.tap.now)
      → IfSome refused (λ _. (b.pass.now.pinned.hand ≡ None) ⊎ Busy) → Makes files a b refused
  makes_seen {files} {a} {b} {refused} call sees falls cause moves empty = record {
    steps = steps_seen {files = files} {a = a} {b = b} {refused = refused} call sees falls cause
        moves;
    counts = sees.counts;
    recent = ap (λ (p : PinnedState). p.recent) sees.pinned;
    empty = empty;
  }

  -- nothing was done
  pub no_makes : {files : Files} {a : TileSource V T Busy W H v t h}
      {refused : Option (CacheError Busy)} → length a.pass.now.pinned.recent ≤ 2
      → IfSome refused IsWant → IfSome refused (λ _. (a.pass.now.pinned.hand ≡ None) ⊎ Busy)
      → Makes files a a refused
  no_makes {files} {a} {refused} few want empty =
      makes_pinned (record { store = refl; picture = refl; pass_name = refl; tap_name = refl }) refl
      (record {
        place = record { board = refl; gate = refl; cut = refl; permits = refl; joined = refl };
        view = refl;
        few = few;
        holds = refl;
        latest = refl;
        visits = visits_same a.store.now.gate a.pass.now.pinned.seat a.pass.now.pinned.seat refl;
      }) (record { needs = refl; hits = refl; apart = refl }) refl want empty

  -- ---- answers of `?`

  pub makes_by : {files : Files} {a b : TileSource V T Busy W H v t h} {A : Type 0}
      {e : CacheError Busy} (result : Result A (CacheError Busy)) → IsErrAnd result (λ x. x ≡ e)
      → Makes files a b (Some e) → Makes files a b (refusal result)
  makes_by {files} {a} {b} {A} {e} result is made =
      subst (λ (r : Option (CacheError Busy)). Makes files a b r) (sym (refused_by result e is)) made

  pub brings_by : {files : Files} {a b : TileSource V T Busy W H v t h} {A : Type 0}
      {e : CacheError Busy} (result : Result A (CacheError Busy)) → IsErrAnd result (λ x. x ≡ e)
      → Brings files a b (Some e) → Brings files a b (refusal result)
  brings_by {files} {a} {b} {A} {e} result is made =
      subst (λ (r : Option (CacheError Busy)). Brings files a b r) (sym (refused_by result e is))
      made

  pub reads_by : {files : Files} {a b : TileSource V T Busy W H v t h} {A : Type 0}
      {e : CacheError Busy} (result : Result A (CacheError Busy)) → IsErrAnd result (λ x. x ≡ e)
      → Reads files a b (Some e) → Reads files a b (refusal result)
  reads_by {files} {a} {b} {A} {e} result is made =
      subst (λ (r : Option (CacheError Busy)). Reads files a b r) (sym (refused_by result e is))
      made

  -- ---- needs

  -- a tile is made after the microcache was asked
  pub brings_refused : {files : Files} {a b c : TileSource V T Busy W H v t h} {e : CacheError Busy}
      → Brings files a b None → Makes files b c (Some e) → Brings files a c (Some e)
  brings_refused first made = record {
    steps = steps_then first.steps made.steps;
    counts = counts_then first.counts made.counts;
    hand = elim made.empty [ inl none ↦ inl none | inr busy ↦ inr (inr busy) ];
  }

  pub brings_made : {files : Files} {a b c : TileSource V T Busy W H v t h}
      → Brings files a b None → Makes files b c None → c.pass.now.pinned.hand ≡ None
      → Brings files a c None
  brings_made first made none = record {
    steps = steps_then first.steps made.steps;
    counts = counts_then first.counts made.counts;
    hand = inl none;
  }

  -- a tile is brought into the microcache by placing it first
  pub brings_placed : {files : Files} {a b c d : TileSource V T Busy W H v t h}
      → Brings files a b None → Makes files b c None → Steps files c d None
      → SameCounts c.pass.now d.pass.now → (d.pass.now.pinned.hand ≡ None) ⊎ Busy
      → Brings files a d None
  brings_placed first made placed counts hand = record {
    steps = steps_then (steps_then first.steps made.steps) placed;
    counts = counts_then (counts_then first.counts made.counts) counts;
    hand = elim hand [ inl none ↦ inl none | inr busy ↦ inr (inr busy) ];
  }

  -- ---- reads

  pub reads_then : {files : Files} {a b c : TileSource V T Busy W H v t h}
      {refused : Option (CacheError Busy)} → Reads files a b None → Reads files b c refused
      → Reads files a c refused
  reads_then {files} {a} {b} {c} {refused} first later = record {
    call = call_then first.call later.call;
    left = reads_at_then first.left (of_first {a = a} {b = b}
        (λ g r. ReadsAt files g r (moment b) (moment c) refused) first.call later.left);
  }

  -- a cell that is brought is a read
  pub reads_brought : {files : Files} {a b : TileSource V T Busy W H v t h}
      {refused : Option (CacheError Busy)} → Brings files a b refused → Reads files a b refused
  reads_brought {files} {a} {b} brought = record {
    call = brought.steps.call;
    left = record {
      steps = brought.steps.left;
      counts = record {
        needs = omega (arith, brought.counts.needs);
        hits = omega (arith, brought.counts.hits);
        apart = omega (arith, brought.counts.apart);
      };
      hand = brought.hand;
    };
  }

  pub no_reads : {files : Files} {a : TileSource V T Busy W H v t h}
      {refused : Option (CacheError Busy)} → length a.pass.now.pinned.recent ≤ 2
      → IfSome refused IsWant → Reads files a a refused
  no_reads {files} {a} {refused} few want = record {
    call = same_call {a = a};
    left = record {
      steps = (steps_pinned {files = files} {a = a} {b = a} {refused = refused} (same_call {a = a}) refl (record {
        place = record { board = refl; gate = refl; cut = refl; permits = refl; joined = refl };
        view = refl;
        few = few;
        holds = refl;
        latest = refl;
        visits = visits_same a.store.now.gate a.pass.now.pinned.seat a.pass.now.pinned.seat refl;
      }) want).left;
      counts = record { needs = omega arith; hits = omega arith; apart = omega arith };
      hand = inr (inl refl);
    };
  }

  -- ---- a key that was missed

  pub cold_before : (key : ℕ) (a b c : TileSource V T Busy W H v t h) → IsSameCall a b
      → b.pass.now.pinned.seat ≡ a.pass.now.pinned.seat → b.tap.now ≡ a.tap.now
      → IsCold key b c → IsCold key a c
  cold_before key a b c call seat tap (inl none) = inl (none ∙ ap t.state tap)
  cold_before key a b c call seat tap (inr missed) =
      inr (subst (λ (s : PinSeatState). Misses a.store.now.gate key s c.pass.now.pinned.seat) seat
      (subst (λ (g : GateState). Misses g key b.pass.now.pinned.seat c.pass.now.pinned.seat)
      (ap (λ k. k.now.gate) call.store) missed))

  pub cold_after : {files : Files} (key : ℕ) (a b c : TileSource V T Busy W H v t h)
      → IsCold key a b → IsSameCall a b → Steps files b c None → c.tap.now ≡ b.tap.now
      → IsCold key a c
  cold_after {files} key a b c (inl none) call later tap = inl (ap t.state tap ∙ none)
  cold_after {files} key a b c (inr missed) call later tap =
      cold_then key missed call later
