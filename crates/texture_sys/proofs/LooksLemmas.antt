-- What lookups on a record leave, from what the fetches of their texels leave.
use Rattle.std.proofs.Common.{◌≡◌, ℕ, ◌≤◌, refl, sym, ap, subst, arith, List, length}
use Rattle.std.proofs.Common.{Result, Ok, Err}
use Rattle.std.specs.Prelude.{OnOk, IfErr, IsOkAnd}
use Rattle.std.specs.Option.{ForSome}
use Rattle.tex_world.specs.World.{Files}
use Rattle.gen_board.specs.View.{ViewState}
use Rattle.tiff_format.specs.declared.fault.TiffFault.{TiffFault}
use Rattle.tile_layout.specs.Kept.{Kept}
use Rattle.tile_layout.specs.Cell.{CellsFit}
use Rattle.shard_gate.specs.Gate.{GateState}
use Rattle.file_table.specs.Record.{RecordState}
use Rattle.texel_filter.specs.Calls.{LeftBy}
use Rattle.tile_source.specs.declared.error.CacheError.{CacheError}
use Rattle.tile_source.specs.declared.error.CacheError.TheVariants as refused
use Rattle.tile_source.specs.Source.{PassTap, pass_tap}
use Rattle.tile_source.proofs.StepLemmas.{none_fell}
use Rattle.tile_source.specs.Pass.{PassState, KeepsAllBut, view_and_record}
use Rattle.tile_source.specs.Cause.{StepCause, WantsByOpening}
use Rattle.image_cache.specs.Cause.{LookupRefuses, KeepsRecentAt}
use Rattle.image_cache.specs.Fetches.{Fetches, Refuses}
use Rattle.image_cache.proofs.UnreadLemmas.{recent_of, recent_same, at_between}
use Rattle.texture_sys.specs.declared.lookup.Lookups.{Lookups}
use Rattle.texture_sys.specs.declared.lookup.Lookups.TheVariants.{One, Many}
use Rattle.texture_sys.specs.declared.stopped.Stopped.{Stopped}
use Rattle.texture_sys.specs.Asked.{AreFirstOn, KeepsOthers, whole}
use Rattle.texture_sys.specs.Look.{picture_of}
use Rattle.texture_sys.specs.Needs.{visits_on}
use Rattle.texture_sys.specs.Call.{IsLookupOn}
use Rattle.texture_sys.specs.Steps.{LooksUpOn}
use Rattle.texture_sys.proofs.Asked.{asks_to}
use Rattle.texture_sys.proofs.Counted.{AreCounts}
use Rattle.texture_sys.proofs.Chains.{left_leaves, left_cause, left_unread, left_asks}
use Rattle.texture_sys.proofs.Chains.{left_counts, left_warm, left_memory}
use Rattle.texture_sys.proofs.LookLemmas.{none_first}
use Rattle.texture_sys.proofs.Visits.{visits_none, visits_before}

-- ---- a lookup whose texels were fetched

module _ {B : Type 0} (files : Files) (gate : GateState) (k : RecordState) (r : Lookups)
    (p q : PassTap) (out_old out_new : List ℕ)
    (result : Result (Unit {0}) (Stopped (CacheError B)))
    (few : length p.pass.pinned.recent ≤ 2) (are : AreCounts p.pass)
    (left : LeftBy (Fetches files gate k) (Refuses files gate k) p (visits_on k r) q
    (whole result)) where
  pub looks_up : ForSome (files.held k.file k.generation)
      (λ bytes. OnOk result (IsLookupOn k.cut bytes r out_new))
      → ForSome (files.held k.file k.generation) (λ bytes.
      IfErr result (λ s. AreFirstOn (picture_of k.cut bytes) r s.done out_new))
      → IfErr result (λ s. KeepsOthers r s.done out_old out_new)
      → LooksUpOn files gate k r tt p q out_old out_new result
  looks_up value part rest = record {
    value = value;
    part = part;
    rest = rest;
    cause = left_cause files gate k (visits_on k r) p q (whole result) left;
    unread = left_unread files gate k (visits_on k r) p q (whole result) left;
    counts = left_counts files gate k (visits_on k r) p q (whole result) are left;
    asks = left_asks files gate k (visits_on k r) p q (whole result) are left;
    tap = (left_leaves files gate k (visits_on k r) p q (whole result) few left).tap;
    visits = (left_leaves files gate k (visits_on k r) p q (whole result) few left).visits;
    memory = λ stored. left_memory files gate k (visits_on k r) p q (whole result) left stored;
    warm = λ fits has. left_warm files gate k (visits_on k r) p q (whole result) left has;
  }

-- ---- a record that cannot be looked up

not_both : (layout : Result Kept TiffFault) (P : Kept → Type 0) → IsOkAnd layout P
    → IsOkAnd layout (λ kept. ¬ P kept) → ⊥
not_both (Ok kept) P is not_so = not_so is
not_both (Err fault) P is not_so = is

keeps_none : (r : Lookups) (out : List ℕ) → KeepsOthers r 0 out out
keeps_none (One r) out = (refl, refl)
keeps_none (Many b) out = record { some = omega arith; long = refl; rest = λ k low. refl }

module _ {B : Type 0} (files : Files) (gate : GateState) (k : RecordState) (r : Lookups)
    (p : PassTap) (out : List ℕ) where
  -- an error before the first texel
  unlooked : (e : CacheError B) → StepCause files k p.pass.view p.tap p.tap LookupRefuses e
      → KeepsRecentAt p.pass p.pass e → WantsByOpening p.tap p.tap e
      → (IsOkAnd k.layout (λ kept. CellsFit kept k.cut) → ⊥)
      → LooksUpOn {A = Unit {0}} files gate k r tt p p out out
      (Err (record { generation = 0; done = 0; error = e }))
  unlooked e cause unread memory unfit = record {
    value = λ bytes held. tt;
    part = λ bytes held. none_first (picture_of k.cut bytes) r out;
    rest = keeps_none r out;
    cause = cause;
    unread = unread;
    counts = record { needs = omega arith; hits = omega arith; apart = omega arith };
    asks = tt;
    tap = none_fell p.tap;
    visits = visits_none gate p.pass.pinned.seat p.pass.pinned.seat refl;
    memory = λ stored. memory;
    warm = λ fits has. absurd (unfit fits);
  }

  pub not_looked : (e : CacheError B) → LookupRefuses k e
      → LooksUpOn {A = Unit {0}} files gate k r tt p p out out
      (Err (record { generation = 0; done = 0; error = e }))
  not_looked (refused.BadFile g fault) bad =
      unlooked (refused.BadFile g fault) bad (recent_same p.pass) tt (λ fits. subst
      (λ (l : Result Kept TiffFault). IsOkAnd l (λ kept. CellsFit kept k.cut)) bad.shows fits)
  not_looked (refused.TileTooLarge g) large =
      unlooked (refused.TileTooLarge g) large (recent_same p.pass) tt
      (λ fits. not_both k.layout (λ kept. CellsFit kept k.cut) fits large.too_large)
  not_looked (refused.Again from to) none = absurd none
  not_looked refused.ReadFault none = absurd none
  not_looked refused.NoMemory none = absurd none
  not_looked (refused.Busy b) none = absurd none
  not_looked (refused.NoLevel g levels) none = absurd none
  not_looked (refused.Outside g) none = absurd none
  not_looked refused.RegionTooLarge none = absurd none
  not_looked refused.HoldsFull none = absurd none

-- ---- and then the record is kept

module _ {B : Type 0} (files : Files) (gate : GateState) (k : RecordState) (r : Lookups)
    (p q : PassTap) (new : PassState) (out_old out_new : List ℕ)
    (keeps : KeepsAllBut view_and_record q.pass new) (view : new.view ≡ q.pass.view) where
  pub kept_ok : (g : ℕ) → g ≡ k.generation
      → LooksUpOn {A = Unit {0}} {B = B} files gate k r tt p q out_old out_new (Ok tt)
      → LooksUpOn {A = ℕ} {B = B} files gate k r k.generation p (pass_tap new q.tap) out_old out_new
      (Ok g)
  kept_ok g is up = record {
    value = up.value;
    part = λ bytes held. tt;
    rest = tt;
    cause = tt;
    unread = tt;
    counts = record {
      needs = omega (arith, up.counts.needs, keeps.counts.needs);
      hits = omega (arith, up.counts.hits, keeps.counts.hits);
      apart = omega (arith, up.counts.apart, keeps.counts.apart);
    };
    asks = asks_to files k (visits_on k r) p.pass q.pass new keeps up.asks;
    tap = up.tap;
    visits = visits_before gate p.pass.pinned.seat q.pass.pinned.seat new.pinned.seat up.visits
        keeps.seat;
    memory = λ stored. tt;
    warm = λ fits has. (ap (λ (n : ℕ). Ok n) is, (up.warm fits has).1);
  }

  pub kept_err : (s : Stopped (CacheError B)) (g : ℕ)
      → LooksUpOn {A = Unit {0}} files gate k r tt p q out_old out_new (Err s)
      → LooksUpOn {A = ℕ} files gate k r k.generation p (pass_tap new q.tap) out_old out_new
      (Err (record s { generation = g }))
  kept_err s g up = record {
    value = λ bytes held. tt;
    part = up.part;
    rest = up.rest;
    cause = subst (λ (v : ViewState). StepCause files k v p.tap q.tap LookupRefuses s.error)
        (sym view) up.cause;
    unread = at_between s.error p.pass p.pass q.pass new (recent_same p.pass)
        (recent_of q.pass new keeps) up.unread;
    counts = record {
      needs = omega (arith, up.counts.needs, keeps.counts.needs);
      hits = omega (arith, up.counts.hits, keeps.counts.hits);
      apart = omega (arith, up.counts.apart, keeps.counts.apart);
    };
    asks = tt;
    tap = up.tap;
    visits = visits_before gate p.pass.pinned.seat q.pass.pinned.seat new.pinned.seat up.visits
        keeps.seat;
    memory = up.memory;
    warm = λ fits has. absurd (cc (up.warm fits has).0);
  }
