-- What do the steps of a call leave of a pass and of the tap, one after another?
use Rattle.std.proofs.Common.{◌≡◌, ℕ, ◌≤◌, inl, inr, length, refl, sym, ap, subst, ◌∙◌, arith}
use Rattle.tex_world.specs.Tap.{TapState}
use Rattle.gen_board.specs.View.{ViewState, KeepsLooks}
use Rattle.file_table.specs.Calls.{KeepsView, OpensIfAtAll}
use Rattle.tile_source.specs.Pass.{CacheState, PassState, SamePlace, IsPassOf}
use Rattle.tile_source.specs.Call.{AfterNeed, LeavesNoHand, NoneFalls}

pub keeps_view_chain : (file : ℕ) (a b c : ViewState) → KeepsView file a b → KeepsView file b c
    → KeepsView file a c
keeps_view_chain file a b c ab bc = record {
  board = bc.board ∙ ab.board;
  later = λ f. omega (arith, ab.later f, bc.later f);
  seen_others = λ f other. bc.seen_others f other ∙ ab.seen_others f other;
  steps_others = λ f other. bc.steps_others f other ∙ ab.steps_others f other;
}

pub looks_chain : (a b c : ViewState) → KeepsLooks a b → KeepsLooks b c → KeepsLooks a c
looks_chain a b c ab bc = record { looks = bc.looks ∙ ab.looks; looked = bc.looked ∙ ab.looked }

-- the view is the same
pub looks_same : (a b : ViewState) → b ≡ a → KeepsLooks a b
looks_same a b same = record {
  looks = ap (λ (v : ViewState). v.looks) same;
  looked = ap (λ (v : ViewState). v.looked) same;
}

pub after_chain : (file : ℕ) (a b c : PassState) → AfterNeed file a b → AfterNeed file b c
    → AfterNeed file a c
after_chain file a b c ab bc = record {
  place = record {
    board = bc.place.board ∙ ab.place.board;
    gate = bc.place.gate ∙ ab.place.gate;
    cut = bc.place.cut ∙ ab.place.cut;
    permits = bc.place.permits ∙ ab.place.permits;
    joined = bc.place.joined ∙ ab.place.joined;
  };
  view = keeps_view_chain file a.view b.view c.view ab.view bc.view;
  looks = looks_chain a.view b.view c.view ab.looks bc.looks;
  steps = omega (arith, ab.steps, bc.steps);
  few = bc.few;
  holds = bc.holds ∙ ab.holds;
  latest = bc.latest ∙ ab.latest;
}

pub after_none : (file : ℕ) (pass : PassState) → length pass.pinned.recent ≤ 2
    → AfterNeed file pass pass
after_none file pass few = record {
  place = record { board = refl; gate = refl; cut = refl; permits = refl; joined = refl };
  view = record {
    board = refl;
    later = λ f. omega arith;
    seen_others = λ f other. refl;
    steps_others = λ f other. refl;
  };
  looks = record { looks = refl; looked = refl };
  steps = omega arith;
  few = few;
  holds = refl;
  latest = refl;
}

pub none_fell : (tap : TapState) → NoneFalls tap tap
none_fell tap = record {
  faults = omega arith;
  calls = omega arith;
  opens = omega arith;
  moves = omega arith;
  asks = refl;
  newest = refl;
}

pub same_cache : (cache : CacheState) (old new : PassState) → SamePlace old new
    → IsPassOf cache old → IsPassOf cache new
same_cache cache old new place of = record {
  board = place.board ∙ of.board;
  gate = place.gate ∙ of.gate;
  cut = place.cut ∙ of.cut;
}

pub hand_chain : (Busy : Type 0) (a b c : PassState) → LeavesNoHand Busy a b
    → LeavesNoHand Busy b c → LeavesNoHand Busy a c
hand_chain Busy a b c ab (inl none) = inl none
hand_chain Busy a b c (inl none) (inr (inl same)) = inl (same ∙ none)
hand_chain Busy a b c (inr (inl before)) (inr (inl same)) = inr (inl (same ∙ before))
hand_chain Busy a b c (inr (inr busy)) (inr (inl same)) = inr (inr busy)
hand_chain Busy a b c ab (inr (inr busy)) = inr (inr busy)

pub none_falls_chain : (a b c : TapState) → NoneFalls a b → NoneFalls b c → NoneFalls a c
none_falls_chain a b c ab bc = record {
  faults = omega (arith, ab.faults, bc.faults);
  calls = omega (arith, ab.calls, bc.calls);
  opens = omega (arith, ab.opens, bc.opens);
  moves = omega (arith, ab.moves, bc.moves);
  asks = bc.asks ∙ ab.asks;
  newest = bc.newest ∙ ab.newest;
}

pub opens_falls : (a b : TapState) → OpensIfAtAll a b → NoneFalls a b
opens_falls a b (inl same) = subst (λ (s : TapState). NoneFalls a s) (sym same) (none_fell a)
opens_falls a b (inr once) = record {
  faults = once.faults;
  calls = once.calls.later;
  opens = omega (arith, once.opens);
  moves = once.moves;
  asks = once.asks;
  newest = once.newest;
}
