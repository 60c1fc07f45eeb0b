-- What do the fetches of a lookup leave of a pass and its tap?
use Rattle.std.proofs.Common.{◌≡◌, ℕ, ◌≤◌, refl, sym, subst, length}
use Rattle.shard_gate.specs.Gate.{GateState}
use Rattle.shard_gate.specs.Since.{PurgesNone}
use Rattle.shard_gate.proofs.SinceLemmas.{purges_none, purges_none_chain}
use Rattle.tile_source.specs.Call.{AfterNeed, NoneFalls}
use Rattle.tile_source.specs.Source.{PassTap}
use Rattle.tile_source.proofs.StepLemmas.{after_chain, after_none, none_fell, none_falls_chain}

-- what a fetch leaves, whatever it answers
pub record Leaves (gate : GateState) (file : ℕ) (old new : PassTap) : Type 0 where
  pub pass : AfterNeed file old.pass new.pass
  pub tap : NoneFalls old.tap new.tap
  pub visits : PurgesNone gate old.pass.pinned.seat new.pass.pinned.seat

pub leaves_none : (gate : GateState) (file : ℕ) (p q : PassTap) → length p.pass.pinned.recent ≤ 2
    → q ≡ p → Leaves gate file p q
leaves_none gate file p q few is = subst (λ (x : PassTap). Leaves gate file p x) (sym is) (record {
  pass = after_none file p.pass few;
  tap = none_fell p.tap;
  visits = purges_none gate p.pass.pinned.seat p.pass.pinned.seat refl;
})

pub leaves_chain : (gate : GateState) (file : ℕ) (a b c : PassTap) → Leaves gate file a b
    → Leaves gate file b c → Leaves gate file a c
leaves_chain gate file a b c first later = record {
  pass = after_chain file a.pass b.pass c.pass first.pass later.pass;
  tap = none_falls_chain a.tap b.tap c.tap first.tap later.tap;
  visits = purges_none_chain gate a.pass.pinned.seat b.pass.pinned.seat c.pass.pinned.seat
      first.visits later.visits;
}
