-- Which entries of a plan concern a tap?
use Rattle.std.specs.Prelude.{◌≡◌, ℕ, ◌==◌, IsFalse, List, []}
use Rattle.std.specs.List.{filter}
use Rattle.tex_world.specs.TapPlan.{TapPlan}
use Rattle.tex_world.specs.declared.plan.Plan.{Plan}

-- the entries for the tap with this number
abbrev pub entries_of : {E : Type 0} → (E → ℕ) → List E → ℕ → List E
entries_of tap_of entries tap = filter (λ e. tap_of e == tap) entries

-- A new tap's share of a plan: the entries for it. None of its newer generations has appeared.
abbrev pub share_of : Plan → ℕ → TapPlan
share_of plan tap = record {
  fail_calls = entries_of (λ e. e.tap) plan.fail_calls.items tap;
  fail_bytes = entries_of (λ e. e.tap) plan.fail_bytes.items tap;
  newest = entries_of (λ e. e.tap) plan.newest.items tap;
  rises = entries_of (λ e. e.tap) plan.rises.items tap;
  risen = [];
}

-- no entry names the tap
pub record IsUnnamed (plan : Plan) (tap : ℕ) : Type 0 where
  pub fail_calls : entries_of (λ e. e.tap) plan.fail_calls.items tap ≡ []
  pub fail_bytes : entries_of (λ e. e.tap) plan.fail_bytes.items tap ≡ []
  pub newest : entries_of (λ e. e.tap) plan.newest.items tap ≡ []
  pub rises : entries_of (λ e. e.tap) plan.rises.items tap ≡ []

-- no call fails and no file changes
pub record IsEmpty (plan : Plan) : Type 0 where
  pub fail_enter : IsFalse plan.fail_enter
  pub fail_calls : plan.fail_calls.items ≡ []
  pub fail_bytes : plan.fail_bytes.items ≡ []
  pub newest : plan.newest.items ≡ []
  pub rises : plan.rises.items ≡ []
