-- Why does a C call fail, and why is a supply not accepted?
use Rattle.std.specs.Prelude.{◌≡◌, ◌⊎◌, ℕ, ◌<◌, ◌≤◌, IsSomeAnd}
use Rattle.waiter.specs.declared.tries.GaveUp.{GaveUp}
use Rattle.tile_source.specs.declared.error.CacheError.{CacheError}
use Rattle.tile_source.specs.declared.error.CacheError.TheVariants as refused
use Rattle.supplied_client.specs.declared.answer.TexAnswer.{TexAnswer}
use Rattle.supplied_tap.specs.declared.supply.SupplyError.{SupplyError}
use Rattle.supplied_tap.specs.declared.tap.SuppliedTap.{SuppliedTap}
use Rattle.supplied_client.specs.Code.{code_of, supply_code_of}
use Rattle.supplied_client.specs.Answer.{SaysNeed, of_refusal}

-- ---- errors of the cache

-- The tap needs something, which the answer names.
pub record IsLacking (tap : SuppliedTap) (code : ℕ) (answer : TexAnswer) : Type 0 where
  pub code_is : code ≡ 1
  pub need : IsSomeAnd tap.need (SaysNeed answer)

-- The answer has the code of the error and the fields that go with it.
pub record SaysRefusal (e : CacheError GaveUp) (code : ℕ) (answer : TexAnswer) : Type 0 where
  pub code_is : code ≡ code_of e
  pub says : answer ≡ of_refusal e

-- The answer if the cache fails: what the call needs, if the tap failed for that, or the error.
abbrev pub Says : CacheError GaveUp → SuppliedTap → ℕ → TexAnswer → Type 0
Says e tap code answer =
    ((e ≡ refused.ReadFault) × IsLacking tap code answer) ⊎ SaysRefusal e code answer

-- ---- calls

-- The call needs something, and the tap failed for that.
pub record Lacks (Cause : CacheError GaveUp → Type 0) (tap : SuppliedTap) (code : ℕ)
    (answer : TexAnswer) : Type 0 where
  pub lacking : IsLacking tap code answer
  pub cause : Cause refused.ReadFault

-- The cache fails with an error that has this cause.
pub record IsRefusedFor (Cause : CacheError GaveUp → Type 0) (code : ℕ) (answer : TexAnswer)
    : Type 0 where
  pub refusal : CacheError GaveUp
  pub says : SaysRefusal refusal code answer
  pub cause : Cause refusal

-- Why a call fails. `Own` says which codes are the call's own errors and when they occur; `Cause`
-- says why the cache fails.
abbrev pub IsUnanswered : (ℕ → Type 0) → (CacheError GaveUp → Type 0) → SuppliedTap → ℕ → TexAnswer
    → Type 0
IsUnanswered Own Cause tap code answer =
    Own code ⊎ (Lacks Cause tap code answer ⊎ IsRefusedFor Cause code answer)

-- no file has this number
abbrev pub RefusesFile : ℕ → ℕ → ℕ → Type 0
RefusesFile files file code = (code ≡ 3) × (files ≤ file)

-- no file has this number, a number of the request is out of range, or the buffer is too small
abbrev pub RefusesLookup : ℕ → ℕ → Type 0 → ℕ → ℕ → ℕ → Type 0
RefusesLookup files file Good channels room code = RefusesFile files file code
    ⊎ (((code ≡ 4) × ¬ Good) ⊎ ((code ≡ 5) × (room < channels)))

-- no file has this number, or the buffer is too small for the values of the region
abbrev pub RefusesRegion : ℕ → ℕ → ℕ → ℕ → ℕ → Type 0
RefusesRegion files file count room code =
    RefusesFile files file code ⊎ ((code ≡ 5) × (room < count))

-- ---- supplies

-- The supply is not accepted, for this cause.
pub record IsRefusedSupply (Cause : SupplyError → Type 0) (code : ℕ) : Type 0 where
  pub refusal : SupplyError
  pub code_is : code ≡ supply_code_of refusal
  pub cause : Cause refusal
