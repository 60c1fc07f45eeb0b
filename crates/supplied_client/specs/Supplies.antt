-- What does a supply leave?
use Rattle.std.specs.Prelude.{◌≡◌, ℕ, List, length, None, IsSome}
use Rattle.supplied_tap.specs.declared.supply.RowsAt.{RowsAt}
use Rattle.supplied_tap.specs.declared.supply.Seen.{Seen}
use Rattle.supplied_client.specs.Client.{ClientState, KeepsRest}
use Rattle.supplied_tap.specs.Supply.{FitsLook, FitsLooks, FitsBytes, FitsRows, LookCause, LooksCause}
use Rattle.supplied_tap.specs.Supply.{BytesCause, RowsCause}
use Rattle.supplied_tap.specs.SuppliedTap.{KeepsTap, TakesLook, TakesLooks}
use Rattle.supplied_tap.specs.SuppliedTap.{TakesBytes, TakesRows, TakesFault}
use Rattle.supplied_client.specs.Unanswered.{IsRefusedSupply}

-- What the supply of a file's generation and length leaves: it is kept if it is what is needed.
-- Otherwise nothing changes, and the code names the cause.
pub record SaysLook (file generation len code : ℕ) (old new : ClientState) : Type 0 where
  pub rest : KeepsRest old new
  pub ok : code ≡ 0 → TakesLook file generation len old.tap new.tap
  pub fits : code ≡ 0 → FitsLook old.tap.need file generation
  pub err : ¬ (code ≡ 0) → KeepsTap old.tap new.tap
  pub cause : ¬ (code ≡ 0) → IsRefusedSupply (LookCause old.tap.need file generation) code

-- What the supply of several files' generations and lengths leaves: they are kept if the first is
-- what is needed. Otherwise nothing changes, and the code names the cause.
pub record SaysLooks (looks : List Seen) (code : ℕ) (old new : ClientState) : Type 0 where
  pub rest : KeepsRest old new
  pub ok : code ≡ 0 → TakesLooks looks old.tap new.tap
  pub fits : code ≡ 0 → FitsLooks old.tap.need looks
  pub err : ¬ (code ≡ 0) → KeepsTap old.tap new.tap
  pub cause : ¬ (code ≡ 0) → IsRefusedSupply (LooksCause old.tap.need looks) code

-- What the supply of bytes leaves: they are kept if they are what is needed. Otherwise nothing
-- changes, and the code names the cause.
pub record SaysBytes (file generation at : ℕ) (bytes : List ℕ) (code : ℕ) (old new : ClientState)
    : Type 0 where
  pub rest : KeepsRest old new
  pub ok : code ≡ 0 → TakesBytes file generation at bytes old.tap new.tap
  pub fits : code ≡ 0 → FitsBytes old.tap.need file generation at (length bytes)
  pub err : ¬ (code ≡ 0) → KeepsTap old.tap new.tap
  pub cause : ¬ (code ≡ 0)
      → IsRefusedSupply (BytesCause old.tap.need file generation at (length bytes)) code

-- What the supply of rows leaves: they are kept if they are what is needed. Otherwise nothing
-- changes, and the code names the cause.
pub record SaysRows (place : RowsAt) (bytes : List ℕ) (code : ℕ) (old new : ClientState)
    : Type 0 where
  pub rest : KeepsRest old new
  pub ok : code ≡ 0 → TakesRows place bytes old.tap new.tap
  pub fits : code ≡ 0 → FitsRows old.tap.need place (length bytes)
  pub err : ¬ (code ≡ 0) → KeepsTap old.tap new.tap
  pub cause : ¬ (code ≡ 0) → IsRefusedSupply (RowsCause old.tap.need place (length bytes)) code

-- What a fault leaves: it is noted if something is needed. Otherwise nothing changes.
pub record SaysFault (code : ℕ) (old new : ClientState) : Type 0 where
  pub rest : KeepsRest old new
  pub ok : code ≡ 0 → TakesFault old.tap new.tap
  pub needed : code ≡ 0 → IsSome old.tap.need
  pub err : ¬ (code ≡ 0) → KeepsTap old.tap new.tap
  pub cause : ¬ (code ≡ 0) → (code ≡ 20) × (old.tap.need ≡ None)

-- A buffer was lent or taken back.
pub record KeepsClient (old new : ClientState) : Type 0 where
  pub rest : KeepsRest old new
  pub tap : KeepsTap old.tap new.tap
