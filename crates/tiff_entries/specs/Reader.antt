-- What must a reader of bytes obey?
use Rattle.std.specs.Prelude.{◌≡◌, ℕ, List, length, Option}
use Rattle.std.specs.Option.{ForSome}

-- The laws of a reader. `keeps` relates each state to itself, and chains. No read, successful or
-- failed, changes the length or the bytes. If the bytes are modelled, the length is theirs.
pub record IsReader {R E : Type 0} (size : R → ℕ) (bytes : R → Option (List ℕ))
    (keeps : R → R → Type 0) (refuses : R → E → R → Type 0) : Type 0 where
  pub itself : (r : R) → keeps r r
  pub chains : (r s t : R) → keeps r s → keeps s t → keeps r t
  pub same_size : (r s : R) → keeps r s → size s ≡ size r
  pub same_bytes : (r s : R) → keeps r s → bytes s ≡ bytes r
  pub refused_size : (r s : R) (e : E) → refuses r e s → size s ≡ size r
  pub refused_bytes : (r s : R) (e : E) → refuses r e s → bytes s ≡ bytes r
  pub told : (r : R) → ForSome (bytes r) (λ b. length b ≡ size r)
