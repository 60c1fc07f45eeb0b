-- What does the test for UTF-8 answer, also for a text kept in a buffer?
use Rattle.std.proofs.Common.{◌≡◌, ℕ, Bool, true, false, List, ◌++◌, length, take, refl}
use Rattle.std.specs.Str.{IsUtf8, is_utf8}
use Rattle.std.proofs.Math.Seq.{take-append_seam}
use Rattle.std.proofs.lemmas.Str.{is_utf8-from_IsUtf8, IsUtf8-from_is_utf8, IsUtf8-from_ascii}

-- the test is false if it does not answer that the bytes are text
by_answer : (bs : List ℕ) (b : Bool) → is_utf8 bs ≡ b → (IsUtf8 bs → ⊥) → is_utf8 bs ≡ false
by_answer bs true e not_text = absurd (not_text (IsUtf8-from_is_utf8 bs e))
by_answer bs false e not_text = e

-- the test is false if the bytes are not text
pub is_utf8-false : (bs : List ℕ) → (IsUtf8 bs → ⊥) → is_utf8 bs ≡ false
is_utf8-false bs not_text = by_answer bs (is_utf8 bs) refl not_text

pub ruleset utf8_tests =
    (is_utf8-from_IsUtf8, IsUtf8-from_is_utf8, is_utf8-false, IsUtf8-from_ascii)

-- a text at the front of a buffer is a text
pub kept_text : (text copied rest : List ℕ) → copied ≡ text → IsUtf8 text
    → is_utf8 (take (length text) (copied ++ rest)) ≡ true
kept_text text copied rest e utf8 =
    rw (e, take-append_seam) (is_utf8-from_IsUtf8 text utf8)
