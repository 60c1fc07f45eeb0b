-- Which bytes does a word have, and which a line?
use Rattle.std.proofs.Common.{◌≡◌, ℕ, zero, suc, ◌<◌, ◌≤◌, ◌==◌, ◌&&◌, Bool, true, false}
use Rattle.std.proofs.Common.{List, [], ◌∷◌, ◌++◌, length, get_or, nat_lt, nat_le, refl, ◌∙◌, arith}
use Rattle.std.specs.List.{list_all}
use Rattle.std.specs.Str.{IsAscii, is_utf8}
use Rattle.std.proofs.lemmas.Bool.{and_parts, and_from, ltb-true, leb-true, lt-ltb, le-leb, ne_eqb}
use Rattle.std.proofs.lemmas.List.Sums.{AllPass-from_list_all}
use Rattle.std.proofs.lemmas.List.Folds.{list_all-append}
use Rattle.std.proofs.lemmas.Str.{is_utf8-from_IsUtf8, IsUtf8-from_ascii}

-- a byte of a word: ASCII, above a space
abbrev pub is_plain : ℕ → Bool
is_plain b = nat_lt 32 b && nat_lt b 128

-- whether a line may have this byte; spaces are allowed
abbrev pub is_printed : ℕ → Bool
is_printed b = nat_le 32 b && nat_lt b 128

-- all bytes are those of a word
abbrev pub ArePlain : List ℕ → Type 0
ArePlain bytes = list_all is_plain bytes ≡ true

abbrev pub ArePrinted : List ℕ → Type 0
ArePrinted bytes = list_all is_printed bytes ≡ true

-- ---- one byte

plain_range : (b : ℕ) → is_plain b ≡ true → (32 < b) × (b < 128)
plain_range b e =
    let parts = and_parts (nat_lt 32 b) (nat_lt b 128) e in
    (ltb-true 32 b parts.0, ltb-true b 128 parts.1)

pub printed_range : (b : ℕ) → is_printed b ≡ true → (32 ≤ b) × (b < 128)
printed_range b e =
    let parts = and_parts (nat_le 32 b) (nat_lt b 128) e in
    (leb-true 32 b parts.0, ltb-true b 128 parts.1)

pub no_space : (b : ℕ) → is_plain b ≡ true → (b == 32) ≡ false
no_space b e =
    let range = plain_range b e in ne_eqb b 32 (λ same. absurd (omega (arith, range.0, same)))

pub no_control : (b c : ℕ) → c < 32 → is_printed b ≡ true → (b == c) ≡ false
no_control b c low e =
    let range = printed_range b e in ne_eqb b c (λ same. absurd (omega (arith, range.0, same, low)))

plain_printed : (b : ℕ) → is_plain b ≡ true → is_printed b ≡ true
plain_printed b e =
    let range = plain_range b e in
    and_from (nat_le 32 b) (nat_lt b 128) (le-leb 32 b (omega (arith, range.0)))
    (lt-ltb b 128 range.1)

-- ---- all bytes

-- the bytes of a word are those of a line
pub printed : (bytes : List ℕ) → ArePlain bytes → ArePrinted bytes
printed [] e = refl
printed (b ∷ bytes) e =
    let parts = and_parts (is_plain b) (list_all is_plain bytes) e in
    and_from _ _ (plain_printed b parts.0) (printed bytes parts.1)

-- a space and a word, and what follows them
pub one_field : (word rest : List ℕ) → ArePlain word → ArePrinted rest
    → ArePrinted (32 ∷ (word ++ rest))
one_field word rest plain more =
    list_all-append is_printed word rest ∙ and_from _ _ (printed word plain) more

-- at a place
pub printed_at : (bytes : List ℕ) (i : ℕ) → ArePrinted bytes → i < length bytes
    → is_printed (get_or bytes i 0) ≡ true
printed_at bytes i e inside = AllPass-from_list_all is_printed bytes e i 0 inside

-- printed bytes are a text
pub printed_text : (bytes : List ℕ) → ArePrinted bytes → is_utf8 bytes ≡ true
printed_text bytes e = is_utf8-from_IsUtf8 bytes (IsUtf8-from_ascii bytes (ascii bytes e))
  where
    ascii : (bs : List ℕ) → ArePrinted bs → IsAscii bs
    ascii [] p i = omega arith
    ascii (b ∷ bs) p zero = (printed_range b (and_parts (is_printed b) _ p).0).1
    ascii (b ∷ bs) p (suc i) = ascii bs (and_parts (is_printed b) _ p).1 i
