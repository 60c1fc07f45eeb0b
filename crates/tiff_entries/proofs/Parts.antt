-- What the tests of the definitions mean.
use Rattle.std.proofs.Common.{◌≡◌, ℕ, ◌+◌, ◌≤◌, Bool, true, false, leb, List, length}
use Rattle.std.proofs.Common.{refl}
use Rattle.std.specs.Prelude.{◌&&◌}
use Rattle.std.proofs.lemmas.Bool.{and_parts, leb-true, le-leb}
use Rattle.tiff_format.specs.declared.form.Form.{Form}
use Rattle.tiff_format.specs.Form.{header_bytes, offset_bytes}
use Rattle.tiff_format.specs.Directory.{entry_count, entry_place, next_place, lies_inside}

pub both_true : (a b : Bool) → a ≡ true → b ≡ true → (a && b) ≡ true
both_true true true p q = refl
both_true true false p q = q
both_true false b p q = p

-- ---- a directory

pub record IsInside (form : Form) (bytes : List ℕ) (at : ℕ) : Type 0 where
  pub low : header_bytes form ≤ at
  pub high : entry_place form at (entry_count form bytes at) + offset_bytes form ≤ length bytes

pub inside_parts : (form : Form) (bytes : List ℕ) (at : ℕ) → lies_inside form bytes at ≡ true
    → IsInside form bytes at
unfolding lies_inside
inside_parts form bytes at h =
    let a = and_parts (leb (header_bytes form) at)
    (leb (next_place form bytes at + offset_bytes form) (length bytes)) h in
    record {
      low = leb-true (header_bytes form) at a.0;
      high = leb-true (next_place form bytes at + offset_bytes form) (length bytes) a.1;
    }

pub inside_of_parts : (form : Form) (bytes : List ℕ) (at : ℕ) → IsInside form bytes at
    → lies_inside form bytes at ≡ true
unfolding lies_inside
inside_of_parts form bytes at h =
    both_true (leb (header_bytes form) at)
    (leb (next_place form bytes at + offset_bytes form) (length bytes))
    (le-leb (header_bytes form) at h.low)
    (le-leb (next_place form bytes at + offset_bytes form) (length bytes) h.high)
