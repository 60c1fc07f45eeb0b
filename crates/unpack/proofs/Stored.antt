-- What a sample is stored as, depth by depth.
use Rattle.std.proofs.Common.{◌≡◌, ℕ, ◌*◌, Bool, true, false, List, get_or, drop, arith, zero-add}
use Rattle.std.proofs.lemmas.List.{get_or-drop}
use Rattle.byteorder.specs.Endian.{big_number, little_number}
use Rattle.tiff_format.specs.Bytes.{number_at}
use Rattle.tiff_format.proofs.BytesOfParts.{number_same}
use Rattle.unpack.specs.Sample.{stored_sample}

-- a byte is its own number
pub stored_byte : (wide big : Bool) (bytes : List ℕ) (k : ℕ) → wide ≡ false
    → get_or bytes k 0 ≡ stored_sample wide big bytes k
unfolding number_at
stored_byte true big bytes k e = cc
stored_byte false true bytes k e = let same : 1 * k ≡ k = omega arith in rw same (omega arith)
stored_byte false false bytes k e = let same : 1 * k ≡ k = omega arith in rw same (omega arith)

-- two bytes are the first of what is left from there on
stored_behind : (big : Bool) (bytes : List ℕ) (k : ℕ)
    → number_at big 2 (drop (2 * k) bytes) 0 ≡ stored_sample true big bytes k
stored_behind big bytes k =
    number_same big 2 0 (2 * k) (drop (2 * k) bytes) bytes
    (λ j lt. rw zero-add (get_or-drop (2 * k) bytes j 0))

-- stored samples in terms of `byteorder`, for each byte order
pub stored_big : (wide big : Bool) (bytes : List ℕ) (k : ℕ) → wide ≡ true → big ≡ true
    → big_number 2 (drop (2 * k) bytes) ≡ stored_sample wide big bytes k
unfolding number_at
stored_big wide big bytes k e f = rw (e, f) (stored_behind true bytes k)

pub stored_little : (wide big : Bool) (bytes : List ℕ) (k : ℕ) → wide ≡ true → big ≡ false
    → little_number 2 (drop (2 * k) bytes) ≡ stored_sample wide big bytes k
unfolding number_at
stored_little wide big bytes k e f = rw (e, f) (stored_behind false bytes k)
