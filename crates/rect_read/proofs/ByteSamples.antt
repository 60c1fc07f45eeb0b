-- Samples that are the bytes that are stored.
use Rattle.std.proofs.Common.{◌≡◌, ℕ, ◌*◌, ◌<◌, ◌≤◌, ◌^◌, ◌++◌, Bool, true, false, List, length, map, get_or}
use Rattle.std.proofs.Common.{Result, Ok, Err, OnOk, is_ok, sym, ◌∙◌, ap, arith, zero-add}
use Rattle.std.proofs.Common.{◌+◌, take, drop, length-drop}
use Rattle.std.specs.Prelude.{if◌then◌else◌}
use Rattle.std.proofs.lemmas.List.{take-append-drop}
use Rattle.std.specs.List.{range_with_len}
use Rattle.std.proofs.lemmas.Grind.{same_number_lists}
use Rattle.std.proofs.lemmas.List.Elements.{All-from_get_or}
use Rattle.std.proofs.lemmas.List.FromFn.{length-map-range_with_len, get_or-map-range_with_len}
use Rattle.tiff_format.specs.Block.{sample_bytes}
use Rattle.tiff_format.specs.Bytes.{number_at, IsPartAt}
use Rattle.tiff_format.specs.Texel.{greatest_sample}
use Rattle.tile_layout.specs.Texel.{FitDepth}
use Rattle.tile_layout.specs.declared.texel_format.TexelFormat.{TexelFormat}
use Rattle.piece_samples.specs.Unpacked.{unpacked}
use Rattle.rect_read.specs.declared.run.Run.{Run}
use Rattle.rect_read.specs.Run.{AppendsRun}
use Rattle.rect_read.specs.RectSamples.{AreBytes}
use Rattle.rect_read.proofs.SampleValues.{span_samples}

-- a byte is its own number, in either order
byte_number : (big : Bool) (bytes : List ℕ) (k : ℕ) → number_at big 1 bytes (1 * k) ≡ get_or bytes k 0
unfolding number_at
byte_number true bytes k = let same : 1 * k ≡ k = omega arith in rw same (omega arith)
byte_number false bytes k = let same : 1 * k ≡ k = omega arith in rw same (omega arith)

pub byte_is : (format : TexelFormat) (bytes : List ℕ) (k : ℕ) → AreBytes format
    → unpacked format bytes k ≡ get_or bytes k 0
byte_is format bytes k are = rw (are.depth, are.as_stored) (byte_number format.big bytes k)

-- the samples of bytes are the bytes
pub bytes_are : (format : TexelFormat) (bytes : List ℕ) (count : ℕ) → AreBytes format
    → length bytes ≡ sample_bytes format.depth * count
    → bytes ≡ map (unpacked format bytes) (range_with_len 0 count)
bytes_are format bytes count are size =
    let value = unpacked format bytes in
    let one : sample_bytes format.depth * count ≡ count = rw are.depth (omega arith) in
    let long = length-map-range_with_len value 0 count in
    same_number_lists bytes (map value (range_with_len 0 count)) (size ∙ one ∙ sym long)
    (λ k lt.
    let below : k < count = omega (arith, size, one) in
    sym (get_or-map-range_with_len value 0 count k k 0 below (zero-add k)
    ∙ byte_is format bytes k are))

-- bytes fit 8 bits
pub fit_bytes : (depth : ℕ) (bytes : List ℕ) → depth ≡ 8
    → ((k : ℕ) → k < length bytes → get_or bytes k 0 < 2 ^ 8) → FitDepth depth bytes
fit_bytes depth bytes is each =
    All-from_get_or (λ sample. sample ≤ greatest_sample depth) bytes 0
    (λ k lt. rw is (omega (arith, each k lt)))

-- a texel has as many bytes as samples
pub unit_of_bytes : (format : TexelFormat) → AreBytes format → format.texel_bytes ≡ format.channels
unit_of_bytes format are = format.in_range.bytes ∙ rw are.depth (omega arith)

-- bytes that were read and appended are the samples of a run
pub run_bytes : (file : List ℕ) (format : TexelFormat) (run : Run) (old new : List ℕ)
    → AreBytes format → length new ≡ length old + run.texels * format.texel_bytes
    → take (length old) new ≡ old → IsPartAt file run.at (drop (length old) new)
    → AppendsRun file format run old new
run_bytes file format run old new are long before part =
    let more = drop (length old) new in
    let size : length more ≡ run.texels * format.texel_bytes =
    omega (arith, length-drop (length old) new, long) in
    let count = size ∙ span_samples run.texels format.texel_bytes format.channels
    (sample_bytes format.depth) format.in_range.bytes in
    record {
      span = more;
      part = part;
      long = size;
      values = sym (take-append-drop (length old) new) ∙ ap (λ (l : List ℕ). l ++ more) before
          ∙ ap (λ (l : List ℕ). old ++ l)
          (bytes_are format more (run.texels * format.channels) are count);
    }

-- what was appended, if the call succeeded
pub ok_behind : {T E : Type 0} (result : Result T E) (old more new : List ℕ)
    → new ≡ (if is_ok result then old ++ more else old) → OnOk result (new ≡ old ++ more)
ok_behind (Ok x) old more new is = is
ok_behind (Err e) old more new is = tt

-- a fact after success, from three facts that hold there
pub on_three : {T E P Q R S : Type 0} (result : Result T E) → (P → Q → R → S)
    → OnOk result P → OnOk result Q → OnOk result R → OnOk result S
on_three (Ok x) by p q r = by p q r
on_three (Err e) by p q r = tt
