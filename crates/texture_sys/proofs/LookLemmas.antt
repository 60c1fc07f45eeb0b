-- What are the values of a lookup on a record?
use Rattle.std.proofs.Common.{◌≡◌, ◌∙◌, ℕ, List, length, map, Option, Some, None, Result, Ok, Err}
use Rattle.std.proofs.Common.{refl, sym, subst, zero-add, arith}
use Rattle.std.specs.Prelude.{IsOkAnd, IfErr, IfOk}
use Rattle.std.specs.List.{range_with_len}
use Rattle.std.specs.Option.{option_map_or}
use Rattle.std.proofs.lemmas.Grind.{same_number_lists}
use Rattle.std.proofs.lemmas.List.{length-map}
use Rattle.std.proofs.lemmas.List.FromFn.{get_or-map-range_with_len, length-range_with_len}
use Rattle.tex_world.specs.World.{Files}
use Rattle.tiff_format.specs.declared.fault.TiffFault.{TiffFault}
use Rattle.tiff_format.specs.Fault.{first_fault}
use Rattle.tile_layout.specs.Kept.{Kept, kept_of}
use Rattle.tile_layout.specs.Cell.{CellsFit}
use Rattle.tile_layout.specs.Value.{channel_value_of}
use Rattle.file_table.specs.Record.{RecordState, IsRecord, layout_of}
use Rattle.texture_sys.specs.declared.lookup.Lookups.{Lookups}
use Rattle.texture_sys.specs.declared.lookup.Lookups.TheVariants.{One, Many}
use Rattle.texture_sys.specs.declared.lookup.Lookup.{Lookup}
use Rattle.texel_filter.specs.Image.{AreValues, Image, image_of}
use Rattle.texture_sys.specs.declared.stopped.Stopped.{Stopped}
use Rattle.texture_sys.specs.Asked.{whole, channels_in, value_on, AreValuesOn, AreFirstOn}
use Rattle.image_cache.specs.Sizes.{sizes_known, sizes_by}
use Rattle.texture_sys.specs.Look.{picture_of}
use Rattle.texture_sys.specs.Call.{IsLookupOn}

-- case distinction on a result
pub by_result : {T E G : Type 0} (r : Result T E) → ((x : T) → r ≡ Ok x → G)
    → ((e : E) → r ≡ Err e → G) → G
by_result (Ok x) ok err = ok x refl
by_result (Err e) ok err = err e refl

-- a list of n values is the list of the values at 0 to n - 1
listed : (f : ℕ → ℕ) (n : ℕ) (values : List ℕ) → length values ≡ n → AreValues f values
    → values ≡ map f (range_with_len 0 n)
listed f n values long are =
    same_number_lists values (map f (range_with_len 0 n))
    (omega (arith, long, length-map (range_with_len 0 n) f, length-range_with_len 0 n))
    (λ k lt. are k lt
    ∙ sym (get_or-map-range_with_len f 0 n k k 0 (omega (arith, long)) (zero-add k)))

-- what the layout of a record says about the bytes of its generation
module _ (bytes : List ℕ) where
  good_by : (fault : Option TiffFault) (layout : Result Kept TiffFault) (P : Kept → Type 0)
      → layout ≡ option_map_or Err fault (Ok (kept_of bytes)) → IsOkAnd layout P
      → (fault ≡ None) × (layout ≡ Ok (kept_of bytes)) × P (kept_of bytes)
  good_by None layout P is fits =
      (refl, is, subst (λ (l : Result Kept TiffFault). IsOkAnd l P) is fits)
  good_by (Some fault) layout P is fits =
      absurd (subst (λ (l : Result Kept TiffFault). IsOkAnd l P) is fits)

  pub good_layout : (layout : Result Kept TiffFault) (P : Kept → Type 0)
      → layout ≡ layout_of bytes → IsOkAnd layout P
      → (first_fault bytes ≡ None) × (layout ≡ Ok (kept_of bytes)) × P (kept_of bytes)
  good_layout layout P is fits = good_by (first_fault bytes) layout P is fits

  bad_by : (fault : Option TiffFault) (layout : Result Kept TiffFault) (shown : TiffFault)
      → layout ≡ option_map_or Err fault (Ok (kept_of bytes)) → layout ≡ Err shown
      → fault ≡ Some shown
  bad_by None layout shown is bad = absurd (cc (is, bad))
  bad_by (Some fault) layout shown is bad = cc (is, bad)

  pub bad_layout : (layout : Result Kept TiffFault) (shown : TiffFault)
      → layout ≡ layout_of bytes → layout ≡ Err shown → first_fault bytes ≡ Some shown
  bad_layout layout shown is bad = bad_by (first_fault bytes) layout shown is bad

-- the image of a record is that of the file's bytes
image_told : (files : Files) (state : RecordState) (bytes : List ℕ) (P : Image → Type 0)
    → IsRecord files state → IsOkAnd state.layout (λ kept. CellsFit kept state.cut)
    → files.held state.file state.generation ≡ Some bytes
    → P (image_of (sizes_known state) (channel_value_of bytes)) → P (picture_of state.cut bytes)
image_told files state bytes P honest fits held are =
    let good = good_layout bytes state.layout (λ kept. CellsFit kept state.cut)
    (honest.layout bytes held) fits in
    subst (λ (l : Result Kept TiffFault). P (image_of (sizes_by state.cut l)
    (channel_value_of bytes))) good.1 are

-- the values of lookups on a record are those of lookups on the file's bytes
pub lookups_told : (files : Files) (state : RecordState) (r : Lookups) (out bytes : List ℕ)
    → IsRecord files state → IsOkAnd state.layout (λ kept. CellsFit kept state.cut)
    → files.held state.file state.generation ≡ Some bytes
    → AreValuesOn (image_of (sizes_known state) (channel_value_of bytes)) r out
    → IsLookupOn state.cut bytes r out
lookups_told files state r out bytes honest fits held are =
    let good = good_layout bytes state.layout (λ kept. CellsFit kept state.cut)
    (honest.layout bytes held) fits in
    record {
      good = good.0;
      fits = good.2;
      values = image_told files state bytes (λ image. AreValuesOn image r out) honest fits held are;
    }

-- the same of the first lookups
pub first_told : (files : Files) (state : RecordState) (r : Lookups) (done : ℕ) (out bytes : List ℕ)
    → IsRecord files state → IsOkAnd state.layout (λ kept. CellsFit kept state.cut)
    → files.held state.file state.generation ≡ Some bytes
    → AreFirstOn (image_of (sizes_known state) (channel_value_of bytes)) r done out
    → AreFirstOn (picture_of state.cut bytes) r done out
first_told files state r done out bytes honest fits held are =
    image_told files state bytes (λ image. AreFirstOn image r done out) honest fits held are

-- no lookup is always answered
pub none_first : (image : Image) (r : Lookups) (out : List ℕ) → AreFirstOn image r 0 out
none_first image (One r) out = tt
none_first image (Many b) out = λ i c below channel. absurd (omega (arith, below))

-- the values of one lookup
pub one_told : (image : Image) (r : Lookup) (out : List ℕ) → length out ≡ channels_in r
    → AreValues (value_on image r) out → AreValuesOn image (One r) out
one_told image r out long are = listed (value_on image r) (channels_in r) out long are

-- a consequence of every error's cause holds of the result
pub by_error : {T E : Type 0} {P Q : E → Type 0} (r : Result T E) → IfErr r P
    → ((e : E) → P e → Q e) → IfErr r Q
by_error (Ok x) cause each = tt
by_error (Err e) cause each = each e cause

-- what is true of an answer is true of it beside the number of answered lookups
pub ok_whole : {A E : Type 0} (r : Result A (Stopped E)) (P : A → Type 0) → IfOk (whole r) P
    → IfOk r P
ok_whole (Ok x) P h = h
ok_whole (Err stopped) P h = tt
