-- Which request is the text of a lookup?
use Rattle.std.proofs.Common.{◌≡◌, ℕ, ◌-◌, ◌%◌, ◌<◌, ◌≤◌, ◌^◌, codes}
use Rattle.std.proofs.Common.{◌∷◌, ◌++◌, length, Ok, refl, ◌∙◌, arith, subst, inl, inr}
use Rattle.std.specs.Prelude.{pos, negsuc, ◌-ℤ◌, decimal}
use Rattle.std.specs.Fmt.{signed_decimal}
use Rattle.std.proofs.lemmas.Bool.{and_from, ne_eqb, cases_lt}
use Rattle.std.proofs.lemmas.Int.{ints}
use Rattle.std.proofs.lemmas.List.Folds.{list_all-append}
use Rattle.texel_filter.specs.declared.mode.Wrap.{Wrap}
use Rattle.texel_filter.specs.declared.mode.Wrap.TheVariants.{Black, Clamp, Periodic, Mirror}
use Rattle.texel_filter.specs.declared.request.TexRequest.{TexRequest}
use Rattle.texel_filter.specs.declared.request.Filter.{Filter}
use Rattle.texel_filter.specs.declared.request.Filter.TheVariants.{Closest, Bilinear, Trilinear}
use Rattle.request_lang.specs.LineField.{wrap_mode}
use Rattle.request_lang.specs.LineField.{filter_mode, name_field, max_unsigned}
use Rattle.request_lang.specs.RequestForm.{request_of, tex, named}
use Rattle.request_lang.specs.declared.request.Request.TheVariants.{Tex}
use Rattle.sample_run.specs.declared.lookup.SampleLookup.{SampleLookup}
use Rattle.sample_run.specs.SampleLookup as spec
use Rattle.sample_run.proofs.PlainLemmas.{ArePlain, ArePrinted, is_printed, printed}
use Rattle.sample_run.proofs.PlainLemmas.{one_field, printed_text}
use Rattle.sample_run.proofs.NumberLemmas.{IsSigned, decimal_plain, decimal_within, signed_number}
use Rattle.sample_run.proofs.NumberLemmas.{signed_plain}
use Rattle.sample_run.proofs.FieldLemmas.{word_before, rest_from, signed_then, unsigned_then}
use Rattle.sample_run.proofs.FieldLemmas.{wrap_then, filter_then, channels_then}

-- ---- words

wrap_plain : (w : Wrap) → ArePlain (spec.wrap_word w)
wrap_plain Black = refl
wrap_plain Clamp = refl
wrap_plain Periodic = refl
wrap_plain Mirror = refl

wrap_reads : (w : Wrap) → wrap_mode (spec.wrap_word w) ≡ Ok w
unfolding wrap_mode
wrap_reads Black = refl
wrap_reads Clamp = refl
wrap_reads Periodic = refl
wrap_reads Mirror = refl

filter_plain : (f : Filter) → ArePlain (spec.filter_word f)
filter_plain Closest = refl
filter_plain Bilinear = refl
filter_plain Trilinear = refl

filter_reads : (f : Filter) → filter_mode (spec.filter_word f) ≡ Ok f
unfolding filter_mode
filter_reads Closest = refl
filter_reads Bilinear = refl
filter_reads Trilinear = refl

-- ---- a lookup

-- the lookup's numbers are in the ranges of a list
pub record IsListed (l : SampleLookup) : Type 0 where
  pub s : IsSigned l.request.s
  pub t : IsSigned l.request.t
  pub lod : l.request.lod < 2 ^ 32
  pub least : 1 ≤ l.request.nch
  pub most : l.request.nch ≤ 8
  pub file : l.file < 2 ^ 64

-- the name of a file is printed
name_printed : (file : ℕ) → file < 2 ^ 64 → ArePrinted (spec.file_name file)
name_printed file low =
    list_all-append is_printed (codes "sample") (decimal file ++ codes ".tif")
    ∙ list_all-append is_printed (decimal file) (codes ".tif")
    ∙ and_from _ _ (printed (decimal file) (decimal_plain file low)) refl

-- the name is the last field
name_reads : (file : ℕ) → name_field (32 ∷ spec.file_name file) ≡ Ok (spec.file_name file)
unfolding name_field
name_reads file =
    rw (ne_eqb (length (spec.file_name file)) 0 (λ none. absurd (omega (arith, none)))) refl

name_last : (request : TexRequest) (file : ℕ)
    → named (Tex request) (32 ∷ spec.file_name file) ≡ Ok (Tex request (spec.file_name file))
name_last request file = rw (name_reads file) refl

module _ (l : SampleLookup) (listed : IsListed l) where
  -- the text is one line
  pub lookup_printed : ArePrinted (spec.lookup_text l)
  lookup_printed =
      let nch : l.request.nch < 2 ^ 64 = omega (arith, listed.most) in
      let lod : l.request.lod < 2 ^ 64 = omega (arith, listed.lod) in
      one_field (signed_decimal l.request.s) _ (signed_plain l.request.s listed.s)
      (one_field (signed_decimal l.request.t) _ (signed_plain l.request.t listed.t)
      (one_field (decimal l.request.lod) _ (decimal_plain l.request.lod lod)
      (one_field (spec.wrap_word l.request.swrap) _ (wrap_plain l.request.swrap)
      (one_field (spec.wrap_word l.request.twrap) _ (wrap_plain l.request.twrap)
      (one_field (spec.filter_word l.request.filter) _ (filter_plain l.request.filter)
      (one_field (decimal l.request.nch) _ (decimal_plain l.request.nch nch)
      (name_printed l.file listed.file)))))))

  -- what follows the first word of a lookup's line has its form
  tex_reads : tex (spec.behind_space (signed_decimal l.request.s)
      (spec.behind_space (signed_decimal l.request.t)
      (spec.behind_space (decimal l.request.lod)
      (spec.behind_space (spec.wrap_word l.request.swrap)
      (spec.behind_space (spec.wrap_word l.request.twrap)
      (spec.behind_space (spec.filter_word l.request.filter)
      (spec.behind_space (decimal l.request.nch) (32 ∷ spec.file_name l.file))))))))
      ≡ Ok (Tex l.request (spec.file_name l.file))
  unfolding tex
  tex_reads =
      let nch : l.request.nch < 2 ^ 64 = omega (arith, listed.most) in
      let lod : l.request.lod < 2 ^ 64 = omega (arith, listed.lod) in
      signed_then (signed_decimal l.request.s) _ (signed_plain l.request.s listed.s)
      l.request.s _ (signed_number l.request.s listed.s)
      ∙ signed_then (signed_decimal l.request.t) _ (signed_plain l.request.t listed.t)
      l.request.t _ (signed_number l.request.t listed.t)
      ∙ unsigned_then (decimal l.request.lod) _ (decimal_plain l.request.lod lod)
      l.request.lod _
      (decimal_within 0 max_unsigned l.request.lod (omega (arith, listed.lod)) (omega arith)
      (omega (arith, listed.lod)))
      ∙ wrap_then (spec.wrap_word l.request.swrap) _ (wrap_plain l.request.swrap)
      l.request.swrap _ (wrap_reads l.request.swrap)
      ∙ wrap_then (spec.wrap_word l.request.twrap) _ (wrap_plain l.request.twrap)
      l.request.twrap _ (wrap_reads l.request.twrap)
      ∙ filter_then (spec.filter_word l.request.filter) _ (filter_plain l.request.filter)
      l.request.filter _ (filter_reads l.request.filter)
      ∙ channels_then (decimal l.request.nch) _ (decimal_plain l.request.nch nch)
      l.request.nch _
      (decimal_within 1 8 l.request.nch (omega (arith, listed.most)) listed.least listed.most)
      ∙ name_last l.request l.file

  -- the text is its request
  pub lookup_reads : request_of (spec.lookup_text l) ≡ Ok (Tex l.request (spec.file_name l.file))
  unfolding request_of
  lookup_reads =
      rw (
        printed_text (spec.lookup_text l) lookup_printed,
        word_before (codes "tex") _ refl,
        rest_from (codes "tex") _ refl,
      ) tex_reads

-- ---- lookups that are made

-- a coordinate is a number of 32 bits
coordinate_signed : (n : ℕ) → IsSigned (spec.coordinate n)
coordinate_signed n = by_value (n % 131072) (omega arith)
  where
    by_value : (m : ℕ) → m < 131072 → IsSigned (pos m -ℤ pos 32768)
    by_value m low = elim (cases_lt m 32768) [
      | inl below ↦
          let e : negsuc (32767 - m) ≡ pos m -ℤ pos 32768 = omega (arith, ints) in
          subst IsSigned e (omega arith)
      | inr above ↦
          let e : pos (m - 32768) ≡ pos m -ℤ pos 32768 = omega (arith, ints) in
          subst IsSigned e (omega arith)
    ]

-- each is in the ranges of a list
pub lookup_listed : (state : ℕ) → IsListed (spec.lookup state)
unfolding spec.lookup
lookup_listed state = record {
  s = coordinate_signed (spec.draw_of 1 state);
  t = coordinate_signed (spec.draw_of 2 state);
  lod = omega arith;
  least = omega arith;
  most = omega arith;
  file = omega arith;
}
