-- Each lookup along a footprint in a list asks for numbers that it may ask for.
use Rattle.std.proofs.Common.{◌≡◌, ℕ, ◌-◌, ◌^◌, ◌≤◌, ◌==◌, Bool, true, false, List}
use Rattle.std.proofs.Common.{drop, get_or, Result, Ok, Err, arith, refl}
use Rattle.std.proofs.lemmas.Int.{ints}
use Rattle.std.specs.Prelude.{ℤ, pos, neg_ℤ, if◌then◌else◌}
use Rattle.std.specs.List.{All}
use Rattle.std.proofs.lemmas.Bool.{and_parts, leb-true}
use Rattle.tiff_format.specs.Limits.{max_channels}
use Rattle.texel_filter.specs.Deriv.{IsDerivNumber}
use Rattle.request_lang.specs.declared.request.Request.{Request}
use Rattle.request_lang.specs.declared.request.Request.TheVariants.{Info, Drop, Invalidate, Renew}
use Rattle.request_lang.specs.declared.request.Request.TheVariants.{InvalidateAll, Stat, Sync}
use Rattle.request_lang.specs.declared.cause.Cause.{Cause}
use Rattle.request_lang.specs.LineField.{min_channels, number_within, channel_count, mapped}
use Rattle.short_text.specs.Digits.{digits_number}
use Rattle.request_lang.specs.LineField.{signed, unsigned, footprint_number}
use Rattle.request_lang.specs.LineField.{max_footprint_below, max_footprint_above}
use Rattle.request_lang.specs.LineField.{wrap_mode, filter_mode, field, next_field, name_field}
use Rattle.request_lang.specs.RequestForm.{tex, texd, pixels, hold, forms, HasFootprint}
use Rattle.request_lang.specs.Grammar.{list_of}
use Rattle.request_lang.proofs.FormLemmas.{found, spells, named_is}
use Rattle.request_lang.proofs.FormLemmas.{IsGood, AreGood, good_named, good_alone, good_list}
use Rattle.request_lang.proofs.ChannelLemmas.{is_within, count_within}

-- ---- numbers

-- a number that is spelled is at most the largest one
at_most : (most : ℕ) (text : List ℕ) (n : ℕ) → number_within 0 most text ≡ Ok n → n ≤ most
unfolding number_within
at_most most text n is =
    leb-true n most (and_parts _ _ (is_within 0 most (digits_number text) n is)).1

below_zero : (n : ℕ) → n ≤ 2 ^ 30 → IsDerivNumber (neg_ℤ (pos n))
below_zero n few = record { low = omega (arith, ints); high = omega (arith, ints) }

above_zero : (n : ℕ) → n ≤ 2 ^ 30 - 1 → IsDerivNumber (pos n)
above_zero n few = record { low = omega (arith, ints); high = omega (arith, ints) }

-- what is made of a number that is spelled
made_of : (make : ℕ → ℤ) (said : Result ℕ Cause) (z : ℤ)
    → ((n : ℕ) → said ≡ Ok n → IsDerivNumber (make n)) → mapped make said ≡ Ok z
    → IsDerivNumber z
made_of make (Err cause) z good is = absurd cc
made_of make (Ok n) z good is = let same : make n ≡ z = cc in rw (← same) (good n refl)

in_range : (text : List ℕ) (z : ℤ) → footprint_number text ≡ Ok z → IsDerivNumber z
unfolding footprint_number
in_range text z is = by_test (get_or text 0 0 == 45) is
  where
    by_test : (b : Bool)
        → (if b then mapped (λ n. neg_ℤ (pos n)) (number_within 0 max_footprint_below (drop 1 text))
        else mapped pos (number_within 0 max_footprint_above text)) ≡ Ok z
        → IsDerivNumber z
    by_test true is =
        made_of (λ n. neg_ℤ (pos n)) (number_within 0 max_footprint_below (drop 1 text)) z
        (λ n said. below_zero n (at_most max_footprint_below (drop 1 text) n said)) is
    by_test false is =
        made_of (λ n. pos n) (number_within 0 max_footprint_above text) z
        (λ n said. above_zero n (at_most max_footprint_above text n said)) is

-- ---- forms

good_tex : IsGood HasFootprint tex
unfolding tex
good_tex text r is =
    let s = found (field signed text) _ r is in
    let t = found (field signed s.behind) _ r s.gives in
    let lod = found (field unsigned t.behind) _ r t.gives in
    let swrap = found (field wrap_mode lod.behind) _ r lod.gives in
    let twrap = found (field wrap_mode swrap.behind) _ r swrap.gives in
    let filter = found (field filter_mode twrap.behind) _ r twrap.gives in
    let nch = found (field channel_count filter.behind) _ r filter.gives in
    let name = named_is _ (name_field nch.behind) r nch.gives in
    rw name.1 tt

good_texd : IsGood HasFootprint texd
unfolding texd
good_texd text r is =
    let s = found (field footprint_number text) _ r is in
    let t = found (field footprint_number s.behind) _ r s.gives in
    let dsdx = found (field footprint_number t.behind) _ r t.gives in
    let dtdx = found (field footprint_number dsdx.behind) _ r dsdx.gives in
    let dsdy = found (field footprint_number dtdx.behind) _ r dtdx.gives in
    let dtdy = found (field footprint_number dsdy.behind) _ r dsdy.gives in
    let swrap = found (field wrap_mode dtdy.behind) _ r dtdy.gives in
    let twrap = found (field wrap_mode swrap.behind) _ r swrap.gives in
    let nch = found (field channel_count twrap.behind) _ r twrap.gives in
    let count = spells channel_count (next_field twrap.behind) nch.value nch.behind nch.is in
    let name = named_is _ (name_field nch.behind) r nch.gives in
    let s_text = spells footprint_number (next_field text) s.value s.behind s.is in
    let t_text = spells footprint_number (next_field s.behind) t.value t.behind t.is in
    let dsdx_text = spells footprint_number (next_field t.behind) dsdx.value dsdx.behind dsdx.is in
    let dtdx_text = spells footprint_number (next_field dsdx.behind) dtdx.value dtdx.behind dtdx.is in
    let dsdy_text = spells footprint_number (next_field dtdx.behind) dsdy.value dsdy.behind dsdy.is in
    let dtdy_text = spells footprint_number (next_field dsdy.behind) dtdy.value dtdy.behind dtdy.is in
    let channels = and_parts _ _ (count_within count.0 nch.value count.1) in
    rw name.1 (record {
      s = in_range s_text.0 s.value s_text.1;
      t = in_range t_text.0 t.value t_text.1;
      dsdx = in_range dsdx_text.0 dsdx.value dsdx_text.1;
      dtdx = in_range dtdx_text.0 dtdx.value dtdx_text.1;
      dsdy = in_range dsdy_text.0 dsdy.value dsdy_text.1;
      dtdy = in_range dtdy_text.0 dtdy.value dtdy_text.1;
      channels = record {
        low = leb-true min_channels nch.value channels.0;
        high = leb-true nch.value max_channels channels.1;
      };
    })

good_pixels : IsGood HasFootprint pixels
unfolding pixels
good_pixels text r is =
    let level = found (field unsigned text) _ r is in
    let x = found (field signed level.behind) _ r level.gives in
    let y = found (field signed x.behind) _ r x.gives in
    let w = found (field unsigned y.behind) _ r y.gives in
    let h = found (field unsigned w.behind) _ r w.gives in
    let name = named_is _ (name_field h.behind) r h.gives in
    rw name.1 tt

good_hold : IsGood HasFootprint hold
unfolding hold
good_hold text r is =
    let level = found (field unsigned text) _ r is in
    let x = found (field unsigned level.behind) _ r level.gives in
    let y = found (field unsigned x.behind) _ r x.gives in
    let name = named_is _ (name_field y.behind) r y.gives in
    rw name.1 tt

good_forms : AreGood HasFootprint forms
good_forms = (
  good_tex,
  (
    good_texd,
    (
      good_pixels,
      (
        good_named HasFootprint Info (λ n. tt),
        (
          good_hold,
          (
            good_alone HasFootprint Drop tt,
            (
              good_named HasFootprint Invalidate (λ n. tt),
              (
                good_named HasFootprint Renew (λ n. tt),
                (good_alone HasFootprint InvalidateAll tt, (good_alone HasFootprint Stat tt, (good_alone HasFootprint Sync tt, tt))),
              ),
            ),
          ),
        ),
      ),
    ),
  ),
)

pub list_footprints : (bytes : List ℕ) (requests : List Request) → list_of bytes ≡ Ok requests
    → All HasFootprint requests
list_footprints bytes requests is = good_list HasFootprint good_forms bytes requests is
