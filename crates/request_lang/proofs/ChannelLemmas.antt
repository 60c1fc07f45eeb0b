-- Each lookup in a list asks for a number of channels that it may ask for.
use Rattle.std.proofs.Common.{◌≡◌, ℕ, ◌&&◌, nat_le, Bool, true, false, List, refl}
use Rattle.std.proofs.Common.{Option, Some, None, Ok, Err}
use Rattle.std.specs.Prelude.{if◌then◌else◌}
use Rattle.std.specs.List.{AllPass}
use Rattle.tiff_format.specs.Limits.{max_channels}
use Rattle.request_lang.specs.declared.request.Request.{Request}
use Rattle.request_lang.specs.declared.request.Request.TheVariants.{Info, Drop, Invalidate, Renew}
use Rattle.request_lang.specs.declared.request.Request.TheVariants.{InvalidateAll, Stat, Sync}
use Rattle.request_lang.specs.declared.cause.Cause.TheVariants.{OutOfRange}
use Rattle.request_lang.specs.LineField.{min_channels, within, number_within, channel_count}
use Rattle.short_text.specs.Digits.{digits_number}
use Rattle.request_lang.specs.LineField.{signed, unsigned, footprint_number}
use Rattle.request_lang.specs.LineField.{wrap_mode, filter_mode, field, next_field, name_field}
use Rattle.request_lang.specs.RequestForm.{tex, texd, pixels, hold, forms, has_channels}
use Rattle.request_lang.specs.Grammar.{list_of}
use Rattle.request_lang.proofs.FormLemmas.{found, spells, named_is}
use Rattle.request_lang.proofs.FormLemmas.{IsGood, AreGood, good_named, good_alone, good_list}

-- ---- fields

-- a number that is within two others
pub is_within : (least most : ℕ) (spelled : Option ℕ) (n : ℕ) → within least most spelled ≡ Ok n
    → (nat_le least n && nat_le n most) ≡ true
is_within least most None n is = absurd cc
is_within least most (Some m) n is = by_test (nat_le least m && nat_le m most) refl is
  where
    by_test : (b : Bool) → (nat_le least m && nat_le m most) ≡ b
        → (if b then Ok m else Err OutOfRange) ≡ Ok n
        → (nat_le least n && nat_le n most) ≡ true
    by_test true test is = cc
    by_test false test is = absurd cc

pub count_within : (text : List ℕ) (n : ℕ) → channel_count text ≡ Ok n
    → (nat_le min_channels n && nat_le n max_channels) ≡ true
unfolding number_within
count_within text n is = is_within min_channels max_channels (digits_number text) n is

-- ---- forms

-- a lookup among the requests asks for such a number
abbrev HasChannels : Request → Type 0
HasChannels r = has_channels r ≡ true

good_tex : IsGood HasChannels tex
unfolding tex
good_tex text r is =
    let s = found (field signed text) _ r is in
    let t = found (field signed s.behind) _ r s.gives in
    let lod = found (field unsigned t.behind) _ r t.gives in
    let swrap = found (field wrap_mode lod.behind) _ r lod.gives in
    let twrap = found (field wrap_mode swrap.behind) _ r swrap.gives in
    let filter = found (field filter_mode twrap.behind) _ r twrap.gives in
    let nch = found (field channel_count filter.behind) _ r filter.gives in
    let count = spells channel_count (next_field filter.behind) nch.value nch.behind nch.is in
    let name = named_is _ (name_field nch.behind) r nch.gives in
    rw name.1 (count_within count.0 nch.value count.1)

good_texd : IsGood HasChannels texd
unfolding texd
good_texd text r is =
    let s = found (field footprint_number text) _ r is in
    let t = found (field footprint_number s.behind) _ r s.gives in
    let dsdx = found (field footprint_number t.behind) _ r t.gives in
    let dtdx = found (field footprint_number dsdx.behind) _ r dsdx.gives in
    let dsdy = found (field footprint_number dtdx.behind) _ r dtdx.gives in
    let dtdy = found (field footprint_number dsdy.behind) _ r dsdy.gives in
    let swrap = found (field wrap_mode dtdy.behind) _ r dtdy.gives in
    let twrap = found (field wrap_mode swrap.behind) _ r swrap.gives in
    let nch = found (field channel_count twrap.behind) _ r twrap.gives in
    let count = spells channel_count (next_field twrap.behind) nch.value nch.behind nch.is in
    let name = named_is _ (name_field nch.behind) r nch.gives in
    rw name.1 (count_within count.0 nch.value count.1)

good_pixels : IsGood HasChannels pixels
unfolding pixels
good_pixels text r is =
    let level = found (field unsigned text) _ r is in
    let x = found (field signed level.behind) _ r level.gives in
    let y = found (field signed x.behind) _ r x.gives in
    let w = found (field unsigned y.behind) _ r y.gives in
    let h = found (field unsigned w.behind) _ r w.gives in
    let name = named_is _ (name_field h.behind) r h.gives in
    rw name.1 refl

good_hold : IsGood HasChannels hold
unfolding hold
good_hold text r is =
    let level = found (field unsigned text) _ r is in
    let x = found (field unsigned level.behind) _ r level.gives in
    let y = found (field unsigned x.behind) _ r x.gives in
    let name = named_is _ (name_field y.behind) r y.gives in
    rw name.1 refl

good_forms : AreGood HasChannels forms
good_forms = (
  good_tex,
  (
    good_texd,
    (
      good_pixels,
      (
        good_named HasChannels Info (λ n. refl),
        (
          good_hold,
          (
            good_alone HasChannels Drop refl,
            (
              good_named HasChannels Invalidate (λ n. refl),
              (
                good_named HasChannels Renew (λ n. refl),
                (good_alone HasChannels InvalidateAll refl, (good_alone HasChannels Stat refl, (good_alone HasChannels Sync refl, tt))),
              ),
            ),
          ),
        ),
      ),
    ),
  ),
)

pub list_channels : (bytes : List ℕ) (requests : List Request) → list_of bytes ≡ Ok requests
    → AllPass has_channels requests
list_channels bytes requests is = good_list HasChannels good_forms bytes requests is
