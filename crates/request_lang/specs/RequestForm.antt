-- Which request does a line make? (docs/REQUESTS.md, "The forms")
use Rattle.std.specs.Prelude.{ℕ, ◌==◌, codes, List, [], ◌∷◌, length, Option, Some, None}
use Rattle.std.specs.Prelude.{Result, Ok, Err, if◌then◌else◌, Bool, true, nat_le, ◌&&◌, ⊤}
use Rattle.std.specs.Str.{is_utf8}
use Rattle.request_lang.specs.declared.request.Request.{Request}
use Rattle.request_lang.specs.declared.request.Request.TheVariants.{Tex, Texd, Pixels, Info, Hold}
use Rattle.request_lang.specs.declared.request.Request.TheVariants.{Drop}
use Rattle.request_lang.specs.declared.request.Request.TheVariants.{Invalidate, Renew}
use Rattle.request_lang.specs.declared.request.Request.TheVariants.{InvalidateAll, Stat, Sync}
use Rattle.request_lang.specs.declared.cause.Cause.{Cause}
use Rattle.request_lang.specs.declared.cause.Cause.TheVariants.{UnknownWord, TrailingText, NotUtf8}
use Rattle.short_text.specs.Words.{before_space, from_space}
use Rattle.request_lang.specs.LineField.{field, name_field, mapped}
use Rattle.request_lang.specs.LineField.{meaning}
use Rattle.request_lang.specs.LineField.{min_channels, signed, unsigned, channel_count, wrap_mode, filter_mode}
use Rattle.request_lang.specs.LineField.{footprint_number}
use Rattle.tiff_format.specs.Limits.{max_channels}
use Rattle.texel_filter.specs.Deriv.{IsDerivRequest}

-- a form: which request the bytes after the first word make, or the first cause why they do not
abbrev pub RequestForm : Type 0
RequestForm = List ℕ → Result Request Cause

-- the rest of a form, given a field's value and what follows it
abbrev pub then_with : {A : Type 0} → Result (A × List ℕ) Cause → (A → RequestForm)
    → Result Request Cause
then_with (Ok f) rest = rest f.0 f.1
then_with (Err cause) rest = Err cause

-- one field, and then the rest of the form
infixl 10 ◌>>=◌
abbrev pub ◌>>=◌ : {A : Type 0} → (List ℕ → Result A Cause) → (A → RequestForm) → RequestForm
(kind >>= rest) text = then_with (field kind text) rest

-- the last field is the name of a file
abbrev pub named : (List ℕ → Request) → RequestForm
named request text = mapped request (name_field text)

-- there are no fields; even one space is an error
abbrev pub alone : Request → RequestForm
alone request text = if length text == 0 then Ok request else Err TrailingText

-- ---- the forms with several fields, from left to right

-- tex S T LOD SWRAP TWRAP FILTER NCH NAME
unfoldable pub tex : RequestForm
tex = do
  s ← signed
  t ← signed
  lod ← unsigned
  swrap ← wrap_mode
  twrap ← wrap_mode
  filter ← filter_mode
  nch ← channel_count
  named (Tex (record {
    s = s;
    t = t;
    lod = lod;
    swrap = swrap;
    twrap = twrap;
    filter = filter;
    nch = nch;
  }))

-- texd S T DSDX DTDX DSDY DTDY SWRAP TWRAP NCH NAME
unfoldable pub texd : RequestForm
texd = do
  s ← footprint_number
  t ← footprint_number
  dsdx ← footprint_number
  dtdx ← footprint_number
  dsdy ← footprint_number
  dtdy ← footprint_number
  swrap ← wrap_mode
  twrap ← wrap_mode
  nch ← channel_count
  named (Texd (record {
    s = s;
    t = t;
    dsdx = dsdx;
    dtdx = dtdx;
    dsdy = dsdy;
    dtdy = dtdy;
    swrap = swrap;
    twrap = twrap;
    nch = nch;
  }))

-- pixels LEVEL X Y W H NAME
unfoldable pub pixels : RequestForm
pixels = do
  level ← unsigned
  x ← signed
  y ← signed
  w ← unsigned
  h ← unsigned
  named (Pixels level x y w h)

-- hold LEVEL X Y NAME
unfoldable pub hold : RequestForm
hold = do
  level ← unsigned
  x ← unsigned
  y ← unsigned
  named (Hold level x y)

-- whether a lookup asks for an allowed number of channels
abbrev pub has_channels : Request → Bool
has_channels (Tex r name) = nat_le min_channels r.nch && nat_le r.nch max_channels
has_channels (Texd r name) = nat_le min_channels r.nch && nat_le r.nch max_channels
has_channels _ = true

-- a lookup along a footprint has allowed numbers
abbrev pub HasFootprint : Request → Type 0
HasFootprint (Texd r name) = IsDerivRequest r
HasFootprint _ = ⊤

-- ---- the forms

-- the form that each first word begins
abbrev pub forms : List (List ℕ × RequestForm)
forms =
    (codes "tex", tex)
    ∷ (codes "texd", texd)
    ∷ (codes "pixels", pixels)
    ∷ (codes "info", named Info)
    ∷ (codes "hold", hold)
    ∷ (codes "drop", alone Drop)
    ∷ (codes "invalidate", named Invalidate)
    ∷ (codes "renew", named Renew)
    ∷ (codes "invalidate_all", alone InvalidateAll)
    ∷ (codes "stat", alone Stat)
    ∷ (codes "sync", alone Sync) ∷ []

-- what the bytes after a first word make, if the word begins a form
abbrev pub formed : Option RequestForm → RequestForm
formed None text = Err UnknownWord
formed (Some form) text = form text

-- The request of a line, or the first cause from left to right why it has none. Its first word ends
-- before the first space.
unfoldable pub request_of : List ℕ → Result Request Cause
request_of line =
    if is_utf8 line then formed (meaning forms (before_space line)) (from_space line)
    else Err NotUtf8
