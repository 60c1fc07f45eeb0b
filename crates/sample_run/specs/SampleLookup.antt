-- Which lookups are made from drawn numbers, and what are their texts?
-- (docs/REQUESTS.md, "The sample program")
use Rattle.std.specs.Prelude.{ℕ, zero, suc, ◌+◌, ◌%◌, ◌==◌, codes, decimal, List, ◌∷◌, ◌++◌}
use Rattle.std.specs.Prelude.{ℤ, pos, ◌-ℤ◌, if◌then◌else◌}
use Rattle.std.specs.Fmt.{signed_decimal}
use Rattle.texel_filter.specs.declared.mode.Wrap.{Wrap}
use Rattle.texel_filter.specs.declared.mode.Wrap.TheVariants.{Black, Clamp, Periodic, Mirror}
use Rattle.texel_filter.specs.declared.request.Filter.{Filter}
use Rattle.texel_filter.specs.declared.request.Filter.TheVariants.{Closest, Bilinear, Trilinear}
use Rattle.short_text.specs.Words.{space}
use Rattle.sample_run.specs.declared.lookup.SampleLookup.{SampleLookup}
use Rattle.sample_run.specs.Draw.{next_state, drawn}

-- ---- values of a drawn number

-- S, T: from -32768 to 98303
abbrev pub coordinate : ℕ → ℤ
coordinate n = pos (n % 131072) -ℤ pos 32768

-- SWRAP, TWRAP
abbrev pub wrap : ℕ → Wrap
wrap n =
    if n % 4 == 0 then Black else if n % 4 == 1 then Clamp
    else if n % 4 == 2 then Periodic else Mirror

-- FILTER
abbrev pub filter : ℕ → Filter
filter n = if n % 3 == 0 then Closest else if n % 3 == 1 then Bilinear else Trilinear

-- ---- a lookup

-- a lookup made of eight drawn numbers, in the order of its fields
abbrev pub lookup_of : ℕ → ℕ → ℕ → ℕ → ℕ → ℕ → ℕ → ℕ → SampleLookup
lookup_of a b c d e f g h = record {
  request = record {
    s = coordinate a;
    t = coordinate b;
    lod = c % 524288;
    swrap = wrap d;
    twrap = wrap e;
    filter = filter f;
    nch = 1 + g % 4;
  };
  file = h % 8;
}

-- the state after this many draws
abbrev pub state_behind : ℕ → ℕ → ℕ
state_behind zero state = state
state_behind (suc count) state = next_state (state_behind count state)

-- the drawn number of the draw with this index, counted from 1
abbrev pub draw_of : ℕ → ℕ → ℕ
draw_of number state = drawn (state_behind number state)

-- the lookup that is made in a state
unfoldable pub lookup : ℕ → SampleLookup
lookup state =
    lookup_of (draw_of 1 state) (draw_of 2 state) (draw_of 3 state) (draw_of 4 state)
    (draw_of 5 state) (draw_of 6 state) (draw_of 7 state) (draw_of 8 state)

-- the state after a lookup was made
abbrev pub behind_lookup : ℕ → ℕ
behind_lookup state = state_behind 8 state

-- ---- its text

-- the word for a wrap
abbrev pub wrap_word : Wrap → List ℕ
wrap_word Black = codes "black"
wrap_word Clamp = codes "clamp"
wrap_word Periodic = codes "periodic"
wrap_word Mirror = codes "mirror"

-- the word for a filter
abbrev pub filter_word : Filter → List ℕ
filter_word Closest = codes "closest"
filter_word Bilinear = codes "bilinear"
filter_word Trilinear = codes "trilinear"

-- the name of a sample file
abbrev pub file_name : ℕ → List ℕ
file_name file = codes "sample" ++ (decimal file ++ codes ".tif")

-- a field after a space, followed by the rest
abbrev pub behind_space : List ℕ → List ℕ → List ℕ
behind_space word rest = space ∷ (word ++ rest)

-- tex S T LOD SWRAP TWRAP FILTER NCH NAME
abbrev pub lookup_text : SampleLookup → List ℕ
lookup_text l =
    codes "tex" ++ behind_space (signed_decimal l.request.s)
    (behind_space (signed_decimal l.request.t)
    (behind_space (decimal l.request.lod)
    (behind_space (wrap_word l.request.swrap)
    (behind_space (wrap_word l.request.twrap)
    (behind_space (filter_word l.request.filter)
    (behind_space (decimal l.request.nch)
    (space ∷ file_name l.file)))))))
