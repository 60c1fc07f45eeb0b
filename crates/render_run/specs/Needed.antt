-- Which cells did an answer need, as keys in the order in which they are counted?
-- (docs/REQUESTS.md, "The closing lines")
use Rattle.std.specs.Prelude.{◌≡◌, ℕ, Bool, true, false, List, [], map, Some}
use Rattle.std.specs.List.{range_with_len}
use Rattle.std.specs.Option.{ForSome}
use Rattle.tex_world.specs.World.{Files}
use Rattle.tiff_format.specs.declared.cut.Cut.{Cut}
use Rattle.tile_layout.specs.Kept.{kept_of}
use Rattle.tile_layout.specs.Key.{key_of}
use Rattle.tile_layout.specs.Cell.{CutLevel, cut_level_of}
use Rattle.texel_values.specs.declared.overlap.Overlap.{Overlap}
use Rattle.texel_values.specs.declared.region.Region.{Region}
use Rattle.texel_values.specs.Overlap.{IsOverlap}
use Rattle.texel_values.specs.Met.{cell_met, count_met}
use Rattle.tile_source.specs.Texel.{cell_of}
use Rattle.texture_sys.specs.declared.lookup_request.LookupRequest.{LookupRequest}
use Rattle.texture_sys.specs.declared.lookup_request.LookupRequest.TheVariants.{Point, Footprint}
use Rattle.texture_sys.specs.Asked.{asked_visits}
use Rattle.image_cache.specs.Sizes.{sizes_in}
use Rattle.image_cache.specs.Fetches.{at_of}
use Rattle.request_lang.specs.declared.answer.Answer.{Answer}
use Rattle.request_lang.specs.declared.answer.Answer.TheVariants.{Tex, Texd, Pixels}
use Rattle.request_lang.specs.declared.answer.Answer.TheVariants.{Invalidated, Renewed}
use Rattle.request_lang.specs.declared.answer.Answer.TheVariants.{InvalidatedAll}
use Rattle.request_lang.specs.Basis.{Basis, OnNewer, OnFault, OnMemory}
use Rattle.render_run.specs.declared.question.Question.{Question}
use Rattle.render_run.specs.declared.question.Question.TheVariants.{Values, Lookup}
use Rattle.render_run.specs.declared.question.Task.{Task}
use Rattle.render_run.specs.declared.question.Task.TheVariants.{Ask, Tile}

-- ---- from the bytes of a generation

-- for a lookup: the cell of each texel that it visits
abbrev pub lookup_keys : Cut → List ℕ → ℕ → ℕ → LookupRequest → List ℕ
lookup_keys cut bytes generation file r =
    map (λ texel. (cell_of generation file cut (kept_of bytes) (at_of texel)).key)
    (asked_visits (sizes_in (kept_of bytes) cut) r)

-- the cells of a level that a range of columns and rows meets, row by row
abbrev pub met_keys : ℕ → ℕ → ℕ → CutLevel → Overlap → Overlap → List ℕ
met_keys generation file level_is level columns rows =
    map (λ k. key_of generation file level_is (cell_met level columns rows k))
    (range_with_len 0 (count_met level columns rows))

-- for a region: each cell that it meets on its level
pub record AreRegionKeys (cut : Cut) (bytes : List ℕ) (generation file : ℕ) (r : Region)
    (keys : List ℕ) : Type 0 where
  pub columns : Overlap
  pub rows : Overlap
  pub across : IsOverlap r.x r.w (cut_level_of bytes cut r.level).width columns
  pub down : IsOverlap r.y r.h (cut_level_of bytes cut r.level).height rows
  pub are : keys ≡ met_keys generation file r.level (cut_level_of bytes cut r.level) columns rows

-- ---- for an answer

-- what an answer to a lookup needed: its cells, if the bytes of the answered generation are
-- modelled
abbrev pub AreLookupKeys : Files → Cut → ℕ → Answer → LookupRequest → List ℕ → Type 0
AreLookupKeys files cut n (Tex generation values) (Point r) keys = ForSome
    (files.held n generation) (λ bytes. keys ≡ lookup_keys cut bytes generation n (Point r))
AreLookupKeys files cut n (Texd generation values) (Footprint r) keys = ForSome
    (files.held n generation) (λ bytes. keys ≡ lookup_keys cut bytes generation n (Footprint r))
AreLookupKeys files cut n line r keys = keys ≡ []

-- What an answer to a question about a file needed: its cells for a lookup or a region, otherwise
-- nothing.
abbrev pub AreNeededOn : Files → Cut → ℕ → Question → Answer → List ℕ → Type 0
AreNeededOn files cut n (Lookup r) line keys = AreLookupKeys files cut n line r keys
AreNeededOn files cut n (Values r) (Pixels generation channels values) keys =
    ForSome (files.held n generation) (λ bytes. AreRegionKeys cut bytes generation n r keys)
AreNeededOn files cut n q line keys = keys ≡ []

-- what an answer needed; nothing if no file was asked
abbrev pub AreNeeded : Files → Cut → Task → Answer → List ℕ → Type 0
AreNeeded files cut (Ask (Some n) q) line keys = AreNeededOn files cut n q line keys
AreNeeded files cut (Tile (Some n) q) line keys = AreNeededOn files cut n q line keys
AreNeeded files cut task line keys = keys ≡ []

-- Whether the answer says that one file or all files were checked, which empties the worker's
-- microcache.
abbrev pub empties : Answer → Bool
empties (Invalidated generation) = true
empties (Renewed generation) = true
empties InvalidatedAll = true
empties _ = false

-- Whether an answer with this basis reports no failure: its cause is in the words, the names or the
-- bytes, and not an I/O error, a newer generation or out of memory.
abbrev pub is_calm : Basis → Bool
is_calm (OnNewer from to) = false
is_calm OnFault = false
is_calm OnMemory = false
is_calm _ = true
