-- What a call of the cache leaves of what a worker has counted.
use Rattle.std.proofs.Common.{◌≡◌, ℕ, zero, suc, ◌+◌, ◌-◌, ◌*◌, ◌/◌, ◌<◌, ◌≤◌, ◌==◌, Bool, true, false, List, [], ◌++◌}
use Rattle.std.proofs.Common.{length, take, refl, sym, ap, subst, ◌∙◌, Option, Some, None, Result, Ok, Err}
use Rattle.std.proofs.Common.{if◌then◌else◌, arith}
use Rattle.std.specs.Prelude.{IsSomeAnd, IsSome, IfOk}
use Rattle.std.specs.Option.{ForSome}
use Rattle.std.proofs.lemmas.List.{length-map}
use Rattle.std.proofs.Math.Seq.{take-append_seam}
use Rattle.std.proofs.lemmas.List.FromFn.{length-map-range_with_len}
use Rattle.std.proofs.Math.Nat.{mul-le-mul, mul-le-mul_left, add-mul, mul_comm}
use native.Mathlib.Nat.{lt-div-mul-add, div-lt_iff_lt-mul, div-zero}
use Rattle.std.proofs.lemmas.Bool.{eqb-false}
use Rattle.tex_world.specs.World.{Files, IsReal}
use Rattle.tiff_format.specs.declared.fault.TiffFault.{TiffFault}
use Rattle.tiff_format.specs.declared.cut.Cut.{Cut}
use Rattle.tiff_format.specs.Fault.{first_fault}
use Rattle.tile_layout.specs.Kept.{Kept, kept_of}
use Rattle.tile_layout.specs.Cell.{CutLevel, cut_level_in, cut_level_of}
use Rattle.tile_layout.specs.Grid.{shown_grid}
use Rattle.file_table.specs.Record.{RecordState}
use Rattle.file_table.specs.Calls.{GivesRecord}
use Rattle.texture_sys.specs.declared.lookup_request.LookupRequest.{LookupRequest}
use Rattle.texture_sys.specs.declared.lookup.Lookup.TheVariants.{Coarse}
use Rattle.texture_sys.specs.declared.lookup.Lookups.TheVariants.{One}
use Rattle.texture_sys.specs.Asked.{asked_visits}
use Rattle.texel_values.specs.declared.overlap.Overlap.{Overlap}
use Rattle.texel_values.specs.declared.region.Region.{Region}
use Rattle.texel_values.specs.Region.{max_texels}
use Rattle.texel_values.specs.Overlap.{IsOverlap}
use Rattle.texel_values.specs.Area.{area_cells}
use Rattle.texel_values.specs.Met.{cells_met, count_met}
use Rattle.tile_source.specs.declared.error.CacheError.{CacheError}
use Rattle.tile_source.specs.declared.error.CacheError.TheVariants as refused
use Rattle.tile_source.specs.Pass.{PassState, counted_together}
use Rattle.tile_source.specs.Call.{Needs, CountsOn, NoneUncached}
use Rattle.image_cache.specs.Call.{KeepsRecent, KeepsGiven}
use Rattle.image_cache.specs.Cause.{KeepsRecentAt}
use Rattle.image_cache.specs.Region.{ReadsRegion, area_keys}
use Rattle.image_cache.specs.Sizes.{sizes_by, sizes_in}
use Rattle.texture_sys.specs.Needs.{lookup_keys_on, visits_on, NeedsCells}
use Rattle.texture_sys.proofs.LookLemmas.{bad_layout}
use Rattle.texture_sys.specs.Call.{IsLookedUp}
use Rattle.request_lang.specs.declared.answer.Answer.{Answer}
use Rattle.request_lang.specs.declared.answer.Answer.TheVariants as line
use Rattle.request_lang.specs.Basis.{basis_of}
use Rattle.render_run.specs.declared.question.Question.{Question}
use Rattle.render_run.specs.declared.question.Question.TheVariants.{Lookup, Values}
use Rattle.render_run.specs.declared.question.Task.{Task}
use Rattle.render_run.specs.declared.question.Task.TheVariants.{Ask, Tile}
use Rattle.render_run.specs.Around.{Tally, tally_of}
use Rattle.render_run.specs.Needed.{AreNeeded, lookup_keys, met_keys, empties, is_calm}
use Rattle.render_run.specs.Refusal.{refusal_of}
use Rattle.render_run.specs.Tallied.{TalliesAs, TalliesAnswer}
use Rattle.render_run.proofs.GivenLemmas.{kept_told}
use Rattle.render_run.proofs.VisitCounts.{visits_few}

-- ---- nothing was needed

module _ (files : Files) (cut : Cut) (task : Task) (old new : Tally) (line : Answer)
    (none : AreNeeded files cut task line []) where
  -- the microcache and the counts are as they were
  pub keeps_tally : new.recent ≡ old.recent → new.needs ≡ old.needs → new.hits ≡ old.hits
      → new.apart ≡ old.apart → empties line ≡ false → TalliesAnswer files cut task old new line
  keeps_tally recent needs hits apart kept = record {
    needed = [];
    are = none;
    few = omega arith;
    least = omega (arith, needs);
    later = omega (arith, apart);
    counts = λ tells calm none_apart low.
        subst (λ (b : Bool). TalliesAs b [] old new) (sym kept) (record {
          answers = [];
          asked = recent;
          needs = needs ∙ omega (arith, low.needs);
          hits = hits ∙ omega (arith, low.hits);
        });
  }

  -- the answer reports a failure
  pub fails_tally : old.needs ≤ new.needs → old.apart ≤ new.apart
      → is_calm (basis_of line) ≡ false → TalliesAnswer files cut task old new line
  fails_tally needs apart fails = record {
    needed = [];
    are = none;
    few = omega arith;
    least = omega (arith, needs);
    later = apart;
    counts = λ tells calm none_apart low. absurd (cc (fails, calm));
  }

-- a question to the file of a tile counts as one to any file
pub tile_tally : (files : Files) (cut : Cut) (n : ℕ) (q : Question) (old new : Tally) (line : Answer)
    → TalliesAnswer files cut (Ask (Some n) q) old new line
    → TalliesAnswer files cut (Tile (Some n) q) old new line
tile_tally files cut n q old new line t = record {
  needed = t.needed;
  are = t.are;
  few = t.few;
  least = t.least;
  later = t.later;
  counts = t.counts;
}

-- an error does not empty the microcache
pub refusal_keeps : {B : Type 0} → (e : CacheError B) → empties (refusal_of e) ≡ false
refusal_keeps (refused.BadFile generation fault) = refl
refusal_keeps (refused.TileTooLarge generation) = refl
refusal_keeps (refused.NoLevel generation levels) = refl
refusal_keeps (refused.Outside generation) = refl
refusal_keeps refused.RegionTooLarge = refl
refusal_keeps refused.HoldsFull = refl
refusal_keeps (refused.Again from to) = refl
refusal_keeps refused.ReadFault = refl
refusal_keeps refused.NoMemory = refl
refusal_keeps (refused.Busy b) = refl

module _ (files : Files) (cut : Cut) (file : ℕ) (old new : PassState) where
  -- a failed lookup needs nothing that is counted in its line
  lookup_refused : {B : Type 0} → (r : LookupRequest) (e : CacheError B)
      → AreNeeded files cut (Ask (Some file) (Lookup r)) (refusal_of e) []
  lookup_refused r (refused.BadFile generation fault) = refl
  lookup_refused r (refused.TileTooLarge generation) = refl
  lookup_refused r (refused.NoLevel generation levels) = refl
  lookup_refused r (refused.Outside generation) = refl
  lookup_refused r refused.RegionTooLarge = refl
  lookup_refused r refused.HoldsFull = refl
  lookup_refused r (refused.Again from to) = refl
  lookup_refused r refused.ReadFault = refl
  lookup_refused r refused.NoMemory = refl
  lookup_refused r (refused.Busy b) = refl

  region_refused : {B : Type 0} → (r : Region) (e : CacheError B)
      → AreNeeded files cut (Ask (Some file) (Values r)) (refusal_of e) []
  region_refused r (refused.BadFile generation fault) = refl
  region_refused r (refused.TileTooLarge generation) = refl
  region_refused r (refused.NoLevel generation levels) = refl
  region_refused r (refused.Outside generation) = refl
  region_refused r refused.RegionTooLarge = refl
  region_refused r refused.HoldsFull = refl
  region_refused r (refused.Again from to) = refl
  region_refused r refused.ReadFault = refl
  region_refused r refused.NoMemory = refl
  region_refused r (refused.Busy b) = refl

  -- an error caused by the words or the bytes leaves the counts unchanged
  refused_kept : {B : Type 0} → (task : Task) (e : CacheError B)
      → AreNeeded files cut task (refusal_of e) [] → KeepsRecent old new
      → TalliesAnswer files cut task (tally_of old) (tally_of new) (refusal_of e)
  refused_kept task e none kept =
      keeps_tally files cut task (tally_of old) (tally_of new) (refusal_of e) none kept.recent
      kept.counts.needs kept.counts.hits kept.counts.apart (refusal_keeps e)

  refused_by : {B : Type 0} → (task : Task) (e : CacheError B)
      → AreNeeded files cut task (refusal_of e) [] → KeepsRecentAt old new e → CountsOn old new
      → TalliesAnswer files cut task (tally_of old) (tally_of new) (refusal_of e)
  refused_by task (refused.Again from to) none kept on =
      fails_tally files cut task (tally_of old) (tally_of new) (line.Again from to) none on.needs on.apart refl
  refused_by task refused.ReadFault none kept on =
      fails_tally files cut task (tally_of old) (tally_of new) line.ReadFault none on.needs on.apart refl
  refused_by task refused.NoMemory none kept on =
      fails_tally files cut task (tally_of old) (tally_of new) line.NoMemory none on.needs on.apart refl
  refused_by task (refused.Busy b) none kept on =
      fails_tally files cut task (tally_of old) (tally_of new) line.NoMemory none on.needs on.apart refl
  refused_by {B = B} task (refused.BadFile generation fault) none kept on =
      refused_kept {B = B} task (refused.BadFile generation fault) none kept
  refused_by {B = B} task (refused.TileTooLarge generation) none kept on =
      refused_kept {B = B} task (refused.TileTooLarge generation) none kept
  refused_by {B = B} task (refused.NoLevel generation levels) none kept on =
      refused_kept {B = B} task (refused.NoLevel generation levels) none kept
  refused_by {B = B} task (refused.Outside generation) none kept on =
      refused_kept {B = B} task (refused.Outside generation) none kept
  refused_by {B = B} task refused.RegionTooLarge none kept on =
      refused_kept {B = B} task refused.RegionTooLarge none kept
  refused_by {B = B} task refused.HoldsFull none kept on =
      refused_kept {B = B} task refused.HoldsFull none kept

  pub lookup_fails : {B : Type 0} → (r : LookupRequest) (e : CacheError B) → KeepsRecentAt old new e
      → CountsOn old new
      → TalliesAnswer files cut (Ask (Some file) (Lookup r)) (tally_of old) (tally_of new)
      (refusal_of e)
  lookup_fails r e kept on =
      refused_by (Ask (Some file) (Lookup r)) e (lookup_refused r e) kept on

  pub region_fails : {B : Type 0} → (r : Region) (e : CacheError B) → KeepsRecentAt old new e
      → CountsOn old new
      → TalliesAnswer files cut (Ask (Some file) (Values r)) (tally_of old) (tally_of new)
      (refusal_of e)
  region_fails r e kept on =
      refused_by (Ask (Some file) (Values r)) e (region_refused r e) kept on

-- ---- cells were needed

-- the keys of several cells, with or without uncached needs
pub needs_tally : (files : Files) (cut : Cut) (task : Task) (line : Answer) (keys : List ℕ)
    (old new : PassState) → AreNeeded files cut task line keys → length keys ≤ max_texels
    → new.needs ≡ counted_together old.needs (length keys) → old.apart ≤ new.apart
    → (new.apart ≡ 0 → Needs files keys old new) → empties line ≡ false
    → TalliesAnswer files cut task (tally_of old) (tally_of new) line
needs_tally files cut task line keys old new are few count later needs kept = record {
  needed = keys;
  are = are;
  few = few;
  least = omega (arith, count);
  later = later;
  counts = λ tells calm apart low.
      subst (λ (b : Bool). TalliesAs b keys (tally_of old) (tally_of new)) (sym kept) (record {
        answers = (needs apart).answers;
        asked = (needs apart).asked;
        needs = count;
        hits = (needs apart).hits tells;
      });
}

-- a pass without uncached needs has none in a single call either
none_apart : (old new : PassState) → old.apart ≤ new.apart → new.apart ≡ 0 → NoneUncached old new
none_apart old new later none = record {
  same = omega (arith, later, none);
  low = omega (arith, later, none);
}

-- ---- how many a region needs

-- places that follow one another lie in no more cells than they are
div_few : (a n c : ℕ) → 0 < c → (a + n) / c ≤ a / c + n
div_few a n c some =
    let below : a < a / c * c + c = lt-div-mul-add {a = a} some in
    let split : (a / c + (n + 1)) * c ≡ a / c * c + (n + 1) * c = add-mul (a / c) (n + 1) c in
    let more : (n + 1) * c ≡ n * c + 1 * c = add-mul n 1 c in
    let once : 1 * c ≡ c = omega arith in
    let least : n * 1 ≤ n * c = mul-le-mul_left n some in
    let short : a + n < (a / c + (n + 1)) * c =
    omega (arith, below, split, more, once, least) in
    let up : (a + n) / c < a / c + (n + 1) = (div-lt_iff_lt-mul some).1 short in
    omega (arith, up)

met_at : (cell first inside : ℕ) → 1 ≤ inside
    → (first + inside - 1) / cell - first / cell + 1 ≤ inside
met_at zero first inside some =
    omega (arith, some, div-zero (first + inside - 1), div-zero first)
met_at (suc c) first inside some =
    let same : (first + inside - 1) / suc c ≡ (first + (inside - 1)) / suc c =
    ap (λ (x : ℕ). x / suc c) (omega (arith, some)) in
    omega (arith, some, same, div_few first (inside - 1) (suc c) (omega arith))

met_by : (cell first inside : ℕ) (none : Bool) → (inside == 0) ≡ none
    → (if none then 0 else (first + inside - 1) / cell - first / cell + 1) ≤ inside
met_by cell first inside true is = omega arith
met_by cell first inside false is =
    let there = eqb-false inside 0 is in met_at cell first inside (omega (arith, there))

met_few : (cell first inside : ℕ) → cells_met cell first inside ≤ inside
met_few cell first inside = met_by cell first inside (inside == 0) refl

-- a region with no more texels than are allowed meets few enough cells
region_few : (level : CutLevel) (columns rows : Overlap) (w h : ℕ) → columns.inside ≤ w
    → rows.inside ≤ h → w * h ≤ max_texels → count_met level columns rows ≤ max_texels
region_few level columns rows w h across down few =
    let most : count_met level columns rows ≤ h * w =
    mul-le-mul {m₁ = cells_met level.cell_width columns.first columns.inside}
    (omega (arith, met_few level.cell_height rows.first rows.inside, down))
    (omega (arith, met_few level.cell_width columns.first columns.inside, across)) in
    omega (arith, most, mul_comm h w, few)

-- ---- what was needed of a record

module _ (files : Files) (cut : Cut) (file generation : ℕ) (old new : PassState) where
  -- by a region
  module _ (region : Region) (channels : ℕ) (values : List ℕ)
      (few : region.w * region.h ≤ max_texels) (later : old.apart ≤ new.apart) where
    region_by : (r : RecordState) → GivesRecord files file cut old.view new.view r
        → r.generation ≡ generation → ReadsRegion files region channels old new r
        → TalliesAnswer files cut (Ask (Some file) (Values region)) (tally_of old) (tally_of new)
        (line.Pixels generation channels values)
    region_by r gives of reads =
        let area = reads.area in
        let is = reads.has.is in
        let columns = area.window.columns in
        let rows = area.window.rows in
        let grid = shown_grid area.grid in
        needs_tally files cut (Ask (Some file) (Values region))
        (line.Pixels generation channels values) (area_keys r area (area_cells area)) old new
        (λ bytes held.
        let told = kept_told files file cut old.view new.view r generation (sym of) gives
        (λ (k : Kept). k ≡ reads.kept) (rw reads.has.layout refl) bytes held in
        let same : cut_level_in reads.kept r.cut region.level ≡ cut_level_of bytes cut region.level =
        ap (λ (k : Kept). cut_level_in k r.cut region.level) (sym told.1)
        ∙ ap (λ (u : Cut). cut_level_in (kept_of bytes) u region.level) gives.under in
        record {
          columns = columns;
          rows = rows;
          across = subst (λ (v : CutLevel). IsOverlap region.x region.w v.width columns) same
              is.columns;
          down = subst (λ (v : CutLevel). IsOverlap region.y region.h v.height rows) same is.rows;
          are = ap (λ (g : ℕ). met_keys g r.file area.level grid columns rows) of
              ∙ ap (λ (f : ℕ). met_keys generation f area.level grid columns rows) gives.of_file
              ∙ ap (λ (l : ℕ). met_keys generation file l grid columns rows) is.level_is
              ∙ ap (λ (v : CutLevel). met_keys generation file region.level v columns rows)
              (is.grid ∙ same);
        })
        (rw (length-map-range_with_len _ 0 (area_cells area))
        (region_few grid columns rows region.w region.h
        (omega (arith, is.columns.total)) (omega (arith, is.rows.total)) few))
        reads.needs.needs later (λ none. reads.needs) refl

    region_at : (kept : Option RecordState) → IsSomeAnd kept (λ r.
        GivesRecord files file cut old.view new.view r × (r.generation ≡ generation)
        × ReadsRegion files region channels old new r)
        → TalliesAnswer files cut (Ask (Some file) (Values region)) (tally_of old) (tally_of new)
        (line.Pixels generation channels values)
    region_at None given = absurd given
    region_at (Some r) (gives, of, reads) = region_by r gives of reads

    pub region_tally : KeepsGiven files file cut old new generation
        (ReadsRegion files region channels old new)
        → TalliesAnswer files cut (Ask (Some file) (Values region)) (tally_of old) (tally_of new)
        (line.Pixels generation channels values)
    region_tally given = region_at new.latest given

  -- by a lookup
  module _ (r : LookupRequest) (answer : Answer) (on : CountsOn old new)
      (real : IsReal files file generation)
      (good : ForSome (files.held file generation) (λ bytes. first_fault bytes ≡ None))
      (told : (keys : List ℕ) → ForSome (files.held file generation)
      (λ bytes. keys ≡ lookup_keys cut bytes generation file r)
      → AreNeeded files cut (Ask (Some file) (Lookup r)) answer keys)
      (full : empties answer ≡ false) where
    -- a record of bytes that show no fault has a layout
    no_fault : (state : RecordState) → GivesRecord files file cut old.view new.view state
        → state.generation ≡ generation → (fault : TiffFault) → state.layout ≡ Err fault
        → (bytes : List ℕ) → files.held file generation ≡ Some bytes → ⊥
    no_fault state gives of fault is bytes held =
        let layout = gives.honest.layout bytes (rw (gives.of_file, of) held) in
        let bad = bad_layout bytes state.layout fault layout is in
        let none = good bytes held in
        absurd (cc (bad, none))

    none_held : (held : Option (List ℕ)) → IsSome held
        → ((bytes : List ℕ) → held ≡ Some bytes → ⊥) → ⊥
    none_held None some none = cc
    none_held (Some bytes) some none = none bytes refl

    abbrev keys_by : ℕ → ℕ → Cut → Kept → List ℕ
    keys_by g f u k = lookup_keys_on g f u k (asked_visits (sizes_in k u) r)

    look_at : (state : RecordState) → GivesRecord files file cut old.view new.view state
        → state.generation ≡ generation
        → new.needs ≡ counted_together old.needs (length (visits_on state (One (Coarse r))))
        → (NoneUncached old new → NeedsCells files state (visits_on state (One (Coarse r))) old new)
        → (layout : Result Kept TiffFault) → state.layout ≡ layout
        → TalliesAnswer files cut (Ask (Some file) (Lookup r)) (tally_of old) (tally_of new)
        answer
    look_at state gives of count needs (Ok kept) is =
        let visits = visits_on state (One (Coarse r)) in
        needs_tally files cut (Ask (Some file) (Lookup r)) answer
        (lookup_keys_on state.generation state.file state.cut kept visits) old new
        (told (lookup_keys_on state.generation state.file state.cut kept visits) (λ bytes held.
        let layout = kept_told files file cut old.view new.view state generation (sym of) gives
        (λ (k : Kept). k ≡ kept) (rw is refl) bytes held in
        ap (λ (l : Result Kept TiffFault). lookup_keys_on state.generation state.file state.cut kept
        (asked_visits (sizes_by state.cut l) r)) is
        ∙ ap (λ (g : ℕ). keys_by g state.file state.cut kept) of
        ∙ ap (λ (f : ℕ). keys_by generation f state.cut kept) gives.of_file
        ∙ ap (λ (u : Cut). keys_by generation file u kept) gives.under
        ∙ ap (λ (k : Kept). keys_by generation file cut k) (sym layout.1)))
        (rw length-map (let few = visits_few (sizes_by state.cut state.layout) r in
        omega (arith, few)))
        (rw length-map count) on.apart
        (λ none. subst (λ (l : Result Kept TiffFault). IfOk l (λ (k : Kept). Needs files
        (lookup_keys_on state.generation state.file state.cut k visits) old new)) is
        (needs (none_apart old new on.apart none))) full
    look_at state gives of count needs (Err fault) is = record {
      needed = [];
      are = told [] (λ bytes held. absurd (no_fault state gives of fault is bytes held));
      few = omega arith;
      least = omega (arith, on.needs);
      later = on.apart;
      counts = λ tells calm apart low.
          absurd (none_held (files.held file generation) (real.held tells)
          (no_fault state gives of fault is));
    }

    look_by : (kept : Option RecordState)
        → IsSomeAnd kept (IsLookedUp files file cut (One (Coarse r)) old new generation)
        → TalliesAnswer files cut (Ask (Some file) (Lookup r)) (tally_of old) (tally_of new)
        answer
    look_by None looked = absurd looked
    look_by (Some state) looked =
        look_at state looked.given looked.of looked.asks.needs looked.needs state.layout refl

    pub lookup_tally : IsSomeAnd new.latest (IsLookedUp files file cut (One (Coarse r)) old new generation)
        → TalliesAnswer files cut (Ask (Some file) (Lookup r)) (tally_of old) (tally_of new)
        answer
    lookup_tally looked = look_by new.latest looked

-- ---- the values of a lookup

-- the first of two lists, taken from both by its length
pub first_of : (n : ℕ) (front back : List ℕ) → n ≡ length front → take n (front ++ back) ≡ front
first_of n front back is =
    ap (λ (k : ℕ). take k (front ++ back)) is ∙ take-append_seam front back
