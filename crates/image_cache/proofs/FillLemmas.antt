-- What several needs leave, one after another.
use Rattle.std.proofs.Common.{◌≡◌, ℕ, ◌+◌, ◌<◌, ◌≤◌, ◌⊎◌, inl, inr, Bool, List, [], ◌∷◌}
use Rattle.std.proofs.Common.{◌++◌, length, count_by, refl, sym, ap, subst, ◌∙◌, arith, slice_index}
use Rattle.std.proofs.Common.{length-append, cond}
use Rattle.std.proofs.lemmas.List.Sums.{sum_by-append}
use Rattle.std.proofs.lemmas.List.{get_or-replicate, append-nil, take_all, drop_all}
use Rattle.std.proofs.lemmas.Nat.{mul-add-lt}
use Rattle.std.proofs.Common.{take, drop}
use Rattle.std.proofs.lemmas.List.FromFn.{map-range_with_len_more}
use Rattle.tex_world.specs.World.{Files}
use Rattle.tiff_format.specs.declared.rect.Rect.{Rect}
use Rattle.tile_layout.specs.Cell.{HoldsTexel}
use Rattle.tile_store.specs.Tile.{CachedTile}
use Rattle.gen_board.specs.View.{ViewState}
use Rattle.file_table.specs.Record.{RecordState}
use Rattle.file_table.specs.Calls.{KeepsView}
use Rattle.micro.specs.Runs.{AreAsked}
use Rattle.pinned_tiles.specs.Pinned.{key_in}
use Rattle.texel_values.specs.declared.area.Area.{Area}
use Rattle.texel_values.specs.declared.window.RegionShape.{RegionShape}
use Rattle.texel_values.proofs.PlaceLemmas.{less_or_not}
use Rattle.tile_layout.specs.Key.{key_of}
use Rattle.texel_values.specs.Area.{IsZeroBeside, area_cell}
use Rattle.texel_values.specs.Region.{value_at}
use Rattle.tile_layout.specs.Value.{channel_value_of}
use Rattle.texel_values.specs.RegionShape.{column_of, row_of, HasValuesOn, KeepsOthersOn}
use Rattle.tile_source.specs.Pass.{PassState}
use Rattle.tile_source.specs.Pass.{counted_together, max_count, SameCounts}
use Rattle.tile_source.specs.Call.{Needs}
use Rattle.image_cache.specs.Call.{KeepsGiven}
use Rattle.image_cache.specs.Region.{area_keys, HasArea, HasAreaAt, HasAreaOf, ReadsRegion}
use Rattle.tiff_format.specs.declared.fault.TiffFault.{TiffFault}
use Rattle.tiff_format.specs.declared.cut.Cut.{Cut}
use Rattle.tile_layout.specs.declared.grid.Grid.{Grid}
use Rattle.tile_layout.specs.Grid.{shown_grid}
use Rattle.tile_layout.specs.Kept.{Kept, kept_of}
use Rattle.tile_layout.specs.Level.{level_count_in}
use Rattle.tile_layout.specs.Cell.{CutLevel, cut_level_in, channels_in, CellsFit}
use Rattle.file_table.specs.Record.{IsRecord, CutsLevel}
use Rattle.file_table.specs.Calls.{GivesRecord}
use Rattle.tile_load.proofs.KnownLayouts.{layout_told}
use Rattle.texel_values.specs.declared.region.Region.{Region}
use Rattle.texel_values.specs.Area.{IsAreaOf, IsPainted, area_cells}
use Rattle.texel_values.specs.Region.{AreRegionValues}
use Rattle.texel_values.proofs.AreaLemmas.{region_values}
use Rattle.std.specs.Prelude.{IsOkAnd, IfOk, IsSomeAnd}
use Rattle.std.proofs.Common.{◌*◌, Option, Some, Result, Ok, Err, replicate}

-- ---- needs

asked_chain : (keys others : List ℕ) (answers more : List Bool) (old mid new : List CachedTile)
    → AreAsked key_in old keys answers mid → AreAsked key_in mid others more new
    → AreAsked key_in old (keys ++ others) (answers ++ more) new
asked_chain [] others [] more old mid new first later =
    subst (λ (tiles : List CachedTile). AreAsked key_in tiles others more new) first later
asked_chain [] others (b ∷ answers) more old mid new first later = absurd first
asked_chain (k ∷ keys) others [] more old mid new first later = absurd first
asked_chain (k ∷ keys) others (b ∷ answers) more old mid new first later =
    (first.0, first.1, asked_chain keys others answers more first.0 mid new first.2 later)

counted_more : (n a b : ℕ)
    → counted_together (counted_together n a) b ≡ counted_together n (a + b)
counted_more n a b = omega arith

hits_chain : (answers more : List Bool) → count_by (λ (h : Bool). h) (answers ++ more)
    ≡ count_by (λ (h : Bool). h) answers + count_by (λ (h : Bool). h) more
hits_chain answers more = sum_by-append (λ (h : Bool). cond h 1 0) answers more

-- what was needed, and then more
pub needs_chain : (files : Files) (keys others : List ℕ) (a b c : PassState)
    → Needs files keys a b → Needs files others b c → Needs files (keys ++ others) a c
needs_chain files keys others a b c first later = record {
  answers = first.answers ++ later.answers;
  asked = asked_chain keys others first.answers later.answers a.pinned.recent b.pinned.recent
      c.pinned.recent first.asked later.asked;
  needs = later.needs
      ∙ (ap (λ (n : ℕ). counted_together n (length others)) first.needs
      ∙ (counted_more a.needs (length keys) (length others)
      ∙ ap (counted_together a.needs) (sym (length-append keys others))));
  hits = λ tells.
      later.hits tells
      ∙ (ap (λ (n : ℕ). counted_together n (count_by (λ (h : Bool). h) later.answers))
      (first.hits tells)
      ∙ (counted_more a.hits (count_by (λ (h : Bool). h) first.answers)
      (count_by (λ (h : Bool). h) later.answers)
      ∙ ap (counted_together a.hits) (sym (hits_chain first.answers later.answers))));
}

pub no_needs : (files : Files) (pass : PassState) → pass.needs ≤ max_count → pass.hits ≤ max_count
    → Needs files [] pass pass
no_needs files pass needs hits = record {
  answers = [];
  asked = refl;
  needs = omega (arith, needs);
  hits = λ tells. omega (arith, hits);
}

-- ---- values

holds_or_not : (rect : Rect) (x y : ℕ) → HoldsTexel rect x y ⊎ (¬ HoldsTexel rect x y)
holds_or_not rect x y = left (less_or_not x rect.x)
  where
    bottom : rect.x ≤ x → x < rect.x + rect.w → rect.y ≤ y
        → (y < rect.y + rect.h) ⊎ (rect.y + rect.h ≤ y) → HoldsTexel rect x y ⊎ (¬ HoldsTexel rect x y)
    bottom l r t (inl b) = inl (record { left = l; right = r; top = t; bottom = b })
    bottom l r t (inr out) = inr (λ is. let b = is.bottom in omega (arith, out, b))

    top : rect.x ≤ x → x < rect.x + rect.w → (y < rect.y) ⊎ (rect.y ≤ y)
        → HoldsTexel rect x y ⊎ (¬ HoldsTexel rect x y)
    top l r (inl out) = inr (λ is. let t = is.top in omega (arith, out, t))
    top l r (inr t) = bottom l r t (less_or_not y (rect.y + rect.h))

    right : rect.x ≤ x → (x < rect.x + rect.w) ⊎ (rect.x + rect.w ≤ x)
        → HoldsTexel rect x y ⊎ (¬ HoldsTexel rect x y)
    right l (inl r) = top l r (less_or_not y rect.y)
    right l (inr out) = inr (λ is. let r = is.right in omega (arith, out, r))

    left : (x < rect.x) ⊎ (rect.x ≤ x) → HoldsTexel rect x y ⊎ (¬ HoldsTexel rect x y)
    left (inl out) = inr (λ is. let l = is.left in omega (arith, out, l))
    left (inr l) = right l (less_or_not x (rect.x + rect.w))

-- what was painted of one rectangle stays when another one is painted
pub painted_stays : (bytes : List ℕ) (level : ℕ) (window : RegionShape) (height : ℕ) (one other : Rect)
    (old new : List ℕ) → HasValuesOn bytes level one window height old
    → HasValuesOn bytes level other window height new
    → KeepsOthersOn other window height old new → HasValuesOn bytes level one window height new
painted_stays bytes level window height one other old new painted more kept i j c i_low j_low c_low
    at = by (holds_or_not other (column_of window i) (row_of window j))
  where
    by : HoldsTexel other (column_of window i) (row_of window j)
        ⊎ (¬ HoldsTexel other (column_of window i) (row_of window j))
        → value_at window.width window.channels new i j c
        ≡ channel_value_of bytes level (column_of window i) (row_of window j) c
    by (inl here) = more i j c i_low j_low c_low (at.0, here)
    by (inr not_here) = kept i j c i_low j_low c_low (λ p. not_here p.1)
        ∙ painted i j c i_low j_low c_low at

pub beside_stays : (area : Area) (rect : Rect) (old new : List ℕ)
    → KeepsOthersOn rect area.window area.height old new → IsZeroBeside area old
    → IsZeroBeside area new
beside_stays area rect old new kept zero i j c i_low j_low c_low out =
    kept i j c i_low j_low c_low (λ p. out p.0) ∙ zero i j c i_low j_low c_low out

-- the keys of one cell more
pub keys_more : (r : RecordState) (area : Area) (k : ℕ) → area_keys r area (k + 1)
    ≡ area_keys r area k ++ key_of r.generation r.file area.level (area_cell area k) ∷ []
keys_more r area k =
    map-range_with_len_more (λ n. key_of r.generation r.file area.level (area_cell area n)) 0 k k
    (omega arith)

-- ---- a region of a record

area_is : (r : RecordState) (region : Region) (area : Area) (grid : Grid) (channels : ℕ)
    (kept : Kept) → shown_grid grid ≡ cut_level_in kept r.cut region.level
    → channels ≡ channels_in kept → IsAreaOf (shown_grid grid) region channels area
    → IsAreaOf (cut_level_in kept r.cut region.level) region (channels_in kept) area
area_is r region area grid channels kept cut same is =
    subst (λ (l : CutLevel). IsAreaOf l region (channels_in kept) area) cut
    (subst (λ (n : ℕ). IsAreaOf (shown_grid grid) region n area) same is)

-- the area is one of the record
pub has_area : (r : RecordState) (region : Region) (area : Area) (grid : Grid) (channels : ℕ)
    → IsOkAnd r.layout (λ kept. CellsFit kept r.cut
    × (region.level < level_count_in kept r.cut.automip)) → CutsLevel r region.level grid
    → IfOk r.layout (λ kept. channels ≡ channels_in kept)
    → IsAreaOf (shown_grid grid) region channels area → HasAreaOf region area r
has_area r region area grid channels ok cuts same is = by r.layout refl ok cuts same
  where
    by : (layout : Result Kept TiffFault) → r.layout ≡ layout
        → IsOkAnd layout (λ kept. CellsFit kept r.cut
        × (region.level < level_count_in kept r.cut.automip))
        → IfOk layout (λ kept. shown_grid grid ≡ cut_level_in kept r.cut region.level)
        → IfOk layout (λ kept. channels ≡ channels_in kept)
        → IsOkAnd layout (λ kept. HasArea kept region area r)
    by (Ok kept) layout fits cut alike = record {
      layout = layout;
      fits = fits.0;
      level = fits.1;
      is = area_is r region area grid channels kept cut alike is;
    }
    by (Err fault) layout fits cut alike = absurd fits

-- the area of a region on its own grid
pub own_area : (region : Region) (area : Area) (level : CutLevel) (channels : ℕ)
    → IsAreaOf level region channels area
    → IsAreaOf (shown_grid area.grid) region area.window.channels area
own_area region area level channels is =
    subst (λ (l : CutLevel). IsAreaOf l region area.window.channels area) (sym is.grid)
    (subst (λ (n : ℕ). IsAreaOf level region n area) (sym is.channels_are) is)

pub area_at : (r : RecordState) (region : Region) (area : Area) → HasAreaOf region area r
    → HasAreaAt area r
area_at r region area has = by r.layout has
  where
    by : (layout : Result Kept TiffFault) → IsOkAnd layout (λ kept. HasArea kept region area r)
        → IsOkAnd layout (λ kept. (area.level < level_count_in kept r.cut.automip)
        × (shown_grid area.grid ≡ cut_level_in kept r.cut area.level)
        × (area.window.channels ≡ channels_in kept))
    by (Ok kept) has = (
      subst (λ (n : ℕ). n < level_count_in kept r.cut.automip) (sym has.is.level_is) has.level,
      has.is.grid ∙ ap (λ (n : ℕ). cut_level_in kept r.cut n) (sym has.is.level_is),
      has.is.channels_are,
    )
    by (Err fault) has = absurd has

pub reads_area : (files : Files) (r : RecordState) (region : Region) (area : Area)
    (old new : PassState) → HasAreaOf region area r
    → Needs files (area_keys r area (area_cells area)) old new
    → ReadsRegion files region area.window.channels old new r
reads_area files r region area old new has needs = by r.layout has
  where
    by : (layout : Result Kept TiffFault) → IsOkAnd layout (λ kept. HasArea kept region area r)
        → ReadsRegion files region area.window.channels old new r
    by (Ok kept) has = record {
      kept = kept;
      area = area;
      has = has;
      channels_are = has.is.channels_are;
      needs = needs;
    }
    by (Err fault) has = absurd has

pub values_of_area : (files : Files) (r : RecordState) (region : Region) (area : Area)
    (bytes values : List ℕ) → IsRecord files r → files.held r.file r.generation ≡ Some bytes
    → HasAreaOf region area r → IsPainted bytes area values → IsZeroBeside area values
    → length values ≡ area.height * (area.window.width * area.window.channels)
    → AreRegionValues bytes region values
values_of_area files r region area bytes values honest held has painted zero count =
    by r.layout has
  where
    by : (layout : Result Kept TiffFault) → IsOkAnd layout (λ kept. HasArea kept region area r)
        → AreRegionValues bytes region values
    by (Ok kept) has =
        let told : kept ≡ kept_of bytes = (layout_told r kept has.layout files
        (record { file = r.file; generation = r.generation; len = 0 }) honest
        (record { file = refl; generation = refl }) bytes held).kept in
        region_values bytes r.cut region area values
        (subst (λ (k : Kept). IsAreaOf (cut_level_in k r.cut region.level) region (channels_in k)
        area) told has.is) painted zero count
    by (Err fault) has = absurd has

-- all values are 0
pub zeros_beside : (area : Area) (values : List ℕ) (n : ℕ) → values ≡ replicate n 0
    → n ≡ area.height * (area.window.width * area.window.channels) → IsZeroBeside area values
zeros_beside area values n is count i j c i_low j_low c_low out =
    let w = area.window.width in
    let m = area.window.channels in
    let row : i * m + c < w * m = omega (arith, mul-add-lt i m c w i_low c_low) in
    let low : j * (w * m) + (i * m + c) < n =
    omega (arith, mul-add-lt j (w * m) (i * m + c) area.height j_low row, count) in
    subst (λ (l : List ℕ). value_at w m l i j c ≡ 0) (sym is)
    (get_or-replicate n (j * (w * m) + (i * m + c)) 0 0 low)

-- values that were all written are the new ones
pub written_whole : (new items : List ℕ) (n : ℕ) → length new ≡ length items → length items ≡ n
    → take n (new ++ drop (length new) items) ≡ new
written_whole new items n long count =
    ap (take n) (ap (λ (l : List ℕ). new ++ l)
    (drop_all (length new) items (omega (arith, long))) ∙ append-nil new)
    ∙ take_all n new (omega (arith, long, count))

-- what the pass keeps is what was given
pub keeps_given : (files : Files) (file : ℕ) (cut : Cut) (old mid after new : PassState)
    (r : RecordState) (generation : ℕ) (P : RecordState → Type 0) → new.latest ≡ Some r
    → GivesRecord files file cut old.view mid.view r → r.file ≡ file
    → KeepsView r.file mid.view after.view → new.view ≡ after.view → generation ≡ r.generation → P r
    → KeepsGiven files file cut old new generation P
keeps_given files file cut old mid after new r generation P latest given of keeps view same p =
    subst (λ (o : Option RecordState). IsSomeAnd o (λ k.
    GivesRecord files file cut old.view new.view k × (k.generation ≡ generation) × P k))
    (sym latest) (
      record {
        of_file = given.of_file;
        under = given.under;
        honest = given.honest;
        new_enough = given.new_enough;
        seen = omega (
          arith,
          given.seen,
          keeps.later r.file,
          ap (λ (v : ViewState). slice_index v.seen file) view,
          ap (λ (f : ℕ). slice_index mid.view.seen f) of,
          ap (λ (f : ℕ). slice_index after.view.seen f) of,
        );
      },
      sym same,
      p,
    )

pub if_ok : {A E : Type 0} (r : Result A E) (P Q : A → Type 0) → ((x : A) → P x → Q x) → IfOk r P
    → IfOk r Q
if_ok (Ok x) P Q f p = f x p
if_ok (Err e) P Q f p = tt

-- What was needed between two moments was needed between two at which the pass has the same tiles
-- and counts.
pub needs_between : (files : Files) (keys : List ℕ) (a b c d : PassState)
    → b.pinned.recent ≡ a.pinned.recent → SameCounts a b → d.pinned.recent ≡ c.pinned.recent
    → SameCounts c d → Needs files keys b c → Needs files keys a d
needs_between files keys a b c d first before last after needs = record {
  answers = needs.answers;
  asked = subst (λ (tiles : List CachedTile).
      AreAsked key_in tiles keys needs.answers d.pinned.recent) first
      (subst (λ (tiles : List CachedTile).
      AreAsked key_in b.pinned.recent keys needs.answers tiles) (sym last) needs.asked);
  needs = after.needs ∙ (needs.needs
      ∙ ap (λ (n : ℕ). counted_together n (length keys)) before.needs);
  hits = λ tells. after.hits ∙ (needs.hits tells
      ∙ ap (λ (n : ℕ). counted_together n (count_by (λ (h : Bool). h) needs.answers)) before.hits);
}

pub reads_between : (files : Files) (region : Region) (channels : ℕ) (a b c d : PassState)
    (r : RecordState) → b.pinned.recent ≡ a.pinned.recent → SameCounts a b
    → d.pinned.recent ≡ c.pinned.recent → SameCounts c d → ReadsRegion files region channels b c r
    → ReadsRegion files region channels a d r
reads_between files region channels a b c d r first before last after reads = record {
  kept = reads.kept;
  area = reads.area;
  has = reads.has;
  channels_are = reads.channels_are;
  needs = needs_between files (area_keys r reads.area (area_cells reads.area)) a b c d first before
      last after reads.needs;
}
