-- A further cell is painted, which was needed once more.
use Rattle.std.proofs.Common.{◌≡◌, ◌∙◌, ℕ, List, [], ◌∷◌, refl, sym, ap, inl, inr, subst, arith, Some}
use Rattle.tiff_format.specs.declared.rect.Rect.{Rect}
use Rattle.tile_layout.specs.Grid.{shown_grid}
use Rattle.tile_layout.specs.Key.{key_of}
use Rattle.tile_layout.specs.Cell.{cell_rect}
use Rattle.file_table.specs.Record.{RecordState}
use Rattle.texel_values.specs.declared.area.Area.{Area}
use Rattle.texel_values.specs.Area.{area_cell}
use Rattle.texel_values.specs.RegionShape.{HasValuesOn}
use Rattle.texel_values.proofs.AreaLemmas.{painted_all}
use Rattle.texel_values.proofs.PlaceLemmas.{less_or_not}
use Rattle.tile_source.specs.Call.{Needs}
use Rattle.image_cache.specs.Region.{HasAreaAt, area_keys}
use Rattle.image_cache.proofs.FillLemmas.{needs_chain, no_needs, keys_more, painted_stays, beside_stays}
use Rattle.tile_source.proofs.SourceLemmas.{reads_then, reads_by, no_reads}
use Rattle.image_cache.proofs.pixels.fill.Goals as goal

pub cells-init : goal.cells-init
cells-init g c = record {
  long = refl;
  beside = λ zero. zero;
  value = λ bytes held m low. absurd (omega (arith, low));
  needs = no_needs g.T.W.World.files c.args.source.now.pass.now c.know.ensures.needs
      c.know.ensures.hits;
  left = no_reads c.know.ensures.few tt;
}

pub fill_cell-requires-clause-area : goal.fill_cell-requires-clause-area
fill_cell-requires-clause-area g c =
    subst (λ (r : RecordState). HasAreaAt c.args.area.now r)
    (sym ((ap (λ k. k.now) c.cells.invariant.left.call.picture))) c.requires.area

pub cells-preserved : goal.cells-preserved
cells-preserved g c =
    let files = g.T.W.World.files in
    let first = c.args.source.now in
    let before = c.cells.source in
    let after = c.fill_cell.new.source in
    let known = first.picture.now in
    let area : Area = c.args.area.now in
    let k = c.cells.k in
    let old = c.cells.values in
    let new = c.fill_cell.new.values in
    let rect : ℕ → Rect = λ m. cell_rect (shown_grid area.grid) (area_cell area m) in
    let inv = c.cells.invariant in
    let same : before.picture.now ≡ known = (ap (λ k. k.now) inv.left.call.picture) in
    let filled = c.in_ok-fill_cell.ensures in
    let value : (bytes : List ℕ) → files.held known.file known.generation ≡ Some bytes
    → HasValuesOn bytes area.level (rect k) area.window area.height new =
    λ bytes held. filled.value bytes
    (ap (λ (r : RecordState). files.held r.file r.generation) same ∙ held) in
    record {
      long = filled.long ∙ inv.long;
      beside = λ zero. beside_stays area (rect k) old new filled.others (inv.beside zero);
      value = λ bytes held m low.
          elim (less_or_not m k) [
            | inl earlier ↦ painted_stays bytes area.level area.window area.height (rect m) (rect k)
                old new (inv.value bytes held m earlier) (value bytes held) filled.others
            | inr not_earlier ↦
                let is : k ≡ m = omega (arith, low, not_earlier) in
                subst (λ (n : ℕ). HasValuesOn bytes area.level (rect n) area.window area.height new)
                is (value bytes held)
          ];
      needs = subst (λ (keys : List ℕ). Needs files keys first.pass.now after.pass.now)
          (sym (keys_more known area k))
          (needs_chain files (area_keys known area k)
          (key_of known.generation known.file area.level (area_cell area k) ∷ [])
          first.pass.now before.pass.now after.pass.now inv.needs
          (subst (λ (r : RecordState). Needs files
          (key_of r.generation r.file area.level (area_cell area k) ∷ []) before.pass.now
          after.pass.now) same filled.needs));
      left = reads_then inv.left filled.left;
    }

pub returns-in_err-fill_cell-clause-left : goal.returns-in_err-fill_cell-clause-left
returns-in_err-fill_cell-clause-left g c =
    reads_by _ c.from_residual.ensures.1
    (reads_then c.cells.invariant.left c.in_err-fill_cell.ensures.left)

pub returns-clause-value : goal.returns-clause-value
returns-clause-value g c bytes held =
    painted_all c.args.area.now bytes c.cells.values
    (λ m low. c.cells.invariant.value bytes held m
    (omega (arith, low, c.cells-k-end.ensures, c.cells-test.false)))
