use Rattle.std.proofs.Common.{◌≡◌, ℕ, ◌+◌, ◌*◌, ◌<◌, ◌≤◌, List, ◌++◌, length, take, drop, sym, ap}
use Rattle.std.proofs.Common.{◌∙◌, subst, arith}
use Rattle.std.proofs.Math.Seq.{take-append_seam}
use Rattle.tiff_format.specs.Level.{halved}
use Rattle.tiff_format.specs.declared.rect.Rect.{Rect}
use Rattle.tiff_format.specs.Texel.{greatest_sample}
use Rattle.tile_layout.specs.Cell.{channels_in, bit_depth_in}
use Rattle.rect_read.specs.RectSamples.{samples_of}
use Rattle.tile_load.specs.CellTile.{IsCellTile}
use Rattle.tile_load.specs.Halving.{HalvingState, rect_of, part_count, part_key}
use Rattle.tile_load.specs.Halved.{IsHalving}
use Rattle.tile_load.specs.PartPlace.{IsPartPlace, HalvesRows, max_cell_samples}
use Rattle.tile_load.proofs.CellParts.{count_high, part_rect, part_rect_is, part_place}
use Rattle.tile_load.proofs.HalfMade.{told_more}
use Rattle.tile_load.proofs.halving.Halving.add.Goals as goal

pub invariant_of-place : goal.invariant_of-place
invariant_of-place g c =
    let a = c.self.inside in
    let is = c.self.invariant in
    let layout = a.layout.now in
    let tile = c.args.tile.now in
    let below : a.done < part_count layout a.cut a.key =
    subst (λ (s : HalvingState). s.done < part_count s.layout s.cut s.key) (sym c.self.view_is)
    c.requires.next in
    let own : IsCellTile layout a.cut (part_key layout a.cut a.key a.done) tile =
    subst (λ (s : HalvingState). IsCellTile s.layout s.cut
    (part_key s.layout s.cut s.key s.done) tile) (sym c.self.view_is) c.requires.tile in
    let part_is : c.rect.result ≡ part_rect layout a.cut a.key is.cell a.done below =
    c.rect.ensures.value ∙ own.rect_is
    ∙ part_rect_is layout a.cut a.key is.cell a.done below in
    let texels = is.tile.texels in
    let bytes = is.tile.bytes in
    let few : a.rect.w * a.rect.h * a.channels ≤ max_cell_samples = omega (arith, texels, bytes) in
    let few_own : (rect_of layout a.cut a.key).w * (rect_of layout a.cut a.key).h * a.channels
    ≤ max_cell_samples =
    subst (λ (r : Rect). r.w * r.h * a.channels ≤ max_cell_samples) is.rect_is few in
    let place = part_place layout a.cut a.key is.cell a.done below a.channels few_own in
    record {
      known = subst (λ (r : Rect). IsPartPlace c.rect.result r a.channels) (sym is.rect_is)
          (subst (λ (r : Rect). IsPartPlace r (rect_of layout a.cut a.key) a.channels) (sym part_is)
          place);
    }

pub overflow_add-self : goal.overflow_add-self
overflow_add-self g c =
    let a = c.self.inside in
    let below : a.done < part_count a.layout.now a.cut a.key =
    subst (λ (s : HalvingState). s.done < part_count s.layout s.cut s.key) (sym c.self.view_is)
    c.requires.next in
    omega (arith, below, count_high a.layout.now a.cut a.key c.self.invariant.cell)

pub invariant_of-self : goal.invariant_of-self
invariant_of-self g c =
    let a = c.self.inside in
    let is = c.self.invariant in
    let layout = a.layout.now in
    let cell = rect_of layout a.cut a.key in
    let n = channels_in layout in
    let tile = c.args.tile.now in
    let files = g.W.World.files in
    let old = samples_of a.samples in
    let new = samples_of c.halve_part.new.samples in
    let scratch = c.halve_part.new.scratch in
    let most = greatest_sample (bit_depth_in layout) in
    let below : a.done < part_count layout a.cut a.key =
    subst (λ (s : HalvingState). s.done < part_count s.layout s.cut s.key) (sym c.self.view_is)
    c.requires.next in
    let own : IsCellTile layout a.cut (part_key layout a.cut a.key a.done) tile =
    subst (λ (s : HalvingState). IsCellTile s.layout s.cut
    (part_key s.layout s.cut s.key s.done) tile) (sym c.self.view_is) c.requires.tile in
    let tile_rect : tile.rect ≡ part_rect layout a.cut a.key is.cell a.done below =
    own.rect_is ∙ part_rect_is layout a.cut a.key is.cell a.done below in
    let part_is : c.rect.result ≡ part_rect layout a.cut a.key is.cell a.done below =
    c.rect.ensures.value ∙ tile_rect in
    let texels = is.tile.texels in
    let bytes = is.tile.bytes in
    let few : a.rect.w * a.rect.h * a.channels ≤ max_cell_samples = omega (arith, texels, bytes) in
    let few_own : cell.w * cell.h * n ≤ max_cell_samples =
    subst (λ (k : ℕ). cell.w * cell.h * k ≤ max_cell_samples) is.channels_is
    (subst (λ (r : Rect). r.w * r.h * a.channels ≤ max_cell_samples) is.rect_is few) in
    let long : length old ≡ cell.w * cell.h * n =
    texels ∙ ap (λ (r : Rect). r.w * r.h * a.channels) is.rect_is
    ∙ ap (λ (k : ℕ). cell.w * cell.h * k) is.channels_is in
    let part = part_rect layout a.cut a.key is.cell a.done below in
    let halves : HalvesRows part cell n tile.texels most 0 (halved part.h) old new =
    subst (λ (k : ℕ). HalvesRows part cell k tile.texels most 0 (halved part.h) old new)
    is.channels_is
    (subst (λ (r : Rect). HalvesRows part r a.channels tile.texels most 0 (halved part.h) old new)
    is.rect_is
    (subst (λ (r : Rect). HalvesRows r a.rect a.channels tile.texels most 0 (halved r.h) old new)
    part_is
    (subst (λ (depth : ℕ). HalvesRows c.rect.result a.rect a.channels tile.texels
    (greatest_sample depth) 0 (halved c.rect.result.h) old new) is.depth
    c.halve_part.ensures.halves))) in
    let same : length new ≡ length old = halves.long in
    let rest = drop (length scratch) a.scratch.items in
    let kept : length scratch ≡ length a.scratch.items =
    c.halve_part.ensures.room ∙ ap (λ (xs : List ℕ). length xs) c.deref_mut.ensures.value in
    let all : a.scratch.len ≡ length scratch = omega (arith, kept) in
    let scratch_is : take a.scratch.len (scratch ++ rest) ≡ scratch =
    ap (λ (k : ℕ). take k (scratch ++ rest)) all ∙ take-append_seam scratch rest in
    let told = told_more layout a.cut a.key is.cell a.done below tile own.key_is tile_rect
    own.channels_is old new few_own long halves files is.told c.key.ensures.told in
    subst (λ (xs : List ℕ). IsHalving files layout a.cut a.key (a.done + 1) a.source a.across a.down
    a.rect a.channels xs c.halve_part.new.samples) (sym scratch_is)
    (record {
      cell = is.cell;
      rect_is = is.rect_is;
      source_is = is.source_is;
      spans = is.spans;
      channels_is = is.channels_is;
      done_few = omega (arith, below);
      room = kept ∙ is.room;
      depth = c.halve_part.ensures.depth ∙ is.depth;
      tile = record {
        channels = is.tile.channels;
        texels = same ∙ texels;
        bytes = omega (arith, same, bytes);
      };
      told = told;
    })
