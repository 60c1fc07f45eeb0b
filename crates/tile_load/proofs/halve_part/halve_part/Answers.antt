use Rattle.std.proofs.Common.{◌≡◌, ℕ, ◌+◌, refl, ◌∙◌, arith, subst}
use Rattle.tiff_format.specs.Level.{halved}
use Rattle.tiff_format.specs.Texel.{greatest_sample}
use Rattle.rect_read.specs.RectSamples.{samples_of}
use Rattle.tile_load.specs.CellSamples.{most_of}
use Rattle.tile_load.specs.PartPlace.{HalvesRows}
use Rattle.tile_load.proofs.PartRows.{no_rows, row_more}
use Rattle.tile_load.proofs.halve_part.halve_part.Goals as goal

pub loop-j-init : goal.loop-j-init
loop-j-init g c =
    let place = c.args.place.now in
    record {
      halves = no_rows place.part place.cell place.channels place.known c.args.tile.now.texels
          (most_of c.args.samples.now) (samples_of c.args.samples.now);
      depth = refl;
      room = refl;
    }

pub loop-j-preserved : goal.loop-j-preserved
loop-j-preserved g c =
    let place = c.args.place.now in
    let texels = c.args.tile.now.texels in
    let most = most_of c.args.samples.now in
    let before = samples_of c.args.samples.now in
    let old = samples_of c.loop-j.samples in
    let new = samples_of c.halve_row_of.new.samples in
    let is = c.loop-j.invariant in
    let one : HalvesRows place.part place.cell place.channels texels most c.loop-j.j (c.loop-j.j + 1)
    old new =
    subst (λ (depth : ℕ). HalvesRows place.part place.cell place.channels texels
    (greatest_sample depth) c.loop-j.j (c.loop-j.j + 1) old new) is.depth
    c.halve_row_of.ensures.halves in
    record {
      halves = row_more place.part place.cell place.channels place.known texels most c.loop-j.j
          before old new (omega (arith, c.rows-j-end.ensures)) is.halves one;
      depth = c.halve_row_of.ensures.depth ∙ is.depth;
      room = c.halve_row_of.ensures.room ∙ is.room;
    }

pub returns-clause-halves : goal.returns-clause-halves
returns-clause-halves g c =
    let place = c.args.place.now in
    let all : c.loop-j.j ≡ halved place.part.h = omega (arith, c.rows-j-end.ensures) in
    subst (λ (q : ℕ). HalvesRows place.part place.cell place.channels c.args.tile.now.texels
    (most_of c.args.samples.now) 0 q (samples_of c.args.samples.now) (samples_of c.loop-j.samples))
    all c.loop-j.invariant.halves
