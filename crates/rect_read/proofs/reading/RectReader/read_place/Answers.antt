use Rattle.std.proofs.Common.{◌≡◌, ◌+◌, ◌*◌, length, ap, ◌∙◌, sym, subst, arith, OnOk}
use Rattle.std.specs.List.{All}
use Rattle.tiff_format.specs.Block.{Level}
use Rattle.tile_layout.specs.Blocks.{HoldsBlocks}
use Rattle.tile_layout.specs.Plane.{plane_in}
use Rattle.tile_layout.specs.Pieces.{Walk}
use Rattle.tile_layout.proofs.TexelLemmas.{length-rect_texels}
use Rattle.rect_read.proofs.SampleValues.{own_order}
use Rattle.rect_read.proofs.WholeRows.{column_of, row_of, run_stands, rect_appended, on_ok, any_ok}
use Rattle.rect_read.proofs.RectZeros.{below_of_run, rect_adds, rect_far}
use Rattle.rect_read.specs.Taken.{taken}
use Rattle.rect_read.specs.Zeros.{AddsZeros, LiesBeyond}
use Rattle.rect_read.proofs.reading.RectReader.read_place.Goals as goal

pub returns-in-Some-clause-count : goal.returns-in-Some-clause-count
returns-in-Some-clause-count g c =
    let read : OnOk c.read_run.result (length (taken c.read_run.new.samples)
    ≡ length (taken c.args.self.now.samples)
    + c.in-Some.run'.texels * c.args.format.now.channels) =
    c.read_run.ensures.count in
    rw c.in-Some.ensures.texels at read

pub returns-in-Some-clause-told : goal.returns-in-Some-clause-told
returns-in-Some-clause-told g c = λ bytes told windows holds.
    let place = c.args.place.now in
    let level = plane_in place.layout.now place.level place.plane in
    let format = c.args.format.now in
    let rect = place.rect in
    let run = c.in-Some.run' in
    let whole = c.in-Some.ensures.whole in
    let count : run.texels ≡ rect.w * rect.h = c.in-Some.ensures.texels in
    let own = own_order place.layout.now.big level.shape format c.requires.format in
    on_ok c.read_run.result
    (λ more. (
      windows,
      rw c.requires.format.order at (rect_appended bytes level format rect
          (taken c.args.self.now.samples) (taken c.read_run.new.samples) (rw count at more)),
    ))
    (c.read_run.ensures.told bytes told level (column_of rect) (row_of rect) own
    (run_stands level rect run whole count))

pub returns-in-None-clause-count : goal.returns-in-None-clause-count
returns-in-None-clause-count g c =
    let rect = c.args.place.now.rect in
    let texels : length c.plane_pieces-pieces.result.texels ≡ rect.w * rect.h =
    ap (λ (w : Walk). length w.texels) c.plane_pieces-pieces.ensures.value ∙ length-rect_texels rect in
    let read : OnOk c.read_pieces.result (length (taken c.read_pieces.new.self.samples)
    ≡ length (taken c.args.self.now.samples)
    + length c.plane_pieces-pieces.result.texels * c.args.format.now.channels) =
    c.read_pieces.ensures.count in
    rw texels at read

pub returns-in-None-clause-told : goal.returns-in-None-clause-told
returns-in-None-clause-told g c = λ bytes told windows holds.
    let place = c.args.place.now in
    let level = plane_in place.layout.now place.level place.plane in
    let format = own_order place.layout.now.big level.shape c.args.format.now c.requires.format in
    let walk = c.plane_pieces-pieces.ensures.value in
    let level_is = ap (λ (w : Walk). w.level) walk in
    let read = c.read_pieces.ensures.told bytes told windows (rw level_is format)
    (subst (λ (l : Level). HoldsBlocks bytes l) (sym level_is) holds) in
    rw (walk, c.requires.format.order) at read

-- each piece of a run lies below the length
pub returns-in-Some-clause-zeros : goal.returns-in-Some-clause-zeros
returns-in-Some-clause-zeros g c =
    let place = c.args.place.now in
    let level = plane_in place.layout.now place.level place.plane in
    let len = g.B.ByteReader.size c.args.reader.now in
    let run = c.in-Some.run' in
    let low = below_of_run c.args.format.now place.layout.now.big level place.rect run len
    c.requires.format c.in-Some.ensures.whole c.in-Some.ensures.texels
    (rw c.len.ensures at c.in-Some.ensures.below) in
    let none : AddsZeros level len place.rect (taken c.args.self.now.samples) (taken c.read_run.new.samples) =
    λ i j channel across down some far. absurd (omega (arith, low i j across down, far)) in
    any_ok c.read_run.result none

pub returns-in-Some-clause-unread : goal.returns-in-Some-clause-unread
returns-in-Some-clause-unread g c = λ filled far.
    let place = c.args.place.now in
    let level = plane_in place.layout.now place.level place.plane in
    let len = g.B.ByteReader.size c.args.reader.now in
    let run = c.in-Some.run' in
    let low = below_of_run c.args.format.now place.layout.now.big level place.rect run len
    c.requires.format c.in-Some.ensures.whole c.in-Some.ensures.texels
    (rw c.len.ensures at c.in-Some.ensures.below) in
    absurd (omega (arith, low 0 0 filled.wide filled.high, far 0 0 filled.wide filled.high))

pub returns-in-None-clause-zeros : goal.returns-in-None-clause-zeros
returns-in-None-clause-zeros g c =
    let place = c.args.place.now in
    let level = plane_in place.layout.now place.level place.plane in
    let format = own_order place.layout.now.big level.shape c.args.format.now c.requires.format in
    let walk = c.plane_pieces-pieces.ensures.value in
    let level_is = ap (λ (w : Walk). w.level) walk in
    let read = c.read_pieces.ensures.zeros (rw level_is format) in
    let adds = rw walk at read in
    on_ok c.read_pieces.result
    (λ more. rect_adds level (g.B.ByteReader.size c.args.reader.now) place.rect
    c.args.format.now.channels (taken c.args.self.now.samples)
    (taken c.read_pieces.new.self.samples) c.requires.format.channels more) adds

pub returns-in-None-clause-unread : goal.returns-in-None-clause-unread
returns-in-None-clause-unread g c = λ filled beyond.
    let place = c.args.place.now in
    let level = plane_in place.layout.now place.level place.plane in
    let len = g.B.ByteReader.size c.args.reader.now in
    let format = own_order place.layout.now.big level.shape c.args.format.now c.requires.format in
    let walk = c.plane_pieces-pieces.ensures.value in
    let level_is = ap (λ (w : Walk). w.level) walk in
    c.read_pieces.ensures.unread (rw level_is format)
    (subst (λ (w : Walk). All (LiesBeyond w.level w.right len) w.texels) (sym walk)
    (rect_far level len place.rect beyond))
