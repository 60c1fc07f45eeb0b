-- The steps of making a tile, one after another.
use Rattle.std.proofs.Common.{◌∙◌, refl, sym, ap, subst, inl, arith}
use Rattle.tiff_format.specs.declared.cut.Cut.{Cut}
use Rattle.tile_load.specs.Halving.{HalvingState}
use Rattle.shard_gate.specs.Gate.{HasCellRect}
use Rattle.file_table.specs.Record.{RecordState}
use Rattle.tile_source.specs.Making.{Halves, AddsPart}
use Rattle.tile_source.proofs.MakingLemmas.{adds_halves, adds_of_all}
use Rattle.tile_source.proofs.SourceLemmas.{steps_then, makes_then, makes_by, no_makes, cold_then}
use Rattle.tile_source.proofs.source.TileSource.+making.Goals as goal

-- ---- taking in hand

pub take_in_hand-returns-in_err-tile-clause-made :
    goal.take_in_hand-returns-in_err-tile-clause-made
take_in_hand-returns-in_err-tile-clause-made g t c =
    makes_by _ c.from_residual-in_err-tile.ensures.1
    (makes_then c.in_ok-pin_kept.ensures.made c.in_err-tile.ensures.made)

pub take_in_hand-returns-in_err-tile-clause-missed :
    goal.take_in_hand-returns-in_err-tile-clause-missed
take_in_hand-returns-in_err-tile-clause-missed g t c =
    cold_then c.args.cell.now.key (c.in_ok-pin_kept.ensures.missed c.if-branch.false)
    c.in_ok-pin_kept.ensures.made.steps.call c.make.ensures.made.steps

pub take_in_hand-returns-clause-made : goal.take_in_hand-returns-clause-made
take_in_hand-returns-clause-made g t c =
    makes_then (makes_then c.in_ok-pin_kept.ensures.made c.in_ok-tile.ensures.made)
    c.pin_made.ensures.made

pub take_in_hand-returns-clause-missed : goal.take_in_hand-returns-clause-missed
take_in_hand-returns-clause-missed g t c =
    cold_then c.args.cell.now.key (c.in_ok-pin_kept.ensures.missed c.if-branch.false)
    c.in_ok-pin_kept.ensures.made.steps.call
    (steps_then c.in_ok-tile.ensures.made.steps c.pin_made.ensures.made.steps)

-- ---- parts

pub add_part-returns-then-add_in_hand-clause-made :
    goal.add_part-returns-then-add_in_hand-clause-made
add_part-returns-then-add_in_hand-clause-made g t c =
    makes_then c.in_ok-take_in_hand.ensures.made c.give_back.ensures.made

pub add_part-returns-in_err-give_back-clause-made :
    goal.add_part-returns-in_err-give_back-clause-made
add_part-returns-in_err-give_back-clause-made g t c =
    makes_by _ c.from_residual-in_err-give_back.ensures.1
    (makes_then c.in_ok-take_in_hand.ensures.made c.in_err-give_back.ensures.made)

pub add_part-returns-in_err-alone-clause-made : goal.add_part-returns-in_err-alone-clause-made
add_part-returns-in_err-alone-clause-made g t c =
    makes_by _ c.from_residual-in_err-alone.ensures.1
    (makes_then (makes_then c.in_ok-take_in_hand.ensures.made c.in_ok-give_back.ensures.made)
    c.in_err-alone.ensures.made)

pub add_part-add_tile-requires-clause-next : goal.add_part-add_tile-requires-clause-next
add_part-add_tile-requires-clause-next g t c = c.if-add_in_hand.ensures.next refl

pub add_part-returns-clause-ok : goal.add_part-returns-clause-ok
add_part-returns-clause-ok g t c =
    subst (λ (halving : HalvingState). AddsPart halving c.add_tile.new.halving)
    (c.if-add_in_hand.ensures.same refl) c.add_tile.ensures

pub add_part-returns-clause-made : goal.add_part-returns-clause-made
add_part-returns-clause-made g t c =
    makes_then (makes_then c.in_ok-take_in_hand.ensures.made c.in_ok-give_back.ensures.made)
    c.in_ok-alone.ensures.made

-- ---- halving

pub halve-returns-in_err-halving-clause-made : goal.halve-returns-in_err-halving-clause-made
halve-returns-in_err-halving-clause-made g t c =
    makes_by _ c.from_residual.ensures.1
    (no_makes c.know.ensures.few tt (inl c.requires.hand))

pub halve-parts-init : goal.halve-parts-init
halve-parts-init g t c = record {
  halves = c.in_ok-halving.ensures.halves;
  key = c.in_ok-halving.ensures.key;
  done = c.in_ok-halving.ensures.none;
  all = c.parts-k-end.ensures.value;
  hand = c.requires.hand;
  made = no_makes c.know.ensures.few tt tt;
}

pub halve-returns-in_err-add_part-clause-made : goal.halve-returns-in_err-add_part-clause-made
halve-returns-in_err-add_part-clause-made g t c =
    makes_by _ c.from_residual-in_err-add_part.ensures.1
    (makes_then c.parts.invariant.made c.in_err-add_part.ensures.made)

pub halve-parts-preserved : goal.halve-parts-preserved
halve-parts-preserved g t c =
    let inv = c.parts.invariant in
    let added = c.in_ok-add_part.ensures in
    record {
      halves = subst (λ (r : RecordState). Halves r c.add_part.new.halving)
          (sym (ap (λ k. k.now) added.made.steps.call.picture))
          (adds_halves c.parts.self.picture.now c.parts.halving c.add_part.new.halving inv.halves
          added.ok);
      key = added.ok.key ∙ inv.key;
      done = omega (arith, added.ok.done, inv.done);
      all = adds_of_all c.parts-k-end.result c.parts.halving c.add_part.new.halving inv.all added.ok;
      hand = added.hand;
      made = makes_then inv.made added.made;
    }

pub halve-returns-clause-tile : goal.halve-returns-clause-tile
halve-returns-clause-tile g t c = record {
  keyed = c.finished.ensures.keyed;
  of_cell = c.finished.ensures.of_cell;
  rect = subst (λ (cut : Cut). HasCellRect g.T.W.World.files cut c.finished.result)
      (ap (λ k. k.now.gate.cut) c.parts.invariant.made.steps.call.store) c.finished.ensures.rect;
  told = c.finished.ensures.told;
}
