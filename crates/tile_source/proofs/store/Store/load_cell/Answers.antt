-- The cell is one of the file and the generation that the handle reads, and of a stored level.
use Rattle.std.proofs.Common.{rules, arith, sym, ap, subst, ◌∙◌}
use Rattle.std.proofs.lemmas.Grind.{common_steps}
use Rattle.std.specs.Prelude.{IsOkAnd}
use Rattle.tiff_format.specs.declared.cut.Cut.{Cut}
use Rattle.tiff_format.specs.Cut.{IsCut}
use Rattle.tile_load.specs.Load.{NamesCell}
use Rattle.file_table.specs.Record.{RecordState}
use Rattle.tile_source.specs.Pass.{CacheState}
use Rattle.tile_source.proofs.CellLemmas.{names_cell}
use Rattle.tile_source.proofs.store.Store.load_cell.Goals as goal

pub load-requires-clause-cut : goal.load-requires-clause-cut
load-requires-clause-cut g c =
    subst (λ (cut : Cut). IsCut cut) (sym c.self.invariant.1) c.self.invariant.0.side

pub load-requires-clause-cell : goal.load-requires-clause-cell
load-requires-clause-cell g c =
    let handle = g.T.Handle.TapHandle.named c.in_ok-file.file.handle in
    subst (λ (r : RecordState). IsOkAnd r.layout (λ kept.
    NamesCell handle kept c.self.inside.cut c.args.cell.now.key)) (sym c.record.ensures.value)
    (names_cell c.args.picture.now c.args.cell.now handle c.self.inside.cut c.requires.cell
    c.in_ok-file.ensures.ok
    (c.requires.under.cut ∙ (ap (λ (s : CacheState). s.gate.cut) (sym c.self.view_is)
    ∙ sym c.self.invariant.1))
    c.requires.stored)

pub returns-in-Ok-clause-tile : goal.returns-in-Ok-clause-tile
returns-in-Ok-clause-tile g c = record {
  keyed = search rules;
  of_cell = grind (arith, common_steps);
  rect = search rules;
  told = search rules;
}
