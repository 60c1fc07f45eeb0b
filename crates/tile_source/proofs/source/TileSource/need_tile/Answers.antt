-- In a modelled world, the first tile of the microcache belongs to the cell.
use Rattle.tile_source.proofs.SourceLemmas.{brings_by, brings_refused, brings_made}
use Rattle.tile_source.proofs.source.TileSource.need_tile.Goals as goal

pub returns-in_err-alone-clause-left : goal.returns-in_err-alone-clause-left
returns-in_err-alone-clause-left g c =
    brings_by _ c.from_residual-in_err-alone.ensures.1
    (brings_refused c.in_ok-bring.ensures.left c.in_err-alone.ensures.made)

pub returns-in_err-alone-clause-missed : goal.returns-in_err-alone-clause-missed
returns-in_err-alone-clause-missed g c tells =
    absurd (cc (c.is_latest.ensures.told tells c.in_ok-bring.ensures.first, c.if-is_latest.false))

pub returns-clause-left : goal.returns-clause-left
returns-clause-left g c =
    brings_made c.in_ok-bring.ensures.left c.in_ok-alone.ensures.made c.in_ok-alone.ensures.hand

pub returns-clause-missed : goal.returns-clause-missed
returns-clause-missed g c tells =
    absurd (cc (c.is_latest.ensures.told tells c.in_ok-bring.ensures.first, c.if-is_latest.false))
