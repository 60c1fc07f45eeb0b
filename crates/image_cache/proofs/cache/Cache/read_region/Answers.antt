-- The values are those of the region's cells.
use Rattle.std.proofs.Common.{rules}
use Rattle.image_cache.proofs.FillLemmas.{reads_area, values_of_area}
use Rattle.image_cache.proofs.UnreadLemmas.{recent_same, unread_kept}
use Rattle.tile_source.proofs.SourceLemmas.{reads_none}
use Rattle.image_cache.proofs.cache.Cache.read_region.Goals as goal

pub returns-in_err-area-clause-unread : goal.returns-in_err-area-clause-unread
returns-in_err-area-clause-unread g c =
    let pass = c.args.pass.now in
    unread_kept _ pass pass (recent_same pass)

pub returns-in_err-area-clause-left : goal.returns-in_err-area-clause-left
returns-in_err-area-clause-left g c = reads_none _ _ _ _ _ c.know.ensures.few

pub returns-clause-ok : goal.returns-clause-ok
returns-clause-ok g c =
    reads_area g.T.W.World.files c.args.known.now c.args.region.now c.in_ok-area.area
    c.args.pass.now _ c.in_ok-area.ensures.area (search (rules, c.in_ok-values.ensures.needs))

pub returns-clause-value : goal.returns-clause-value
returns-clause-value g c bytes held =
    values_of_area g.T.W.World.files c.args.known.now c.args.region.now c.in_ok-area.area bytes
    c.in_ok-values.values.items c.know-2.ensures.told held c.in_ok-area.ensures.area
    (c.in_ok-values.ensures.value bytes (search (rules, held))) c.in_ok-values.ensures.beside
    c.in_ok-values.ensures.count
