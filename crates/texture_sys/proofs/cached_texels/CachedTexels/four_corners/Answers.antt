-- What fetching four texels leaves if one of them fails.
use Rattle.std.proofs.lemmas.Result.{err_from_is_err_and}
use Rattle.texture_sys.proofs.cached_texels.CachedTexels.four_corners.Goals as goal

pub returns-in_err-fetch_in_turn-clause-left : goal.returns-in_err-fetch_in_turn-clause-left
returns-in_err-fetch_in_turn-clause-left g c =
    let p = err_from_is_err_and c.from_residual.result c.from_residual.ensures.1 in
    rw (p.1, p.2) c.in_err-fetch_in_turn.ensures.left
