-- What the slow path leaves if it fails.
use Rattle.std.proofs.lemmas.Result.{err_from_is_err_and}
use Rattle.texture_sys.proofs.cached_texels.CachedTexels.fetch_four.Goals as goal

pub returns-in_err-out-clause-left : goal.returns-in_err-out-clause-left
returns-in_err-out-clause-left g c =
    let p = err_from_is_err_and c.from_residual.result c.from_residual.ensures.1 in
    rw (p.1, p.2) c.in_err-out.ensures.left
