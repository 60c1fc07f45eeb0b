-- A cause that holds of equal things holds of these.
use Rattle.std.proofs.Common.{◌≡◌, subst}
use Rattle.std.specs.Prelude.{ℕ, Result, IfErr}
use Rattle.tex_world.specs.World.{Files}
use Rattle.tiff_format.specs.declared.cut.Cut.{Cut}
use Rattle.file_table.specs.Calls.{Sighted}
use Rattle.tile_source.specs.declared.error.CacheError.{CacheError}
use Rattle.texture_sys.specs.Call.{TextureCause}

pub texture_cause_of : {B : Type 0} (files : Files) (file : ℕ) (result : Result ℕ (CacheError B))
    {cut cut' : Cut} {old old' : Sighted} (new : Sighted) → cut ≡ cut' → old ≡ old'
    → IfErr result (TextureCause files file cut old new)
    → IfErr result (TextureCause files file cut' old' new)
texture_cause_of files file result {cut} {cut'} {old} {old'} new same alike told =
    subst (λ c. IfErr result (TextureCause files file c old' new)) same
    (subst (λ s. IfErr result (TextureCause files file cut s new)) alike told)
