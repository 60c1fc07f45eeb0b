-- Which samples has a tile?
use Rattle.std.specs.Prelude.{ℕ, List}
use Rattle.tile_store.specs.declared.texels.Texels.{Texels}
use Rattle.tile_store.specs.declared.texels.Texels.TheVariants.{Bytes, Shorts}

-- the samples, whether of one or two bytes each
abbrev pub kept_in : Texels → List ℕ
kept_in (Bytes samples) = samples.items
kept_in (Shorts samples) = samples.items
