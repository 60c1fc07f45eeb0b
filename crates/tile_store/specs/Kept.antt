-- What is true of every tile?
use Rattle.tex_world.specs.World.{Files}
use Rattle.tile_store.specs.Tile.{CachedTile, IsTile}
use Rattle.tile_store.specs.Told.{IsTold}

-- it has texels for its whole rectangle; in a modelled world they are those of its level
pub record IsKept (files : Files) (tile : CachedTile) : Type 0 where
  pub shape : IsTile tile
  pub told : IsTold files tile
