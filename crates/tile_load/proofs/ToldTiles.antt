-- In a modelled world, the tile of a cell belongs to its file's bytes.
use Rattle.std.proofs.Common.{◌≡◌, ℕ, ◌<◌, List, Option, None, Some, IsSome, IsSomeAnd, refl, ap, ◌∙◌}
use Rattle.std.proofs.Common.{subst}
use Rattle.std.specs.Option.{ForSome}
use Rattle.tex_world.specs.World.{Files, IsReal}
use Rattle.tex_world.specs.Tap.{Named}
use Rattle.tiff_format.specs.declared.cut.Cut.{Cut}
use Rattle.tiff_format.specs.declared.rect.Rect.{Rect}
use Rattle.tile_layout.specs.Cell.{channels_in, bit_depth_in}
use Rattle.tile_layout.specs.Key.{level_of}
use Rattle.tile_layout.specs.Kept.{Kept, stored_count, level_in}
use Rattle.tile_layout.specs.Texel.{texel_at, AreTexelsOn, FitDepth}
use Rattle.tile_store.specs.Tile.{cached_tile}
use Rattle.tile_store.specs.Told.{IsTold, IsOfBytes}
use Rattle.tile_load.specs.Load.{IsLayoutOf, NamesCell}

pub some_told : (held : Option (List ℕ)) (P : List ℕ → Type 0) → IsSome held → ForSome held P
    → IsSomeAnd held P
some_told None P there all = absurd (cc there)
some_told (Some bytes) P there all = all bytes refl

module _ (files : Files) (handle : Named) (layout : Kept) (cut : Cut) (key : ℕ)
    (names : NamesCell handle layout cut key) (rect : Rect) (channels : ℕ) (texels : List ℕ)
    (same : channels ≡ channels_in layout)
    (each : (l : ℕ) → l < stored_count layout → (level_in layout l).shape.channels ≡ channels)
    (low : FitDepth (bit_depth_in layout) texels) where
  of_bytes : (bytes : List ℕ) → IsLayoutOf bytes layout
      → AreTexelsOn (texel_at bytes (level_of key)) (level_in layout (level_of key)).shape.channels
      rect texels
      → IsOfBytes bytes (cached_tile key rect channels texels)
  of_bytes bytes is are = record {
    channels = same ∙ ap channels_in is.kept;
    texels = rw (each (level_of key) names.stored) at are;
    low = subst (λ (k : Kept). FitDepth (bit_depth_in k) texels) is.kept low;
  }

  pub tile_told : IsReal files handle.file handle.generation
      → ForSome (files.held handle.file handle.generation) (λ bytes. IsLayoutOf bytes layout)
      → ForSome (files.held handle.file handle.generation) (λ bytes.
      AreTexelsOn (texel_at bytes (level_of key)) (level_in layout (level_of key)).shape.channels
      rect texels)
      → IsTold files (cached_tile key rect channels texels)
  tile_told real told are = λ tells.
      let held = files.held handle.file handle.generation in
      let P : List ℕ → Type 0 = λ bytes. IsOfBytes bytes (cached_tile key rect channels texels) in
      rw (names.file, names.generation) (some_told held P (real.held tells)
      (λ bytes is. of_bytes bytes (told bytes is) (are bytes is)))
