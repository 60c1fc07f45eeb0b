-- What a record says of its cells, for a handle of its file and generation.
use Rattle.std.proofs.Common.{◌≡◌, ◌<◌, ◌≤◌, subst, ◌∙◌, Result, Ok, Err}
use Rattle.std.proofs.Common.{Option, Some, None}
use Rattle.std.specs.Prelude.{IsOkAnd, IsSomeAnd}
use Rattle.tex_world.specs.Tap.{Named}
use Rattle.tiff_format.specs.declared.cut.Cut.{Cut}
use Rattle.tile_layout.specs.Key.{level_of, index_of}
use Rattle.tile_layout.specs.Kept.{stored_count}
use Rattle.tile_layout.specs.Level.{level_count_in}
use Rattle.tile_layout.specs.Cell.{cell_count, cut_level_in}
use Rattle.tile_load.specs.Load.{NamesCell, IsReadBy}
use Rattle.tile_load.specs.Halving.{NamesGenerated}
use Rattle.file_table.specs.Record.{RecordState}
use Rattle.pinned_tiles.specs.declared.cell.CellAt.{CellAt}
use Rattle.tile_source.specs.Texel.{IsCellOf, IsCellUnder}
use Rattle.tile_source.specs.Making.{IsGenerated}

-- what follows for a value that is there
pub ok_and : {A E : Type 0} (r : Result A E) (P Q : A → Type 0) → ((x : A) → P x → Q x)
    → IsOkAnd r P → IsOkAnd r Q
ok_and (Ok x) P Q f p = f x p
ok_and (Err e) P Q f p = absurd p

pub some_and : {A : Type 0} (o : Option A) (P Q R : A → Type 0) → ((x : A) → P x → Q x → R x)
    → IsSomeAnd o P → IsSomeAnd o Q → IsSomeAnd o R
some_and (Some x) P Q R f p q = f x p q
some_and None P Q R f p q = absurd p

pub ok_both : {A E : Type 0} (r : Result A E) (P Q R : A → Type 0) → ((x : A) → P x → Q x → R x)
    → IsOkAnd r P → IsOkAnd r Q → IsOkAnd r R
ok_both (Ok x) P Q R f p q = f x p q
ok_both (Err e) P Q R f p q = absurd p

pub names_cell : (state : RecordState) (cell : CellAt) (handle : Named) (cut : Cut)
    → IsCellOf state cell → IsReadBy handle state → state.cut ≡ cut
    → IsOkAnd state.layout (λ kept. level_of cell.key < stored_count kept)
    → IsOkAnd state.layout (λ kept. NamesCell handle kept cut cell.key)
names_cell state cell handle cut of read same stored =
    ok_both state.layout (λ kept. IsCellUnder kept state.cut cell)
    (λ kept. level_of cell.key < stored_count kept)
    (λ kept. NamesCell handle kept cut cell.key)
    (λ kept under below. record {
      file = of.file ∙ read.file;
      generation = of.generation ∙ read.generation;
      stored = below;
      index = subst (λ (c : Cut). index_of cell.key < cell_count (cut_level_in kept c (level_of cell.key)))
          same under.index;
    }) of.under stored

-- a cell of a generated level is such for one that is made of others
pub names_generated : (state : RecordState) (cell : CellAt) (cut : Cut)
    → IsCellOf state cell → state.cut ≡ cut → IsGenerated state cell.key
    → IsOkAnd state.layout (λ kept. NamesGenerated state kept cut cell.key)
names_generated state cell cut of same generated =
    ok_both state.layout (λ kept. IsCellUnder kept state.cut cell)
    (λ kept. stored_count kept ≤ level_of cell.key)
    (λ kept. NamesGenerated state kept cut cell.key)
    (λ kept under beyond. record {
      file = of.file;
      generation = of.generation;
      generated = beyond;
      level = subst (λ (c : Cut). level_of cell.key < level_count_in kept c.automip)
          same under.level;
      index = subst (λ (c : Cut). index_of cell.key < cell_count (cut_level_in kept c (level_of cell.key)))
          same under.index;
    }) of.under generated.beyond
