-- Which samples lie side by side, of one or two bytes each?
use Rattle.std.specs.Prelude.{ℕ, List}
use Rattle.tile_store.specs.declared.row.SampleRow.{SampleRow}
use Rattle.tile_store.specs.declared.row.SampleRow.TheVariants as row
use Rattle.tile_store.specs.declared.two_rows.TwoRows.{TwoRows}
use Rattle.tile_store.specs.declared.two_rows.TwoRows.TheVariants as rows

-- the samples of a row
abbrev pub samples_of : SampleRow → List ℕ
samples_of (row.Bytes samples) = samples.now
samples_of (row.Shorts samples) = samples.now

-- the samples of the upper row
abbrev pub top_of : TwoRows → List ℕ
top_of (rows.Bytes top bottom) = top.now
top_of (rows.Shorts top bottom) = top.now

-- the samples of the lower row
abbrev pub bottom_of : TwoRows → List ℕ
bottom_of (rows.Bytes top bottom) = bottom.now
bottom_of (rows.Shorts top bottom) = bottom.now
