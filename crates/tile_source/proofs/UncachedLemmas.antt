-- Which held tile belongs to a cell, and which values have the samples of a part?
use Rattle.std.proofs.Common.{◌≡◌, ℕ, zero, suc, ◌<◌, ◌≤◌, ◌∙◌, refl, ap, subst, false, arith, List, [], ◌∷◌}
use Rattle.std.proofs.Common.{length, map, Some, Result, Ok, Err}
use Rattle.std.specs.Prelude.{slice_get, slice_index_or, IsTrue, IsOkAnd, IfOk, slice_index}
use Rattle.std.specs.List.{All}
use Rattle.std.proofs.lemmas.List.Elements.{All-head, All-tail}
use Rattle.tex_world.specs.World.{Files, IsWorld}
use Rattle.tiff_format.specs.declared.fault.TiffFault.{TiffFault}
use Rattle.tile_layout.specs.Kept.{Kept, kept_of}
use Rattle.tile_layout.specs.Cell.{bit_depth_in, channels_in}
use Rattle.tile_store.specs.Tile.{CachedTile}
use Rattle.tile_store.specs.Lawful.{FitsCut}
use Rattle.file_table.specs.Record.{RecordState, IsRecord}
use Rattle.micro.specs.Items.{HasKey}
use Rattle.tile_load.proofs.KnownLayouts.{layout_told}
use Rattle.pinned_tiles.specs.declared.cell.CellAt.{CellAt}
use Rattle.pinned_tiles.specs.Pinned.{key_in}
use Rattle.pinned_tiles.specs.Cell.{is_tile_of}
use Rattle.texel_values.specs.declared.texel_at.TexelAt.{TexelAt}
use Rattle.texel_values.specs.Values.{AreValuesAt, sample_value}
use Rattle.texel_values.proofs.ValueLemmas.{values_of_texel}
use Rattle.tile_slots.specs.RowPart.{AreTexelOf, IsTexelOf}
use Rattle.tile_layout.specs.Kept.{stored_count}
use Rattle.std.specs.Option.{ForSome}
use Rattle.tile_source.specs.Texel.{IsCellOf, IsTexelIn, IsStoredTexel, IsStoredAt}
use Rattle.tile_source.specs.Texel as texel
use Rattle.tile_source.specs.Uncached.{part_at, AreSamplesAt}
use Rattle.tile_source.proofs.NeedLemmas.{told_is_tile}
use Rattle.tile_source.proofs.TexelLemmas.{of_held, tells_of}
use Rattle.tile_source.proofs.StepLemmas.{none_falls_chain, opens_falls}
use Rattle.tex_world.specs.Tap.{TapState}
use Rattle.tap_reader.specs.TapReader.{Lent, OnlyReads}
use Rattle.file_table.specs.Calls.{Sighted, LendCause, OpensIfAtAll}
use Rattle.file_table.specs.declared.error.FileError.{FileError}
use Rattle.file_table.specs.declared.error.FileError.TheVariants as unread
use Rattle.tile_source.specs.Call.{NoneFalls}
use Rattle.tile_source.specs.Cause.{WantsByOpening, of_file, IsWanting, IsBusy}
use Rattle.tile_source.specs.declared.error.CacheError.{CacheError}
use Rattle.tile_source.specs.declared.error.CacheError.TheVariants as refused

-- ---- holds

-- if one of the held tiles has the key, one of them is the cell's
pub held_found : (files : Files) (state : RecordState) (cell : CellAt) (holds : List CachedTile)
    → IsTrue files.tells → IsRecord files state → IsCellOf state cell
    → All (FitsCut files state.cut) holds → HasKey key_in cell.key holds
    → ((k : ℕ) (tile : CachedTile) → slice_get holds k ≡ Some tile → tile.key ≡ cell.key
    → is_tile_of cell tile ≡ false) → ⊥
held_found files state cell holds tells honest of fits (k, low, is) none =
    by holds k fits (subst (λ (n : ℕ). k < n) (length_of holds) low) is none
  where
    length_of : (tiles : List CachedTile) → length (map key_in tiles) ≡ length tiles
    length_of [] = refl
    length_of (t ∷ tiles) = ap suc (length_of tiles)

    by : (tiles : List CachedTile) (i : ℕ) → All (FitsCut files state.cut) tiles → i < length tiles
        → slice_index_or (map key_in tiles) i cell.key ≡ cell.key
        → ((k : ℕ) (tile : CachedTile) → slice_get tiles k ≡ Some tile → tile.key ≡ cell.key
        → is_tile_of cell tile ≡ false) → ⊥
    by [] i all less same none = absurd (omega arith)
    by (t ∷ tiles) zero all less same none =
        cc (
          told_is_tile files state cell t tells honest of same
              (All-head (FitsCut files state.cut) t tiles all),
          none 0 t refl same,
        )
    by (t ∷ tiles) (suc i) all less same none =
        by tiles i (All-tail (FitsCut files state.cut) t tiles all) (omega arith) same
        (λ k tile at keyed. none (suc k) tile at keyed)

-- ---- parts

-- the texel lies in a stored level
pub stored_texel : (state : RecordState) (at : TexelAt) (n : ℕ) → IsTexelIn state at
    → IsStoredAt state at → IfOk state.layout (λ kept. n ≡ channels_in kept)
    → IsOkAnd state.layout (λ kept. IsStoredTexel kept at n)
stored_texel state at n inside stored count = by state.layout inside stored count
  where
    by : (layout : Result Kept TiffFault)
        → IsOkAnd layout (λ kept. texel.IsTexelOf kept state.cut at)
        → IsOkAnd layout (λ kept. at.level < stored_count kept)
        → IfOk layout (λ kept. n ≡ channels_in kept)
        → IsOkAnd layout (λ kept. IsStoredTexel kept at n)
    by (Ok kept) inside stored count =
        record { stored = stored; column = inside.column; row = inside.row; channels = count }
    by (Err fault) inside stored count = absurd inside

-- a stored texel of a record, given its layout
pub texel_of : (state : RecordState) (at : TexelAt) (n : ℕ) (kept : Kept) → state.layout ≡ Ok kept
    → IsOkAnd state.layout (λ k. IsStoredTexel k at n) → IsTexelOf kept (part_at state at) at.x n
texel_of state at n kept is lies =
    let there = subst (λ (l : Result Kept TiffFault). IsOkAnd l (λ k. IsStoredTexel k at n)) is lies in
    record {
      stored = there.stored;
      across = there.column;
      down = there.row;
      channels = there.channels;
    }

-- in a modelled world, a stored texel belongs to the bytes of the record's generation
pub texel_told : (files : Files) (state : RecordState) (at : TexelAt) (n : ℕ)
    → IsRecord files state → IsOkAnd state.layout (λ kept. IsStoredTexel kept at n)
    → ForSome (files.held state.file state.generation)
    (λ bytes. IsTexelOf (kept_of bytes) (part_at state at) at.x n)
texel_told files state at n honest lies = λ bytes held. by bytes held state.layout refl
  where
    by : (bytes : List ℕ) → files.held state.file state.generation ≡ Some bytes
        → (layout : Result Kept TiffFault) → state.layout ≡ layout
        → IsTexelOf (kept_of bytes) (part_at state at) at.x n
    by bytes held (Ok kept) is =
        subst (λ (k : Kept). IsTexelOf k (part_at state at) at.x n)
        (layout_told state kept is files
        (record { file = state.file; generation = state.generation; len = 0 }) honest
        (record { file = refl; generation = refl }) bytes held).kept
        (texel_of state at n kept is lies)
    by bytes held (Err fault) is = absurd
        (subst (λ (l : Result Kept TiffFault). IsOkAnd l (λ kept. IsStoredTexel kept at n)) is lies)

-- The values of the samples of a texel are those of its file.
pub part_values : (files : Files) → IsWorld files → (state : RecordState) (at : TexelAt) (depth : ℕ)
    (samples out bytes : List ℕ) → IsRecord files state
    → IsOkAnd state.layout (λ kept. IsStoredTexel kept at (length samples))
    → IfOk state.layout (λ kept. depth ≡ bit_depth_in kept)
    → AreSamplesAt files state at samples
    → ((c : ℕ) → c < length out → slice_index out c ≡ sample_value samples depth c)
    → files.held state.file state.generation ≡ Some bytes → AreValuesAt bytes at out
part_values files world state at depth samples out bytes honest lies same told is held =
    by state.layout refl lies same
  where
    are : AreTexelOf bytes (part_at state at) at.x samples
    are = of_held (files.held state.file state.generation) bytes
        (λ b. AreTexelOf b (part_at state at) at.x samples) held
        (told (tells_of files world state.file state.generation bytes held))

    by : (layout : Result Kept TiffFault) → state.layout ≡ layout
        → IsOkAnd layout (λ kept. IsStoredTexel kept at (length samples))
        → IfOk layout (λ kept. depth ≡ bit_depth_in kept) → AreValuesAt bytes at out
    by (Ok kept) layout there depth_is =
        let given : kept ≡ kept_of bytes = (layout_told state kept layout files
        (record { file = state.file; generation = state.generation; len = 0 }) honest
        (record { file = refl; generation = refl }) bytes held).kept in
        values_of_texel at samples out bytes (there.channels ∙ ap channels_in given)
        (λ c low. (are c low).value) (λ c low. (are c low).low)
        (λ c low. is c low
        ∙ ap (λ (d : ℕ). sample_value samples d c) (depth_is ∙ ap bit_depth_in given))
    by (Err fault) layout there depth_is = absurd there

-- ---- the tap

-- what reads leave after a file was opened, if it was
pub reads_fall : (a b c : TapState) (lent read : Lent) → OpensIfAtAll a b → lent.tap ≡ b
    → read.tap ≡ c → OnlyReads lent read → b.moves ≤ c.moves → NoneFalls a c
reads_fall a b c lent read opened first last reads moves =
    none_falls_chain a b c (opens_falls a b opened) (subst (λ (s : TapState). NoneFalls b s) last
    (subst (λ (s : TapState). NoneFalls s read.tap) first (record {
      faults = reads.faults;
      calls = reads.calls;
      opens = omega (arith, reads.opens);
      moves = omega (
        arith,
        moves,
        ap (λ (s : TapState). s.moves) first,
        ap (λ (s : TapState). s.moves) last,
      );
      asks = reads.asks;
      newest = reads.newest;
    })))

-- lending a file runs out of memory only if the file was opened
pub lend_memory : {B : Type 0} (files : Files) (file generation : ℕ) (old new : Sighted)
    (e : FileError B) → LendCause files file generation old new e
    → WantsByOpening old.tap new.tap (of_file e)
lend_memory files file generation old new unread.NoMemory cause = record {
  later = cause.0.opens.later;
  rose = λ short. omega (arith, cause.0.opens.by_one short);
}
lend_memory files file generation old new unread.ReadFault cause = tt
lend_memory files file generation old new (unread.Again from to) cause = tt
lend_memory files file generation old new (unread.Busy b) cause = tt

-- ---- errors

-- an error other than out of memory
pub wants_none : {B : Type 0} (old new : TapState) (e : CacheError B)
    → (e ≡ refused.NoMemory → ⊥) → WantsByOpening old new e
wants_none old new refused.NoMemory not_so = absurd (not_so refl)
wants_none old new (refused.Again from to) not_so = tt
wants_none old new refused.ReadFault not_so = tt
wants_none old new (refused.Busy b) not_so = tt
wants_none old new (refused.BadFile generation fault) not_so = tt
wants_none old new (refused.TileTooLarge generation) not_so = tt
wants_none old new (refused.NoLevel generation levels) not_so = tt
wants_none old new (refused.Outside generation) not_so = tt
wants_none old new refused.RegionTooLarge not_so = tt
wants_none old new refused.HoldsFull not_so = tt

pub busy_only : {B : Type 0} (e : CacheError B) → (e ≡ refused.NoMemory → ⊥) → IsWanting e
    → IsBusy e
busy_only refused.NoMemory not_so want = absurd (not_so refl)
busy_only (refused.Busy b) not_so want = tt
busy_only (refused.Again from to) not_so want = absurd want
busy_only refused.ReadFault not_so want = absurd want
busy_only (refused.BadFile generation fault) not_so want = absurd want
busy_only (refused.TileTooLarge generation) not_so want = absurd want
busy_only (refused.NoLevel generation levels) not_so want = absurd want
busy_only (refused.Outside generation) not_so want = absurd want
busy_only refused.RegionTooLarge not_so want = absurd want
busy_only refused.HoldsFull not_so want = absurd want
