-- Which cells is a cell made from, and why does a step fail?
use Rattle.std.proofs.Common.{◌≡◌, ℕ, ◌-◌, ◌<◌, ◌≤◌, ◌∙◌, sym, ap, subst, arith, Ok}
use Rattle.std.specs.Prelude.{IsOkAnd, Result}
use Rattle.std.proofs.Common.{inl, inr}
use Rattle.std.proofs.lemmas.Bool.{cases_lt}
use Rattle.tex_world.specs.Counts.{Rises, last_count}
use Rattle.tex_world.specs.World.{Files}
use Rattle.tex_world.specs.Tap.{TapState}
use Rattle.gen_board.specs.View.{ViewState}
use Rattle.tile_source.specs.declared.error.CacheError.{CacheError}
use Rattle.tile_source.specs.declared.error.CacheError.TheVariants as refused
use Rattle.tile_source.specs.Call.{NoneFalls}
use Rattle.tile_source.specs.Cause.{FetchCause}
use Rattle.tiff_format.specs.declared.fault.TiffFault.{TiffFault}
use Rattle.tiff_format.specs.declared.cut.Cut.{Cut}
use Rattle.tile_layout.specs.Key.{generation_of, file_of, level_of, index_of}
use Rattle.tile_layout.specs.Kept.{Kept}
use Rattle.tile_layout.specs.Level.{level_count_in}
use Rattle.tile_layout.specs.Cell.{cell_count, cut_level_in}
use Rattle.tile_load.specs.Halving.{HalvingState, IsPartOf, part_count, part_key}
use Rattle.file_table.specs.Record.{RecordState}
use Rattle.pinned_tiles.specs.declared.cell.CellAt.{CellAt}
use Rattle.tile_source.specs.Texel.{IsCellOf, IsCellUnder}
use Rattle.tile_source.specs.Making.{IsKeyOf, Halves, IsNextPart, AddsPart}

-- what is known of a layout that is there
of_ok : (r : Result Kept TiffFault) (kept : Kept) (P : Kept → Type 0) → r ≡ Ok kept → IsOkAnd r P
    → P kept
of_ok r kept P is p = subst (λ (x : Result Kept TiffFault). IsOkAnd x P) is p

to_ok : (r : Result Kept TiffFault) (kept : Kept) (P : Kept → Type 0) → r ≡ Ok kept → P kept
    → IsOkAnd r P
to_ok r kept P is p = subst (λ (x : Result Kept TiffFault). IsOkAnd x P) (sym is) p

-- the key of a part is that of a cell of the record
pub part_is_key : (state : RecordState) (halving : HalvingState) (cell : CellAt) (part : ℕ)
    → IsCellOf state cell → Halves state halving → halving.key ≡ cell.key
    → IsPartOf halving.layout halving.cut halving.key part → IsKeyOf state part
part_is_key state halving cell part of halves key is =
    let under = of_ok state.layout halving.layout (λ kept. IsCellUnder kept state.cut cell)
    halves.layout of.under in
    let level : level_of part ≡ level_of cell.key - 1 =
    is.level ∙ ap (λ (k : ℕ). level_of k - 1) key in
    record {
      generation = is.generation ∙ (ap generation_of key ∙ of.generation);
      file = is.file ∙ (ap file_of key ∙ of.file);
      under = to_ok state.layout halving.layout (λ kept.
          (level_of part < level_count_in kept state.cut.automip)
          × (index_of part < cell_count (cut_level_in kept state.cut (level_of part)))) halves.layout (
            omega (arith, level, under.level),
            subst (λ (c : Cut). index_of part
                < cell_count (cut_level_in halving.layout c (level_of part))) halves.cut is.index,
          );
    }

-- the cell of the next part is the next one
pub next_part : (state : RecordState) (halving : HalvingState) (part : CellAt)
    → IsCellOf state part → Halves state halving
    → halving.done < part_count halving.layout halving.cut halving.key
    → part.key ≡ part_key halving.layout halving.cut halving.key halving.done
    → IsNextPart halving part
next_part state halving part of halves next key =
    let under = of_ok state.layout halving.layout (λ kept. IsCellUnder kept state.cut part)
    halves.layout of.under in
    let here = subst (λ (c : Cut). IsCellUnder halving.layout c part) (sym halves.cut) under in
    record { next = next; key = key; rect = here.rect; channels = here.channels }

-- ---- a part more

pub adds_halves : (state : RecordState) (old new : HalvingState) → Halves state old
    → AddsPart old new → Halves state new
adds_halves state old new halves adds = record {
  layout = halves.layout ∙ ap (λ (kept : Kept). Ok kept) (sym adds.layout);
  cut = adds.cut ∙ halves.cut;
}

pub adds_of_all : (all : ℕ) (old new : HalvingState)
    → all ≡ part_count old.layout old.cut old.key → AddsPart old new
    → all ≡ part_count new.layout new.cut new.key
adds_of_all all old new is adds =
    is
    ∙ (ap (λ (kept : Kept). part_count kept old.cut old.key) (sym adds.layout)
    ∙ (ap (λ (cut : Cut). part_count new.layout cut old.key) (sym adds.cut)
    ∙ ap (λ (key : ℕ). part_count new.layout new.cut key) (sym adds.key)))

-- ---- causes

pub rises_before : (a b c : ℕ) → a ≤ b → Rises b c → Rises a c
rises_before a b c before rises = record {
  later = omega (arith, before, rises.later);
  rose = λ short. elim (cases_lt b last_count) [
    | inl less ↦ omega (arith, before, rises.rose less)
    | inr most ↦ omega (arith, short, most, rises.later)
  ];
}

-- the cause of an error holds from an earlier moment of the tap on
pub cause_before : {B : Type 0} (files : Files) (r : RecordState) (view : ViewState)
    (a b c : TapState) (e : CacheError B) → NoneFalls a b → FetchCause files r view b c e
    → FetchCause files r view a c e
cause_before files r view a b c (refused.Again from to) falls met = record {
  from_is = met.from_is;
  from_real = met.from_real;
  to_real = met.to_real;
  newer = met.newer;
  seen = met.seen;
  moves = rises_before a.moves b.moves c.moves falls.moves met.moves;
}
cause_before files r view a b c refused.ReadFault falls rises =
    rises_before a.faults b.faults c.faults falls.faults rises
cause_before files r view a b c refused.NoMemory falls cause = tt
cause_before files r view a b c (refused.Busy busy) falls cause = tt
cause_before files r view a b c e falls cause = absurd cause
