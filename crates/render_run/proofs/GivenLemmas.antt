-- What does a record that was given to a call say of the line that is answered by it?
use Rattle.std.proofs.Common.{◌≡◌, ℕ, List, Option, Some, None, Err}
use Rattle.std.specs.Prelude.{IsOkAnd, IsSomeAnd}
use Rattle.tex_world.specs.World.{Files, IsReal}
use Rattle.tiff_format.specs.declared.fault.TiffFault.{TiffFault}
use Rattle.tiff_format.specs.Fault.{first_fault}
use Rattle.tiff_format.specs.declared.cut.Cut.{Cut}
use Rattle.tile_layout.specs.Kept.{Kept, kept_of}
use Rattle.tile_layout.specs.Level.{level_count_in}
use Rattle.tile_layout.specs.Cell.{CellsFit}
use Rattle.gen_board.specs.View.{ViewState}
use Rattle.file_table.specs.Record.{RecordState, layout_of}
use Rattle.file_table.specs.Calls.{GivesRecord}
use Rattle.file_table.specs.Picture.{CellTooLarge}
use Rattle.image_cache.specs.Cause.{Around, LacksLevel}
use Rattle.texture_sys.proofs.LookLemmas.{good_layout, bad_layout}
use Rattle.request_lang.specs.declared.answer.Answer.TheVariants as line
use Rattle.render_run.specs.declared.question.Question.{Question}
use Rattle.render_run.specs.Reply.{IsReplyOf, IsReplyOn, HasForm, HasLargeCell, LacksLevelOn}

-- a fact of a record that was given and that the pass keeps
pub by_given : {G : Type 0} (files : Files) (file : ℕ) (cut : Cut) (old new : ViewState)
    (kept : Option RecordState) (P : RecordState → Type 0)
    → IsSomeAnd kept (λ r. GivesRecord files file cut old new r × P r)
    → ((r : RecordState) → GivesRecord files file cut old new r → P r → G) → G
by_given files file cut old new None P given use_of = absurd given
by_given files file cut old new (Some r) P given use_of = use_of r given.0 given.1

-- ---- a record that was given

module _ (files : Files) (file : ℕ) (cut : Cut) (old new : ViewState) (r : RecordState)
    (generation : ℕ) (of_generation : generation ≡ r.generation)
    (given : GivesRecord files file cut old new r) where
  -- the record's generation exists
  pub given_real : IsReal files file generation
  given_real = rw (of_generation, ← given.of_file) given.honest.real

  -- the record's layout is that of the generation's bytes
  given_layout : (bytes : List ℕ) → files.held file generation ≡ Some bytes
      → r.layout ≡ layout_of bytes
  given_layout bytes is =
      given.honest.layout bytes (rw (given.of_file, ← of_generation) is)

  -- a fact of the record's layout is a fact of what is kept of the bytes, which are valid
  pub kept_told : (P : Kept → Type 0) → IsOkAnd r.layout P → (bytes : List ℕ)
      → files.held file generation ≡ Some bytes
      → (first_fault bytes ≡ None) × P (kept_of bytes)
  kept_told P so bytes is =
      let good = good_layout bytes r.layout P (given_layout bytes is) so in (good.0, good.2)

  module _ (q : Question) where
    -- the fault that it shows
    pub fault_reply : (fault : TiffFault) → r.layout ≡ Err fault
        → HasForm q (line.BadFile generation fault)
        → ((bytes : List ℕ) → first_fault bytes ≡ Some fault
        → IsReplyOn cut bytes q (line.BadFile generation fault))
        → IsReplyOf files cut file q generation (line.BadFile generation fault)
    fault_reply fault shows formed reply = record {
      form = formed;
      real = given_real;
      reply = λ bytes is.
          reply bytes (bad_layout bytes r.layout fault (given_layout bytes is) shows);
    }

    -- a cell that is too large
    pub large_reply : CellTooLarge r generation → HasForm q (line.TileTooLarge generation)
        → ((bytes : List ℕ) → HasLargeCell cut bytes
        → IsReplyOn cut bytes q (line.TileTooLarge generation))
        → IsReplyOf files cut file q generation (line.TileTooLarge generation)
    large_reply shows formed reply = record {
      form = formed;
      real = given_real;
      reply = λ bytes is.
          let large = kept_told (λ (kept : Kept). ¬ CellsFit kept r.cut) shows.too_large bytes is
          in
          reply bytes (record { good = large.0; too_large = rw (← given.under) large.1 });
    }

    -- a level that does not exist
    pub level_reply : (level levels : ℕ) → LacksLevel level r generation levels
        → HasForm q (line.NoLevel generation levels)
        → ((bytes : List ℕ) → LacksLevelOn cut bytes level levels
        → IsReplyOn cut bytes q (line.NoLevel generation levels))
        → IsReplyOf files cut file q generation (line.NoLevel generation levels)
    level_reply level levels shows formed reply = record {
      form = formed;
      real = given_real;
      reply = λ bytes is.
          let told = kept_told (λ (kept : Kept).
          CellsFit kept r.cut × (levels ≡ level_count_in kept r.cut.automip)) shows.fits bytes is
          in
          reply bytes (record {
            served = record { good = told.0; fits = rw (← given.under) told.1.0 };
            levels_are = rw (← given.under) told.1.1;
            lacks = shows.lacks;
          });
    }

-- ---- errors that a call cannot have

module _ (a : Around) where
  -- an error that reading a region cannot have
  pub never : {G : Type 0} → IsSomeAnd a.new.latest (λ r.
      GivesRecord a.files a.file a.cut a.old.view a.new.view r × ⊥) → G
  never given =
      by_given a.files a.file a.cut a.old.view a.new.view a.new.latest (λ (r : RecordState). ⊥)
      given (λ r gives none. absurd none)
