-- What does holding a cell, or failing to, say about the line that answers it?
use Rattle.std.proofs.Common.{◌≡◌, ◌+◌, ◌<◌, ◌≤◌, ◌++◌, ◌∷◌, [], ℕ, List, length, get_or, Option, Some, None, Result, Ok, Err, Bool, true, false}
use Rattle.std.proofs.Common.{inl, inr, refl, sym, ap, ◌∙◌, arith, IsTrue}
use Rattle.std.specs.Prelude.{IsOkAnd, IsSomeAnd, IfSome, slice_get}
use Rattle.std.specs.List.{remove}
use Rattle.std.proofs.lemmas.List.{length_push, get_or_push}
use Rattle.std.proofs.lemmas.Option.{slice_get-get_or}
use Rattle.tex_world.specs.World.{Files, IsWorld}
use Rattle.tiff_format.specs.declared.fault.TiffFault.{TiffFault}
use Rattle.tile_store.specs.Tile.{CachedTile}
use Rattle.tiff_format.specs.declared.cut.Cut.{Cut}
use Rattle.tiff_format.specs.declared.rect.Rect.{Rect}
use Rattle.tile_layout.specs.Kept.{Kept}
use Rattle.tile_layout.specs.Level.{level_count_in}
use Rattle.tile_layout.specs.Cell.{CellsFit}
use Rattle.file_table.specs.Record.{RecordState}
use Rattle.file_table.specs.Calls.{GivesRecord}
use Rattle.texel_values.specs.declared.texel_at.TexelAt.{TexelAt}
use Rattle.tile_source.specs.declared.error.CacheError.{CacheError}
use Rattle.tile_source.specs.declared.error.CacheError.TheVariants as refused
use Rattle.tile_source.specs.Pass.{PassState}
use Rattle.tile_source.specs.Texel.{IsTexelOf, cell_of}
use Rattle.image_cache.specs.Call.{KeepsGiven, HoldsCell}
use Rattle.file_table.specs.Picture.{ShowsFault, CellTooLarge}
use Rattle.image_cache.specs.Cause.{Around, HasCause, NoFurtherHold, TileRefuses}
use Rattle.image_cache.specs.Cause.{LacksLevel, LacksTexel}
use Rattle.request_lang.specs.declared.answer.Answer.TheVariants as line
use Rattle.request_lang.specs.Basis.{basis_of}
use Rattle.render_run.specs.declared.question.Question.TheVariants.{Hold}
use Rattle.render_run.specs.Refusal.{refusal_of}
use Rattle.render_run.specs.Reply.{RestsOn, IsReplyOf}
use Rattle.render_run.proofs.GivenLemmas.{by_given, given_real, kept_told, fault_reply, large_reply}
use Rattle.render_run.proofs.GivenLemmas.{level_reply, never}

module _ (a : Around) (at : TexelAt) where
  -- a texel that is not in its level
  outside_reply : (r : RecordState) (generation : ℕ)
      → GivesRecord a.files a.file a.cut a.old.view a.new.view r → LacksTexel at r generation
      → IsReplyOf a.files a.cut a.file (Hold at) generation (line.Outside generation)
  outside_reply r generation gives shows = record {
    form = tt;
    real = given_real a.files a.file a.cut a.old.view a.new.view r generation shows.of_generation
        gives;
    reply = λ bytes is.
        let told = kept_told a.files a.file a.cut a.old.view a.new.view r generation
        shows.of_generation gives (λ (kept : Kept). CellsFit kept r.cut
        × (at.level < level_count_in kept r.cut.automip) × (¬ IsTexelOf kept r.cut at))
        shows.fits bytes is in
        record {
          served = record { good = told.0; fits = rw (← gives.under) told.1.0 };
          level = rw (← gives.under) told.1.1;
          lacks = rw (← gives.under) told.1.2;
        };
  }

  -- if fewer than four tiles are held
  pub tile_rests : {B : Type 0} → (length a.old.pinned.holds ≡ 4 → ⊥) → (e : CacheError B)
      → HasCause a (NoFurtherHold a.old) (TileRefuses at) e
      → RestsOn a.files a.cut a.file (Hold at) (refusal_of e) (basis_of (refusal_of e))
  tile_rests few (refused.Again from to) cause = record {
    from_real = cause.0.from_real;
    to_real = cause.0.to_real;
    newer = cause.0.newer;
  }
  tile_rests few refused.ReadFault cause = tt
  tile_rests few refused.NoMemory cause = tt
  tile_rests few (refused.Busy b) cause = tt
  tile_rests few (refused.BadFile generation fault) (inl first) = absurd first
  tile_rests few (refused.BadFile generation fault) (inr given) =
      by_given a.files a.file a.cut a.old.view a.new.view a.new.latest
      (λ (r : RecordState). ShowsFault r generation fault) given (λ r gives shows.
      fault_reply a.files a.file a.cut a.old.view a.new.view r generation shows.of_generation
      gives (Hold at) fault shows.shows tt (λ bytes is. is))
  tile_rests few (refused.TileTooLarge generation) (inl first) = absurd first
  tile_rests few (refused.TileTooLarge generation) (inr given) =
      by_given a.files a.file a.cut a.old.view a.new.view a.new.latest
      (λ (r : RecordState). CellTooLarge r generation) given (λ r gives shows.
      large_reply a.files a.file a.cut a.old.view a.new.view r generation shows.of_generation
      gives (Hold at) shows tt (λ bytes is. is))
  tile_rests few (refused.NoLevel generation levels) (inl first) = absurd first
  tile_rests few (refused.NoLevel generation levels) (inr given) =
      by_given a.files a.file a.cut a.old.view a.new.view a.new.latest
      (λ (r : RecordState). LacksLevel at.level r generation levels) given (λ r gives shows.
      level_reply a.files a.file a.cut a.old.view a.new.view r generation shows.of_generation
      gives (Hold at) at.level levels shows shows.lacks (λ bytes is. is))
  tile_rests few (refused.Outside generation) (inl first) = absurd first
  tile_rests few (refused.Outside generation) (inr given) =
      by_given a.files a.file a.cut a.old.view a.new.view a.new.latest
      (λ (r : RecordState). LacksTexel at r generation) given (λ r gives shows.
      outside_reply r generation gives shows)
  tile_rests few refused.RegionTooLarge (inl first) = absurd first
  tile_rests few refused.RegionTooLarge (inr given) = never a given
  tile_rests few refused.HoldsFull (inl full) = absurd (few full)
  tile_rests few refused.HoldsFull (inr given) = never a given

-- ---- a cell that is held

-- if a generation has bytes, the world is modelled
told_by : (files : Files) → IsWorld files → (file generation : ℕ) (bytes : List ℕ)
    → files.held file generation ≡ Some bytes → IsTrue files.tells
told_by files lawful file generation bytes is = by_case files.tells refl
  where
    by_case : (t : Bool) → files.tells ≡ t → IsTrue files.tells
    by_case true told = rw told refl
    by_case false untold =
        let none = lawful.untold (rw untold refl) file generation in absurd (cc (none, is))

-- two facts of the layout together
both_ok : (layout : Result Kept TiffFault) (P Q : Kept → Type 0) → IsOkAnd layout P
    → IsOkAnd layout Q → IsOkAnd layout (λ kept. P kept × Q kept)
both_ok (Ok kept) P Q p q = (p, q)
both_ok (Err fault) P Q p q = absurd p

module _ (files : Files) (file : ℕ) (cut : Cut) (old new : PassState) (at : TexelAt)
    (generation : ℕ) (rect : Rect) (lawful : IsWorld files)
    (shown : IfSome (slice_get new.pinned.holds (length old.pinned.holds)) (λ t. rect ≡ t.rect))
  where
    -- the rectangle is that of the tile that is held last
    last_rect : (tile : CachedTile) → new.pinned.holds ≡ old.pinned.holds ++ tile ∷ []
        → rect ≡ tile.rect
    last_rect tile held =
        let long : length old.pinned.holds < length new.pinned.holds =
        omega (arith, ap length held, length_push old.pinned.holds tile) in
        let there : slice_get new.pinned.holds (length old.pinned.holds) ≡ Some tile =
        slice_get-get_or new.pinned.holds (length old.pinned.holds) tile long
        ∙ ap Some (ap (λ (ts : List CachedTile). get_or ts (length old.pinned.holds) tile) held
        ∙ get_or_push old.pinned.holds tile tile (length old.pinned.holds) refl) in
        rw there at shown

    by_held : (kept : Option RecordState) → IsSomeAnd kept (λ r.
        GivesRecord files file cut old.view new.view r × (r.generation ≡ generation)
        × HoldsCell files at old new r)
        → IsReplyOf files cut file (Hold at) generation (line.Held generation rect)
    by_held None given = absurd given
    by_held (Some r) (gives, of, holds) = record {
      form = tt;
      real = given_real files file cut old.view new.view r generation (sym of) gives;
      reply = λ bytes is.
          let tells = told_by files lawful file generation bytes is in
          let told = kept_told files file cut old.view new.view r generation (sym of) gives
          (λ (kept : Kept). (CellsFit kept r.cut × IsTexelOf kept r.cut at
          × (holds.tile.key ≡ (cell_of r.generation r.file r.cut kept at).key))
          × (holds.tile.rect ≡ (cell_of r.generation r.file r.cut kept at).rect))
          (both_ok r.layout _ _ holds.cell (holds.rect tells)) bytes is in
          record {
            served = record { good = told.0; fits = rw (← gives.under) told.1.0.0 };
            inside = rw (← gives.under) told.1.0.1;
            rect_is = rw (← gives.under) (last_rect holds.tile holds.held ∙ told.1.1);
          };
    }

    -- the answer with a held tile's rectangle
    pub tile_reply : KeepsGiven files file cut old new generation (HoldsCell files at old new)
        → IsReplyOf files cut file (Hold at) generation (line.Held generation rect)
    tile_reply given = by_held new.latest given

-- if nothing is held, nothing is released
pub none_gone : (old new : List CachedTile) → length old ≤ 0 → new ≡ old → new ≡ remove old 0
none_gone [] new none same = same
none_gone (tile ∷ tiles) new none same = absurd (omega arith)

-- a tile more is held
one_held : (files : Files) (file : ℕ) (cut : Cut) (at : TexelAt) (old new : PassState) (generation : ℕ)
    (kept : Option RecordState) → IsSomeAnd kept (λ r. GivesRecord files file cut old.view new.view r
    × (r.generation ≡ generation) × HoldsCell files at old new r)
    → length new.pinned.holds ≡ length old.pinned.holds + 1
one_held files file cut at old new generation None given = absurd given
one_held files file cut at old new generation (Some r) (gives, of, holds) =
    ap length holds.held ∙ length_push old.pinned.holds holds.tile

pub holds_more : (files : Files) (file : ℕ) (cut : Cut) (at : TexelAt) (old new : PassState)
    (generation : ℕ) → KeepsGiven files file cut old new generation (HoldsCell files at old new)
    → length new.pinned.holds + 0 ≡ length old.pinned.holds + 1
holds_more files file cut at old new generation given =
    omega (arith, one_held files file cut at old new generation new.latest given)
