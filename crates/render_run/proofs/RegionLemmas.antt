-- What does reading a region, or failing to, say about the line that answers it?
use Rattle.std.proofs.Common.{◌≡◌, ◌*◌, ◌≤◌, ℕ, List, [], length, Option, Some, None}
use Rattle.std.proofs.Common.{inl, inr, refl, sym, arith}
use Rattle.std.specs.Prelude.{IsSomeAnd}
use Rattle.std.specs.Option.{ForSome}
use Rattle.tex_world.specs.World.{Files}
use Rattle.tiff_format.specs.declared.cut.Cut.{Cut}
use Rattle.tile_layout.specs.Kept.{Kept}
use Rattle.file_table.specs.Record.{RecordState}
use Rattle.file_table.specs.Calls.{GivesRecord}
use Rattle.texel_values.specs.declared.region.Region.{Region}
use Rattle.texel_values.specs.Region.{max_texels, AreRegionValues, Appends}
use Rattle.tile_source.specs.declared.error.CacheError.{CacheError}
use Rattle.tile_source.specs.declared.error.CacheError.TheVariants as refused
use Rattle.tile_source.specs.Pass.{PassState}
use Rattle.image_cache.specs.Region.{ReadsRegion}
use Rattle.image_cache.specs.Call.{KeepsGiven}
use Rattle.file_table.specs.Picture.{ShowsFault, CellTooLarge}
use Rattle.image_cache.specs.Cause.{Around, HasCause, TooManyTexels, PixelsRefuses}
use Rattle.image_cache.specs.Cause.{LacksLevel}
use Rattle.request_lang.specs.declared.answer.Answer.TheVariants as line
use Rattle.request_lang.specs.Basis.{basis_of}
use Rattle.render_run.specs.declared.question.Question.TheVariants.{Values}
use Rattle.render_run.specs.Refusal.{refusal_of}
use Rattle.render_run.specs.Reply.{RestsOn, IsReplyOf}
use Rattle.render_run.proofs.GivenLemmas.{by_given, given_real, kept_told, fault_reply, large_reply}
use Rattle.render_run.proofs.GivenLemmas.{level_reply, never}

-- ---- a region that could not be read

module _ {B : Type 0} (a : Around) (q : Region) where
  -- a region of few texels
  pub region_rests : q.w * q.h ≤ max_texels → (e : CacheError B)
      → HasCause a (TooManyTexels q.w q.h) (PixelsRefuses q.level) e
      → RestsOn a.files a.cut a.file (Values q) (refusal_of e) (basis_of (refusal_of e))
  region_rests few (refused.Again from to) cause = record {
    from_real = cause.0.from_real;
    to_real = cause.0.to_real;
    newer = cause.0.newer;
  }
  region_rests few refused.ReadFault cause = tt
  region_rests few refused.NoMemory cause = tt
  region_rests few (refused.Busy b) cause = tt
  region_rests few (refused.BadFile generation fault) (inl first) = absurd first
  region_rests few (refused.BadFile generation fault) (inr given) =
      by_given a.files a.file a.cut a.old.view a.new.view a.new.latest
      (λ (r : RecordState). ShowsFault r generation fault) given (λ r gives shows.
      fault_reply a.files a.file a.cut a.old.view a.new.view r generation shows.of_generation
      gives (Values q) fault shows.shows tt (λ bytes is. is))
  region_rests few (refused.TileTooLarge generation) (inl first) = absurd first
  region_rests few (refused.TileTooLarge generation) (inr given) =
      by_given a.files a.file a.cut a.old.view a.new.view a.new.latest
      (λ (r : RecordState). CellTooLarge r generation) given (λ r gives shows.
      large_reply a.files a.file a.cut a.old.view a.new.view r generation shows.of_generation
      gives (Values q) shows tt (λ bytes is. is))
  region_rests few (refused.NoLevel generation levels) (inl first) = absurd first
  region_rests few (refused.NoLevel generation levels) (inr given) =
      by_given a.files a.file a.cut a.old.view a.new.view a.new.latest
      (λ (r : RecordState). LacksLevel q.level r generation levels) given (λ r gives shows.
      level_reply a.files a.file a.cut a.old.view a.new.view r generation shows.of_generation
      gives (Values q) q.level levels shows shows.lacks (λ bytes is. is))
  region_rests few (refused.Outside generation) (inl first) = absurd first
  region_rests few (refused.Outside generation) (inr given) = never a given
  region_rests few refused.RegionTooLarge (inl many) = absurd (omega (arith, few, many))
  region_rests few refused.RegionTooLarge (inr given) = never a given
  region_rests few refused.HoldsFull (inl first) = absurd first
  region_rests few refused.HoldsFull (inr given) = never a given

-- ---- a region that was read

module _ (files : Files) (file : ℕ) (cut : Cut) (old new : PassState) (q : Region)
    (generation channels : ℕ) (values : List ℕ)
    (count : length values ≡ q.h * (q.w * channels))
    (value : ForSome (files.held file generation) (λ bytes.
    Appends (AreRegionValues bytes q) [] values)) where
  by_kept : (kept : Option RecordState) → IsSomeAnd kept (λ r.
      GivesRecord files file cut old.view new.view r × (r.generation ≡ generation)
      × ReadsRegion files q channels old new r)
      → IsReplyOf files cut file (Values q) generation (line.Pixels generation channels values)
  by_kept None given = absurd given
  by_kept (Some r) (gives, of, reads) = record {
    form = count;
    real = given_real files file cut old.view new.view r generation (sym of) gives;
    reply = λ bytes is.
        let told = kept_told files file cut old.view new.view r generation (sym of) gives
        (λ (kept : Kept). kept ≡ reads.kept) (rw reads.has.layout refl) bytes is in
        let appended = value bytes is in
        record {
          served = record {
            good = told.0;
            fits = rw (told.1, ← gives.under) reads.has.fits;
          };
          level = rw (told.1, ← gives.under) reads.has.level;
          channels_are = rw told.1 reads.channels_are;
          values_are = rw appended.1 appended.2;
        };
  }

  -- the answer with a region's values
  pub region_reply : KeepsGiven files file cut old new generation
      (ReadsRegion files q channels old new)
      → IsReplyOf files cut file (Values q) generation (line.Pixels generation channels values)
  region_reply given = by_kept new.latest given
