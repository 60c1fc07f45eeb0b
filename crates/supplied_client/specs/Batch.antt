-- What does a batch of C ask for, which are in range, and what is answered?
use Rattle.std.specs.Prelude.{◌≡◌, ◌⊎◌, ℕ, ◌*◌, ◌<◌, ◌≤◌, ◌==◌, if◌then◌else◌}
use Rattle.std.specs.Prelude.{List, length, take, drop, slice_index, IfSome}
use Rattle.file_table.specs.Calls.{sighted}
use Rattle.std.specs.Borrow.{Bor}
use Rattle.texture_sys.specs.declared.batch.LookupPoint.{LookupPoint}
use Rattle.texture_sys.specs.declared.batch.BatchOptions.{BatchOptions}
use Rattle.texture_sys.specs.declared.batch.BatchOptions.TheVariants.{Points, Footprints}
use Rattle.texture_sys.specs.declared.batch.Batch.{Batch}
use Rattle.texture_sys.specs.declared.lookup.Lookups.TheVariants.{Many}
use Rattle.texture_sys.specs.Batch.{batch_channels, IsBatchInRange, IsFirstOutOfRange}
use Rattle.std.specs.Option.{ForSome}
use Rattle.texture_sys.specs.Asked.{AreFirstOn}
use Rattle.texture_sys.specs.Look.{picture_of}
use Rattle.texture_sys.specs.Call.{Answers, IsOfGeneration, TextureCause, IsWarm}
use Rattle.supplied_client.specs.declared.batch.TexBatch.{TexBatch}
use Rattle.supplied_client.specs.declared.batch.TexBatchAnswer.{TexBatchAnswer}
use Rattle.supplied_client.specs.Answer as said
use Rattle.supplied_client.specs.Calls.{files_of}
use Rattle.supplied_client.specs.Client.{ClientState}
use Rattle.supplied_client.specs.Request.{wrap_of, filter_of}
use Rattle.supplied_tap.specs.SuppliedTap.{tap_state}
use Rattle.supplied_tap.specs.SuppliedWorld.{supplied_files}
use Rattle.supplied_client.specs.Unanswered.{IsUnanswered, RefusesFile}

-- ---- what is asked

-- The wraps and the filter are in their ranges.
pub record HasOptions (b : TexBatch) : Type 0 where
  pub swrap : b.swrap < 4
  pub twrap : b.twrap < 4
  pub filter : b.filter < 3

-- the options of the lookups
abbrev pub options_of : TexBatch → BatchOptions
options_of b = if b.max_probes == 0
    then Points (record {
      lod = b.lod;
      swrap = wrap_of b.swrap;
      twrap = wrap_of b.twrap;
      filter = filter_of b.filter;
      nch = b.channels;
    })
    else Footprints (record {
      max_probes = b.max_probes;
      swrap = wrap_of b.swrap;
      twrap = wrap_of b.twrap;
      nch = b.channels;
    })

-- the lookups at these places
abbrev pub batch_of : TexBatch → Bor (List LookupPoint) → Batch
batch_of b places = record { options = options_of b; places = places }

-- how many values are asked for
abbrev pub count_of : TexBatch → List LookupPoint → ℕ
count_of b places = length places * batch_channels (options_of b)

-- ---- what is answered

-- an answer with all fields 0
abbrev pub blank : TexBatchAnswer
blank = record { done = 0; generation = 0; error = said.blank }

-- The request is refused: no file has this number; a wrap or the filter is out of range, or the
-- lookup that the answer names; or the buffer is too small.
abbrev pub RefusesBatch : ℕ → TexBatch → Bor (List LookupPoint) → ℕ → ℕ → ℕ → Type 0
RefusesBatch files b places room done code = RefusesFile files b.file code
    ⊎ (((code ≡ 4) × (¬ HasOptions b ⊎ IsFirstOutOfRange (batch_of b places) done))
    ⊎ ((code ≡ 5) × (room < count_of b places.now)))

-- What a batch answers, and what state it leaves. The values are those of the lookups on the bytes
-- of the generation that the answer names, and the rest of the buffer is unchanged. After an error
-- the lookups before the one that failed are answered, on the generation that the answer names,
-- and no other value was written. That generation is 0 if the file was not opened. If the pass
-- keeps a valid record of the file and its microcache has every cell needed, the lookups succeed or
-- a newer generation was seen.
pub record SaysBatch (b : TexBatch) (places : Bor (List LookupPoint)) (code : ℕ) (answer : TexBatchAnswer)
    (out_old out_new : List ℕ) (old new : ClientState) : Type 0 where
  pub cache : new.cache ≡ old.cache
  pub ok : code ≡ 0 → Answers supplied_files b.file old.cache.gate.cut
      (Many (batch_of b places)) old.pass.view new.pass.view
      (take (count_of b places.now) out_new) answer.generation
  pub beyond : drop (count_of b places.now) out_new ≡ drop (count_of b places.now) out_old
  pub unopened : ¬ (code ≡ 0) → ¬ (code ≡ 4) → answer.generation ≡ 0 → answer.done ≡ 0
  pub of : ¬ (code ≡ 0) → 1 ≤ answer.generation
      → IsOfGeneration supplied_files b.file old.pass.view new.pass.view answer.generation
  pub first : ¬ (code ≡ 0) → 1 ≤ answer.generation
      → ForSome (supplied_files.held b.file answer.generation) (λ bytes.
      AreFirstOn (picture_of old.cache.gate.cut bytes) (Many (batch_of b places))
      answer.done (take (count_of b places.now) out_new))
  pub rest : ¬ (code ≡ 0) → (k : ℕ) → answer.done * batch_channels (options_of b) ≤ k
      → slice_index out_new k ≡ slice_index out_old k
  pub unwritten : code ≡ 4 → out_new ≡ out_old
  pub holds : new.pass.pinned.holds ≡ old.pass.pinned.holds
  pub cause : ¬ (code ≡ 0) → IsUnanswered
      (RefusesBatch (files_of old) b places (length out_old) answer.done)
      (TextureCause supplied_files b.file old.cache.gate.cut
      (sighted old.pass.view (tap_state old.tap)) (sighted new.pass.view (tap_state new.tap)))
      new.tap code answer.error
  pub warm : b.file < files_of old → HasOptions b → IsBatchInRange (batch_of b places)
      → count_of b places.now ≤ length out_old
      → IfSome old.pass.latest (λ known. IsWarm b.file (Many (batch_of b places)) old.pass known
      → ((code ≡ 0) × (answer.generation ≡ known.generation))
      ⊎ (known.generation < slice_index new.pass.view.seen b.file))
