-- One more lookup of a batch: its texels, its values, and what an error among them leaves.
use Rattle.std.proofs.Common.{◌≡◌, ℕ, zero, suc, ◌+◌, ◌-◌, ◌*◌, ◌<◌, ◌≤◌, refl, arith}
use Rattle.std.proofs.Common.{List, ◌++◌, length, slice_index, add-one, add-zero, add-suc, inl, inr}
use Rattle.std.proofs.Common.{◌∙◌, sym, subst, Result, Ok, Err, OnOk}
use Rattle.std.proofs.lemmas.Bool.{cases_lt}
use Rattle.std.proofs.Math.Nat.{mul-le-mul_right}
use Rattle.texel_filter.specs.Image.{Sizes, Image, Texel}
use Rattle.texel_filter.specs.Calls.{EachAnswered, OneRefused}
use Rattle.texel_filter.proofs.CallLemmas.{refused_before, refused_append, each_append}
use Rattle.texture_sys.specs.declared.batch.Batch.{Batch}
use Rattle.texture_sys.specs.declared.stopped.Stopped.{Stopped}
use Rattle.texture_sys.specs.Asked.{whole}
use Rattle.texture_sys.specs.Batch.{batch_channels, batch_visits, batch_visits_upto, nth_place}
use Rattle.texture_sys.specs.Batch.{place_value, place_visits, AreAnswered}

pub batch_visits_more : (sizes : Sizes) (b : Batch) (k : ℕ)
    → batch_visits_upto sizes b (k + 1)
    ≡ batch_visits_upto sizes b k ++ place_visits sizes b.options (nth_place b k)
unfolding batch_visits_upto
batch_visits_more sizes b k = rw add-one refl

-- what is refused among the first lookups is refused among more
refused_upto : {S E : Type 0} (leaves : S → Texel → S → Type 0)
    (refuses : S → Texel → E → S → Type 0) (old new : S) (sizes : Sizes) (b : Batch)
    (k m : ℕ) (e : E)
    → OneRefused leaves refuses old (batch_visits_upto sizes b k) e new
    → OneRefused leaves refuses old (batch_visits_upto sizes b (k + m)) e new
unfolding batch_visits_upto
refused_upto leaves refuses old new sizes b k zero e h = rw add-zero h
refused_upto leaves refuses old new sizes b k (suc m) e h =
    rw add-suc
    (refused_before leaves refuses old new _ _ e
    (refused_upto leaves refuses old new sizes b k m e h))

pub refused_in_batch : {S E : Type 0} (leaves : S → Texel → S → Type 0)
    (refuses : S → Texel → E → S → Type 0) (old mid new : S) (sizes : Sizes) (b : Batch)
    (i : ℕ) (e : E) → i < length b.places.now
    → EachAnswered leaves old (batch_visits_upto sizes b i) mid
    → OneRefused leaves refuses mid (place_visits sizes b.options (nth_place b i)) e new
    → OneRefused leaves refuses old (batch_visits sizes b) e new
refused_in_batch leaves refuses old mid new sizes b i e below before here =
    let among = refused_append leaves refuses old mid new (batch_visits_upto sizes b i)
    (place_visits sizes b.options (nth_place b i)) e before here in
    let upto = rw (← batch_visits_more sizes b i) at among in
    let whole : (i + 1) + (length b.places.now - (i + 1)) ≡ length b.places.now = omega arith in
    rw whole at
    (refused_upto leaves refuses old new sizes b (i + 1) (length b.places.now - (i + 1)) e upto)

pub answered_in_batch : {S : Type 0} (leaves : S → Texel → S → Type 0) (old mid new : S)
    (sizes : Sizes) (b : Batch) (i : ℕ)
    → EachAnswered leaves old (batch_visits_upto sizes b i) mid
    → EachAnswered leaves mid (place_visits sizes b.options (nth_place b i)) new
    → EachAnswered leaves old (batch_visits_upto sizes b (i + 1)) new
answered_in_batch leaves old mid new sizes b i before here =
    rw (batch_visits_more sizes b i)
    (each_append leaves old mid new (batch_visits_upto sizes b i)
    (place_visits sizes b.options (nth_place b i)) before here)

-- the values of lookup i end before those of a later one begin
pub ends_before : (i j channels : ℕ) → i < j → i * channels + channels ≤ j * channels
ends_before i j channels below =
    let more : (i + 1) * channels ≤ j * channels = mul-le-mul_right channels (omega arith) in
    omega (arith, more)

-- one more lookup is answered
pub answered_more : (image : Image) (b : Batch) (i : ℕ) (old new : List ℕ)
    → AreAnswered image b i old
    → ((c : ℕ) → c < batch_channels b.options
    → slice_index new (i * batch_channels b.options + c)
    ≡ place_value image b.options (nth_place b i) c)
    → ((k : ℕ) → k < i * batch_channels b.options → slice_index new k ≡ slice_index old k)
    → AreAnswered image b (i + 1) new
answered_more image b i old new first here before j c below channel =
    elim (cases_lt j i) [
      | inl less ↦
          (let ends = ends_before j i (batch_channels b.options) less in
          before (j * batch_channels b.options + c) (omega (arith, ends, channel))
          ∙ first j c less channel)
      | inr not ↦
          (let is : j ≡ i = omega arith in
          rw is (here c channel))
    ]

-- the same values are answered in a list with the same numbers
pub answered_same : (image : Image) (b : Batch) (i : ℕ) (old new : List ℕ)
    → AreAnswered image b i old → ((k : ℕ) → slice_index new k ≡ slice_index old k)
    → AreAnswered image b i new
answered_same image b i old new first same j c below channel =
    same (j * batch_channels b.options + c) ∙ first j c below channel

-- a result of one lookup is as good as before
pub alone_ok : {E : Type 0} (P : Type 0) (given : Result (Unit {0}) E) (got : Result (Unit {0}) (Stopped E))
    → whole got ≡ given → OnOk given P → OnOk got P
alone_ok P given (Ok done) is h = subst (λ (r : Result (Unit {0}) _). OnOk r P) (sym is) h
alone_ok P given (Err stopped) is h = tt
