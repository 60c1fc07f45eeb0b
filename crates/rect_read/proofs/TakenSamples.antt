-- The samples that were taken, and those of other planes.
use Rattle.std.proofs.Common.{◌≡◌, ◌≢◌, ℕ, ◌+◌, ◌-◌, ◌*◌, ◌<◌, ◌≤◌, List, ◌++◌, length, map, slice_index}
use Rattle.std.proofs.Common.{zero, suc, [], ◌∷◌, get_or, replicate, ap, sym, ◌∙◌, refl, arith}
use Rattle.std.proofs.Common.{zero-add, inl, inr, Bool, true, false}
use Rattle.std.specs.List.{range_with_len}
use Rattle.std.proofs.lemmas.Bool.{cases_lt, ne_eqb}
use Rattle.std.proofs.lemmas.List.{get_or_append_left, get_or-append_right, get_or_past}
use Rattle.std.proofs.Math.Nat.{mul-le-mul_right}
use Rattle.std.proofs.lemmas.List.FromFn.{length-map-range_with_len, get_or-map-range_with_len}
use Rattle.piece_samples.specs.declared.places.Places.{Places}
use Rattle.rect_read.specs.declared.samples.Samples.{Samples}
use Rattle.rect_read.specs.Taken.{taken_by, samples_among, KeepsOthers, FitsSamples}
use Rattle.rect_read.specs.RectSamples.{samples_of, are_wide}
use Rattle.tile_layout.specs.declared.texel_format.TexelFormat.{TexelFormat}
use Rattle.rect_read.proofs.Appended.{is_appended}

-- ---- what was taken

-- with one plane, all samples were taken
pub taken_alone : (places : Places) (values : List ℕ) → places.step ≡ 1
    → taken_by places values ≡ values
unfolding taken_by
taken_alone places values one = rw one refl

-- else the samples of one
pub taken_among : (places : Places) (values : List ℕ) → places.step ≢ 1
    → taken_by places values ≡ samples_among places.step places.first places.done values
unfolding taken_by
taken_among places values several = rw (ne_eqb places.step 1 several) refl

module _ (step first : ℕ) where
  pub length_among : (n : ℕ) (values : List ℕ) → length (samples_among step first n values) ≡ n
  length_among n values =
      length-map-range_with_len (λ k. slice_index values (k * step + first)) 0 n

  pub among_at : (n : ℕ) (values : List ℕ) (k : ℕ) → k < n
      → slice_index (samples_among step first n values) k ≡ slice_index values (k * step + first)
  among_at n values k below =
      get_or-map-range_with_len (λ j. slice_index values (j * step + first)) 0 n k k 0 below
      (zero-add k)

  -- `count` more samples of a plane, after those that are unchanged
  pub among_more : (done count : ℕ) (value : ℕ → ℕ) (old new : List ℕ)
      → ((k : ℕ) → k < done
      → slice_index new (k * step + first) ≡ slice_index old (k * step + first))
      → ((k : ℕ) → k < count → slice_index new ((done + k) * step + first) ≡ value k)
      → samples_among step first (done + count) new
      ≡ samples_among step first done old ++ map value (range_with_len 0 count)
  among_more done count value old new before behind =
      let was = samples_among step first done old in
      let is = samples_among step first (done + count) new in
      let long : length was ≡ done = length_among done old in
      is_appended was is value count
      (length_among (done + count) new ∙ ap (λ (n : ℕ). n + count) (sym long))
      (λ k lt.
      let below : k < done = omega (arith, long) in
      among_at (done + count) new k (omega (arith, below)) ∙ before k below
      ∙ sym (among_at done old k below))
      (λ k lt.
      ap (λ (n : ℕ). slice_index is (n + k)) long
      ∙ among_at (done + count) new (done + k) (omega arith) ∙ behind k lt)

-- each sample that was taken, by its place
pub taken_at : (places : Places) (values : List ℕ) (k : ℕ) → places.step ≢ 1
    → k < length (taken_by places values)
    → slice_index values (k * places.step + places.first) ≡ slice_index (taken_by places values) k
taken_at places values k several below =
    let step = places.step in
    let first = places.first in
    let is = taken_among places values several in
    let inside : k < places.done =
    omega (arith, ap length is, length_among step first places.done values, below) in
    sym (ap (λ (l : List ℕ). slice_index l k) is
    ∙ among_at step first places.done values k inside)

pub placed_at : (places : Places) (values : List ℕ) (step first k : ℕ) → places.step ≡ step
    → places.first ≡ first → places.step ≢ 1 → k < length (taken_by places values)
    → slice_index values (k * step + first) ≡ slice_index (taken_by places values) k
placed_at places values step first k steps firsts several below =
    let at : k * step + first ≡ k * places.step + places.first =
    ap (λ (n : ℕ). k * n + first) (sym steps) ∙ ap (λ (n : ℕ). k * places.step + n) (sym firsts) in
    ap (λ (n : ℕ). slice_index values n) at ∙ taken_at places values k several below

pub length_taken : (places : Places) (values : List ℕ) → places.step ≢ 1
    → length (taken_by places values) ≡ places.done
length_taken places values several =
    ap length (taken_among places values several)
    ∙ length_among places.step places.first places.done values

-- `count` more samples were taken
pub taken_more : (p q : Places) (old new : List ℕ) (count : ℕ) (value : ℕ → ℕ) → p.step ≢ 1
    → q.step ≡ p.step → q.first ≡ p.first → q.done ≡ p.done + count
    → ((k : ℕ) → k < p.done
    → slice_index new (k * p.step + p.first) ≡ slice_index old (k * p.step + p.first))
    → ((k : ℕ) → k < count → slice_index new ((p.done + k) * p.step + p.first) ≡ value k)
    → taken_by q new ≡ taken_by p old ++ map value (range_with_len 0 count)
taken_more p q old new count value several step first done before behind =
    let still : q.step ≢ 1 = rw step several in
    let same : samples_among q.step q.first q.done new
    ≡ samples_among p.step p.first (p.done + count) new = rw (step, first, done) refl in
    taken_among q new still ∙ same ∙ among_more p.step p.first p.done count value old new before behind
    ∙ ap (λ (l : List ℕ). l ++ map value (range_with_len 0 count)) (sym (taken_among p old several))

-- one of 0 more
pub taken_zero : (p q : Places) (old new : List ℕ) → p.step ≢ 1
    → q.step ≡ p.step → q.first ≡ p.first → q.done ≡ p.done + 1
    → ((k : ℕ) → k < p.done
    → slice_index new (k * p.step + p.first) ≡ slice_index old (k * p.step + p.first))
    → slice_index new (p.done * p.step + p.first) ≡ 0
    → taken_by q new ≡ taken_by p old ++ 0 ∷ []
taken_zero p q old new several step first done before is =
    taken_more p q old new 1 (λ k. 0) several step first done before
    (λ k lt.
    let none : p.done + k ≡ p.done = omega arith in
    ap (λ (n : ℕ). slice_index new (n * p.step + p.first)) none ∙ is)

-- ---- what stays

pub zero_of : (n k : ℕ) → get_or (replicate {A = ℕ} n 0) k 0 ≡ 0
zero_of zero k = refl
zero_of (suc n) zero = refl
zero_of (suc n) (suc k) = zero_of n k

-- appended zeros do not change what was there
pub zeros_behind : (values : List ℕ) (n k : ℕ)
    → get_or (values ++ replicate n 0) k 0 ≡ get_or values k 0
zeros_behind values n k = elim (cases_lt k (length values)) [
  | inl lt ↦ get_or_append_left values (replicate n 0) 0 k lt
  | inr le ↦
      get_or-append_right values (replicate n 0) (length values) k 0 refl le
      ∙ zero_of n (k - length values) ∙ sym (get_or_past values k 0 le)
]

pub keeps_itself : (samples : Samples) → KeepsOthers samples samples
keeps_itself samples = record {
  step = refl;
  first = refl;
  done = omega arith;
  wide = refl;
  room = λ several room. refl;
  others = λ k c below other. refl;
}

pub keeps_same : (a b : Samples) → b.places ≡ a.places → are_wide b.values ≡ are_wide a.values
    → samples_of b.values ≡ samples_of a.values → KeepsOthers a b
keeps_same a b places wide values = record {
  step = ap (λ (p : Places). p.step) places;
  first = ap (λ (p : Places). p.first) places;
  done = rw places (omega arith);
  wide = wide;
  room = λ several room. ap length values;
  others = λ k c below other. ap (λ (v : List ℕ). slice_index v (k * a.places.step + c)) values;
}

pub taken_same : (a b : Samples) → b.places ≡ a.places → samples_of b.values ≡ samples_of a.values
    → taken_by b.places (samples_of b.values) ≡ taken_by a.places (samples_of a.values)
taken_same a b places values = rw (places, values) refl

-- after a write of the plane's own samples
pub keeps_more : (a b : Samples) (n : ℕ) → are_wide b.values ≡ are_wide a.values
    → b.places.step ≡ a.places.step → b.places.first ≡ a.places.first → b.places.done ≡ a.places.done + n
    → (b.places.done * b.places.step ≤ length (samples_of a.values)
    → length (samples_of b.values) ≡ length (samples_of a.values))
    → ((k c : ℕ) → c < a.places.step → c ≢ a.places.first
    → slice_index (samples_of b.values) (k * a.places.step + c)
    ≡ slice_index (samples_of a.values) (k * a.places.step + c))
    → KeepsOthers a b
keeps_more a b n wide step first done room others = record {
  step = step;
  first = first;
  done = omega (arith, done);
  wide = wide;
  room = λ several there. room (rw step there);
  others = others;
}

pub keeps_after : (a b c : Samples) → KeepsOthers a b → KeepsOthers b c → KeepsOthers a c
keeps_after a b c one two = record {
  step = two.step ∙ one.step;
  first = two.first ∙ one.first;
  done = omega (arith, one.done, two.done);
  wide = two.wide ∙ one.wide;
  room = λ several room.
      let less : b.places.done * a.places.step ≤ c.places.done * a.places.step =
      mul-le-mul_right a.places.step two.done in
      let before : length (samples_of b.values) ≡ length (samples_of a.values) =
      one.room several (omega (arith, less, room)) in
      two.room (rw one.step several)
      (rw one.step (omega (arith, before, room))) ∙ before;
  others = λ k d below other.
      let more = two.others k d (rw one.step below) (rw one.first other) in
      (rw one.step at more) ∙ one.others k d below other;
}

-- samples of whole texels have no other planes
pub keeps_alone : (a b : Samples) → a.places.step ≡ 1 → b.places ≡ a.places
    → are_wide b.values ≡ are_wide a.values → KeepsOthers a b
keeps_alone a b one places wide = record {
  step = ap (λ (p : Places). p.step) places;
  first = ap (λ (p : Places). p.first) places;
  done = rw places (omega arith);
  wide = wide;
  room = λ several room. absurd (several one);
  others = λ k c below other. absurd (other (omega (arith, below, one, a.places.own)));
}

-- what fits them fits them then
pub fits_after : (a b : Samples) (format : TexelFormat) → KeepsOthers a b → FitsSamples a format
    → FitsSamples b format
fits_after a b format keeps fits = record {
  texels = λ narrow. fits.texels (sym keeps.wide ∙ narrow);
  places = λ several. fits.places (rw keeps.step at several);
  wide = λ several. keeps.wide ∙ fits.wide (rw keeps.step at several);
}

one_by : (step : ℕ) (wide : Bool) → (step ≢ 1 → wide ≡ true) → wide ≡ false → step ≡ 1
one_by step true by narrow = cc
one_by zero false by narrow = let wide = by (λ e. omega (arith, e)) in cc
one_by (suc zero) false by narrow = refl
one_by (suc (suc n)) false by narrow = let wide = by (λ e. omega (arith, e)) in cc

-- samples of one byte each belong to a level with one plane
pub one_of_bytes : (samples : Samples) (format : TexelFormat) → FitsSamples samples format
    → are_wide samples.values ≡ false → samples.places.step ≡ 1
one_of_bytes samples format fits = one_by samples.places.step (are_wide samples.values) fits.wide
