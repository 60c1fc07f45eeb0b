-- What is read of a field in a line?
use Rattle.std.proofs.Common.{◌≡◌, ℕ, ◌<◌, ◌==◌}
use Rattle.std.proofs.Common.{List, [], ◌∷◌, ◌++◌, length, take, drop, Ok, refl, ap, ◌∙◌, arith}
use Rattle.std.proofs.Common.{length-append}
use Rattle.std.specs.Prelude.{ℤ}
use Rattle.std.specs.List.{list_all, position_or_len}
use Rattle.std.proofs.Math.Seq.{take-append_seam, drop-append_seam}
use Rattle.std.proofs.lemmas.Bool.{and_parts, lt-ltb}
use Rattle.short_text.specs.Words.{space_at, before_space, from_space}
use Rattle.request_lang.specs.LineField.{next_field}
use Rattle.request_lang.specs.LineField.{signed, unsigned, wrap_mode, filter_mode, channel_count}
use Rattle.request_lang.specs.RequestForm.{RequestForm, ◌>>=◌}
use Rattle.texel_filter.specs.declared.mode.Wrap.{Wrap}
use Rattle.texel_filter.specs.declared.request.Filter.{Filter}
use Rattle.sample_run.proofs.PlainLemmas.{ArePlain, is_plain, no_space}

-- the first space after a word
first_space : (word rest : List ℕ) → ArePlain word
    → position_or_len (λ b. b == 32) (word ++ 32 ∷ rest) ≡ length word
first_space [] rest plain = refl
first_space (b ∷ word) rest plain =
    let parts = and_parts (is_plain b) (list_all is_plain word) plain in
    rw (no_space b parts.0, first_space word rest parts.1) (omega arith)

module _ (word rest : List ℕ) (plain : ArePlain word) where
  space_is : space_at (word ++ 32 ∷ rest) ≡ length word
  space_is =
      let first = first_space word rest plain in
      let inside : length word < length (word ++ 32 ∷ rest) =
      omega (arith, length-append word (32 ∷ rest)) in
      rw (first, lt-ltb (length word) (length (word ++ 32 ∷ rest)) inside) refl

  -- a word that a space ends
  pub word_before : before_space (word ++ 32 ∷ rest) ≡ word
  word_before =
      ap (λ (n : ℕ). take n (word ++ 32 ∷ rest)) space_is ∙ take-append_seam word (32 ∷ rest)

  pub rest_from : from_space (word ++ 32 ∷ rest) ≡ 32 ∷ rest
  rest_from =
      ap (λ (n : ℕ). drop n (word ++ 32 ∷ rest)) space_is ∙ drop-append_seam word (32 ∷ rest)

  -- a field after a space, and what follows it
  next_is : next_field (32 ∷ (word ++ 32 ∷ rest)) ≡ Ok (word, 32 ∷ rest)
  unfolding next_field
  next_is =
      ap (λ (w : List ℕ). Ok (w, from_space (word ++ 32 ∷ rest))) word_before
      ∙ ap (λ (r : List ℕ). Ok (word, r)) rest_from

  -- a field of a kind in front of the rest of a form
  pub signed_then : (z : ℤ) (form : ℤ → RequestForm) → signed word ≡ Ok z
      → (signed >>= form) (32 ∷ (word ++ 32 ∷ rest)) ≡ form z (32 ∷ rest)
  signed_then z form reads = rw (next_is, reads) refl

  pub unsigned_then : (n : ℕ) (form : ℕ → RequestForm) → unsigned word ≡ Ok n
      → (unsigned >>= form) (32 ∷ (word ++ 32 ∷ rest)) ≡ form n (32 ∷ rest)
  unsigned_then n form reads = rw (next_is, reads) refl

  pub wrap_then : (w : Wrap) (form : Wrap → RequestForm) → wrap_mode word ≡ Ok w
      → (wrap_mode >>= form) (32 ∷ (word ++ 32 ∷ rest)) ≡ form w (32 ∷ rest)
  wrap_then w form reads = rw (next_is, reads) refl

  pub filter_then : (f : Filter) (form : Filter → RequestForm) → filter_mode word ≡ Ok f
      → (filter_mode >>= form) (32 ∷ (word ++ 32 ∷ rest)) ≡ form f (32 ∷ rest)
  filter_then f form reads = rw (next_is, reads) refl

  pub channels_then : (n : ℕ) (form : ℕ → RequestForm) → channel_count word ≡ Ok n
      → (channel_count >>= form) (32 ∷ (word ++ 32 ∷ rest)) ≡ form n (32 ∷ rest)
  channels_then n form reads = rw (next_is, reads) refl
