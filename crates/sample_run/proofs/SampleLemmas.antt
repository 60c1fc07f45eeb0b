-- What has the sample call done, by the way in which it ends?
use Rattle.std.proofs.Common.{◌≡◌, inl, inr, ℕ, ◌<◌, ◌≤◌, List, length, sym, arith, subst}
use Rattle.std.specs.Prelude.{Some, None}
use Rattle.std.specs.Option.{IsSomeAnd}
use Rattle.request_lang.specs.Grammar.{max_list_bytes}
use Rattle.render_run.specs.Status as status
use Rattle.answer_page.specs.Page.{SinkState}
use Rattle.sample_run.specs.declared.size.Size.{Size}
use Rattle.sample_run.specs.Size.{size_in}
use Rattle.sample_run.specs.MadeList.{made_list}
use Rattle.sample_run.specs.Sample.{HasLongList, IsLine, Puts, Samples}

module _ (words : List (List ℕ)) (old new : SinkState) (ends : ℕ) where
  -- a short list is not too long
  not_long : (s : Size) → size_in words ≡ Some s → length (made_list s.requests) ≤ max_list_bytes
      → IsSomeAnd (size_in words) HasLongList → ⊥
  not_long s asked short long =
      let many : max_list_bytes < length (made_list s.requests) = rw asked at long in
      omega (arith, many, short)

  module _ (s : Size) (asked : size_in words ≡ Some s) where
    -- the words do ask for something
    some : size_in words ≡ None → ⊥
    some none = absurd (cc)

    -- the line was put
    pub writes : (text : List ℕ) (wanted : ℕ) → length (made_list s.requests) ≤ max_list_bytes
        → wanted ≤ status.with_refusals → IsLine words wanted text → Puts text wanted old new ends
        → Samples words old new ends
    writes text wanted short low line (inl put) = record {
      answered = λ e. record {
        text = text;
        line = subst (λ (n : ℕ). IsLine words n text) (sym put.0) line;
        written = put.1;
      };
      refused = λ e. absurd (omega (arith, e, put.0, low));
      long = λ e. absurd (omega (arith, e, put.0, low));
      cut = λ e. absurd (omega (arith, e, put.0, low));
      short = λ e. absurd (omega (arith, e, put.0, low));
      statuses = (omega (arith, put.0, low), λ e. absurd (omega (arith, e, put.0, low)));
      words_are = λ none. absurd (some none);
      list_is = λ long. absurd (not_long s asked short long);
    }
    writes text wanted short low line (inr cut) = record {
      answered = λ e. absurd (omega (arith, e, cut.0));
      refused = λ e. absurd (omega (arith, e, cut.0));
      long = λ e. absurd (omega (arith, e, cut.0));
      cut = λ e. record { text = text; wanted = inr (wanted, low, line); cut = cut.1 };
      short = λ e. absurd (omega (arith, e, cut.0));
      statuses = (omega (arith, cut.0), λ e. absurd (omega (arith, e, cut.0)));
      words_are = λ none. absurd (some none);
      list_is = λ long. absurd (not_long s asked short long);
    }
