-- Do the words of the run ask for a run?
use Rattle.std.proofs.Common.{◌≡◌, ℕ, ◌≤◌, ◌==◌, ◌||◌, Bool, true, refl, arith, sym, ap, ◌∙◌}
use Rattle.std.specs.Prelude.{is_some}
use Rattle.std.specs.Fmt.{digits}
use Rattle.std.proofs.lemmas.Bool.{agree_below, agree_below_at, ne_eqb}
use Rattle.clap.proofs.OnLiterals.{clap_on_literals}
use Rattle.command_line.specs.Command.{command}
use Rattle.command_line.specs.Invocation.{invocation_of}
use Rattle.short_text.specs.Digits.{digits_number}
use Rattle.sample_run.specs.Size.{run_words, max_workers}

-- the arguments for this many workers are valid, or there are none
asks : ℕ → Bool
asks workers = (workers == 0) || is_some (invocation_of (run_words workers))

-- this is found by trying each number of workers
all_ask : agree_below asks (λ _. true) 17 ≡ true
unfolding asks clap_on_literals command invocation_of digits_number digits
all_ask = refl

pub words_ask : (workers : ℕ) → 1 ≤ workers → workers ≤ max_workers
    → is_some (invocation_of (run_words workers)) ≡ true
unfolding asks
words_ask workers some few =
    let e : asks workers ≡ true =
    agree_below_at asks (λ _. true) 17 workers all_ask (omega (arith, few)) in
    ap (λ b. b || is_some (invocation_of (run_words workers)))
    (sym (ne_eqb workers 0 (λ none. absurd (omega (arith, some, none)))))
    ∙ e
