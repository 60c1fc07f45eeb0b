-- What a run of calls answers and leaves.
use Rattle.std.proofs.Common.{◌≡◌, ℕ, Bool, true, false, nat_eq, List, [], ◌∷◌, ◌++◌, map, sym, ap, ◌∙◌, subst}
use Rattle.std.proofs.Common.{append_assoc}
use Rattle.std.specs.List.{list_any}
use Rattle.std.proofs.lemmas.List.{append-nil}
use Rattle.micro.specs.Items.{AreItems}
use Rattle.micro.specs.Recent.{recent, AreRecent, hits}
use Rattle.micro.specs.Runs.{IsAsked, AreAsked}
use Rattle.micro.proofs.HitLemmas.{any_from_Contains, none_from_absent, hits-push}
use Rattle.micro.proofs.ItemLemmas.{first_found, placed_new, recent_again}

module _ {P : Type 0} (key_of : P → ℕ) where
  -- the items after one key more, and the answer to it
  record IsOneMore (before : List ℕ) (key : ℕ) (answer : Bool) (new : List P) : Type 0 where
    are : AreItems key_of new
    latest : AreRecent key_of (before ++ key ∷ []) new
    hit : list_any (nat_eq key) (recent before) ≡ answer

  one_more : (before : List ℕ) (old : List P) (key : ℕ) (answer : Bool) (new : List P)
      → AreItems key_of old → AreRecent key_of before old → IsAsked key_of old key answer new
      → IsOneMore before key answer new
  one_more before old key true new are were asked =
      let any = any_from_Contains (map key_of old) key asked.0 in
      let found = first_found key_of key old are any in
      record {
        are = rw asked.1 found.are;
        latest = recent_again key_of before key old new (ap (map key_of) asked.1 ∙ found.keys) were;
        hit = ap (list_any (nat_eq key)) (sym were) ∙ any;
      }
  one_more before old key false new are were asked =
      let p = asked.1.0 in
      let is_key : key_of p ≡ key = asked.1.1 in
      let none = none_from_absent (map key_of old) key asked.0 in
      let absent = ap (λ k. list_any (nat_eq k) (map key_of old)) is_key ∙ none in
      let left = placed_new key_of p old absent in
      let keys = ap (map key_of) asked.1.2 ∙ left.keys in
      let latest = recent_again key_of before (key_of p) old new keys were in
      record {
        are = rw asked.1.2 left.are;
        latest = subst (λ k. AreRecent key_of (before ++ k ∷ []) new) is_key latest;
        hit = ap (list_any (nat_eq key)) (sym were) ∙ none;
      }

  -- what a sequence of calls answers and leaves after these keys
  pub record IsRun (before asked : List ℕ) (answers : List Bool) (new : List P) : Type 0 where
    pub answers_are : hits (before ++ asked) ≡ hits before ++ answers
    pub latest : AreRecent key_of (before ++ asked) new

  pub is_run : (before : List ℕ) (old : List P) (asked : List ℕ) (answers : List Bool)
      (new : List P) → AreItems key_of old → AreRecent key_of before old → AreAsked key_of old asked answers new
      → IsRun before asked answers new
  is_run before old [] [] new are were run = record {
    answers_are = ap hits (append-nil before) ∙ sym (append-nil (hits before));
    latest = rw (run, append-nil before) were;
  }
  is_run before old [] (answer ∷ answers) new are were run = absurd run
  is_run before old (key ∷ asked) [] new are were run = absurd run
  is_run before old (key ∷ asked) (answer ∷ answers) new are were run =
      let step = one_more before old key answer run.0 are were run.1 in
      let rest = is_run (before ++ key ∷ []) run.0 asked answers new step.are step.latest run.2 in
      let joined : (before ++ key ∷ []) ++ asked ≡ before ++ key ∷ asked =
      append_assoc before (key ∷ []) asked in
      let told = hits-push before key ∙ ap (λ b. hits before ++ b ∷ []) step.hit in
      record {
        answers_are = ap hits (sym joined) ∙ rest.answers_are
            ∙ ap (λ l. l ++ answers) told
            ∙ append_assoc (hits before) (answer ∷ []) answers;
        latest = subst (λ ks. AreRecent key_of ks new) joined rest.latest;
      }
