-- What one key more changes of the hits.
use Rattle.std.proofs.Common.{◌≡◌, ℕ, zero, suc, ◌+◌, ◌<◌, Bool, true, false, cond, nat_eq, List, [], ◌∷◌, ◌++◌}
use Rattle.std.proofs.Common.{length, map, count_by, refl, ap, ◌∙◌, arith, length-append}
use Rattle.std.specs.List.{Contains, list_any, range_with_len}
use Rattle.std.proofs.lemmas.Bool.{false_from_ne_true}
use Rattle.std.proofs.lemmas.Bool.Decides.{Decides-eqb}
use Rattle.std.proofs.lemmas.List.{take-append-le, get_or_append_left}
use Rattle.std.proofs.lemmas.List.FromFn.{map-range_with_len_more}
use Rattle.std.proofs.lemmas.List.Sums.{sum_by_push}
use Rattle.std.proofs.lemmas.Map.Made.{is_member-Decides}
use Rattle.std.proofs.Math.Seq.{take-append_seam, get_or-append_seam}
use Rattle.micro.specs.Recent.{recent, is_hit, hits, hit_count}

-- ---- a key among keys

pub any_from_Contains : (ks : List ℕ) (key : ℕ) → Contains ks key → list_any (nat_eq key) ks ≡ true
any_from_Contains ks key has = (is_member-Decides Decides-eqb ks key).1 has

pub none_from_absent : (ks : List ℕ) (key : ℕ) → ¬ Contains ks key → list_any (nat_eq key) ks ≡ false
none_from_absent ks key absent =
    false_from_ne_true (list_any (nat_eq key) ks)
    (λ any. absent ((is_member-Decides Decides-eqb ks key).0 any))

-- ---- the hits

map_same : (f g : ℕ → Bool) (a n : ℕ) → ((i : ℕ) → i < a + n → f i ≡ g i)
    → map f (range_with_len a n) ≡ map g (range_with_len a n)
map_same f g a zero same = refl
map_same f g a (suc n) same =
    let rest = map_same f g (a + 1) n (λ i within. same i (omega arith)) in
    ap (λ b. b ∷ map f (range_with_len (a + 1) n)) (same a (omega arith))
    ∙ ap (λ l. g a ∷ l) rest

module _ (asked : List ℕ) (key : ℕ) where
  hit_before : (i : ℕ) → i < 0 + length asked → is_hit (asked ++ key ∷ []) i ≡ is_hit asked i
  hit_before i within =
      let inside : i < length asked = omega arith in
      let same = get_or_append_left asked (key ∷ []) 0 i inside in
      let front = take-append-le i asked (key ∷ []) (omega arith) in
      rw (same, front) refl

  hit_last : is_hit (asked ++ key ∷ []) (length asked) ≡ list_any (nat_eq key) (recent asked)
  hit_last = rw (get_or-append_seam asked key [] 0, take-append_seam asked (key ∷ [])) refl

  -- The answer to one key more is whether it is one of the latest two.
  pub hits-push : hits (asked ++ key ∷ []) ≡ hits asked ++ list_any (nat_eq key) (recent asked) ∷ []
  unfolding hits
  hits-push =
      let n = length asked in
      let hit = is_hit (asked ++ key ∷ []) in
      let longer : length (asked ++ key ∷ []) ≡ n + 1 = length-append asked (key ∷ []) in
      ap (λ m. map hit (range_with_len 0 m)) longer
      ∙ map-range_with_len_more hit 0 n n (omega arith)
      ∙ ap (λ l. l ++ hit n ∷ []) (map_same hit (is_hit asked) 0 n hit_before)
      ∙ ap (λ b. map (is_hit asked) (range_with_len 0 n) ++ b ∷ []) hit_last

  pub hit_count-push : hit_count (asked ++ key ∷ [])
      ≡ hit_count asked + cond (list_any (nat_eq key) (recent asked)) 1 0
  unfolding hit_count
  hit_count-push =
      ap (count_by (λ hit. hit)) hits-push
      ∙ sum_by_push (λ hit. cond hit 1 0) (hits asked) (list_any (nat_eq key) (recent asked))

  -- One of the latest two is one hit more.
  pub hit_count-push_recent : Contains (recent asked) key
      → hit_count (asked ++ key ∷ []) ≡ hit_count asked + 1
  hit_count-push_recent has = hit_count-push ∙ rw (any_from_Contains (recent asked) key has) refl

  -- Asking for another key is not a hit.
  pub hit_count-push_other : ¬ Contains (recent asked) key
      → hit_count (asked ++ key ∷ []) ≡ hit_count asked
  hit_count-push_other absent =
      hit_count-push ∙ rw (none_from_absent (recent asked) key absent) (omega arith)

pub hits-none : hits [] ≡ []
unfolding hits
hits-none = refl

pub hit_count-none : hit_count [] ≡ 0
unfolding hit_count hits
hit_count-none = refl
