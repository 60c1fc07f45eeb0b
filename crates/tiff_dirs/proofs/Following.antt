-- The levels so far, and the one that follows.
use Rattle.std.proofs.Common.{◌≡◌, ℕ, ◌+◌, ◌<◌, true, false, List, [], ◌∷◌, ◌++◌, length, map}
use Rattle.std.proofs.Common.{get_or, Option, Some, None, refl, sym, ap, ◌∙◌, arith}
use Rattle.std.specs.Option.{option_map_or}
use Rattle.std.proofs.lemmas.List.{get_or-map, map-append}
use Rattle.tiff_format.specs.declared.dir.Dir.{Dir}
use Rattle.tiff_dirs.specs.declared.read_level.ReadLevel.{ReadLevel}
use Rattle.tiff_format.specs.Form.{form_of}
use Rattle.tiff_format.specs.Block.{Level, level_at}
use Rattle.tiff_format.specs.DirectoryFault.{data_fault}
use Rattle.tiff_format.specs.Level.{directory_level, level_place, is_next_level, is_level, max_levels}
use Rattle.tiff_dirs.specs.ReadLevel.{seen_level}
use Rattle.tiff_dirs.specs.NextLevel.{IsNext, is_followed}
use Rattle.tiff_dirs.specs.Chain.{AreLevels, AreAll, IsEnd}
use Rattle.tiff_format.specs.Shown.{shown}
use Rattle.tiff_dirs.proofs.Leading.{more_levels, level_of_all, followed_is, place_more}
use Rattle.tiff_dirs.proofs.Leading.{all_stored, most_stored}
use Rattle.tiff_dirs.proofs.Chaining.{IsSingle, single_last, any_default, last_number}
use Rattle.tiff_format.specs.Facts.{IsChain}
use Rattle.tiff_dirs.proofs.NextLevel.{last_is_last}

module _ (bytes : List ℕ) where
  level_there : (k : ℕ) → directory_level bytes k ≡ level_at (form_of bytes) bytes (level_place bytes k)
  unfolding directory_level
  level_there k = refl

  -- a directory that was read is its level
  pub dir_is : (n k : ℕ) (dirs : List Dir) (dir : Dir) → AreLevels bytes n (map shown dirs)
      → length dirs ≡ n → k < n → dir ≡ get_or dirs k dir
      → shown dir ≡ level_at (form_of bytes) bytes (level_place bytes k)
  dir_is n k dirs dir are long lt is =
      ap shown is
      ∙ sym (get_or-map shown dirs k dir (shown dir) (omega (arith, long)))
      ∙ level_of_all bytes n k (map shown dirs) (shown dir) are lt
      ∙ level_there k

  -- ---- what was read after level k

  module _ (k : ℕ) (next : ReadLevel)
      (follows : IsNext (form_of bytes) bytes (level_place bytes 0) (level_place bytes k)
      (Some next)) where
    place_is : level_place bytes (k + 1) ≡ follows.0
    place_is = place_more bytes k follows.0 follows.1

    pub next_form : next.next.form ≡ form_of bytes
    next_form = follows.3.link.same

    pub next_end : IsEnd bytes (k + 1) next.next
    next_end = rw place_is follows.3.link

    pub next_level_is : seen_level next ≡ directory_level bytes (k + 1)
    next_level_is = follows.3.level ∙ rw (sym place_is) (sym (level_there (k + 1)))

    pub next_is_level : (levels : List Level) → AreLevels bytes (k + 1) levels
        → is_level bytes (k + 1) ≡ true
    next_is_level levels are =
        followed_is bytes k true (are.each k (omega arith))
        (ap (λ (o : Option ℕ). option_map_or
        (is_next_level (form_of bytes) bytes (level_place bytes 0) (level_place bytes k)) o false)
        follows.1 ∙ follows.2)

    -- one more
    pub one_more : (dirs : List Dir) (dir : Dir) → AreLevels bytes (k + 1) (map shown dirs)
        → shown dir ≡ seen_level next
        → data_fault (form_of bytes) bytes (k + 1) (directory_level bytes (k + 1)) ≡ None
        → AreLevels bytes (k + 1 + 1) (map shown (dirs ++ dir ∷ []))
    one_more dirs dir are same good =
        rw (map-append shown dirs (dir ∷ []))
        (more_levels bytes (k + 1) (map shown dirs) (shown dir) are
        (next_is_level (map shown dirs) are) good (same ∙ next_level_is))

  -- ---- no more

  pub no_more : (k : ℕ) (levels : List Level) → k + 1 < max_levels
      → AreLevels bytes (k + 1) levels
      → is_followed (form_of bytes) bytes (level_place bytes 0) (level_place bytes k) ≡ false
      → AreAll bytes levels
  no_more k levels lt are stops =
      all_stored bytes levels (k + 1) lt are
      (followed_is bytes k false (are.each k (omega arith)) stops)

  -- as many as there can be
  no_further_by : (dirs : List Dir) (last : Dir) → AreLevels bytes max_levels (map shown dirs)
      → length dirs ≡ max_levels → last ≡ get_or dirs last_number last → IsSingle last
      → AreAll bytes (map shown dirs)
  no_further_by dirs last are long is single =
      let there = dir_is max_levels last_number dirs last are long (omega arith) is in
      most_stored bytes (map shown dirs) are
      (followed_is bytes last_number false (are.each last_number (omega arith))
      (last_is_last (form_of bytes) bytes (level_place bytes 0) (level_place bytes last_number)
      (shown last) there single.width single.height))

  pub no_further : (dirs : List Dir) → AreLevels bytes max_levels (map shown dirs)
      → length dirs ≡ max_levels → IsChain (map shown dirs) → AreAll bytes (map shown dirs)
  no_further [] are long chain = absurd (omega arith)
  no_further (d ∷ dirs) are long chain =
      let last = get_or (d ∷ dirs) last_number d in
      let is : last ≡ get_or (d ∷ dirs) last_number last =
      any_default (d ∷ dirs) last_number d last (omega (arith, long)) in
      no_further_by (d ∷ dirs) last are long is (single_last (d ∷ dirs) last chain long is)
