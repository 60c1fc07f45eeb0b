-- Which file does a name mean?
use Rattle.std.proofs.Common.{◌≡◌, ℕ, List, ◌++◌, length, take}
use Rattle.std.proofs.Common.{refl, ap, ◌∙◌, true}
use Rattle.std.specs.Prelude.{ℤ, Some, None}
use Rattle.std.specs.Fmt.{decimal}
use Rattle.udim.specs.declared.file.Udim.TheVariants.{Plain, Outside, Tile}
use Rattle.udim.specs.Udim.{mark_at, tile_number, within_tile, udim_of, numbered, is_tile}
use Rattle.udim.specs.Parts.{AreRoundMark}

-- one without a mark means its own
pub means_plain : (name : List ℕ) (s t : ℤ) → mark_at name ≡ None → Plain ≡ udim_of name s t
unfolding udim_of
means_plain name s t lacks = rw lacks refl

module _ (name before behind : List ℕ) (round : AreRoundMark name before behind) (s t : ℤ) where
  -- no tile lies there
  pub means_none : tile_number s t ≡ None → Outside ≡ udim_of name s t
  unfolding udim_of
  means_none outside = rw (round.at, outside) refl

  -- the number is between the two parts
  pub means_tile : (number : ℕ) (named : List ℕ) → tile_number s t ≡ Some number
      → named ≡ before ++ (decimal number ++ behind)
      → Tile named (within_tile s) (within_tile t) ≡ udim_of name s t
  unfolding udim_of
  means_tile number named inside e =
      let whole : named ≡ numbered name (length before) number =
      e ∙ ap (λ (xs : List ℕ). xs ++ (decimal number ++ behind)) round.front
      ∙ ap (λ (xs : List ℕ). take (length before) name ++ (decimal number ++ xs)) round.back in
      rw (round.at, inside)
      (ap (λ (n : List ℕ). Tile n (within_tile s) (within_tile t)) whole)

  -- a lookup that lies in a tile means the file of one
  pub is_file_of_tile : (number : ℕ) → tile_number s t ≡ Some number
      → is_tile (udim_of name s t) ≡ true
  unfolding udim_of
  is_file_of_tile number inside = rw (round.at, inside) refl

pub ruleset meanings = (means_plain, means_none, means_tile, is_file_of_tile)
