-- What do alternating calls of `find` and `place` answer, and which items do they leave?
use Rattle.std.specs.Prelude.{◌≡◌, ℕ, Bool, true, false, List, [], ◌∷◌}
use Rattle.micro.specs.Items.{HasKey, key_first, placed}

module _ {P : Type 0} (key_of : P → ℕ) where
  -- A key is asked for: `find` answers this, and if it is false, an item with the key is placed.
  -- Then the items are the new ones.
  abbrev pub IsAsked : List P → ℕ → Bool → List P → Type 0
  IsAsked old key true new = HasKey key_of key old × (new ≡ key_first key_of key old)
  IsAsked old key false new =
      ¬ HasKey key_of key old × ((p : P) × (key_of p ≡ key) × (new ≡ placed p old))

  -- Keys are asked for one after another, with these answers.
  abbrev pub AreAsked : List P → List ℕ → List Bool → List P → Type 0
  AreAsked old [] [] new = new ≡ old
  AreAsked old (key ∷ asked) (answer ∷ answers) new =
      (between : List P) × IsAsked old key answer between × AreAsked between asked answers new
  AreAsked old [] (answer ∷ answers) new = ⊥
  AreAsked old (key ∷ asked) [] new = ⊥
