use Rattle.std.proofs.Common.{◌≡◌, ℕ, ◌+◌, ◌*◌, ◌^◌, ◌%◌, ◌<◌, refl, arith}
use Rattle.std.proofs.lemmas.Nat.{shl_whole}
use Rattle.tile_layout.specs.Key.{key_of, FitsKey}
use Rattle.tile_layout.proofs.KeyLemmas.{HasParts-key_of, IsKey-key_of, key_from_parts}
use Rattle.tile_layout.proofs.key.TileKey.new.Goals as goal

-- the code's shifts lose no bit
shifted : (g f l i : ℕ) → FitsKey g f l i
    → ((g * 4096 % 2 ^ 64 + f) * 32 % 2 ^ 64 + l) * 134217728 % 2 ^ 64 + i ≡ key_of g f l i
unfolding key_of
shifted g f l i h =
    let high = h.generation_high in
    let middle : f < 2 ^ 12 = h.file_high in
    let low : l < 2 ^ 5 = h.level_high in
    let file : g * 2 ^ 12 + f < 2 ^ 32 = omega arith in
    let level : (g * 2 ^ 12 + f) * 2 ^ 5 + l < 2 ^ 37 = omega arith in
    rw (
      shl_whole g 20 12 64 high (omega arith),
      shl_whole (g * 2 ^ 12 + f) 32 5 64 file (omega arith),
      shl_whole ((g * 2 ^ 12 + f) * 2 ^ 5 + l) 37 27 64 level (omega arith),
    ) refl

module _ (c : goal.Start) where
  fits : FitsKey c.args.generation c.args.file c.args.level c.args.index
  fits = c.requires

  value : ((c.args.generation * 4096 % 2 ^ 64 + c.args.file) * 32 % 2 ^ 64 + c.args.level)
      * 134217728 % 2 ^ 64 + c.args.index
      ≡ key_of c.args.generation c.args.file c.args.level c.args.index
  value = shifted _ _ _ _ fits

pub invariant_of-result : goal.invariant_of-result
invariant_of-result c = rw (value c) (IsKey-key_of _ _ _ _ c.requires)

pub returns-clause-value : goal.returns-clause-value
returns-clause-value c = value c

pub returns-clause-parts : goal.returns-clause-parts
returns-clause-parts c = rw (value c) (HasParts-key_of _ _ _ _ c.requires)

pub returns-clause-only : goal.returns-clause-only
returns-clause-only c = λ key h. rw (value c) (key_from_parts _ _ _ _ key h)

pub returns-clause-valid : goal.returns-clause-valid
returns-clause-valid c = rw (value c) (IsKey-key_of _ _ _ _ c.requires)
