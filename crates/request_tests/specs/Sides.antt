-- How large are the levels of an image of the tests?
use Rattle.std.specs.Prelude.{ℕ, ◌/◌, ◌^◌, max}
use Rattle.texel_filter.specs.Image.{Sizes}

-- the sizes if each level is half of the one before
abbrev pub halving_sizes : ℕ → ℕ → ℕ → Sizes
halving_sizes levels width height = record {
  levels = levels;
  width = λ l. max (width / 2 ^ l) 1;
  height = λ l. max (height / 2 ^ l) 1;
}
