-- Which texels has a square, and which values are its corners'?
use Rattle.std.specs.Prelude.{◌≡◌, ℕ, ◌*◌, ◌%◌, ◌<◌, Bool, if◌then◌else◌}
use Rattle.std.specs.Prelude.{List, [], ◌∷◌, slice_index}
use Rattle.texel_filter.specs.declared.square.Square.{Square}
use Rattle.texel_filter.specs.declared.square.Corners.{Corners}
use Rattle.texel_filter.specs.Image.{Sizes, Values, Texel, texel_of, IsInside}

-- the four texels, the upper row first
abbrev pub texels_of : Square → List Texel
texels_of square =
    texel_of square.level square.left square.top ∷ texel_of square.level square.right square.top
    ∷ texel_of square.level square.left square.bottom
    ∷ texel_of square.level square.right square.bottom ∷ []

-- all four are of the image
pub record HasSquare (sizes : Sizes) (square : Square) : Type 0 where
  pub left_top : IsInside sizes (texel_of square.level square.left square.top)
  pub right_bottom : IsInside sizes (texel_of square.level square.right square.bottom)

-- The value of a number of a corner. A narrow one is a sample of 8 bits and counts 257 times.
abbrev pub number_value : Bool → ℕ → ℕ
number_value narrow number = if narrow then 257 * (number % 256) else number

-- the first `channels` numbers of the list are these values
abbrev pub AreNumbers : Bool → ℕ → (ℕ → ℕ) → List ℕ → Type 0
AreNumbers narrow channels value listed =
    (c : ℕ) → c < channels → number_value narrow (slice_index listed c) ≡ value c

-- the corners have the values of the square in the first `channels` channels
pub record AreCorners (values : Values) (square : Square) (channels : ℕ) (corners : Corners)
    : Type 0 where
  pub left_top : AreNumbers corners.narrow channels (values square.level square.left square.top)
      corners.left_top
  pub right_top : AreNumbers corners.narrow channels (values square.level square.right square.top)
      corners.right_top
  pub left_bottom : AreNumbers corners.narrow channels
      (values square.level square.left square.bottom) corners.left_bottom
  pub right_bottom : AreNumbers corners.narrow channels
      (values square.level square.right square.bottom) corners.right_bottom
