-- The four texels, each in its corner.
use Rattle.std.proofs.Common.{ℕ, ◌+◌, ◌-◌, ◌==◌, ◌<◌, ◌≤◌, arith, refl}
use Rattle.tiff_format.specs.declared.rect.Rect.{Rect}
use Rattle.tile_layout.specs.Key.{generation_of, file_of}
use Rattle.tile_layout.specs.Cell.{HoldsTexel}
use Rattle.tile_store.specs.SampleRow.{top_of, bottom_of}
use Rattle.texel_values.proofs.SquareLemmas.{some_four, told_first, texel_samples}
use Rattle.texel_values.proofs.square.write_square.Goals as goal

-- the columns of the one texel and the row of the other
holds_of : (rect : Rect) (x y i j : ℕ) → HoldsTexel rect x y → HoldsTexel rect i j
    → HoldsTexel rect x j
holds_of rect x y i j column row =
    record { left = column.left; right = column.right; top = row.top; bottom = row.bottom }

pub returns : goal.returns
returns g c tells =
    let files = g.W.World.files in
    let tile = c.args.tile.now in
    let depth = c.args.depth in
    let q = c.args.square.now in
    let n = c.args.channels in
    let out = c.write_samples.new.out in
    let narrow = depth == 8 in
    let h = c.requires.inside in
    let own = c.key.ensures.tile in
    let told = c.key.ensures.told in
    let are = c.write_samples.ensures in
    let wide = c.channels-wide.ensures.value in
    let from = c.min-from.result in
    let texels : ℕ = c.max.result - from + 1 in
    let left_from : from ≤ q.left = omega (arith, c.min-from.ensures) in
    let right_from : from ≤ q.right = omega (arith, c.min-from.ensures) in
    let left_to : q.left < from + texels = omega (arith, c.min-from.ensures, c.max.ensures) in
    let right_to : q.right < from + texels = omega (arith, c.min-from.ensures, c.max.ensures) in
    some_four (files.held (file_of tile.key) (generation_of tile.key)) _ _ _ _ _
    (λ bytes one two three four level same. record {
      left_top = one level same;
      right_top = two level same;
      left_bottom = three level same;
      right_bottom = four level same;
    })
    (told_first files tile depth (record { level = q.level; x = q.left; y = q.top })
    _ narrow n out.left_top own told h.left_top
    (rw wide
    (texel_samples tile from q.top texels q.left (top_of c.two_rows-rows.result) left_from left_to
    c.two_rows-rows.ensures.top))
    refl are.left_top tells)
    (told_first files tile depth (record { level = q.level; x = q.right; y = q.top })
    _ narrow n out.right_top own told
    (holds_of tile.rect q.right q.bottom q.left q.top h.right_bottom h.left_top)
    (rw wide
    (texel_samples tile from q.top texels q.right (top_of c.two_rows-rows.result) right_from
    right_to c.two_rows-rows.ensures.top))
    refl are.right_top tells)
    (told_first files tile depth (record { level = q.level; x = q.left; y = q.bottom })
    _ narrow n out.left_bottom own told
    (holds_of tile.rect q.left q.top q.right q.bottom h.left_top h.right_bottom)
    (rw wide
    (texel_samples tile from q.bottom texels q.left (bottom_of c.two_rows-rows.result) left_from
    left_to c.two_rows-rows.ensures.bottom))
    refl are.left_bottom tells)
    (told_first files tile depth (record { level = q.level; x = q.right; y = q.bottom })
    _ narrow n out.right_bottom own told h.right_bottom
    (rw wide
    (texel_samples tile from q.bottom texels q.right (bottom_of c.two_rows-rows.result) right_from
    right_to c.two_rows-rows.ensures.bottom))
    refl are.right_bottom tells)
