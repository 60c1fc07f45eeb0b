use Rattle.std.proofs.Common.{◌≡◌, ℕ, ◌+◌, ◌-◌, ◌*◌, ◌/◌, ◌%◌, ◌<◌, ◌≤◌, length, min, slice_index}
use Rattle.std.proofs.Common.{ap, sym, subst, arith, inl, inr}
use Rattle.std.proofs.Math.Nat.{mul-le-mul_left, mul-le-mul_right, mul-le-mul}
use Rattle.std.proofs.lemmas.Bool.{cases_lt}
use Rattle.std.proofs.lemmas.Nat.{div_below}
use Rattle.std.proofs.lemmas.List.FromFn.{fill_by_all}
use Rattle.tiff_format.specs.Block.{sample_bytes}
use Rattle.tex_make.specs.Level.{shown}
use Rattle.tex_make.specs.PlainLevel.{PlainLevel, sample_in}
use Rattle.tex_make.specs.Pyramid.{seen}
use Rattle.tex_make.specs.Row.{byte_of_samples}
use Rattle.tex_make.specs.Texture.{tile_bytes, tile_byte, tile_size, tiles_across, tiles_down}
use Rattle.tex_make.proofs.TileBytes.{IsLevelOf, IsPart, row_more}
use Rattle.tex_make.proofs.Fields.{pieces_low}
use Rattle.tex_make.proofs.tiles.fill_tile.Goals as goal

pub overflow_add-y : goal.overflow_add-y
overflow_add-y c =
    let texture = c.args.texture.now in
    let p = seen texture.picture.now in
    let side = texture.side in
    let across = c.tiles_across-across.result in
    let down = tiles_down p side c.args.level in
    let few = pieces_low (p.height c.args.level) side
    (texture.picture.now.known.height c.args.level c.requires.level) texture.side_in in
    let count : across * down ≡ tiles_across p side c.args.level * down =
    ap (λ (a : ℕ). a * down) c.tiles_across-across.ensures.value in
    let row : c.args.index / across < down =
    div_below c.args.index across down c.tiles_across-across.ensures.some
    (omega (arith, c.requires.index, count)) in
    let high = texture.side_in.high in
    let above : c.args.index / across * side ≤ 8192 * 256 =
    mul-le-mul (let low : c.args.index / across ≤ 8192 = omega (arith, row, few) in low) high in
    omega (arith, above, high, c.loop-row-test.true)

pub fill_row_at-requires-clause-inside : goal.fill_row_at-requires-clause-inside
fill_row_at-requires-clause-inside c =
    let texture = c.args.texture.now in
    let size = c.row_size-size.result in
    let rows : (c.loop-row.row + 1) * size ≤ texture.side * size =
    mul-le-mul_right size (omega (arith, c.loop-row-test.true)) in
    let all = ap (λ (q : ℕ). texture.side * q) c.row_size-size.ensures.value in
    omega (arith, rows, all, c.requires.size, c.loop-row.auto.tile)

pub fill_row_at-requires-clause-room : goal.fill_row_at-requires-clause-room
fill_row_at-requires-clause-room c =
    let texture = c.args.texture.now in
    let p = seen texture.picture.now in
    let side = texture.side in
    let from = c.level-from.result.now in
    let samples = c.part-samples.result.now in
    let s = sample_bytes p.depth in
    let bytes : sample_bytes from.depth * length samples ≡ s * length samples =
    ap (λ (d : ℕ). sample_bytes d * length samples) c.level-from.ensures.depth in
    let few : length samples ≤ side * from.channels =
    elim (cases_lt (c.args.index / c.tiles_across-across.result * side + c.loop-row.row) from.height) [
      | inl row ↦
          let low : min side (from.width - c.args.index % c.tiles_across-across.result * side) ≤ side = omega arith in
          let short = mul-le-mul_right from.channels low in
          omega (arith, short, c.part-samples.ensures.long row)
      | inr below ↦ omega (arith, ap length (c.part-samples.ensures.none below))
    ] in
    let most : s * length samples ≤ s * (side * from.channels) = mul-le-mul_left s few in
    let same = ap (λ (n : ℕ). s * (side * n)) c.level-from.ensures.channels in
    omega (arith, bytes, most, same, c.row_size-size.ensures.value)

pub loop-row-preserved : goal.loop-row-preserved
loop-row-preserved c =
    let texture = c.args.texture.now in
    let p = seen texture.picture.now in
    let side = texture.side in
    let l = c.args.level in
    let i = c.args.index in
    let r = c.loop-row.row in
    let from = c.level-from.result.now in
    let samples = c.part-samples.result.now in
    let old = c.loop-row.tile in
    let new = c.fill_row_at.new.out in
    let value = c.level-from.ensures.value in
    let is : IsLevelOf p l (shown from) = record {
      width = ap (λ (m : PlainLevel). m.width) (sym value);
      height = ap (λ (m : PlainLevel). m.height) (sym value);
      channels = sym c.level-from.ensures.channels;
      sample = λ x y c. ap (λ (m : PlainLevel). sample_in m x y c) (sym value);
    } in
    let own : IsPart (shown from) (i % c.tiles_across-across.result * side)
    (i / c.tiles_across-across.result * side + r) side samples = record {
      long = c.part-samples.ensures.long;
      each = c.part-samples.ensures.each;
      none = c.part-samples.ensures.none;
    } in
    let part = subst (λ (a : ℕ). IsPart (shown from) (i % a * side) (i / a * side + r) side samples)
    c.tiles_across-across.ensures.value own in
    let size_is = c.row_size-size.ensures.value in
    let before = subst (λ (z : ℕ). (k : ℕ) → k < r * z → slice_index new k ≡ slice_index old k)
    size_is c.fill_row_at.ensures.before in
    let within = subst (λ (z : ℕ). (k : ℕ) → r * z + k < r * z + z
    → slice_index new (r * z + k) ≡ byte_of_samples p.depth samples k) size_is
    (subst (λ (d : ℕ). (k : ℕ) → r * c.row_size-size.result + k
    < r * c.row_size-size.result + c.row_size-size.result
    → slice_index new (r * c.row_size-size.result + k) ≡ byte_of_samples d samples k)
    c.level-from.ensures.depth c.fill_row_at.ensures.within) in
    let done = subst (λ (z : ℕ). (k : ℕ) → k < r * z
    → slice_index old k ≡ tile_byte p side l i k) size_is c.loop-row.invariant in
    subst (λ (z : ℕ). (k : ℕ) → k < (r + 1) * z → slice_index new k ≡ tile_byte p side l i k)
    (sym size_is)
    (row_more p l (shown from) is side i r samples part texture.picture.now.known.channels.low
    (omega (arith, texture.side_in.low)) old new before within done)

pub returns-clause-bytes : goal.returns-clause-bytes
unfolding tile_bytes
returns-clause-bytes c =
    let texture = c.args.texture.now in
    let p = seen texture.picture.now in
    let size = c.row_size-size.result in
    let all = ap (λ (q : ℕ). texture.side * q) c.row_size-size.ensures.value in
    let rows : texture.side * size ≤ c.loop-row.row * size =
    mul-le-mul_right size (omega (arith, c.loop-row-test.false)) in
    fill_by_all (tile_byte p texture.side c.args.level c.args.index) c.loop-row.tile
    (tile_size p texture.side) 0 (omega (arith, c.requires.size, c.loop-row.auto.tile))
    (λ k low. c.loop-row.invariant k (omega (arith, low, all, rows)))
