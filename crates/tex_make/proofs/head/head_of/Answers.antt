use Rattle.std.proofs.Common.{◌≡◌, ℕ, List, ◌∙◌, ◌++◌, ap, sym, arith, append_assoc, add-one}
use Rattle.tex_make.specs.Joined.{joined}
use Rattle.tex_make.specs.Pyramid.{seen}
use Rattle.tex_make.specs.Texture.{directory_of, header, head_of}
use Rattle.tex_make.proofs.Directories.{first_directory, tiles_end, next_tiles}
use Rattle.tex_make.proofs.TileBytes.{product_is}
use Rattle.tex_make.proofs.head.head_of.Goals as goal

pub loop-level-init : goal.loop-level-init
loop-level-init c = record {
  bytes = c.in_ok-head.ensures.items;
  at = sym (first_directory (seen c.args.texture.now.picture.now) c.args.texture.now.side);
  tiles = c.in_ok-tiles.ensures;
}

pub overflow_mul-tiles : goal.overflow_mul-tiles
overflow_mul-tiles c =
    let texture = c.args.texture.now in
    let p = seen texture.picture.now in
    let end = tiles_end p texture.side texture.short c.loop-level.level
    (omega (arith, c.loop-level-test.true, c.len-level-end.ensures)) in
    omega (arith, end, product_is _ _ _ _ c.tile_count.ensures.value c.tile_size.ensures.value)

pub overflow_add-tiles : goal.overflow_add-tiles
overflow_add-tiles c =
    let texture = c.args.texture.now in
    let p = seen texture.picture.now in
    let end = tiles_end p texture.side texture.short c.loop-level.level
    (omega (arith, c.loop-level-test.true, c.len-level-end.ensures)) in
    omega (
      arith,
      end,
      c.loop-level.invariant.tiles,
      product_is _ _ _ _ c.tile_count.ensures.value c.tile_size.ensures.value,
    )

pub loop-level-preserved : goal.loop-level-preserved
loop-level-preserved c =
    let texture = c.args.texture.now in
    let p = seen texture.picture.now in
    let done = c.loop-level.level in
    record {
      bytes = c.in_ok-at.ensures.bytes
          ∙ ap (λ (h : List ℕ). h ++ directory_of p texture.side done) c.loop-level.invariant.bytes
          ∙ append_assoc header (joined (directory_of p texture.side) done)
          (directory_of p texture.side done)
          ∙ ap (λ (n : ℕ). header ++ joined (directory_of p texture.side) n) (sym (add-one done));
      at = c.in_ok-at.ensures.behind;
      tiles = omega (
        arith,
        c.loop-level.invariant.tiles,
        next_tiles p texture.side done,
        product_is _ _ _ _ c.tile_count.ensures.value c.tile_size.ensures.value,
      );
    }

pub returns : goal.returns
unfolding head_of
returns c =
    let texture = c.args.texture.now in
    let p = seen texture.picture.now in
    let all : c.loop-level.level ≡ p.levels = omega (arith, c.len-level-end.ensures) in
    c.loop-level.invariant.bytes
    ∙ ap (λ (n : ℕ). header ++ joined (directory_of p texture.side) n) all
