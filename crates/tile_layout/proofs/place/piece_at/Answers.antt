use Rattle.std.proofs.Common.{ℕ, ◌≡◌, ◌+◌, ◌*◌, ◌<◌, ◌≤◌, arith, sym, ap, ◌∙◌, refl}
use Rattle.tiff_format.specs.Block.{sample_bytes, texel_bytes}
use Rattle.tiff_format.specs.Shown.{shown, shown_shape}
use Rattle.tiff_format.specs.Texel.{sample_place}
use Rattle.tile_layout.specs.declared.piece.Piece.{Piece}
use Rattle.tile_layout.specs.Pieces.{row_rest}
use Rattle.tile_layout.specs.Plane.{plane_level}
use Rattle.tile_layout.proofs.PlaceLemmas.{side_by_side, of_channel}
use Rattle.tile_layout.proofs.BlockLemmas.{sound, lies_in_block, ends_below}
use Rattle.tile_layout.proofs.place.piece_at.Goals as goal

-- the place of texel (x + j, y)
place_of : (c : goal.After-min) (j : ℕ) → j < c.min.result
    → sample_place (plane_level (shown c.args.dir.now) c.args.plane) (c.args.x + j) c.args.y 0
    ≡ c.place.result + j * texel_bytes (shown_shape c.args.dir.now)
place_of c j lt =
    let level = plane_level (shown c.args.dir.now) c.args.plane in
    side_by_side level c.args.x c.args.y j refl (omega arith)
    ∙ ap (λ at. at + j * texel_bytes level.shape) (sym c.place.ensures)

pub returns-clause-lies : goal.returns-clause-lies
returns-clause-lies c =
    let level = plane_level (shown c.args.dir.now) c.args.plane in
    let few : c.min.result ≤ row_rest level.shape c.args.x = omega arith in
    let known = sound c.args.dir.now c.args.plane c.requires.plane in
    let piece : Piece = record {
      at = c.place.result;
      x = c.args.x;
      y = c.args.y;
      n = c.min.result;
    } in
    record {
      some = omega arith;
      long = omega arith;
      place = place_of c;
      samples = λ j s lt. of_channel level (c.args.x + j) c.args.y s refl
          ∙ ap (λ at. at + s * sample_bytes level.shape.depth) (place_of c j lt);
      block = lies_in_block level piece known (omega arith) c.requires.down c.place.ensures few;
      ends = ends_below level piece known (omega arith) c.requires.down c.place.ensures few;
    }
