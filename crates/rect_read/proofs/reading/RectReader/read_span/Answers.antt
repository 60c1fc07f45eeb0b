use Rattle.std.proofs.Common.{◌≡◌, ℕ, ◌*◌, List, ◌++◌, length, map, ap, ◌∙◌}
use Rattle.std.specs.List.{range_with_len}
use Rattle.std.proofs.lemmas.List.FromFn.{length-map-range_with_len}
use Rattle.tiff_format.specs.Block.{sample_bytes, texel_bytes}
use Rattle.rect_read.specs.Taken.{taken}
use Rattle.piece_samples.specs.Unpacked.{unpacked}
use Rattle.tile_layout.proofs.PlaceLemmas.{bytes_by}
use Rattle.rect_read.proofs.PieceValues.{piece_values}
use Rattle.rect_read.proofs.SampleValues.{span_samples}
use Rattle.rect_read.proofs.Windows.{window_at, window_set}
use Rattle.rect_read.proofs.reading.RectReader.read_span.Goals as goal

pub returns-clause-told : goal.returns-clause-told
returns-clause-told g c = λ bytes told level right windows is lies.
    let format = c.args.format.now in
    let piece = c.args.piece.now in
    let span = c.piece.result.now in
    let list = c.args.self.now.windows.items in
    let window = window_at bytes list c.args.k c.index_mut-window.result.now
    c.index_mut-window.result.now windows c.requires.there c.index_mut-window.ensures.value in
    let unit : format.texel_bytes ≡ texel_bytes level.shape =
    rw (is.one, ← is.channels, ← is.depth) format.in_range.bytes in
    let new = c.in_ok-fill.ensures.told bytes told window in
    let long : length span ≡ sample_bytes level.shape.depth * (piece.n * level.shape.channels) =
    c.piece.ensures.long ∙ c.of-span.ensures.size
    ∙ span_samples piece.n format.texel_bytes level.shape.channels (sample_bytes level.shape.depth)
    (unit ∙ bytes_by level.shape is.one) in
    let values : ℕ → ℕ = unpacked c.args.format.now span in (
      window_set bytes list c.args.k c.fill.new.self windows new,
      c.in_ok-push.ensures.values
          ∙ ap (λ (v : List ℕ). taken c.args.self.now.samples ++ v)
          (ap (λ (n : ℕ). map values (range_with_len 0 (piece.n * n))) is.channels
          ∙ piece_values format.big bytes level c.args.format.now is right piece lies span
          (rw c.of-span.ensures.at at (c.piece.ensures.told bytes new)) long),
    )

pub returns-clause-count : goal.returns-clause-count
returns-clause-count g c =
    let count = c.args.piece.now.n * c.args.format.now.channels in
    let value : ℕ → ℕ = unpacked c.args.format.now c.piece.result.now in
    record {
      added = map value (range_with_len 0 count);
      behind = c.in_ok-push.ensures.values;
      count = length-map-range_with_len value 0 count;
      zeros = λ none. absurd none;
    }
