use Rattle.std.proofs.Common.{◌≡◌, ℕ, ◌+◌, ◌*◌, ◌++◌, List, length, map, ap, sym, ◌∙◌, arith}
use Rattle.std.specs.List.{range_with_len}
use Rattle.std.proofs.lemmas.List.{length-append}
use Rattle.std.proofs.lemmas.List.FromFn.{length-map-range_with_len}
use Rattle.tiff_format.specs.Block.{sample_bytes}
use Rattle.rect_read.specs.Taken.{taken}
use Rattle.rect_read.specs.RectSamples.{samples_of, are_wide}
use Rattle.rect_read.proofs.ByteSamples.{run_bytes, unit_of_bytes, on_three}
use Rattle.rect_read.proofs.SampleValues.{span_samples}
use Rattle.rect_read.proofs.TakenSamples.{taken_alone, one_of_bytes}
use Rattle.rect_read.proofs.WholeRows.{on_ok}
use Rattle.piece_samples.specs.Unpacked.{unpacked}
use Rattle.rect_read.proofs.run.read_part.Goals as goal

pub returns-clause-count : goal.returns-clause-count
returns-clause-count g c =
    let old = taken c.args.samples.now in
    let count = c.args.part.now.texels * c.args.format.now.channels in
    let value : ℕ → ℕ = unpacked c.args.format.now c.piece.result.now in
    ap length c.in_ok-push.ensures.values
    ∙ length-append old (map value (range_with_len 0 count))
    ∙ ap (λ n. length old + n) (length-map-range_with_len value 0 count)

pub push-requires-clause-size : goal.push-requires-clause-size
push-requires-clause-size g c =
    let format = c.args.format.now in
    c.piece.ensures.long
    ∙ span_samples c.args.part.now.texels format.texel_bytes format.channels
    (sample_bytes format.depth) format.in_range.bytes

pub returns-in-Bytes-clause-count : goal.returns-in-Bytes-clause-count
returns-in-Bytes-clause-count g c =
    let samples = c.args.samples.now in
    let format = c.args.format.now in
    let texels = c.args.part.now.texels in
    let narrow = ap are_wide c.in-Bytes.is in
    let one = one_of_bytes samples format c.requires.samples narrow in
    let old = taken_alone samples.places (samples_of samples.values) one ∙ ap samples_of c.in-Bytes.is in
    let new = taken_alone samples.places c.read_behind.new.bytes.items one in
    let unit = unit_of_bytes format (c.requires.samples.texels narrow) in
    on_ok c.read_behind.result
    (λ long. omega (
      arith,
      long,
      ap length old,
      ap length new,
      ap (λ (n : ℕ). texels * n) unit,
    ))
    c.read_behind.ensures.long

pub returns-in-Bytes-clause-told : goal.returns-in-Bytes-clause-told
returns-in-Bytes-clause-told g c = λ file told window.
    let samples = c.args.samples.now in
    let format = c.args.format.now in
    let part = c.args.part.now in
    let bytes = c.in-Bytes.bytes.items in
    let narrow = ap are_wide c.in-Bytes.is in
    let one = one_of_bytes samples format c.requires.samples narrow in
    let old : taken samples ≡ bytes =
    taken_alone samples.places (samples_of samples.values) one ∙ ap samples_of c.in-Bytes.is in
    on_three c.read_behind.result
    (λ long before there.
    let run = run_bytes file format part bytes c.read_behind.new.bytes.items
    (c.requires.samples.texels narrow) long before there in (
      window,
      record {
        span = run.span;
        part = run.part;
        long = run.long;
        values = taken_alone samples.places c.read_behind.new.bytes.items one ∙ run.values
            ∙ ap (λ (l : List ℕ). l ++ map (unpacked format run.span)
            (range_with_len 0 (part.texels * format.channels))) (sym old);
      },
    ))
    c.read_behind.ensures.long c.read_behind.ensures.before (c.read_behind.ensures.told file told)
