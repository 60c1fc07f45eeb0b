use Rattle.std.proofs.Common.{◌≡◌, ◌∙◌, ℕ, ◌+◌, ◌*◌, ◌≤◌, ap, arith}
use Rattle.std.proofs.lemmas.Result.{err_from_is_err_and}
use Rattle.tiff_format.specs.Block.{texel_bytes}
use Rattle.rect_read.specs.declared.run.Run.{Run}
use Rattle.rect_read.proofs.Leaves.{leaves_after}
use Rattle.rect_read.proofs.RunValues.{bytes_within, part_stands, appends_none, appends_more}
use Rattle.rect_read.specs.Taken.{taken}
use Rattle.rect_read.proofs.TakenSamples.{keeps_itself, keeps_after, fits_after}
use Rattle.rect_read.proofs.run.read_run.Goals as goal

pub read_part-requires-clause-samples : goal.read_part-requires-clause-samples
read_part-requires-clause-samples g c =
    fits_after c.reserve.new.samples c.parts.samples c.args.format.now c.parts.invariant.others
    (fits_after c.args.samples.now c.reserve.new.samples c.args.format.now c.reserve.ensures.others
    c.requires.samples)

pub read_part-requires-clause-fits : goal.read_part-requires-clause-fits
read_part-requires-clause-fits g c =
    omega (
      arith,
      c.requires.fits,
      bytes_within (c.parts.done + c.min.result) c.args.run.now.texels
          c.args.format.now.texel_bytes
          (omega (arith, c.min.ensures, c.parts.invariant.within)),
    )

pub read_part-requires-clause-below : goal.read_part-requires-clause-below
read_part-requires-clause-below g c =
    omega (
      arith,
      c.requires.below,
      g.met.B.ByteReader.lawful.same_size _ _ c.parts.invariant.keeps,
      bytes_within (c.parts.done + c.min.result) c.args.run.now.texels
          c.args.format.now.texel_bytes
          (omega (arith, c.min.ensures, c.parts.invariant.within)),
    )

pub returns-in_err-read_part-clause-reader : goal.returns-in_err-read_part-clause-reader
returns-in_err-read_part-clause-reader g c =
    let r = c.from_residual-in_err-read_part in
    let p = err_from_is_err_and r.result r.ensures.1 in
    rw (p.1, p.2) (leaves_after g.B.ByteReader.keeps g.B.ByteReader.refuses
    g.met.B.ByteReader.lawful.chains (Unit {0}) (Unit {0}) c.args.reader.now c.parts.reader
    c.read_part.new.reader c.in_err-read_part.field-0.0
    c.parts.invariant.keeps c.in_err-read_part.ensures.reader)

pub parts-init : goal.parts-init
parts-init g c = record {
  keeps = g.met.B.ByteReader.lawful.itself c.args.reader.now;
  within = omega arith;
  count = omega arith;
  low = λ fit. fit;
  others = keeps_itself c.reserve.new.samples;
  told = λ bytes told. (
    c.new-window.ensures bytes,
    λ level x_of y_of is stand.
        appends_none bytes level c.args.format.now x_of y_of (taken c.reserve.new.samples),
  );
}

pub parts-preserved : goal.parts-preserved
parts-preserved g c =
    let before = c.parts.invariant in
    let run = c.args.run.now in
    let format = c.args.format.now in
    let n = c.min.result in
    let within : c.parts.done + n ≤ run.texels = omega (arith, c.min.ensures, before.within) in
    let part : Run = record {
      at = run.at + c.parts.done * format.texel_bytes;
      texels = n;
    } in
    record {
      keeps = g.met.B.ByteReader.lawful.chains _ _ _ before.keeps c.in_ok-read_part.ensures.reader;
      within = within;
      count = omega (arith, before.count, c.in_ok-read_part.ensures.count);
      low = λ fit. c.in_ok-read_part.ensures.low (before.low fit);
      others = keeps_after c.reserve.new.samples c.parts.samples c.read_part.new.samples before.others
          c.in_ok-read_part.ensures.others;
      told = λ bytes told.
          let so_far = before.told bytes told in
          let still = g.met.B.ByteReader.lawful.same_bytes _ _ before.keeps ∙ told in
          let read = c.in_ok-read_part.ensures.told bytes still so_far.0 in (
            read.0,
            λ level x_of y_of is stand.
                let unit : format.texel_bytes ≡ texel_bytes level.shape =
                rw (is.one, ← is.channels, ← is.depth) format.in_range.bytes in
                appends_more bytes level c.args.format.now part x_of y_of c.parts.done
                (taken c.reserve.new.samples) (taken c.parts.samples) (taken c.read_part.new.samples) is unit
                (part_stands level run part x_of y_of c.parts.done stand within
                (ap (λ (u : ℕ). run.at + c.parts.done * u) unit))
                (so_far.1 level x_of y_of is stand) read.1,
          );
    }

pub returns-clause-told : goal.returns-clause-told
returns-clause-told g c = λ bytes told level x_of y_of is stand.
    let all : c.parts.done ≡ c.args.run.now.texels =
    omega (arith, c.parts-test.false, c.parts.invariant.within) in
    let so_far = (c.parts.invariant.told bytes told).1 level x_of y_of is stand in
    rw (c.reserve.ensures.taken, all) at so_far
