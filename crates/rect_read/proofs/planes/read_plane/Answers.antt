use Rattle.std.proofs.Common.{◌≡◌, ◌*◌, [], length, ap, ◌∙◌, arith, zero-add}
use Rattle.tiff_format.specs.Texel.{sample_in}
use Rattle.tile_layout.specs.Plane.{plane_in}
use Rattle.rect_read.specs.declared.samples.Samples.{Samples}
use Rattle.rect_read.specs.Taken.{taken}
use Rattle.rect_read.specs.RectSamples.{samples_of}
use Rattle.rect_read.proofs.RectValues.{are_texels}
use Rattle.rect_read.proofs.TakenSamples.{keeps_after, fits_after}
use Rattle.rect_read.proofs.planes.read_plane.Goals as goal

pub read_place-requires-clause-samples : goal.read_place-requires-clause-samples
read_place-requires-clause-samples g c =
    fits_after c.new-reading.result.samples c.reserve.new.self.samples c.args.format.now
    c.reserve.ensures.others (rw c.new-reading.ensures.samples c.requires.fits)

pub returns-clause-count : goal.returns-clause-count
returns-clause-count g c =
    let none : length (taken c.reserve.new.self.samples) ≡ 0 =
    ap length (c.reserve.ensures.taken ∙ ap (λ (s : Samples). taken s) c.new-reading.ensures.samples
    ∙ c.requires.none) in
    let channels = c.requires.format.channels in
    omega (
      arith,
      c.in_ok-read_place.ensures.count,
      none,
      ap (λ n. c.args.place.now.rect.w * c.args.place.now.rect.h * n) channels,
    )

pub returns-clause-zeros : goal.returns-clause-zeros
returns-clause-zeros g c = λ i j channel across down some beyond.
    let none : length (taken c.reserve.new.self.samples) ≡ 0 =
    ap length (c.reserve.ensures.taken ∙ ap (λ (s : Samples). taken s) c.new-reading.ensures.samples
    ∙ c.requires.none) in
    rw (none, zero-add) at (c.in_ok-read_place.ensures.zeros i j channel across down some beyond)

pub returns-clause-told : goal.returns-clause-told
returns-clause-told g c = λ bytes told holds.
    let place = c.args.place.now in
    let big = place.layout.now.big in
    let level = plane_in place.layout.now place.level place.plane in
    let none : taken c.reserve.new.self.samples ≡ [] =
    c.reserve.ensures.taken ∙ ap (λ (s : Samples). taken s) c.new-reading.ensures.samples
    ∙ c.requires.none in
    let read = c.in_ok-read_place.ensures.told bytes told (rw (
      c.reserve.ensures.windows,
      c.new-reading.ensures.windows,
    ) tt) holds in
    let all = rw none at read in
    are_texels (sample_in big bytes level) level.shape.channels place.rect
    (taken c.read_place.new.self.samples) all.1

pub returns-clause-low : goal.returns-clause-low
returns-clause-low g c = λ fit.
    let items : samples_of c.reserve.new.self.samples.values ≡ samples_of c.args.samples.values =
    c.reserve.ensures.values
    ∙ ap (λ (s : Samples). samples_of s.values) c.new-reading.ensures.samples in
    c.in_ok-read_place.ensures.low (rw items fit)

pub returns-clause-others : goal.returns-clause-others
returns-clause-others g c =
    rw c.new-reading.ensures.samples at (keeps_after c.new-reading.result.samples
    c.reserve.new.self.samples c.read_place.new.self.samples c.reserve.ensures.others
    c.in_ok-read_place.ensures.others)
