use Rattle.std.proofs.Common.{◌≡◌, ◌≤◌, ℕ, [], List, length, ap, sym, ◌∙◌, subst}
use Rattle.tiff_format.specs.Texel.{sample_in}
use Rattle.tile_layout.specs.Plane.{plane_in}
use Rattle.std.proofs.lemmas.List.Elements.{All-nil}
use Rattle.tiff_format.specs.Texel.{greatest_sample}
use Rattle.tile_layout.specs.Texel.{AreTexelsOn, FitDepth}
use Rattle.rect_read.specs.Taken.{taken}
use Rattle.rect_read.specs.RectSamples.{samples_of, are_wide}
use Rattle.rect_read.specs.declared.texels.RectSamples.{RectSamples}
use Rattle.rect_read.specs.Zeros.{AreZerosBeyond}
use Rattle.rect_read.proofs.TakenSamples.{taken_alone}
use Rattle.rect_read.proofs.planes.read_chunky.Goals as goal

pub read_plane-requires-clause-fits : goal.read_plane-requires-clause-fits
read_plane-requires-clause-fits g c =
    let samples = c.of_texels-samples.result in
    let one : samples.places.step ≡ 1 = c.of_texels-samples.ensures.one in
    record {
      texels = rw c.of_texels-samples.ensures.same c.requires.fits;
      places = λ several. absurd (several one);
      wide = λ several. absurd (several one);
    }

pub returns-clause-wide : goal.returns-clause-wide
returns-clause-wide g c =
    c.in_ok-all.ensures.others.wide
    ∙ ap (λ (t : RectSamples). are_wide t) c.of_texels-samples.ensures.same

pub returns-clause-low : goal.returns-clause-low
returns-clause-low g c =
    let none : FitDepth c.args.format.now.depth [] =
    All-nil (λ sample. sample ≤ greatest_sample c.args.format.now.depth) in
    c.in_ok-all.ensures.low
    (rw (c.of_texels-samples.ensures.same, c.requires.none) none)

pub returns-clause-count : goal.returns-clause-count
returns-clause-count g c =
    let all = c.in_ok-all.all in
    let is : taken all ≡ (samples_of all.values) =
    taken_alone all.places (samples_of all.values) (c.in_ok-all.ensures.others.step ∙ c.of_texels-samples.ensures.one) in
    ap length (sym is) ∙ c.in_ok-all.ensures.count

pub returns-clause-zeros : goal.returns-clause-zeros
returns-clause-zeros g c =
    let place = c.args.place.now in
    let level = plane_in place.layout.now place.level place.plane in
    let all = c.in_ok-all.all in
    let is : taken all ≡ (samples_of all.values) =
    taken_alone all.places (samples_of all.values) (c.in_ok-all.ensures.others.step ∙ c.of_texels-samples.ensures.one) in
    subst (λ (l : List ℕ). AreZerosBeyond level (g.B.ByteReader.size c.args.reader.now) place.rect l)
    is c.in_ok-all.ensures.zeros

pub returns-clause-told : goal.returns-clause-told
returns-clause-told g c = λ bytes told holds.
    let place = c.args.place.now in
    let level = plane_in place.layout.now place.level place.plane in
    let all = c.in_ok-all.all in
    let is : taken all ≡ (samples_of all.values) =
    taken_alone all.places (samples_of all.values) (c.in_ok-all.ensures.others.step ∙ c.of_texels-samples.ensures.one) in
    subst
    (λ (l : List ℕ). AreTexelsOn (sample_in place.layout.now.big bytes level) level.shape.channels
    place.rect l) is (c.in_ok-all.ensures.told bytes told holds)
