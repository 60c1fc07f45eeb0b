use Rattle.std.proofs.Common.{◌≡◌, ◌≢◌, ℕ, ◌+◌, ◌*◌, ◌<◌, ◌≤◌, List, length, get_or, replicate, ap, ◌∙◌}
use Rattle.std.proofs.Common.{arith, sym, refl, true, Vec, Global}
use Rattle.std.proofs.lemmas.List.{length-replicate}
use Rattle.std.proofs.lemmas.Result.{err_from_is_err_and}
use Rattle.tiff_format.specs.Block.{samples_aside}
use Rattle.tiff_format.specs.Texel.{sample_in}
use Rattle.tile_layout.specs.Cell.{bit_depth_in}
use Rattle.tile_layout.specs.Kept.{level_in}
use Rattle.tile_layout.specs.Plane.{plane_level}
use Rattle.tile_layout.proofs.PlaneBlocks.{plane_held}
use Rattle.rect_read.specs.declared.samples.Samples.{Samples}
use Rattle.piece_samples.specs.Beyond.{IsBeyond}
use Rattle.rect_read.specs.Taken.{taken}
use Rattle.rect_read.specs.RectSamples.{samples_of, are_wide}
use Rattle.rect_read.specs.declared.texels.RectSamples.{RectSamples}
use Rattle.rect_read.proofs.Leaves.{leaves_after}
use Rattle.piece_samples.proofs.LowSamples.{all_low}
use Rattle.rect_read.proofs.PlanarSamples.{one_aside, one_each, planar_texels, white_low}
use Rattle.rect_read.proofs.PlanarSamples.{planes_more}
use Rattle.rect_read.proofs.TakenSamples.{placed_at, length_taken, zero_of}
use Rattle.rect_read.proofs.planes.read_planes.Goals as goal

pub each-init : goal.each-init
each-init g c = record {
  keeps = g.met.B.ByteReader.lawful.itself c.args.reader.now;
  long = ap length c.in_ok-values.ensures
      ∙ length-replicate {A = ℕ} (c.args.place.now.rect.w * c.args.place.now.rect.h * c.planes-planes.result) 0;
  low = rw c.in_ok-values.ensures (all_low (bit_depth_in c.args.place.now.layout.now)
      (replicate (c.args.place.now.rect.w * c.args.place.now.rect.h * c.planes-planes.result) 0)
      (λ k. rw (zero_of (c.args.place.now.rect.w * c.args.place.now.rect.h * c.planes-planes.result) k)
      (omega arith)));
  zeros = λ q i j lt. absurd (omega arith);
  unread = λ filled far. refl;
  told = λ bytes told holds q i j lt. absurd (omega arith);
}

pub read_plane-requires-clause-fits : goal.read_plane-requires-clause-fits
read_plane-requires-clause-fits g c =
    let place = c.args.place.now in
    let level = plane_level (level_in place.layout.now place.level) c.each.plane in
    let samples : Samples = c.of_plane-samples.result in
    let wide : are_wide samples.values ≡ true =
    ap (λ (t : RectSamples). are_wide t) c.of_plane-samples.ensures.same in
    record {
      texels = λ narrow. let wide = wide in cc;
      places = λ several. rw c.format-format.ensures.value.invert
          (white_low level.shape.white level.shape.channels
          (one_aside (level_in place.layout.now place.level) c.requires.planar));
      wide = λ several. wide;
    }

pub into_shorts-values-requires : goal.into_shorts-values-requires
into_shorts-values-requires g c =
    c.in_ok-own.ensures.others.wide
    ∙ ap (λ (t : RectSamples). are_wide t) c.of_plane-samples.ensures.same

pub each-preserved : goal.each-preserved
each-preserved g c =
    let before = c.each.invariant in
    let place = c.args.place.now in
    let level = level_in place.layout.now place.level in
    let many = c.requires.planar in
    let aside = one_aside level many in
    let p = c.each.plane in
    let samples : Samples = c.of_plane-samples.result in
    let after : Samples = c.in_ok-own.own in
    let own = taken after in
    let read = c.in_ok-own.ensures in
    let planes : c.planes-planes.result ≡ level.shape.planes = c.planes-planes.ensures.value in
    let there : p < level.shape.planes = omega (arith, planes, c.each-test.true) in
    let step : samples.places.step ≡ c.planes-planes.result = c.of_plane-samples.ensures.step in
    let first : samples.places.first ≡ p = c.of_plane-samples.ensures.first in
    let items : samples_of samples.values ≡ c.each.values.items =
    ap (λ (t : RectSamples). samples_of t) c.of_plane-samples.ensures.same in
    let new = c.into_shorts-values.result.items in
    let held : new ≡ samples_of after.values = c.into_shorts-values.ensures in
    let keeps = read.others in
    let steps : after.places.step ≡ level.shape.planes = keeps.step ∙ step ∙ planes in
    let firsts : after.places.first ≡ p = keeps.first ∙ first in
    let several : after.places.step ≢ 1 = rw steps many in
    let several_before : samples.places.step ≢ 1 = rw (step, planes) many in
    let long : length own ≡ place.rect.w * place.rect.h =
    read.count ∙ ap (λ (n : ℕ). place.rect.w * place.rect.h * n) aside ∙ omega arith in
    let done : after.places.done ≡ place.rect.w * place.rect.h =
    sym (length_taken after.places (samples_of after.values) several) ∙ long in
    let at : (k : ℕ) → k * samples_aside level.shape + 0 ≡ k = λ k. rw aside (omega arith) in
    let zero : 0 < samples_aside level.shape = omega (arith, aside) in
    let depth = c.format-format.ensures.depth in
    let still = g.met.B.ByteReader.lawful.same_size _ _ before.keeps in
    let placed : (k : ℕ) → k < length own
    → get_or new (k * level.shape.planes + p) 0 ≡ get_or own k 0 =
    λ k lt.
    ap (λ (l : List ℕ). get_or l (k * level.shape.planes + p) 0) held
    ∙ placed_at after.places (samples_of after.values) level.shape.planes p k steps firsts several lt in
    let others : (k d : ℕ) → d < level.shape.planes → d ≢ p
    → get_or new (k * level.shape.planes + d) 0
    ≡ get_or c.each.values.items (k * level.shape.planes + d) 0 =
    λ k d below other.
    let same : k * level.shape.planes + d ≡ k * samples.places.step + d =
    ap (λ (n : ℕ). k * n + d) (sym (step ∙ planes)) in
    ap (λ (l : List ℕ). get_or l (k * level.shape.planes + d) 0) held
    ∙ ap (λ (n : ℕ). get_or (samples_of after.values) n 0) same
    ∙ keeps.others k d (omega (arith, below, step, planes)) (λ e. other (e ∙ first))
    ∙ ap (λ (n : ℕ). get_or (samples_of samples.values) n 0) (sym same)
    ∙ ap (λ (l : List ℕ). get_or l (k * level.shape.planes + d) 0) items in
    let room : after.places.done * samples.places.step ≤ length (samples_of samples.values) =
    omega (
      arith,
      ap (λ (n : ℕ). n * samples.places.step) done,
      ap (λ (n : ℕ). place.rect.w * place.rect.h * n) step,
      ap length items,
      before.long,
    ) in
    record {
      keeps = g.met.B.ByteReader.lawful.chains _ _ _ before.keeps read.reader;
      long = ap length held ∙ keeps.room several_before room ∙ ap length items ∙ before.long;
      low = rw held (rw depth at (read.low (rw (items, depth) before.low)));
      zeros = planes_more p level.shape.planes place.rect own c.each.values.items
          new
          (λ q i j v. IsBeyond (plane_level level q) (place.rect.x + place.rect.w)
          (g.B.ByteReader.size c.args.reader.now) (place.rect.x + i) (place.rect.y + j) → v ≡ 0)
          there long placed others
          (λ i j across down beyond.
          ap (λ (k : ℕ). get_or own k 0) (sym (at (j * place.rect.w + i)))
          ∙ read.zeros i j 0 across down zero (rw still beyond)) before.zeros;
      unread = λ filled far.
          read.unread filled (rw still (far p there)) ∙ before.unread filled far;
      told = λ bytes told holds.
          let there_told = g.met.B.ByteReader.lawful.same_bytes _ _ before.keeps ∙ told in
          let are = read.told bytes there_told (plane_held level p bytes there holds) in
          planes_more p level.shape.planes place.rect own c.each.values.items
          new
          (λ q i j v. v ≡ sample_in place.layout.now.big bytes (plane_level level q)
          (place.rect.x + i) (place.rect.y + j) 0)
          there long placed others
          (λ i j across down.
          ap (λ (k : ℕ). get_or own k 0) (sym (at (j * place.rect.w + i)))
          ∙ are.each i j 0 across down zero) (before.told bytes told holds);
    }

pub returns-in_err-own-clause-reader : goal.returns-in_err-own-clause-reader
returns-in_err-own-clause-reader g c =
    let r = c.from_residual-in_err-own in
    let p = err_from_is_err_and r.result r.ensures.1 in
    rw (p.1, p.2) (leaves_after g.B.ByteReader.keeps g.B.ByteReader.refuses
    g.met.B.ByteReader.lawful.chains (Vec ℕ Global) (Vec ℕ Global) c.args.reader.now c.each.reader
    c.read_plane.new.reader c.in_err-own.field-0.0
    c.each.invariant.keeps c.in_err-own.ensures.reader)

pub returns-clause-told : goal.returns-clause-told
returns-clause-told g c = λ bytes told holds.
    let place = c.args.place.now in
    let level = level_in place.layout.now place.level in
    let planes = c.planes-planes.ensures in
    let each : level.shape.planes ≡ level.shape.channels =
    one_each level.shape.channels level.shape.planes c.requires.planar
    (rw planes.value at planes.one_or_all) in
    planar_texels level place.rect c.each.values.items c.requires.planar each place.layout.now.big
    bytes (c.each.invariant.long ∙ ap (λ (n : ℕ). place.rect.w * place.rect.h * n) planes.value)
    (λ q i j lt. c.each.invariant.told bytes told holds q i j
    (omega (arith, lt, planes.value, c.each-test.false)))
