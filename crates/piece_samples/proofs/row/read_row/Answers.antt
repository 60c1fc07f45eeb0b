use Rattle.std.proofs.Common.{◌≡◌, ◌+◌, ◌*◌, ◌<◌, refl, ◌∙◌, arith}
use Rattle.std.proofs.Common.{inl, inr}
use Rattle.std.proofs.lemmas.Bool.{cases_lt}
use Rattle.tiff_format.specs.Block.{samples_aside}
use Rattle.tile_layout.specs.Kept.{level_in}
use Rattle.piece_samples.proofs.PieceReads.{refused_after}
use Rattle.piece_samples.proofs.RowWalk.{same_read}
use Rattle.piece_samples.proofs.RowPlanes.{all_samples, row_zeros, row_texels_told}
use Rattle.piece_samples.proofs.row.read_row.Goals as goal

pub read_plane-requires-clause-room : goal.read_plane-requires-clause-room
read_plane-requires-clause-room g c =
    let row = c.args.row.now in
    let level = level_in row.layout.now row.level in
    let count = rw c.planes-planes.ensures.value at c.planes-planes.ensures.one_or_all in
    omega (arith, all_samples level count row.n, c.requires, c.each.auto.samples)

pub returns-in-Err-clause-reader : goal.returns-in-Err-clause-reader
returns-in-Err-clause-reader g c =
    refused_after g.B.ByteReader.keeps g.B.ByteReader.refuses g.met.B.ByteReader.lawful.chains
    (Unit {0}) (Unit {0}) c.args.reader.now c.each.reader c.read_plane.new.reader c.in-Err.e
    c.each.invariant.keeps c.in-Err.ensures.reader

pub returns-in-Err-clause-unread : goal.returns-in-Err-clause-unread
returns-in-Err-clause-unread g c = λ far.
    let before = c.each.invariant in
    let still = g.met.B.ByteReader.lawful.same_size _ _ before.keeps in
    let there : c.each.plane < (level_in c.args.row.now.layout.now c.args.row.now.level).shape.planes =
    omega (arith, c.each-test.true, c.planes-planes.ensures.value) in
    c.in-Err.ensures.unread (rw still (far c.each.plane there)) ∙ before.unread far

pub each-preserved : goal.each-preserved
each-preserved g c =
    let row = c.args.row.now in
    let level = level_in row.layout.now row.level in
    let aside = samples_aside level.shape in
    let p = c.each.plane in
    let before = c.each.invariant in
    let read = c.in-Ok.ensures in
    let still = g.met.B.ByteReader.lawful.same_size _ _ before.keeps in
    let bytes = g.met.B.ByteReader.lawful.same_bytes _ _ before.keeps in
    let there : p < level.shape.planes =
    omega (arith, c.each-test.true, c.planes-planes.ensures.value) in
    record {
      keeps = g.met.B.ByteReader.lawful.chains _ _ _ before.keeps read.reader;
      read = λ q i a lt column place. elim (cases_lt q p) [
        | inl lower ↦
            rw (read.others (i * aside + a) q (omega (arith, lower, there)) (λ e. omega (arith, e, lower)))
            (before.read q i a lower column place)
        | inr higher ↦
            let here : q ≡ p = omega (arith, lt, higher) in
            rw here (same_read _ _ _ _ row.layout.now.big _ (row.x + row.n) _ _ _ _ a _ _ still bytes
            refl refl refl (read.read i a column place))
      ];
      unread = λ far. read.unread (rw still (far p there)) ∙ before.unread far;
      low = λ fit. read.low (before.low fit);
    }

pub returns-clause-zeros : goal.returns-clause-zeros
returns-clause-zeros g c =
    let row = c.args.row.now in
    let level = level_in row.layout.now row.level in
    let count = rw c.planes-planes.ensures.value at c.planes-planes.ensures.one_or_all in
    row_zeros level count (g.B.ByteReader.size c.args.reader.now)
    (g.B.ByteReader.bytes c.args.reader.now) row.layout.now.big row.x row.y row.n c.each.samples
    (λ q i a lt. c.each.invariant.read q i a
    (omega (arith, lt, c.planes-planes.ensures.value, c.each-test.false)))

pub returns-clause-told : goal.returns-clause-told
returns-clause-told g c = λ bytes told holds.
    let row = c.args.row.now in
    let level = level_in row.layout.now row.level in
    let count = rw c.planes-planes.ensures.value at c.planes-planes.ensures.one_or_all in
    row_texels_told level count (g.B.ByteReader.size c.args.reader.now)
    (g.B.ByteReader.bytes c.args.reader.now) row.layout.now.big row.x row.y row.n c.each.samples
    (λ q i a lt. c.each.invariant.read q i a
    (omega (arith, lt, c.planes-planes.ensures.value, c.each-test.false)))
    bytes told holds (omega (arith, c.each.auto.samples, c.requires))
