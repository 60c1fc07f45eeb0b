use Rattle.std.proofs.Common.{◌≡◌, ◌+◌, ◌-◌, ◌*◌, ◌≤◌, ◌<◌, ℕ, length, get_or, sym, ap}
use Rattle.std.proofs.Common.{◌∙◌, arith, inl, inr}
use Rattle.std.proofs.Math.Nat.{mul-le-mul_right}
use Rattle.std.proofs.lemmas.Bool.{cases_lt}
use Rattle.std.proofs.lemmas.Nat.{mul-add-lt}
use Rattle.tile_layout.specs.Kept.{level_in}
use Rattle.tile_layout.specs.Pieces.{row_texels}
use Rattle.tile_layout.specs.Plane.{plane_in}
use Rattle.piece_samples.proofs.PieceReads.{refused_after, unit_of}
use Rattle.piece_samples.proofs.RowWalk.{takes_from_row, same_read, own_order}
use Rattle.piece_samples.proofs.RowWalk.{piece_beyond, row_ends}
use Rattle.piece_samples.proofs.row.read_plane.Goals as goal

-- the samples of more texels fit the buffer
more_room : (done more n channels planes unit step room : ℕ) → more ≤ n - done → done ≤ n
    → unit ≡ channels → step ≡ planes → n * channels * planes ≤ room
    → (done * unit + more * unit) * step ≤ room
more_room done more n channels planes unit step room fits low units steps all =
    let texels : (done + more) * channels ≤ n * channels =
    mul-le-mul_right channels (omega (arith, fits, low)) in
    let samples = mul-le-mul_right planes texels in
    rw (units, steps) (omega (arith, samples, all))

pub read_piece-requires-clause-few : goal.read_piece-requires-clause-few
read_piece-requires-clause-few g c =
    let row = c.args.row.now in
    let before = c.pieces.invariant in
    let takes = c.in-Some.ensures.steps in
    let taken = takes_from_row (row.x + c.pieces.done) row.y (row.n - c.pieces.done) c.in-Some.piece
    c.next.new.self.texels takes.lies.some (sym before.left ∙ takes.texels) in
    omega (arith, taken.fits, row.known.few)

pub read_piece-requires-clause-room : goal.read_piece-requires-clause-room
read_piece-requires-clause-room g c =
    let row = c.args.row.now in
    let before = c.pieces.invariant in
    let takes = c.in-Some.ensures.steps in
    let taken = takes_from_row (row.x + c.pieces.done) row.y (row.n - c.pieces.done) c.in-Some.piece
    c.next.new.self.texels takes.lies.some (sym before.left ∙ takes.texels) in
    let level = level_in row.layout.now row.level in
    more_room c.pieces.done c.in-Some.piece.n row.n
    (plane_in row.layout.now row.level c.args.plane).shape.channels level.shape.planes
    c.format-format.result.channels c.planes-planes.result (length c.pieces.samples) taken.fits
    before.fits c.format-format.ensures.value.channels c.planes-planes.ensures.value
    (omega (arith, c.requires.room, c.pieces.auto.samples))

pub returns-in-Err-clause-unread : goal.returns-in-Err-clause-unread
returns-in-Err-clause-unread g c = λ far.
    let row = c.args.row.now in
    let level = plane_in row.layout.now row.level c.args.plane in
    let format = c.format-format.result in
    let len = g.B.ByteReader.size c.args.reader.now in
    let before = c.pieces.invariant in
    let takes = c.in-Some.ensures.steps in
    let piece = c.in-Some.piece in
    let taken = takes_from_row (row.x + c.pieces.done) row.y (row.n - c.pieces.done) piece
    c.next.new.self.texels takes.lies.some (sym before.left ∙ takes.texels) in
    let lies = rw (before.level, before.right) at takes.lies in
    let there = piece_beyond level len row.x row.y row.n c.pieces.done piece far lies
    (omega (arith, taken.fits, takes.lies.some)) taken.column taken.row in
    let unit = unit_of row.layout.now.big level format c.format-format.ensures.value in
    let still = g.met.B.ByteReader.lawful.same_size _ _ before.keeps in
    c.in-Err.ensures.unread (rw (still, unit) there) ∙ before.unread far

pub returns-in-Err-clause-reader : goal.returns-in-Err-clause-reader
returns-in-Err-clause-reader g c =
    refused_after g.B.ByteReader.keeps g.B.ByteReader.refuses g.met.B.ByteReader.lawful.chains
    (Unit {0}) (Unit {0}) c.args.reader.now c.pieces.reader c.read_piece.new.reader c.in-Err.e
    c.pieces.invariant.keeps c.in-Err.ensures.reader

pub pieces-preserved : goal.pieces-preserved
pieces-preserved g c =
    let row = c.args.row.now in
    let level = plane_in row.layout.now row.level c.args.plane in
    let format = c.format-format.result in
    let len = g.B.ByteReader.size c.args.reader.now in
    let done = c.pieces.done in
    let before = c.pieces.invariant in
    let takes = c.in-Some.ensures.steps in
    let piece = c.in-Some.piece in
    let read = c.in-Ok.ensures in
    let taken = takes_from_row (row.x + done) row.y (row.n - done) piece
    c.next.new.self.texels takes.lies.some (sym before.left ∙ takes.texels) in
    let lies = rw (before.level, before.right) at takes.lies in
    let still = g.met.B.ByteReader.lawful.same_size _ _ before.keeps in
    let bytes = g.met.B.ByteReader.lawful.same_bytes _ _ before.keeps in
    let fits : done + piece.n ≤ row.n = omega (arith, taken.fits, before.fits) in
    let next : row.x + done + piece.n ≡ row.x + (done + piece.n) = omega arith in
    let rest : row.n - done - piece.n ≡ row.n - (done + piece.n) = omega arith in
    record {
      keeps = g.met.B.ByteReader.lawful.chains _ _ _ before.keeps read.reader;
      level = takes.level ∙ before.level;
      right = takes.right ∙ before.right;
      fits = fits;
      left = taken.rest ∙ ap (λ (k : ℕ). row_texels k row.y (row.n - done - piece.n)) next
          ∙ ap (λ (k : ℕ). row_texels (row.x + (done + piece.n)) row.y k) rest;
      read = λ i d column channel. elim (cases_lt i done) [
        | inl lt ↦
            rw (read.before (i * format.channels + d)
            (omega (arith, mul-add-lt i format.channels d done lt channel)))
            (before.read i d lt channel)
        | inr le ↦
            let j = i - done in
            let own = own_order row.layout.now.big level.shape format c.format-format.ensures.value in
            let is = read.read level (row.x + row.n) own lies j d (omega (arith, column, le)) channel in
            let whole : done + j ≡ i = omega (arith, le) in
            let index : done * format.channels + (j * format.channels + d) ≡ i * format.channels + d =
            (let sum : done * format.channels + (j * format.channels + d)
            ≡ (done + j) * format.channels + d = omega arith in
            sum ∙ ap (λ (k : ℕ). k * format.channels + d) whole) in
            let there : piece.x + j ≡ row.x + i = omega (arith, taken.column, le) in
            same_read _ _ _ _ format.big level (row.x + row.n) _ _ _ _ d _ _ still bytes there
            taken.row
            (ap (λ (k : ℕ). get_or c.read_piece.new.samples (k * c.planes-planes.result + c.args.plane)
            0) index) is
      ];
      others = λ k q below other. read.others k q below other ∙ before.others k q below other;
      unread = λ far.
          let there = piece_beyond level len row.x row.y row.n done piece far lies
          (omega (arith, taken.fits, takes.lies.some)) taken.column taken.row in
          let unit = unit_of row.layout.now.big level format c.format-format.ensures.value in
          read.unread (rw (still, unit) there) ∙ before.unread far;
      low = λ fit. read.low (before.low fit);
    }

pub returns-clause-read : goal.returns-clause-read
returns-clause-read g c = λ i d column channel.
    let row = c.args.row.now in
    let before = c.pieces.invariant in
    let is = c.format-format.ensures.value in
    let done = row_ends row.x row.y row.n c.pieces.done c.pieces.pieces.texels before.fits before.left
    c.in_default.ensures.steps.0 in
    let below : i < c.pieces.done = omega (arith, done, column) in
    rw (is.order, is.channels, c.planes-planes.ensures.value) at
    (before.read i d below (rw is.channels channel))

pub returns-clause-low : goal.returns-clause-low
returns-clause-low g c = rw c.format-format.ensures.depth at c.pieces.invariant.low
