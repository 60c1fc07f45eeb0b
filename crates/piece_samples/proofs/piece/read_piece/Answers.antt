use Rattle.std.proofs.Common.{◌≡◌, ◌+◌, ◌*◌, ◌≤◌, ◌<◌, ℕ, Bool, true, false, eqb, List, length, take, ◌∙◌, arith, refl, rules}
use Rattle.std.proofs.Math.Nat.{mul-le-mul}
use Rattle.std.proofs.lemmas.List.{length-take-le}
use Rattle.std.proofs.lemmas.Nat.{mul-add-lt}
use Rattle.tiff_format.specs.Block.{sample_bytes}
use Rattle.piece_samples.proofs.PieceReads.{piece_read, piece_unread, samples_of}
use Rattle.piece_samples.proofs.piece.read_piece.Goals as goal

pub returns-then-not-lies_below-clause-read : goal.returns-then-not-lies_below-clause-read
returns-then-not-lies_below-clause-read g c = λ level right is lies i d column channel.
    let piece = c.args.piece.now in
    let format = c.args.format.now in
    let len = g.B.ByteReader.size c.args.reader.now in
    let beyond : len < piece.at + piece.n * format.texel_bytes = search rules in
    let index : i * format.channels + d < piece.n * format.channels =
    omega (arith, mul-add-lt i format.channels d piece.n column channel) in
    rw (c.clear_to.ensures.zeros (i * format.channels + d) (omega (arith, index)))
    (piece_unread len (g.B.ByteReader.bytes c.args.reader.now) level format is right piece lies i d
    column beyond (g.met.B.ByteReader.lawful.told c.args.reader.now))

-- the bytes of a piece with few enough texels fit the buffer
unit_low : (depth channels : ℕ) → channels ≤ 8 → channels * sample_bytes depth ≤ 16
unit_low depth channels few = by (eqb depth 8) refl
  where
    by : (b : Bool) → eqb depth 8 ≡ b → channels * sample_bytes depth ≤ 16
    by true is = rw is (omega arith)
    by false is = rw is (omega arith)

fits_room : (n unit room : ℕ) → n ≤ 64 → unit ≤ 16 → room ≡ 1024 → n * unit ≤ room
fits_room n unit room few low is =
    let most : n * unit ≤ 64 * 16 = mul-le-mul few low in omega (arith, most)

-- the bytes that were read
front_long : (n size : ℕ) (room : List ℕ) → size ≡ n → n ≤ length room → length (take size room) ≡ n
front_long n size room is fits = length-take-le size room (omega arith) ∙ is

pub unpack_to-requires-clause-size : goal.unpack_to-requires-clause-size
unpack_to-requires-clause-size g c =
    let format = c.args.format.now in
    let n = c.args.piece.now.n in
    let low : format.texel_bytes ≤ 16 =
    rw format.in_range.bytes (unit_low format.depth format.channels format.in_range.count.high) in
    let fits = fits_room n format.texel_bytes (length c.read_span.new.room) c.requires.few low
    c.read_span.auto.room in
    front_long (n * format.texel_bytes) c.of-span.result.size c.read_span.new.room
    c.of-span.ensures.size fits
    ∙ samples_of n format.texel_bytes format.channels (sample_bytes format.depth)
    format.in_range.bytes

pub returns-in-Ok-clause-read : goal.returns-in-Ok-clause-read
returns-in-Ok-clause-read g c = λ level right is lies i d column channel.
    let piece = c.args.piece.now in
    let format = c.args.format.now in
    let len = g.B.ByteReader.size c.args.reader.now in
    let below : piece.at + piece.n * format.texel_bytes ≤ len = search rules in
    let low : format.texel_bytes ≤ 16 =
    rw format.in_range.bytes (unit_low format.depth format.channels format.in_range.count.high) in
    let fits = fits_room piece.n format.texel_bytes (length c.read_span.new.room) c.requires.few low
    c.read_span.auto.room in
    let index : i * format.channels + d < piece.n * format.channels =
    omega (arith, mul-add-lt i format.channels d piece.n column channel) in
    rw (c.unpack_to.ensures.values (i * format.channels + d) (omega (arith, index)))
    (piece_read len (g.B.ByteReader.bytes c.args.reader.now) level format is right piece lies i d
    column (take c.of-span.result.size c.read_span.new.room) below
    (front_long (piece.n * format.texel_bytes) c.of-span.result.size c.read_span.new.room
    c.of-span.ensures.size fits)
    (rw c.of-span.ensures.at at c.in-Ok.ensures.told) channel)
