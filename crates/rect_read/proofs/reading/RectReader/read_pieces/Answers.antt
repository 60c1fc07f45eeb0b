use Rattle.std.proofs.Common.{◌≡◌, ◌*◌, ◌++◌, ◌∙◌, ℕ, ap, arith, refl, sym, subst, List, append_assoc}
use Rattle.std.specs.List.{flat_map}
use Rattle.std.proofs.lemmas.List.{append-nil}
use Rattle.std.proofs.lemmas.List.Concat.{flat_map-append}
use Rattle.std.proofs.lemmas.Result.{err_from_is_err_and}
use Rattle.tiff_format.specs.Block.{Level, texel_bytes}
use Rattle.tile_layout.specs.FormatOf.{IsFormatOf}
use Rattle.tile_layout.specs.Pieces.{row_texels}
use Rattle.tile_layout.specs.declared.texel_format.TexelFormat.{TexelFormat}
use Rattle.rect_read.specs.Taken.{taken}
use Rattle.rect_read.proofs.TakenSamples.{keeps_itself, keeps_after, fits_after}
use Rattle.rect_read.specs.Zeros.{AddsTexels, LiesBeyond}
use Rattle.rect_read.proofs.ZeroTexels.{adds_then, adds_long}
use Rattle.rect_read.proofs.PieceEnds.{piece_adds, taken_far}
use Rattle.tile_layout.proofs.WalkLemmas.{length_taken}
use Rattle.rect_read.specs.Samples.{samples_at}
use Rattle.rect_read.proofs.Leaves.{leaves_after}
use Rattle.rect_read.proofs.reading.RectReader.read_pieces.Goals as goal

-- the values of the texels taken follow those so far
values_taken : (values : ℕ × ℕ → List ℕ) (old mid new : List ℕ)
    (all left row rest : List (ℕ × ℕ)) → left ≡ row ++ rest
    → mid ++ flat_map values left ≡ old ++ flat_map values all
    → new ≡ mid ++ flat_map values row
    → new ++ flat_map values rest ≡ old ++ flat_map values all
values_taken values old mid new all left row rest parts so_far more =
    ap (λ (v : List ℕ). v ++ flat_map values rest) more
    ∙ append_assoc mid (flat_map values row) (flat_map values rest)
    ∙ ap (λ (v : List ℕ). mid ++ v) (sym (flat_map-append values row rest))
    ∙ ap (λ (t : List (ℕ × ℕ)). mid ++ flat_map values t) (sym parts) ∙ so_far

-- the bytes of a texel
unit_of : (format : TexelFormat) (level : Level)
    → IsFormatOf format.big level.shape format
    → format.texel_bytes ≡ texel_bytes level.shape
unit_of format level is = rw (is.one, ← is.channels, ← is.depth) format.in_range.bytes

pub read_piece-requires-clause-samples : goal.read_piece-requires-clause-samples
read_piece-requires-clause-samples g c =
    fits_after c.args.self.now.samples c.pieces.self.samples c.args.format.now
    c.pieces.invariant.others c.requires.samples

pub pieces-init : goal.pieces-init
pieces-init g c = record {
  keeps = g.met.B.ByteReader.lawful.itself c.args.reader.now;
  some = omega arith;
  level = refl;
  right = refl;
  zeros = λ format last more. more;
  unread = λ format far. (far, refl);
  count = refl;
  low = λ fit. fit;
  others = keeps_itself c.args.self.now.samples;
  told = λ bytes told windows format holds. (windows, refl);
}

pub pieces-preserved : goal.pieces-preserved
pieces-preserved g c =
    let takes = c.in-Some.ensures.steps in
    let before = c.pieces.invariant in
    record {
      keeps = g.met.B.ByteReader.lawful.chains _ _ _ before.keeps c.in_ok-read_piece.ensures.reader;
      some = omega (arith, c.in_ok-read_piece.ensures.next);
      level = takes.level ∙ before.level;
      right = takes.right ∙ before.right;
      zeros = λ format last more.
          let level = c.args.pieces.now.level in
          let right = c.args.pieces.now.right in
          let n = c.args.format.now.channels in
          let far = LiesBeyond level right (g.B.ByteReader.size c.args.reader.now) in
          let row = row_texels c.in-Some.piece.x c.in-Some.piece.y c.in-Some.piece.n in
          let rest = c.next.new.self.texels in
          let old = taken c.pieces.self.samples in
          before.zeros format last
          (subst (λ (ts : List (ℕ × ℕ)). AddsTexels far n ts old last) (sym takes.texels)
          (adds_then far n row rest old (taken c.read_piece.new.self.samples) last
          (piece_adds level right (g.B.ByteReader.size c.args.reader.now) c.in-Some.piece
          (rw (before.level, before.right) at takes.lies) n old (taken c.read_piece.new.self.samples)
          (rw (
            g.met.B.ByteReader.lawful.same_size _ _ before.keeps,
            unit_of c.args.format.now level format,
          ) at c.in_ok-read_piece.ensures.count)) more));
      unread = λ format far.
          let level = c.args.pieces.now.level in
          let len = g.B.ByteReader.size c.args.reader.now in
          let so_far = before.unread format far in
          let both = taken_far c.pieces.pieces c.next.new.self c.in-Some.piece level
          c.args.pieces.now.right len before.level before.right takes so_far.0 in
          let there = rw (
            ← g.met.B.ByteReader.lawful.same_size _ _ before.keeps,
            ← unit_of c.args.format.now level format,
          ) at both.0 in (
            both.1,
            c.in_ok-read_piece.ensures.unread there ∙ so_far.1,
          );
      count = omega (
        arith,
        before.count,
        adds_long (c.in-Some.piece.n * c.args.format.now.channels)
            (taken c.pieces.self.samples) (taken c.read_piece.new.self.samples)
            c.in_ok-read_piece.ensures.count,
        ap (λ n. n * c.args.format.now.channels)
            (length_taken c.pieces.pieces c.in-Some.piece c.next.new.self takes),
      );
      low = λ fit. c.in_ok-read_piece.ensures.low (before.low fit);
      others = keeps_after c.args.self.now.samples c.pieces.self.samples c.read_piece.new.self.samples
          before.others c.in_ok-read_piece.ensures.others;
      told = λ bytes told windows format holds.
          let so_far = before.told bytes told windows format holds in
          let still = g.met.B.ByteReader.lawful.same_bytes _ _ before.keeps ∙ told in
          let level = c.args.pieces.now.level in
          let lies = rw before.level at takes.lies in
          let read = c.in_ok-read_piece.ensures.told bytes still level c.pieces.pieces.right
          so_far.0 format lies holds in
          let values = samples_at c.args.format.now.big bytes level in (
            read.0,
            values_taken values (taken c.args.self.now.samples) (taken c.pieces.self.samples)
                (taken c.read_piece.new.self.samples) c.args.pieces.now.texels
                c.pieces.pieces.texels
                (row_texels c.in-Some.piece.x c.in-Some.piece.y c.in-Some.piece.n)
                c.next.new.self.texels takes.texels so_far.1 read.1,
          );
    }

pub returns-clause-told : goal.returns-clause-told
returns-clause-told g c = λ bytes told windows format holds.
    let so_far = c.pieces.invariant.told bytes told windows format holds in
    let values = samples_at c.args.format.now.big bytes c.args.pieces.now.level in (
      so_far.0,
      sym (append-nil (taken c.pieces.self.samples))
          ∙ ap (λ (t : List (ℕ × ℕ)). (taken c.pieces.self.samples) ++ flat_map values t)
          (sym c.in_default.ensures.steps.0)
          ∙ so_far.1,
    )

pub returns-in_err-read_piece-clause-reader : goal.returns-in_err-read_piece-clause-reader
returns-in_err-read_piece-clause-reader g c =
    let r = c.from_residual in
    let p = err_from_is_err_and r.result r.ensures.1 in
    rw (p.1, p.2) (leaves_after g.B.ByteReader.keeps g.B.ByteReader.refuses
    g.met.B.ByteReader.lawful.chains (Unit {0}) (Unit {0}) c.args.reader.now c.pieces.reader
    c.read_piece.new.reader c.in_err-read_piece.field-0.0
    c.pieces.invariant.keeps c.in_err-read_piece.ensures.reader)

pub returns-clause-zeros : goal.returns-clause-zeros
returns-clause-zeros g c = λ format.
    let old = taken c.pieces.self.samples in
    let far = LiesBeyond c.args.pieces.now.level c.args.pieces.now.right
    (g.B.ByteReader.size c.args.reader.now) in
    c.pieces.invariant.zeros format old
    (subst
    (λ (ts : List (ℕ × ℕ)). AddsTexels far c.args.format.now.channels ts old old)
    (sym c.in_default.ensures.steps.0) refl)

pub returns-in_err-read_piece-clause-unread : goal.returns-in_err-read_piece-clause-unread
returns-in_err-read_piece-clause-unread g c = λ format far.
    let level = c.args.pieces.now.level in
    let before = c.pieces.invariant in
    let so_far = before.unread format far in
    let both = taken_far c.pieces.pieces c.next.new.self c.in-Some.piece level
    c.args.pieces.now.right (g.B.ByteReader.size c.args.reader.now) before.level before.right
    c.in-Some.ensures.steps so_far.0 in
    let there = rw (
      ← g.met.B.ByteReader.lawful.same_size _ _ before.keeps,
      ← unit_of c.args.format.now level format,
    ) at both.0 in
    c.in_err-read_piece.ensures.unread there ∙ so_far.1
