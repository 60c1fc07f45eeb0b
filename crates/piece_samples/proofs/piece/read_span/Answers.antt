use Rattle.std.proofs.Common.{◌≡◌, ℕ, List, ◌++◌, length, take, drop, sym, ap, ◌∙◌}
use Rattle.std.proofs.Common.{OnOk, subst}
use Rattle.std.specs.Option.{ForSome}
use Rattle.std.proofs.Math.Seq.{take-append_seam}
use Rattle.std.proofs.lemmas.List.{length-take-le}
use Rattle.tiff_format.specs.Bytes.{IsPartAt}
use Rattle.piece_samples.proofs.piece.read_span.Goals as goal

pub returns-clause-told : goal.returns-clause-told
returns-clause-told g c =
    let n = c.args.span.now.size in
    let buf = c.read.new.buf in
    let rest = drop n c.args.room.now in
    let long : n ≡ length buf =
    sym (c.read.auto.buf ∙ length-take-le n c.args.room.now c.requires.fits) in
    let front : take n (buf ++ rest) ≡ buf =
    ap (λ (k : ℕ). take k (buf ++ rest)) long ∙ take-append_seam buf rest in
    subst
    (λ (l : List ℕ). OnOk c.read.result (ForSome (g.B.ByteReader.bytes c.args.reader.now)
    (λ bytes. IsPartAt bytes c.args.span.now.at l)))
    (sym front) c.read.ensures.bytes
