use Rattle.std.proofs.Common.{arith, ◌≡◌, refl, sym, ◌∙◌, to_z, of_z, w64}
use Rattle.std.proofs.lemmas.Int.{to_z-of_z}
use Rattle.tex_aniso.proofs.NumberLemmas.{step_read}
use Rattle.tex_aniso.proofs.ellipse_request.EllipseRequest.is_valid.Goals as goal
use Rattle.tex_aniso.proofs.ellipse_request.EllipseRequest.is_valid.Goals.{
  then-not-is_pixel_step-3-via-then-not-is_pixel_step-3,
  then-not-is_pixel_step-3-via-else-not-is_pixel_step-3+then-not-is_pixel_step-4,
}

pub returns-then-not-is_pixel_step-3 : goal.returns-then-not-is_pixel_step-3
returns-then-not-is_pixel_step-3 c =
    let r = c.args.self.now in (
      λ no. absurd (cc),
      λ is. elim c.then-not-is_pixel_step-3.branch [
        | then-not-is_pixel_step-3-via-then-not-is_pixel_step-3 w ↦
            (let dsdy = step_read r.dsdy is.dsdy in
            sym w.if-not-is_pixel_step-3.true ∙ c.is_pixel_step-2.ensures.1 (rw dsdy is.dsdy))
        | then-not-is_pixel_step-3-via-else-not-is_pixel_step-3+then-not-is_pixel_step-4 w ↦
            (let dtdy = step_read r.dtdy is.dtdy in
            sym w.if-not-is_pixel_step-4.true
            ∙ w.is_pixel_step-else-not-is_pixel_step-3.ensures.1 (rw dtdy is.dtdy))
      ],
    )

pub returns : goal.returns
returns c =
    let r = c.args.self.now in
    let s : to_z w64 (of_z w64 r.s) ≡ r.s = grind (arith, to_z-of_z) in
    let t : to_z w64 (of_z w64 r.t) ≡ r.t = grind (arith, to_z-of_z) in
    let dsdx : to_z w64 (of_z w64 r.dsdx) ≡ r.dsdx = grind (arith, to_z-of_z) in
    let dtdx : to_z w64 (of_z w64 r.dtdx) ≡ r.dtdx = grind (arith, to_z-of_z) in
    let dsdy : to_z w64 (of_z w64 r.dsdy) ≡ r.dsdy = grind (arith, to_z-of_z) in
    let dtdy : to_z w64 (of_z w64 r.dtdy) ≡ r.dtdy = grind (arith, to_z-of_z) in (
      λ yes. record {
        s = rw s at (c.if-not-is_middle.ensures.0 refl);
        t = rw t at (c.if-not-is_middle-2.ensures.0 refl);
        dsdx = rw dsdx at (c.if-not-is_pixel_step.ensures.0 refl);
        dtdx = rw dtdx at (c.if-not-is_pixel_step-2.ensures.0 refl);
        dsdy = rw dsdy at (c.if-not-is_pixel_step-3.ensures.0 refl);
        dtdy = rw dtdy at (c.if-not-is_pixel_step-4.ensures.0 refl);
        some = c.if-self-lt1.false;
        few = c.if-self-gt-MAX_LINE_PROBES.false;
        channels = c.is_count.ensures.0 yes;
      },
      λ is. c.is_count.ensures.1 is.channels,
    )
