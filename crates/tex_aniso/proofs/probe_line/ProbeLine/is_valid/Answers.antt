use Rattle.std.proofs.Common.{arith, ◌≡◌, ◌≤◌, refl, to_z, of_z, w64}
use Rattle.std.proofs.lemmas.Int.{to_z-of_z}
use Rattle.tex_aniso.proofs.probe_line.ProbeLine.is_valid.Goals as goal

pub returns : goal.returns
returns c =
    let line = c.args.self.now in
    let s : to_z w64 (of_z w64 line.s) ≡ line.s = grind (arith, to_z-of_z) in
    let t : to_z w64 (of_z w64 line.t) ≡ line.t = grind (arith, to_z-of_z) in
    let ds : to_z w64 (of_z w64 line.ds) ≡ line.ds = grind (arith, to_z-of_z) in
    let dt : to_z w64 (of_z w64 line.dt) ≡ line.dt = grind (arith, to_z-of_z) in
    let across = rw (s, ds) at (c.if-not-is_line_fine.ensures.0 refl) in
    let down = rw (t, dt) at (c.if-not-is_line_fine-2.ensures.0 refl) in
    let heavy : 1 ≤ c.total.result = c.if-total-lt1.false in (
      λ yes. record {
        some = c.if-self-lt1.false;
        few = c.if-self-gt-MAX_LINE_PROBES.false;
        weight = rw c.total.ensures.value at heavy;
        first_s = across.0;
        first_t = down.0;
        last_s = across.1;
        last_t = down.1;
        channels = c.is_count.ensures.0 yes;
      },
      λ is. c.is_count.ensures.1 is.channels,
    )
