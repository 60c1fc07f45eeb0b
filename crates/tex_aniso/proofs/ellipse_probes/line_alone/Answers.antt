use Rattle.std.proofs.Common.{◌≡◌, to_z, of_z, w64, arith, refl}
use Rattle.std.proofs.lemmas.Int.{to_z-of_z}
use Rattle.tex_aniso.proofs.WeightLemmas.{first_listed}
use Rattle.tex_aniso.proofs.LineFacts.{alone_line, alone_probes}
use Rattle.tex_aniso.proofs.ellipse_probes.line_alone.Goals as goal

pub returns-clause-value : goal.returns-clause-value
returns-clause-value c =
    let r = c.args.r.now in
    let s : to_z w64 (of_z w64 r.s) ≡ r.s = grind (arith, to_z-of_z) in
    let t : to_z w64 (of_z w64 r.t) ≡ r.t = grind (arith, to_z-of_z) in
    rw (s, t, first_listed) refl

pub returns-clause-line : goal.returns-clause-line
returns-clause-line c = rw (returns-clause-value c) (alone_line c.args.r.now c.args.lod c.requires)

pub returns-clause-probes : goal.returns-clause-probes
returns-clause-probes c =
    rw (returns-clause-value c) (alone_probes c.args.r.now c.args.lod c.requires)
