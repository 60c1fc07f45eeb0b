use Rattle.std.proofs.Common.{◌≡◌, to_z, of_z, w64, refl, arith}
use Rattle.std.proofs.lemmas.Int.{to_z-of_z}
use Rattle.tex_aniso.proofs.BellWeights.{used_upto}
use Rattle.tex_aniso.proofs.LineFacts.{along_line, along_probes}
use Rattle.tex_aniso.proofs.ellipse_probes.line_along.Goals as goal

pub weights-requires-clause-within : goal.weights-requires-clause-within
weights-requires-clause-within c =
    let sides = c.args.sides.now in rw sides.is_used (used_upto sides.bell.reach)

pub returns-clause-value : goal.returns-clause-value
returns-clause-value c =
    let r = c.args.r.now in
    let d = c.args.along.now in
    let s : to_z w64 (of_z w64 r.s) ≡ r.s = grind (arith, to_z-of_z) in
    let t : to_z w64 (of_z w64 r.t) ≡ r.t = grind (arith, to_z-of_z) in
    let ds : to_z w64 (of_z w64 d.ds) ≡ d.ds = grind (arith, to_z-of_z) in
    let dt : to_z w64 (of_z w64 d.dt) ≡ d.dt = grind (arith, to_z-of_z) in
    let across : to_z w64 (of_z w64 c.first_place.result) ≡ c.first_place.result =
    grind (arith, to_z-of_z) in
    let down : to_z w64 (of_z w64 c.first_place-2.result) ≡ c.first_place-2.result =
    grind (arith, to_z-of_z) in
    rw (
      across,
      down,
      rw (s, ds) at c.first_place.ensures,
      rw (t, dt) at c.first_place-2.ensures,
      ds,
      dt,
      c.weights.ensures.value,
    ) refl

pub returns-clause-line : goal.returns-clause-line
returns-clause-line c =
    let sides = c.args.sides.now in
    let bell = sides.bell in
    rw (returns-clause-value c)
    (along_line c.args.r.now c.args.lod sides.count bell.reach _ _ sides.few bell.low bell.high
    sides.is_used c.requires.request c.requires.ds c.requires.dt)

pub returns-clause-probes : goal.returns-clause-probes
returns-clause-probes c =
    let sides = c.args.sides.now in
    let bell = sides.bell in
    rw (returns-clause-value c)
    (along_probes c.args.r.now c.args.lod sides.count bell.reach _ _ sides.few bell.low bell.high
    sides.is_used c.args.r.now.max_probes c.requires.few)
