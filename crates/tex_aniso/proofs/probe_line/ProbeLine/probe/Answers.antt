use Rattle.std.proofs.Common.{◌≡◌, ◌-◌, w64, to_z, of_z, arith}
use Rattle.std.proofs.lemmas.Int.{to_z-of_z}
use Rattle.tex_aniso.specs.Line.{line_probe}
use Rattle.tex_aniso.proofs.LineLemmas.{place_between}
use Rattle.tex_aniso.proofs.probe_line.ProbeLine.probe.Goals as goal

pub place_at-requires-clause-place : goal.place_at-requires-clause-place
place_at-requires-clause-place c =
    let line = c.args.self.now in
    let s : to_z w64 (of_z w64 line.s) ≡ line.s = grind (arith, to_z-of_z) in
    let ds : to_z w64 (of_z w64 line.ds) ≡ line.ds = grind (arith, to_z-of_z) in
    rw (s, ds)
    (place_between line.s line.ds c.args.j (line.count - 1) (omega arith) c.requires.line.first_s
    c.requires.line.last_s)

pub place_at-requires-2-clause-place : goal.place_at-requires-2-clause-place
place_at-requires-2-clause-place c =
    let line = c.args.self.now in
    let t : to_z w64 (of_z w64 line.t) ≡ line.t = grind (arith, to_z-of_z) in
    let dt : to_z w64 (of_z w64 line.dt) ≡ line.dt = grind (arith, to_z-of_z) in
    rw (t, dt)
    (place_between line.t line.dt c.args.j (line.count - 1) (omega arith) c.requires.line.first_t
    c.requires.line.last_t)

pub returns-clause-value : goal.returns-clause-value
unfolding line_probe
returns-clause-value c =
    let line = c.args.self.now in
    let s : to_z w64 (of_z w64 line.s) ≡ line.s = grind (arith, to_z-of_z) in
    let ds : to_z w64 (of_z w64 line.ds) ≡ line.ds = grind (arith, to_z-of_z) in
    let t : to_z w64 (of_z w64 line.t) ≡ line.t = grind (arith, to_z-of_z) in
    let dt : to_z w64 (of_z w64 line.dt) ≡ line.dt = grind (arith, to_z-of_z) in
    let across : to_z w64 (of_z w64 c.place_at.result) ≡ c.place_at.result =
    grind (arith, to_z-of_z) in
    let down : to_z w64 (of_z w64 c.place_at-2.result) ≡ c.place_at-2.result =
    grind (arith, to_z-of_z) in
    rw (
      across,
      down,
      rw (s, ds) at c.place_at.ensures.value,
      rw (t, dt) at c.place_at-2.ensures.value,
    )

pub returns-clause-place : goal.returns-clause-place
returns-clause-place c =
    let across : to_z w64 (of_z w64 c.place_at.result) ≡ c.place_at.result =
    grind (arith, to_z-of_z) in
    let down : to_z w64 (of_z w64 c.place_at-2.result) ≡ c.place_at-2.result =
    grind (arith, to_z-of_z) in
    record {
      s = rw across c.place_at.ensures.in_range;
      t = rw down c.place_at-2.ensures.in_range;
    }
