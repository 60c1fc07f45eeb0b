use Rattle.std.proofs.Common.{◌≡◌, ℕ, suc, ◌+◌, ◌-◌, List, [], ◌∷◌, ◌++◌, length, map}
use Rattle.std.proofs.Common.{Vec, Global, sym, ap, ◌∙◌, subst, arith, length-append}
use Rattle.std.proofs.lemmas.List.{length-map, map-append}
use Rattle.std.proofs.lemmas.Result.{err_from_is_err_and}
use Rattle.tile_layout.specs.Level.{width_in, height_in}
use Rattle.rect_read.proofs.Leaves.{leaves_after}
use Rattle.tex_make.specs.declared.level.Level.{Level}
use Rattle.tex_make.specs.Level.{shown}
use Rattle.tex_make.specs.PlainLevel.{PlainLevel}
use Rattle.tex_make.specs.Stored.{HasShape, HasTexels, AreLevelsOf, AreTexelsOf}
use Rattle.tex_make.proofs.Chains.{half_width, half_height, levels_more, texels_more, many_texels}
use Rattle.tex_make.proofs.Chains.{sides_fall}
use Rattle.tex_make.proofs.reading.read_levels.Goals as goal

pub returns-in_err-next-clause-reader : goal.returns-in_err-next-clause-reader
returns-in_err-next-clause-reader g c =
    let r = c.from_residual-in_err-next in
    let p = err_from_is_err_and r.result r.ensures.1 in
    rw (p.1, p.2) (leaves_after g.B.ByteReader.keeps g.B.ByteReader.refuses
    g.met.B.ByteReader.lawful.chains Level (Vec Level Global) c.args.reader.now c.down.reader
    c.next_level.new.reader c.in_err-next.field-0.0 c.down.invariant.keeps c.in_err-next.ensures.reader)

pub returns-in_err-push-2-clause-reader : goal.returns-in_err-push-2-clause-reader
returns-in_err-push-2-clause-reader g c =
    let r = c.from_residual-in_err-push-2 in
    let p = err_from_is_err_and r.result r.ensures.1 in
    rw (p.1, p.2) (g.met.B.ByteReader.lawful.chains _ _ _ c.down.invariant.keeps
    c.in_ok-next.ensures.reader)

pub down-smaller : goal.down-smaller
down-smaller g c =
    let file = c.args.layout.now in
    let old = c.down.levels.items in
    let all = map shown old in
    let l = length old - 1 in
    let long = length-map old shown in
    let are = c.down.invariant.are in
    let some = are.some in
    let items : c.push-in-down.new.levels.items ≡ old ++ c.in_ok-next.next ∷ [] =
    c.in_ok-push-2.ensures in
    let grown : length c.push-in-down.new.levels.items ≡ length old + 1 =
    ap length items ∙ length-append old (c.in_ok-next.next ∷ []) in
    let next : length c.push-in-down.new.levels.items - 1 ≡ suc l = omega (arith, grown, some, long) in
    let shape = are.shapes l (omega (arith, some, long)) in
    let single = rw c.deref.ensures.value at c.last_of.ensures in
    let wide : c.last_of.result.now.width ≡ width_in file l =
    ap (λ (v : PlainLevel). v.width) single ∙ shape.width in
    let high : c.last_of.result.now.height ≡ height_in file l =
    ap (λ (v : PlainLevel). v.height) single ∙ shape.height in
    let fall = sides_fall (width_in file l) (height_in file l)
    (omega (arith, shape.known.wide.low, shape.width))
    (omega (arith, shape.known.high.low, shape.height))
    (λ one. let yes = c.is_single.ensures.1 (wide ∙ one.0, high ∙ one.1) in
    cc (yes, c.down-test.true)) in
    omega (
      arith,
      fall,
      ap (width_in file) next,
      ap (height_in file) next,
      half_width file c.requires l,
      half_height file c.requires l,
    )

pub down-preserved : goal.down-preserved
down-preserved g c =
    let file = c.args.layout.now in
    let old = c.down.levels.items in
    let all = map shown old in
    let next = c.in_ok-next.next in
    let l = length old - 1 in
    let long = length-map old shown in
    let before = c.down.invariant in
    let are = before.are in
    let some = are.some in
    let same : map shown c.push-in-down.new.levels.items ≡ all ++ shown next ∷ [] =
    ap (map shown) c.in_ok-push-2.ensures ∙ map-append shown old (next ∷ []) in
    let shape = are.shapes l (omega (arith, some, long)) in
    let single = rw c.deref.ensures.value at c.last_of.ensures in
    let wide : c.last_of.result.now.width ≡ width_in file l =
    ap (λ (v : PlainLevel). v.width) single ∙ shape.width in
    let high : c.last_of.result.now.height ≡ height_in file l =
    ap (λ (v : PlainLevel). v.height) single ∙ shape.height in
    let many = many_texels (width_in file l) (height_in file l)
    (omega (arith, shape.known.wide.low, shape.width))
    (omega (arith, shape.known.high.low, shape.height))
    (λ one. let yes = c.is_single.ensures.1 (wide ∙ one.0, high ∙ one.1) in
    cc (yes, c.down-test.true)) in
    let count : length c.deref-in-down.result.now ≡ length all =
    ap length c.deref-in-down.ensures.value ∙ sym long in
    let still = g.met.B.ByteReader.lawful.same_bytes _ _ before.keeps in
    record {
      are = subst (λ (xs : List PlainLevel). AreLevelsOf file xs) (sym same)
          (levels_more file all (shown next) are
          (subst (λ (k : ℕ). HasShape file k (shown next)) count c.in_ok-next.ensures.shape)
          l (omega (arith, some, long)) many);
      told = λ bytes told holds.
          let texels = before.told bytes told holds in
          subst (λ (xs : List PlainLevel). AreTexelsOf file bytes xs) (sym same)
          (texels_more file all (shown next) bytes texels
          (subst (λ (k : ℕ). HasTexels file bytes k (shown next)) count
          (c.in_ok-next.ensures.told bytes (still ∙ told) holds
          (subst (λ (xs : List Level). AreTexelsOf file bytes (map shown xs))
          (sym c.deref-in-down.ensures.value) texels))));
      keeps = g.met.B.ByteReader.lawful.chains _ _ _ before.keeps c.in_ok-next.ensures.reader;
    }
