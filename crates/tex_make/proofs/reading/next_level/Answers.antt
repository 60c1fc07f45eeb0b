use Rattle.std.proofs.Common.{◌≡◌, ℕ, suc, ◌-◌, ◌<◌, ◌≤◌, length, map, sym, subst, arith}
use Rattle.std.proofs.lemmas.List.{length-map}
use Rattle.tile_layout.specs.Kept.{stored_count}
use Rattle.tex_make.specs.Level.{shown}
use Rattle.tex_make.specs.PlainLevel.{PlainLevel}
use Rattle.tex_make.specs.Stored.{HasShape, HasTexels}
use Rattle.tex_make.proofs.Chains.{half_shape, half_texels}
use Rattle.tex_make.proofs.reading.next_level.Goals as goal

pub returns-in-Ok-clause-shape : goal.returns-in-Ok-clause-shape
returns-in-Ok-clause-shape g c =
    let file = c.args.layout.now in
    let levels = c.args.levels.now in
    let l = length levels - 1 in
    let long = length-map levels shown in
    let some = c.requires.some in
    let behind : stored_count file ≤ suc l =
    omega (arith, some, long, c.if-number-stored.false, c.stored.ensures.value) in
    let more : suc l ≡ length levels = omega (arith, some, long) in
    let last = subst (λ (v : PlainLevel). HasShape file l v) (sym c.last_of.ensures)
    (c.requires.shapes l (omega (arith, some, long))) in
    subst (λ (k : ℕ). HasShape file k (shown c.in-Ok.half)) more
    (half_shape file l behind (shown c.last_of.result.now) (shown c.in-Ok.half) c.in-Ok.ensures
    last c.in-Ok.half.known)

pub returns-in-Ok-clause-told : goal.returns-in-Ok-clause-told
returns-in-Ok-clause-told g c = λ bytes told holds texels.
    let file = c.args.layout.now in
    let levels = c.args.levels.now in
    let l = length levels - 1 in
    let long = length-map levels shown in
    let some = c.requires.some in
    let behind : stored_count file ≤ suc l =
    omega (arith, some, long, c.if-number-stored.false, c.stored.ensures.value) in
    let more : suc l ≡ length levels = omega (arith, some, long) in
    let low : l < length (map shown levels) = omega (arith, some, long) in
    let last = subst (λ (v : PlainLevel). HasShape file l v) (sym c.last_of.ensures)
    (c.requires.shapes l low) in
    subst (λ (k : ℕ). HasTexels file bytes k (shown c.in-Ok.half)) more
    (half_texels file l behind (shown c.last_of.result.now) (shown c.in-Ok.half) c.in-Ok.ensures
    last c.in-Ok.half.known bytes
    (subst (λ (v : PlainLevel). HasTexels file bytes l v) (sym c.last_of.ensures) (texels l low)))
