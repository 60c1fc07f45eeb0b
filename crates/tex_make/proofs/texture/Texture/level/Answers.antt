use Rattle.std.proofs.Common.{◌<◌, ◌∙◌, ap, sym, length, arith}
use Rattle.std.proofs.lemmas.List.{get_or-map, length-map}
use Rattle.tex_make.specs.Level.{shown}
use Rattle.tex_make.specs.PlainLevel.{PlainLevel, no_level}
use Rattle.tex_make.proofs.texture.Texture.level.Goals as goal

pub returns-clause-depth : goal.returns-clause-depth
returns-clause-depth c =
    let items = c.args.self.now.picture.now.levels.items in
    let low : c.args.level < length items = omega (arith, c.requires, length-map items shown) in
    let at = get_or-map shown items c.args.level c.index.result.now no_level low in
    ap (λ (m : PlainLevel). m.depth) (ap shown c.index.ensures ∙ sym at)
    ∙ c.args.self.now.picture.now.levels_in.depth c.args.level c.requires

pub returns-clause-channels : goal.returns-clause-channels
returns-clause-channels c =
    let items = c.args.self.now.picture.now.levels.items in
    let low : c.args.level < length items = omega (arith, c.requires, length-map items shown) in
    let at = get_or-map shown items c.args.level c.index.result.now no_level low in
    ap (λ (m : PlainLevel). m.channels) (ap shown c.index.ensures ∙ sym at)
    ∙ c.args.self.now.picture.now.levels_in.channels c.args.level c.requires
