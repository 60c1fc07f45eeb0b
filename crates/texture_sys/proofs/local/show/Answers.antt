-- All texels were read if and only if the microcache has their cells.
use Rattle.std.proofs.Common.{None, ap, arith, refl}
use Rattle.std.specs.Option.{option_map}
use Rattle.tile_layout.specs.Value.{channel_value_of}
use Rattle.texture_sys.specs.Needs.{visits_on}
use Rattle.texture_sys.specs.Fetches.{walk_of}
use Rattle.texture_sys.specs.declared.lookup.Lookups.TheVariants.{One}
use Rattle.texture_sys.proofs.LookLemmas.{lookups_told, one_told}
use Rattle.texture_sys.proofs.Shown.{cells_each, cells_none, with_pass, each_walked, one_walked}
use Rattle.texture_sys.proofs.local.show.Goals as goal

pub returns-in-Ok-clause-has : goal.returns-in-Ok-clause-has
returns-in-Ok-clause-has g c =
    let f = c.lookup_for.new.f in
    let p = c.args.pass.now in (
      λ _. cells_each g.T.W.World.files c.args.picture.now p (visits_on c.args.picture.now (One c.args.r.now))
          (walk_of p 0 None) (walk_of f.pass.now f.reads f.latest) refl
          (each_walked f _ _ _ c.in-Ok.ensures.left (λ f. f.picture.now)
          (λ f. walk_of f.pass.now f.reads f.latest) (λ a b t p. (p.0, p.1))),
      λ _. refl,
    )

pub returns-in-Ok-clause-value : goal.returns-in-Ok-clause-value
returns-in-Ok-clause-value g c = λ _ bytes held.
    lookups_told g.T.W.World.files c.args.picture.now (One c.args.r.now) c.lookup_for.new.out bytes
    c.know.ensures.told c.know.ensures.serves held
    (one_told _ c.args.r.now c.lookup_for.new.out (omega arith)
    (c.in-Ok.ensures.told (channel_value_of bytes) (ap (option_map channel_value_of) held)))

pub returns-in-Ok-clause-each : goal.returns-in-Ok-clause-each
returns-in-Ok-clause-each g c =
    let f = c.lookup_for.new.f in
    let p = c.args.pass.now in
    with_pass c.args.picture.now (visits_on c.args.picture.now (One c.args.r.now)) (walk_of p 0 None)
    (walk_of f.pass.now f.reads f.latest)
    (each_walked f _ _ _ c.in-Ok.ensures.left (λ f. f.picture.now)
    (λ f. walk_of f.pass.now f.reads f.latest) (λ a b t p. (p.0, p.1)))

pub returns-in-Err-clause-has : goal.returns-in-Err-clause-has
returns-in-Err-clause-has g c =
    let f = c.lookup_for.new.f in
    let p = c.args.pass.now in (
      λ is. absurd cc,
      λ has. absurd (cells_none g.T.W.World.files c.args.picture.now p
          (visits_on c.args.picture.now (One c.args.r.now)) (walk_of p 0 None)
          (walk_of f.pass.now f.reads f.latest) c.in-Err.field-0 refl has
          (one_walked f _ _ c.in-Err.field-0 _ _ c.in-Err.ensures.left (λ f. f.picture.now)
          (λ f. walk_of f.pass.now f.reads f.latest) (λ a b t p. (p.0, p.1))
          (λ a b t e p. (p.0, p.1)))),
    )
