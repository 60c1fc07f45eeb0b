use Rattle.std.proofs.Common.{◌≡◌, ◌+◌, ℕ, List, slice_index, ap, subst, ◌∙◌}
use Rattle.tile_store.specs.SampleRow.{samples_of}
use Rattle.tile_store.specs.Tile.{IsTile}
use Rattle.tile_store.specs.Told.{IsTold}
use Rattle.tile_store.proofs.TileLemmas.{told_sample, sample_within}
use Rattle.tile_store.proofs.tile.Tile.texel.Goals as goal

pub sample-requires : goal.sample-requires
sample-requires g c =
    let tile = c.args.self.now in
    let same : samples_of c.all.result ≡ tile.texels = c.all.ensures ∙ ap (λ t. t.texels) c.self.view_is in
    rw (c.place.ensures.value, same)
    (sample_within tile c.args.x c.args.y c.args.c (subst IsTile c.self.view_is c.self.invariant.shape)
    c.requires.inside c.requires.channel)

value : goal.returns-clause-value
value g c =
    let tile = c.args.self.now in
    let same : samples_of c.all.result ≡ tile.texels = c.all.ensures ∙ ap (λ t. t.texels) c.self.view_is in
    c.sample.ensures ∙ ap (λ (all : List ℕ). slice_index all (c.place.result + c.args.c)) same
    ∙ ap (λ (k : ℕ). slice_index tile.texels (k + c.args.c)) c.place.ensures.value

pub returns-clause-value : goal.returns-clause-value
returns-clause-value g c = value g c

pub returns-clause-told : goal.returns-clause-told
returns-clause-told g c =
    let told : IsTold g.W.World.files c.args.self.now =
    subst (IsTold g.W.World.files) c.self.view_is c.self.invariant.told in
    let is : IsTile c.args.self.now = subst IsTile c.self.view_is c.self.invariant.shape in
    rw (value g c) (told_sample g.W.World.files c.args.self.now is told c.args.x c.args.y c.args.c
    c.requires.inside c.requires.channel)
