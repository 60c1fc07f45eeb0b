use Rattle.std.proofs.Common.{◌≡◌, ℕ, ◌*◌, length, refl, sym, ap, ◌∙◌, subst}
use Rattle.tiff_format.specs.declared.rect.Rect.{Rect}
use Rattle.tile_layout.specs.Cell.{channels_in}
use Rattle.rect_read.specs.RectSamples.{samples_of}
use Rattle.tile_store.specs.Tile.{cached_tile}
use Rattle.tile_store.specs.Told.{ToldBy, IsTold}
use Rattle.tile_load.specs.CellTile.{IsCellTile}
use Rattle.tile_load.specs.Halving.{HalvingState, rect_of, part_count}
use Rattle.tile_load.specs.Halved.{IsHalfMade}
use Rattle.tile_load.proofs.HalfMade.{told_whole}
use Rattle.tile_load.proofs.halving.Halving.finish.Goals as goal

pub tile_of-requires-clause-told : goal.tile_of-requires-clause-told
tile_of-requires-clause-told g c =
    let a = c.self.inside in
    let is = c.self.invariant in
    let layout = a.layout.now in
    let files = g.W.World.files in
    let samples = samples_of a.samples in
    let all : a.done ≡ part_count layout a.cut a.key =
    subst (λ (s : HalvingState). s.done ≡ part_count s.layout s.cut s.key) (sym c.self.view_is)
    c.requires.done in
    let long : length samples ≡ (rect_of layout a.cut a.key).w * (rect_of layout a.cut a.key).h
    * channels_in layout =
    is.tile.texels
    ∙ ap (λ (r : Rect). r.w * r.h * a.channels) is.rect_is
    ∙ ap (λ (n : ℕ). (rect_of layout a.cut a.key).w * (rect_of layout a.cut a.key).h * n)
    is.channels_is in
    let told = told_whole layout a.cut a.key is.cell samples long files
    (subst (λ (k : ℕ). ToldBy files a.key (λ bytes. IsHalfMade bytes layout a.cut a.key k samples))
    all is.told) in
    subst (λ (r : Rect). IsTold files (cached_tile a.key r a.channels samples)) (sym is.rect_is)
    (subst (λ (n : ℕ). IsTold files (cached_tile a.key (rect_of layout a.cut a.key) n samples))
    (sym is.channels_is) told)

pub returns-clause-tile : goal.returns-clause-tile
returns-clause-tile g c =
    let a = c.self.inside in
    let is = c.self.invariant in
    let tile = cached_tile a.key a.rect a.channels (samples_of a.samples) in
    let own : IsCellTile a.layout.now a.cut a.key tile = record {
      key_is = refl;
      rect_is = is.rect_is;
      channels_is = is.channels_is;
    } in
    rw c.tile_of.ensures
    (subst (λ (s : HalvingState). IsCellTile s.layout s.cut s.key tile) c.self.view_is own)
