-- What is held after the tile of a cell was taken in hand?
use Rattle.std.proofs.Common.{◌≡◌, ◌≤◌, inl, inr, sym, subst, slice_index, ℕ, ◌++◌, ◌∷◌, [], List, Result, Ok, Err, Option, Some, None, ap, ◌∙◌}
use Rattle.std.specs.Prelude.{IsOkAnd, IsSomeAnd, IfSome}
use Rattle.tex_world.specs.World.{Files}
use Rattle.tiff_format.specs.declared.fault.TiffFault.{TiffFault}
use Rattle.tiff_format.specs.declared.cut.Cut.{Cut}
use Rattle.tile_layout.specs.Kept.{Kept}
use Rattle.tile_layout.specs.Cell.{CellsFit}
use Rattle.tile_store.specs.Tile.{CachedTile}
use Rattle.shard_gate.specs.Gate.{IsTileOf}
use Rattle.file_table.specs.Record.{RecordState, IsRecord}
use Rattle.texel_values.specs.declared.texel_at.TexelAt.{TexelAt}
use Rattle.pinned_tiles.specs.declared.cell.CellAt.{CellAt}
use Rattle.std.specs.Result.{IsErrAnd}
use Rattle.tex_world.specs.declared.tap.Tap as a_tap
use Rattle.tex_world.specs.declared.tap.TapHandle as a_handle
use Rattle.waiter.specs.declared.waiting.Waiter as a_waiter
use Rattle.tex_world.specs.Tap.{TapState}
use Rattle.gen_board.specs.View.{ViewState, KeepsLooks}
use Rattle.shard_gate.specs.Gate.{PinSeatState}
use Rattle.shard_gate.specs.Since.{PurgesNone}
use Rattle.file_table.specs.Calls.{KeepsView}
use Rattle.tile_source.specs.declared.error.CacheError.{CacheError}
use Rattle.tile_source.specs.declared.source.TileSource.{TileSource}
use Rattle.tile_source.specs.Pass.{KeepsAllBut, its_holds}
use Rattle.tile_source.specs.Call.{NoneFalls}
use Rattle.tile_source.specs.Source.{IsSameCall, Makes, refusal, moment}
use Rattle.tile_source.proofs.SourceLemmas.{refused_by, none_of, counts_then}
use Rattle.image_cache.specs.Hold.{TakesHold, HoldsOn}
use Rattle.tile_source.specs.Pass.{PassState}
use Rattle.tile_source.specs.Texel.{IsTexelOf, IsCellAt, cell_of}
use Rattle.image_cache.specs.Call.{HoldsCell}
use Rattle.tile_source.proofs.NeedLemmas.{told_rect}

-- a fact of the layout of a valid record
by_layout : (P Q R : Kept → Type 0) (layout : Result Kept TiffFault)
    → ((kept : Kept) → P kept → Q kept → R kept) → IsOkAnd layout P → IsOkAnd layout Q
    → IsOkAnd layout R
by_layout P Q R (Ok kept) use_of p q = use_of kept p q
by_layout P Q R (Err fault) use_of p q = absurd p

-- a tile that was taken in hand is held
pub takes_hold : (files : Files) (cut : Cut) (key : ℕ) (old mid new : PassState)
    → mid.pinned.holds ≡ old.pinned.holds → IsSomeAnd mid.pinned.hand (IsTileOf files cut key)
    → IfSome mid.pinned.hand (λ t. new.pinned.holds ≡ mid.pinned.holds ++ t ∷ [])
    → TakesHold files cut key old new
takes_hold files cut key old mid new same taken held = of_hand mid.pinned.hand taken held
  where
    of_hand : (hand : Option CachedTile) → IsSomeAnd hand (IsTileOf files cut key)
        → IfSome hand (λ t. new.pinned.holds ≡ mid.pinned.holds ++ t ∷ [])
        → TakesHold files cut key old new
    of_hand None taken held = absurd taken
    of_hand (Some tile) taken held = record {
      tile = tile;
      held = held ∙ ap (λ (ts : List CachedTile). ts ++ tile ∷ []) same;
      is = taken;
    }

module _ (files : Files) (r : RecordState) (at : TexelAt) (cell : CellAt) (old new : PassState)
    (honest : IsRecord files r)
    (ok : IsOkAnd r.layout (λ kept. CellsFit kept r.cut × IsTexelOf kept r.cut at))
    (is : IsCellAt r at cell) where
  pub holds_cell : (cut : Cut) → r.cut ≡ cut → TakesHold files cut cell.key old new
      → HoldsCell files at old new r
  holds_cell cut under takes =
      let taken : IsTileOf files r.cut cell.key takes.tile = rw under takes.is in
      record {
        tile = takes.tile;
        held = takes.held;
        fits = taken.fits;
        cell = by_layout (λ (kept : Kept). CellsFit kept r.cut × IsTexelOf kept r.cut at)
            (λ (kept : Kept). cell ≡ cell_of r.generation r.file r.cut kept at)
            (λ (kept : Kept). CellsFit kept r.cut × IsTexelOf kept r.cut at
            × (takes.tile.key ≡ (cell_of r.generation r.file r.cut kept at).key)) r.layout
            (λ kept both own.
            (both.0, both.1, taken.keyed ∙ ap (λ (c : CellAt). c.key) own)) ok is.is;
        rect = λ tells. by_layout
            (λ (kept : Kept). CellsFit kept r.cut × IsTexelOf kept r.cut at)
            (λ (kept : Kept). cell ≡ cell_of r.generation r.file r.cut kept at)
            (λ (kept : Kept). takes.tile.rect
            ≡ (cell_of r.generation r.file r.cut kept at).rect) r.layout
            (λ kept both own.
            told_rect files r cell takes.tile tells honest is.of taken.keyed taken.fits
            ∙ ap (λ (c : CellAt). c.rect) own) ok is.is;
      }

-- ---- steps

module _ {V T Busy W H : Type 0} {v : a_waiter.Ghosts V Busy} {t : a_tap.Ghosts T W H}
    {h : a_handle.Ghosts H W} where
  pub holds_refused : {files : Files} {a b : TileSource V T Busy W H v t h} {A : Type 0}
      {e : CacheError Busy} (result : Result A (CacheError Busy)) → IsErrAnd result (λ x. x ≡ e)
      → Makes files a b (Some e)
      → HoldsOn files a.store.now.gate a.picture.now (moment a) (moment b) (refusal result)
  holds_refused {files} {a} {b} {A} {e} result is made =
      subst (λ (r : Option (CacheError Busy)).
      HoldsOn files a.store.now.gate a.picture.now (moment a) (moment b) r)
      (sym (refused_by result e is)) (record {
        cause = made.steps.left.cause;
        tap = made.steps.left.tap;
        step = record {
          place = made.steps.left.need.place;
          view = made.steps.left.need.view;
          looks = made.steps.left.need.looks;
          steps = made.steps.left.need.steps;
          latest = made.steps.left.need.latest;
        };
        recent = record { recent = made.recent; counts = made.counts };
        hand = elim made.empty [ inl none ↦ inl none | inr busy ↦ inr (inr busy) ];
        visits = made.steps.left.visits;
      })

  pub holds_kept : {files : Files} {a b c : TileSource V T Busy W H v t h} → Makes files a b None
      → IsSameCall b c → c.tap.now ≡ b.tap.now
      → c.pass.now.pinned.seat ≡ b.pass.now.pinned.seat → c.pass.now.view ≡ b.pass.now.view
      → KeepsAllBut its_holds b.pass.now c.pass.now → c.pass.now.pinned.hand ≡ None
      → HoldsOn files a.store.now.gate a.picture.now (moment a) (moment c) (none_of Busy)
  holds_kept {files} {a} {b} {c} made call tap seat view kept none =
      let first = made.steps.left in
      record {
        cause = tt;
        tap = subst (λ (s : TapState). NoneFalls (t.state a.tap.now) s) (sym (ap t.state tap))
            first.tap;
        step = record {
          place = record {
            board = kept.place.board ∙ first.need.place.board;
            gate = kept.place.gate ∙ first.need.place.gate;
            cut = kept.place.cut ∙ first.need.place.cut;
            permits = kept.place.permits ∙ first.need.place.permits;
            joined = kept.place.joined ∙ first.need.place.joined;
          };
          view = subst (λ (x : ViewState). KeepsView a.picture.now.file a.pass.now.view x) (sym view)
              first.need.view;
          looks = subst (λ (x : ViewState). KeepsLooks a.pass.now.view x) (sym view)
              first.need.looks;
          steps = subst (λ (x : ViewState). slice_index a.pass.now.view.steps a.picture.now.file
              ≤ slice_index x.steps a.picture.now.file) (sym view) first.need.steps;
          latest = kept.latest ∙ first.need.latest;
        };
        recent = record {
          recent = kept.tiles ∙ made.recent;
          counts = counts_then made.counts kept.counts;
        };
        hand = inl none;
        visits = subst (λ (s : PinSeatState). PurgesNone a.store.now.gate a.pass.now.pinned.seat s)
            (sym seat) first.visits;
      }
