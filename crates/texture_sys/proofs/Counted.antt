-- What do the needs of a lookup count, when they follow one another?
use Rattle.std.proofs.Common.{◌≡◌, ◌≤◌, Bool, true, false, List, [], ◌∷◌, length, refl, subst}
use Rattle.std.proofs.Common.{Result, Ok, Err, arith}
use Rattle.std.specs.Prelude.{IfOk}
use Rattle.tex_world.specs.World.{Files}
use Rattle.tiff_format.specs.declared.fault.TiffFault.{TiffFault}
use Rattle.tile_layout.specs.Kept.{Kept}
use Rattle.file_table.specs.Record.{RecordState}
use Rattle.texel_filter.specs.Image.{Texel}
use Rattle.tile_source.specs.Pass.{PassState, counted_together, max_count}
use Rattle.tile_source.specs.Texel.{has_cell_at, cell_of}
use Rattle.tile_source.specs.Call.{CountsNeed, CountsOn, Needs, NoneUncached}
use Rattle.image_cache.proofs.FillLemmas.{needs_between, needs_chain, no_needs}
use Rattle.image_cache.specs.Fetches.{at_of}
use Rattle.texture_sys.specs.Needs.{lookup_keys_on, NeedsCells, AsksForEach, AsksForCells}

-- the counts fit 64 bits
pub record AreCounts (pass : PassState) : Type 0 where
  pub needs : pass.needs ≤ max_count
  pub hits : pass.hits ≤ max_count

-- A need lowers no count, and the counts still fit 64 bits.
pub record CountsFurther (old new : PassState) : Type 0 where
  pub on : CountsOn old new
  pub are : AreCounts new

pub need_counts : (hit : Bool) (old new : PassState) → AreCounts old → CountsNeed hit old new
    → old.apart ≤ new.apart → CountsFurther old new
need_counts true old new are need later = record {
  on = record {
    needs = omega (arith, need.needs, are.needs);
    hits = omega (arith, need.hits, are.hits);
    apart = later;
  };
  are = record { needs = omega (arith, need.needs); hits = omega (arith, need.hits) };
}
need_counts false old new are need later = record {
  on = record {
    needs = omega (arith, need.needs, are.needs);
    hits = omega (arith, need.hits);
    apart = later;
  };
  are = record { needs = omega (arith, need.needs); hits = omega (arith, need.hits, are.hits) };
}

pub counts_chain : (a b c : PassState) → CountsOn a b → CountsOn b c → CountsOn a c
counts_chain a b c first later = record {
  needs = omega (arith, first.needs, later.needs);
  hits = omega (arith, first.hits, later.hits);
  apart = omega (arith, first.apart, later.apart);
}

pub counts_none : (pass : PassState) → CountsOn pass pass
counts_none pass = record { needs = omega arith; hits = omega arith; apart = omega arith }

-- if no need was uncached in two steps, none was in either of them
none_first : (a b c : PassState) → a.apart ≤ b.apart → b.apart ≤ c.apart → NoneUncached a c
    → NoneUncached a b
none_first a b c first later none =
    record { same = omega (arith, first, later, none.same); low = none.low }

none_then : (a b c : PassState) → a.apart ≤ b.apart → b.apart ≤ c.apart → NoneUncached a c
    → NoneUncached b c
none_then a b c first later none = record {
  same = omega (arith, first, later, none.same);
  low = omega (arith, first, later, none.same, none.low);
}

module _ (files : Files) (state : RecordState) where
  -- one need is counted for each texel
  each_needs : (texels : List Texel) (old new : PassState) → AreCounts old
      → AsksForEach files state texels old new
      → new.needs ≡ counted_together old.needs (length texels)
  each_needs [] old new are (same, recent) = grind (arith, same.needs, are.needs)
  each_needs (t ∷ texels) old new are (mid, first, rest) =
      let counted = first.need.needs in
      let further = need_counts (has_cell_at state (at_of t) old.pinned.recent) old mid are
      first.need first.apart.later in
      let later = each_needs texels mid new further.are rest in
      grind (arith, counted, later)

  pub each_counts : (texels : List Texel) (old new : PassState) → AreCounts old
      → AsksForEach files state texels old new → CountsOn old new
  each_counts [] old new are (same, recent) = record {
    needs = omega (arith, same.needs);
    hits = omega (arith, same.hits);
    apart = omega (arith, same.apart);
  }
  each_counts (t ∷ texels) old new are (mid, first, rest) =
      let further = need_counts (has_cell_at state (at_of t) old.pinned.recent) old mid are
      first.need first.apart.later in
      counts_chain old mid new further.on (each_counts texels mid new further.are rest)

  -- the microcache was asked for the keys of the cells in order
  keys_in : (kept : Kept) → state.layout ≡ Ok kept → (texels : List Texel) (old new : PassState)
      → AreCounts old → NoneUncached old new → AsksForEach files state texels old new
      → Needs files (lookup_keys_on state.generation state.file state.cut kept texels) old new
  keys_in kept is [] old new are none (same, recent) =
      needs_between files [] old old old new refl (record { needs = refl; hits = refl; apart = refl })
      recent same (no_needs files old are.needs are.hits)
  keys_in kept is (t ∷ texels) old new are none (mid, first, rest) =
      let key = (cell_of state.generation state.file state.cut kept (at_of t)).key in
      let further = need_counts (has_cell_at state (at_of t) old.pinned.recent) old mid are
      first.need first.apart.later in
      let later = (each_counts texels mid new further.are rest).apart in
      needs_chain files (key ∷ [])
      (lookup_keys_on state.generation state.file state.cut kept texels) old mid new
      (subst (λ (layout : Result Kept TiffFault). IfOk layout (λ k. Needs files
      ((cell_of state.generation state.file state.cut k (at_of t)).key ∷ []) old mid)) is
      (first.needs (none_first old mid new first.apart.later later none)))
      (keys_in kept is texels mid new further.are
      (none_then old mid new first.apart.later later none) rest)

  each_keys : (texels : List Texel) (old new : PassState) → AreCounts old → NoneUncached old new
      → AsksForEach files state texels old new → NeedsCells files state texels old new
  each_keys texels old new are none each = by state.layout refl
    where
      by : (layout : Result Kept TiffFault) → state.layout ≡ layout
          → IfOk layout (λ kept. Needs files
          (lookup_keys_on state.generation state.file state.cut kept texels) old new)
      by (Ok kept) is = keys_in kept is texels old new are none each
      by (Err fault) is = tt

  pub asks_cells : (texels : List Texel) (old new : PassState) → AreCounts old
      → AsksForEach files state texels old new → AsksForCells files state texels old new
  asks_cells texels old new are each = record {
    each = each;
    needs = each_needs texels old new are each;
    keys = λ none. each_keys texels old new are none each;
  }
