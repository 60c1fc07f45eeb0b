use Rattle.std.proofs.Common.{ap, ◌∙◌, sym, arith}
use Rattle.std.proofs.lemmas.List.{get_or-map, length-map}
use Rattle.tiff_format.specs.Shown.{shown as shown_dir}
use Rattle.tile_layout.specs.Kept.{AreDirsOf, kept_in, no_level}
use Rattle.tex_make.specs.Picture.{max_samples}
use Rattle.tex_make.specs.Stored.{samples_kept}
use Rattle.tex_make.proofs.Sources.{kept_same, samples_stored, holds_good, no_more}
use Rattle.tex_make.proofs.reading.read_picture.Goals as goal

pub returns-then-is_large-clause-told : goal.returns-then-is_large-clause-told
returns-then-is_large-clause-told g c = λ bytes told.
    let dirs = c.in-Ok.dirs in
    let tells = c.in-Ok.ensures.told bytes told in
    let are : AreDirsOf bytes dirs = record { order = tells.1; levels = tells.2 } in
    let some = dirs.chain.some in
    let first = get_or-map shown_dir dirs.levels.items 0 c.index.result.now no_level
    (omega (arith, some, length-map dirs.levels.items shown_dir)) in
    let samples = samples_stored (kept_in dirs) (shown_dir c.index.result.now) some
    (first ∙ ap shown_dir (sym c.index.ensures)) in
    let large = c.is_large.ensures.0 c.if-is_large.true in
    record {
      good = tells.0;
      large = omega (arith, large, samples, ap samples_kept (kept_same bytes dirs are));
    }

pub returns-in-Ok-read_pyramid-clause-small : goal.returns-in-Ok-read_pyramid-clause-small
returns-in-Ok-read_pyramid-clause-small g c =
    let dirs = c.in-Ok.dirs in
    let some = dirs.chain.some in
    let first = get_or-map shown_dir dirs.levels.items 0 c.index.result.now no_level
    (omega (arith, some, length-map dirs.levels.items shown_dir)) in
    let samples = samples_stored (kept_in dirs) (shown_dir c.index.result.now) some
    (first ∙ ap shown_dir (sym c.index.ensures)) in
    let few = no_more c.is_large.result max_samples _ c.is_large.ensures.1 c.if-is_large.false in
    omega (arith, few, samples, c.in-Ok-read_pyramid.ensures.small)

pub returns-in-Ok-read_pyramid-clause-told : goal.returns-in-Ok-read_pyramid-clause-told
returns-in-Ok-read_pyramid-clause-told g c = λ bytes told.
    let dirs = c.in-Ok.dirs in
    let tells = c.in-Ok.ensures.told bytes told in
    let are : AreDirsOf bytes dirs = record { order = tells.1; levels = tells.2 } in
    let kept = kept_same bytes dirs are in
    let some = dirs.chain.some in
    let first = get_or-map shown_dir dirs.levels.items 0 c.index.result.now no_level
    (omega (arith, some, length-map dirs.levels.items shown_dir)) in
    let samples = samples_stored (kept_in dirs) (shown_dir c.index.result.now) some
    (first ∙ ap shown_dir (sym c.index.ensures)) in
    let few = no_more c.is_large.result max_samples _ c.is_large.ensures.1 c.if-is_large.false in
    let still = g.met.B.ByteReader.lawful.same_bytes _ _ c.in-Ok.ensures.reader in
    record {
      source = record { good = tells.0; small = omega (arith, few, samples, ap samples_kept kept) };
      alike = c.in-Ok-read_pyramid.ensures.told bytes (still ∙ told) are
          (holds_good bytes (kept_in dirs) kept tells.0);
    }

pub returns-in-Err-Reader-read_pyramid-clause-reader :
    goal.returns-in-Err-Reader-read_pyramid-clause-reader
returns-in-Err-Reader-read_pyramid-clause-reader g c =
    let left = rw c.in-Err-Reader-read_pyramid.field-0-is at c.in-Err-Reader-read_pyramid.ensures.reader in (
      left.0,
      g.met.B.ByteReader.lawful.chains _ _ _ c.in-Ok.ensures.reader left.1,
      left.2,
    )
