use Rattle.std.proofs.Common.{◌≡◌, ℕ, ◌+◌, ◌-◌, ◌*◌, ◌<◌, min, List, Some, length, get_or}
use Rattle.std.proofs.Common.{sym, ap, subst, ◌∙◌, arith}
use Rattle.std.proofs.lemmas.Grind.{common_steps}
use Rattle.tiff_format.specs.Texel.{plane_of}
use Rattle.tile_layout.specs.Cell.{bit_depth_of}
use Rattle.tile_layout.specs.Kept.{level_in}
use Rattle.tile_layout.specs.Level.{width_in}
use Rattle.tile_layout.specs.Plane.{plane_level}
use Rattle.tile_layout.specs.Texel.{FitDepth}
use Rattle.piece_samples.specs.Beyond.{IsBeyond}
use Rattle.tile_slots.specs.RowPart.{AreTexelOf, part_right}
use Rattle.tile_slots.proofs.PartTexels.{some_told, is_column, texel_told, texel_zero, low_told}
use Rattle.tile_slots.proofs.slots.Slots.fill.Goals as goal

pub returns-clause-told : goal.returns-clause-told
returns-clause-told g c = λ tells.
    let key = c.args.key in
    let level = level_in c.args.layout.now key.level in
    let held = g.W.World.files.held in
    let named = g.T.Handle.TapHandle.named c.args.h.now in
    let there = (g.met.T.Handle.TapHandle.honest c.args.h.now).real.held tells in
    let width : c.size-width.result.0 ≡ width_in c.args.layout.now key.level =
    ap (λ (t : ℕ × ℕ). t.0) c.size-width.ensures.value in
    let column = is_column c.args.x key.part c.size-width.result.0 c.min.result c.requires.part
    (omega (arith, width, c.requires.texel.across)) c.min.ensures in
    let same : length c.args.out.now ≡ level.shape.channels =
    c.requires.texel.channels ∙ sym c.channels-channels.ensures.first
    ∙ sym (c.channels-channels.ensures.value key.level c.requires.texel.stored) in
    rw (c.requires.key.file, c.requires.key.generation) (some_told
    (held named.file named.generation)
    (λ bytes. AreTexelOf bytes key c.args.x c.copy_texel.new.out) there
    (λ bytes is. texel_told c.args.x (key.part * 64) c.min.result level.shape.channels column
    c.read_samples.new.samples c.copy_texel.new.out (length c.args.out.now) same
    c.copy_texel.auto.out c.copy_texel.ensures bytes key.level key.row
    (low_told bytes c.args.layout.now 512 c.read_samples.new.samples
    (c.requires.layout bytes (rw (c.requires.key.file, c.requires.key.generation) is))
    c.in_ok-read_samples.ensures.low)
    (c.in_ok-read_samples.ensures.told bytes is)))

pub put-requires : goal.put-requires
put-requires g c =
    let fit : (bytes : List ℕ)
    → g.W.World.files.held c.args.key.file c.args.key.generation ≡ Some bytes
    → FitDepth (bit_depth_of bytes) c.of.result.samples =
    λ bytes told. rw c.of.ensures.samples (low_told bytes c.args.layout.now 512
    c.read_samples.new.samples (c.requires.layout bytes told) c.in_ok-read_samples.ensures.low) in
    grind (arith, common_steps, fit)

pub returns-clause-zeros : goal.returns-clause-zeros
returns-clause-zeros g c =
    let key = c.args.key in
    let level = level_in c.args.layout.now key.level in
    let len = (g.T.Handle.TapHandle.named c.args.h.now).len in
    let left = key.part * 64 in
    let width : c.size-width.result.0 ≡ width_in c.args.layout.now key.level =
    ap (λ (t : ℕ × ℕ). t.0) c.size-width.ensures.value in
    let column = is_column c.args.x key.part c.size-width.result.0 c.min.result c.requires.part
    (omega (arith, width, c.requires.texel.across)) c.min.ensures in
    let same : length c.args.out.now ≡ level.shape.channels =
    c.requires.texel.channels ∙ sym c.channels-channels.ensures.first
    ∙ sym (c.channels-channels.ensures.value key.level c.requires.texel.stored) in
    let right : left + c.min.result ≡ part_right c.args.layout.now key =
    ap (λ (n : ℕ). left + n) (c.min.ensures ∙ ap (λ (w : ℕ). min 64 (w - left)) width) in
    let beyond : ℕ → ℕ → ℕ → Type 0 = λ end i d.
    IsBeyond (plane_level level (plane_of level.shape d)) end len i key.row in
    texel_zero c.args.x left c.min.result level.shape.channels column c.read_samples.new.samples
    c.copy_texel.new.out (length c.args.out.now) same c.copy_texel.auto.out c.copy_texel.ensures
    (beyond (part_right c.args.layout.now key))
    (subst (λ (end : ℕ). (i d : ℕ) → i < c.min.result → d < level.shape.channels
    → beyond end (left + i) d
    → get_or c.read_samples.new.samples (i * level.shape.channels + d) 0 ≡ 0) right
    c.in_ok-read_samples.ensures.zeros)
