use Rattle.std.proofs.Common.{◌≡◌, ◌+◌, ◌<◌, Some, slice_index, ap, sym, subst, ◌∙◌, arith}
use Rattle.std.proofs.lemmas.Bool.{false≢true}
use Rattle.std.proofs.lemmas.List.{get_or_default}
use Rattle.tile_store.specs.Keys.{key_in, chain_of}
use Rattle.tile_store.proofs.KeyLemmas.{is_key_true, is_key_same}
use Rattle.tile_store.proofs.ChainLemmas.{Along, start, node_low, named_low, before_end, before_key, step, before_last}
use Rattle.tile_store.proofs.keys.before.Goals as goal
use Rattle.tile_store.proofs.keys.before.Goals.{then-slot-slots-via-then-slot-slots, then-slot-slots-via-else-slot-slots+then-is_key}

pub along-init : goal.along-init
along-init c =
    let key = c.args.key in
    let own = c.chain_of.ensures.value ∙ ap (λ n. chain_of n key) c.chains_for.ensures in
    subst (λ n. Along c.args.keys.now c.args.next.now c.args.slots key (c.args.slots + n) 0) (sym own)
    (start c.args.keys.now c.args.next.now c.args.slots c.requires key)

pub offset_bounds-next-node : goal.offset_bounds-next-node
offset_bounds-next-node c =
    let low = node_low c.args.keys.now c.args.next.now c.args.slots c.requires c.args.key c.along.node c.along.invariant.come in
    omega arith

pub bounds-next-node : goal.bounds-next-node
bounds-next-node c =
    node_low c.args.keys.now c.args.next.now c.args.slots c.requires c.args.key c.along.node c.along.invariant.come

pub bounds-keys-slot : goal.bounds-keys-slot
bounds-keys-slot c =
    subst (λ n. slice_index c.args.next.now c.along.node < n) (sym c.requires.size)
    (named_low c.args.keys.now c.args.next.now c.args.slots c.requires c.args.key c.along.node
    c.along.invariant.come c.if-slot-slots.false)

pub returns-then-slot-slots-clause-before : goal.returns-then-slot-slots-clause-before
returns-then-slot-slots-clause-before c =
    let keys = c.args.keys.now in
    let next = c.args.next.now in
    let come = c.along.invariant.come in
    elim c.then-slot-slots.branch [
      | then-slot-slots-via-then-slot-slots w ↦
          before_end keys next c.args.slots c.requires c.args.key c.along.node come w.if-slot-slots.true
      | then-slot-slots-via-else-slot-slots+then-is_key w ↦
          let low = named_low keys next c.args.slots c.requires c.args.key c.along.node come w.if-slot-slots.false in
          let size = c.requires.size in
          before_key keys next c.args.slots c.requires c.args.key c.along.node come w.if-slot-slots.false
          (sym (w.index-keys-slot.is ∙ get_or_default keys (slice_index next c.along.node) _ _ (omega arith))
          ∙ is_key_true c.args.key w.index-keys-slot.result (sym w.is_key.ensures ∙ w.if-is_key.true))
    ]

pub returns-then-slot-slots-clause-low : goal.returns-then-slot-slots-clause-low
returns-then-slot-slots-clause-low c =
    node_low c.args.keys.now c.args.next.now c.args.slots c.requires c.args.key c.along.node c.along.invariant.come

pub along-preserved : goal.along-preserved
along-preserved c =
    let keys = c.args.keys.now in
    let next = c.args.next.now in
    let come = c.along.invariant.come in
    let low = named_low keys next c.args.slots c.requires c.args.key c.along.node come c.if-slot-slots.false in
    let size = c.requires.size in
    step keys next c.args.slots c.requires c.args.key c.along.node come c.along._step c.along.invariant.steps_are
    c.if-slot-slots.false
    (λ (has : key_in keys (slice_index next c.along.node) ≡ Some c.args.key).
    false≢true (sym c.if-is_key.false ∙ c.is_key.ensures ∙ is_key_same c.args.key _
    (c.index-keys-slot.is ∙ get_or_default keys (slice_index next c.along.node) _ _ (omega arith) ∙ has)))

pub returns-clause-before : goal.returns-clause-before
returns-clause-before c =
    let all = c.along-test.false in
    let steps = c.along.invariant.steps_are in
    before_last c.args.keys.now c.args.next.now c.args.slots c.requires c.args.key c.along.node
    c.along.invariant.come (omega arith)

pub returns-clause-low : goal.returns-clause-low
returns-clause-low c =
    node_low c.args.keys.now c.args.next.now c.args.slots c.requires c.args.key c.along.node c.along.invariant.come
