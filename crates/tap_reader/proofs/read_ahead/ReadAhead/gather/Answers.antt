use Rattle.std.proofs.Common.{◌≡◌, ℕ, List, rules, sym}
use Rattle.tex_world.specs.World.{Files}
use Rattle.tap_reader.specs.ReadAhead.{AreStretchesOf, AheadState, IsOf}
use Rattle.tap_reader.specs.declared.stretch.Stretch.{Stretch}
use Rattle.tap_reader.proofs.read_ahead.ReadAhead.gather.Goals as goal

-- two that are of one file and generation, seen from inside
same_inside : (own other own_view other_view : AheadState) → own ≡ own_view → other ≡ other_view
    → IsOf own_view.file own_view.generation other_view → IsOf own.file own.generation other
same_inside own other own_view other_view is_own is_other of = rw (is_own, is_other) of

-- the stretches of a file, by other names of its number and its generation
of_same : (files : Files) (stretches : List Stretch) (f g f' g' : ℕ) → f ≡ f' → g ≡ g'
    → AreStretchesOf files f g stretches → AreStretchesOf files f' g' stretches
of_same files stretches f g f' g' file generation are = rw (← file, ← generation) are

pub invariant_of-self : goal.invariant_of-self
invariant_of-self g c =
    let files = g.W.World.files in
    let own = c.self.inside in
    let of = same_inside _ _ _ _ c.self.view_is c.other.view_is c.requires in
    let told = of_same files c.other.inside.stretches.items _ _ _ _ of.of_file of.of_generation
    c.other.invariant.told in
    let longer = c.put_longer_first.ensures files own.file own.generation c.self.invariant.told told in
    let later = c.take_later.ensures files own.file own.generation longer.0 longer.1 in
    record { few = search rules; told = later.0 }

pub invariant_of-other : goal.invariant_of-other
invariant_of-other g c =
    let files = g.W.World.files in
    let own = c.self.inside in
    let of = same_inside _ _ _ _ c.self.view_is c.other.view_is c.requires in
    let told = of_same files c.other.inside.stretches.items _ _ _ _ of.of_file of.of_generation
    c.other.invariant.told in
    let longer = c.put_longer_first.ensures files own.file own.generation c.self.invariant.told told in
    let later = c.take_later.ensures files own.file own.generation longer.0 longer.1 in
    record {
      few = search rules;
      told = of_same files c.take_later.new.other.items _ _ _ _ (sym of.of_file)
          (sym of.of_generation) later.1;
    }
