use Rattle.std.proofs.Common.{◌≡◌, take}
use Rattle.tex_world.specs.Plan.{entries_of}
use Rattle.tex_world.proofs.plan_entry.entries_of.Given as goal

-- The entries so far that name the tap.
abbrev pub invariant-loop-entry : goal.invariant-loop-entry
invariant-loop-entry g l =
    l.named.items ≡ entries_of g.E.PlanEntry.tap_of (take l.entry-index l.entries) l.tap
