use Rattle.std.proofs.Common.{◌≤◌, ◌-◌, length, take}
use Rattle.tex_world.specs.Stream.{Appends}
use Rattle.tex_make.proofs.tiles.put_bytes.Given as goal

abbrev pub invariant-parts : goal.invariant-parts
invariant-parts g l = record {
  inside : l.at ≤ length l.bytes;
  written : Appends (take l.at l.bytes) (g.O.Sink.holds l.initial.out) (g.O.Sink.holds l.out);
  faults : g.O.Sink.faults l.initial.out ≤ g.O.Sink.faults l.out;
}

abbrev pub decreases-parts : goal.decreases-parts
decreases-parts g l = length l.bytes - l.at
