use Rattle.std.proofs.Common.{◌≤◌, ◌*◌, ◌-◌, length}
use Rattle.texel_values.specs.Region.{max_texels}
use Rattle.render_run.specs.Dealing.{max_round_texels}
use Rattle.render_run.proofs.DealingLemmas.{DealtTo}
use Rattle.render_run.proofs.dealing.round_len.Given as goal

abbrev pub invariant-dealt : goal.invariant-dealt
invariant-dealt l = record {
  within : l.count ≤ length l.requests;
  few : l.texels ≤ max_round_texels;
  least : l.texels ≤ max_texels * l.count;
  so_far : DealtTo l.requests l.count l.texels;
}

abbrev pub decreases-dealt : goal.decreases-dealt
decreases-dealt l = length l.requests - l.count
