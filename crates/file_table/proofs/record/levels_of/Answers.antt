-- Each level is known.
use Rattle.std.proofs.Common.{arith}
use Rattle.file_table.proofs.KnownLevels.{one_more_level}
use Rattle.file_table.proofs.record.levels_of.Goals as goal

pub grid-requires-clause-level : goal.grid-requires-clause-level
grid-requires-clause-level c =
    c.levels-count.ensures.has c.loop-level.level c.loop-level-test.true

pub loop-level-preserved : goal.loop-level-preserved
loop-level-preserved c = record {
  count = omega (arith, c.in_ok-push.ensures.len, c.loop-level.invariant.count);
  each = one_more_level c.args.file c.args.generation c.args.cut c.args.layout.now
      c.loop-level.levels.items _ _
      c.loop-level.level c.in_ok-push.ensures.items c.loop-level.invariant.count
      c.loop-level.invariant.each (record {
        grid = c.grid.ensures.value;
        first = c.first_key.ensures.first;
        key = c.first_key.ensures.parts;
        channels = c.channels.ensures.first;
        samples = c.channels.ensures.in_range;
        depth = c.depth.ensures.first;
      });
}
