-- What does a tap of a real folder count, and what does a failed read name?
use Rattle.std.specs.Prelude.{◌≡◌, ◌+◌, ◌<◌, min, ⊤}
use Rattle.tex_world.specs.Counts.{last_count}
use Rattle.tex_world.specs.World.{IsReal}
use Rattle.tex_world.specs.Tap.{TapState, Named}
use Rattle.tex_world.specs.TapCounters.{counted}
use Rattle.tex_world.specs.declared.fault.ReadError.{ReadError}
use Rattle.tex_world.specs.declared.fault.ReadError.TheVariants.{Failed, Gone}
use Rattle.host_folder.specs.RealWorld.{untold_files}
use Rattle.host_folder.specs.declared.tap.RealTap.{RealTap}

-- the counts, and the last answer of a newest generation
abbrev pub tap_state : {R : Type 0} → RealTap R → TapState
tap_state tap = counted tap.counters

-- the tap has checked a file twice; a count at its greatest value stays there
abbrev pub LooksTwice : {R : Type 0} → RealTap R → RealTap R → Type 0
LooksTwice old new = new.looks ≡ min (old.looks + 2) last_count
