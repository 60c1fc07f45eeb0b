use Rattle.std.proofs.Common.{map}
use Rattle.std.specs.String.{string_bytes}
use Rattle.clap.specs.Words.{app_of}
use Rattle.command_line.proofs.InvocationLemmas.{takes_matches, takes_none}
use Rattle.command_line.proofs.invocation.taken.Goals as goal

pub returns-in-Ok : goal.returns-in-Ok
returns-in-Ok c =
    takes_matches (app_of c.args.command) (map string_bytes c.args.words.now) c.requires
    c.in-Ok.matches c.in-Ok.ensures.kinds c.in-Ok.ensures.matches

pub returns-in-Err : goal.returns-in-Err
returns-in-Err c =
    rw c.refused.ensures
    (takes_none (app_of c.args.command) (map string_bytes c.args.words.now) c.requires
    c.in-Err.error c.in-Err.ensures.kinds)
