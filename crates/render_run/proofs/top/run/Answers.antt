use Rattle.std.proofs.Common.{rules}
use Rattle.render_run.specs.Around.{Around, feed_state, around_of}
use Rattle.answer_page.specs.Page.{sink_state}
use Rattle.render_run.specs.RunError.{asked_by}
use Rattle.render_run.specs.Run.{Runs}
use Rattle.render_run.proofs.Completing.{completes}
use Rattle.render_run.proofs.Endings.{ended_runs}
use Rattle.render_run.proofs.Folders.{answered_runs}
use Rattle.render_run.proofs.top.run.Goals as goal

pub returns-in-Ok : goal.returns-in-Ok
returns-in-Ok g c =
    let files = g.F.W.World.files in
    let asked = asked_by c.args.words.now in
    let feed = feed_state g.I.Feed.faults g.I.Feed.left c.args.feed.now in
    let read = feed_state g.I.Feed.faults g.I.Feed.left c.prepare.new.feed in
    let sink = sink_state g.O.Sink.faults g.O.Sink.holds c.args.out.now in
    let left = sink_state g.O.Sink.faults g.O.Sink.holds c.answer_through_taps.new.out in
    let old : Around = around_of (g.F.Folder.state c.args.folder.now) feed sink in
    let new : Around = around_of (g.F.Folder.state c.answer_through_taps.new.folder) read left in
    let runs : Runs files asked old new c.status_of.result =
    answered_runs files asked c.in-Ok.asked.options
    (g.F.Folder.state c.args.folder.now) (g.F.Folder.state c.prepare.new.folder)
    (g.F.Folder.state c.answer_through_taps.new.folder) feed read sink left
    c.in-Ok.asked.requests.items c.in-Ok.ensures.options c.in-Ok.ensures.prepared
    c.in-Ok.ensures.taps c.answer_through_taps.ensures.taps c.answer_through_taps.result
    c.answer_through_taps.ensures.left c.answer_through_taps.ensures.made c.status_of.result
    c.status_of.ensures in
    record {
      runs = runs;
      complete = λ tells has calm.
          completes files asked old new tells has calm c.status_of.result runs;
    }

pub returns-in-Err : goal.returns-in-Err
returns-in-Err g c =
    let files = g.F.W.World.files in
    let asked = asked_by c.args.words.now in
    let old : Around = around_of (g.F.Folder.state c.args.folder.now)
    (feed_state g.I.Feed.faults g.I.Feed.left c.args.feed.now)
    (sink_state g.O.Sink.faults g.O.Sink.holds c.args.out.now) in
    let new : Around = around_of (g.F.Folder.state c.prepare.new.folder)
    (feed_state g.I.Feed.faults g.I.Feed.left c.prepare.new.feed)
    (sink_state g.O.Sink.faults g.O.Sink.holds c.put_ending.new.out) in
    let runs : Runs files asked old new c.put_ending.result =
    ended_runs _ _ _ _ _ (search rules) c.in-Err.ending c.in-Err.ensures.ended
    c.put_ending.ensures in
    record {
      runs = runs;
      complete = λ tells has calm.
          completes files asked old new tells has calm c.put_ending.result runs;
    }
