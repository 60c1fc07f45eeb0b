use Rattle.tiff_entries.proofs.Covering.{noted_here, noted_past}
use Rattle.tiff_entries.proofs.found.Found.note.Goals as goal
use Rattle.tiff_entries.proofs.found.Found.note.Goals.{then-tag-t, else-tag-t}

pub loop-t-preserved : goal.loop-t-preserved
loop-t-preserved c =
    let old = c.args.self.now.entries in
    let mid = c.loop-t.self.entries in
    elim c.if-tag-t.branch [
      | then-tag-t w ↦ rw (w.self-is, w.or.ensures)
          (noted_here c.args.tag c.args.entry c.loop-t.t old mid c.loop-t.invariant
          c.loop-t-test.true w.if-tag-t.true)
      | else-tag-t w ↦ rw w.self-is
          (noted_past c.args.tag c.args.entry c.loop-t.t old mid
          c.loop-t.invariant w.if-tag-t.false)
    ]
