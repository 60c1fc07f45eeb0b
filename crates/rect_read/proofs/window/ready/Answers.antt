use Rattle.rect_read.proofs.Windows.{window_more}
use Rattle.rect_read.proofs.window.ready.Goals as goal

pub returns-in_ok-reserve-clause-told : goal.returns-in_ok-reserve-clause-told
returns-in_ok-reserve-clause-told c = λ bytes are.
    rw (c.push_reserved.ensures.items, c.in_ok-reserve.ensures.items)
    (window_more bytes c.args.windows.now.items c.new.result are (c.new.ensures bytes))
