use Rattle.rect_read.proofs.reading.RectReader.read_piece.Goals as goal

pub returns-then-lies_below-clause-told : goal.returns-then-lies_below-clause-told
returns-then-lies_below-clause-told g c = λ bytes told level right windows is lies holds.
    c.read_span.ensures.told bytes told level right (c.in_ok-ready.ensures.told bytes windows) is
    lies
