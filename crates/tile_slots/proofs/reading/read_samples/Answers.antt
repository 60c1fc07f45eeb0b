use Rattle.std.proofs.Common.{◌≡◌, ◌*◌, ℕ, length, drop, ap, ◌∙◌, arith}
use Rattle.std.proofs.lemmas.List.{length-take-le}
use Rattle.tile_layout.specs.Kept.{level_in}
use Rattle.tile_slots.proofs.PartTexels.{row_told, row_zeros}
use Rattle.tile_slots.proofs.reading.read_samples.Goals as goal

pub returns-in-Ok-clause-told : goal.returns-in-Ok-clause-told
returns-in-Ok-clause-told g c = λ bytes told.
    let row = c.args.row.now in
    let layout = row.layout.now in
    let channels = (level_in layout row.level).shape.channels in
    let count = row.n * c.channels.result in
    let same : channels ≡ c.channels.result = c.channels.ensures.value row.level row.known.stored in
    let whole : row.n * channels ≡ count = ap (λ (k : ℕ). row.n * k) same in
    let long : length c.read_row.new.samples ≡ row.n * channels =
    c.read_row.auto.samples
    ∙ length-take-le count c.args.samples.now (omega (arith, whole, c.requires.room))
    ∙ omega (arith, whole) in
    row_told layout row.level row.x row.y row.n c.read_row.new.samples
    (drop count c.args.samples.now) long bytes (c.requires.layout bytes told) row.known.stored
    (c.in-Ok.ensures.told bytes told)

pub returns-in-Ok-clause-zeros : goal.returns-in-Ok-clause-zeros
returns-in-Ok-clause-zeros g c =
    let row = c.args.row.now in
    let layout = row.layout.now in
    let channels = (level_in layout row.level).shape.channels in
    let count = row.n * c.channels.result in
    let same : channels ≡ c.channels.result = c.channels.ensures.value row.level row.known.stored in
    let whole : row.n * channels ≡ count = ap (λ (k : ℕ). row.n * k) same in
    let long : length c.read_row.new.samples ≡ row.n * channels =
    c.read_row.auto.samples
    ∙ length-take-le count c.args.samples.now (omega (arith, whole, c.requires.room))
    ∙ omega (arith, whole) in
    row_zeros layout row.level row.x row.y row.n c.read_row.new.samples
    (drop count c.args.samples.now) long (g.T.Handle.TapHandle.named c.args.h.now).len
    c.in-Ok.ensures.zeros
