-- One lookup is answered as it is, and a batch lookup by lookup.
use Rattle.std.proofs.Common.{arith}
use Rattle.texel_filter.specs.Image.{image_of}
use Rattle.texel_filter.proofs.CallLemmas.{on_ok}
use Rattle.texture_sys.proofs.BatchLemmas.{alone_ok}
use Rattle.texture_sys.proofs.LookLemmas.{one_told}
use Rattle.texture_sys.proofs.asking.lookups_for.Goals as goal

pub returns-in-One-clause-told : goal.returns-in-One-clause-told
returns-in-One-clause-told g c = λ v is.
    let count = rw c.in-One.is at c.requires.count in
    rw c.in-One.is (alone_ok _ c.lookup_for.result c.alone.result c.alone.ensures.whole
    (on_ok c.lookup_for.result (c.lookup_for.ensures.told v is)
    (λ are. one_told (image_of (g.F.Fetch.sizes c.args.f.now) v) c.in-One.r c.lookup_for.new.out
    (omega (arith, count)) are)))

pub returns-in-Many-clause-part : goal.returns-in-Many-clause-part
returns-in-Many-clause-part g c = λ v is. rw c.in-Many.is (c.many_for.ensures.part v is)
