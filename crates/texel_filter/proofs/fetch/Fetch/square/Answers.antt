use Rattle.std.proofs.Common.{arith, ◌∙◌}
use Rattle.texel_filter.specs.Image.{texel_of}
use Rattle.texel_filter.proofs.CallLemmas.{left_by_four, first_of_part, on_ok}
use Rattle.texel_filter.proofs.fetch.Fetch.square.Goals as goal

pub returns-clause-left : goal.returns-clause-left
returns-clause-left g c =
    let q = c.args.square.now in
    left_by_four g.Self.Fetch.leaves g.Self.Fetch.refuses c.args.self.now c.texel.new.self
    c.texel-2.new.self c.texel-3.new.self c.texel-4.new.self (texel_of q.level q.left q.top)
    (texel_of q.level q.right q.top) (texel_of q.level q.left q.bottom)
    (texel_of q.level q.right q.bottom) c.texel-4.result c.in_ok-texel.ensures.ok
    c.in_ok-texel-2.ensures.ok c.in_ok-texel-3.ensures.ok c.texel-4.ensures.ok c.texel-4.ensures.err

pub returns-clause-told : goal.returns-clause-told
returns-clause-told g c = λ values is.
    let law = g.met.Self.Fetch.lawful in
    let q = c.args.square.now in
    let t1 = texel_of q.level q.left q.top in
    let t2 = texel_of q.level q.right q.top in
    let t3 = texel_of q.level q.left q.bottom in
    let s1 = c.texel.new.self in
    let s2 = c.texel-2.new.self in
    let k1 = law.same_values c.args.self.now s1 t1 c.in_ok-texel.ensures.ok ∙ is in
    let k2 = law.same_values s1 s2 t2 c.in_ok-texel-2.ensures.ok ∙ k1 in
    let k3 = law.same_values s2 c.texel-3.new.self t3 c.in_ok-texel-3.ensures.ok ∙ k2 in
    let h1 = c.in_ok-texel.ensures.told values is in
    let h2 = c.in_ok-texel-2.ensures.told values k1 in
    let h3 = c.in_ok-texel-3.ensures.told values k2 in
    let h4 = c.texel-4.ensures.told values k3 in
    on_ok c.texel-4.result h4 (λ last. record {
      left_top = first_of_part _ c.texel.new.out _ c.args.channels (omega arith) h1;
      right_top = first_of_part _ c.texel-2.new.out _ c.args.channels (omega arith) h2;
      left_bottom = first_of_part _ c.texel-3.new.out _ c.args.channels (omega arith) h3;
      right_bottom = first_of_part _ c.texel-4.new.out _ c.args.channels (omega arith) last;
    })
