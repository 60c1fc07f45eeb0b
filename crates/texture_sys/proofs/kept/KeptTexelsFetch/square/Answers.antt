-- One cell serves all four texels, or four calls of `texel` follow one another.
use Rattle.std.proofs.Common.{ℕ, Some, ap, arith, ◌∙◌, inl, inr, refl, subst}
use Rattle.std.proofs.lemmas.Result.{err_from_is_err_and}
use Rattle.file_table.specs.Record.{RecordState}
use Rattle.texel_filter.specs.Image.{texel_of}
use Rattle.texel_filter.proofs.CallLemmas.{first_of_part, on_ok}
use Rattle.tile_source.specs.Pass.{counted}
use Rattle.image_cache.specs.Square.{AreShown}
use Rattle.image_cache.specs.Sizes.{values_known}
use Rattle.texture_sys.specs.Fetches.{Walk, walk_of}
use Rattle.texture_sys.proofs.LookLemmas.{by_result}
use Rattle.texture_sys.proofs.Shown.{shows_at, four_reads}
use Rattle.texture_sys.proofs.kept.KeptTexelsFetch.square.Goals as goal

pub returns-in-Some-clause-left : goal.returns-in-Some-clause-left
returns-in-Some-clause-left g c =
    let s = c.args.self.now in
    let k = s.picture.now in
    let q = c.args.square.now in
    let key : ℕ = c.in-Some.key in
    let shown : AreShown k q s.pass.now.pinned.recent key =
    subst (λ (r : RecordState). AreShown r q s.pass.now.pinned.recent key) c.record.ensures.value
    c.in-Some.ensures.each in
    let one = record s { reads = counted s.reads; latest = Some key } in
    let two = record one { reads = counted one.reads } in
    let three = record two { reads = counted two.reads } in
    let w0 : Walk = walk_of s.pass.now s.reads s.latest in
    let w1 : Walk = walk_of s.pass.now one.reads (Some key) in
    let w2 : Walk = walk_of s.pass.now two.reads (Some key) in
    let w3 : Walk = walk_of s.pass.now three.reads (Some key) in
    let w4 : Walk = walk_of s.pass.now c.saturating_add-self.result (Some key) in (
      one,
      (refl, shows_at k w0 w1 (texel_of q.level q.left q.top) key shown.left_top_shown refl refl refl),
      (
        two,
        (refl, shows_at k w1 w2 (texel_of q.level q.right q.top) key shown.right_top_shown refl refl refl),
        (
          three,
          (refl, shows_at k w2 w3 (texel_of q.level q.left q.bottom) key shown.left_bottom_shown refl refl refl),
          (
            _,
            (
              refl,
              shows_at k w3 w4 (texel_of q.level q.right q.bottom) key shown.right_bottom_shown refl
                  (four_reads s.reads c.saturating_add-self.result c.saturating_add-self.ensures) refl,
            ),
            refl,
          ),
        ),
      ),
    )

pub returns-in_err-texel-2-clause-left : goal.returns-in_err-texel-2-clause-left
returns-in_err-texel-2-clause-left g c =
    let p = err_from_is_err_and c.from_residual-in_err-texel-2.result
    c.from_residual-in_err-texel-2.ensures.1 in
    rw (p.1, p.2)
    (inr (c.texel.new.self, c.in_ok-texel.ensures.ok, inl c.in_err-texel-2.ensures.err))

pub returns-in_err-texel-3-clause-left : goal.returns-in_err-texel-3-clause-left
returns-in_err-texel-3-clause-left g c =
    let p = err_from_is_err_and c.from_residual-in_err-texel-3.result
    c.from_residual-in_err-texel-3.ensures.1 in
    rw (p.1, p.2)
    (inr (
      c.texel.new.self,
      c.in_ok-texel.ensures.ok,
      inr (c.texel-2.new.self, c.in_ok-texel-2.ensures.ok, inl c.in_err-texel-3.ensures.err),
    ))

pub returns-clause-left : goal.returns-clause-left
returns-clause-left g c = by_result c.texel-4.result
    (λ done is. rw is (
      c.texel.new.self,
      c.in_ok-texel.ensures.ok,
      (
        c.texel-2.new.self,
        c.in_ok-texel-2.ensures.ok,
        (
          c.texel-3.new.self,
          c.in_ok-texel-3.ensures.ok,
          (c.texel-4.new.self, rw is at c.texel-4.ensures.ok, refl),
        ),
      ),
    ))
    (λ e is. rw is (inr (
      c.texel.new.self,
      c.in_ok-texel.ensures.ok,
      inr (
        c.texel-2.new.self,
        c.in_ok-texel-2.ensures.ok,
        inr (
          c.texel-3.new.self,
          c.in_ok-texel-3.ensures.ok,
          inl (rw is at c.texel-4.ensures.err),
        ),
      ),
    )))

pub returns-clause-told : goal.returns-clause-told
returns-clause-told g c = λ values is.
    let files = g.T.W.World.files in
    let k1 = ap (values_known files) c.in_ok-texel.ensures.ok.0 ∙ is in
    let k2 = ap (values_known files) c.in_ok-texel-2.ensures.ok.0 ∙ k1 in
    let k3 = ap (values_known files) c.in_ok-texel-3.ensures.ok.0 ∙ k2 in
    let h1 = c.in_ok-texel.ensures.told values is in
    let h2 = c.in_ok-texel-2.ensures.told values k1 in
    let h3 = c.in_ok-texel-3.ensures.told values k2 in
    let h4 = c.texel-4.ensures.told values k3 in
    on_ok c.texel-4.result h4 (λ last. record {
      left_top = first_of_part _ c.texel.new.out _ c.args.channels (omega arith) h1;
      right_top = first_of_part _ c.texel-2.new.out _ c.args.channels (omega arith) h2;
      left_bottom = first_of_part _ c.texel-3.new.out _ c.args.channels (omega arith) h3;
      right_bottom = first_of_part _ c.texel-4.new.out _ c.args.channels (omega arith) last;
    })
