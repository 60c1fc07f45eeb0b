-- All values are those that were written.
use Rattle.std.proofs.Common.{◌≡◌, ◌∙◌, ℕ, List, sym, ap, subst, length}
use Rattle.texel_values.specs.Area.{IsZeroBeside, IsPainted}
use Rattle.image_cache.proofs.FillLemmas.{written_whole}
use Rattle.tile_source.proofs.SourceLemmas.{reads_by, no_reads}
use Rattle.image_cache.proofs.pixels.values_of.Goals as goal

pub returns-clause-beside : goal.returns-clause-beside
returns-clause-beside g c =
    let items = c.in_ok-values.values.items in
    let new = c.fill.new.values in
    let given : c.as_mut_slice.result.now ≡ items = c.as_mut_slice.ensures.value in
    let whole = written_whole new items c.in_ok-values.values.len
    (c.fill.ensures.long ∙ ap length given) (ap length (sym given) ∙ c.as_mut_slice.ensures.len) in
    subst (λ (l : List ℕ). IsZeroBeside c.args.area.now l) (sym whole)
    (c.fill.ensures.beside (subst (λ (l : List ℕ). IsZeroBeside c.args.area.now l) (sym given)
    c.in_ok-values.ensures.zero))

pub returns-clause-value : goal.returns-clause-value
returns-clause-value g c bytes held =
    let items = c.in_ok-values.values.items in
    let new = c.fill.new.values in
    let given : c.as_mut_slice.result.now ≡ items = c.as_mut_slice.ensures.value in
    let whole = written_whole new items c.in_ok-values.values.len
    (c.fill.ensures.long ∙ ap length given) (ap length (sym given) ∙ c.as_mut_slice.ensures.len) in
    subst (λ (l : List ℕ). IsPainted bytes c.args.area.now l) (sym whole)
    (c.in_ok-fill.ensures.value bytes held)

pub returns-in_err-values-clause-left : goal.returns-in_err-values-clause-left
returns-in_err-values-clause-left g c =
    reads_by _ c.from_residual.ensures.1 (no_reads c.know.ensures.few tt)
