use Rattle.std.proofs.Common.{ℕ, ◌≡◌, eqb, false, arith, ◌∙◌, sym}
use Rattle.std.proofs.lemmas.Bool.{false≢true}
use Rattle.std.proofs.lemmas.List.Elements.{All-from_get_or}
use Rattle.std.proofs.lemmas.List.Folds.{list_any_none}
use Rattle.tiff_entries.specs.Entries.{tags}
use Rattle.tiff_entries.proofs.found.Found.entry.Goals as goal

pub returns : goal.returns
returns c = λ bytes form at has.
    let none = list_any_none (λ (t : ℕ). eqb c.args.tag t) tags
    (All-from_get_or (λ (t : ℕ). eqb c.args.tag t ≡ false) tags 0
    (λ i lt. c.loop-t.invariant i (omega arith))) in
    absurd (false≢true (sym none ∙ c.requires))
