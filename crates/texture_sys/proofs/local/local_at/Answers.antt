-- The cells were asked for after the generation was checked and before the record was kept.
use Rattle.std.proofs.Common.{◌≡◌, ℕ, Ok, Result, Some, refl, sym, subst, ◌∙◌, ap, rules}
use Rattle.file_table.specs.Record.{RecordState}
use Rattle.file_table.specs.Calls.{GivesRecord}
use Rattle.texture_sys.specs.Call.{IsLookupOn}
use Rattle.texture_sys.specs.declared.lookup.Lookups.TheVariants.{One}
use Rattle.texture_sys.specs.Needs.{visits_on, AsksForCells}
use Rattle.texture_sys.proofs.TextureLemmas.{texture_value}
use Rattle.texture_sys.proofs.KeptRecord.{local_kept}
use Rattle.texture_sys.proofs.local.local_at.Goals as goal

-- a generation that was answered
abbrev ok_of : ℕ → Result ℕ ℕ
ok_of g = Ok g

pub returns-then-looked-clause-leaves : goal.returns-then-looked-clause-leaves
returns-then-looked-clause-leaves g c = record {
  same = search rules;
  look = search rules;
  kept =
      let k : RecordState = c.in-Some.known.value in
      let of_generation : c.deref.result.now ≡ k = search rules in
      let of_fitting : c.deref-2.result.now ≡ k = search rules in
      let given : GivesRecord g.T.W.World.files c.args.at.now.file c.args.cache.now.gate.cut
      c.args.pass.now.view c.keep.new.pass.view c.in-Some.known.value = search rules in
      local_kept g.T.W.World.files c.args.at.now.file c.args.cache.now.gate.cut (One c.args.at.now.lookup)
      c.args.pass.now c.local.new.pass c.lookup_local-looked.new.pass c.keep.new.pass k
      c.generation-generation.result given
      c.keep.ensures.kept
      (sym (c.generation-generation.ensures.value ∙ ap (λ (k : RecordState). k.generation)
      of_generation))
      c.in-Some.ensures.leaves.same
      (subst (λ (k : RecordState). AsksForCells g.T.W.World.files k (visits_on k (One c.args.at.now.lookup)) c.local.new.pass
      c.lookup_local-looked.new.pass) (c.of-picture.ensures ∙ of_fitting) (c.if-looked.ensures.asks refl))
      c.keep.ensures.same;
  latest = search rules;
}

pub returns-then-looked-clause-answers : goal.returns-then-looked-clause-answers
returns-then-looked-clause-answers g c = record {
  some = search rules;
  value =
      let k : RecordState = c.in-Some.known.value in
      let of_generation : c.deref.result.now ≡ k = search rules in
      let of_fitting : c.deref-2.result.now ≡ k = search rules in
      let given : GivesRecord g.T.W.World.files c.args.at.now.file c.args.cache.now.gate.cut
      c.args.pass.now.view c.local.new.pass.view c.in-Some.known.value = search rules in
      texture_value g.T.W.World.files c.args.at.now.file c.args.cache.now.gate.cut c.args.pass.now.view
      c.local.new.pass.view c.keep.new.pass.view k given (search rules) (One c.args.at.now.lookup)
      c.lookup_local-looked.new.out (ok_of c.generation-generation.result)
      (c.generation-generation.ensures.value ∙ ap (λ (k : RecordState). k.generation)
      of_generation)
      (λ bytes held. subst (λ (k : RecordState).
      g.T.W.World.files.held k.file k.generation ≡ Some bytes
      → IsLookupOn k.cut bytes (One c.args.at.now.lookup) c.lookup_local-looked.new.out) (c.of-picture.ensures ∙ of_fitting)
      (c.if-looked.ensures.value refl bytes) held);
  none = search rules;
}
