-- A list is answered completely if nothing fails.
use Rattle.std.proofs.Common.{◌≡◌, inl, inr, ℕ, ◌≤◌, List, length, ◌∙◌}
use Rattle.std.proofs.Common.{Option, Some, None, Ok, Err, arith, nat_le, Bool, true, false, refl, ap}
use Rattle.std.proofs.lemmas.Bool.{cases_lt, lt-leb}
use Rattle.std.specs.Prelude.{IsTrue, IsSome, if◌then◌else◌}
use Rattle.tex_world.specs.Counts.{Rises}
use Rattle.tex_world.specs.World.{Files}
use Rattle.command_line.specs.Invocation.{Asked}
use Rattle.request_lang.specs.Grammar.{Parsed, list_of, max_list_bytes}
use Rattle.request_lang.specs.declared.cause.BadList.{BadList}
use Rattle.request_lang.specs.declared.request.Request.{Request}
use Rattle.render_run.specs.declared.prepare.RunError.{RunError}
use Rattle.render_run.specs.declared.prepare.RunError.TheVariants.{BadWords, FolderFault}
use Rattle.render_run.specs.declared.prepare.RunError.TheVariants.{TooManyFiles, ListFault, NotAList}
use Rattle.render_run.specs.declared.prepare.RunError.TheVariants.{NoMemory}
use Rattle.render_run.specs.Status.{input_fault}
use Rattle.render_run.specs.Around.{Around, FeedState}
use Rattle.render_run.specs.ListRead.{FeedSays}
use Rattle.render_run.specs.RunError.{Ends, path_in, status_of}
use Rattle.render_run.specs.Run.{inputs_in, IsAnswered, Runs}
use Rattle.render_run.specs.Complete.{StaysAt, IsCalm, HasAList, NoneFails, Completes}

-- what has not risen has not
no_rise : (old new : ℕ) → StaysAt old new → Rises old new → ⊥
no_rise old new stays rises = omega (arith, stays.same, rises.rose stays.short)

has_path : (asked : Option Asked) → IsSome asked → path_in asked ≡ None → ⊥
has_path (Some a) some none = cc
has_path None some none = cc

-- ---- a list is no bad list

if_ok : (b : Bool) (first : Parsed) (bad : BadList) (all : List Request)
    → (if b then first else Err bad) ≡ Ok all → b ≡ true
if_ok true first bad all is = refl
if_ok false first bad all is = absurd cc

-- a valid list has no more bytes than a list may have
is_short : (bytes : List ℕ) (all : List Request) → list_of bytes ≡ Ok all
    → nat_le (length bytes) max_list_bytes ≡ true
unfolding list_of
is_short bytes all is = if_ok (nat_le (length bytes) max_list_bytes) _ _ all is

not_bad : (said : Parsed) (requests : List Request) (bad : BadList) → said ≡ Ok requests
    → said ≡ Err bad → ⊥
not_bad said requests bad ok err = cc

says_list : (asked : Option Asked) (old new : FeedState) (bad : BadList) → HasAList asked old
    → FeedSays (Err bad) old new → ⊥
says_list asked old new bad has said = elim (cases_lt max_list_bytes (length said.list)) [
  | inl long ↦
      let more : length said.list ≤ length has.bytes = said.read.taken.enough has.bytes has.left in
      let short : nat_le (length has.bytes) max_list_bytes ≡ true =
      is_short has.bytes has.requests has.says in
      let past : nat_le (length has.bytes) max_list_bytes ≡ false =
      lt-leb (length has.bytes) max_list_bytes (omega (arith, long, more)) in
      absurd cc
  | inr few ↦
      let same : has.bytes ≡ said.list = (said.read.to_end few).all has.bytes has.left in
      not_bad (list_of has.bytes) has.requests bad has.says (ap list_of same ∙ said.says)
]

-- ---- no ending has its cause

module _ (files : Files) (asked : Option Asked) (old new : Around) (tells : IsTrue files.tells)
    (has : HasAList asked old.feed) (calm : IsCalm old new) where
  no_cause : (ending : RunError)
      → Ends files (path_in asked) (inputs_in old) (inputs_in new) ending
      → status_of ending ≤ input_fault → ⊥
  no_cause BadWords (inl c) low = has_path asked has.words c.0.0
  no_cause BadWords (inr c) low = absurd c.1
  no_cause FolderFault (inl c) low = no_rise old.folder.faults new.folder.faults calm.folder c.0.1
  no_cause FolderFault (inr c) low = absurd c.1
  no_cause TooManyFiles (inl c) low = c.0.2 tells
  no_cause TooManyFiles (inr c) low = absurd c.1
  no_cause ListFault (inl c) low = absurd c.0
  no_cause ListFault (inr c) low = no_rise old.feed.faults new.feed.faults calm.feed c.1
  no_cause (NotAList bad) (inl c) low = absurd c.0
  no_cause (NotAList bad) (inr c) low = says_list asked old.feed new.feed bad has c.1
  no_cause NoMemory c low = absurd (omega (arith, low))

  none_fails : (ends : ℕ) (answered : IsAnswered files asked old new ends)
      → NoneFails answered.finishes.answers.lines
  none_fails ends answered = record {
    faults = omega (
      arith,
      calm.folder.same,
      calm.folder.short,
      answered.finishes.answers.faults.by_n,
    );
    moves = omega (
      arith,
      calm.moves.same,
      calm.moves.short,
      answered.finishes.answers.moves.by_n,
    );
  }

  pub completes : (ends : ℕ) → Runs files asked old new ends → Completes files asked old new ends
  completes ends runs = elim (cases_lt ends 2) [
    | inl few ↦
        let answered = runs.answered (omega (arith, few)) in
        inl (omega (arith, few), (answered, none_fails ends answered))
    | inr from ↦ elim (cases_lt ends 5) [
      | inl below ↦
          let stops = runs.stopped from (omega (arith, below)) in
          absurd (no_cause stops.ending stops.ended.cause (omega (arith, below, stops.of_status)))
      | inr past ↦ elim (cases_lt ends 6) [
        | inl five ↦
            let is : ends ≡ 5 = omega (arith, past, five) in
            absurd (no_rise old.sink.faults new.sink.faults calm.sink (runs.cut is).failed)
        | inr six ↦ inr (omega (arith, six, runs.statuses))
      ]
    ]
  ]
