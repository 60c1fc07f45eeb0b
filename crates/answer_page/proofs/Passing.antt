-- Texts that are passed on one after another.
use Rattle.std.proofs.Common.{◌≡◌, ℕ, ◌+◌, ◌<◌, ◌≤◌, List, [], ◌++◌, length, take, Option, Some}
use Rattle.std.proofs.Common.{Bool, true, false, ltb, Result, Ok, Err, refl, sym, ap, ◌∙◌, arith}
use Rattle.std.proofs.Common.{append_assoc}
use Rattle.std.proofs.Math.Seq.{take-append-add}
use Rattle.std.proofs.lemmas.Bool.{ltb-true, ltb-false}
use Rattle.std.proofs.lemmas.List.{append-nil, length-append, take-append-le}
use Rattle.tex_world.specs.Counts.{Rises, last_count}
use Rattle.tex_world.specs.Stream.{Appends, AppendsPart}
use Rattle.answer_page.specs.Page.{SinkState, Outgoing, Passes, PutsPart, AddsOn, PassesOn}

-- a count that has risen since has risen from a lower one on
rises_from : (a b c : ℕ) → a ≤ b → Rises b c → Rises a c
rises_from a b c low rises = record {
  later = omega (arith, low, rises.later);
  rose = λ below. by_test (ltb b last_count) refl below;
}
  where
    by_test : (t : Bool) → ltb b last_count ≡ t → a < last_count → a < c
    by_test true is below =
        let here : b < last_count = ltb-true b last_count is in
        let risen = rises.rose here in omega (arith, low, risen)
    by_test false is below =
        let here : last_count ≤ b = ltb-false b last_count is in
        omega (arith, rises.later, here, below)

-- ---- what was put

-- what was written, after what was written before
appends_more : (a b : List ℕ) (old mid new : Option (List ℕ)) → Appends a old mid
    → Appends b mid new → Appends (a ++ b) old new
appends_more a b old mid new first second = λ held is.
    second (held ++ a) (first held is) ∙ ap Some (append_assoc held a b)

-- what was written, followed by a first part of a text
part_more : (a b : List ℕ) (old mid new : Option (List ℕ)) → Appends a old mid
    → AppendsPart b mid new → AppendsPart (a ++ b) old new
part_more a b old mid new first second = λ held is.
    let k = second (held ++ a) (first held is) in (
      length a + k.0,
      omega (arith, length-append a b, k.1),
      k.2
          ∙ ap Some
          (append_assoc held a (take k.0 b)
          ∙ ap (λ (t : List ℕ). held ++ t) (sym (take-append-add a b k.0))),
    )

puts_more : (a b : List ℕ) (old mid new : SinkState) → Appends a old.holds mid.holds
    → old.faults ≤ mid.faults → PutsPart b mid new → PutsPart (a ++ b) old new
puts_more a b old mid new first later second = record {
  part = part_more a b old.holds mid.holds new.holds first second.part;
  cause = rises_from old.faults mid.faults new.faults later second.cause;
}

-- a first part of a text is one of a longer text
pub puts_longer : (a b : List ℕ) (old new : SinkState) → PutsPart a old new
    → PutsPart (a ++ b) old new
puts_longer a b old new puts = record {
  part = λ held is.
      let k = puts.part held is in (
        k.0,
        omega (arith, length-append a b, k.1),
        k.2 ∙ ap Some (ap (λ (t : List ℕ). held ++ t) (sym (take-append-le k.0 a b k.1))),
      );
  cause = puts.cause;
}

-- ---- what was passed on

-- nothing was done
pub none_passed : (o : Outgoing) → Passes [] o o
none_passed o = record {
  put = [];
  all = sym (append-nil o.waits);
  appended = λ held is. is ∙ ap Some (sym (append-nil held));
  faults = omega arith;
}

-- one text after another
pub passes_more : (a b : List ℕ) (old mid new : Outgoing) → Passes a old mid → Passes b mid new
    → Passes (a ++ b) old new
passes_more a b old mid new first second = record {
  put = first.put ++ second.put;
  all =
      append_assoc first.put second.put new.waits
      ∙ ap (λ (t : List ℕ). first.put ++ t) second.all
      ∙ sym (append_assoc first.put mid.waits b)
      ∙ ap (λ (t : List ℕ). t ++ b) first.all
      ∙ append_assoc old.waits a b;
  appended =
      appends_more first.put second.put old.sink.holds mid.sink.holds new.sink.holds
      first.appended second.appended;
  faults = omega (arith, first.faults, second.faults);
}

-- what was passed on, and a first part of what then waited
pub rest_part : (text : List ℕ) (old mid : Outgoing) (new : SinkState) → Passes text old mid
    → PutsPart mid.waits mid.sink new → PutsPart (old.waits ++ text) old.sink new
rest_part text old mid new passes part =
    rw (← passes.all)
    (puts_more passes.put mid.waits old.sink mid.sink new passes.appended passes.faults part)

-- one text after another, of which only a first part was written
pub passes_part : (a b : List ℕ) (old mid : Outgoing) (new : SinkState) → Passes a old mid
    → PutsPart (mid.waits ++ b) mid.sink new → PutsPart (old.waits ++ (a ++ b)) old.sink new
passes_part a b old mid new first second =
    let all : first.put ++ (mid.waits ++ b) ≡ old.waits ++ (a ++ b) =
    sym (append_assoc first.put mid.waits b)
    ∙ ap (λ (t : List ℕ). t ++ b) first.all
    ∙ append_assoc old.waits a b in
    rw (← all)
    (puts_more first.put (mid.waits ++ b) old.sink mid.sink new first.appended first.faults
    second)

-- a longer text was not written further
pub passes_longer : (a b text : List ℕ) (old : Outgoing) (new : SinkState) → a ++ b ≡ text
    → PutsPart (old.waits ++ a) old.sink new → PutsPart (old.waits ++ text) old.sink new
passes_longer a b text old new whole part =
    rw (← whole, ← append_assoc old.waits a b) (puts_longer (old.waits ++ a) b old.sink new part)

-- of a longer text, no more was written than what was on the page after its front
pub rest_longer : (front behind text : List ℕ) (old mid : Outgoing) (new : SinkState)
    → front ++ behind ≡ text → Passes front old mid → PutsPart mid.waits mid.sink new
    → PutsPart (old.waits ++ text) old.sink new
rest_longer front behind text old mid new whole passes part =
    passes_longer front behind text old new whole (rest_part front old mid new passes part)

-- a text added after one that was passed on
pub then_adds : {A E : Type 0} (a b : List ℕ) (old mid new : Outgoing) (r : Result A E)
    → Passes a old mid → AddsOn b mid new r → PassesOn (a ++ b) old new r
then_adds a b old mid new (Ok done) first second = passes_more a b old mid new first second
then_adds a b old mid new (Err e) first second =
    rest_longer a b (a ++ b) old mid new.sink refl first second

-- what adds a text passes it on
pub adds_passes : {A E : Type 0} (a : List ℕ) (old new : Outgoing) (r : Result A E)
    → AddsOn a old new r → PassesOn a old new r
adds_passes a old new (Ok done) adds = adds
adds_passes a old new (Err e) adds = puts_longer old.waits a old.sink new.sink adds
