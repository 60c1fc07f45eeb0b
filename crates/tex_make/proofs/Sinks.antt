-- What was written by one call and then by another.
use Rattle.std.proofs.Common.{◌≡◌, ℕ, ◌+◌, ◌-◌, ◌≤◌, List, [], ◌++◌, length, take, drop, Option}
use Rattle.std.proofs.Common.{Some, Result, Ok, Err, IsErr, sym, inl, inr, subst}
use Rattle.std.proofs.Common.{ap, ◌∙◌, arith, append_assoc, length-append}
use Rattle.std.proofs.lemmas.Bool.{cases_lt}
use Rattle.std.proofs.lemmas.Grind.{common_steps}
use Rattle.std.proofs.lemmas.List.{take-append-le, take-append-drop}
use Rattle.std.proofs.Math.Seq.{take-append-add, take-add}
use Rattle.tex_world.specs.Counts.{Rises, last_count}
use Rattle.tex_world.specs.Stream.{Appends, AppendsPart}
use Rattle.tex_make.specs.Sink.{SinkState, Puts}

pub appends_nothing : (s : Option (List ℕ)) → Appends [] s s
appends_nothing s held is = is ∙ ap Some (grind (arith, common_steps))

pub appends_more : (a b : List ℕ) (s t u : Option (List ℕ)) → Appends a s t → Appends b t u
    → Appends (a ++ b) s u
appends_more a b s t u first second held is =
    second (held ++ a) (first held is) ∙ ap Some (append_assoc held a b)

-- the first part of a longer list
take_behind : (a b : List ℕ) (k : ℕ) → take (length a + k) (a ++ b) ≡ a ++ take k b
take_behind a b k = take-append-add a b k

-- a first part of what follows
pub part_after : (a b : List ℕ) (s t u : Option (List ℕ)) → Appends a s t → AppendsPart b t u
    → AppendsPart (a ++ b) s u
part_after a b s t u first second held is =
    let part = second (held ++ a) (first held is) in (
      length a + part.0,
      omega (arith, part.1, length-append a b),
      part.2 ∙ ap Some (append_assoc held a (take part.0 b)
          ∙ ap (λ (xs : List ℕ). held ++ xs) (sym (take_behind a b part.0))),
    )

-- a first part is one of a longer list too
pub part_of_more : (a b : List ℕ) (s t : Option (List ℕ)) → AppendsPart a s t
    → AppendsPart (a ++ b) s t
part_of_more a b s t part held is =
    let p = part held is in (
      p.0,
      omega (arith, p.1, length-append a b),
      p.2 ∙ ap (λ (xs : List ℕ). Some (held ++ xs)) (sym (take-append-le p.0 a b p.1)),
    )

pub rises_after : (a b c : ℕ) → a ≤ b → Rises b c → Rises a c
rises_after a b c before rose = record {
  later = let later = rose.later in omega arith;
  rose = λ low. elim (cases_lt b last_count) [
    | inl short ↦ let more = rose.rose short in omega (arith, more)
    | inr end ↦ let later = rose.later in omega (arith, low, later, end)
  ];
}

-- ---- a call

pub puts_err : {E : Type 0} (bytes : List ℕ) (s u : SinkState) (r : Result (Unit {0}) E) → IsErr r
    → AppendsPart bytes s.holds u.holds → Rises s.faults u.faults → Puts bytes s u r
puts_err bytes s u (Ok x) is part rose = absurd (cc is)
puts_err bytes s u (Err e) is part rose =
    record { ok = tt; part = part; faults = rose.later; cause = rose }

pub puts_ok : {E : Type 0} (bytes : List ℕ) (s u : SinkState) → Appends bytes s.holds u.holds
    → s.faults ≤ u.faults → Puts {E = E} bytes s u (Ok tt)
puts_ok bytes s u written later =
    record { ok = written; part = tt; faults = later; cause = tt }

-- a call after bytes were written
pub puts_then : {E : Type 0} (a b : List ℕ) (s t u : SinkState) (r : Result (Unit {0}) E)
    → Appends a s.holds t.holds → s.faults ≤ t.faults → Puts b t u r → Puts (a ++ b) s u r
puts_then a b s t u (Ok x) first later puts = record {
  ok = appends_more a b s.holds t.holds u.holds first puts.ok;
  part = tt;
  faults = let more = puts.faults in omega arith;
  cause = tt;
}
puts_then a b s t u (Err e) first later puts = record {
  ok = tt;
  part = part_after a b s.holds t.holds u.holds first puts.part;
  faults = let more = puts.faults in omega arith;
  cause = rises_after s.faults t.faults u.faults later puts.cause;
}

-- ---- the bytes before a place, and those up to the next

pub taken_more : (bytes : List ℕ) (at n : ℕ)
    → take at bytes ++ take (at + n - at) (drop at bytes) ≡ take (at + n) bytes
taken_more bytes at n =
    let same : at + n - at ≡ n = omega arith in
    ap (λ (k : ℕ). take at bytes ++ take k (drop at bytes)) same ∙ sym (take-add at n bytes)

pub part_of_bytes : (bytes : List ℕ) (at n : ℕ) (s t u : Option (List ℕ))
    → Appends (take at bytes) s t → AppendsPart (take (at + n - at) (drop at bytes)) t u
    → AppendsPart bytes s u
part_of_bytes bytes at n s t u first second =
    subst (λ (xs : List ℕ). AppendsPart xs s u) (take-append-drop (at + n) bytes)
    (part_of_more (take (at + n) bytes) (drop (at + n) bytes) s u
    (subst (λ (xs : List ℕ). AppendsPart xs s u) (taken_more bytes at n)
    (part_after (take at bytes) (take (at + n - at) (drop at bytes)) s t u first second)))

pub more_of_bytes : (bytes : List ℕ) (at n : ℕ) (s t u : Option (List ℕ))
    → Appends (take at bytes) s t → Appends (take (at + n - at) (drop at bytes)) t u
    → Appends (take (at + n) bytes) s u
more_of_bytes bytes at n s t u first second =
    subst (λ (xs : List ℕ). Appends xs s u) (taken_more bytes at n)
    (appends_more (take at bytes) (take (at + n - at) (drop at bytes)) s t u first second)
