-- What does a read leave that fails?
use Rattle.std.proofs.Common.{◌≡◌, ◌≤◌, Result, Ok, Err, IfErr, refl, subst, arith}
use Rattle.tex_world.specs.World.{Files}
use Rattle.tex_world.specs.Tap.{AfterRead, ReadCause}
use Rattle.tex_world.specs.declared.fault.ReadError.{ReadError}
use Rattle.tex_world.specs.declared.fault.ReadError.TheVariants.{Failed, Gone}
use Rattle.tap_reader.specs.TapReader.{Lent, OnlyReads, RefusesTap}

-- a read is one
is_read : (old new : Lent) (r : Result (Unit {0}) ReadError) → new.handle ≡ old.handle
    → AfterRead old.tap new.tap r → OnlyReads old new
is_read old new r handle counts = record {
  handle = handle;
  faults = counts.faults;
  calls = counts.calls.later;
  opens = counts.opens;
  asks = counts.asks;
  lost = counts.lost_later;
  newest = counts.newest;
}

-- the moves do not fall
moves_later : (old new : Lent) (e : ReadError) → AfterRead old.tap new.tap (Err e)
    → old.tap.moves ≤ new.tap.moves
moves_later old new Failed counts = let same = counts.failed Failed refl tt in omega (arith, same)
moves_later old new (Gone to) counts = (counts.gone (Gone to) refl (λ no. no)).later

-- after a failed read
refuses : (files : Files) (old new : Lent) (r : Result (Unit {0}) ReadError)
    → new.handle ≡ old.handle → AfterRead old.tap new.tap r
    → IfErr r (ReadCause files old.handle old.tap new.tap) → IfErr r (RefusesTap files old new)
refuses files old new (Ok x) handle counts cause = tt
refuses files old new (Err e) handle counts cause = record {
  reads = is_read old new (Err e) handle counts;
  cause = cause;
  moves = λ fault. counts.failed e refl fault;
  moves_later = moves_later old new e counts;
}

-- after a read that failed with this error
pub refuses_at : (files : Files) (old new : Lent) (r : Result (Unit {0}) ReadError) (e : ReadError)
    → r ≡ Err e → new.handle ≡ old.handle → AfterRead old.tap new.tap r
    → IfErr r (ReadCause files old.handle old.tap new.tap) → RefusesTap files old new e
refuses_at files old new r e is handle counts cause =
    subst (λ (q : Result (Unit {0}) ReadError). IfErr q (RefusesTap files old new)) is
    (refuses files old new r handle counts cause)
