-- Which laws does the state after reads through a tap obey?
use Rattle.std.specs.Prelude.{◌≡◌, refl}
use Rattle.std.proofs.Common.{◌∙◌, ap, arith}
use Rattle.tex_world.specs.World.{Files}
use Rattle.tex_world.specs.Tap.{Named}
use Rattle.tap_reader.specs.TapReader.{Lent, OnlyReads, KeepsTap}

-- without a read nothing changes
pub KeepsTap-itself : (lent : Lent) → KeepsTap lent lent
KeepsTap-itself lent = record {
  reads = record {
    handle = refl;
    faults = omega arith;
    calls = omega arith;
    opens = refl;
    asks = refl;
    lost = omega arith;
    newest = refl;
  };
  faultless = refl;
  moves = refl;
}

-- reads after reads are reads
pub OnlyReads-chains : (a b c : Lent) → OnlyReads a b → OnlyReads b c → OnlyReads a c
OnlyReads-chains a b c p q = record {
  handle = q.handle ∙ p.handle;
  faults = omega (arith, p.faults, q.faults);
  calls = omega (arith, p.calls, q.calls);
  opens = q.opens ∙ p.opens;
  asks = q.asks ∙ p.asks;
  lost = omega (arith, p.lost, q.lost);
  newest = q.newest ∙ p.newest;
}

pub KeepsTap-chains : (a b c : Lent) → KeepsTap a b → KeepsTap b c → KeepsTap a c
KeepsTap-chains a b c p q = record {
  reads = OnlyReads-chains a b c p.reads q.reads;
  faultless = q.faultless ∙ p.faultless;
  moves = q.moves ∙ p.moves;
}

-- handles that name the same have the same length
pub same_len : (h i : Named) → i ≡ h → i.len ≡ h.len
same_len h i e = ap (λ (n : Named). n.len) e

-- handles that name the same read the same bytes
pub same_held : (files : Files) (h i : Named) → i ≡ h
    → files.held i.file i.generation ≡ files.held h.file h.generation
same_held files h i e = ap (λ (n : Named). files.held n.file n.generation) e
