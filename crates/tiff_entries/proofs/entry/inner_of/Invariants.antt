use Rattle.std.proofs.Common.{◌≡◌, ℕ, ◌+◌, ◌<◌, length, get_or}
use Rattle.tiff_format.specs.declared.form.TheConstants.{MAX_OFFSET_BYTES}
use Rattle.tiff_entries.proofs.entry.inner_of.Given as goal

abbrev pub invariant-loop-k : goal.invariant-loop-k
invariant-loop-k l = record {
  long : length l.inner ≡ MAX_OFFSET_BYTES;
  copied : (k : ℕ) → k < l.k → get_or l.inner k 0 ≡ get_or l.raw (l.at + k) 0;
}
