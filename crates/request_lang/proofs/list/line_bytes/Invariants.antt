use Rattle.std.proofs.Common.{ℕ, ◌<◌, ◌≤◌, ◌-◌, length}
use Rattle.request_lang.specs.LineEnd.{IsOther}
use Rattle.request_lang.proofs.list.line_bytes.Given as goal

-- no line feed so far
abbrev pub invariant-eights : goal.invariant-eights
invariant-eights l = record {
  within : l.end ≤ length l.bytes;
  before : (k : ℕ) → k < l.end → IsOther l.bytes k;
}

abbrev pub decreases-eights : goal.decreases-eights
decreases-eights l = length l.bytes - l.end

abbrev pub invariant-bytes : goal.invariant-bytes
invariant-bytes l = record {
  within : l.end ≤ length l.bytes;
  before : (k : ℕ) → k < l.end → IsOther l.bytes k;
}

abbrev pub decreases-bytes : goal.decreases-bytes
decreases-bytes l = length l.bytes - l.end
