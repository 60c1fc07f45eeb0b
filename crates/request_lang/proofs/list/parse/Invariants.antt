use Rattle.std.proofs.Common.{◌≡◌, ◌+◌, ◌≤◌, length, true}
use Rattle.std.specs.Str.{IsAscii}
use Rattle.request_lang.specs.Grammar.{lines_of, requests_of, list_of, max_list_bytes}
use Rattle.request_lang.specs.Grammar.{max_requests}
use Rattle.request_lang.proofs.LineLemmas.{with_front}
use Rattle.request_lang.proofs.list.parse.Given as goal

abbrev pub invariant-lines : goal.invariant-lines
invariant-lines l = record {
  so_far : with_front l.requests.items
      (requests_of l.number (length l.requests.items) (lines_of l.rest)) ≡ list_of l.bytes;
  ascii : l.is_ascii ≡ true → IsAscii l.rest;
  few : length l.requests.items ≤ max_requests;
  small : l.number + length l.rest ≤ max_list_bytes + 1;
}

abbrev pub decreases-lines : goal.decreases-lines
decreases-lines l = length l.rest
