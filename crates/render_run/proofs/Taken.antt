-- Reading a feed piece by piece.
use Rattle.std.proofs.Common.{◌≡◌, ℕ, ◌+◌, ◌≤◌, List, [], ◌++◌, length, take, drop}
use Rattle.std.proofs.Common.{Option, Some, sym, ap, ◌∙◌, arith}
use Rattle.std.proofs.Math.Seq.{take-add}
use Rattle.std.proofs.lemmas.List.{take_all, drop-drop, length-take, length-drop, length-append}
use Rattle.tex_world.specs.Stream.{Feeds}
use Rattle.render_run.specs.ListRead.{IsTaken, IsRead}

-- nothing is left after all bytes
none_left : (bytes left : List ℕ) → drop (length bytes) left ≡ [] → length left ≤ length bytes
none_left bytes left none = omega (arith, length-drop (length bytes) left, ap length none)

-- the end of the feed
pub taken_end : (bytes buf : List ℕ) (n : ℕ) (old mid new : Option (List ℕ)) → IsTaken bytes old mid
    → Feeds n buf mid new → n ≡ 0 → IsRead bytes old new
taken_end bytes buf n old mid new taken feeds ended = record {
  taken = record {
    front = taken.front;
    enough = taken.enough;
    rest = λ left is. none_more left is;
  };
  to_end = λ few. record {
    all = λ left is.
        let none = (feeds.end (drop (length bytes) left) (taken.rest left is)).0 ended in
        sym (taken.front left is ∙ take_all (length bytes) left (none_left bytes left none));
    end = λ left is.
        let none = (feeds.end (drop (length bytes) left) (taken.rest left is)).0 ended in
        none_more left is ∙ ap Some none;
  };
}
  where
    none_more : (left : List ℕ) → old ≡ Some left → new ≡ Some (drop (length bytes) left)
    none_more left is =
        feeds.rest (drop (length bytes) left) (taken.rest left is)
        ∙ ap (λ (k : ℕ). Some (drop k (drop (length bytes) left))) ended

-- one piece more
pub taken_more : (bytes buf : List ℕ) (n : ℕ) (old mid new : Option (List ℕ))
    → IsTaken bytes old mid → Feeds n buf mid new → IsTaken (bytes ++ take n buf) old new
taken_more bytes buf n old mid new taken feeds =
    let total : length (bytes ++ take n buf) ≡ length bytes + n =
    omega (arith, length-append bytes (take n buf), length-take n buf, feeds.within) in
    record {
      front = λ left is.
          let piece = feeds.front (drop (length bytes) left) (taken.rest left is) in
          rw (total, take-add (length bytes) n left, ← piece)
          (ap (λ (l : List ℕ). l ++ take n buf) (taken.front left is));
      enough = λ left is.
          let piece = feeds.enough (drop (length bytes) left) (taken.rest left is) in
          omega (arith, total, piece, taken.enough left is, length-drop (length bytes) left);
      rest = λ left is.
          feeds.rest (drop (length bytes) left) (taken.rest left is)
          ∙ ap Some (drop-drop n (length bytes) left ∙ ap (λ (k : ℕ). drop k left) (sym total));
    }
