-- What a join leaves of a view: of its seat, and of the numbers that it keeps itself.
use Rattle.std.proofs.Common.{◌≡◌, ℕ, ◌≤◌, List, length, subst, sym, ap, ◌∙◌, arith}
use Rattle.std.specs.Prelude.{slice_index}
use Rattle.atomic_table.specs.Table.{Me}
use Rattle.atomic_table.specs.declared.shared.Seat.{Seat}
use Rattle.tex_world.specs.World.{Files}
use Rattle.tex_world.specs.Tap.{IsLeast}
use Rattle.gen_board.specs.View.{BoardId, ViewState, ViewAfterJoin}
use Rattle.gen_board.specs.Rule.{later_of, both_sights}
use Rattle.gen_board.specs.Seated.{IsSeated, view_state}
use Rattle.gen_board.specs.declared.sight.Sight.{Sight}
use Rattle.gen_board.proofs.ListLemmas.{later_keeps, later_at, length-later}

-- Two views of one board have seen as many files.
pub same_count : (own other : Seat (Unit {0}) Sight) (kept theirs : List ℕ) (v w : ViewState)
    (board : BoardId) → view_state own kept ≡ v → view_state other theirs ≡ w → v.board ≡ board
    → w.board ≡ board → length theirs ≡ length kept
same_count own other kept theirs v w board is_v is_w of_v of_w =
    ap (λ (x : ViewState). x.board.files) is_w
    ∙ (ap (λ (b : BoardId). b.files) (of_w ∙ sym of_v)
    ∙ sym (ap (λ (x : ViewState). x.board.files) is_v))

module _ (world : Files) (own other new : Seat (Unit {0}) Sight) (kept theirs items : List ℕ)
    (seated : IsSeated world own kept) (seated_other : IsSeated world other theirs)
    (same : length theirs ≡ length kept) (later : items ≡ later_of kept theirs)
    (me : new.me ≡ (both_sights own.me.0 other.me.0, own.me.1)) where
  -- The view is seated with the greater number of both for each file.
  pub joined_seat : IsSeated world new items
  joined_seat = record {
    seen = ap (λ (m : Me (Unit {0}) Sight). m.0.seen) me
        ∙ ((λ i. later_of (seated.seen i) (seated_other.seen i)) ∙ sym later);
    length_steps = ap (λ (m : Me (Unit {0}) Sight). length m.0.steps) me
        ∙ (seated.length_steps ∙ (sym (length-later kept theirs) ∙ sym (ap length later)));
    length_looks = ap (λ (m : Me (Unit {0}) Sight). length m.0.looks) me
        ∙ (seated.length_looks ∙ (sym (length-later kept theirs) ∙ sym (ap length later)));
    length_looked = ap (λ (m : Me (Unit {0}) Sight). length m.0.looked) me
        ∙ (seated.length_looked ∙ (sym (length-later kept theirs) ∙ sym (ap length later)));
    known = subst
        (λ (xs : List ℕ). (file : ℕ) → IsLeast world file (slice_index xs file)) (sym later)
        (later_keeps (IsLeast world) kept theirs seated.known seated_other.known);
    slots = ap (λ (m : Me (Unit {0}) Sight). m.1) me ∙ seated.slots;
  }

  pub after_join : new.table_id ≡ own.table_id
      → ViewAfterJoin (view_state other theirs) (view_state own kept) (view_state new items)
  after_join table = record {
    board = λ i. record {
      files = (ap length later ∙ length-later kept theirs) i;
      table = table i;
    };
    seen = λ file. ap (λ (xs : List ℕ). slice_index xs file) later ∙ later_at kept theirs file same;
    later = λ file. subst (λ (xs : List ℕ). slice_index kept file ≤ slice_index xs file) (sym later)
        (omega (arith, later_at kept theirs file same));
    steps = ap (λ (m : Me (Unit {0}) Sight). m.0.steps) me;
    looks = ap (λ (m : Me (Unit {0}) Sight). m.0.looks) me;
    looked = ap (λ (m : Me (Unit {0}) Sight). m.0.looked) me;
  }
