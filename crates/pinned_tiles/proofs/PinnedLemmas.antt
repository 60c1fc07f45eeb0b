-- The tiles that a pass has pinned, as one of them is pinned, moves from place to place, or leaves.
use Rattle.std.proofs.Common.{◌≡◌, ℕ, ◌+◌, ◌*◌, ◌<◌, ◌≤◌, Bool, true, false, not, nat_eq}
use Rattle.std.proofs.Common.{List, [], ◌∷◌, ◌++◌, length, refl, sym, ap, subst, arith}
use Rattle.std.proofs.Common.{Option, Some, None, IfSome, cond, ◌-◌, ◌∙◌, length-append}
use Rattle.std.proofs.Common.{zero, suc, map, take, drop, get_or, append_assoc}
use Rattle.std.proofs.lemmas.List.{append-nil, map-append, take-map, drop-map}
use Rattle.std.proofs.lemmas.List.Edits.{length-remove}
use Rattle.std.proofs.lemmas.List.Elements.{All-take, All-drop, All-get_or}
use Rattle.std.proofs.lemmas.List.Sums.{sum_by-remove}
use Rattle.std.specs.List.{remove}
use Rattle.pinned_tiles.specs.Pinned.{PinnedState, tiles_in, tile_of_pin, LeavesPart}
use Rattle.std.proofs.lemmas.Bool.{eqb-true, eq-eqb}
use Rattle.std.proofs.lemmas.List.{length-take}
use Rattle.std.specs.List.{All, Contains, sum_by, filter, find}
use Rattle.std.specs.Option.{option_to_list}
use Rattle.std.proofs.lemmas.List.Sums.{sum_by-cons, sum_by-append}
use Rattle.std.proofs.lemmas.List.Sorted.{sum_by-IsPermutation}
use Rattle.std.proofs.lemmas.List.Elements.{All-nil, All-cons, All-head, All-tail, All-pop}
use Rattle.std.proofs.lemmas.List.Elements.{All-append, All-filter, Contains-append_right}
use Rattle.std.proofs.lemmas.List.Filters.{sum_by-filter_both}
use Rattle.tex_world.specs.World.{Files}
use Rattle.tiff_format.specs.declared.cut.Cut.{Cut}
use Rattle.tile_store.specs.Tile.{CachedTile}
use Rattle.tile_store.specs.Lawful.{FitsCut}
use Rattle.shard_gate.specs.Gate.{PinSeatState, PinState, OnePinMore, OnePinLess, SamePins, IsTileOf}
use Rattle.shard_gate.specs.Gate.{max_pins}
use Rattle.micro.specs.Items.{has_key, HasKey, key_first, placed}
use Rattle.pinned_tiles.specs.Pinned.{max_holds, ArePinned, pinned_tiles, key_sum, hand_sum, key_in}

-- ---- sums

-- the sum of ones is the length
ones : {X : Type 0} (xs : List X) → sum_by (λ x. 1) xs ≡ length xs
ones [] = refl
ones {X} (x ∷ xs) = omega (arith, sum_by-cons (λ (y : X). 1) x xs, ones xs)

-- 1 if the test passes, otherwise 0
abbrev one_if : Bool → ℕ
one_if true = 1
one_if false = 0

-- a key that is counted among keys is one of them
times_has : (key : ℕ) (keys : List ℕ)
    → 1 ≤ sum_by (λ k. one_if (nat_eq k key)) keys → Contains keys key
times_has key [] some = absurd (omega arith)
times_has key (k ∷ keys) some = here (nat_eq k key) refl (times_has key keys)
  where
    here : (is : Bool) → nat_eq k key ≡ is
        → (1 ≤ sum_by (λ j. one_if (nat_eq j key)) keys → Contains keys key)
        → Contains (k ∷ keys) key
    here true is rest = (0, omega arith, eqb-true k key is)
    here false is rest =
        let one = sum_by-cons (λ j. one_if (nat_eq j key)) k keys in
        Contains-append_right (k ∷ []) keys key (rest (omega (arith, some, one, ap one_if is)))

-- a tile with the key is counted among tiles
keyed_there : (key : ℕ) (tiles : List CachedTile) → HasKey key_in key tiles
    → 1 ≤ key_sum (λ k. one_if (nat_eq k key)) tiles
keyed_there key [] (i, lt, is) = absurd (omega (arith, lt))
keyed_there key (t ∷ tiles) (zero, lt, is) = omega (
  arith,
  sum_by-cons (λ (x : CachedTile). one_if (nat_eq x.key key)) t tiles,
  ap one_if (eq-eqb t.key key is),
)
keyed_there key (t ∷ tiles) (suc i, lt, is) = omega (
  arith,
  sum_by-cons (λ (x : CachedTile). one_if (nat_eq x.key key)) t tiles,
  keyed_there key tiles (i, omega (arith, lt), is),
)

pub hand_list : (f : ℕ → ℕ) (hand : Option CachedTile)
    → key_sum f (option_to_list hand) ≡ hand_sum f hand
hand_list f None = refl
hand_list f (Some t) = omega (arith, sum_by-cons (λ (tile : CachedTile). f tile.key) t [])

-- one tile is in hand at most
one_in_hand : (hand : Option CachedTile) → hand_sum (λ k. 1) hand ≤ 1
one_in_hand None = omega arith
one_in_hand (Some t) = omega arith

-- a fact of every tile is a fact of the one found
found_by : (P : CachedTile → Type 0) (test : CachedTile → Bool) (t : CachedTile)
    (tiles : List CachedTile) (is : Bool) → test t ≡ is → P t → IfSome (find test tiles) P
    → IfSome (find test (t ∷ tiles)) P
found_by P test t tiles true is here rest =
    subst (λ (b : Bool). IfSome (cond b (Some t) (find test tiles)) P) (sym is) here
found_by P test t tiles false is here rest =
    subst (λ (b : Bool). IfSome (cond b (Some t) (find test tiles)) P) (sym is) rest

pub found_cell : (P : CachedTile → Type 0) (test : CachedTile → Bool) (tiles : List CachedTile)
    → All P tiles → IfSome (find test tiles) P
found_cell P test [] all = tt
found_cell P test (t ∷ tiles) all = found_by P test t tiles (test t) refl (All-head P t tiles all)
    (found_cell P test tiles (All-tail P t tiles all))

-- ---- first parts of the tiles

-- the one in hand was given back
pub without_hand : (holds recent : List CachedTile) (hand : Option CachedTile)
    → (holds ++ (recent ++ [])) ++ option_to_list hand ≡ holds ++ (recent ++ option_to_list hand)
without_hand holds recent hand =
    ap (λ (l : List CachedTile). (holds ++ l) ++ option_to_list hand) (append-nil recent)
    ∙ append_assoc holds recent (option_to_list hand)

pub part_kept : (old new : PinnedState) → tiles_in new ≡ tiles_in old → LeavesPart old new
part_kept old new same = ([], append-nil (tiles_in new) ∙ same)

pub part_chain : (a b c : PinnedState) → LeavesPart a b → LeavesPart b c → LeavesPart a c
part_chain a b c ab bc = (
  bc.0 ++ ab.0,
  sym (append_assoc (tiles_in c) bc.0 ab.0)
      ∙ (ap (λ (l : List CachedTile). l ++ ab.0) bc.1 ∙ ab.1),
)

-- ---- a hold that leaves

pub All-remove : (P : CachedTile → Type 0) (tiles : List CachedTile) (i : ℕ) → All P tiles
    → All P (remove tiles i)
All-remove P tiles i all = All-append P (take i tiles) (drop (suc i) tiles)
    (All-take P i tiles all) (All-drop P (suc i) tiles all)

pub map-remove : (pins : List PinState) (i : ℕ)
    → map tile_of_pin (remove pins i) ≡ remove (map tile_of_pin pins) i
map-remove pins i =
    map-append tile_of_pin (take i pins) (drop (suc i) pins)
    ∙ (ap (λ (l : List CachedTile). l ++ map tile_of_pin (drop (suc i) pins))
    (sym (take-map tile_of_pin i pins))
    ∙ ap (λ (l : List CachedTile). take i (map tile_of_pin pins) ++ l)
    (sym (drop-map tile_of_pin (suc i) pins)))

module _ (files : Files) (cut : Cut) where
  abbrev pub Are : PinSeatState → List CachedTile → List CachedTile → Option CachedTile → Type 0
  Are seat recent holds hand = ArePinned files (pinned_tiles seat cut recent holds hand)

  -- There are not more pins than tiles.
  pub count_is : (seat : PinSeatState) (recent holds : List CachedTile) (hand : Option CachedTile)
      → Are seat recent holds hand
      → length seat.pins ≡ hand_sum (λ k. 1) hand + (length recent + length holds)
  count_is seat recent holds hand are =
      omega (arith, are.pins (λ k. 1), ones seat.pins, ones recent, ones holds)

  -- A seat with nothing in hand may pin one more.
  pub room_is : (seat : PinSeatState) (recent holds : List CachedTile)
      → Are seat recent holds None → length seat.pins < max_pins * seat.permits
  room_is seat recent holds are = omega (
    arith,
    count_is seat recent holds None are,
    are.two_latest,
    are.few,
    are.some,
  )

  -- A seat keeps all pins with one permit less.
  pub few_for_split : (seat : PinSeatState) (recent holds : List CachedTile)
      (hand : Option CachedTile) → Are seat recent holds hand → 1 < seat.permits
      → length seat.pins ≤ max_pins * (seat.permits - 1)
  few_for_split seat recent holds hand are two = omega (
    arith,
    count_is seat recent holds hand are,
    one_in_hand hand,
    are.two_latest,
    are.few,
    two,
  )

  -- The pin of the tile in hand is one of the seat's.
  pub made_is : (seat : PinSeatState) (recent holds : List CachedTile) (t : CachedTile)
      → Are seat recent holds (Some t) → Contains seat.pins t.key
  made_is seat recent holds t are = times_has t.key seat.pins
      (omega (arith, are.pins (λ k. one_if (nat_eq k t.key)), own))
    where
      own : one_if (nat_eq t.key t.key) ≡ 1
      own = ap one_if (eq-eqb t.key t.key refl)

  -- The pins of the held tiles are those of the seat.
  pub held_is : (seat : PinSeatState) (recent holds : List CachedTile) (hand : Option CachedTile)
      (key : ℕ) → Are seat recent holds hand → HasKey key_in key holds → Contains seat.pins key
  held_is seat recent holds hand key are has = times_has key seat.pins
      (omega (arith, are.pins (λ k. one_if (nat_eq k key)), keyed_there key holds has))

  -- The pin of the tile in hand was given back.
  pub given_back : (old new : PinSeatState) (recent holds : List CachedTile) (t : CachedTile)
      → Are old recent holds (Some t) → OnePinLess t.key old new → Are new recent holds None
  given_back old new recent holds t are less = record {
    pins = λ f. omega (
      arith,
      are.pins f,
      sum_by-IsPermutation f old.pins (t.key ∷ new.pins) less.pins,
      sum_by-cons f t.key new.pins,
    );
    hand_cell = tt;
    recent_cells = are.recent_cells;
    hold_cells = are.hold_cells;
    two_latest = are.two_latest;
    few = are.few;
    some = omega (arith, are.some, less.permits);
  }

  -- A tile was pinned.
  pub pinned : (old new : PinSeatState) (recent holds : List CachedTile) (t : CachedTile)
      → Are old recent holds None → OnePinMore t.key old new → FitsCut files cut t
      → Are new recent holds (Some t)
  pinned old new recent holds t are more fits = record {
    pins = λ f. omega (
      arith,
      are.pins f,
      sum_by-IsPermutation f (t.key ∷ old.pins) new.pins more.pins,
      sum_by-cons f t.key old.pins,
    );
    hand_cell = fits;
    recent_cells = are.recent_cells;
    hold_cells = are.hold_cells;
    two_latest = are.two_latest;
    few = are.few;
    some = omega (arith, are.some, more.permits);
  }

  -- One more pin is allowed if nothing is in hand.
  pub room_for_pin : (seat : PinSeatState) (recent holds : List CachedTile)
      (hand : Option CachedTile) → Are seat recent holds hand → hand ≡ None
      → length seat.pins < max_pins * seat.permits
  room_for_pin seat recent holds hand are none =
      room_is seat recent holds (subst (λ (h : Option CachedTile). Are seat recent holds h) none are)

  -- A tile with the key, which fits the cut, was pinned while nothing was in hand.
  pub tile_pinned : (old new : PinSeatState) (recent holds : List CachedTile)
      (hand : Option CachedTile) (t : CachedTile) (key : ℕ) (gate_cut : Cut)
      → Are old recent holds hand → hand ≡ None → cut ≡ gate_cut → OnePinMore key old new
      → IsTileOf files gate_cut key t → Are new recent holds (Some t)
  tile_pinned old new recent holds hand t key gate_cut are none same more tile =
      pinned old new recent holds t
      (subst (λ (h : Option CachedTile). Are old recent holds h) none are)
      (subst (λ (k : ℕ). OnePinMore k old new) (sym tile.keyed) more)
      (subst (λ (cut_given : Cut). FitsCut files cut_given t) (sym same) tile.fits)

  -- None was.
  pub same_pins : (old new : PinSeatState) (recent holds : List CachedTile) (hand : Option CachedTile)
      → Are old recent holds hand → SamePins old new → Are new recent holds hand
  same_pins old new recent holds hand are same = record {
    pins = λ f. omega (arith, are.pins f, ap (sum_by f) same.pins);
    hand_cell = are.hand_cell;
    recent_cells = are.recent_cells;
    hold_cells = are.hold_cells;
    two_latest = are.two_latest;
    few = are.few;
    some = omega (arith, are.some, same.permits);
  }

  -- The tile in hand went into the microcache, and another one left it.
  pub moved_in : (seat : PinSeatState) (old new holds : List CachedTile) (t : CachedTile)
      (left : Option CachedTile) → Are seat old holds (Some t)
      → new ++ option_to_list left ≡ t ∷ old → new ≡ placed t old → Are seat new holds left
  moved_in seat old new holds t left are kept is =
      let cells = All-pop (FitsCut files cut) (t ∷ old) new left (sym kept)
      (All-cons (FitsCut files cut) t old are.hand_cell are.recent_cells) in
      record {
        pins = λ f.
            let g = λ (tile : CachedTile). f tile.key in
            omega (
              arith,
              are.pins f,
              ap (sum_by g) kept,
              sum_by-append g new (option_to_list left),
              sum_by-cons g t old,
              hand_list f left,
            );
        hand_cell = cells.1;
        recent_cells = cells.0;
        hold_cells = are.hold_cells;
        two_latest = omega (arith, ap length is, length-take 2 (t ∷ old));
        few = are.few;
        some = are.some;
      }

  -- A tile of the microcache that was asked for is first.
  pub asked_for : (seat : PinSeatState) (recent holds : List CachedTile)
      (hand : Option CachedTile) (key : ℕ) → Are seat recent holds hand
      → Are seat (key_first key_in key recent) holds hand
  asked_for seat recent holds hand key are =
      let own = has_key key_in key in
      let others = λ (tile : CachedTile). not (own tile) in
      record {
        pins = λ f.
            let g = λ (tile : CachedTile). f tile.key in
            omega (
              arith,
              are.pins f,
              sum_by-append g (filter own recent) (filter others recent),
              sum_by-filter_both own others (λ tile. refl) g recent,
            );
        hand_cell = are.hand_cell;
        recent_cells = All-append (FitsCut files cut) (filter own recent) (filter others recent)
            (All-filter own (FitsCut files cut) recent are.recent_cells)
            (All-filter others (FitsCut files cut) recent are.recent_cells);
        hold_cells = are.hold_cells;
        two_latest = omega (
          arith,
          are.two_latest,
          ones (key_first key_in key recent),
          ones recent,
          sum_by-append (λ (t : CachedTile). 1) (filter own recent) (filter others recent),
          sum_by-filter_both own others (λ tile. refl) (λ (t : CachedTile). 1) recent,
        );
        few = are.few;
        some = are.some;
      }

  -- The last tile of the microcache, if there is one, was taken in hand.
  pub last_taken : (seat : PinSeatState) (old new holds : List CachedTile)
      (last : Option CachedTile) → Are seat old holds None → new ++ option_to_list last ≡ old
      → Are seat new holds last
  last_taken seat old new holds last are kept =
      let cells = All-pop (FitsCut files cut) old new last (sym kept) are.recent_cells in
      record {
        pins = λ f.
            let g = λ (tile : CachedTile). f tile.key in
            omega (
              arith,
              are.pins f,
              ap (sum_by g) kept,
              sum_by-append g new (option_to_list last),
              hand_list f last,
            );
        hand_cell = cells.1;
        recent_cells = cells.0;
        hold_cells = are.hold_cells;
        two_latest = omega (
          arith,
          are.two_latest,
          ap length kept,
          length-append new (option_to_list last),
        );
        few = are.few;
        some = are.some;
      }

  -- The latest hold, if there is one, was taken in hand.
  pub hold_taken : (seat : PinSeatState) (recent old new : List CachedTile)
      (last : Option CachedTile) → Are seat recent old None → new ++ option_to_list last ≡ old
      → Are seat recent new last
  hold_taken seat recent old new last are kept =
      let cells = All-pop (FitsCut files cut) old new last (sym kept) are.hold_cells in
      record {
        pins = λ f.
            let g = λ (tile : CachedTile). f tile.key in
            omega (
              arith,
              are.pins f,
              ap (sum_by g) kept,
              sum_by-append g new (option_to_list last),
              hand_list f last,
            );
        hand_cell = cells.1;
        recent_cells = are.recent_cells;
        hold_cells = cells.0;
        two_latest = are.two_latest;
        few = omega (arith, are.few, ap length kept, length-append new (option_to_list last));
        some = are.some;
      }

  -- Nothing is pinned yet.
  pub none_pinned : (seat : PinSeatState) → seat.pins ≡ [] → 1 ≤ seat.permits → Are seat [] [] None
  none_pinned seat none permits = record {
    pins = λ f. ap (sum_by f) none;
    hand_cell = tt;
    recent_cells = All-nil (FitsCut files cut);
    hold_cells = All-nil (FitsCut files cut);
    two_latest = omega arith;
    few = omega arith;
    some = permits;
  }

  -- There is no pin without a tile.
  pub no_pins : (seat : PinSeatState) (recent holds : List CachedTile) (hand : Option CachedTile)
      → Are seat recent holds hand → recent ≡ [] → holds ≡ [] → hand ≡ None → seat.pins ≡ []
  no_pins seat recent holds hand are no_recent no_holds no_hand = empty seat.pins (omega (
    arith,
    count_is seat recent holds hand are,
    ap length no_recent,
    ap length no_holds,
    ap (hand_sum (λ k. 1)) no_hand,
  ))
    where
      empty : (pins : List ℕ) → length pins ≡ 0 → pins ≡ []
      empty [] none = refl
      empty (k ∷ pins) none = absurd (omega (arith, none))

  -- The hold at a place was taken in hand.
  pub hold_taken_at : (seat : PinSeatState) (recent old : List CachedTile) (i : ℕ)
      (t : CachedTile) → Are seat recent old None → i < length old → t ≡ get_or old i t
      → Are seat recent (remove old i) (Some t)
  hold_taken_at seat recent old i t are place is = record {
    pins = λ f.
        let g = λ (tile : CachedTile). f tile.key in
        omega (arith, are.pins f, sum_by-remove g old i t place, ap g is);
    hand_cell = subst (FitsCut files cut) (sym is)
        (All-get_or (FitsCut files cut) old i t place are.hold_cells);
    recent_cells = are.recent_cells;
    hold_cells = All-remove (FitsCut files cut) old i are.hold_cells;
    two_latest = are.two_latest;
    few = omega (arith, are.few, length-remove old i place);
    some = are.some;
  }

  -- The tile in hand is held.
  pub held_more : (seat : PinSeatState) (recent old : List CachedTile) (t : CachedTile)
      → Are seat recent old (Some t) → length old < max_holds
      → Are seat recent (old ++ t ∷ []) None
  held_more seat recent old t are room = record {
    pins = λ f.
        let g = λ (tile : CachedTile). f tile.key in
        omega (arith, are.pins f, sum_by-append g old (t ∷ []), sum_by-cons g t []);
    hand_cell = tt;
    recent_cells = are.recent_cells;
    hold_cells = All-append (FitsCut files cut) old (t ∷ []) are.hold_cells
        (All-cons (FitsCut files cut) t [] are.hand_cell (All-nil (FitsCut files cut)));
    two_latest = are.two_latest;
    few = omega (arith, room, length-append old (t ∷ []));
    some = are.some;
  }
