-- How is a board stored in its table, and a view in its seat and in the numbers that it keeps?
use Rattle.std.specs.Prelude.{◌≡◌, ℕ, List, [], length, slice_index}
use Rattle.atomic_table.specs.declared.shared.Seat.{Seat}
use Rattle.tex_world.specs.World.{Files}
use Rattle.tex_world.specs.Tap.{IsLeast}
use Rattle.gen_board.specs.View.{ViewState}
use Rattle.gen_board.specs.Rule.{word_count}
use Rattle.gen_board.specs.declared.sight.Sight.{Sight}

-- The table was made for this number of files, and has their words.
pub record IsLaid (files told laid : ℕ) : Type 0 where
  pub key : told ≡ files
  pub words : laid ≡ word_count files

-- the view of this seat, which keeps these numbers
abbrev pub view_state : Seat (Unit {0}) Sight → List ℕ → ViewState
view_state seat seen = record {
  board = record { files = length seen; table = seat.table_id };
  seen = seen;
  steps = seat.me.0.steps;
  looks = seat.me.0.looks;
  looked = seat.me.0.looked;
}

-- The seat knows exactly these numbers, and each is 0 or a generation that exists. It holds no
-- slot.
pub record IsSeated (world : Files) (seat : Seat (Unit {0}) Sight) (kept : List ℕ) : Type 0 where
  pub seen : seat.me.0.seen ≡ kept
  pub length_steps : length seat.me.0.steps ≡ length kept
  pub length_looks : length seat.me.0.looks ≡ length kept
  pub length_looked : length seat.me.0.looked ≡ length kept
  pub known : (file : ℕ) → IsLeast world file (slice_index kept file)
  pub slots : seat.me.1 ≡ []
