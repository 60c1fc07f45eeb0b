-- What workers answered that were given what the requests ask, or no name of a tile.
use Rattle.std.proofs.Common.{◌≡◌, inl, inr, ℕ, suc, ◌+◌, ◌%◌, List, [], ◌∷◌, ◌++◌, map, length}
use Rattle.std.proofs.Common.{Option, Some, None, refl, sym, ap, subst, arith, set}
use Rattle.std.proofs.Common.{to_z, of_z, w32}
use Rattle.std.specs.Prelude.{IsTrue, ℤ}
use Rattle.std.proofs.lemmas.Int.{ints}
use Rattle.texel_filter.specs.Deriv.{IsDerivNumber}
use Rattle.tex_world.specs.World.{Files}
use Rattle.texture_sys.specs.declared.lookup_request.LookupRequest.{LookupRequest}
use Rattle.texture_sys.specs.declared.lookup_request.LookupRequest.TheVariants.{Point, Footprint}
use Rattle.texture_sys.specs.Asked.{moved_to, MayBeLookedUp}
use Rattle.udim.specs.Udim.{udim_of, is_tile, IsWithinTile, LiesWithin}
use Rattle.udim.specs.declared.file.Udim.{Udim}
use Rattle.udim.specs.declared.file.Udim.TheVariants as meant
use Rattle.request_lang.specs.declared.request.Request.{Request}
use Rattle.request_lang.specs.declared.request.Request.TheVariants as request
use Rattle.request_lang.specs.declared.answer.Answer.{Answer}
use Rattle.request_lang.specs.declared.answer.Answer.TheVariants.{NoMemory}
use Rattle.render_run.specs.declared.question.Question.TheVariants.{Lookup}
use Rattle.render_run.specs.declared.question.Task.{Task}
use Rattle.render_run.specs.declared.question.Task.TheVariants.{Tile, Unnamed}
use Rattle.render_run.specs.Around.{Sight, Terms, sight_at}
use Rattle.render_run.specs.Question.{task_of, lookup_task, IsLookupOf, IsGivenOf, AreGivenOf}
use Rattle.render_run.specs.Reply.{MeetsTask}
use Rattle.render_run.specs.Needed.{AreNeeded}
use Rattle.render_run.specs.Answering.{AnswersTask, AnswersInTurn}

-- ---- what is given of requests

-- one more request and its task
pub given_push : (number_of : List ℕ → Option ℕ) (requests : List Request) (tasks : List Task)
    (r : Request) (t : Task) → AreGivenOf number_of requests tasks → IsGivenOf number_of r t
    → AreGivenOf number_of (requests ++ r ∷ []) (tasks ++ t ∷ [])
given_push number_of [] [] r t all one = (one, tt)
given_push number_of [] (u ∷ tasks) r t all one = absurd all
given_push number_of (q ∷ requests) [] r t all one = absurd all
given_push number_of (q ∷ requests) (u ∷ tasks) r t all one =
    (all.0, given_push number_of requests tasks r t all.1 one)

-- there is one for each
pub given_length : (number_of : List ℕ → Option ℕ) (requests : List Request) (tasks : List Task)
    → AreGivenOf number_of requests tasks → length tasks ≡ length requests
given_length number_of [] [] all = refl
given_length number_of [] (t ∷ tasks) all = absurd all
given_length number_of (r ∷ requests) [] all = absurd all
given_length number_of (r ∷ requests) (t ∷ tasks) all =
    ap suc (given_length number_of requests tasks all.1)

-- ---- lookups in tiles

number_within : (z : ℤ) → IsWithinTile z → IsDerivNumber z
number_within z within = record {
  low = omega (arith, ints, within.low);
  high = omega (arith, ints, within.high);
}

-- a lookup may be asked for in the tile in which it lies
moved_may : (r : LookupRequest) (s t : ℤ) → MayBeLookedUp r → IsWithinTile s → IsWithinTile t
    → MayBeLookedUp (moved_to r s t)
moved_may (Point r) s t may across down = may
moved_may (Footprint r) s t may across down = record {
  s = number_within s across;
  t = number_within t down;
  dsdx = may.dsdx;
  dtdx = may.dtdx;
  dsdy = may.dsdy;
  dtdy = may.dtdy;
  channels = may.channels;
}

-- such a number is kept in 32 bits as it is
kept_within : (z : ℤ) → IsWithinTile z → to_z w32 (of_z w32 z) ≡ z
kept_within z within = omega (arith, ints, within.low, within.high)

pub tile_may : (r : LookupRequest) (means : Udim) (own : List ℕ) (s t : ℤ)
    → means ≡ meant.Tile own s t → LiesWithin means → MayBeLookedUp r
    → MayBeLookedUp (moved_to r (to_z w32 (of_z w32 s)) (to_z w32 (of_z w32 t)))
tile_may r means own s t is lies may =
    let within : LiesWithin (meant.Tile own s t) = subst LiesWithin is lies in
    subst (λ (a : ℤ). MayBeLookedUp (moved_to r a (to_z w32 (of_z w32 t))))
    (sym (kept_within s within.0))
    (subst (λ (b : ℤ). MayBeLookedUp (moved_to r s b)) (sym (kept_within t within.1))
    (moved_may r s t may within.0 within.1))

-- ---- what was answered

module _ (files : Files) (terms : Terms) (old new : Sight) where
  -- the line for out of memory answers a lookup in a UDIM tile
  meets_none : (file : Option ℕ) (r : LookupRequest)
      → MeetsTask files terms old.holds (Tile file (Lookup r)) NoMemory
  meets_none None r = inr refl
  meets_none (Some n) r = record {
    too_large = λ large. absurd (cc (large));
    full = λ full. absurd (cc (full));
    of_file = λ small few. tt;
  }

  -- the line for out of memory needs no cell
  needs_none : (file : Option ℕ) (r : LookupRequest) (keys : List ℕ) → keys ≡ []
      → AreNeeded files terms.cut (Tile file (Lookup r)) NoMemory keys
  needs_none None r keys none = none
  needs_none (Some n) r keys none = none

  unnamed : (file : Option ℕ) (r : LookupRequest) → AnswersTask files terms Unnamed old new NoMemory
      → AnswersTask files terms (Tile file (Lookup r)) old new NoMemory
  unnamed file r one = record {
    meets = meets_none file r;
    pins = one.pins;
    after = record {
      later = one.after.later;
      permits = one.after.permits;
      fresh = λ n is. record {
        later = one.after.later n;
        early = λ g none. absurd (cc (none));
        late = λ g none. absurd (cc (none));
      };
      holds = one.after.holds;
      cause = one.after.cause;
      counts = one.after.counts;
    };
    tallies = record {
      needed = one.tallies.needed;
      are = needs_none file r one.tallies.needed one.tallies.are;
      few = one.tallies.few;
      least = one.tallies.least;
      later = one.tallies.later;
      counts = one.tallies.counts;
    };
  }

  module _ (number_of : List ℕ → Option ℕ) (r : LookupRequest) (name : List ℕ) (line : Answer)
      (one : AnswersTask files terms Unnamed old new line) where
    -- what the name means is the file of a tile
    in_tile : (means : Udim) → IsTrue (is_tile means)
        → AnswersTask files terms (lookup_task number_of r name means) old new line
    in_tile meant.Plain tile = absurd (cc (tile))
    in_tile meant.Outside tile = absurd (cc (tile))
    in_tile (meant.Tile own s t) tile =
        let given = Tile (number_of own) (Lookup (moved_to r s t)) in
        subst (λ (l : Answer). AnswersTask files terms Unnamed old new l
        → AnswersTask files terms given old new l) (sym one.meets)
        (unnamed (number_of own) (moved_to r s t)) one

  -- the lookup was answered
  look_answered : (number_of : List ℕ → Option ℕ) (r : LookupRequest) (name : List ℕ)
      (means : Udim) (t : Task) (line : Answer) → IsLookupOf number_of r name means t
      → AnswersTask files terms t old new line
      → AnswersTask files terms (lookup_task number_of r name means) old new line
  look_answered number_of r name means t line (inl is) one =
      subst (λ (u : Task). AnswersTask files terms u old new line) is one
  look_answered number_of r name means t line (inr none) one =
      in_tile number_of r name line
      (subst (λ (u : Task). AnswersTask files terms u old new line) none.0 one) means none.1

  -- the request was answered
  pub request_answered : (number_of : List ℕ → Option ℕ) (r : Request) (t : Task) (line : Answer)
      → IsGivenOf number_of r t → AnswersTask files terms t old new line
      → AnswersTask files terms (task_of number_of r) old new line
  request_answered number_of (request.Tex r name) t line given one =
      look_answered number_of (Point r) name (udim_of name r.s r.t) t line given one
  request_answered number_of (request.Texd r name) t line given one =
      look_answered number_of (Footprint r) name (udim_of name r.s r.t) t line given one
  request_answered number_of (request.Pixels level x y w h name) t line given one =
      subst (λ (u : Task). AnswersTask files terms u old new line) given one
  request_answered number_of (request.Info name) t line given one =
      subst (λ (u : Task). AnswersTask files terms u old new line) given one
  request_answered number_of (request.Hold level x y name) t line given one =
      subst (λ (u : Task). AnswersTask files terms u old new line) given one
  request_answered number_of request.Drop t line given one =
      subst (λ (u : Task). AnswersTask files terms u old new line) given one
  request_answered number_of (request.Invalidate name) t line given one =
      subst (λ (u : Task). AnswersTask files terms u old new line) given one
  request_answered number_of (request.Renew name) t line given one =
      subst (λ (u : Task). AnswersTask files terms u old new line) given one
  request_answered number_of request.InvalidateAll t line given one =
      subst (λ (u : Task). AnswersTask files terms u old new line) given one
  request_answered number_of request.Stat t line given one =
      subst (λ (u : Task). AnswersTask files terms u old new line) given one
  request_answered number_of request.Sync t line given one =
      subst (λ (u : Task). AnswersTask files terms u old new line) given one

-- the requests of a round were answered in turn
pub turns_named : (files : Files) (terms : Terms) (number_of : List ℕ → Option ℕ) (n i : ℕ)
    (requests : List Request) (tasks : List Task) (answers : List Answer) (old new : List Sight)
    → AreGivenOf number_of requests tasks
    → AnswersInTurn files terms n i tasks answers old new
    → AnswersInTurn files terms n i (map (task_of number_of) requests) answers old new
turns_named files terms number_of n i [] [] [] old new given turns = turns
turns_named files terms number_of n i [] [] (a ∷ answers) old new given turns = absurd turns
turns_named files terms number_of n i [] (t ∷ tasks) answers old new given turns = absurd given
turns_named files terms number_of n i (r ∷ requests) [] answers old new given turns = absurd given
turns_named files terms number_of n i (r ∷ requests) (t ∷ tasks) [] old new given turns = absurd turns
turns_named files terms number_of n i (r ∷ requests) (t ∷ tasks) (a ∷ answers) old new given turns = (
  turns.0,
  request_answered files terms (sight_at old (i % n)) turns.0 number_of r t a given.0 turns.1,
  turns_named files terms number_of n (i + 1) requests tasks answers
      (set old (i % n) turns.0) new given.1 turns.2,
)
