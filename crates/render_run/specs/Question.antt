-- What does a request ask of its worker? (docs/REQUESTS.md, "The forms")
use Rattle.std.specs.Prelude.{◌≡◌, ◌⊎◌, ℕ, ◌*◌, ◌==◌, nat_lt, Bool, true, false}
use Rattle.std.specs.Prelude.{IsTrue, List, [], ◌∷◌, Option, None, ⊤}
use Rattle.texel_values.specs.Region.{max_texels}
use Rattle.pinned_tiles.specs.Pinned.{max_holds}
use Rattle.request_lang.specs.declared.request.Request.{Request}
use Rattle.request_lang.specs.declared.request.Request.TheVariants as request
use Rattle.request_lang.specs.RequestForm.{has_channels, HasFootprint}
use Rattle.texture_sys.specs.declared.lookup_request.LookupRequest.{LookupRequest}
use Rattle.texture_sys.specs.declared.lookup_request.LookupRequest.TheVariants.{Point, Footprint}
use Rattle.texture_sys.specs.Asked.{moved_to, MayBeLookedUp}
use Rattle.udim.specs.Udim.{udim_of, is_tile}
use Rattle.udim.specs.declared.file.Udim.{Udim}
use Rattle.udim.specs.declared.file.Udim.TheVariants.{Plain, Outside, Tile}
use Rattle.render_run.specs.declared.question.Question.{Question}
use Rattle.render_run.specs.declared.question.Question.TheVariants.{Facts, Values, Lookup, Hold}
use Rattle.render_run.specs.declared.question.Question.TheVariants.{Renewal}
use Rattle.render_run.specs.declared.question.Task.{Task}
use Rattle.render_run.specs.declared.question.Task.TheVariants as task

-- what is true of each request of a list: a lookup asks for what is allowed
pub record MayAsk (r : Request) : Type 0 where
  pub channels : IsTrue (has_channels r)
  pub footprint : HasFootprint r

-- What a worker is given for a lookup: the file with its name; or no file, if the coordinates lie
-- in no UDIM tile; or the file of the UDIM tile that contains them, with the place in it.
abbrev pub lookup_task : (List ℕ → Option ℕ) → LookupRequest → List ℕ → Udim → Task
lookup_task number_of r name Plain = task.Ask (number_of name) (Lookup r)
lookup_task number_of r name Outside = task.Ask None (Lookup r)
lookup_task number_of r name (Tile own s t) = task.Tile (number_of own) (Lookup (moved_to r s t))

-- what a worker is given for a request: a question about the file with its name, if the folder has
-- one, or a task without a file
abbrev pub task_of : (List ℕ → Option ℕ) → Request → Task
task_of number_of (request.Tex r name) =
    lookup_task number_of (Point r) name (udim_of name r.s r.t)
task_of number_of (request.Texd r name) =
    lookup_task number_of (Footprint r) name (udim_of name r.s r.t)
task_of number_of (request.Pixels level x y w h name) =
    task.Ask (number_of name) (Values (record { level = level; x = x; y = y; w = w; h = h }))
task_of number_of (request.Info name) = task.Ask (number_of name) Facts
task_of number_of (request.Hold level x y name) =
    task.Ask (number_of name) (Hold (record { level = level; x = x; y = y }))
task_of number_of request.Drop = task.Release
task_of number_of (request.Invalidate name) = task.Ask (number_of name) (Renewal false)
task_of number_of (request.Renew name) = task.Ask (number_of name) (Renewal true)
task_of number_of request.InvalidateAll = task.RenewAll
task_of number_of request.Stat = task.Count
task_of number_of request.Sync = task.Sync

-- What a worker was given for a lookup: the right task, or the note that memory ran out for the
-- name of a UDIM tile.
abbrev pub IsLookupOf : (List ℕ → Option ℕ) → LookupRequest → List ℕ → Udim → Task → Type 0
IsLookupOf number_of r name means given = (given ≡ lookup_task number_of r name means)
    ⊎ ((given ≡ task.Unnamed) × IsTrue (is_tile means))

-- what a worker was given for a request
abbrev pub IsGivenOf : (List ℕ → Option ℕ) → Request → Task → Type 0
IsGivenOf number_of (request.Tex r name) given =
    IsLookupOf number_of (Point r) name (udim_of name r.s r.t) given
IsGivenOf number_of (request.Texd r name) given =
    IsLookupOf number_of (Footprint r) name (udim_of name r.s r.t) given
IsGivenOf number_of r given = given ≡ task_of number_of r

-- each request has its task, in order
abbrev pub AreGivenOf : (List ℕ → Option ℕ) → List Request → List Task → Type 0
AreGivenOf number_of [] [] = ⊤
AreGivenOf number_of [] (t ∷ tasks) = ⊥
AreGivenOf number_of (r ∷ requests) [] = ⊥
AreGivenOf number_of (r ∷ requests) (t ∷ tasks) =
    IsGivenOf number_of r t × AreGivenOf number_of requests tasks

-- the file of a task, if it has one
abbrev pub file_in : Task → Option ℕ
file_in (task.Ask file q) = file
file_in (task.Tile file q) = file
file_in task.Unnamed = None
file_in task.Release = None
file_in task.RenewAll = None
file_in task.Count = None
file_in task.Sync = None

-- the file of a task, if it has the request's own name
abbrev pub own_file_in : Task → Option ℕ
own_file_in (task.Ask file q) = file
own_file_in (task.Tile file q) = None
own_file_in task.Unnamed = None
own_file_in task.Release = None
own_file_in task.RenewAll = None
own_file_in task.Count = None
own_file_in task.Sync = None

-- a lookup asks for what is allowed
abbrev pub MayBeAsked : Question → Type 0
MayBeAsked (Lookup r) = MayBeLookedUp r
MayBeAsked Facts = ⊤
MayBeAsked (Values region) = ⊤
MayBeAsked (Hold at) = ⊤
MayBeAsked (Renewal force) = ⊤

-- a task with a file asks for what is allowed
abbrev pub AsksWell : Task → Type 0
AsksWell (task.Ask file q) = MayBeAsked q
AsksWell (task.Tile file q) = MayBeAsked q
AsksWell task.Unnamed = ⊤
AsksWell task.Release = ⊤
AsksWell task.RenewAll = ⊤
AsksWell task.Count = ⊤
AsksWell task.Sync = ⊤

-- whether a region has more texels than are allowed
abbrev pub is_too_large : Question → Bool
is_too_large (Values region) = nat_lt max_texels (region.w * region.h)
is_too_large Facts = false
is_too_large (Lookup r) = false
is_too_large (Hold at) = false
is_too_large (Renewal force) = false

-- whether one more tile is to be held than a worker with this many holds may hold
abbrev pub is_full : ℕ → Question → Bool
is_full held (Hold at) = held == max_holds
is_full held Facts = false
is_full held (Values region) = false
is_full held (Lookup r) = false
is_full held (Renewal force) = false
