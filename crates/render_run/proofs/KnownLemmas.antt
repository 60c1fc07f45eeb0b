-- Which lookups are in the file of a name that is known?
use Rattle.std.proofs.Common.{◌≡◌, inl, inr, ℕ, List, Option, Some, None, refl, sym, ap, subst, ◌∙◌}
use Rattle.std.specs.Prelude.{ℤ}
use Rattle.tex_world.specs.World.{Files}
use Rattle.tex_world.specs.Folder.{FolderState}
use Rattle.texel_filter.specs.declared.request.TexRequest.{TexRequest}
use Rattle.texel_filter.specs.declared.request.DerivRequest.{DerivRequest}
use Rattle.request_lang.specs.declared.request.Request.{Request}
use Rattle.request_lang.specs.declared.request.Request.TheVariants as request
use Rattle.texture_sys.specs.declared.lookup_request.LookupRequest.{LookupRequest}
use Rattle.texture_sys.specs.declared.lookup_request.LookupRequest.TheVariants.{Point, Footprint}
use Rattle.udim.specs.Udim.{mark_at, marked, tile_of, tile_number, udim_of}
use Rattle.udim.specs.declared.file.Udim.{Udim}
use Rattle.udim.specs.declared.file.Udim.TheVariants as meant
use Rattle.render_run.specs.declared.question.Question.{Question}
use Rattle.render_run.specs.declared.question.Question.TheVariants.{Lookup}
use Rattle.render_run.specs.declared.question.Task.{Task}
use Rattle.render_run.specs.declared.question.Task.TheVariants as task
use Rattle.render_run.specs.declared.question.Task.TheVariants.{Ask}
use Rattle.render_run.specs.Question.{IsLookupOf, IsGivenOf, own_file_in}
use Rattle.render_run.specs.Answering.{MayBeGiven, IsKnown}

-- a name without a mark means its own file, wherever the lookup lies
means_plain : (name : List ℕ) (s t : ℤ) → mark_at name ≡ None → udim_of name s t ≡ meant.Plain
unfolding udim_of
means_plain name s t unmarked = rw unmarked refl

-- a name that means its own file has no mark
plain_unmarked : (name : List ℕ) (s t : ℤ) → udim_of name s t ≡ meant.Plain → mark_at name ≡ None
unfolding udim_of
plain_unmarked name s t is = by_mark (mark_at name) is
  where
    by_tile : (at : ℕ) (number : Option ℕ) → tile_of name s t at number ≡ meant.Plain
        → Some at ≡ None
    by_tile at None is = absurd cc
    by_tile at (Some number) is = absurd cc

    by_mark : (at : Option ℕ) → marked name s t at ≡ meant.Plain → at ≡ None
    by_mark None is = refl
    by_mark (Some at) is = by_tile at (tile_number s t) is

module _ (number_of : List ℕ → Option ℕ) (r : LookupRequest) (name : List ℕ) where
  -- a lookup in the file of a number
  asks : (means : Udim) (number : ℕ) (q : Question)
      → IsLookupOf number_of r name means (Ask (Some number) q)
      → (means ≡ meant.Plain) × (number_of name ≡ Some number)
  asks meant.Plain number q (inl is) = (refl, cc)
  asks meant.Outside number q (inl is) = absurd cc
  asks (meant.Tile own s t) number q (inl is) = absurd cc
  asks means number q (inr none) = absurd (cc (none.0))

module _ (files : Files) (folder : FolderState) (number : ℕ) where
  -- the name of a lookup in the file of a number is known
  known_by : (r : LookupRequest) (name : List ℕ) (s t : ℤ) (q : Question)
      → IsLookupOf folder.number_of r name (udim_of name s t) (Ask (Some number) q)
      → MayBeGiven files folder.size (Ask (Some number) q) → IsKnown files folder name number
  known_by r name s t q look may =
      let asked = asks folder.number_of r name (udim_of name s t) number q look in
      record {
        unmarked = plain_unmarked name s t asked.0;
        numbered = asked.1;
        low = may.number number refl;
        file = may.file number refl;
      }

  -- any task for a lookup, if it asks the file with the request's own name
  known_given : (r : LookupRequest) (name : List ℕ) (s t : ℤ) (given : Task)
      → own_file_in given ≡ Some number
      → IsLookupOf folder.number_of r name (udim_of name s t) given
      → MayBeGiven files folder.size given → IsKnown files folder name number
  known_given r name s t (task.Ask file q) is look may =
      known_by r name s t q
      (subst (λ (f : Option ℕ).
      IsLookupOf folder.number_of r name (udim_of name s t) (task.Ask f q)) is look)
      (subst (λ (f : Option ℕ). MayBeGiven files folder.size (task.Ask f q)) is may)
  known_given r name s t (task.Tile file q) is look may = absurd cc
  known_given r name s t task.Unnamed is look may = absurd cc
  known_given r name s t task.Release is look may = absurd cc
  known_given r name s t task.RenewAll is look may = absurd cc
  known_given r name s t task.Count is look may = absurd cc
  known_given r name s t task.Sync is look may = absurd cc

  module _ (asked : Request) (given : Task) (is : own_file_in given ≡ Some number)
      (look : IsGivenOf folder.number_of asked given) (may : MayBeGiven files folder.size given)
    where
      pub known_tex : (r : TexRequest) (name : List ℕ) → asked ≡ request.Tex r name
          → IsKnown files folder name number
      known_tex r name tex =
          known_given (Point r) name r.s r.t given is
          (subst (λ (a : Request). IsGivenOf folder.number_of a given) tex look) may

      pub known_texd : (r : DerivRequest) (name : List ℕ) → asked ≡ request.Texd r name
          → IsKnown files folder name number
      known_texd r name texd =
          known_given (Footprint r) name r.s r.t given is
          (subst (λ (a : Request). IsGivenOf folder.number_of a given) texd look) may

  -- a lookup whose name is known is given its file
  module _ (name : List ℕ) (known : IsKnown files folder name number) where
    look_known : (r : LookupRequest) (s t : ℤ)
        → IsLookupOf folder.number_of r name (udim_of name s t) (Ask (Some number) (Lookup r))
    look_known r s t =
        rw (means_plain name s t known.unmarked)
        (inl (ap (λ (file : Option ℕ). Ask file (Lookup r)) (sym known.numbered)))

    pub given_tex : (asked : Request) (r : TexRequest) (own : List ℕ) → asked ≡ request.Tex r own
        → own ≡ name → IsGivenOf folder.number_of asked (Ask (Some number) (Lookup (Point r)))
    given_tex asked r own tex same =
        let here : asked ≡ request.Tex r name =
        tex ∙ ap (λ (n : List ℕ). request.Tex r n) same in
        subst (λ (a : Request). IsGivenOf folder.number_of a (Ask (Some number) (Lookup (Point r))))
        (sym here) (look_known (Point r) r.s r.t)

    pub given_texd : (asked : Request) (r : DerivRequest) (own : List ℕ)
        → asked ≡ request.Texd r own → own ≡ name
        → IsGivenOf folder.number_of asked (Ask (Some number) (Lookup (Footprint r)))
    given_texd asked r own texd same =
        let here : asked ≡ request.Texd r name =
        texd ∙ ap (λ (n : List ℕ). request.Texd r n) same in
        subst (λ (a : Request).
        IsGivenOf folder.number_of a (Ask (Some number) (Lookup (Footprint r))))
        (sym here) (look_known (Footprint r) r.s r.t)
