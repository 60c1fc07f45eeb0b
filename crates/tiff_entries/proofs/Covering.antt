-- The first entries of the tags, one entry after the other.
use Rattle.tiff_format.specs.declared.form.Form.{Form}
use Rattle.std.proofs.Common.{◌≡◌, ℕ, zero, suc, ◌+◌, ◌*◌, ◌<◌, Bool, true, false, cond, eqb, List}
use Rattle.std.proofs.Common.{get_or, Option, Some, None, ◌≤◌, ◌≢◌, length, set, get_or-set_other}
use Rattle.std.proofs.Common.{get_or-set_same, length-set, below_more, add-one, eq-eqb, ne_eqb}
use Rattle.std.proofs.Common.{refl, ap, ◌∙◌, arith}
use Rattle.std.specs.Option.{option_or}
use Rattle.tiff_entries.specs.declared.entry.Entry.{Entry}
use Rattle.tiff_format.specs.Bytes.{number_at}
use Rattle.tiff_format.specs.Form.{count_bytes, entry_bytes, tag_bytes}
use Rattle.tiff_format.specs.Directory.{entry_count}
use Rattle.tiff_format.specs.Field.{first_entry, field_place}
use Rattle.tiff_entries.specs.Entries.{IsEntry, IsKept, Covers, HasEntries, tags, tag_count, noted}

or_of_cond : (b : Bool) (x : ℕ) (a c : Option ℕ)
    → cond b (Some x) (option_or a c) ≡ option_or (cond b (Some x) a) c
or_of_cond true x a c = refl
or_of_cond false x a c = refl

-- the first entry of a tag among one more entry
first_entry_more : (form : Form) (tag : ℕ) (bytes : List ℕ) (place n : ℕ)
    → first_entry form tag bytes place (suc n)
    ≡ option_or (first_entry form tag bytes place n)
    (cond (eqb (number_at form.big tag_bytes bytes (place + entry_bytes form * n)) tag)
    (Some (place + entry_bytes form * n)) None)
unfolding first_entry
first_entry_more form tag bytes place zero =
    let here : place + entry_bytes form * 0 ≡ place = omega arith in
    rw here refl
first_entry_more form tag bytes place (suc n) =
    let size = entry_bytes form in
    let there : place + size + size * n ≡ place + size * suc n = omega arith in
    let later = rw there at (first_entry_more form tag bytes (place + size) n) in
    ap (λ (f : Option ℕ).
    cond (eqb (number_at form.big tag_bytes bytes place) tag) (Some place) f) later
    ∙ or_of_cond (eqb (number_at form.big tag_bytes bytes place) tag) place
    (first_entry form tag bytes (place + size) n)
    (cond (eqb (number_at form.big tag_bytes bytes (place + size * suc n)) tag)
    (Some (place + size * suc n)) None)

kept_more : (form : Form) (bytes : List ℕ) (b : Bool) (old : Option Entry) (entry : Entry)
    (f : Option ℕ) (place : ℕ)
    → IsKept form bytes old f → entry.form ≡ form → IsEntry bytes place entry
    → IsKept form bytes (cond b (option_or old (Some entry)) old)
    (option_or f (cond b (Some place) None))
kept_more form bytes true None entry None place kept same is = (same, is)
kept_more form bytes true (Some e) entry (Some p) place kept same is = kept
kept_more form bytes true None entry (Some p) place kept same is = absurd kept
kept_more form bytes true (Some e) entry None place kept same is = absurd kept
kept_more form bytes false None entry None place kept same is = kept
kept_more form bytes false (Some e) entry (Some p) place kept same is = kept
kept_more form bytes false None entry (Some p) place kept same is = absurd kept
kept_more form bytes false (Some e) entry None place kept same is = absurd kept

-- after one more entry is noted, one more is covered
pub covers_more : (form : Form) (bytes : List ℕ) (first n tag : ℕ) (entry : Entry)
    (old new : List (Option Entry))
    → Covers form bytes first n old
    → ((t : ℕ) → t < tag_count → get_or new t None ≡ noted tag entry t (get_or old t None))
    → tag ≡ number_at form.big tag_bytes bytes (first + entry_bytes form * n) → entry.form ≡ form
    → IsEntry bytes (first + entry_bytes form * n) entry
    → Covers form bytes first (n + 1) new
covers_more form bytes first n tag entry old new covers notes tag-is same is t lt =
    let k = kept_more form bytes (eqb tag (get_or tags t 0)) (get_or old t None) entry
    (first_entry form (get_or tags t 0) bytes first n) (first + entry_bytes form * n)
    (covers t lt) same is in
    rw (add-one n, notes t lt, first_entry_more form (get_or tags t 0) bytes first n, ← tag-is) k

pub covers_none : (form : Form) (bytes : List ℕ) (first : ℕ) (entries : List (Option Entry))
    → ((t : ℕ) → t < tag_count → get_or entries t None ≡ None) → Covers form bytes first 0 entries
unfolding first_entry
covers_none form bytes first entries none t lt = rw (none t lt) tt

-- ---- noting an entry, tag by tag

-- what is true of the tags below t, and from t on, while an entry is noted
pub record IsNoted (tag : ℕ) (entry : Entry) (t : ℕ) (old new : List (Option Entry)) : Type 0 where
  pub long : length new ≡ tag_count
  pub below : (u : ℕ) → u < t → get_or new u None ≡ noted tag entry u (get_or old u None)
  pub above : (u : ℕ) → t ≤ u → get_or new u None ≡ get_or old u None

pub noted_here : (tag : ℕ) (entry : Entry) (t : ℕ) (old mid : List (Option Entry))
    → IsNoted tag entry t old mid
    → t < tag_count → tag ≡ get_or tags t 0
    → IsNoted tag entry (t + 1) old (set mid t (option_or (get_or mid t None) (Some entry)))
noted_here tag entry t old mid so below is =
    let lt : t < length mid = omega (arith, so.long) in
    record {
      long = length-set mid t (option_or (get_or mid t None) (Some entry)) ∙ so.long;
      below = below_more _ _
          (λ u below. let ne : u ≢ t = omega arith in rw get_or-set_other (so.below u below))
          (rw (
            get_or-set_same mid t (option_or (get_or mid t None) (Some entry)) None lt,
            eq-eqb tag (get_or tags t 0) is,
            so.above t (omega arith),
          ) refl);
      above = λ u le. let ne : u ≢ t = omega arith in
          rw get_or-set_other (so.above u (omega arith));
    }

pub noted_past : (tag : ℕ) (entry : Entry) (t : ℕ) (old mid : List (Option Entry))
    → IsNoted tag entry t old mid
    → (tag ≡ get_or tags t 0 → ⊥)
    → IsNoted tag entry (t + 1) old mid
noted_past tag entry t old mid so is = record {
  long = so.long;
  below = below_more _ _ so.below (rw (ne_eqb tag (get_or tags t 0) is) (so.above t (omega arith)));
  above = λ u le. so.above u (omega arith);
}

-- ---- the whole directory

pub has_entries : (form : Form) (bytes : List ℕ) (at n : ℕ) (entries : List (Option Entry))
    → n ≡ entry_count form bytes at → Covers form bytes (at + count_bytes form) n entries
    → HasEntries form bytes at entries
unfolding field_place
has_entries form bytes at n entries n-is covers t lt =
    let first : at + count_bytes form + entry_bytes form * 0 ≡ at + count_bytes form =
    omega arith in
    rw (first, ← n-is) (covers t lt)
