-- How many bytes are kept once a file's are taken out or put?
use Rattle.std.proofs.Common.{◌≡◌, ℕ, ◌+◌, ◌-◌, ◌≤◌, Bool, List, [], ◌∷◌, take, zero, suc}
use Rattle.std.proofs.Common.{Option, Some, None, arith}
use Rattle.std.specs.Option.{option_map_or}
use Rattle.std.specs.Map.{lookup, lookup_entry, remove_entry, values_of}
use Rattle.std.proofs.lemmas.Map.Entries.{sum_by-remove_entry}
use Rattle.std.proofs.lemmas.List.Sums.{sum_by-cons}
use Rattle.lru.specs.LruCache.{LruCache, lru_cache, put_entries}
use Rattle.tap_reader.specs.ReadAhead.{AheadState}
use Rattle.file_table.specs.Aheads.{kept_bytes}

-- one more
kept-cons : (e : ℕ × AheadState) (es : List (ℕ × AheadState))
    → kept_bytes (e ∷ es) ≡ e.1.count + kept_bytes es
kept-cons e es = sum_by-cons (λ (a : AheadState). a.count) e.1 (values_of es)

-- fewer files have no more bytes of read-ahead
kept-take : (n : ℕ) (es : List (ℕ × AheadState)) → kept_bytes (take n es) ≤ kept_bytes es
kept-take zero es = omega arith
kept-take (suc n) [] = omega arith
kept-take (suc n) (e ∷ es) =
    let more : kept_bytes (e ∷ take n es) ≤ kept_bytes (e ∷ es) =
    omega (arith, kept-take n es, kept-cons e es, kept-cons e (take n es)) in more

-- the bytes kept and the bytes taken out add up to those before
kept-removed : (test : ℕ → Bool) (es : List (ℕ × AheadState)) (a : AheadState)
    → lookup test es ≡ Some a → kept_bytes (remove_entry test es) + a.count ≡ kept_bytes es
kept-removed test es a found =
    rw found at (sum_by-remove_entry (λ (b : AheadState). b.count) test es)

-- removing an entry leaves no more bytes
kept-fewer : (test : ℕ → Bool) (es : List (ℕ × AheadState))
    → kept_bytes (remove_entry test es) ≤ kept_bytes es
kept-fewer test es = omega (arith, sum_by-remove_entry (λ (b : AheadState). b.count) test es)

-- replacing an entry, or adding one in front, changes the bytes in this way
placed : (a : AheadState) (k all : ℕ) (rest before : List (ℕ × AheadState))
    → kept_bytes rest ≤ all → kept_bytes before ≤ all → (o : Option (ℕ × AheadState))
    → kept_bytes (option_map_or (λ e. (e.0, a) ∷ rest) o ((k, a) ∷ before)) ≤ a.count + all
placed a k all rest before fewer first None =
    let more : kept_bytes ((k, a) ∷ before) ≤ a.count + all =
    omega (arith, first, kept-cons (k, a) before) in more
placed a k all rest before fewer first (Some e) =
    let more : kept_bytes ((e.0, a) ∷ rest) ≤ a.count + all =
    omega (arith, fewer, kept-cons (e.0, a) rest) in more

-- what is put adds no more than its own
kept-put : (eq : ℕ → ℕ → Bool) (c : LruCache ℕ AheadState) (k : ℕ) (a : AheadState)
    → kept_bytes (put_entries eq c k a) ≤ a.count + kept_bytes c.entries
kept-put eq c k a =
    placed a k (kept_bytes c.entries) (remove_entry (eq k) c.entries) (take (c.cap - 1) c.entries)
    (kept-fewer (eq k) c.entries) (kept-take (c.cap - 1) c.entries) (lookup_entry (eq k) c.entries)

-- after a `pop`
pub kept-popped : (test : ℕ → Bool) (old new : LruCache ℕ AheadState)
    → new ≡ lru_cache (remove_entry test old.entries) old.cap
    → kept_bytes new.entries ≤ kept_bytes old.entries
kept-popped test old new popped = rw popped (kept-fewer test old.entries)

-- after one that took something out
pub kept-popped-one : (test : ℕ → Bool) (old new : LruCache ℕ AheadState) (a : AheadState)
    → new ≡ lru_cache (remove_entry test old.entries) old.cap → lookup test old.entries ≡ Some a
    → kept_bytes new.entries + a.count ≡ kept_bytes old.entries
kept-popped-one test old new a popped found = rw popped (kept-removed test old.entries a found)

-- after a `push`
pub kept-pushed : (eq : ℕ → ℕ → Bool) (old new : LruCache ℕ AheadState) (k : ℕ) (a : AheadState)
    → new ≡ lru_cache (put_entries eq old k a) old.cap
    → kept_bytes new.entries ≤ a.count + kept_bytes old.entries
kept-pushed eq old new k a pushed = rw pushed (kept-put eq old k a)
