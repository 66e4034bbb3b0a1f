-- An index of a table's names, the marks of confirmed stores, and what a lookup finds. What deciding and checking answer
-- depends on none of this. Assumes nothing.
use Rattle.std.specs.Prelude.{ℕ, ◌+◌, ◌-◌, ◌*◌, ◌/◌, ◌%◌, ◌≤◌, ◌<◌, ◌≡◌, Bool, true, false, cond, List, ◌∷◌, leb, length, get_or, take, drop, None, Option, Some}
use Rattle.little_endian.specs.Bytes.{le_at}
use Rattle.store_table.specs.Names.{same_name, has}
use Rattle.store_table.specs.Stores.{Entry, entries_from, count_in, modes_in, lengths_in, names_start, entries_in, sum, all_names}
use Rattle.store_table.specs.Inner.Bounds.{TableInBounds}

-- a number made of a name's first and last bytes
unfoldable pub key_of : List ℕ → ℕ
unfolding le_at
key_of w =
    let n = length w in
    cond (leb 8 n) (le_at w 0 8 / 2 + le_at w (n - 8) 8 / 2)
    (cond (leb 4 n) (le_at w 0 4 + 65536 * le_at w (n - 4) 4)
    (cond (leb 1 n) (get_or w 0 0 + 256 * get_or w (n / 2) 0 + 65536 * get_or w (n - 1) 0) 0))

-- a name's slot, from 0 up to 511
unfoldable pub hash_of : List ℕ → ℕ
unfolding key_of
hash_of w = (key_of w / 4294967296 + key_of w % 4294967296) * 1640531527 / 16777216 % 512

-- where a walk is after k entries: the next name begins at `at`, the names that are left lie within the bytes, and the
-- entries that are left are cut from there
pub record EntryWalk (s : List ℕ) (count k at : ℕ) : Type 0 where
  pub in_bounds : TableInBounds s
  pub counted : count ≡ count_in s
  pub fills : at + sum (drop k (lengths_in s)) ≤ length s
  pub rest : drop k (entries_in s) ≡ entries_from (drop k (modes_in s)) (drop k (lengths_in s)) (drop at s)

-- the length of the name of entry k
abbrev pub length_at : List ℕ → ℕ → ℕ
length_at s k = get_or (lengths_in s) k 0

-- where the name of entry k begins
abbrev pub name_start_at : List ℕ → ℕ → ℕ
name_start_at s k = names_start (count_in s) + sum (take k (lengths_in s))

-- entry k
abbrev pub EntryAt : List Entry → ℕ → Entry → Type 0
EntryAt es k x = drop k es ≡ x ∷ drop (k + 1) es

-- entry k has this name, of the length that the table says, and it lies within the bytes from `start` on
pub record NameAt (s : List ℕ) (k start : ℕ) (name : List ℕ) : Type 0 where
  pub entry : Entry
  pub here : EntryAt (entries_in s) k entry
  pub named : entry.name ≡ name
  pub long : length name ≡ length_at s k
  pub within : start + length name ≤ length s
  pub small : length name < 256

-- of a walk that has come to entry k: it gives entry i, whose name begins at `start`, and goes on to entry n
pub record Next (s : List ℕ) (k i start : ℕ) (name : List ℕ) (n : ℕ) : Type 0 where
  pub below : k < count_in s
  pub same : i ≡ k
  pub moved : n ≡ k + 1
  pub begins : start ≡ name_start_at s k
  pub at : NameAt s k start name

-- what a look for a name among the first entries finds
pub record Finds (w : List ℕ) (es : List Entry) (first : ℕ) (r : Option ℕ) : Type 0 where
  pub missing : r ≡ None → has w (all_names (take first es)) ≡ false
  pub there : (k : ℕ) → r ≡ Some k → (k < first) × ((x : Entry) × (EntryAt es k x × (same_name w x.name ≡ true)))

-- the first entries are indexed: where their names begin; each slot holds nothing (0) or one of them, plus 1; and the slot of
-- each of their names holds something
pub record Indexed (s : List ℕ) (first : ℕ) (starts slots : List ℕ) : Type 0 where
  pub begins : (k : ℕ) → k < first → EntryWalk s (count_in s) k (get_or starts k 0)
  pub kept : (h : ℕ) → get_or slots h 0 ≤ first
  pub filled : (w : List ℕ) → has w (all_names (take first (entries_in s))) ≡ true → get_or slots (hash_of w) 0 ≡ 0 → ⊥

-- all entries are indexed
abbrev pub IndexedAll : List ℕ → List ℕ → List ℕ → Type 0
IndexedAll s starts slots = Indexed s (count_in s) starts slots

-- nothing is written yet
abbrev pub Blank : List ℕ → Type 0
Blank xs = (i : ℕ) → get_or xs i 0 ≡ 0

-- no store is marked yet
abbrev pub Unmarked : List Bool → Type 0
Unmarked marks = (i : ℕ) → get_or marks i false ≡ false

-- a store is marked where its name is one of these
abbrev pub Marked : List Entry → List (List ℕ) → List Bool → Type 0
Marked es names marks = (k : ℕ) (x : Entry) → EntryAt es k x → get_or marks k false ≡ has x.name names
