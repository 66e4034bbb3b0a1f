-- Store tables and confirmed lists, as document 01's 'Stores and confirmed lists' lays them down. Assumes nothing.
use Rattle.std.specs.Prelude.{ℕ, suc, ◌+◌, ◌*◌, ◌<◌, ◌≡◌, Bool, true, cond, ◌&&◌, List, [], ◌∷◌, map, eqb, leb, length, take, drop, None, Option, Some}
use Rattle.std.proofs.Math.Option.{some}
use Rattle.std.proofs.Math.ListN.{get_elem?}
use Rattle.little_endian.specs.Bytes.{le_at}
use Rattle.slices.specs.Text.{all_ascii}
use Rattle.store_table.specs.Names.{has}

-- "Modes: 0 read-write, 1 read-only, 2 write-only"
abbrev pub read_write : ℕ
read_write = 0

abbrev pub read_only : ℕ
read_only = 1

abbrev pub write_only : ℕ
write_only = 2

-- an entry of a table or a list: its mode and its name
pub record Entry : Type 0 where
  pub mode : ℕ
  pub name : List ℕ

-- "two parallel arrays of count bytes, modes and name lengths, then total bytes of names in order"
unfoldable pub entries_from : List ℕ → List ℕ → List ℕ → List Entry
entries_from [] ls bs = []
entries_from (m ∷ ms) [] bs = []
entries_from (m ∷ ms) (l ∷ ls) bs = record { mode = m; name = take l bs } ∷ entries_from ms ls (drop l bs)

-- where each part begins: "count (2 bytes, at most 64), total (2 bytes), then two parallel arrays of count bytes"
abbrev pub modes_start : ℕ
modes_start = 4

abbrev pub lengths_start : ℕ → ℕ
lengths_start count = modes_start + count

abbrev pub names_start : ℕ → ℕ
names_start count = modes_start + 2 * count

unfoldable pub count_in : List ℕ → ℕ
unfolding le_at
count_in s = le_at s 0 2

unfoldable pub total_in : List ℕ → ℕ
unfolding le_at
total_in s = le_at s 2 2

abbrev pub modes_in : List ℕ → List ℕ
modes_in s = take (count_in s) (drop modes_start s)

abbrev pub lengths_in : List ℕ → List ℕ
lengths_in s = take (count_in s) (drop (lengths_start (count_in s)) s)

abbrev pub name_bytes_in : List ℕ → List ℕ
name_bytes_in s = drop (names_start (count_in s)) s

unfoldable pub entries_in : List ℕ → List Entry
unfolding count_in entries_from
entries_in s = entries_from (modes_in s) (lengths_in s) (name_bytes_in s)

unfoldable pub sum : List ℕ → ℕ
sum [] = 0
sum (l ∷ ls) = l + sum ls

unfoldable pub all_at_most : ℕ → List ℕ → Bool
all_at_most k [] = true
all_at_most k (m ∷ ms) = leb m k && all_at_most k ms

-- "A table or list that breaks none of this is well-made", with modes of at most `most`: "at most 64"; "lengths sum to total";
-- "each below 128"; "nothing else"
unfoldable pub well_made : ℕ → List ℕ → Bool
unfolding count_in total_in sum all_at_most all_ascii
well_made most s =
    leb modes_start (length s) && leb (count_in s) 64 && eqb (length s) (names_start (count_in s) + total_in s) && eqb (sum (lengths_in s)) (total_in s)
    && all_at_most most (modes_in s) && all_ascii (name_bytes_in s)

-- a store table: no mode is above the last
abbrev pub is_table : List ℕ → Bool
is_table = well_made write_only

-- "A confirmed list has modes 0"
abbrev pub is_list : List ℕ → Bool
is_list = well_made read_write

-- "0 and 1 are readable"
unfoldable pub is_readable : ℕ → Bool
is_readable mode = leb mode read_only

-- the names of entries, whatever their modes
unfoldable pub all_names : List Entry → List (List ℕ)
all_names es = map (λ e. e.name) es

-- the names of the write-only stores
unfoldable pub write_only_names : List Entry → List (List ℕ)
write_only_names [] = []
write_only_names (e ∷ es) = let ns = write_only_names es in cond (eqb e.mode write_only) (e.name ∷ ns) ns

-- how many readable stores are confirmed
unfoldable pub ready_count : List Entry → List (List ℕ) → ℕ
unfolding is_readable has
ready_count [] names = 0
ready_count (e ∷ es) names = let n = ready_count es names in cond (is_readable e.mode && has e.name names) (suc n) n

-- 18: the lowest index whose name an earlier store has; `seen` are the names before index i
unfoldable pub twin_from : List (List ℕ) → ℕ → List Entry → Option ℕ
unfolding has
twin_from seen i [] = None
twin_from seen i (e ∷ es) = let r = twin_from (e.name ∷ seen) (suc i) es in cond (has e.name seen) (Some i) r

unfoldable pub twin_of : List Entry → Option ℕ
unfolding twin_from
twin_of es = twin_from [] 0 es

-- "no name twice": no two entries, at indices i and j, have one name
abbrev pub Distinct : List Entry → Type 0
Distinct es = (i j : ℕ) (d e : Entry) → i < j → get_elem? es i ≡ some d → get_elem? es j ≡ some e → d.name ≡ e.name → ⊥
