-- A walk over the entries of a table or a list, by their modes, their lengths and where the next name begins. Assumes nothing.
use mathlib.Core.Path.{◌≡◌, refl, sym, ap, ◌∙◌}
use mathlib.Core.List.{List, [], ◌∷◌}
use Prim.Native.Nat.{ℕ, zero, suc, ◌+◌, ◌-◌, ◌*◌, ◌≤◌, ◌<◌}
use native.Mathlib.Numerals.{add-one}
use native.Mathlib.Omega.{arith}
use lib.ListN.{length, take, drop, get_or, length-drop}
use lib.Seq.{length-take-le, take_all, drop-nil, drop-cons, drop-drop}
use Rattle.slices.specs.Text.{AllBytes}
use Rattle.little_endian.proofs.Laws.BytesLaws.{bytes_at}
use Rattle.store_table.specs.Stores.{modes_start, lengths_start, names_start, Entry, entries_from, entries_in, count_in, modes_in, lengths_in, name_bytes_in, sum}
use Rattle.store_table.specs.Inner.Bounds.{TableInBounds}
use Rattle.store_table.proofs.Laws.PartLaws.{part_get}
use Rattle.store_table.specs.Inner.Index.{EntryAt, EntryWalk, NameAt, length_at, name_start_at}

-- ---- there are as many entries as the count says
length_from : (n : ℕ) (ms ls bs : List ℕ) → length ms ≡ n → length ls ≡ n → length (entries_from ms ls bs) ≡ n
unfolding entries_from
length_from n [] ls bs p q = p
length_from n (m ∷ ms) [] bs p q = q
length_from n (m ∷ ms) (l ∷ ls) bs p q =
    let e = length_from (length ms) ms ls (drop l bs) refl (omega arith) in
    omega arith

pub length_entries : (s : List ℕ) → TableInBounds s → length (entries_in s) ≡ count_in s
unfolding entries_in
length_entries s h =
    length_from (count_in s) (modes_in s) (lengths_in s) _ (length-take-le _ _ (simp length-drop (omega arith)))
    (length-take-le _ _ (simp length-drop (omega arith)))

pub entries_all : (s : List ℕ) (count : ℕ) → TableInBounds s → count ≡ count_in s → take count (entries_in s) ≡ entries_in s
entries_all s count h e = take_all count (entries_in s) (omega (arith, length_entries s h))

-- there is an entry at each index below the count, and its mode is the byte of that index among the modes
pub entry_there : (s : List ℕ) (k : ℕ) → TableInBounds s → k < count_in s → (x : Entry) × EntryAt (entries_in s) k x
entry_there s k h lt =
    let nameless : Entry = record { mode = 0; name = [] } in
    (get_or (entries_in s) k nameless, drop-cons (entries_in s) k nameless (omega (arith, length_entries s h)) ∙ rw add-one)

mode_from : (ms ls bs : List ℕ) (k : ℕ) {x : Entry} {xs : List Entry} → drop k (entries_from ms ls bs) ≡ x ∷ xs → get_or ms k 0 ≡ x.mode
unfolding entries_from
mode_from [] ls bs k e = absurd (let z : ◌≡◌ {A = ℕ} 0 1 = cc (drop-nil {A = Entry} k) in omega arith)
mode_from (m ∷ ms) [] bs k e = absurd (let z : ◌≡◌ {A = ℕ} 0 1 = cc (drop-nil {A = Entry} k) in omega arith)
mode_from (m ∷ ms) (l ∷ ls) bs zero e = cc
mode_from (m ∷ ms) (l ∷ ls) bs (suc k) e = mode_from ms ls (drop l bs) k e

pub mode_of : (s : List ℕ) (k : ℕ) {x : Entry} → TableInBounds s → k < count_in s → EntryAt (entries_in s) k x → get_or s (modes_start + k) 0 ≡ x.mode
unfolding entries_in
mode_of s k h lt e = sym (part_get s modes_start (count_in s) k lt) ∙ mode_from (modes_in s) (lengths_in s) (name_bytes_in s) k e

-- the length of its name is the byte of that index among the lengths
pub length_of : (s : List ℕ) {count : ℕ} (k : ℕ) → TableInBounds s → count ≡ count_in s → k < count → get_or s (lengths_start count + k) 0 ≡ length_at s k
length_of s k h e lt = rw e (sym (part_get s (lengths_start (count_in s)) (count_in s) k (omega arith)))

-- ---- where each name begins: after the lengths before it
entries_of_none : (ms bs : List ℕ) → entries_from ms [] bs ≡ []
unfolding entries_from
entries_of_none [] bs = refl
entries_of_none (m ∷ ms) bs = refl

-- the entries from k on are cut from where name k begins
rest_from : (ms ls bs : List ℕ) (k : ℕ) → drop k (entries_from ms ls bs) ≡ entries_from (drop k ms) (drop k ls) (drop (sum (take k ls)) bs)
unfolding entries_from sum
rest_from ms ls bs zero = refl
rest_from [] ls bs (suc k) = refl
rest_from (m ∷ ms) [] bs (suc k) = sym (entries_of_none (drop k ms) bs)
rest_from (m ∷ ms) (l ∷ ls) bs (suc k) = rest_from ms ls (drop l bs) k ∙ rw drop-drop

pub name_start_first : (s : List ℕ) → name_start_at s 0 ≡ names_start (count_in s)
unfolding sum
name_start_first s = omega arith

sum_next : (ls : List ℕ) (k : ℕ) → k < length ls → sum (take (suc k) ls) ≡ sum (take k ls) + get_or ls k 0
unfolding sum
sum_next [] k lt = absurd (omega arith)
sum_next (l ∷ ls) zero lt = omega arith
sum_next (l ∷ ls) (suc k) lt = let z = sum_next ls k (omega arith) in omega arith

sum_parts : (ls : List ℕ) (k : ℕ) → sum (take k ls) + sum (drop k ls) ≡ sum ls
unfolding sum
sum_parts [] zero = omega arith
sum_parts [] (suc k) = omega arith
sum_parts (l ∷ ls) zero = omega arith
sum_parts (l ∷ ls) (suc k) = omega (arith, sum_parts ls k)

sum_small : (ls : List ℕ) (k : ℕ) → AllBytes ls → sum (take k ls) ≤ 255 * k
unfolding sum
sum_small [] zero b = omega arith
sum_small [] (suc k) b = omega arith
sum_small (l ∷ ls) zero b = omega arith
sum_small (l ∷ ls) (suc k) b = omega (arith, b 0, sum_small ls k (λ i. b (suc i)))

-- no name begins so late that two bytes could not say where
pub name_start_small : (s : List ℕ) (k : ℕ) → TableInBounds s → AllBytes s → k ≤ 64 → name_start_at s k < 65536
name_start_small s k h b le =
    omega (arith, h.few, sum_small (lengths_in s) k (bytes_at s (lengths_start (count_in s)) (count_in s) b))

-- a walk is there after the lengths before each entry
pub walk_at : (s : List ℕ) (k : ℕ) {start : ℕ} → TableInBounds s → start ≡ name_start_at s k → EntryWalk s (count_in s) k start
unfolding entries_in
walk_at s k h e =
    record {
      in_bounds = h;
      counted = refl;
      fills = omega (arith, e, sum_parts (lengths_in s) k, h.names);
      rest = rest_from (modes_in s) (lengths_in s) (name_bytes_in s) k ∙ rw (e, drop-drop);
    }

lengths_count : (s : List ℕ) → TableInBounds s → length (lengths_in s) ≡ count_in s
lengths_count s h = length-take-le _ _ (simp length-drop (omega arith))

pub name_start_next : (s : List ℕ) (k : ℕ) → TableInBounds s → k < count_in s → name_start_at s k + length_at s k ≡ name_start_at s (k + 1)
name_start_next s k h lt = omega (arith, rw (← add-one) at (sum_next (lengths_in s) k (omega (arith, lengths_count s h))))

pub standing_start : (s : List ℕ) (count : ℕ) → TableInBounds s → count ≡ count_in s → EntryWalk s count 0 (names_start count)
standing_start s count h e = rw e (walk_at s 0 h (sym (name_start_first s)))

-- entry k, whose name has the bytes from `at` up to `at + len`
abbrev pub entry_at : List ℕ → ℕ → ℕ → ℕ → Entry
entry_at s k at len = record { mode = get_or (modes_in s) k 0; name = take (at + len - at) (drop at s) }

-- one entry more, of this length
module _ {s : List ℕ} {count k at : ℕ} (h : EntryWalk s count k at) (lt : k < count) {len : ℕ} (e : len ≡ length_at s k) where
  mode_on : drop k (modes_in s) ≡ get_or (modes_in s) k 0 ∷ drop (k + 1) (modes_in s)
  mode_on =
      let n : length (modes_in s) ≡ count_in s = length-take-le _ _ (simp length-drop (omega (arith, h.in_bounds.arrays))) in
      drop-cons (modes_in s) k 0 (omega (arith, h.counted)) ∙ rw add-one

  length_on : drop k (lengths_in s) ≡ len ∷ drop (k + 1) (lengths_in s)
  length_on = drop-cons (lengths_in s) k 0 (omega (arith, h.counted, lengths_count s h.in_bounds)) ∙ rw (e, add-one)

  rest_on : drop k (entries_in s) ≡ entry_at s k at len ∷ entries_from (drop (k + 1) (modes_in s)) (drop (k + 1) (lengths_in s)) (drop (at + len) s)
  unfolding entries_from
  rest_on =
      let p : at + len - at ≡ len = omega arith in
      h.rest ∙ rw (p, mode_on, length_on, drop-drop)

  pub standing_within : at + len + sum (drop (k + 1) (lengths_in s)) ≤ length s
  unfolding sum
  standing_within = let z = rw length_on at h.fills in omega (arith, z)

  pub standing_next : EntryWalk s count (k + 1) (at + len)
  standing_next =
      record {
        in_bounds = h.in_bounds;
        counted = h.counted;
        fills = standing_within;
        rest = sym (drop-drop 1 k (entries_in s)) ∙ ap (drop 1) rest_on;
      }

  pub standing_here : drop k (entries_in s) ≡ entry_at s k at len ∷ drop (k + 1) (entries_in s)
  standing_here = rest_on ∙ rw standing_next.rest

-- one entry more, k, of a table or a list
module _ {s : List ℕ} {k start : ℕ} (h : EntryWalk s (count_in s) k start) (lt : k < count_in s) where
  pub name_within : start + length_at s k ≤ length s
  name_within = omega (arith, standing_within h lt refl)

  -- what the bytes from there on say
  pub name_here : {len : ℕ} → len ≡ length_at s k → len < 256 → NameAt s k start (take (start + len - start) (drop start s))
  name_here {len} q few =
      let (x, e) = entry_there s k h.in_bounds lt in
      let f = standing_here h lt q in
      let fits : start + len ≤ length s = omega (arith, name_within) in
      let n : length (take (start + len - start) (drop start s)) ≡ len = length-take-le _ _ (simp length-drop (omega arith)) ∙ omega arith in
      record {
        entry = x;
        here = e;
        named = let w : x ≡ entry_at s k start len = cc in rw w;
        long = omega arith;
        within = omega arith;
        small = omega arith;
      }
