-- The bytes of a table or a list that has given entries are well-made, and its entries are those. Assumes nothing.
use mathlib.Core.Path.{◌≡◌, refl, sym, ◌∙◌}
use mathlib.Core.Bool.{true}
use mathlib.Core.List.{List, [], ◌∷◌, ◌++◌, map, Memᴰ}
use Prim.Native.Nat.{ℕ, zero, suc, ◌+◌, ◌*◌, ◌≤◌}
use native.Mathlib.Omega.{arith}
use borrow.Author.Tests.{le-leb}
use lib.ListN.{length, take, drop, length-append, length-map}
use lib.Seq.{take-append_seam, drop-append_seam, take_at, drop_at, drop-drop}
use Rattle.little_endian.specs.Bytes.{le_bytes, le_at}
use Rattle.little_endian.proofs.Laws.BytesLaws.{le_number_le_bytes, bytes_append, bytes_number}
use Rattle.slices.specs.Text.{all_ascii, AllBytes}
use Rattle.slices.proofs.Laws.AsciiLaws.{bytes_ascii, append_ascii}
use Rattle.store_table.specs.Stores.{Entry, entries_from, entries_in, sum, all_at_most, well_made, modes_start, lengths_start, names_start}
use Rattle.store_table.specs.Inner.Bounds.{TableInBounds, count_start, total_start}
use Rattle.store_table.proofs.Laws.StoresLaws.{made_names, well_made_in_bounds}
use Rattle.store_table.specs.TableBytes.{modes, lengths, joined, table_of}

-- ---- how long the parts are
pub length_modes : (es : List Entry) → length (modes es) ≡ length es
unfolding modes
length_modes es = length-map es _

pub length_lengths : (es : List Entry) → length (lengths es) ≡ length es
unfolding lengths
length_lengths es = length-map es _

pub length_joined : (es : List Entry) → length (joined es) ≡ sum (lengths es)
unfolding lengths joined sum
length_joined [] = refl
length_joined (e ∷ es) = rw (length-append, length_joined es)

pub table_length : (es : List Entry) → length (table_of es) ≡ names_start (length es) + sum (lengths es)
unfolding table_of
table_length es = simp (length-append, length_modes, length_lengths, length_joined) (omega arith)

-- cut again, they are the entries
entries_back : (es : List Entry) → entries_from (modes es) (lengths es) (joined es) ≡ es
unfolding modes lengths joined entries_from
entries_back [] = refl
entries_back (e ∷ es) = rw (take-append_seam, drop-append_seam, entries_back es)

-- ---- an entry that a table with modes of at most `most` can hold
pub record Fit (most : ℕ) (e : Entry) : Type 0 where
  pub mode : e.mode ≤ most
  pub short : length e.name ≤ 255
  pub ascii : all_ascii e.name ≡ true

-- entries that all fit
abbrev pub AllFit : ℕ → List Entry → Type 0
AllFit most es = (e : Entry) → Memᴰ e es → Fit most e

module _ {most : ℕ} where
  fit_rest : {e : Entry} {es : List Entry} → AllFit most (e ∷ es) → AllFit most es
  fit_rest fit x m = fit x (Memᴰ.tail m)

  modes_most : (es : List Entry) → AllFit most es → all_at_most most (modes es) ≡ true
  unfolding modes all_at_most
  modes_most [] fit = refl
  modes_most (e ∷ es) fit = rw (le-leb e.mode most (fit e (Memᴰ.head refl)).mode) (modes_most es (fit_rest fit))

  joined_ascii : (es : List Entry) → AllFit most es → all_ascii (joined es) ≡ true
  unfolding joined all_ascii
  joined_ascii [] fit = refl
  joined_ascii (e ∷ es) fit = append_ascii e.name (joined es) (fit e (Memᴰ.head refl)).ascii (joined_ascii es (fit_rest fit))

  pub sum_few : (es : List Entry) → AllFit most es → sum (lengths es) ≤ 255 * length es
  unfolding lengths sum
  sum_few [] fit = omega arith
  sum_few (e ∷ es) fit = omega (arith, (fit e (Memᴰ.head refl)).short, sum_few es (fit_rest fit))

-- ---- all of them are bytes
bytes_map : (f : Entry → ℕ) (es : List Entry) → ((e : Entry) → Memᴰ e es → f e ≤ 255) → AllBytes (map f es)
bytes_map f [] h i = omega arith
bytes_map f (e ∷ es) h zero = omega (arith, h e (Memᴰ.head refl))
bytes_map f (e ∷ es) h (suc i) = bytes_map f es (λ x m. h x (Memᴰ.tail m)) i

-- ---- what is read in the bytes of a table
module _ (most : ℕ) (es : List Entry) (low : most ≤ 255) (few : length es ≤ 64) (fit : AllFit most es) where
  table_bytes : AllBytes (table_of es)
  unfolding table_of modes lengths
  table_bytes =
      let back = lengths es ++ joined es in
      let arrays = modes es ++ back in
      let x = bytes_append (lengths es) (joined es) (bytes_map _ es (λ e m. (fit e m).short)) (bytes_ascii (joined es) (joined_ascii es fit)) in
      let y = bytes_append (modes es) back (bytes_map _ es (λ e m. omega (arith, (fit e m).mode))) x in
      let z = bytes_append (le_bytes 2 (sum (lengths es))) arrays (bytes_number 2 (sum (lengths es))) y in
      bytes_append (le_bytes 2 (length es)) (le_bytes 2 (sum (lengths es)) ++ arrays) (bytes_number 2 (length es)) z

  count_read : le_at (table_of es) count_start 2 ≡ length es
  unfolding table_of le_bytes le_at
  count_read = le_number_le_bytes 2 (length es) (omega arith)

  total_read : le_at (table_of es) total_start 2 ≡ sum (lengths es)
  unfolding table_of le_bytes le_at
  total_read = le_number_le_bytes 2 (sum (lengths es)) (omega (arith, sum_few es fit))

  modes_read : take (length es) (drop modes_start (table_of es)) ≡ modes es
  unfolding table_of le_bytes
  modes_read = take_at (modes es) _ (length es) (length_modes es)

  after_modes : drop (lengths_start (length es)) (table_of es) ≡ lengths es ++ joined es
  unfolding table_of le_bytes
  after_modes = sym (drop-drop (length es) modes_start (table_of es)) ∙ drop_at (modes es) _ (length es) (length_modes es)

  lengths_read : take (length es) (drop (lengths_start (length es)) (table_of es)) ≡ lengths es
  lengths_read = rw after_modes (take_at (lengths es) _ (length es) (length_lengths es))

  names_read : drop (names_start (length es)) (table_of es) ≡ joined es
  names_read =
      let e : names_start (length es) ≡ lengths_start (length es) + length es = omega arith in
      rw (e, ← drop-drop (length es) (lengths_start (length es)) (table_of es), after_modes) (drop_at (lengths es) (joined es) (length es) (length_lengths es))

  well_made_lem : well_made most (table_of es) ≡ true
  well_made_lem =
      sym (made_names most (table_of es) (length es) (sum (lengths es)) (sym count_read) (sym total_read)
      (omega (arith, table_length es)) few (table_length es) (rw lengths_read) (rw modes_read (modes_most es fit)))
      ∙ rw names_read (joined_ascii es fit)

  entries_in_lem : entries_in (table_of es) ≡ es
  unfolding entries_in
  entries_in_lem = rw (count_read, modes_read, lengths_read, names_read) (entries_back es)

  pub table_of_lem : AllBytes (table_of es) × (well_made most (table_of es) ≡ true) × (entries_in (table_of es) ≡ es)
  table_of_lem = (table_bytes, well_made_lem, entries_in_lem)

  -- its names lie within it
  pub table_in_bounds : TableInBounds (table_of es)
  table_in_bounds = well_made_in_bounds most (table_of es) well_made_lem
