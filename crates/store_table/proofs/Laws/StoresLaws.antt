-- Laws of well-made tables and lists: each test of the bytes, and that their names lie within them. Assumes nothing.
use mathlib.Core.Path.{◌≡◌}
use mathlib.Core.Bool.{true, false, ◌&&◌, and-false, and-eq-true_iff}
use mathlib.Core.List.{List}
use Prim.Native.Nat.{ℕ, ◌+◌, ◌≤◌, ◌<◌}
use native.Mathlib.Omega.{arith}
use borrow.Author.Tests.{leb-true, eqb-true, le-leb, lt-leb, eq-eqb, ne_eqb}
use lib.Dec.{eqb, leb}
use lib.ListN.{length, take, drop}
use Rattle.little_endian.specs.Bytes.{le_at}
use Rattle.slices.specs.Text.{all_ascii}
use Rattle.store_table.specs.Stores.{modes_start, lengths_start, names_start, count_in, total_in, modes_in, lengths_in, name_bytes_in, sum, all_at_most, well_made}
use Rattle.store_table.specs.Inner.Bounds.{TableInBounds, count_start, total_start}

-- bytes that are too short
pub unmade_short : (most : ℕ) (s : List ℕ) → length s < modes_start → false ≡ well_made most s
unfolding well_made
unmade_short most s h = rw (lt-leb modes_start (length s) h)

-- the first four bytes say count and total
module _ (most : ℕ) (s : List ℕ) (count total : ℕ) (p : count ≡ le_at s count_start 2) (q : total ≡ le_at s total_start 2) where
  pub unmade_many : 64 < count → false ≡ well_made most s
  unfolding well_made
  unmade_many h = rw (← p, ← q, lt-leb count 64 h, and-false)

  pub unmade_length : (length s ≡ names_start count + total → ⊥) → false ≡ well_made most s
  unfolding well_made
  unmade_length h = rw (← p, ← q, ne_eqb (length s) (names_start count + total) h, and-false)

  pub unmade_sum : (sum (take count (drop (lengths_start count) s)) ≡ total → ⊥) → false ≡ well_made most s
  unfolding well_made
  unmade_sum h = rw (← p, ← q, ne_eqb (sum (take count (drop (lengths_start count) s))) total h, and-false)

  pub unmade_modes : all_at_most most (take count (drop modes_start s)) ≡ false → false ≡ well_made most s
  unfolding well_made
  unmade_modes h = rw (← p, ← q, h, and-false)

  pub made_names : modes_start ≤ length s → count ≤ 64 → length s ≡ names_start count + total →
      sum (take count (drop (lengths_start count) s)) ≡ total → all_at_most most (take count (drop modes_start s)) ≡ true →
      all_ascii (drop (names_start count) s) ≡ well_made most s
  unfolding well_made
  made_names h₁ h₂ h₃ h₄ h₅ =
      rw (
        ← p,
        ← q,
        le-leb modes_start (length s) h₁,
        le-leb count 64 h₂,
        eq-eqb (length s) (names_start count + total) h₃,
        eq-eqb (sum (take count (drop (lengths_start count) s))) total h₄,
        h₅,
      )

-- ---- what the tests say of a well-made table or list
pub record WellMadeParts (most : ℕ) (s : List ℕ) : Type 0 where
  pub few : count_in s ≤ 64
  pub long : length s ≡ names_start (count_in s) + total_in s
  pub filled : sum (lengths_in s) ≡ total_in s
  pub modes : all_at_most most (modes_in s) ≡ true
  pub ascii : all_ascii (name_bytes_in s) ≡ true

pub made : (most : ℕ) (s : List ℕ) → well_made most s ≡ true → WellMadeParts most s
unfolding well_made
made most s h =
    let t₁ = leb modes_start (length s) in
    let t₂ = t₁ && leb (count_in s) 64 in
    let t₃ = t₂ && eqb (length s) (names_start (count_in s) + total_in s) in
    let t₄ = t₃ && eqb (sum (lengths_in s)) (total_in s) in
    let t₅ = t₄ && all_at_most most (modes_in s) in
    let (h₅, ascii) = (and-eq-true_iff t₅ (all_ascii (name_bytes_in s))).0 h in
    let (h₄, modes) = (and-eq-true_iff t₄ (all_at_most most (modes_in s))).0 h₅ in
    let (h₃, filled) = (and-eq-true_iff t₃ (eqb (sum (lengths_in s)) (total_in s))).0 h₄ in
    let (h₂, long) = (and-eq-true_iff t₂ (eqb (length s) (names_start (count_in s) + total_in s))).0 h₃ in
    let (h₁, few) = (and-eq-true_iff t₁ (leb (count_in s) 64)).0 h₂ in
    record { few = leb-true _ _ few; long = eqb-true _ _ long; filled = eqb-true _ _ filled; modes = modes; ascii = ascii }

-- its names lie within it
pub well_made_in_bounds : (most : ℕ) (s : List ℕ) → well_made most s ≡ true → TableInBounds s
well_made_in_bounds most s h =
    let m = made most s h in
    record { arrays = omega (arith, m.long); names = omega (arith, m.long, m.filled); few = m.few }
