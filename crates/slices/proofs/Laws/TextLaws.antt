-- Laws of runs and parts: where a run ends, by the byte at a position.
-- Assumes nothing.
use mathlib.Core.Path.{◌≡◌, sym, ◌∙◌}
use mathlib.Core.Bool.{Bool, true, false, not, cond}
use mathlib.Core.List.{List, [], ◌∷◌}
use Prim.Native.Nat.{ℕ, suc, ◌+◌, ◌-◌, ◌≤◌, ◌<◌}
use native.Mathlib.Numerals.{add-one}
use native.Mathlib.Omega.{arith}
use borrow.Author.Tests.{not-true, not-false}
use lib.ListN.{length, drop, get_or, length-drop, length-take, drop_of_length-le}
use lib.Seq.{drop-cons}
use Rattle.slices.specs.Text.{part, run, run_end}

-- a run is no longer than the list
step_le : (v : Bool) {n m : ℕ} → n ≤ m → cond v (suc n) 0 ≤ suc m
step_le true h = omega arith
step_le false h = omega arith

run_le : (p : ℕ → Bool) (s : List ℕ) → run p s ≤ length s
unfolding run
run_le p [] = omega arith
run_le p (b ∷ s) = step_le (p b) (run_le p s)

module _ (p : ℕ → Bool) (s : List ℕ) where
  -- past the end of the text
  pub end_out : (i : ℕ) → length s ≤ i → run_end p s i ≡ i
  unfolding run_end
  end_out i h = rw (drop_of_length-le s h) (omega arith)

  module _ (i : ℕ) (h : i < length s) where
    -- at a byte that fails the test
    pub end_stop : p (get_or s i 0) ≡ false → run_end p s i ≡ i
    unfolding run_end
    end_stop e = rw (drop-cons s i 0 h, e) (omega arith)

    -- at a byte that passes it
    pub end_on : p (get_or s i 0) ≡ true → run_end p s i ≡ run_end p s (i + 1)
    unfolding run_end
    end_on e = rw (add-one, drop-cons s i 0 h, e) (omega arith)

  pub end_ge : (i : ℕ) → i ≤ run_end p s i
  unfolding run_end
  end_ge i = omega arith

  pub end_le : (i : ℕ) → i ≤ length s → run_end p s i ≤ length s
  unfolding run_end
  end_le i h = omega (arith, run_le p (drop i s), length-drop i s)

  -- both bounds, of a number that is known to be the end
  pub end_within : {e : ℕ} (i : ℕ) → i ≤ length s → e ≡ run_end p s i → (i ≤ e) × (e ≤ length s)
  end_within i h q = omega (arith, end_ge i, end_le i h)

-- ---- a run whose bytes a test is asked of one by one
module _ (p : ℕ → Bool) (s : List ℕ) (i : ℕ) (h : i < length s) where
  -- the run from a position on has come here, and r is what the test says of the byte here
  module _ (at : ℕ) (q : run_end p s i ≡ run_end p s at) {r : Bool} (e : r ≡ p (get_or s i 0)) where
    pub run_stop : not r ≡ true → i ≡ run_end p s at
    run_stop n = sym (end_stop p s i h (sym e ∙ not-true r n)) ∙ q

    pub run_on : not r ≡ false → run_end p s (i + 1) ≡ run_end p s at
    run_on n = sym (end_on p s i h (sym e ∙ not-false r n)) ∙ q

-- ---- parts
pub part_length : (s : List ℕ) (from to : ℕ) → from ≤ to → to ≤ length s → length (part s from to) ≡ to - from
unfolding part
part_length s from to h k = simp (length-take, length-drop) (omega arith)
