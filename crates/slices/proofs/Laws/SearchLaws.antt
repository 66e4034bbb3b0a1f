-- Laws of the largest byte of a list, from a position on, and of the last byte that passes a test. Assumes nothing.
use mathlib.Core.Path.{◌≡◌, refl}
use mathlib.Core.Bool.{Bool, true, false, cond, and-false}
use mathlib.Core.List.{List, []}
use Prim.Native.Nat.{ℕ, zero, suc, ◌+◌, ◌-◌, ◌≤◌, ◌<◌, min, max}
use native.Mathlib.Numerals.{add-one}
use native.Mathlib.Omega.{arith}
use borrow.Author.Tests.{le-leb, lt-leb, ltb-true, ltb-false}
use lib.Dec.{leb, ltb}
use lib.ListN.{length, take, drop, get_or, length-drop, drop_of_length-le}
use lib.Seq.{drop-cons, take_all}
use Rattle.ascii.specs.Letters.{within}
use Rattle.slices.specs.Text.{end_of_last}
use Rattle.slices.specs.Inner.Search.{largest}

module _ (s : List ℕ) (i : ℕ) where
  -- past the end of the list
  pub largest_out : length s ≤ i → largest (drop i s) ≡ 0
  unfolding largest
  largest_out h = rw (drop_of_length-le s h)

  -- at a byte
  pub largest_on : i < length s → largest (drop i s) ≡ max (get_or s i 0) (largest (drop (i + 1) s))
  unfolding largest
  largest_on h = rw (add-one, drop-cons s i 0 h)

-- no byte is left after the end of the list
drop_min : (s : List ℕ) (at m : ℕ) → m ≡ min at (length s) → drop m s ≡ drop at s
drop_min s at m e = go (ltb (length s) at) refl
  where
    go : (v : Bool) → ltb (length s) at ≡ v → drop m s ≡ drop at s
    go true h =
        let l = ltb-true (length s) at h in
        let p : drop m s ≡ [] = drop_of_length-le s (omega (arith, e, l)) in
        let q : drop at s ≡ [] = drop_of_length-le s (omega (arith, l)) in
        rw (p, q)
    go false h = let q : m ≡ at = omega (arith, e, ltb-false (length s) at h) in rw q

pub largest_init : (s : List ℕ) (at m : ℕ) → m ≡ min at (length s) → max 0 (largest (drop 0 (take (length s - m) (drop m s)))) ≡ largest (drop at s)
largest_init s at m e =
    let t : take (length s - m) (drop m s) ≡ drop m s = take_all (length s - m) (drop m s) (rw length-drop (omega arith)) in
    rw (t, drop_min s at m e) (omega arith)

-- ---- the position after the last byte that passes a test
module _ (p : ℕ → Bool) (s : List ℕ) where
  -- the byte before a position passes it
  pub last_here : (i : ℕ) → 0 < i → p (get_or s (i - 1) 0) ≡ true → end_of_last p s i ≡ i
  unfolding end_of_last
  last_here zero l e = absurd (omega arith)
  last_here (suc i) l e = let q : suc i - 1 ≡ i = omega arith in rw (rw q at e)

  -- it does not
  pub last_before : (i : ℕ) → 0 < i → p (get_or s (i - 1) 0) ≡ false → end_of_last p s i ≡ end_of_last p s (i - 1)
  unfolding end_of_last
  last_before zero l e = absurd (omega arith)
  last_before (suc i) l e = let q : suc i - 1 ≡ i = omega arith in rw (q, rw q at e)

  pub last_none : end_of_last p s 0 ≡ 0
  unfolding end_of_last
  last_none = refl

  last_step : (v : Bool) {n i : ℕ} → n ≤ i → cond v (suc i) n ≤ suc i
  last_step true h = omega arith
  last_step false h = omega arith

  pub last_le : (i : ℕ) → end_of_last p s i ≤ i
  unfolding end_of_last
  last_le zero = omega arith
  last_le (suc i) = last_step (p (get_or s i 0)) (last_le i)

-- ---- a byte between two others
module _ (lo hi b : ℕ) where
  pub is_within : lo ≤ b → b ≤ hi → within lo hi b ≡ true
  is_within h k = rw (le-leb lo b h, le-leb b hi k)

  pub is_below : b < lo → within lo hi b ≡ false
  is_below h = rw (lt-leb lo b h)

  pub is_above : hi < b → within lo hi b ≡ false
  is_above h = rw (lt-leb b hi h) (and-false (leb lo b))
