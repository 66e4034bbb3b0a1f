-- Laws of decimal numbers: what a digit is, and how large a number digits write. Assumes nothing.
use mathlib.Core.Path.{◌≡◌, refl}
use mathlib.Core.Bool.{Bool, true, false, cond, and-eq-true_iff}
use mathlib.Core.List.{List, [], ◌∷◌}
use Prim.Native.Nat.{ℕ, zero, suc, ◌+◌, ◌-◌, ◌*◌, ◌^◌, ◌≤◌, ◌<◌}
use native.Mathlib.Nat.{mul-le-mul_left, mul-le-mul_right, mul_assoc, one-le-pow, pow-succ'}
use native.Mathlib.Omega.{arith}
use borrow.Author.Tests.{leb-true}
use lib.Dec.{leb}
use lib.ListN.{take, drop}
use Rattle.ascii.specs.Letters.{is_digit}
use Rattle.slices.specs.Text.{part, run, run_end}
use Rattle.decimal.specs.Decimal.{digit_value, decimal_from, decimal}

-- a digit is one of ten
pub digit_within : (b : ℕ) → is_digit b ≡ true → (48 ≤ b) × (b ≤ 57)
unfolding is_digit
digit_within b h =
    let l = (and-eq-true_iff (leb 48 b) (leb b 57)).0 h in
    (leb-true 48 b l.0, leb-true b 57 l.1)

-- more digits make no smaller number
pub decimal_ge : (n : ℕ) (ds : List ℕ) → n ≤ decimal_from n ds
unfolding decimal_from
decimal_ge n [] = omega arith
decimal_ge n (b ∷ ds) = omega (arith, decimal_ge (n * 10 + digit_value b) ds)

-- ---- up to k digits after those of n write a number below (n + 1) * 10^k
none_small : (k n : ℕ) → n < suc n * 10 ^ k
none_small k n = omega (arith, mul-le-mul_left (suc n) (one-le-pow k 10 (omega arith)))

step_small : (v : Bool) (b r : ℕ) (s : List ℕ) → is_digit b ≡ v → ((k n : ℕ) → r ≤ k → decimal_from n (take r s) < suc n * 10 ^ k) →
    (k n : ℕ) → cond v (suc r) 0 ≤ k → decimal_from n (take (cond v (suc r) 0) (b ∷ s)) < suc n * 10 ^ k
unfolding decimal_from
step_small false b r s e f k n h = none_small k n
step_small true b r s e f zero n h = absurd (omega arith)
step_small true b r s e f (suc k) n h =
    let m = n * 10 + digit_value b in
    let l = digit_within b e in
    let g : suc m ≤ suc n * 10 = omega arith in
    rw (pow-succ' 10 k, ← mul_assoc) (omega (arith, f k m (omega arith), mul-le-mul_right (10 ^ k) g))

run_small : (s : List ℕ) (k n : ℕ) → run is_digit s ≤ k → decimal_from n (take (run is_digit s) s) < suc n * 10 ^ k
unfolding run decimal_from
run_small [] k n h = none_small k n
run_small (b ∷ s) k n h = step_small (is_digit b) b (run is_digit s) s refl (run_small s) k n h

-- at most nine digits write a number below 10^9
module _ (w : List ℕ) (at : ℕ) {to : ℕ} (e : run_end is_digit w at ≡ to) (h : to ≤ at + 9) where
  pub decimal_small : decimal (part w at to) < 10 ^ 9
  unfolding part run_end
  decimal_small =
      let r : to - at ≡ run is_digit (drop at w) = omega arith in
      rw r (run_small (drop at w) 9 0 (omega arith))
