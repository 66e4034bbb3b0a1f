-- Bytes below 128: the largest of them, parts of them, and what is joined from them. Assumes nothing.
use mathlib.Core.Path.{◌≡◌, refl, sym}
use mathlib.Core.Bool.{Bool, true, false, ◌&&◌, and-eq-true_iff}
use mathlib.Core.List.{List, [], ◌∷◌, ◌++◌}
use Prim.Native.Nat.{ℕ, zero, suc, max}
use native.Mathlib.Omega.{arith}
use borrow.Author.Tests.{ltb-true, ltb-false, lt-ltb, le-ltb}
use lib.Dec.{ltb}
use lib.ListN.{take, drop}
use Rattle.slices.specs.Inner.Search.{largest}
use Rattle.slices.specs.Text.{all_ascii, AllBytes}

max_below : (a b k : ℕ) → (ltb a k && ltb b k) ≡ ltb (max a b) k
max_below a b k = go (ltb a k) (ltb b k) refl refl
  where
    go : (v w : Bool) → ltb a k ≡ v → ltb b k ≡ w → (v && w) ≡ ltb (max a b) k
    go true true p q = sym (lt-ltb (max a b) k (omega (arith, ltb-true a k p, ltb-true b k q)))
    go true false p q = sym (le-ltb (max a b) k (omega (arith, ltb-false b k q)))
    go false w p q = sym (le-ltb (max a b) k (omega (arith, ltb-false a k p)))

-- all are below 128 where the largest is
pub ascii_largest : (s : List ℕ) → all_ascii s ≡ ltb (largest s) 128
unfolding all_ascii largest
ascii_largest [] = refl
ascii_largest (b ∷ s) = rw (ascii_largest s) (max_below b (largest s) 128)

pub bytes_ascii : (s : List ℕ) → all_ascii s ≡ true → AllBytes s
unfolding all_ascii
bytes_ascii [] h i = omega arith
bytes_ascii (b ∷ s) h zero = omega (arith, ltb-true b 128 ((and-eq-true_iff (ltb b 128) (all_ascii s)).0 h).0)
bytes_ascii (b ∷ s) h (suc i) = bytes_ascii s ((and-eq-true_iff (ltb b 128) (all_ascii s)).0 h).1 i

pub take_ascii : (n : ℕ) (s : List ℕ) → all_ascii s ≡ true → all_ascii (take n s) ≡ true
unfolding all_ascii
take_ascii zero s h = refl
take_ascii (suc n) [] h = refl
take_ascii (suc n) (b ∷ s) h = let i = (and-eq-true_iff (ltb b 128) (all_ascii s)).0 h in rw i.0 (take_ascii n s i.1)

pub drop_ascii : (n : ℕ) (s : List ℕ) → all_ascii s ≡ true → all_ascii (drop n s) ≡ true
unfolding all_ascii
drop_ascii zero s h = h
drop_ascii (suc n) [] h = refl
drop_ascii (suc n) (b ∷ s) h = drop_ascii n s ((and-eq-true_iff (ltb b 128) (all_ascii s)).0 h).1

pub append_ascii : (s t : List ℕ) → all_ascii s ≡ true → all_ascii t ≡ true → all_ascii (s ++ t) ≡ true
unfolding all_ascii
append_ascii [] t h k = k
append_ascii (b ∷ s) t h k = let i = (and-eq-true_iff (ltb b 128) (all_ascii s)).0 h in rw i.0 (append_ascii s t i.1 k)
