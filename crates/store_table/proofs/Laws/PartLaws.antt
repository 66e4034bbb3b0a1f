-- Bytes that lie at a position, and the sums and the tests of bytes that the library has. Assumes nothing.
use mathlib.Core.Path.{◌≡◌, refl, sym, ap, ◌∙◌}
use mathlib.Core.Bool.{Bool, true, false, false≢true, and-eq-true_iff, not-eq-not}
use mathlib.Core.Logic.{◌↔◌}
use mathlib.Core.List.{List, [], ◌∷◌}
use native.Mathlib.Omega.{arith}
use Prim.Native.Nat.{ℕ, zero, suc, ◌+◌, ◌≤◌, ◌<◌}
use lib.Dec.{leb}
use lib.ListN.{take, drop, get_or}
use lib.Seq.{get_or-take, get_or-drop}
use Rattle.std.specs.Prelude.{IsTrue}
use Rattle.std.specs.List.{All}
use borrow.Author.Tests.{le-leb, leb-true}
use Rattle.std.specs.List.{sum as sum_l}
use Rattle.std.proofs.lemmas.List.Sums.{sum_by-cons}
use Rattle.store_table.specs.Stores.{sum, all_at_most}

-- byte k of n bytes from a position on
pub part_get : (s : List ℕ) (at n k : ℕ) → k < n → get_or (take n (drop at s)) k 0 ≡ get_or s (at + k) 0
part_get s at n k lt = get_or-take n (drop at s) k 0 lt ∙ get_or-drop at s k 0

-- the sum is the library's, and so is the test of each byte
pub sum_same : (xs : List ℕ) → sum_l xs ≡ sum xs
unfolding sum
sum_same [] = refl
sum_same (x ∷ xs) = sum_by-cons (λ y. y) x xs ∙ ap (λ n. x + n) (sum_same xs)

most_all : (most : ℕ) (xs : List ℕ) → All (λ x. x ≤ most) xs → all_at_most most xs ≡ true
unfolding all_at_most
most_all most [] h = refl
most_all most (x ∷ xs) h = rw (le-leb x most (h 0 0 (omega arith))) (most_all most xs (λ k d lt. h (suc k) d (omega arith)))

all_most : (most : ℕ) (xs : List ℕ) → all_at_most most xs ≡ true → All (λ x. x ≤ most) xs
unfolding all_at_most
all_most most [] e k d lt = absurd (omega arith)
all_most most (x ∷ xs) e zero d lt = leb-true x most ((and-eq-true_iff (leb x most) (all_at_most most xs)).0 e).0
all_most most (x ∷ xs) e (suc k) d lt = all_most most xs ((and-eq-true_iff (leb x most) (all_at_most most xs)).0 e).1 k d (omega arith)

pub most_where : (most : ℕ) (xs : List ℕ) (b : Bool) → IsTrue b ↔ All (λ x. x ≤ most) xs → b ≡ all_at_most most xs
most_where most xs true h = sym (most_all most xs (h.0 refl))
most_where most xs false h = sym (not-eq-not.0 (λ e. false≢true (h.1 (all_most most xs e))))
