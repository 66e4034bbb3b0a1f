-- Laws of comparing byte strings, from a position on.
-- Assumes nothing.
use mathlib.Core.Path.{◌≡◌, refl, ap, ◌∙◌}
use mathlib.Core.Bool.{true, false, ◌&&◌, and-false}
use mathlib.Core.List.{List, [], ◌∷◌}
use Prim.Native.Nat.{ℕ, suc, ◌+◌, ◌≤◌, ◌<◌}
use native.Mathlib.Numerals.{add-one}
use lib.Dec.{eqb}
use lib.ListN.{length, drop, get_or, drop_of_length-le}
use lib.Seq.{drop-cons}
use Rattle.ascii.specs.Letters.{equal_by}

-- byte strings of different lengths differ
pub unlike : (f : ℕ → ℕ) (a b : List ℕ) → (length a ≡ length b → ⊥) → equal_by f a b ≡ false
unfolding equal_by
unlike f [] [] h = absurd (h refl)
unlike f [] (y ∷ b) h = refl
unlike f (x ∷ a) [] h = refl
unlike f (x ∷ a) (y ∷ b) h = rw (unlike f a b (λ e. h (ap suc e))) (and-false (eqb (f x) (f y)))

module _ (f : ℕ → ℕ) (a b : List ℕ) (i : ℕ) where
  -- past the end of both
  pub equal_end : length a ≤ i → length b ≤ i → equal_by f (drop i a) (drop i b) ≡ true
  unfolding equal_by
  equal_end h k = rw (drop_of_length-le a h, drop_of_length-le b k)

  module _ (h : i < length a) (k : i < length b) where
    equal_at : equal_by f (drop i a) (drop i b) ≡ (eqb (f (get_or a i 0)) (f (get_or b i 0)) && equal_by f (drop (suc i) a) (drop (suc i) b))
    unfolding equal_by
    equal_at = rw (drop-cons a i 0 h, drop-cons b i 0 k)

    -- at two bytes that are the same
    pub equal_on : eqb (f (get_or a i 0)) (f (get_or b i 0)) ≡ true → equal_by f (drop i a) (drop i b) ≡ equal_by f (drop (i + 1) a) (drop (i + 1) b)
    equal_on e = equal_at ∙ rw (e, add-one)

    -- at two that differ
    pub equal_off : eqb (f (get_or a i 0)) (f (get_or b i 0)) ≡ false → equal_by f (drop i a) (drop i b) ≡ false
    equal_off e = equal_at ∙ rw e
