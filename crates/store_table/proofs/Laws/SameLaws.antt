-- Two names compared: something that tells them apart, and some bytes that are the same number in both. Assumes nothing.
use mathlib.Core.Path.{◌≡◌, refl, sym, ap, ◌∙◌}
use mathlib.Core.Bool.{false, not-eq-not}
use mathlib.Core.List.{List, [], ◌∷◌, ◌++◌}
use Prim.Native.Nat.{ℕ, ◌+◌, ◌≤◌}
use borrow.Author.Tests.{eq-eqb}
use lib.ListN.{length, drop, take-append-drop}
use lib.Seq.{drop-drop}
use Rattle.slices.specs.Text.{AllBytes}
use Rattle.little_endian.specs.Bytes.{le_bytes, le_at}
use Rattle.little_endian.proofs.Laws.BytesLaws.{Has, length_le_bytes, at_number}
use Rattle.store_table.specs.Names.{same_name}
use Rattle.store_table.proofs.Laws.MemberLaws.{same_eq}

-- names for which f gives different answers are different
pub same_not : {A : Type 0} {a b : List ℕ} (f : List ℕ → A) → (f a ≡ f b → ⊥) → same_name a b ≡ false
same_not {A} {a} {b} f h = not-eq-not.0 (λ e. h (ap f (same_eq a b e)))

-- names that begin the same way
same_after_prefix : (p a b : List ℕ) → same_name (p ++ a) (p ++ b) ≡ same_name a b
unfolding same_name
same_after_prefix [] a b = refl
same_after_prefix (x ∷ p) a b = rw (eq-eqb x x refl) (same_after_prefix p a b)

module _ (at k : ℕ) where
  -- the part from a position on begins with a number in k bytes
  number_first : (s : List ℕ) → AllBytes s → at + k ≤ length s → drop at s ≡ le_bytes k (le_at s at k) ++ drop (at + k) s
  unfolding Has
  number_first s b fits =
      sym (take-append-drop k (drop at s)) ∙ rw (drop-drop, rw (length_le_bytes k (le_at s at k)) at (at_number s at k b fits))

  pub same_number : (a b : List ℕ) → AllBytes a → AllBytes b → at + k ≤ length a → at + k ≤ length b → le_at a at k ≡ le_at b at k →
      same_name (drop at a) (drop at b) ≡ same_name (drop (at + k) a) (drop (at + k) b)
  same_number a b p q f g e = rw (number_first a p f, number_first b q g, e) (same_after_prefix (le_bytes k (le_at b at k)) _ _)
