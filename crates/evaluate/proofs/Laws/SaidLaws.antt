-- The numbers of an image's leaves, written one node after another. Assumes nothing.
use mathlib.Core.Path.{◌≡◌, refl}
use mathlib.Core.Bool.{Bool, true, false}
use mir.Val.{bool_byte}
use mathlib.Core.List.{List}
use mathlib.Core.Logic.{⊎_elim}
use Prim.Native.Nat.{ℕ, ◌+◌, ◌≤◌, ◌<◌}
use native.Mathlib.Nat.{eq-or-lt_of_le}
use native.Mathlib.Omega.{arith}
use lib.Dec.{leb}
use lib.ListN.{length, set}
use Rattle.slices.proofs.Laws.WrittenLaws.{after_set}
use Rattle.rules.specs.Rule.{Leaf}
use Rattle.image.specs.Decode.{leaf_meaning, cell_at}
use Rattle.evaluate.specs.Evict.{Env, leaf_says}
use Rattle.image.proofs.Laws.KindLaws.{NoLeaf}
use Rattle.evaluate.specs.Inner.Known.{SaidTo}

-- the number that a flag makes
pub flag_says : (b : Bool) → leb 1 (bool_byte b) ≡ b
flag_says true = refl
flag_says false = refl

module _ (s : List ℕ) (n : ℕ) (says : List ℕ) (least : ℕ) (w : Env) {i : ℕ} (h : SaidTo s n says least w i) where
  -- node i is no leaf
  pub said_skip : NoLeaf (cell_at s n i).what → SaidTo s n says least w (i + 1)
  said_skip other j lt l e =
      let le : j ≤ i = omega arith in
      ⊎_elim (λ p. absurd (other l (rw p at e))) (λ p. h j p l e) (eq-or-lt_of_le le)

  -- its number is x
  pub said_write : (x : ℕ) → i < length says → ((l : Leaf) → (cell_at s n i).what ≡ leaf_meaning l → leb least x ≡ leaf_says l w) →
      SaidTo s n (set says i x) least w (i + 1)
  said_write x room right j lt l e = after_set (λ (y : ℕ). leb least y ≡ leaf_says l w) says i x j room (λ p. right l (rw p at e)) (λ q. h j (omega arith) l e)
