-- The law of the table: where it has no faults, each entry is the class of its place. And what a looked-up class says of a byte.
-- Assumes nothing.
use mathlib.Core.Path.{◌≡◌, refl, ◌∙◌}
use mathlib.Core.Bool.{Bool, true, false, cond}
use mathlib.Core.List.{List, map}
use mathlib.Core.Logic.{⊎_elim}
use Prim.Native.Nat.{ℕ, zero, suc, ◌<◌}
use native.Mathlib.Nat.{not-suc-le-zero, le_of_suc-le-suc, eq-or-lt_of_le}
use native.Mathlib.Omega.{arith}
use lib.Dec.{T, eqb, eqb→eq}
use lib.ListN.{get_or, get_or-map}
use Rattle.ascii.proofs.Laws.TestLaws.{is_so}
use Rattle.classes.specs.Class.{class_of, of_class}
use Rattle.classes.specs.Inner.ClassNumber.{class_number}
use Rattle.classes.specs.declared.Class.{Class}
use Rattle.classes.specs.declared.Class.TheVariants.{Blank}
use Rattle.classes.specs.Inner.ClassTable.{faults_to, faults, IsClassTable}

none_here : (v : Bool) (n : ℕ) → cond v n (suc n) ≡ 0 → T v
none_here true n e = tt
none_here false n e = absurd (omega arith)

none_below : (v : Bool) (n : ℕ) → cond v n (suc n) ≡ 0 → n ≡ 0
none_below true n e = e
none_below false n e = absurd (omega arith)

up_to_lem : (l : List Class) (n : ℕ) → faults_to n l ≡ 0 → (k : ℕ) → k < n → class_number (get_or l k Blank) ≡ class_of k
unfolding faults_to
up_to_lem l zero e k h = absurd (not-suc-le-zero h)
up_to_lem l (suc n) e k h =
    ⊎_elim
    (λ (q : k ≡ n). rw q (eqb→eq (class_number (get_or l n Blank)) (class_of n) (none_here (eqb (class_number (get_or l n Blank)) (class_of n)) (faults_to n l) e)))
    (λ (q : k < n). up_to_lem l n (none_below (eqb (class_number (get_or l n Blank)) (class_of n)) (faults_to n l) e) k q)
    (eq-or-lt_of_le (le_of_suc-le-suc h))

pub table_at : (l : List Class) → IsClassTable l → (b : ℕ) → b < 256 → class_number (get_or l b Blank) ≡ class_of b
unfolding faults
table_at l e b h = up_to_lem l 256 e b h

-- the same of the table of the classes' numbers
pub table_number_at : (l : List Class) → IsClassTable l → (b : ℕ) → b < 256 → get_or (map class_number l) b 0 ≡ class_of b
table_number_at l e b h = get_or-map class_number l b Blank ∙ table_at l e b h

module _ {x k : ℕ} (b : ℕ) (e : x ≡ class_of b) where
  pub of_class_lem : x ≡ k → of_class k b ≡ true
  unfolding of_class
  of_class_lem h = is_so e refl h
