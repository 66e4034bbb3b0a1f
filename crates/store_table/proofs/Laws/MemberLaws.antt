-- What the tests of names say: two names are the same where they are equal, and a name is one of some where it is a member of their list.
-- Assumes nothing.
use mathlib.Core.Path.{◌≡◌, refl, ap₂}
use mathlib.Core.Bool.{Bool, true, false, ◌||◌, false≢true, and-eq-true_iff, or-true}
use mathlib.Core.List.{List, [], ◌∷◌, Memᴰ}
use Prim.Native.Nat.{ℕ}
use borrow.Author.Tests.{eqb-true, eq-eqb}
use lib.Dec.{eqb}
use Rattle.store_table.specs.Names.{same_name, has}

pub same_eq : (a b : List ℕ) → same_name a b ≡ true → a ≡ b
unfolding same_name
same_eq [] [] e = refl
same_eq [] (y ∷ b) e = absurd (false≢true e)
same_eq (x ∷ a) [] e = absurd (false≢true e)
same_eq (x ∷ a) (y ∷ b) e =
    let (p, q) = (and-eq-true_iff (eqb x y) (same_name a b)).0 e in
    ap₂ ◌∷◌ (eqb-true x y p) (same_eq a b q)

same_refl : (a : List ℕ) → same_name a a ≡ true
unfolding same_name
same_refl [] = refl
same_refl (x ∷ a) = rw (eq-eqb x x refl) (same_refl a)

pub eq_same : {a b : List ℕ} → a ≡ b → same_name a b ≡ true
eq_same {a} {b} e = rw e (same_refl b)

pub has_mem : (w : List ℕ) (ns : List (List ℕ)) → has w ns ≡ true → Memᴰ w ns
unfolding has
has_mem w [] e = absurd (false≢true e)
has_mem w (n ∷ ns) e = go (same_name w n) refl (has_mem w ns) e
  where
    go : (b : Bool) → same_name w n ≡ b → (has w ns ≡ true → Memᴰ w ns) → (b || has w ns) ≡ true → Memᴰ w (n ∷ ns)
    go true s below h = Memᴰ.head (same_eq w n s)
    go false s below h = Memᴰ.tail (below h)

pub mem_has : {w : List ℕ} {ns : List (List ℕ)} → Memᴰ w ns → has w ns ≡ true
unfolding has
mem_has (Memᴰ.head e) = rw (eq_same e)
mem_has {w} (Memᴰ.tail {x} m) = rw (mem_has m) (or-true (same_name w x))
