-- Two byte strings are equal under f exactly where f makes the same of both. Assumes nothing.
use Rattle.std.specs.Char.{to_ascii_lowercase}
use Rattle.std.specs.Prelude.{map, IsTrue}
use borrow.Author.Rules.{rules}
use mathlib.Core.Path.{◌≡◌, refl, sym, ap, ap₂, ◌∙◌}
use mathlib.Core.Bool.{Bool, true, false, ◌&&◌, and-eq-true_iff}
use mathlib.Core.List.{List, [], ◌∷◌}
use Prim.Native.Nat.{ℕ}
use borrow.Author.Tests.{eq-eqb, eqb-true}
use lib.Dec.{eqb}
use lib.Pointwise.{pointwise}
use Rattle.ascii.specs.Letters.{equal_by, equal, equal_ignoring_case, folded_if, lower}

module _ (f : ℕ → ℕ) where
  pub equal_of_map : (a b : List ℕ) → map f a ≡ map f b → equal_by f a b ≡ true
  unfolding equal_by
  equal_of_map [] [] e = refl
  equal_of_map [] (y ∷ b) e = cc e
  equal_of_map (x ∷ a) [] e = cc e
  equal_of_map (x ∷ a) (y ∷ b) e =
      let h : f x ≡ f y = cc e in
      let t : map f a ≡ map f b = cc e in
      rw (eq-eqb (f x) (f y) h) (equal_of_map a b t)

  map_of_equal : (a b : List ℕ) → equal_by f a b ≡ true → map f a ≡ map f b
  unfolding equal_by
  map_of_equal [] [] e = refl
  map_of_equal [] (y ∷ b) e = cc e
  map_of_equal (x ∷ a) [] e = cc e
  map_of_equal (x ∷ a) (y ∷ b) e =
      let p = (and-eq-true_iff (eqb (f x) (f y)) (equal_by f a b)).0 e in
      ap₂ ◌∷◌ (eqb-true (f x) (f y) p.0) (map_of_equal a b p.1)

  -- a test that holds exactly where f makes the same of both
  pub equal_test : (a b : List ℕ) (r : Bool) → (IsTrue r → map f a ≡ map f b) → (map f a ≡ map f b → IsTrue r) → r ≡ equal_by f a b
  equal_test a b true p q = sym (equal_of_map a b (p refl))
  equal_test a b false p q = go (equal_by f a b) refl
    where
      go : (v : Bool) → equal_by f a b ≡ v → false ≡ equal_by f a b
      go false h = sym h
      go true h = cc (q (map_of_equal a b h))

-- the library's equality of slices
pub equal_pointwise : (a b : List ℕ) → pointwise eqb a b ≡ equal a b
unfolding equal_by
equal_pointwise [] [] = refl
equal_pointwise [] (y ∷ b) = refl
equal_pointwise (x ∷ a) [] = refl
equal_pointwise (x ∷ a) (y ∷ b) = ap (λ (v : Bool). eqb x y && v) (equal_pointwise a b)

-- the library's lower case
lower_same : (b : ℕ) → to_ascii_lowercase b ≡ lower b
unfolding lower
lower_same b = search rules

map_same : (s : List ℕ) → map to_ascii_lowercase s ≡ map (folded_if true) s
map_same [] = refl
map_same (b ∷ s) = ap₂ ◌∷◌ (lower_same b) (map_same s)

pub lower_test : (a b : List ℕ) (r : Bool) → (IsTrue r → map to_ascii_lowercase a ≡ map to_ascii_lowercase b) →
    (map to_ascii_lowercase a ≡ map to_ascii_lowercase b → IsTrue r) → r ≡ equal_ignoring_case a b
lower_test a b r p q =
    equal_test (folded_if true) a b r (λ t. sym (map_same a) ∙ p t ∙ map_same b) (λ e. q (map_same a ∙ e ∙ sym (map_same b)))
