-- Which kinds are leaves, and what a node's meaning says of its kind. Assumes nothing.
use mathlib.Core.Path.{◌≡◌, refl, sym, ap, ◌∙◌}
use mathlib.Core.Bool.{true, false, true≢false}
use mathlib.Core.List.{List}
use Prim.Native.Nat.{ℕ, zero, suc, ◌≤◌, ◌<◌}
use native.Mathlib.Omega.{arith}
use borrow.Author.Tests.{leb-true, leb-false, lt-leb}
use Rattle.rules.specs.Rule.{Leaf, named, older_than, readable, Join, at_least, all, any}
use Rattle.image.specs.Kinds.{named_kind, older_than_kind, readable_kind, at_least_kind, any_kind}
use Rattle.image.specs.Encode.{leaf_kind, join_kind, join_arg}
use Rattle.image.specs.Decode.{Meaning, leaf_meaning, join_meaning, nothing, meaning}
use Rattle.image.specs.Inner.Leaves.{is_leaf}

-- ---- kinds of leaves, and others
pub leaf_low : (k : ℕ) → is_leaf k ≡ true → k ≤ readable_kind
unfolding is_leaf
leaf_low k e = leb-true k readable_kind e

pub leaf_high : (k : ℕ) → is_leaf k ≡ false → readable_kind < k
unfolding is_leaf
leaf_high k e = leb-false k readable_kind e

-- a kind that is none of the leaves' is no leaf's
pub other_kind : (k : ℕ) → (k ≡ named_kind → ⊥) → (k ≡ older_than_kind → ⊥) → (k ≡ readable_kind → ⊥) → is_leaf k ≡ false
unfolding is_leaf
other_kind zero h i j = absurd (h refl)
other_kind (suc zero) h i j = absurd (i refl)
other_kind (suc (suc zero)) h i j = absurd (j refl)
other_kind (suc (suc (suc k))) h i j = lt-leb (suc (suc (suc k))) readable_kind (omega arith)

-- nor is a combinator's
pub join_kind_no_leaf : (k : ℕ) → at_least_kind ≤ k → k ≤ any_kind → is_leaf k ≡ false
join_kind_no_leaf k lo hi = other_kind k (λ e. omega arith) (λ e. omega arith) (λ e. omega arith)

leaf_is : (l : Leaf) → is_leaf (leaf_kind l) ≡ true
unfolding is_leaf
leaf_is (named w) = refl
leaf_is (older_than d) = refl
leaf_is (readable k) = refl

join_among : (j : Join) → (at_least_kind ≤ join_kind j) × (join_kind j ≤ any_kind)
join_among (at_least k) = (omega arith, omega arith)
join_among all = (omega arith, omega arith)
join_among any = (omega arith, omega arith)

-- ---- what a node's meaning says of its kind and argument
abbrev pub Says : ℕ → ℕ → Meaning → Type 0
Says k a (leaf_meaning l) = k ≡ leaf_kind l
Says k a (join_meaning j) = (k ≡ join_kind j) × (a ≡ join_arg j)
Says k a nothing = Unit {0}

pub says : (s : List ℕ) (n k a : ℕ) → Says k a (meaning s n k a)
unfolding meaning
says s n zero a = refl
says s n (suc zero) a = refl
says s n (suc (suc zero)) a = refl
says s n (suc (suc (suc zero))) a = (refl, refl)
says s n (suc (suc (suc (suc zero)))) zero = (refl, refl)
says s n (suc (suc (suc (suc zero)))) (suc a) = tt
says s n (suc (suc (suc (suc (suc zero))))) zero = (refl, refl)
says s n (suc (suc (suc (suc (suc zero))))) (suc a) = tt
says s n (suc (suc (suc (suc (suc (suc k)))))) a = tt

-- ---- no leaf, no combinator, no name
abbrev pub NoLeaf : Meaning → Type 0
NoLeaf m = (l : Leaf) → m ≡ leaf_meaning l → ⊥

abbrev pub NoJoin : Meaning → Type 0
NoJoin m = (j : Join) → m ≡ join_meaning j → ⊥

module _ (s : List ℕ) (n k a : ℕ) where
  kind_of_leaf : (l : Leaf) → meaning s n k a ≡ leaf_meaning l → k ≡ leaf_kind l
  kind_of_leaf l e = rw e at (says s n k a)

  kind_of_join : (j : Join) → meaning s n k a ≡ join_meaning j → k ≡ join_kind j
  kind_of_join j e = (rw e at (says s n k a)).0

  pub no_leaf : is_leaf k ≡ false → NoLeaf (meaning s n k a)
  no_leaf h l e = true≢false (sym (leaf_is l) ∙ ap is_leaf (sym (kind_of_leaf l e)) ∙ h)

  pub no_join : (at_least_kind ≤ k → k ≤ any_kind → ⊥) → NoJoin (meaning s n k a)
  no_join h j e = let p = kind_of_join j e in h (omega (arith, p, join_among j)) (omega (arith, p, join_among j))

  pub leaf_no_join : is_leaf k ≡ true → NoJoin (meaning s n k a)
  leaf_no_join h = no_join (λ lo hi. omega (arith, leaf_low k h))

  pub no_name : (k ≡ named_kind → ⊥) → (w : List ℕ) → meaning s n k a ≡ leaf_meaning (named w) → ⊥
  no_name h w e = h (kind_of_leaf (named w) e)
