-- 20 is the answer exactly where a rule has a name that is no store's. Assumes nothing.
use mathlib.Core.Path.{◌≡◌, refl}
use mathlib.Core.Bool.{Bool, true, false, cond}
use mathlib.Core.List.Memᴰ
use mathlib.Core.List.{List, ◌++◌, Memᴰ}
use mathlib.Core.Logic.{⊎_elim}
use Prim.Native.Nat.{ℕ, ◌+◌}
use borrow.Author.Tests.{not-false}
use Rattle.rules.specs.Rule.{Leaf, named, older_than, readable, Rule, leaf, node, Rules, nil, more, sizes, leaf_names, names_in, names_in_all}
use Rattle.store_table.specs.Names.{has}
use Rattle.store_table.specs.Stores.{Entry, all_names}
use Rattle.verdict.specs.Check.{is_unknown, first, unknown_in, unknown_all}
use Rattle.std.specs.Prelude.{None, Option, Some}

-- each of some names is a store's
abbrev pub Stored : List Entry → List (List ℕ) → Type 0
Stored es ws = (w : List ℕ) → Memᴰ w ws → has w (all_names es) ≡ true

first_no : (x y : Option ℕ) → first x y ≡ None → (x ≡ None) × (y ≡ None)
first_no None y e = (refl, e)
first_no (Some i) y e = absurd (cc)

at_no : (b : Bool) (i : ℕ) → cond b (Some i) None ≡ None → b ≡ false
at_no true i e = absurd (cc)
at_no false i e = refl

module _ (es : List Entry) where
  -- of two rules, or of rules and one more: none is unknown in both where the names of both are stores'
  none_stored : {x y : Option ℕ} (vs : List (List ℕ)) {ws : List (List ℕ)} → (x ≡ None → Stored es vs) → (y ≡ None → Stored es ws) →
      first x y ≡ None → Stored es (vs ++ ws)
  none_stored {x} {y} vs f g e w m = let (p, q) = first_no x y e in ⊎_elim (f p w) (g q w) (Memᴰ.append_cases vs m)

  stored_none : {x y : Option ℕ} (vs ws : List (List ℕ)) → (Stored es vs → x ≡ None) → (Stored es ws → y ≡ None) → Stored es (vs ++ ws) → first x y ≡ None
  stored_none vs ws f g h = rw (f (λ w m. h w (Memᴰ.append_left ws m)), g (λ w m. h w (Memᴰ.append_right vs m)))

  leaf_stored : (l : Leaf) → is_unknown es l ≡ false → Stored es (leaf_names l)
  unfolding is_unknown
  leaf_stored (named v) e w (Memᴰ.head p) = rw p (not-false (has v (all_names es)) e)
  leaf_stored (named v) e w (Memᴰ.tail m) = absurd (Memᴰ.not-nil m)
  leaf_stored (older_than d) e w m = absurd (Memᴰ.not-nil m)
  leaf_stored (readable k) e w m = absurd (Memᴰ.not-nil m)

  stored_leaf : (l : Leaf) → Stored es (leaf_names l) → is_unknown es l ≡ false
  unfolding is_unknown
  stored_leaf (named v) f = rw (f v (Memᴰ.head refl))
  stored_leaf (older_than d) f = refl
  stored_leaf (readable k) f = refl

  mutual
    unfolding unknown_in names_in

    pub unknown_no : (r : Rule) (i : ℕ) → unknown_in es r i ≡ None → Stored es (names_in r)
    unknown_no (leaf l) i e = leaf_stored l (at_no (is_unknown es l) i e)
    unknown_no (node j rs r) i e = none_stored (names_in_all rs) (λ p. unknown_none rs i p) (λ p. unknown_no r (i + sizes rs) p) e

    unknown_none : (rs : Rules) (i : ℕ) → unknown_all es rs i ≡ None → Stored es (names_in_all rs)
    unknown_none nil i e = λ w m. absurd (Memᴰ.not-nil m)
    unknown_none (more rs r) i e = none_stored (names_in_all rs) (λ p. unknown_none rs i p) (λ p. unknown_no r (i + sizes rs) p) e

  mutual
    unfolding unknown_in names_in

    pub no_unknown : (r : Rule) (i : ℕ) → Stored es (names_in r) → unknown_in es r i ≡ None
    no_unknown (leaf l) i f = rw (stored_leaf l f)
    no_unknown (node j rs r) i f = stored_none (names_in_all rs) (names_in r) (λ g. none_unknown rs i g) (λ g. no_unknown r (i + sizes rs) g) f

    none_unknown : (rs : Rules) (i : ℕ) → Stored es (names_in_all rs) → unknown_all es rs i ≡ None
    none_unknown nil i f = refl
    none_unknown (more rs r) i f = stored_none (names_in_all rs) (names_in r) (λ g. none_unknown rs i g) (λ g. no_unknown r (i + sizes rs) g) f
