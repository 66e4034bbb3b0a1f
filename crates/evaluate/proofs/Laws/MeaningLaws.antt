-- What leaves and combinators of each kind say. Assumes nothing.
use mathlib.Core.Path.{◌≡◌, sym}
use mathlib.Core.Bool.{Bool}
use mathlib.Core.List.{List}
use Prim.Native.Nat.{ℕ, zero, suc}
use native.Mathlib.Omega.{arith}
use lib.Dec.{leb, eqb}
use lib.ListN.{length}
use Rattle.rules.specs.Rule.{Leaf, named, older_than, readable, Join, at_least, all, any}
use Rattle.image.specs.Kinds.{named_kind, older_than_kind, readable_kind, at_least_kind, all_kind, any_kind}
use Rattle.image.specs.Layout.{name_of}
use Rattle.image.specs.Decode.{leaf_meaning, join_meaning, argument0, meaning}
use Rattle.store_table.specs.Names.{has}
use Rattle.evaluate.specs.Evict.{Env, leaf_says, count_true, join_says}
use Rattle.evaluate.proofs.Laws.JoinLaws.{says_at_least, says_all, says_any}

-- the combinator that an argument of 0 makes
argument_join : (a : ℕ) (i j : Join) → argument0 a i ≡ join_meaning j → j ≡ i
argument_join zero i j e = cc
argument_join (suc a) i j e = let z : ◌≡◌ {A = ℕ} 0 1 = cc in absurd (omega arith)

module _ (s : List ℕ) (n : ℕ) where
  -- a leaf, by its kind
  module _ {k : ℕ} (a : ℕ) (v : Env) (l : Leaf) (e : meaning s n k a ≡ leaf_meaning l) where
    pub says_named : {b : Bool} {w : List ℕ} → k ≡ named_kind → w ≡ name_of s n a → b ≡ has w v.names → b ≡ leaf_says l v
    unfolding meaning leaf_says
    says_named p named-as h =
        let m : leaf_meaning (named (name_of s n a)) ≡ leaf_meaning l = rw p at e in
        let q : l ≡ named (name_of s n a) = cc in
        rw q (rw named-as at h)

    pub says_older : k ≡ older_than_kind → leb a v.age ≡ leaf_says l v
    unfolding meaning leaf_says
    says_older p =
        let m : leaf_meaning (older_than a) ≡ leaf_meaning l = rw p at e in
        let q : l ≡ older_than a = cc in
        rw q

    pub says_readable : k ≡ readable_kind → leb a v.ready ≡ leaf_says l v
    unfolding meaning leaf_says
    says_readable p =
        let m : leaf_meaning (readable a) ≡ leaf_meaning l = rw p at e in
        let q : l ≡ readable a = cc in
        rw q

  -- a combinator over children of which y say evict, by its kind
  module _ {k : ℕ} (a : ℕ) (j : Join) (bs : List Bool) (e : meaning s n k a ≡ join_meaning j) {y : ℕ} (h : count_true bs ≡ y) where
    pub kind_at_least : k ≡ at_least_kind → leb a y ≡ join_says j bs
    unfolding meaning
    kind_at_least p =
        let m : join_meaning (at_least a) ≡ join_meaning j = rw p at e in
        let q : j ≡ at_least a = cc in
        rw q (sym (says_at_least bs h a))

    pub kind_all : {t : ℕ} → length bs ≡ t → k ≡ all_kind → eqb y t ≡ join_says j bs
    unfolding meaning
    kind_all g p = rw (argument_join a all j (rw p at e)) (sym (says_all bs h g))

    pub kind_any : k ≡ any_kind → leb 1 y ≡ join_says j bs
    unfolding meaning
    kind_any p = rw (argument_join a any j (rw p at e)) (sym (says_any bs h))
