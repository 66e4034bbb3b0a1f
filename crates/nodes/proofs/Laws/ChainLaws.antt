-- Laws of chains: what a chain's left side gives, and a turn of a chain in the nodes. Assumes nothing.
use mathlib.Core.Path.{◌≡◌, refl, sym, ap, ◌∙◌}
use mathlib.Core.Bool.{Bool, true, false}
use mathlib.Core.List.{List, [], ◌∷◌, ◌++◌}
use Prim.Native.Nat.{ℕ, suc, ◌+◌, ◌-◌, ◌≤◌, ◌<◌}
use native.Mathlib.Nat.{add-zero}
use native.Mathlib.Omega.{arith}
use borrow.Author.Tests.{eq-eqb}
use lib.Dec.{eqb}
use lib.ListN.{length, take, get_or, length-append, length-take}
use lib.Seq.{length-take-le}
use Rattle.rules.specs.Rule.{named, older_than, readable, Join, at_least, all, any, Rule, leaf, node, Rules, nil, more, size, sizes}
use Rattle.image.specs.Encode.{leaf_kind, join_kind, tag, join_arg, tags, tags_all, args, args_all, names, names_all}
use Rattle.image.proofs.Laws.EncodeLaws.{leaf_kind_lem, join_kind_lem, length_tags, length_tags_all}
use Rattle.image.specs.Layout.{tag_kind}
use Rattle.grammar.specs.Grammar.{left_rules, chain}
use Rattle.nodes.specs.Inner.Parses.{Holds, Appended, joined, keep_if, without_root}
use Rattle.nodes.specs.declared.Nodes.{Nodes}
use Rattle.nodes.proofs.Laws.ArrayLaws.{unsnoc, last_is, holds_as, holds_join, holds_push}

-- the kind of a rule's root, its tag, and what is before it
abbrev root_kind : Rule → ℕ
root_kind (leaf l) = leaf_kind l
root_kind (node j rs r) = join_kind j

abbrev root_tag : Rule → ℕ
root_tag (leaf l) = tag (leaf_kind l) 1
root_tag (node j rs r) = tag (join_kind j) (suc (sizes rs + size r))

abbrev body_tags : Rule → List ℕ
body_tags (leaf l) = []
body_tags (node j rs r) = tags_all rs ++ tags r

tags_root : (r : Rule) → tags r ≡ body_tags r ++ root_tag r ∷ []
unfolding tags
tags_root (leaf l) = refl
tags_root (node j rs r) = refl

tag_kind_lem : (k s : ℕ) → k < 256 → tag_kind (tag k s) ≡ k
tag_kind_lem k s h = omega arith

root_kind_lem : (r : Rule) → tag_kind (root_tag r) ≡ root_kind r
root_kind_lem (leaf l) = tag_kind_lem (leaf_kind l) 1 (leaf_kind_lem l)
root_kind_lem (node j rs r) = tag_kind_lem (join_kind j) (suc (sizes rs + size r)) (join_kind_lem j)

-- ---- the left side of a chain, which is of kind all or any
pub data Chains : Join → Type 0 where
  by_all : Chains all
  by_any : Chains any

-- it is of the chain's kind and gives its children, or it is of another and is a child itself
data Left (j : Join) : Rule → Type 0 where
  own : (rs : Rules) (r : Rule) → left_rules j (node j rs r) ≡ more rs r → Left j (node j rs r)
  alone : (l : Rule) → eqb (root_kind l) (join_kind j) ≡ false → left_rules j l ≡ more nil l → Left j l

left_of_lem : {j : Join} → Chains j → (l : Rule) → Left j l
unfolding left_rules
left_of_lem by_all (leaf (named w)) = alone (leaf (named w)) refl refl
left_of_lem by_all (leaf (older_than d)) = alone (leaf (older_than d)) refl refl
left_of_lem by_all (leaf (readable k)) = alone (leaf (readable k)) refl refl
left_of_lem by_all (node (at_least k) rs r) = alone (node (at_least k) rs r) refl refl
left_of_lem by_all (node all rs r) = own rs r refl
left_of_lem by_all (node any rs r) = alone (node any rs r) refl refl
left_of_lem by_any (leaf (named w)) = alone (leaf (named w)) refl refl
left_of_lem by_any (leaf (older_than d)) = alone (leaf (older_than d)) refl refl
left_of_lem by_any (leaf (readable k)) = alone (leaf (readable k)) refl refl
left_of_lem by_any (node (at_least k) rs r) = alone (node (at_least k) rs r) refl refl
left_of_lem by_any (node all rs r) = alone (node all rs r) refl refl
left_of_lem by_any (node any rs r) = own rs r refl

-- a holds, after the nodes of b, those of some rules
abbrev pub AppendedAll : {N : ℕ} → Rules → Nodes N → Nodes N → Type 0
AppendedAll rs b a = Holds b a (tags_all rs) (args_all rs b.m) (names_all rs)

-- the root was dropped or not, and the names are as before
pub root_bounds : (kind : ℕ) {N : ℕ} {a k : Nodes N} → k ≡ without_root kind a → 0 < a.n → (k.n ≤ a.n) × (a.n ≤ k.n + 1) × (k.m ≡ a.m)
root_bounds kind {N} {a} {k} q pos = rw q (by (eqb (tag_kind (get_or a.tags (a.n - 1) 0)) kind))
  where
    by : (v : Bool) → (keep_if v a.n ≤ a.n) × (a.n ≤ keep_if v a.n + 1) × (a.m ≡ a.m)
    by true = (omega arith, omega arith, refl)
    by false = (omega arith, omega arith, refl)

-- the test that the program makes on the last tag, and what is left of the nodes after it
module _ {N : ℕ} {b a : Nodes N} (lt : b.n ≤ length b.tags) (la : b.n ≤ length b.args) where
  last_kind : (l : Rule) → Appended l b a → tag_kind (get_or a.tags (a.n - 1) 0) ≡ root_kind l
  last_kind l h =
      let h₂ = holds_as h (tags_root l) refl refl in
      ap tag_kind (last_is a.tags b.tags (body_tags l) b.n a.n (root_tag l) h₂.tags h₂.more_tags lt) ∙ root_kind_lem l

  popped : (j : Join) (rs : Rules) (r : Rule) → Appended (node j rs r) b a → AppendedAll (more rs r) b (record a { n = a.n - 1 })
  unfolding tags args names
  popped j rs r h = record {
    tags = unsnoc a.tags b.tags (tags_all rs ++ tags r) b.n a.n (tag (join_kind j) (suc (sizes rs + size r))) h.tags h.more_tags lt;
    args = unsnoc a.args b.args (args_all rs b.m ++ args r (b.m + length (names_all rs))) b.n a.n (join_arg j) h.args h.more_args la;
    names = h.names;
    more_tags = omega (arith, h.more_tags, length-append (tags_all rs ++ tags r) (tag (join_kind j) (suc (sizes rs + size r)) ∷ []));
    more_args = omega (arith, h.more_args, length-append (args_all rs b.m ++ args r (b.m + length (names_all rs))) (join_arg j ∷ []));
    more_names = h.more_names;
  }

  kept_as : {j : Join} {l : Rule} → Left j l → Appended l b a → AppendedAll (left_rules j l) b (without_root (join_kind j) a)
  unfolding tags args names
  kept_as {j} (own rs r e) h =
      let same : eqb (tag_kind (get_or a.tags (a.n - 1) 0)) (join_kind j) ≡ true = eq-eqb _ _ (last_kind (node j rs r) h) in
      rw (e, same) (popped j rs r h)
  kept_as {j} (alone l f e) h =
      let other : eqb (tag_kind (get_or a.tags (a.n - 1) 0)) (join_kind j) ≡ false = ap (λ (x : ℕ). eqb x (join_kind j)) (last_kind l h) ∙ f in
      rw (e, other) (holds_as h refl (ap (args l) (sym (add-zero b.m))) refl)

-- where the elements after the first n of a list fit in another, those do too
before_fits : (b a T : List ℕ) {n m : ℕ} → take m a ≡ take n b ++ T → m ≡ n + length T → m ≤ length a → n ≤ length b
before_fits b a T {n} {m} e h fits = omega (arith, length-take-le m a fits, ap length e, length-append (take n b) T, length-take n b)

-- a turn of a chain: the right side's nodes, and then the chain's own
pub chained : {j : Join} → Chains j → (l r : Rule) {N : ℕ} {b a k c : Nodes N}
    → Appended l b a → (a.n ≤ length a.tags) × (a.n ≤ length a.args) → k ≡ without_root (join_kind j) a
    → Appended r k c → (c.n < length c.tags) × (c.n < length c.args) → Appended (chain j l r) b (joined j b.n c)
unfolding chain tags args names
chained {j} ck l r {N} {b} {a} {k} {c} h fits q g lc =
    let lb : (b.n ≤ length b.tags) × (b.n ≤ length b.args) = (before_fits b.tags a.tags (tags l) h.tags h.more_tags fits.0, before_fits b.args a.args (args l b.m) h.args h.more_args fits.1) in
    let u = kept_as lb.0 lb.1 (left_of_lem ck l) h in
    let g₂ : Appended r (without_root (join_kind j) a) c = rw q at g in
    let v = holds_join u g₂ in
    let w = holds_push v (tag (join_kind j) (c.n - b.n + 1)) (join_arg j) lc.0 lc.1 in
    let rs : Rules = left_rules j l in
    let sz : c.n - b.n + 1 ≡ suc (sizes rs + size r) = omega (arith, v.more_tags, length-append (tags_all rs) (tags r), length_tags_all rs, length_tags r) in
    holds_as w
    (ap (λ (x : ℕ). (tags_all rs ++ tags r) ++ tag (join_kind j) x ∷ []) sz)
    (ap (λ (x : ℕ). (args_all rs b.m ++ args r x) ++ join_arg j ∷ []) u.more_names)
    refl
