-- The first unknown name, by a walk over a rule's cells, is the first one of the rule. Assumes nothing.
use mathlib.Core.Path.{◌≡◌, refl, sym, ◌∙◌}
use mathlib.Core.Bool.{Bool, not, cond}
use mathlib.Core.List.{List}
use Prim.Native.Nat.{ℕ, zero, suc, ◌+◌, ◌-◌, ◌≤◌, ◌<◌}
use native.Mathlib.Nat.{add-zero, add-suc, add_assoc}
use native.Mathlib.Numerals.{add-one}
use native.Mathlib.Omega.{arith}
use Rattle.rules.specs.Rule.{named, older_than, readable, Rule, leaf, node, Rules, nil, more, size, sizes}
use Rattle.image.specs.Kinds.{named_kind}
use Rattle.image.specs.Layout.{name_of}
use Rattle.image.specs.Decode.{Node, node_at, Meaning, leaf_meaning, join_meaning, nothing, meaning, Cell, cell_at}
use Rattle.image.specs.Inner.EncodedAt.{EncodedAt, EncodedAllAt}
use Rattle.store_table.specs.Names.{has}
use Rattle.store_table.specs.Stores.{Entry, all_names}
use Rattle.image.proofs.Laws.KindLaws.{no_name}
use Rattle.image.proofs.Laws.CellLaws.{cell_what}
use Rattle.verdict.specs.Check.{is_unknown, first, unknown_in, unknown_all}
use Rattle.std.specs.Prelude.{None, Option, Some}

-- ---- the first of two: of what is found and nothing it is what is found, and three may be joined in either order
first_none : (u : Option ℕ) → first u None ≡ u
first_none None = refl
first_none (Some i) = refl

first_joined : (u v w : Option ℕ) → first (first u v) w ≡ first u (first v w)
first_joined None v w = refl
first_joined (Some i) v w = refl

-- ---- the walk over cells

-- cell i, if it is a name that is no store's
unfoldable pub unknown_cell : List Entry → Meaning → ℕ → Option ℕ
unfolding is_unknown
unknown_cell stores (leaf_meaning l) i = cond (is_unknown stores l) (Some i) None
unknown_cell stores (join_meaning j) i = None
unknown_cell stores nothing i = None

-- the first of the first i cells that is one
unfoldable pub unknown_up_to : List Entry → (ℕ → Cell) → ℕ → Option ℕ
unfolding unknown_cell
unknown_up_to stores f zero = None
unknown_up_to stores f (suc i) = first (unknown_up_to stores f i) (unknown_cell stores (f i).what i)

-- ---- after a rule's cells the first is what was found before them, or else the rule's own
module _ (stores : List Entry) (f : ℕ → Cell) where
  mutual
    unfolding size EncodedAt unknown_up_to unknown_in

    cells_rule : (r : Rule) (s : ℕ) → EncodedAt r f s → unknown_up_to stores f (s + size r) ≡ first (unknown_up_to stores f s) (unknown_in stores r s)
    cells_rule (leaf l) s st = rw (add-one, st.0)
    cells_rule (node j rs r) s st =
        rw (add-suc, ← add_assoc, st.2, first_none, cells_rule r (s + sizes rs) st.1, cells_rules rs s st.0, first_joined)

    cells_rules : (rs : Rules) (s : ℕ) → EncodedAllAt rs f s → unknown_up_to stores f (s + sizes rs) ≡ first (unknown_up_to stores f s) (unknown_all stores rs s)
    cells_rules nil s st = rw (add-zero, first_none)
    cells_rules (more rs r) s st = rw (← add_assoc, cells_rule r (s + sizes rs) st.1, cells_rules rs s st.0, first_joined)

  -- none of the first i cells is one
  module _ (i : ℕ) (none : unknown_up_to stores f i ≡ None) where
    -- nor is cell i
    pub none_next : unknown_cell stores (f i).what i ≡ None → unknown_up_to stores f (i + 1) ≡ None
    unfolding unknown_up_to
    none_next e = rw (add-one, none, e)

    -- cell i is
    found : unknown_cell stores (f i).what i ≡ Some i → (k : ℕ) → unknown_up_to stores f (suc i + k) ≡ Some i
    unfolding unknown_up_to
    found e zero = rw (add-zero, none, e)
    found e (suc k) = rw (add-suc, found e k)

    -- and there are n cells, all of them a rule's
    module _ {n : ℕ} (r : Rule) (sized : size r ≡ n) (st : EncodedAt r f 0) where
      pub first_here : unknown_cell stores (f i).what i ≡ Some i → i < n → Some i ≡ unknown_in stores r 0
      unfolding unknown_up_to
      first_here e lt =
          let p : suc i + (n - suc i) ≡ 0 + size r = omega arith in
          sym (found e (n - suc i)) ∙ rw p (cells_rule r 0 st)

      pub first_nowhere : n ≤ i → i ≤ n → None ≡ unknown_in stores r 0
      unfolding unknown_up_to
      first_nowhere ge le =
          let p : i ≡ 0 + size r = omega arith in
          sym none ∙ rw p (cells_rule r 0 st)

-- ---- a cell that is no name
not_named : (stores : List Entry) (m : Meaning) (i : ℕ) → ((w : List ℕ) → m ≡ leaf_meaning (named w) → ⊥) → unknown_cell stores m i ≡ None
unfolding unknown_cell is_unknown
not_named stores (leaf_meaning (named w)) i h = absurd (h w refl)
not_named stores (leaf_meaning (older_than d)) i h = refl
not_named stores (leaf_meaning (readable k)) i h = refl
not_named stores (join_meaning j) i h = refl
not_named stores nothing i h = refl

-- ---- what a node that was read says of its cell
module _ (stores : List Entry) (s : List ℕ) (n i : ℕ) {d : Node} (e : d ≡ node_at s n i) where
  -- it is no name
  pub other_known : (d.kind ≡ named_kind → ⊥) → unknown_cell stores (cell_at s n i).what i ≡ None
  other_known h = rw (← cell_what s n i e) (not_named stores (meaning s n d.kind d.arg) i (no_name s n d.kind d.arg h))

  -- it is a name, and b says whether it is a store's
  pub name_says : {b : Bool} {w : List ℕ} → d.kind ≡ named_kind → w ≡ name_of s n d.arg → has w (all_names stores) ≡ b →
      unknown_cell stores (cell_at s n i).what i ≡ cond (not b) (Some i) None
  unfolding meaning unknown_cell is_unknown
  name_says k named-as says = rw (← cell_what s n i e, k, ← named-as, says)
