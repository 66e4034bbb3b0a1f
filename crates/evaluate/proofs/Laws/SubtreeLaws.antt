-- The walk over a combinator's children, where the answer of each leaf is known by its node's index. Assumes nothing.
use mathlib.Core.Path.{◌≡◌, sym, ◌∙◌}
use mathlib.Core.Bool.{Bool, true, false, cond}
use mathlib.Core.List.{List, ◌∷◌}
use Prim.Native.Nat.{ℕ, suc, ◌+◌, ◌-◌, ◌<◌, ◌≤◌}
use native.Mathlib.Omega.{arith}
use lib.ListN.{length}
use Rattle.rules.specs.Rule.{Leaf, Join, Rule, leaf, node, Rules, nil, more, size, sizes}
use Rattle.image.specs.Decode.{Meaning, leaf_meaning, join_meaning, Cell}
use Rattle.image.proofs.Laws.EncodeLaws.{size_pos}
use Rattle.image.proofs.Laws.EncodedAtLaws.{root_size}
use Rattle.image.specs.Inner.EncodedAt.{EncodedAt, EncodedAllAt}
use Rattle.evaluate.specs.Evict.{count_true, join_says}
use Rattle.evaluate.specs.Inner.By.{evict_by, answers_by}
use Rattle.image.specs.Inner.Subtree.{Subtree}
use Rattle.image.proofs.Laws.KindLaws.{NoLeaf, NoJoin}

yeses_moved : (b : Bool) (bs : List Bool) (y z : ℕ) → z ≡ cond b (suc y) y → z + count_true bs ≡ y + count_true (b ∷ bs)
unfolding count_true
yeses_moved true bs y z e = omega arith
yeses_moved false bs y z e = omega arith

-- a count goes up by at most one
pub moved_few : (b : Bool) {y z : ℕ} → z ≡ cond b (suc y) y → z ≤ suc y
moved_few true e = omega arith
moved_few false e = omega arith

-- of the rules rs and r, those of `rest` have not been asked yet, and their nodes are those from `from` up to `end`; of the t
-- that were asked, y say evict
pub record CountWalk (f : ℕ → Cell) (g : ℕ → Bool) (from end y t : ℕ) (rs : Rules) (r : Rule) (rest : Rules) : Type 0 where
  pub standing : EncodedAllAt rest f from
  pub ends : from + sizes rest ≡ end
  pub evicts : y + count_true (answers_by g rest from) ≡ count_true (answers_by g (more rs r) from)
  pub told : t + length (answers_by g rest from) ≡ length (answers_by g (more rs r) from)

-- so for whatever combinator has the k cells from `from` on
abbrev pub CountWalks : (ℕ → Cell) → (ℕ → Bool) → ℕ → ℕ → ℕ → ℕ → ℕ → Type 0
CountWalks f g from k end y t =
    (j : Join) (rs : Rules) (r : Rule) → size (node j rs r) ≡ k → EncodedAt (node j rs r) f from → (rest : Rules) × CountWalk f g from end y t rs r rest

-- the last rule that has not been asked yet
pub record Last (f : ℕ → Cell) (from end : ℕ) : Type 0 where
  pub before : Rules
  pub child : Rule
  pub stands : EncodedAt child f (from + sizes before)
  pub ends : from + sizes before + size child ≡ end

-- an answer is that of whatever rule has the k cells from `from` on
abbrev pub Answered : (ℕ → Cell) → (ℕ → Bool) → ℕ → ℕ → Bool → Type 0
Answered f g from k b = (r : Rule) → size r ≡ k → EncodedAt r f from → b ≡ evict_by g r from

module _ (f : ℕ → Cell) (g : ℕ → Bool) (from k : ℕ) where
  pub walks_start : CountWalks f g from k (from + k - 1) 0 0
  unfolding size EncodedAt
  walks_start j rs r e st =
      (more rs r, record { standing = (st.0, st.1); ends = omega arith; evicts = omega arith; told = omega arith })

  -- the walk has come to `end`
  module _ {end y t : ℕ} (ws : CountWalks f g from k end y t) where
    last_of_lem : (rs : Rules) (r : Rule) → from < end → (rest : Rules) → CountWalk f g from end y t rs r rest → Last f from end
    unfolding size EncodedAt
    last_of_lem rs r lt nil w = absurd (omega (arith, w.ends))
    last_of_lem rs r lt (more rest q) w =
        let h = w.ends in
        record { before = rest; child = q; stands = w.standing.1; ends = omega arith }

    pub last : Subtree f from k → NoLeaf (f (from + k - 1)).what → from < end → Last f from end
    unfolding size EncodedAt
    last sub other lt = by sub.rule sub.sized sub.stands
      where
        by : (r : Rule) → size r ≡ k → EncodedAt r f from → Last f from end
        by (leaf l) e st =
            let p : from + k - 1 ≡ from = omega arith in
            absurd (other l (rw p st.0))
        by (node j rs r) e st = let (rest, w) = ws j rs r e st in last_of_lem rs r lt rest w

    -- the cell before `end` says z
    module _ {z : ℕ} (says : z ≡ (f (end - 1)).size) where
      next_of_lem : (b : Bool) {y' : ℕ} (rs : Rules) (r : Rule) → from < end → Answered f g (end - z) z b → y' ≡ cond b (suc y) y →
          (rest : Rules) → CountWalk f g from end y t rs r rest → (rest : Rules) × CountWalk f g from (end - z) y' (t + 1) rs r rest
      unfolding size EncodedAt evict_by
      next_of_lem b rs r lt ans ey nil w = absurd (omega (arith, w.ends))
      next_of_lem b {y'} rs r lt ans ey (more rest q) w =
          let h = w.ends in
          let pe : from + sizes rest + size q - 1 ≡ end - 1 = omega arith in
          let pq : size q ≡ z = sym (rw pe at (root_size q f (from + sizes rest) w.standing.1)) ∙ sym says in
          let pf : from + sizes rest ≡ end - z = omega arith in
          let st : EncodedAt q f (end - z) = rw pf at w.standing.1 in
          let e : y + count_true (b ∷ answers_by g rest from) ≡ count_true (answers_by g (more rs r) from) = rw (ans q pq st, ← pf) w.evicts in (
            rest,
            record {
              standing = w.standing.0;
              ends = pf;
              evicts = yeses_moved b (answers_by g rest from) y y' ey ∙ e;
              told = omega (arith, w.told);
            },
          )

      -- one child more is asked
      pub walks_next : from < end → (b : Bool) {y' : ℕ} → Answered f g (end - z) z b → y' ≡ cond b (suc y) y → CountWalks f g from k (end - z) y' (t + 1)
      walks_next lt b ans ey j rs r e st = let (rest, w) = ws j rs r e st in next_of_lem b rs r lt ans ey rest w

    done_of : (rs : Rules) (r : Rule) → end ≤ from → (rest : Rules) → CountWalk f g from end y t rs r rest →
        (count_true (answers_by g (more rs r) from) ≡ y) × (length (answers_by g (more rs r) from) ≡ t)
    unfolding size evict_by count_true
    done_of rs r le nil w = (omega (arith, w.evicts), omega (arith, w.told))
    done_of rs r le (more rest q) w = absurd (omega (arith, w.ends, size_pos q))

    -- all are asked
    pub join_done : {m : Meaning} {b : Bool} → m ≡ (f (from + k - 1)).what → NoLeaf m → end ≤ from →
        ((j : Join) (bs : List Bool) → m ≡ join_meaning j → count_true bs ≡ y → length bs ≡ t → b ≡ join_says j bs) → Answered f g from k b
    unfolding size EncodedAt evict_by
    join_done p other le says (leaf l) e st =
        let q : from ≡ from + k - 1 = omega arith in
        absurd (other l (p ∙ (rw q at st.0)))
    join_done p other le says (node j rs r) e st =
        let q : from + sizes rs + size r ≡ from + k - 1 = omega arith in
        let (rest, w) = ws j rs r e st in
        let (x, z) = done_of rs r le rest w in
        says j (answers_by g (more rs r) from) (p ∙ (rw q at st.2)) x z

  -- a leaf has no children: it is known by its meaning, or by its one cell
  pub leaf_done : {m : Meaning} {b : Bool} → m ≡ (f (from + k - 1)).what → NoJoin m → ((l : Leaf) → m ≡ leaf_meaning l → b ≡ g (from + k - 1)) → Answered f g from k b
  unfolding size EncodedAt evict_by
  leaf_done {b = b} p other says (leaf l) e st =
      let q : from + k - 1 ≡ from = omega arith in
      rw q at (says l (p ∙ (rw (sym q) at st.0)))
  leaf_done p other says (node j rs r) e st =
      let q : from + sizes rs + size r ≡ from + k - 1 = omega arith in
      absurd (other j (p ∙ (rw q at st.2)))

  pub one_done : {b : Bool} → k ≡ 1 → b ≡ g from → Answered f g from k b
  unfolding size EncodedAt evict_by
  one_done one says (leaf l) e st = says
  one_done one says (node j rs r) e st = absurd (omega (arith, size_pos r))

-- the last rule's size is what the cell before `end` says, and its cells are there
module _ {f : ℕ → Cell} {from end : ℕ} (l : Last f from end) {z : ℕ} (says : z ≡ (f (end - 1)).size) where
  pub last_size : z ≡ size l.child
  last_size =
      let h = l.ends in
      let e : from + sizes l.before + size l.child - 1 ≡ end - 1 = omega arith in
      says ∙ (rw e at (root_size l.child f (from + sizes l.before) l.stands))

  pub last_here : Subtree f (end - z) z
  last_here =
      let h = l.ends in
      let b = last_size in
      let e : from + sizes l.before ≡ end - z = omega arith in
      record { rule = l.child; sized = sym b; stands = rw e at l.stands }

  -- it has a cell, and no more than there are
  pub last_back : (0 < z) × (z + from ≤ end)
  last_back =
      let h = l.ends in
      let b = last_size in
      let p = size_pos l.child in
      (omega arith, omega arith)
