-- `print_text::size::text_size_in` meets its contract: the walk over the children keeps the bytes of the text that was passed, and each child
-- has fewer nodes than its parent.
use Rattle.std.proofs.Common.{◌≡◌, refl, sym, subst, ◌∙◌, ℕ, List, ◌+◌, ◌-◌, ◌≤◌, ◌<◌, length, length-append, arith}
use Rattle.rules.specs.Rule.{Rule, size}
use lib.Dec.{eqb}
use Rattle.image.specs.Decode.{cell_at, node_at}
use Rattle.image.specs.Inner.EncodedAt.{EncodedAt}
use Rattle.image.specs.Inner.Subtree.{ValidSubtree}
use Rattle.image.specs.Inner.Valid.{node_of}
use Rattle.image.proofs.Laws.EncodeLaws.{size_pos}
use Rattle.image.proofs.Laws.CellLaws.{cell_what, name_inside}
use Rattle.image.proofs.Laws.KindLaws.{no_leaf}
use Rattle.image.proofs.Laws.SiblingLaws.{children_stand}
use Rattle.print_text.specs.Print.{text_of}
use Rattle.print_text.specs.Inner.Pieces.{opening_of, front_of, back_of}
use Rattle.print_text.proofs.Laws.ChildrenLaws.{TextWalks, walks_start, Turn, turn, turn_room, walks_next, walks_done, leaf_text_lem, text_short}
use Rattle.print_text.proofs.size.+text_size_in.Goals as goal
use Rattle.print_text.proofs.size.+text_size_in.Goals.{After-around_size-total, After-leaf_size-total}

-- at entry there is a node, and the last one is within the image
the_node : {s : List ℕ} {n from k : ℕ} → ValidSubtree s n from k → (0 < k) × (from + k ≤ n)
the_node h = (omega (arith, size_pos h.here.rule, h.here.sized), h.within)

-- where the child that a turn counts begins, and what surrounds its text
the_start : (t : ℕ) (c : After-around_size-total t) → c.in-Some.child.start ≡ c.loop-child.child-iterator.end - c.in-Some.child.node.size
the_start t c = omega (arith, c.in-Some.ensures.steps.3.2)

the_around : (t : ℕ) (c : After-around_size-total t) →
    let k = c.node-root.result.kind in
    let d = c.in-Some.child.node in
    c.around_size-total.result ≡ length (front_of k d.kind) + length (back_of k d.kind (eqb c.loop-child.child-iterator.end (c.args.from + c.args.size - 1)))
the_around t c = rw c.in-Some.ensures.steps.3.4 at c.around_size-total.ensures

-- its node
the_read : (t : ℕ) (c : After-around_size-total t) →
    node_of c.in-Some.child.node ≡ node_at c.args.bytes.now c.args.count (c.loop-child.child-iterator.end - 1)
the_read t c = let i = c.loop-child.invariant in rw (i.0, i.1) at c.in-Some.ensures.steps.3.1

-- the child
the_turn : (t : ℕ) (c : After-around_size-total t) →
    let d = c.node-root.result in
    let total = c.loop-child.total in
    Turn c.args.bytes.now c.args.count d.kind d.arg c.args.from c.args.size
    c.loop-child.child-iterator.end (λ t. total ≡ length (opening_of d.kind d.arg) + length t)
    c.requires.0.here.rule (node_of c.in-Some.child.node)
the_turn t c =
    let h = c.requires.0.here in
    let i = c.loop-child.invariant in
    turn _ _ _ _ _ i.4 i.3 (rw i.2 at c.in-Some.ensures.steps.3.0) (the_read t c) h.rule h.sized h.stands

the_stands : (t : ℕ) (c : After-around_size-total t) → EncodedAt (the_turn t c).child (cell_at c.args.bytes.now c.args.count) c.in-Some.child.start
the_stands t c = let u = the_turn t c in subst (EncodedAt u.child (cell_at _ _)) (sym (the_start t c)) u.stands

-- its bytes fit a number
the_room : (t : ℕ) (c : After-around_size-total t) →
    c.loop-child.total + c.around_size-total.result + length (text_of (the_turn t c).child) ≤ 134_348_800
the_room t c =
    let u = the_turn t c in
    let h = c.requires.0.here in
    omega (arith, the_around t c, turn_room _ _ u, u.holds, text_short _ _ h.rule _ h.stands, h.sized, the_node c.requires.0, c.requires.1)

-- r is how many bytes its own text has
abbrev Counted : (t : ℕ) (c : After-around_size-total t) → ℕ → Type 0
Counted t c r =
    let d = c.in-Some.child in
    (q : Rule) → size q ≡ d.node.size → EncodedAt q (cell_at c.args.bytes.now c.args.count) d.start → r ≡ length (text_of q)

-- so they have room, and the walk continues
counted_room : (t : ℕ) (c : After-around_size-total t) {r : ℕ} →
    Counted t c r → c.loop-child.total + c.around_size-total.result + r ≤ 134_348_800
counted_room t c h =
    let u = the_turn t c in
    omega (arith, the_room t c, h u.child u.sized (the_stands t c))

counted_next : (t : ℕ) (c : After-around_size-total t) {r : ℕ} →
    Counted t c r →
    let d = c.node-root.result in
    let i = c.loop-child in
    let k = c.next.new.self in
    let a = c.args in
    (k.nodes.bytes.now ≡ a.bytes.now) × (k.nodes.count ≡ a.count) × (k.from ≡ a.from) × (k.end ≤ a.from + a.size - 1)
    × TextWalks a.bytes.now a.count d.kind d.arg a.from a.size k.end
    (λ t. i.total + c.around_size-total.result + r ≡ length (opening_of d.kind d.arg) + length t)
counted_next t c h =
    let i = c.loop-child.invariant in
    let steps = c.in-Some.ensures.steps in
    let around = the_around t c in (
      steps.0 ∙ i.0,
      steps.1 ∙ i.1,
      steps.2 ∙ i.2,
      omega (arith, i.3, steps.3.2, steps.3.3),
      rw (steps.3.3, the_start t c)
          (walks_next _ _ _ _ _ i.4 i.3 (rw i.2 at steps.3.0) (the_read t c)
          (λ q v e st x. simp length-append (omega (arith, around, h q e (rw (the_start t c) st))))),
    )

pub invariant_of-nodes : goal.invariant_of-nodes
invariant_of-nodes t c = record { in_bounds = c.requires.0.long }

pub overflow_sub-at : goal.overflow_sub-at
overflow_sub-at t c = omega (arith, the_node c.requires.0)

pub node-root-requires : goal.node-root-requires
node-root-requires t c = omega (arith, the_node c.requires.0)

pub leaf_size-requires : goal.leaf_size-requires
leaf_size-requires t c = name_inside _ _ _ c.node-root.ensures c.requires.0.names (omega (arith, the_node c.requires.0))

pub returns-then-is_leaf : goal.returns-then-is_leaf
returns-then-is_leaf t c = λ ρ e st.
    rw (leaf_text_lem _ _ _ _ _ c.node-root.ensures (omega (arith, the_node c.requires.0))
    (sym c.is_leaf.ensures ∙ c.if-is_leaf.true) ρ e st) at c.leaf_size.ensures

pub children-child-items-requires : goal.children-child-items-requires
children-child-items-requires t c =
    let h = c.requires.0 in
    let d = c.node-root in (
      ∣ children_stand h.here (λ l e. no_leaf _ _ d.result.kind d.result.arg (sym c.is_leaf.ensures ∙ c.if-is_leaf.false) l (cell_what _ _ _ d.ensures ∙ e)) ∣₁,
      omega (arith, the_node h),
    )

pub loop-child-init : goal.loop-child-init
loop-child-init t c =
    let e = c.children-child-items.ensures in
    rw (c.into_iter-child-iterator.ensures.into_iter_gives, e.0, e.1, e.2, e.3) (
      refl,
      refl,
      refl,
      omega arith,
      walks_start _ _ _ _ _ c.node-root.ensures (omega (arith, the_node c.requires.0))
          (sym c.is_leaf.ensures ∙ c.if-is_leaf.false) (omega arith),
    )

pub overflow_add-total : goal.overflow_add-total
overflow_add-total t c = omega (arith, the_room t c)

pub leaf_size-total-requires : goal.leaf_size-total-requires
leaf_size-total-requires t c =
    let at = (goal.at.leaf_size-total-requires t c).After-around_size-total in
    name_inside _ _ _ (the_read t at) c.requires.0.names (omega (arith, c.loop-child.invariant.3, the_node c.requires.0))

-- a leaf's bytes
leaf_counted : (t : ℕ) (c : After-leaf_size-total t) → let d = c.in-Some.child in
    0 < d.node.size → d.node.size ≤ c.loop-child.child-iterator.end →
    (q : Rule) → size q ≡ d.node.size → EncodedAt q (cell_at c.args.bytes.now c.args.count) d.start →
    c.leaf_size-total.result ≡ length (text_of q)
leaf_counted t c some fits q e st =
    let i = c.loop-child.invariant in
    let steps = c.in-Some.ensures.steps in
    rw (leaf_text_lem _ _ _ _ _ (rw (i.0, i.1) at steps.3.1) (omega (arith, steps.3.2))
    (sym c.is_leaf-in-loop-child.ensures ∙ c.if-is_leaf-2.true) q e st) at c.leaf_size-total.ensures

pub overflow_add-total-then-is_leaf-2 : goal.overflow_add-total-then-is_leaf-2
overflow_add-total-then-is_leaf-2 t c =
    let d = (goal.at.overflow_add-total-then-is_leaf-2 t c).After-around_size-total in
    let u = the_turn t d in
    omega (arith, counted_room t d (leaf_counted t c u.some (omega (arith, u.fits))))

pub loop-child-preserved-then-is_leaf-2 : goal.loop-child-preserved-then-is_leaf-2
loop-child-preserved-then-is_leaf-2 t c =
    let d = (goal.at.loop-child-preserved-then-is_leaf-2 t c).After-around_size-total in
    let u = the_turn t d in
    counted_next t d (leaf_counted t c u.some (omega (arith, u.fits)))

pub text_size_in-total-requires : goal.text_size_in-total-requires
text_size_in-total-requires t c =
    let h = c.requires.0 in
    let n = the_node h in
    let d = (goal.at.text_size_in-total-requires t c).After-around_size-total in
    let u = the_turn t d in
    let p = u.some in
    let q = u.fits in
    let start = the_start t d in
    let le = c.loop-child.invariant.3 in (
      omega (arith, c.decreases),
      (
        record {
          long = h.long;
          names = h.names;
          within = omega arith;
          here = record { rule = u.child; sized = u.sized; stands = the_stands t d };
        },
        c.requires.1,
      ),
    )

pub overflow_add-total-else-is_leaf-2 : goal.overflow_add-total-else-is_leaf-2
overflow_add-total-else-is_leaf-2 t c =
    omega (arith, counted_room t (goal.at.overflow_add-total-else-is_leaf-2 t c).After-around_size-total c.text_size_in-total.ensures)

pub loop-child-preserved : goal.loop-child-preserved
loop-child-preserved t c = counted_next t (goal.at.loop-child-preserved t c).After-around_size-total c.text_size_in-total.ensures

pub returns : goal.returns
returns t c = λ ρ e st.
    let i = c.loop-child.invariant in
    let (t, p, h) = walks_done c.args.bytes.now c.args.count c.args.from c.args.size c.loop-child.child-iterator.end i.4
    (rw i.2 at c.in-None.ensures.steps.3.0) ρ e st in
    rw p (rw length-append h)
