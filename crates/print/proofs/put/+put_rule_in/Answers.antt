-- `print::put::put_rule_in` meets its contract: the walk over the children keeps what is written, and each child has fewer nodes than its
-- parent.
use Rattle.std.proofs.Common.{◌≡◌, refl, sym, ap, subst, ◌∙◌, ℕ, suc, List, ◌+◌, ◌-◌, ◌≤◌, ◌<◌, length, length-append, arith}
use Rattle.rules.specs.Rule.{Rule, size}
use lib.Dec.{eqb}
use Rattle.image.specs.Decode.{cell_at, node_at}
use Rattle.image.specs.Inner.EncodedAt.{EncodedAt}
use Rattle.image.specs.Inner.Subtree.{ValidSubtree}
use Rattle.image.specs.Inner.Valid.{node_of}
use Rattle.image.proofs.Laws.EncodeLaws.{size_pos}
use Rattle.image.proofs.Laws.CellLaws.{cell_what, name_inside}
use Rattle.image.proofs.Laws.KindLaws.{no_leaf}
use Rattle.image.proofs.Laws.SiblingLaws.{children_stand}
use Rattle.print_text.specs.Inner.Pieces.{back_of}
use Rattle.slices.specs.Text.{WrittenAt}
use Rattle.slices.proofs.Laws.WrittenLaws.{written_at_none, written_at_before}
use Rattle.print_text.specs.Print.{text_of}
use Rattle.print_text.proofs.Laws.ChildrenLaws.{walks_start, Turn, turn, walks_next, walks_done, leaf_text_lem}
use Rattle.print_text.proofs.Laws.PrependLaws.{pieces_room, child_room, put_start}
use Rattle.print.proofs.put.+put_rule_in.Goals as goal
use Rattle.print.proofs.put.+put_rule_in.Goals.{In-Some, After-prepend_back-to, Joined-is_leaf-2, then-is_leaf-2, else-is_leaf-2}

-- at entry there is a node, and the last one is within the image
the_node : {s : List ℕ} {n from k : ℕ} → ValidSubtree s n from k → (0 < k) × (from + k ≤ n)
the_node h = (omega (arith, size_pos h.here.rule, h.here.sized), h.within)

-- the rule's text has room
the_fit : {s : List ℕ} {n from k end : ℕ} (h : ValidSubtree s n from k) →
    ((ρ : Rule) → size ρ ≡ k → EncodedAt ρ (cell_at s n) from → length (text_of ρ) ≤ end) → length (text_of h.here.rule) ≤ end
the_fit h room = room h.here.rule h.here.sized h.here.stands

-- where the child that a turn writes begins, and its node
the_start : (t : ℕ) (c : In-Some t) → c.in-Some.child.start ≡ c.loop-child.child-iterator.end - c.in-Some.child.node.size
the_start t c = omega (arith, c.in-Some.ensures.steps.3.2)

the_read : (t : ℕ) (c : In-Some t) →
    node_of c.in-Some.child.node ≡ node_at c.args.bytes.now c.args.count (c.loop-child.child-iterator.end - 1)
the_read t c = let i = c.loop-child.invariant in rw (i.0, i.1) at c.in-Some.ensures.steps.3.1

-- the child
the_turn : (t : ℕ) (c : In-Some t) →
    let d = c.node-root.result in
    let i = c.loop-child in
    Turn c.args.bytes.now c.args.count d.kind d.arg c.args.from c.args.size i.child-iterator.end
    (λ t. WrittenAt c.args.text.now i.text i.to c.args.end t) c.requires.0.here.rule (node_of c.in-Some.child.node)
the_turn t c =
    let h = c.requires.0.here in
    let i = c.loop-child.invariant in
    turn _ _ _ _ _ i.4 i.3 (rw i.2 at c.in-Some.ensures.steps.3.0) (the_read t c) h.rule h.sized h.stands

the_stands : (t : ℕ) (c : In-Some t) → EncodedAt (the_turn t c).child (cell_at c.args.bytes.now c.args.count) c.in-Some.child.start
the_stands t c = let u = the_turn t c in subst (EncodedAt u.child (cell_at _ _)) (sym (the_start t c)) u.stands

pub invariant_of-nodes : goal.invariant_of-nodes
invariant_of-nodes t c = record { in_bounds = c.requires.0.long }

pub overflow_sub-at : goal.overflow_sub-at
overflow_sub-at t c = omega (arith, the_node c.requires.0)

pub node-root-requires : goal.node-root-requires
node-root-requires t c = omega (arith, the_node c.requires.0)

pub prepend_leaf-requires : goal.prepend_leaf-requires
prepend_leaf-requires t c =
    let d = c.node-root.ensures in
    let h = c.requires.0.here in (
      name_inside _ _ _ d c.requires.0.names (omega (arith, the_node c.requires.0)),
      rw (leaf_text_lem _ _ _ _ _ d (omega (arith, the_node c.requires.0))
          (sym c.is_leaf.ensures ∙ c.if-is_leaf.true) h.rule h.sized h.stands) (the_fit c.requires.0 c.requires.1),
      c.requires.2,
    )

pub returns-then-is_leaf : goal.returns-then-is_leaf
returns-then-is_leaf t c = λ ρ e st.
    rw (← leaf_text_lem _ _ _ _ _ c.node-root.ensures (omega (arith, the_node c.requires.0))
    (sym c.is_leaf.ensures ∙ c.if-is_leaf.true) ρ e st) c.prepend_leaf.ensures

pub children-child-items-requires : goal.children-child-items-requires
children-child-items-requires t c =
    let h = c.requires.0 in
    let d = c.node-root in (
      ∣ children_stand h.here (λ l e. no_leaf _ _ d.result.kind d.result.arg (sym c.is_leaf.ensures ∙ c.if-is_leaf.false) l (cell_what _ _ _ d.ensures ∙ e)) ∣₁,
      omega (arith, the_node h),
    )

pub loop-child-init : goal.loop-child-init
loop-child-init t c =
    let e = c.children-child-items.ensures in
    rw (c.into_iter-child-iterator.ensures.into_iter_gives, e.0, e.1, e.2, e.3) (
      refl,
      refl,
      refl,
      omega arith,
      walks_start _ _ _ _ _ c.node-root.ensures (omega (arith, the_node c.requires.0))
          (sym c.is_leaf.ensures ∙ c.if-is_leaf.false) (written_at_none _ _),
    )

pub prepend_back-to-requires : goal.prepend_back-to-requires
prepend_back-to-requires t c =
    let u = the_turn t (goal.at.prepend_back-to-requires t c).In-Some in
    (rw c.in-Some.ensures.steps.3.4 (omega (arith, pieces_room (the_fit c.requires.0 c.requires.1) u)), put_start c.requires.2 u.holds)

-- what comes after the child is written
the_back : (t : ℕ) (c : After-prepend_back-to t) →
    let p = c.prepend_back-to in
    let k = c.node-root.result.kind in
    WrittenAt c.loop-child.text p.new.text p.result c.loop-child.to
    (back_of k c.in-Some.child.node.kind (eqb c.loop-child.child-iterator.end (c.args.from + c.args.size - 1)))
the_back t c = rw c.in-Some.ensures.steps.3.4 at c.prepend_back-to.ensures

pub prepend_leaf-to-requires : goal.prepend_leaf-to-requires
prepend_leaf-to-requires t c =
    let at = goal.at.prepend_leaf-to-requires t c in
    let d = the_read t at.In-Some in
    let u = the_turn t at.In-Some in
    let p = (the_back t at.After-prepend_back-to).ends in
    let room = child_room (the_fit c.requires.0 c.requires.1) u p in (
      name_inside _ _ _ d c.requires.0.names (omega (arith, c.loop-child.invariant.3, the_node c.requires.0)),
      rw (leaf_text_lem _ _ _ _ _ d (omega (arith, u.some, u.fits))
          (sym c.is_leaf-in-loop-child.ensures ∙ c.if-is_leaf-2.true) u.child u.sized u.stands) (room u.child u.sized u.stands),
      omega (arith, p, put_start c.requires.2 u.holds),
    )

pub put_rule_in-to-requires : goal.put_rule_in-to-requires
put_rule_in-to-requires t c =
    let h = c.requires.0 in
    let at = goal.at.put_rule_in-to-requires t c in
    let u = the_turn t at.In-Some in
    let start = the_start t at.In-Some in
    let pos = u.some in
    let fits = u.fits in
    let le = c.loop-child.invariant.3 in
    let p = (the_back t at.After-prepend_back-to).ends in (
      omega (arith, c.decreases),
      (
        record {
          long = h.long;
          names = h.names;
          within = omega (arith, the_node c.requires.0);
          here = record { rule = u.child; sized = u.sized; stands = the_stands t at.In-Some };
        },
        rw start (child_room (the_fit c.requires.0 c.requires.1) u p),
        omega (arith, p, put_start c.requires.2 u.holds),
      ),
    )

-- its text is written, either way
the_text : (t : ℕ) (c : Joined-is_leaf-2 t) →
    let d = c.in-Some.child in
    let p = c.prepend_back-to in
    0 < d.node.size → d.node.size ≤ c.loop-child.child-iterator.end →
    (q : Rule) → size q ≡ d.node.size → EncodedAt q (cell_at c.args.bytes.now c.args.count) d.start →
    WrittenAt p.new.text c.if-is_leaf-2.text c.if-is_leaf-2.to p.result (text_of q)
the_text t c some fits q e st =
    let i = c.loop-child.invariant in
    let steps = c.in-Some.ensures.steps in
    let read = rw (i.0, i.1) at steps.3.1 in
    let last : c.in-Some.child.start + c.in-Some.child.node.size ≡ suc (c.loop-child.child-iterator.end - 1) = omega (arith, steps.3.2) in
    elim c.if-is_leaf-2.branch [
      | then-is_leaf-2 w ↦ rw (
        w.text-is,
        w.to-is,
        ← leaf_text_lem _ _ _ _ _ read last (sym c.is_leaf-in-loop-child.ensures ∙ w.if-is_leaf-2.true) q e st,
      ) w.prepend_leaf-to.ensures
      | else-is_leaf-2 w ↦ rw (w.text-is, w.to-is) (w.put_rule_in-to.ensures q e st)
    ]

pub prepend_front-to-requires : goal.prepend_front-to-requires
prepend_front-to-requires t c =
    let at = goal.at.prepend_front-to-requires t c in
    let u = the_turn t at.In-Some in
    let p = (the_back t at.After-prepend_back-to).ends in
    let x = the_text t at.Joined-is_leaf-2 u.some (omega (arith, u.fits)) u.child u.sized (the_stands t at.In-Some) in
    let q = x.ends in
    let long : c.prepend_back-to.result ≤ length c.prepend_back-to.new.text = omega (arith, p, put_start c.requires.2 u.holds) in
    (omega (arith, pieces_room (the_fit c.requires.0 c.requires.1) u), put_start long x)

pub loop-child-preserved : goal.loop-child-preserved
loop-child-preserved t c =
    let at = goal.at.loop-child-preserved t c in
    let u = the_turn t at.In-Some in
    let long = c.requires.2 in
    let steps = c.in-Some.ensures.steps in
    let start = the_start t at.In-Some in
    let i = c.loop-child.invariant in (
      steps.0 ∙ i.0,
      steps.1 ∙ i.1,
      steps.2 ∙ i.2,
      omega (arith, i.3, steps.3.2, steps.3.3),
      rw (steps.3.3, start)
          (walks_next _ _ _ _ _ i.4 i.3 (rw i.2 at steps.3.0) (the_read t at.In-Some)
          (λ q v e st h. written_at_before long
          (written_at_before long (written_at_before long h (the_back t at.After-prepend_back-to))
          (the_text t at.Joined-is_leaf-2 u.some (omega (arith, u.fits)) q e (rw start st))) c.prepend_front-to.ensures)),
    )

pub prepend_opening-requires : goal.prepend_opening-requires
prepend_opening-requires t c =
    let h = c.requires.0.here in
    let i = c.loop-child.invariant in
    let (v, e, x) = walks_done c.args.bytes.now c.args.count c.args.from c.args.size c.loop-child.child-iterator.end i.4
    (rw i.2 at c.in-None.ensures.steps.3.0) h.rule h.sized h.stands in
    (omega (arith, x.ends, the_fit c.requires.0 c.requires.1, simp length-append at (ap length e)), put_start c.requires.2 x)

pub returns : goal.returns
returns t c = λ ρ e st.
    let i = c.loop-child.invariant in
    let (v, p, x) = walks_done c.args.bytes.now c.args.count c.args.from c.args.size c.loop-child.child-iterator.end i.4
    (rw i.2 at c.in-None.ensures.steps.3.0) ρ e st in
    rw p (written_at_before c.requires.2 x c.prepend_opening.ensures)
