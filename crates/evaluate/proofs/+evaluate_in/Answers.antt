-- `evaluate::evaluate_in` meets its contract. Assumes nothing.
use mathlib.Core.Path.{◌≡◌, refl, ◌∙◌}
use mathlib.Core.Bool.{Bool, cond}
use Prim.Native.Nat.{ℕ, suc, ◌+◌, ◌-◌}
use native.Mathlib.Omega.{arith}
use borrow.Author.Tests.{le-leb, lt-leb}
use Rattle.image.specs.Decode.{cell_at}
use Rattle.image.proofs.Laws.FitLaws.{cell_size}
use Rattle.image.proofs.Laws.EncodeLaws.{size_pos}
use Rattle.image.proofs.Laws.KindLaws.{other_kind, join_kind_no_leaf, no_leaf, no_join}
use Rattle.image.proofs.Laws.SiblingLaws.{children_stand}
use Rattle.image.proofs.Laws.CellLaws.{cell_what}
use Rattle.evaluate.specs.Inner.By.{says_at}
use Rattle.evaluate.proofs.Laws.SubtreeLaws.{walks_start, walks_next, Last, last, last_here, last_back, Answered, moved_few, leaf_done, one_done, join_done}
use Rattle.evaluate.proofs.+evaluate_in.Goals as goal
use Rattle.evaluate.proofs.+evaluate_in.Goals.{In-Some, then-child-eq1+then-least-says, then-child-eq1+else-least-says, else-child-eq1+then-evaluate_in, else-child-eq1+else-evaluate_in}

pub invariant_of-nodes : goal.invariant_of-nodes
invariant_of-nodes t c = record { in_bounds = c.requires.0.long }

pub overflow_sub-at : goal.overflow_sub-at
overflow_sub-at t c = let h = c.requires.0 in omega (arith, size_pos h.here.rule, h.here.sized)

pub node-root-requires : goal.node-root-requires
node-root-requires t c = let h = c.requires.0 in omega (arith, size_pos h.here.rule, h.here.sized, h.within)

pub bounds-says-at : goal.bounds-says-at
bounds-says-at t c = let h = c.requires.0 in omega (arith, size_pos h.here.rule, h.here.sized, h.within, c.requires.1)

pub children-child-items-requires : goal.children-child-items-requires
children-child-items-requires t c =
    let h = c.requires.0 in
    let d = c.node-root in (
      ∣ children_stand h.here (λ l e. no_leaf c.args.bytes.now c.args.count d.result.kind d.result.arg
          (join_kind_no_leaf _ (omega arith) (omega arith)) l (cell_what _ _ _ d.ensures ∙ e)) ∣₁,
      omega (arith, size_pos h.here.rule, h.here.sized, h.within),
    )

pub loop-child-init : goal.loop-child-init
loop-child-init t c =
    let e = c.children-child-items.ensures in
    rw (c.into_iter-child-iterator.ensures.into_iter_gives, e.0, e.1, e.2, e.3) (refl, refl, refl, omega arith, omega arith, walks_start _ _ _ _)

-- the child that a turn asks, and the cell before `end`, which says its size
the_last : (t : ℕ) (c : In-Some t) → Last (cell_at c.args.bytes.now c.args.count) c.args.from c.loop-child.child-iterator.end
the_last t c =
    let i = c.loop-child.invariant in
    let d = c.node-root in
    last _ _ _ _ i.5 c.requires.0.here
    (λ l e. no_leaf c.args.bytes.now c.args.count d.result.kind d.result.arg
    (join_kind_no_leaf _ (omega arith) (omega arith)) l (cell_what _ _ _ d.ensures ∙ e)) (rw i.2 at c.in-Some.ensures.steps.3.0)

the_cell : (t : ℕ) (c : In-Some t) →
    c.in-Some.child.node.size ≡ (cell_at c.args.bytes.now c.args.count (c.loop-child.child-iterator.end - 1)).size
the_cell t c = let i = c.loop-child.invariant in cell_size _ _ _ (rw (i.0, i.1) at c.in-Some.ensures.steps.3.1)

pub evaluate_in-requires : goal.evaluate_in-requires
evaluate_in-requires t c =
    let h = c.requires.0 in
    let at = (goal.at.evaluate_in-requires t c).In-Some in
    let z = the_cell t at in
    let l = the_last t at in
    let b = last_back l z in
    let i = c.loop-child.invariant in
    let d = c.in-Some.child in
    let q : c.loop-child.child-iterator.end - d.node.size ≡ d.start = omega (arith, c.in-Some.ensures.steps.3.2) in (
      omega (arith, i.3),
      (
        record {
          long = h.long;
          within = omega (arith, i.3, h.within, size_pos h.here.rule, h.here.sized);
          here = rw q at (last_here l z);
        },
        c.requires.1,
      ),
    )

-- a turn counts what the child says
pub loop-child-preserved : goal.loop-child-preserved
loop-child-preserved t c =
    let i = c.loop-child.invariant in
    let a = c.args in
    let d = c.in-Some.child in
    let steps = c.in-Some.ensures.steps in
    let at = (goal.at.loop-child-preserved t c).In-Some in
    let z = the_cell t at in
    let back = last_back (the_last t at) z in
    let q : d.start ≡ c.loop-child.child-iterator.end - d.node.size = omega (arith, steps.3.2) in
    let answered = Answered (cell_at a.bytes.now a.count) (says_at a.says.now a.least) d.start d.node.size in
    let turn : (b : Bool) × answered b × (c.if-child-eq1.yes ≡ cond b (suc c.loop-child.yes) c.loop-child.yes) =
    elim c.if-child-eq1.branch [
      | then-child-eq1+then-least-says w ↦ (_, one_done _ _ _ _ w.if-child-eq1.true refl, rw (le-leb _ _ w.if-least-says.true) (omega arith))
      | then-child-eq1+else-least-says w ↦ (_, one_done _ _ _ _ w.if-child-eq1.true refl, rw (lt-leb _ _ w.if-least-says.false) w.yes-is)
      | else-child-eq1+then-evaluate_in w ↦ (_, w.evaluate_in.ensures, rw w.if-evaluate_in.true (omega arith))
      | else-child-eq1+else-evaluate_in w ↦ (_, w.evaluate_in.ensures, rw w.if-evaluate_in.false w.yes-is)
    ]
    in
    let (b, ans, counted) = turn in (
      steps.0 ∙ i.0,
      steps.1 ∙ i.1,
      steps.2 ∙ i.2,
      omega (arith, steps.3.2, steps.3.3, back, i.3),
      omega (arith, moved_few b counted, i.4),
      rw (steps.3.3, q) (walks_next _ _ _ _ i.5 z (rw i.2 at steps.3.0) b (rw q at ans) counted),
    )

pub returns-in-0-to-2 : goal.returns-in-0-to-2
returns-in-0-to-2 t c =
    let d = c.node-root in
    leaf_done _ _ _ _ (cell_what _ _ _ d.ensures) (no_join _ _ d.result.kind _ (λ h i. omega arith)) (λ l e. refl)

pub returns-in-None : goal.returns-in-None
returns-in-None t c =
    let d = c.node-root in
    let i = c.loop-child.invariant in
    join_done _ _ _ _ i.5 (cell_what _ _ _ d.ensures)
    (no_leaf _ _ d.result.kind _ (join_kind_no_leaf _ (omega arith) (omega arith))) (rw i.2 at c.in-None.ensures.steps.3.0) (c.join_says.ensures _ _)

pub returns-in_default : goal.returns-in_default
returns-in_default t c =
    let d = c.node-root in
    leaf_done _ _ _ _ (cell_what _ _ _ d.ensures) (no_join _ _ d.result.kind _ (λ h i. omega arith))
    (λ l e. absurd (no_leaf _ _ d.result.kind _ (other_kind _ (λ q. omega arith) (λ q. omega arith) (λ q. omega arith)) l e))
