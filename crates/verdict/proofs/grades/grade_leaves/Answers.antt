-- `verdict::grades::grade_leaves` meets its contract: each of the first i nodes that is a name is a store's, and each that is a leaf has its grade. Assumes nothing.
use mathlib.Core.Path.{refl, ◌∙◌}
use Prim.Native.Nat.{◌<◌}
use native.Mathlib.Omega.{arith}
use lib.ListN.{length}
use Rattle.store_table.proofs.Laws.LookupLaws.{found_none, found_at}
use Rattle.image.proofs.Laws.CellLaws.{cell_what}
use Rattle.image.proofs.Laws.WholeLaws.{its_name}
use Rattle.verdict.proofs.Laws.GradesLaws.{graded_next, name_graded}
use Rattle.verdict.proofs.Laws.UnknownLaws.{unknown_up_to, none_next, first_here, first_nowhere, other_known, name_says}
use Rattle.verdict.proofs.grades.grade_leaves.Goals as goal
use Rattle.verdict.proofs.grades.grade_leaves.Goals.{then-node-eq-NAMED+in-Some, else-node-eq-NAMED}

pub loop-i-init : goal.loop-i-init
unfolding unknown_up_to
loop-i-init c = (refl, λ j lt. absurd (omega arith))

pub name-requires : goal.name-requires
name-requires c =
    its_name c.args.image _ c.node-node.ensures c.loop-i-test.true c.if-node-eq-NAMED.true

pub returns-in_default : goal.returns-in_default
returns-in_default c =
    let d = c.node-node in
    let none = found_none _ c.args.stores.table.in_bounds c.find.ensures c.in_default.is in (
      λ r z st. first_here _ _ _ c.loop-i.invariant.0 r z st
          (name_says _ _ _ _ d.ensures c.if-node-eq-NAMED.true c.name.ensures none) (omega arith),
      λ e. absurd (cc),
    )

pub mode-requires : goal.mode-requires
mode-requires c = (found_at _ c.args.stores.table.in_bounds c.find.ensures c.in-Some.is).below

pub loop-i-preserved : goal.loop-i-preserved
loop-i-preserved c =
    let l = c.loop-i in
    let d = c.node-node in
    let room : l.i < length l.grades = omega arith in
    elim c.if-node-eq-NAMED.branch [
      | then-node-eq-NAMED+in-Some w ↦
          (let f = found_at _ c.args.stores.table.in_bounds w.find.ensures w.in-Some.is in (
            none_next _ _ _ l.invariant.0 (name_says _ _ _ _ d.ensures w.if-node-eq-NAMED.true w.name.ensures f.known),
            rw w.grades-is
                (graded_next _ _ l.grades w.name_grade.result l.invariant.1 room
                (λ x e. rw (w.name_grade.ensures, w.mode.ensures f.entry f.at)
                (name_graded _ c.requires.1 _ _ _ x (cell_what _ _ _ d.ensures ∙ e) f.entry w.if-node-eq-NAMED.true
                w.name.ensures f.here f.named))),
          ))
      | else-node-eq-NAMED w ↦ (
        none_next _ _ _ l.invariant.0 (other_known _ _ _ _ d.ensures w.if-node-eq-NAMED.false),
        rw w.grades-is
            (graded_next _ _ l.grades w.test_grade.result l.invariant.1 room
            (λ x e. w.test_grade.ensures _ _ _ x (cell_what _ _ _ d.ensures ∙ e) w.if-node-eq-NAMED.false c.requires.1)),
      )
    ]

pub returns : goal.returns
returns c =
    let l = c.loop-i in (
      λ r z st. first_nowhere _ _ _ l.invariant.0 r z st c.loop-i-test.false (omega arith),
      λ e j lt. l.invariant.1 j (omega arith),
    )
