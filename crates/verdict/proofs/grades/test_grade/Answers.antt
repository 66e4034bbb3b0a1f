-- `verdict::grades::test_grade` meets its contract: each kind has its own line, and the other kinds are no leaf's. Assumes nothing.
use mathlib.Core.Path.{sym, ◌∙◌}
use native.Mathlib.Omega.{arith}
use Rattle.image.proofs.Laws.KindLaws.{other_kind, no_leaf}
use Rattle.verdict.proofs.Laws.GradesLaws.{older_graded, readable_graded}
use Rattle.verdict.proofs.grades.test_grade.Goals as goal
use Rattle.verdict.proofs.grades.test_grade.Goals.{in-1, in-2, in_default}

pub returns-then-evicts : goal.returns-then-evicts
returns-then-evicts c = λ s n es l e other no_twin.
    elim c.match-leaf.branch [
      | in-1 w ↦ older_graded es no_twin s n _ l e w.in-1.is (sym w.evicts-is ∙ c.if-evicts.true)
      | in-2 w ↦ readable_graded es no_twin s n _ l e w.in-2.is (sym w.evicts-is ∙ c.if-evicts.true)
      | in_default w ↦ absurd (cc)
    ]

pub returns-else-evicts : goal.returns-else-evicts
returns-else-evicts c = λ s n es l e other no_twin.
    elim c.match-leaf.branch [
      | in-1 w ↦ older_graded es no_twin s n _ l e w.in-1.is (sym w.evicts-is ∙ c.if-evicts.false)
      | in-2 w ↦ readable_graded es no_twin s n _ l e w.in-2.is (sym w.evicts-is ∙ c.if-evicts.false)
      | in_default w ↦ absurd (no_leaf s n _ _ (other_kind _ other (λ q. omega arith) (λ q. omega arith)) l e)
    ]
