-- `store_table::same_from` meets its contract: what is left of both names compares as all from the position on. Assumes nothing.
use mathlib.Core.Path.{sym, ◌∙◌}
use native.Mathlib.Omega.{arith}
use borrow.Author.Tests.{eq-eqb, ne_eqb}
use Rattle.ascii.proofs.Laws.LettersLaws.{equal_end, equal_on, equal_off}
use Rattle.store_table.specs.Names.{same_name}
use Rattle.store_table.proofs.same_from.Goals as goal

pub returns-then-a-i : goal.returns-then-a-i
unfolding same_name
returns-then-a-i c =
    let l = c.loop-i in
    sym (equal_off _ _ _ l.i (omega arith) (omega arith) (ne_eqb _ _ c.if-a-i.true)) ∙ l.invariant

pub loop-i-preserved : goal.loop-i-preserved
unfolding same_name
loop-i-preserved c =
    let l = c.loop-i in
    sym (equal_on _ _ _ l.i (omega arith) (omega arith) (eq-eqb _ _ c.if-a-i.false)) ∙ l.invariant

pub returns : goal.returns
unfolding same_name
returns c = let l = c.loop-i in sym (equal_end _ _ _ l.i (omega arith) (omega arith)) ∙ l.invariant
