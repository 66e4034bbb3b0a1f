-- `slices::run_end` meets its contract: while the bytes pass the test, the run ends where it did. Assumes nothing.
use mathlib.Core.Path.{◌≡◌, refl, sym, ◌∙◌}
use native.Mathlib.Omega.{arith}
use borrow.Author.Rules.{rules}
use lib.ListN.{length}
use Rattle.slices.proofs.Laws.TextLaws.{end_out, run_stop, run_on}
use Rattle.slices.proofs.run_end.Goals as goal

pub returns-then-not-passes : goal.returns-then-not-passes
returns-then-not-passes g c p h =
    let l = c.loop-i in
    run_stop _ _ l.i (omega arith) _ (l.invariant p h) (h _ _ (search rules) c.passes.ensures) (rw c.if-not-passes.true refl)

pub loop-i-preserved : goal.loop-i-preserved
loop-i-preserved g c p h =
    let l = c.loop-i in
    run_on _ _ l.i (omega arith) _ (l.invariant p h) (h _ _ (search rules) c.passes.ensures) (rw c.if-not-passes.false refl)

pub returns-then-text-at : goal.returns-then-text-at
returns-then-text-at g c p h = sym (end_out p _ c.args.at (omega arith))

pub returns : goal.returns
returns g c p h =
    let l = c.loop-i in
    let e : length c.args.text.now ≡ l.i = omega arith in
    e ∙ sym (end_out p _ l.i (omega arith)) ∙ l.invariant p h
