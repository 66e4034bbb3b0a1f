-- `slices::end_of_last` meets its contract: the bytes passed fail the test. Assumes nothing.
use mathlib.Core.Path.{◌≡◌, sym, ◌∙◌}
use Prim.Native.Nat.{◌-◌, ◌+◌}
use native.Mathlib.Omega.{arith}
use lib.ListN.{get_or}
use Rattle.slices.proofs.Laws.SearchLaws.{last_here, last_before, last_none, is_within, is_below, is_above}
use Rattle.slices.proofs.end_of_last.Goals as goal

pub returns-then-b-hi : goal.returns-then-b-hi
returns-then-b-hi c =
    let l = c.loop-i in
    let a = c.args in
    let b = get_or a.s.now (l.i - 1) 0 in
    let e : l.i - 1 + 1 ≡ l.i = omega arith in
    e ∙ sym (last_here _ _ l.i (omega arith) (is_within a.lo a.hi b (omega arith) (omega arith))) ∙ l.invariant

pub loop-i-preserved-else-b-hi : goal.loop-i-preserved-else-b-hi
loop-i-preserved-else-b-hi c =
    let l = c.loop-i in
    let a = c.args in
    sym (last_before _ _ l.i (omega arith) (is_above a.lo a.hi (get_or a.s.now (l.i - 1) 0) (omega arith))) ∙ l.invariant

pub loop-i-preserved : goal.loop-i-preserved
loop-i-preserved c =
    let l = c.loop-i in
    let a = c.args in
    sym (last_before _ _ l.i (omega arith) (is_below a.lo a.hi (get_or a.s.now (l.i - 1) 0) (omega arith))) ∙ l.invariant

pub returns : goal.returns
returns c =
    let l = c.loop-i in
    let z : l.i ≡ 0 = omega arith in
    sym (last_none _ _) ∙ rw z at l.invariant
