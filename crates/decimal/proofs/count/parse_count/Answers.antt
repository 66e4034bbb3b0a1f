-- `decimal::count::parse_count` meets its contract: the bytes left, read after the number so far, write the count. Assumes nothing.
use mathlib.Core.Path.{◌≡◌, sym, ◌∙◌}
use Prim.Native.Nat.{◌+◌, ◌*◌}
use native.Mathlib.Omega.{arith}
use Rattle.decimal.proofs.Laws.CountLaws.{count_none, count_start_lem, count_end, count_on, count_large, count_off}
use Rattle.decimal.proofs.count.parse_count.Goals as goal

pub returns-then-word-start : goal.returns-then-word-start
returns-then-word-start c = sym (count_none _ c.sign_end-start.ensures (omega arith))

pub loop-b-init : goal.loop-b-init
loop-b-init c = (omega arith, count_start_lem _ c.sign_end-start.ensures (omega arith))

pub returns-then-not-is_digit : goal.returns-then-not-is_digit
returns-then-not-is_digit c =
    let l = c.loop-b in
    sym (count_off l.value _ l.b-index c.loop-b-test.true (sym c.is_digit.ensures ∙ c.if-not-is_digit.true)) ∙ l.invariant.1

pub returns-in_err-checked_mul : goal.returns-in_err-checked_mul
returns-in_err-checked_mul c =
    let l = c.loop-b in
    let h = count_large l.value _ l.b-index c.loop-b-test.true (sym c.is_digit.ensures ∙ c.if-not-is_digit.false) (omega arith) in
    c.from_residual.ensures ∙ sym h ∙ l.invariant.1

pub returns-in_err-value : goal.returns-in_err-value
returns-in_err-value c =
    let l = c.loop-b in
    let h = count_large l.value _ l.b-index c.loop-b-test.true (sym c.is_digit.ensures ∙ c.if-not-is_digit.false) (omega arith) in
    c.from_residual-in_err-value.ensures ∙ sym h ∙ l.invariant.1

pub loop-b-preserved : goal.loop-b-preserved
loop-b-preserved c =
    let l = c.loop-b in
    let e : c.in_ok-value.value ≡ l.value * 10 + c.digit_of.result = omega arith in
    (omega arith, rw (e, c.digit_of.ensures) (sym (count_on l.value _ l.b-index c.loop-b-test.true (sym c.is_digit.ensures ∙ c.if-not-is_digit.false)) ∙ l.invariant.1))

pub returns : goal.returns
returns c =
    let l = c.loop-b in
    sym (count_end l.value _ l.b-index (omega arith) l.invariant.0) ∙ l.invariant.1
