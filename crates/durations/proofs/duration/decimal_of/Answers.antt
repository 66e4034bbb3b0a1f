-- `durations::duration::decimal_of` meets its contract: the digits left, read after the number so far, write the number. Assumes nothing.
use mathlib.Core.Path.{sym, ◌∙◌}
use Prim.Native.Nat.{zero, ◌≤◌, ◌<◌}
use native.Mathlib.Nat.{pow-le-pow_right, pow-suc}
use native.Mathlib.Numerals.{add-one}
use native.Mathlib.Omega.{arith}
use Rattle.decimal.proofs.Laws.DecimalLaws.{digit_within}
use Rattle.durations.proofs.Laws.DurationLaws.{digit_here, digit_more, none_more}
use Rattle.durations.proofs.duration.decimal_of.Goals as goal

pub digit_of-requires : goal.digit_of-requires
digit_of-requires c = let l = c.loop-b in (digit_here _ l.b-index c.loop-b-test.true l.invariant.1).0

pub loop-b-preserved : goal.loop-b-preserved
loop-b-preserved c =
    let l = c.loop-b in
    let here = digit_here _ l.b-index c.loop-b-test.true l.invariant.1 in (
      rw (add-one, pow-suc 10 l.b-index) (omega (arith, digit_within _ here.0)),
      here.1,
      rw c.digit_of.ensures (sym (digit_more _ l.b-index c.loop-b-test.true l.value) ∙ l.invariant.2),
    )

pub returns : goal.returns
returns c =
    let l = c.loop-b in
    let p : zero < 10 = omega arith in
    let m : l.b-index ≤ 9 = omega arith in
    (sym (none_more l.value _ l.b-index (omega arith)) ∙ l.invariant.2, omega (arith, pow-le-pow_right p m))
