-- `durations::duration::part_at` meets its contract, by the laws of a part. Assumes nothing.
use mathlib.Core.Path.{◌≡◌, sym, ◌∙◌}
use Prim.Native.Nat.{◌≤◌}
use native.Mathlib.Omega.{arith}
use lib.ListN.{length, length-take}
use Rattle.ascii.specs.Letters.{equal}
use Rattle.slices.specs.Text.{part}
use Rattle.slices.proofs.Laws.TextLaws.{end_within}
use Rattle.durations.specs.Inner.Units.{unit_of}
use Rattle.durations.proofs.Laws.DurationLaws.{run_digits, amount_small, part_none, part_long, part_other, part_found}
use Rattle.durations.proofs.duration.part_at.Goals as goal
use Rattle.durations.proofs.duration.part_at.Goals.{After-eq, After-unit_end-end}

pub returns-then-digits-at : goal.returns-then-digits-at
returns-then-digits-at c = sym (part_none _ _ _ c.digits_end-digits.ensures c.if-digits-at.true)

pub returns-then-at-digits : goal.returns-then-at-digits
returns-then-at-digits c = sym (part_long _ _ _ c.digits_end-digits.ensures (omega arith))

-- within the word, the digits end no earlier than they begin, and the unit's name no earlier than it begins, after blanks
ends : (c : After-unit_end-end) →
    let digits = c.digits_end-digits.result in
    let start = c.class_end-start.result in
    let entry = c.args in
    (entry.at ≤ digits) × (digits ≤ length entry.word.now) × (start ≤ c.unit_end-end.result) × (c.unit_end-end.result ≤ length entry.word.now)
ends c =
    let blanks = c.class_end-start in
    let digits = c.digits_end-digits in
    let word = c.args.word.now in
    let d = end_within _ word c.args.at c.requires.0 digits.ensures in
    let b = end_within _ word digits.result d.1 blanks.ensures in
    let u = end_within _ word blanks.result b.1 c.unit_end-end.ensures in
    (d.0, d.1, u.0, u.1)

pub slice_bounds-eq-count : goal.slice_bounds-eq-count
slice_bounds-eq-count c = (ends (goal.at.slice_bounds-eq-count c).After-unit_end-end).2

pub slice_bounds-eq-start : goal.slice_bounds-eq-start
slice_bounds-eq-start c = (ends (goal.at.slice_bounds-eq-start c).After-unit_end-end).2

pub slice_bounds-eq-end : goal.slice_bounds-eq-end
slice_bounds-eq-end c = (ends (goal.at.slice_bounds-eq-end c).After-unit_end-end).3

-- what is compared is the name in the word and the unit's
named : (c : After-eq) →
    let entry = c.args in
    c.eq.result ≡ equal (part entry.word.now c.class_end-start.result c.unit_end-end.result) (unit_of entry.unit.now).name
unfolding part
named c = c.eq.ensures

pub slice_bounds-decimal_of-count : goal.slice_bounds-decimal_of-count
slice_bounds-decimal_of-count c = (ends (goal.at.slice_bounds-decimal_of-count c).After-unit_end-end).0

pub slice_bounds-decimal_of-start : goal.slice_bounds-decimal_of-start
slice_bounds-decimal_of-start c = (ends (goal.at.slice_bounds-decimal_of-start c).After-unit_end-end).0

pub slice_bounds-decimal_of-end : goal.slice_bounds-decimal_of-end
slice_bounds-decimal_of-end c = (ends (goal.at.slice_bounds-decimal_of-end c).After-unit_end-end).1

pub decimal_of-requires : goal.decimal_of-requires
decimal_of-requires c = (rw length-take (omega (arith, c.if-at-digits.false)), run_digits _ c.args.at c.digits_end-digits.ensures)

pub overflow_mul-result : goal.overflow_mul-result
overflow_mul-result c =
    omega (arith, amount_small c.decimal_of.ensures.1 c.requires.1)

pub returns-then-eq : goal.returns-then-eq
unfolding part
returns-then-eq c =
    rw (c.decimal_of.ensures.0, c.class_end-next.ensures)
    (sym
    (part_found _ _ _ c.digits_end-digits.ensures c.class_end-start.ensures c.unit_end-end.ensures c.if-digits-at.false
    (omega (arith, c.if-at-digits.false)) (sym (named (goal.at.returns-then-eq c).After-eq) ∙ c.if-eq.true)))

pub returns : goal.returns
returns c =
    sym
    (part_other _ _ _ c.digits_end-digits.ensures
    c.class_end-start.ensures c.unit_end-end.ensures
    (sym (named (goal.at.returns c).After-eq) ∙ c.if-eq.false))
