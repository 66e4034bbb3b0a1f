-- `durations::duration::parse_duration` meets its contract: the parts so far and those of the later units make up the duration. Assumes nothing.
use mathlib.Core.Path.{◌≡◌, sym, ap, ◌∙◌}
use native.Mathlib.Omega.{arith}
use Rattle.slices.proofs.Laws.TextLaws.{end_within}
use Rattle.durations.specs.Duration.{NamedUnit, part_at}
use Rattle.durations.specs.Inner.Units.{unit_at}
use Rattle.durations.proofs.Laws.DurationLaws.{at_rank, entry_small, part_small, part_within, parts_start, parts_skip, parts_last, parts_on, parts_end}
use Rattle.std.specs.Prelude.{Option}
use Rattle.durations.specs.declared.duration.Part.{Part}
use Rattle.durations.proofs.duration.parse_duration.Goals as goal
use Rattle.durations.proofs.duration.parse_duration.Goals.{After-part_at, in-Some+else-word-part, in_default}

pub loop-unit-init : goal.loop-unit-init
loop-unit-init c =
    let e = c.class_end-at.ensures in
    ((end_within _ c.args.word.now 0 (omega arith) e).1, (omega arith, parts_start _ e))

pub part_at-requires : goal.part_at-requires
part_at-requires c = (c.loop-unit.invariant.0, entry_small _ c.units-unit-items.ensures _ c.loop-unit-test.true)

-- what was read is what is there
read : (c : After-part_at) {p : Option Part} →
    c.part_at.result ≡ p → let l = c.loop-unit in part_at (unit_at l.unit-index) c.args.word.now l.at ≡ p
read c e = ap (λ (u : NamedUnit). part_at u c.args.word.now c.loop-unit.at) (sym (at_rank _ c.units-unit-items.ensures _ c.loop-unit-test.true)) ∙ sym c.part_at.ensures ∙ e

pub overflow_add-total : goal.overflow_add-total
overflow_add-total c =
    let l = c.loop-unit in
    omega (arith, part_small l.unit-index _ l.at (read (goal.at.overflow_add-total c).After-part_at c.in-Some.is))

pub returns-then-word-part : goal.returns-then-word-part
returns-then-word-part c =
    let l = c.loop-unit in
    let q = read (goal.at.returns-then-word-part c).After-part_at c.in-Some.is in
    sym (parts_last l.total _ l.at l.unit-index c.loop-unit-test.true q c.if-word-part.true) ∙ l.invariant.1.1

pub loop-unit-preserved : goal.loop-unit-preserved
loop-unit-preserved c =
    let l = c.loop-unit in
    let a = (goal.at.loop-unit-preserved c).After-part_at in
    let h = c.loop-unit-test.true in
    elim c.match-part_at.branch [
      | in-Some+else-word-part w ↦
          (let q = read a w.in-Some.is in
          rw (w.at-is, w.total-is) (
            part_within (unit_at l.unit-index) _ l.at q l.invariant.0,
            (omega (arith, part_small l.unit-index _ l.at q), sym (parts_on l.total _ l.at l.unit-index h q w.if-word-part.false) ∙ l.invariant.1.1),
          ))
      | in_default w ↦
          rw (w.at-is, w.total-is)
          (l.invariant.0, (omega arith, sym (parts_skip l.total _ l.at l.unit-index h (read a w.in_default.is)) ∙ l.invariant.1.1))
    ]

pub returns : goal.returns
returns c = let l = c.loop-unit in sym (parts_end l.total _ l.at l.unit-index c.loop-unit-test.false) ∙ l.invariant.1.1
