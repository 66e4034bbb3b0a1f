-- `confirmed::mark_confirmed` meets its contract: the marks are those of the names that the walk has passed. Assumes nothing.
use mathlib.Core.Path.{refl, ◌∙◌}
use native.Mathlib.Omega.{arith}
use Rattle.store_table.specs.Stores.{entries_in}
use Rattle.store_table.specs.Inner.Index.{Next}
use Rattle.store_table.proofs.Laws.WalkLaws.{entries_all}
use Rattle.store_table.proofs.Laws.MarkLaws.{marked_start, marked_found, marked_none}
use Rattle.confirmed.proofs.mark_confirmed.Goals as goal
use Rattle.confirmed.proofs.mark_confirmed.Goals.{In-Some}

-- what the walk gave
step : (c : In-Some) →
    Next c.args.list.bytes.now c.loop-place.place-iterator.index c.in-Some.place.index c.in-Some.place.start c.in-Some.place.name.now
    c.next.new.self.index
step c = rw c.loop-place.invariant.0 at c.in-Some.ensures.steps.1

pub loop-place-init : goal.loop-place-init
loop-place-init c =
    let e = c.entries-place-items.ensures in
    rw (c.into_iter-place-iterator.ensures.into_iter_gives, e.0, e.1) (refl, marked_start (entries_in c.args.stores.table.bytes.now) (entries_in c.args.list.bytes.now) c.args.marks.now c.requires.1)

pub loop-place-preserved-in-Some-find : goal.loop-place-preserved-in-Some-find
loop-place-preserved-in-Some-find c =
    let n = step (goal.at.loop-place-preserved-in-Some-find c).In-Some in
    let i = c.loop-place.invariant in
    let t = c.args.stores.table in
    let (lt, (x, (e, same))) = c.find.ensures.there _ c.in-Some-find.is in (
      c.in-Some.ensures.steps.0 ∙ i.0,
      rw n.moved
          (marked_found t.bytes.now (entries_in c.args.list.bytes.now) c.loop-place.place-iterator.index c.loop-place.marks i.1 n.at.here
          c.requires.0 _ e (rw n.at.named same) (omega (arith, t.in_bounds.few))),
    )

pub loop-place-preserved : goal.loop-place-preserved
loop-place-preserved c =
    let n = step (goal.at.loop-place-preserved c).In-Some in
    let i = c.loop-place.invariant in
    let t = c.args.stores.table in (
      c.in-Some.ensures.steps.0 ∙ i.0,
      rw n.moved
          (marked_none t.bytes.now (entries_in c.args.list.bytes.now) c.loop-place.place-iterator.index c.loop-place.marks i.1 n.at.here
          t.in_bounds (rw n.at.named (c.find.ensures.missing c.in_default.is))),
    )

pub returns : goal.returns
returns c =
    let i = c.loop-place.invariant in
    let end = rw i.0 at c.in-None.ensures.steps.1.0 in
    rw (entries_all c.args.list.bytes.now _ c.args.list.in_bounds end) at i.1
