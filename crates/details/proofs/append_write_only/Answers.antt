-- `details::append_write_only` meets its contract: the lines of the write-only stores that the walk has passed are written. Assumes nothing.
use mathlib.Core.Path.{refl, ◌∙◌}
use native.Mathlib.Omega.{arith}
use Rattle.store_table.specs.Inner.Index.{Next}
use Rattle.page_text.proofs.Laws.ReportLaws.{named_start, named_length, named_end, named_room, named_no, named_yes}
use Rattle.details.proofs.append_write_only.Goals as goal
use Rattle.details.proofs.append_write_only.Goals.{In-Some}

-- what the walk gave
step : (c : In-Some) →
    Next c.args.stores.bytes.now c.loop-place.place-iterator.index c.in-Some.place.index c.in-Some.place.start c.in-Some.place.name.now
    c.next.new.self.index
step c = rw c.loop-place.invariant.0 at c.in-Some.ensures.steps.1

pub loop-place-init : goal.loop-place-init
loop-place-init c =
    let e = c.entries-place-items.ensures in
    rw (c.into_iter-place-iterator.ensures.into_iter_gives, e.0, e.1) (refl, named_start _ _ _)

pub mode-requires : goal.mode-requires
mode-requires c = let n = step (goal.at.mode-requires c).In-Some in omega (arith, n.same, n.below)

pub append_confirmed-end-requires : goal.append_confirmed-end-requires
append_confirmed-end-requires c =
    let n = step (goal.at.append_confirmed-end-requires c).In-Some in
    named_room c.loop-place.invariant.1 c.args.stores.in_bounds c.requires n.at (rw n.same at c.mode.ensures) c.if-mode-eq-WRITE_ONLY.true

pub loop-place-preserved : goal.loop-place-preserved
loop-place-preserved c =
    let i = c.loop-place.invariant in
    let n = step (goal.at.loop-place-preserved c).In-Some in (
      c.in-Some.ensures.steps.0 ∙ i.0,
      rw n.moved (named_no i.1 c.args.stores.in_bounds c.requires n.at (rw n.same at c.mode.ensures) c.if-mode-eq-WRITE_ONLY.false),
    )

pub loop-place-preserved-then-mode-eq-WRITE_ONLY : goal.loop-place-preserved-then-mode-eq-WRITE_ONLY
loop-place-preserved-then-mode-eq-WRITE_ONLY c =
    let i = c.loop-place.invariant in
    let n = step (goal.at.loop-place-preserved-then-mode-eq-WRITE_ONLY c).In-Some in (
      c.in-Some.ensures.steps.0 ∙ i.0,
      rw n.moved
          (named_yes i.1 c.args.stores.in_bounds c.requires n.at (rw n.same at c.mode.ensures) c.if-mode-eq-WRITE_ONLY.true
          c.append_confirmed-end.ensures),
    )

pub shape_of-page : goal.shape_of-page
shape_of-page c = named_length c.loop-place.invariant.1 c.args.stores.in_bounds c.requires

pub returns : goal.returns
returns c =
    let i = c.loop-place.invariant in
    let last = rw i.0 at c.in-None.ensures.steps.1.0 in
    named_end i.1 c.args.stores.in_bounds c.requires (omega (arith, last))
