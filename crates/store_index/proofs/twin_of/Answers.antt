-- `store_index::twin_of` meets its contract: none of the stores that were entered has a twin before it, and they are indexed. Assumes nothing.
use mathlib.Core.Path.{refl, sym, ◌∙◌}
use native.Mathlib.Omega.{arith}
use Rattle.store_table.specs.Inner.Index.{Next}
use Rattle.store_table.proofs.Laws.EntriesLaws.{seen_start, seen_end, seen_yes, seen_no}
use Rattle.store_table.proofs.Laws.WalkLaws.{length_entries, name_start_small, walk_at}
use Rattle.store_table.proofs.Laws.IndexLaws.{indexed_start, indexed_next, finds_whether}
use Rattle.store_index.proofs.twin_of.Goals as goal
use Rattle.store_index.proofs.twin_of.Goals.{In-Some}

-- what the walk gave
step : (c : In-Some) →
    Next c.args.table.bytes.now c.loop-place.place-iterator.index c.in-Some.place.index c.in-Some.place.start c.in-Some.place.name.now
    c.next.new.self.index
step c = rw c.loop-place.invariant.0 at c.in-Some.ensures.steps.1

pub loop-place-init : goal.loop-place-init
loop-place-init c =
    let e = c.entries-place-items.ensures in
    rw (c.into_iter-place-iterator.ensures.into_iter_gives, e.0, e.1) (refl, seen_start _, indexed_start _ _ _ c.requires)

pub returns-then-is_some : goal.returns-then-is_some
returns-then-is_some c =
    let n = step (goal.at.returns-then-is_some c).In-Some in
    let here = sym (finds_whether _ c.find_by.ensures) ∙ sym c.is_some.ensures ∙ c.if-is_some.true in (
      rw n.same (seen_yes c.loop-place.invariant.1 n.at.here (rw (n.at.named, ← n.same) here)),
      λ z. absurd (cc),
    )

pub enter-requires : goal.enter-requires
enter-requires c =
    let n = step (goal.at.enter-requires c).In-Some in
    let t = c.args.table in (
      (omega (arith, n.below, n.same, t.in_bounds.few), c.hash_of-hash.ensures.1),
      omega (arith, n.begins, n.below, t.in_bounds.few, name_start_small t.bytes.now c.loop-place.place-iterator.index t.in_bounds t.are_bytes),
    )

pub loop-place-preserved : goal.loop-place-preserved
loop-place-preserved c =
    let n = step (goal.at.loop-place-preserved c).In-Some in
    let i = c.loop-place.invariant in
    let t = c.args.table in
    let none = sym (finds_whether _ c.find_by.ensures) ∙ sym c.is_some.ensures ∙ c.if-is_some.false in (
      c.in-Some.ensures.steps.0 ∙ i.0,
      rw n.moved (seen_no i.1 n.at.here (rw (n.at.named, ← n.same) none)),
      rw (n.moved, c.enter.ensures.written.0, c.enter.ensures.written.1, n.same)
          (indexed_next i.2 (walk_at _ _ t.in_bounds n.begins) n.at.here (c.hash_of-hash.ensures.0 ∙ rw n.at.named)
          (omega (arith, n.below, t.in_bounds.few, c.enter.ensures.sizes.0)) (omega (arith, c.enter.ensures.sizes.1))),
    )

pub returns : goal.returns
returns c =
    let t = c.args.table in
    let i = c.loop-place.invariant in
    let end = rw i.0 at c.in-None.ensures.steps.1.0 in (
      seen_end i.1 (omega (arith, end, length_entries t.bytes.now t.in_bounds)),
      λ z. rw end at i.2,
    )
