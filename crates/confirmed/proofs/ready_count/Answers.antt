-- `confirmed::ready_count` meets its contract: the first k stores that are ready are counted. Assumes nothing.
use mathlib.Core.Path.{sym, ap, ◌∙◌}
use native.Mathlib.Omega.{arith}
use Rattle.store_table.specs.Stores.{is_readable}
use Rattle.store_table.proofs.Laws.EntriesLaws.{ready_end, ready_skip, ready_no, ready_yes}
use Rattle.store_table.proofs.Laws.WalkLaws.{length_entries, entry_there}
use Rattle.confirmed.proofs.ready_count.Goals as goal
use Rattle.confirmed.proofs.ready_count.Goals.{then-is_readable+then-marked, else-is_readable, else-is_readable-via-then-is_readable+else-marked, else-is_readable-via-else-is_readable}

pub loop-k-preserved : goal.loop-k-preserved
loop-k-preserved c =
    let l = c.loop-k in
    let t = c.args.stores in
    let (x, e) = entry_there _ l.k t.in_bounds (omega arith) in
    let r = ap is_readable (sym (c.mode.ensures x e)) ∙ sym c.is_readable.ensures in
    elim c.if-is_readable.branch [
      | then-is_readable+then-marked w ↦ ready_yes l.invariant e (r ∙ w.if-is_readable.true) w.if-marked.true w.ready-is
      | else-is_readable w ↦
          elim w.else-is_readable.branch [
            | else-is_readable-via-then-is_readable+else-marked v ↦ ready_no l.invariant e (r ∙ v.if-is_readable.true) v.if-marked.false w.ready-is
            | else-is_readable-via-else-is_readable v ↦ ready_skip l.invariant e (r ∙ v.if-is_readable.false) w.ready-is
          ]
    ]

pub returns : goal.returns
returns c =
    let s = c.args.stores in
    ready_end c.loop-k.invariant (omega (arith, length_entries s.bytes.now s.in_bounds))
