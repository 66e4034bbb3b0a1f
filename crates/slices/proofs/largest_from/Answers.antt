-- `slices::largest_from` meets its contract: the largest byte so far, or the largest of those left. Assumes nothing.
use Prim.Native.Nat.{◌-◌}
use native.Mathlib.Omega.{arith}
use lib.ListN.{length, take, drop}
use Rattle.slices.proofs.Laws.SearchLaws.{largest_init, largest_on, largest_out}
use Rattle.slices.proofs.largest_from.Goals as goal

pub loop-b-init : goal.loop-b-init
loop-b-init c = largest_init _ _ _ c.min.ensures

pub loop-b-preserved : goal.loop-b-preserved
loop-b-preserved c =
    let l = c.loop-b in
    omega (arith, l.invariant, largest_on _ l.b-index c.loop-b-test.true, c.max-most.ensures)

pub returns : goal.returns
returns c =
    let l = c.loop-b in
    let s = c.args.s.now in
    let items = take (length s - c.min.result) (drop c.min.result s) in
    omega (arith, l.invariant, largest_out items l.b-index (omega arith))
