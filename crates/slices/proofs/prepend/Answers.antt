-- `slices::prepend` meets its contract: after i turns the first i bytes are written. Assumes nothing.
use Prim.Native.Nat.{◌≤◌}
use native.Mathlib.Omega.{arith}
use lib.ListN.{length}
use lib.Seq.{take_all}
use Rattle.slices.proofs.Laws.WrittenLaws.{written_none, copied_on}
use Rattle.slices.proofs.prepend.Goals as goal

pub loop-i-init : goal.loop-i-init
loop-i-init c = written_none _ _

pub loop-i-preserved : goal.loop-i-preserved
loop-i-preserved c = copied_on _ _ (omega arith) _ c.loop-i.i (omega arith) c.loop-i.invariant (omega arith)

pub returns : goal.returns
returns c =
    let all : length c.args.piece.now ≤ c.loop-i.i = omega arith in
    record { ends = omega arith; text = rw (take_all c.loop-i.i c.args.piece.now all) at c.loop-i.invariant }
