-- `little_endian::write` meets its contract: the first i bytes are written, and what is left of the number makes the others. Assumes nothing.
use mathlib.Core.Path.{◌≡◌, refl, sym, ◌∙◌}
use Prim.Native.Nat.{◌+◌, ◌/◌, ◌%◌, ◌^◌}
use native.Mathlib.Nat.{div-one, div-div-eq-div-mul, pow-suc}
use native.Mathlib.Omega.{arith}
use native.Mathlib.Numerals.{add-one}
use lib.ListN.{set, length-set}
use Rattle.little_endian.specs.Bytes.{le_bytes}
use Rattle.slices.specs.Text.{written}
use Rattle.slices.proofs.Laws.WrittenLaws.{written_none, written_sets}
use Rattle.little_endian.proofs.Laws.NumberWrittenLaws.{bytes_then}
use Rattle.little_endian.proofs.write.Goals as goal

pub loop-i-init : goal.loop-i-init
unfolding le_bytes
loop-i-init g c = (refl, (sym (div-one _), written_none _ _))

pub loop-i-preserved : goal.loop-i-preserved
unfolding le_bytes
loop-i-preserved g c =
    let l = c.loop-i in
    let a = c.args in
    let one : set l.s (a.at + l.i) (l.left % 256) ≡ written l.s (a.at + l.i) (le_bytes 1 (a.x / 256 ^ l.i)) = rw l.invariant.1.0 (written_sets l.s (a.at + l.i) (le_bytes 1 (a.x / 256 ^ l.i)) (omega arith)) in
    let left : l.left / 256 ≡ a.x / 256 ^ (l.i + 1) = rw (l.invariant.1.0, add-one, pow-suc) (div-div-eq-div-mul _ _ _) in
    (length-set _ _ _ ∙ l.invariant.0, (left, bytes_then a.s.now a.at (omega arith) l.i 1 a.x l.invariant.1.1 one))
