-- `little_endian::read` meets its contract: the first bytes make the number so far, and the next is worth 256 to the power of its place.
use mathlib.Core.Path.{◌≡◌, refl}
use Prim.Native.Nat.{ℕ, zero, ◌+◌, ◌*◌, ◌^◌, ◌≤◌, ◌<◌}
use native.Mathlib.Nat.{mul-le-mul_left, pow-le-pow_right, pow-suc}
use native.Mathlib.Numerals.{add-one}
use native.Mathlib.Omega.{arith}
use Rattle.little_endian.specs.Bytes.{le_at, le_number}
use Rattle.little_endian.proofs.Laws.ByteReadLaws.{at_join, at_one}
use Rattle.little_endian.proofs.read.Goals as goal

below : (j k : ℕ) → j ≤ k → 256 ^ j ≤ 256 ^ k
below j k h = let p : zero < 256 = omega arith in pow-le-pow_right p h

-- a byte worth p added to what is below p
worth_le : (p b : ℕ) → b < 256 → p * b ≤ p * 255
worth_le p b h = let le : b ≤ 255 = omega arith in mul-le-mul_left p le

pub loop-i-init : goal.loop-i-init
unfolding le_at le_number
loop-i-init g c = (refl, omega arith, λ h. refl)

pub overflow_mul-x : goal.overflow_mul-x
overflow_mul-x g c =
    let l = c.loop-i in
    omega (arith, worth_le l.worth c.from.result (omega arith), below l.i 7 (omega arith))

pub overflow_add-x : goal.overflow_add-x
overflow_add-x g c =
    let l = c.loop-i in
    omega (arith, worth_le l.worth c.from.result (omega arith), below l.i 7 (omega arith))

pub loop-i-preserved : goal.loop-i-preserved
loop-i-preserved g c =
    let l = c.loop-i in
    let a = c.args in
    let w : l.worth ≡ 256 ^ l.i = omega arith in
    let more = worth_le l.worth c.from.result (omega arith) in (
      rw (at_join a.s.now a.at l.i 1, at_one a.s.now (a.at + l.i) (omega arith), ← w, ← c.from.ensures, ← l.invariant.0),
      rw (add-one, pow-suc 256 l.i) (omega arith),
      λ h. rw (add-one, pow-suc 256 l.i) (omega (arith, below l.i 6 (omega arith))),
    )

pub returns : goal.returns
returns g c =
    let l = c.loop-i in
    let q : l.i ≡ g.row.K = omega arith in
    (rw q at l.invariant.0, rw q at l.invariant.1)
