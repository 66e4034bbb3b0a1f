-- `decimal::digits::prepend_digits` meets its contract: the digits already written come after those of what is left. Assumes nothing.
use mathlib.Core.Path.{refl}
use Prim.Native.Nat.{◌≤◌}
use native.Mathlib.Omega.{arith}
use Rattle.decimal.proofs.Laws.DigitsLaws.{behind_none, behind_room, behind_on, behind_first}
use borrow.Author.Rules.{rules}
use Rattle.decimal.proofs.digits.prepend_digits.Goals as goal
use Rattle.decimal.proofs.digits.prepend_digits.Goals.{At-loop-left}

pub loop-left-init : goal.loop-left-init
loop-left-init c = (omega arith, refl, behind_none _ _ _)

-- there is room for what is left
room : (c : At-loop-left) → (1 ≤ c.loop-left.at) × (c.loop-left.at ≤ c.args.end)
room c = behind_room _ _ c.loop-left.invariant.2 c.requires.0

pub overflow_sub-at : goal.overflow_sub-at
overflow_sub-at c = (room c.before).0

pub bounds-text-at : goal.bounds-text-at
bounds-text-at c = omega (arith, room c.before)

pub loop-left-preserved : goal.loop-left-preserved
loop-left-preserved c =
    let p = c.requires in
    (omega arith, search rules, behind_on _ _ c.loop-left.invariant.2 p.0 p.1 (omega arith) (omega arith))

pub overflow_sub-at-2 : goal.overflow_sub-at-2
overflow_sub-at-2 c = (room c.before).0

pub bounds-text-at-2 : goal.bounds-text-at-2
bounds-text-at-2 c = omega (arith, room c.before)

pub returns : goal.returns
returns c = let p = c.requires in behind_first _ _ c.loop-left.invariant.2 p.0 p.1 (omega arith)
