-- `page_text::append_argument` meets its contract: five parts in a row. Assumes nothing.
use mathlib.Core.Path.{ap}
use mathlib.Core.List.{append_assoc}
use Prim.Native.Nat.{◌≤◌}
use native.Mathlib.Omega.{arith}
use lib.ListN.{length}
use Rattle.slices.proofs.Laws.WrittenLaws.{written_at_after}
use Rattle.decimal.proofs.Laws.DigitsLaws.{digits_short}
use Rattle.page_text.proofs.Laws.PageLaws.{fault_short}
use Rattle.slices.specs.Text.{WrittenAt}
use Rattle.store_args.specs.Arguments.{fault_text}
use Rattle.page_text.proofs.append_argument.Goals as goal

pub append-colon_end-requires : goal.append-colon_end-requires
append-colon_end-requires c =
    omega (arith, digits_short c.args.wrong.index)

pub append-fault_end-requires : goal.append-fault_end-requires
append-fault_end-requires c =
    let a = c.args in
    rw c.text.ensures (omega (arith, digits_short a.wrong.index, fault_short a.wrong.fault))

pub append-requires : goal.append-requires
append-requires c =
    let a = c.args in
    omega (arith, digits_short a.wrong.index, fault_short a.wrong.fault, ap length c.text.ensures)

pub returns : goal.returns
returns c =
    let h : 0 ≤ length c.args.page.now = omega arith in
    let fault : WrittenAt _ _ _ _ (fault_text c.args.wrong.fault) = rw c.text.ensures at c.append-fault_end.ensures in
    simp append_assoc
    at (written_at_after h
    (written_at_after h (written_at_after h (written_at_after h c.append-word_end.ensures c.append_digits-number_end.ensures) c.append-colon_end.ensures) fault)
    c.append.ensures)
