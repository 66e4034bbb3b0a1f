-- `page_text::append_confirmed` meets its contract: three parts in a row. Assumes nothing.
use mathlib.Core.List.{append_assoc}
use Prim.Native.Nat.{◌≤◌}
use native.Mathlib.Omega.{arith}
use lib.ListN.{length}
use Rattle.slices.proofs.Laws.WrittenLaws.{written_at_after}
use Rattle.lines.proofs.Laws.LinesLaws.{shown_length}
use Rattle.page_text.proofs.append_confirmed.Goals as goal

pub append-requires : goal.append-requires
append-requires c =
    omega (arith, shown_length c.args.name.now)

pub returns : goal.returns
returns c =
    let a = c.args in
    let h : a.at ≤ length a.page.now = omega arith in
    simp append_assoc at (written_at_after h (written_at_after h c.append-word_end.ensures c.append_shown-name_end.ensures) c.append.ensures)
