-- `details::append_place` meets its contract: the mark is at the smaller of the place and the text's end. Assumes nothing.
use Prim.Native.Nat.{◌≤◌}
use native.Mathlib.Omega.{arith}
use lib.ListN.{length}
use Rattle.slices.proofs.Laws.SearchLaws.{last_le}
use Rattle.details.proofs.append_place.Goals as goal

pub append_marked-requires : goal.append_marked-requires
append_marked-requires c =
    let within : c.end_of_last-end.result ≤ length c.args.text.now = rw c.end_of_last-end.ensures (last_le _ _ _) in
    omega (arith, c.min.ensures, within)

pub returns : goal.returns
returns c = rw (← c.end_of_last-end.ensures, ← c.min.ensures) c.append_marked.ensures
