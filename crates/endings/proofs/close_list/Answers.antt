-- `endings::close_list` meets its contract: there is room where the bracket is there. Assumes nothing.
use mathlib.Core.Path.{sym, ◌∙◌}
use native.Mathlib.Omega.{arith}
use Rattle.endings.proofs.close_list.Goals as goal

pub push_combinator-requires : goal.push_combinator-requires
push_combinator-requires g c =
    let room = rw (sym c.close_group.ensures.next ∙ c.in_ok-next.was) at c.requires in
    (omega (arith, room), room)
