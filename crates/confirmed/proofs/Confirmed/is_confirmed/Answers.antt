-- `confirmed::Confirmed::is_confirmed` meets its contract: where a store has the name, its mark tells; else each entry is looked at. Assumes nothing.
use mathlib.Core.Path.{◌∙◌}
use Rattle.store_table.proofs.Laws.MemberLaws.{same_eq}
use Rattle.store_table.proofs.Laws.IndexLaws.{finds_whether}
use Rattle.store_table.proofs.Laws.WalkLaws.{entries_all}
use Rattle.confirmed.proofs.Confirmed.is_confirmed.Goals as goal

pub returns-in-Some : goal.returns-in-Some
returns-in-Some c =
    let t = (c.find.ensures.there _ c.in-Some.is).1 in
    rw (same_eq _ _ t.1.1) (c.args.self.marked _ t.0 t.1.0)

pub returns-in-None : goal.returns-in-None
returns-in-None c =
    rw (entries_all c.args.self.list.bytes.now _ c.args.self.list.in_bounds c.count.ensures.0) at (c.is_some.ensures ∙ finds_whether _ c.position.ensures)
