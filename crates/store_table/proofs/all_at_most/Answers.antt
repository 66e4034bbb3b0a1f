-- `store_table::all_at_most` meets its contract: it is true exactly where each byte is at most so much. Assumes nothing.
use mathlib.Core.Logic.{◌↔◌}
use Prim.Native.Nat.{◌≤◌}
use borrow.Author.Rules.{rules}
use Rattle.std.specs.Prelude.{IsTrue}
use Rattle.std.specs.List.{All}
use Rattle.store_table.proofs.Laws.PartLaws.{most_where}
use Rattle.store_table.proofs.all_at_most.Goals as goal

pub returns : goal.returns
returns c =
    let e : IsTrue c.all.result ↔ All (λ x. x ≤ c.args.most) c.args.bytes.now = search rules in
    most_where c.args.most c.args.bytes.now c.all.result e
