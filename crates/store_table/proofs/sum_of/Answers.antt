-- `store_table::sum_of` meets its contract: its sum is the library's. Assumes nothing.
use mathlib.Core.Path.{◌≡◌, ◌∙◌}
use borrow.Author.Rules.{rules}
use Rattle.std.specs.List.{sum}
use Rattle.store_table.proofs.Laws.PartLaws.{sum_same}
use Rattle.store_table.proofs.sum_of.Goals as goal

pub returns : goal.returns
returns c = let e : c.sum.result ≡ sum c.args.bytes.now = search rules in e ∙ sum_same c.args.bytes.now
