-- `store_table::Table::name_length` meets its contract: the lengths follow the modes. Assumes nothing.
use mathlib.Core.Path.{◌∙◌}
use Prim.Native.Nat.{◌+◌}
use native.Mathlib.Omega.{arith}
use Rattle.store_table.proofs.Laws.WalkLaws.{length_of}
use Rattle.store_table.proofs.Table.name_length.Goals as goal

pub returns : goal.returns
returns c =
    (c.from.ensures ∙ length_of _ c.args.k c.args.self.in_bounds c.count-count.ensures.0 (omega arith), omega (arith, c.args.self.are_bytes (4 + c.count-count.result + c.args.k)))
