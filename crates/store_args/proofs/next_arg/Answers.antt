-- `store_args::next_arg` meets its contract: after the 0 that ends an argument, or at the end. Assumes nothing.
use native.Mathlib.Omega.{arith}
use Rattle.slices.proofs.Laws.TextLaws.{end_within}
use Rattle.slices.specs.Text.{other}
use Rattle.store_args.proofs.next_arg.Goals as goal

pub returns : goal.returns
returns c =
    let w = end_within (other 0) c.args.args.now c.args.at c.requires c.mark_at-end.ensures in
    omega arith
