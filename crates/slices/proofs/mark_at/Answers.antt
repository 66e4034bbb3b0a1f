-- `slices::mark_at` meets its contract: a byte passes the test where it is no such mark. Assumes nothing.
use borrow.Author.Rules.{rules}
use Rattle.slices.specs.Text.{other}
use Rattle.slices.proofs.mark_at.Goals as goal

pub returns : goal.returns
unfolding other
returns c = c.run_end.ensures (other c.args.mark) (λ b r l e. search rules)
