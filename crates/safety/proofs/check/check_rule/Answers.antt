-- `safety::check::check_rule` meets its contract: an image has at most 2,048 nodes. Assumes nothing.
use native.Mathlib.Omega.{arith}
use Rattle.safety.proofs.check.check_rule.Goals as goal

pub check_within-requires-2 : goal.check_within-requires-2
check_within-requires-2 c = (c.requires, omega arith)
