-- `decide::rule_says` meets its contract: an image has at most 2,048 nodes. Assumes nothing.
use native.Mathlib.Omega.{arith}
use Rattle.decide.proofs.rule_says.Goals as goal

pub rule_says_within-requires-2 : goal.rule_says_within-requires-2
rule_says_within-requires-2 c = (c.requires, omega arith)
