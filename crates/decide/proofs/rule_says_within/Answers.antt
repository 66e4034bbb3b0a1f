-- `decide::rule_says_within` meets its contract: the leaves are said first, then the rule. Assumes nothing.
use mathlib.Core.Path.{◌∙◌}
use native.Mathlib.Omega.{arith}
use Rattle.image.proofs.Laws.WholeLaws.{all_nodes}
use Rattle.evaluate.proofs.Laws.ByLaws.{by_says}
use Rattle.decide.proofs.rule_says_within.Goals as goal

pub evaluate-requires : goal.evaluate-requires
evaluate-requires g c = (rw (c.table.ensures.0, c.table.ensures.1) (all_nodes c.args.image), omega arith)

pub returns : goal.returns
returns g c =
    let says = rw (c.table.ensures.0, c.table.ensures.1) at c.evaluate.ensures in
    λ ρ e st. says ρ e st ∙ by_says _ _ _ _ c.say_leaves.ensures ρ 0 (omega arith) st
