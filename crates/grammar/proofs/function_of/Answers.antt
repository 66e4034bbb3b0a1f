-- `grammar::function_of` meets its contract: the names passed are not the word's. Assumes nothing.
use mathlib.Core.Path.{◌∙◌}
use Rattle.grammar.proofs.Laws.StartLaws.{among_calls, found, later, none_left}
use Rattle.grammar.proofs.function_of.Goals as goal

pub loop-call-init : goal.loop-call-init
loop-call-init c = among_calls _

pub returns-then-eq_ignore_ascii_case : goal.returns-then-eq_ignore_ascii_case
returns-then-eq_ignore_ascii_case c = found _ _ _ _ c.loop-call-test.true c.eq_ignore_ascii_case.ensures c.if-eq_ignore_ascii_case.true ∙ c.loop-call.invariant

pub loop-call-preserved : goal.loop-call-preserved
loop-call-preserved c = later _ _ _ _ c.loop-call-test.true c.eq_ignore_ascii_case.ensures c.if-eq_ignore_ascii_case.false ∙ c.loop-call.invariant

pub returns : goal.returns
returns c = none_left _ _ _ c.loop-call-test.false ∙ c.loop-call.invariant
