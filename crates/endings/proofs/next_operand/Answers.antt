-- `endings::next_operand` meets its contract: a sign has tokens after it. Assumes nothing.
use Rattle.grammar.proofs.Laws.SignTestLaws.{test_on}
use Rattle.endings.proofs.next_operand.Goals as goal

pub returns-clause-ahead : goal.returns-clause-ahead
returns-clause-ahead g c = (test_on _ _ _ c.sign_at.ensures c.in_ok-next.was).bounds
