-- `ascii::eq_ignore_ascii_case` meets its contract. Assumes nothing.
use Rattle.ascii.proofs.Laws.EqualLaws.{lower_test}
use Rattle.ascii.proofs.eq_ignore_ascii_case.Goals as goal

pub returns : goal.returns
returns c = let e = c.eq_ignore_ascii_case.ensures.test in lower_test _ _ _ e.0 e.1
