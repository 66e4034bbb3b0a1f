-- `durations::duration::digits_end` meets its contract: a byte passes the test where it is a digit. Assumes nothing.
use borrow.Author.Rules.{rules}
use Rattle.ascii.specs.Letters.{is_digit}
use Rattle.durations.proofs.duration.digits_end.Goals as goal

pub returns : goal.returns
returns c = c.run_end.ensures is_digit (λ b r l e. search rules)
