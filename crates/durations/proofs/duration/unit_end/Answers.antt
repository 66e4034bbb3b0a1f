-- `durations::duration::unit_end` meets its contract: a byte passes the test where it is one of a unit's name. Assumes nothing.
use borrow.Author.Rules.{rules}
use Rattle.durations.specs.Duration.{is_unit_byte}
use Rattle.durations.proofs.duration.unit_end.Goals as goal

pub returns : goal.returns
returns c = c.run_end.ensures is_unit_byte (λ b r l e. search rules)
