-- `token_reader::scan::foreign_at` meets its contract: a byte passes the test where it is not foreign. Assumes nothing.
use borrow.Author.Rules.{rules}
use Rattle.tokens.specs.Token.{ascii}
use Rattle.token_reader.proofs.scan.foreign_at.Goals as goal

pub returns : goal.returns
unfolding ascii
returns c = c.run_end.ensures ascii (λ b r l e. search rules)
