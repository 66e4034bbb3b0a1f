-- `classes::class_end_of` meets its contract: a byte passes the test where its class has the number. Assumes nothing.
use borrow.Author.Rules.{rules}
use Rattle.classes.specs.Class.{of_class}
use Rattle.classes.proofs.class_end_of.Goals as goal

pub returns : goal.returns
unfolding of_class
returns c = c.run_end.ensures (of_class c.args.number) (λ b r l e. search rules)
