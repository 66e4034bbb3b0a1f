-- `nodes::Nodes::push_test` meets its contract. Assumes nothing.
use native.Mathlib.Omega.{arith}
use Rattle.nodes.proofs.Laws.WriteLaws.{test_written}
use Rattle.nodes.proofs.Nodes.push_test.Goals as goal

pub returns-clause-written : goal.returns-clause-written
returns-clause-written g c = test_written c.args.test (omega arith) c.test_entry-kind.ensures.0 c.test_entry-kind.ensures.1 c.push.ensures
