-- `evaluate::leaves::Environment::say_leaves` meets its contract: of the nodes before i each leaf has its number. Assumes nothing.
use Rattle.evaluate.specs.Inner.Known.{env_in, SaidTo}
use Rattle.evaluate.proofs.leaves.Environment.say_leaves.Given as goal

abbrev pub invariant-loop-i : goal.invariant-loop-i
invariant-loop-i l = SaidTo l.image.bytes.now l.image.nodes l.says 1 (env_in l.self.confirmed.list.bytes.now l.self.age l.self.ready) l.i
