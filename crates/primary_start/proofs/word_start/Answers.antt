-- `primary_start::word_start` meets its contract: by whether the word is quoted. Assumes nothing.
use mathlib.Core.Path.{refl}
use native.Mathlib.Omega.{arith}
use Rattle.grammar.proofs.Laws.StartLaws.{begins_name}
use Rattle.primary_start.proofs.word_start.Goals as goal

pub returns-then-named : goal.returns-then-named
returns-then-named c = rw (c.if-named.true, c.name_of.ensures) (begins_name refl (omega arith) (omega arith))

pub returns : goal.returns
returns c = rw c.if-named.false c.unquoted_start.ensures
