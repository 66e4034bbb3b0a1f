-- `grammar::function_of` meets its contract: the names passed are not the word's.
use mathlib.Core.Path.{◌≡◌}
use lib.ListN.{drop}
use Rattle.grammar.specs.Grammar.{function_of}
use Rattle.grammar.proofs.Laws.StartLaws.{among, called}
use Rattle.grammar.proofs.function_of.Given as goal

abbrev pub invariant-loop-call : goal.invariant-loop-call
invariant-loop-call l = among (called (drop l.call-index l.call-items)) l.word ≡ function_of l.word
