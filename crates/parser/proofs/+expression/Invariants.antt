-- The cycle of calls parse_or, parse_and, parse_primary: the measure is the tokens left, paired with the function's level. Assumes nothing.
use Prim.Native.Nat.{ℕ, ◌+◌, ◌*◌}
use Rattle.tokens.specs.Token.{tokens_from}
use Rattle.grammar.specs.Grammar.{ParseResult, or_in, or_more, and_in, and_more}
use Rattle.grammar.specs.Inner.Starts.{join_of, left}
use Rattle.nodes.proofs.Laws.ParseLaws.{Sofar, Listed}
use Rattle.parser.proofs.Laws.MeasureLaws.{paired}
use Rattle.parser.proofs.+expression.Given as goal

abbrev pub decreases-parse_and : goal.decreases-parse_and
decreases-parse_and g l = paired (left l.text.now l.at) 2

abbrev pub decreases-parse_or : goal.decreases-parse_or
decreases-parse_or g l = paired (left l.text.now l.at) 3

abbrev pub decreases-parse_primary : goal.decreases-parse_primary
decreases-parse_primary g l = paired (left l.text.now l.at) 1

-- the operands so far are joined by and-signs
abbrev pub invariant-parse_and-loop-next : goal.invariant-parse_and-loop-next
invariant-parse_and-loop-next g l =
    Sofar (λ (f : ℕ). and_in f l.text l.depth (tokens_from l.text l.at)) (λ (f : ℕ) (g : ParseResult). and_more f l.text l.depth g) (3 * left l.text l.at + 2)
    l.text l.at l.fn.nodes l.nodes l.end

abbrev pub decreases-parse_and-loop-next : goal.decreases-parse_and-loop-next
decreases-parse_and-loop-next g l = left l.text l.end

-- the operands so far are joined by or-signs
abbrev pub invariant-parse_or-loop-next : goal.invariant-parse_or-loop-next
invariant-parse_or-loop-next g l =
    Sofar (λ (f : ℕ). or_in f l.text l.depth (tokens_from l.text l.at)) (λ (f : ℕ) (g : ParseResult). or_more f l.text l.depth g) (3 * left l.text l.at + 3)
    l.text l.at l.fn.nodes l.nodes l.end

abbrev pub decreases-parse_or-loop-next : goal.decreases-parse_or-loop-next
decreases-parse_or-loop-next g l = left l.text l.end

-- the arguments so far of a list
abbrev pub invariant-parse_primary-loop-argument : goal.invariant-parse_primary-loop-argument
invariant-parse_primary-loop-argument g l = Listed l.text l.depth l.at (join_of l.combinator) l.fn.nodes l.nodes l.end

abbrev pub decreases-parse_primary-loop-argument : goal.decreases-parse_primary-loop-argument
decreases-parse_primary-loop-argument g l = left l.text l.end
