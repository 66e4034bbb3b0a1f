-- Document 01's proved sheet, with the rows that document 02's jobs add or amend: one table. `SheetLaws` proves it by one statement over all
-- of its rows. Assumes nothing.
use Rattle.std.specs.Prelude.{Ok, Err}
use mathlib.Core.List.{List, [], ◌∷◌}
use Prim.Native.Nat.{ℕ}
use Prim.Native.String.{String}
use Rattle.slices.specs.Text.{bytes}
use Rattle.refusals.specs.declared.Refusal.{Refusal}
use Rattle.refusals.specs.Refusals.{refusal}
use Rattle.refusals.specs.declared.Cause.{Cause}
use Rattle.refusals.specs.declared.Cause.TheVariants.{HalfSign, NoExpression, BracketExpected, BadCount, EmptyList, Unconfirmed, ArchiveOnly}
use Rattle.rules.specs.Rule.{named, older_than, Join, all, any, Rule, leaf, node, nil, more, size}
use Rattle.grammar.specs.Reading.{Read, rule, refused, read_of}
use Rattle.verdict.specs.Check.{judge_of}
use Rattle.verdict.specs.Verdict.{Verdict}
use Rattle.print_text.specs.Print.{text_of}

-- a row: a text with the rule that it reads as and how many nodes that has, with the refusal of reading it, with what its rule is
-- printed as, or with what it is judged for the stores of the sheet
pub data Example : Type 0 where
  reads : String → Rule → ℕ → Example
  refuses : String → Cause → ℕ → Example
  prints : String → String → Example
  judges : String → Verdict → Example

pub data Answer : Type 0 where
  a_rule : Rule → ℕ → Answer
  a_refusal : Refusal → Answer
  a_text : List ℕ → Answer
  a_verdict : Verdict → Answer

-- "With nas (0) and vault (2)"
abbrev pub home : List ℕ
home = 2 ∷ 0 ∷ 8 ∷ 0 ∷ 0 ∷ 2 ∷ 3 ∷ 5 ∷ bytes "nasvault"

abbrev pub read_answer : Read → Answer
read_answer (rule r) = a_rule r (size r)
read_answer (refused f) = a_refusal f

abbrev pub print_answer : Read → Answer
print_answer (rule r) = a_text (text_of r)
print_answer (refused f) = a_refusal f

-- what the definitions give for a row's text
unfoldable pub answer_of : Example → Answer
answer_of (reads t r n) = read_answer (read_of (bytes t))
answer_of (refuses t n p) = read_answer (read_of (bytes t))
answer_of (prints t u) = print_answer (read_of (bytes t))
answer_of (judges t v) = a_verdict (judge_of (bytes t) home)

-- what the row says
unfoldable pub expected : Example → Answer
expected (reads t r n) = a_rule r n
expected (refuses t n p) = a_refusal (refusal n p)
expected (prints t u) = a_text (bytes u)
expected (judges t v) = a_verdict v

-- rules: a name, and a combinator over two rules or three
abbrev name : String → Rule
name w = leaf (named (bytes w))

abbrev two : Join → Rule → Rule → Rule
two j q r = node j (more nil q) r

abbrev three : Join → Rule → Rule → Rule → Rule
three j p q r = node j (more (more nil p) q) r

abbrev pub rows : List Example
rows =
    reads "a && b || c" (two any (two all (name "a") (name "b")) (name "c")) 5 ∷
    reads "a && (b && c)" (two all (name "a") (two all (name "b") (name "c"))) 5 ∷
    prints "a && (b && c)" "a && b && c" ∷
    reads "(a && b) && c" (three all (name "a") (name "b") (name "c")) 4 ∷
    refuses "any(a,)" NoExpression 6 ∷
    refuses "any()" EmptyList 0 ∷
    refuses "" NoExpression 0 ∷
    refuses "older_than(1h 30m)" BracketExpected 14 ∷
    reads "older_than(\"1h 30m\")" (leaf (older_than 5_400_000)) 1 ∷
    refuses "readable(x" BadCount 9 ∷
    refuses "older_than(x" BracketExpected 12 ∷
    refuses ") a &" HalfSign 4 ∷
    -- document 02, Job 2: "The sheet's row `'READABLE'` becomes a name of eight bytes."
    reads "'READABLE'" (name "READABLE") 1 ∷
    judges "nas || vault" (Err (refusal ArchiveOnly 0)) ∷
    judges "at_least(0, nas)" (Err (refusal Unconfirmed 0)) ∷
    judges "at_least(2, nas, vault)" (Ok tt) ∷
    -- document 02, Job 1: "the sheet gains "1w 1d" as 691,200,000"
    reads "older_than(\"1w 1d\")" (leaf (older_than 691_200_000)) 1 ∷
    []
