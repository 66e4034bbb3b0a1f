-- Answers as one number: number × 2^32 + value. The number is 0 for an accepted call, with its value; else the refusal's number,
-- with its place. Assumes nothing.
use Rattle.std.specs.Prelude.{ℕ, ◌+◌, ◌*◌, ◌%◌, ◌^◌, Result, Ok, Err}
use Rattle.refusals.specs.declared.Refusal.{Refusal}
use Rattle.refusals.specs.Refusals.{number}
use Rattle.decide.specs.declared.Decision.{Decision}
use Rattle.decide.specs.declared.Decision.TheVariants.{Evict, Keep}
use Rattle.decide.specs.Decide.{Answer}
use Rattle.verdict.specs.Verdict.{Verdict}

-- a number and a value as one; the values of the calls are below 2^32, so that both are read back (AnswersLaws)
abbrev pub packed_answer : ℕ → ℕ → ℕ
packed_answer number value = number * 2 ^ 32 + value % 2 ^ 32

abbrev pub of_refusal : Refusal → ℕ
of_refusal f = packed_answer (number f.cause) f.place

-- what a call answers, where its values are numbered by f
abbrev pub packed : {A : Type 0} → (A → ℕ) → Result A Refusal → ℕ
packed f (Ok x) = packed_answer 0 (f x)
packed f (Err r) = of_refusal r

-- "the length written"
abbrev pub length_value : ℕ → ℕ
length_value size = size

-- "1 evict, 0 keep"
abbrev pub decision_value : Decision → ℕ
decision_value Evict = 1
decision_value Keep = 0

-- "0 for pass"
abbrev pub pass_value : Unit {0} → ℕ
pass_value u = 0

abbrev pub of_reading : Result ℕ Refusal → ℕ
of_reading = packed length_value

abbrev pub of_decision : Answer → ℕ
of_decision = packed decision_value

abbrev pub of_verdict : Verdict → ℕ
of_verdict = packed pass_value

abbrev pub of_printing : Result ℕ Refusal → ℕ
of_printing = packed length_value
