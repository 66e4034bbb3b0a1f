-- The number and the value of each call are read back from its answer. Assumes nothing.
use mathlib.Core.Path.{◌≡◌, refl}
use mathlib.Core.List.{List}
use Prim.Native.Nat.{ℕ, ◌/◌, ◌%◌, ◌^◌, ◌<◌}
use native.Mathlib.Omega.{arith}
use Rattle.refusals.specs.declared.Refusal.{Refusal}
use Rattle.read.specs.Outcome.{read_into}
use Rattle.read.proofs.Laws.ValueLaws as reading
use Rattle.std.specs.Prelude.{Result, Ok, Err}
use Rattle.refusals.specs.Refusals.{number}
use Rattle.decide.specs.declared.Decision.TheVariants.{Evict, Keep}
use Rattle.decide.specs.Decide.{Answer, decide_of}
use Rattle.decide.proofs.Laws.PlaceLaws.{decide_place}
use Rattle.verdict.specs.Verdict.{Verdict}
use Rattle.verdict.specs.Check.{check_of, judge_of}
use Rattle.verdict.proofs.Laws.PlaceLaws.{check_place, judge_place}
use Rattle.print.specs.Printed.{print_into}
use Rattle.print.proofs.Laws.ValueLaws as printing
use Rattle.answers.specs.Answers.{packed_answer, of_reading, of_decision, of_verdict, of_printing}

-- an answer divided by 2^32 is the number, and its remainder the value
pub record ReadBack (answer number value : ℕ) : Type 0 where
  pub number_back : answer / 2 ^ 32 ≡ number
  pub value_back : answer % 2 ^ 32 ≡ value

-- since the value is below 2^32
small : (number value : ℕ) → value < 2 ^ 32 → ReadBack (packed_answer number value) number value
small number value h = record { number_back = omega arith; value_back = omega arith }

-- of a refusal
abbrev pub RefusalBack : ℕ → Refusal → Type 0
RefusalBack answer f = ReadBack answer (number f.cause) f.place

-- ---- reading
abbrev pub ReadingBack : Result ℕ Refusal → Type 0
ReadingBack (Ok size) = ReadBack (of_reading (Ok size)) 0 size
ReadingBack (Err f) = RefusalBack (of_reading (Err f)) f

pub read_back : (text buffer : List ℕ) → ReadingBack (read_into text buffer).answer
read_back text buffer = go (read_into text buffer).answer refl
  where
    go : (r : Result ℕ Refusal) → (read_into text buffer).answer ≡ r → ReadingBack r
    go (Ok size) e = small _ _ (omega (arith, reading.read_value text buffer size e))
    go (Err f) e = small _ _ (omega (arith, reading.refused_value text buffer f e))

-- ---- deciding
abbrev pub DecisionBack : Answer → Type 0
DecisionBack (Ok Evict) = ReadBack (of_decision (Ok Evict)) 0 1
DecisionBack (Ok Keep) = ReadBack (of_decision (Ok Keep)) 0 0
DecisionBack (Err f) = RefusalBack (of_decision (Err f)) f

pub decide_back : (image stores : List ℕ) (age : ℕ) (list : List ℕ) → DecisionBack (decide_of image stores age list)
decide_back image stores age list = go (decide_of image stores age list) refl
  where
    go : (d : Answer) → decide_of image stores age list ≡ d → DecisionBack d
    go (Ok Evict) e = small _ _ (omega arith)
    go (Ok Keep) e = small _ _ (omega arith)
    go (Err f) e = small _ _ (omega (arith, decide_place image stores age list f e))

-- ---- checking and judging
abbrev pub VerdictBack : Verdict → Type 0
VerdictBack (Ok u) = ReadBack (of_verdict (Ok u)) 0 0
VerdictBack (Err f) = RefusalBack (of_verdict (Err f)) f

verdict_back : (v : Verdict) → ((f : Refusal) → v ≡ Err f → f.place < 2 ^ 32) → VerdictBack v
verdict_back (Ok u) h = small _ _ (omega arith)
verdict_back (Err f) h = small _ _ (h f refl)

pub check_back : (image stores : List ℕ) → VerdictBack (check_of image stores)
check_back image stores = verdict_back (check_of image stores) (λ f e. omega (arith, check_place stores f image e))

pub judge_back : (text stores : List ℕ) → VerdictBack (judge_of text stores)
judge_back text stores = verdict_back (judge_of text stores) (λ f e. omega (arith, judge_place stores f text e))

-- ---- printing
abbrev pub PrintingBack : Result ℕ Refusal → Type 0
PrintingBack (Ok size) = ReadBack (of_printing (Ok size)) 0 size
PrintingBack (Err f) = RefusalBack (of_printing (Err f)) f

pub print_back : (image buffer : List ℕ) → PrintingBack (print_into image buffer).answer
print_back image buffer = go (print_into image buffer).answer refl
  where
    go : (p : Result ℕ Refusal) → (print_into image buffer).answer ≡ p → PrintingBack p
    go (Ok size) e = small _ _ (omega (arith, printing.print_value image buffer size e))
    go (Err f) e = small _ _ (omega (arith, printing.refused_value image buffer f e))
