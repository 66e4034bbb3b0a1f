-- An answer of a call that fills a buffer, and the buffer, from what the call is proved to leave. Assumes nothing.
use mathlib.Core.Path.{◌≡◌, ap, ◌∙◌}
use mathlib.Core.List.{List}
use Prim.Native.Nat.{ℕ}
use Rattle.std.specs.Prelude.{Result}
use Rattle.refusals.specs.declared.Refusal.{Refusal}
use Rattle.read.specs.Outcome as reading
use Rattle.print.specs.Printed as printing
use Rattle.answers.specs.Answers.{of_reading, of_printing}

pub reading_answer : {o : reading.ReadOutcome} {a : Result ℕ Refusal} {i : List ℕ} {n : ℕ} → reading.outcome a i ≡ o → n ≡ of_reading a →
    (n ≡ of_reading o.answer) × (i ≡ o.image)
reading_answer e q = (q ∙ ap (λ (x : reading.ReadOutcome). of_reading x.answer) e, ap (λ (x : reading.ReadOutcome). x.image) e)

pub print_answer_lem : {o : printing.PrintOutcome} {a : Result ℕ Refusal} {t : List ℕ} {n : ℕ} → printing.outcome a t ≡ o → n ≡ of_printing a →
    (n ≡ of_printing o.answer) × (t ≡ o.text)
print_answer_lem e q = (q ∙ ap (λ (x : printing.PrintOutcome). of_printing x.answer) e, ap (λ (x : printing.PrintOutcome). x.text) e)
