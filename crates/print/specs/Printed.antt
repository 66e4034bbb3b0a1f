-- Printing into a lent buffer: the answer, and every byte of the buffer as it is left. Assumes nothing.
use Rattle.std.specs.Prelude.{ℕ, Result, Ok, Err, cond, List, ◌++◌, ltb, length, drop}
use Rattle.std.proofs.Math.Option.{Option, none, some}
use Rattle.refusals.specs.Refusals.{refusal}
use Rattle.refusals.specs.declared.Cause.TheVariants.{ShortBuffer, BadImage}
use Rattle.rules.specs.Rule.{Rule}
use Rattle.image.specs.Decode.{decode}
use Rattle.print_text.specs.Print.{text_of}
use Rattle.refusals.specs.declared.Refusal.{Refusal}

-- the length of the text written, or a refusal
abbrev pub Printing : Type 0
Printing = Result ℕ Refusal

-- an answer, and the buffer as it is left
pub record PrintOutcome : Type 0 where
  pub answer : Printing
  pub text : List ℕ

abbrev pub outcome : Printing → List ℕ → PrintOutcome
outcome r text = record { answer = r; text = text }

-- "into a buffer (1 exactly if shorter than the text)"
abbrev pub fitted : List ℕ → List ℕ → PrintOutcome
fitted t text = cond (ltb (length text) (length t)) (outcome (Err (refusal ShortBuffer 0)) text) (outcome (Ok (length t)) (t ++ drop (length t) text))

-- "From an image (16)"
abbrev pub print_rule : Option Rule → List ℕ → PrintOutcome
print_rule none text = outcome (Err (refusal BadImage 0)) text
print_rule (some r) text = fitted (text_of r) text

unfoldable pub print_into : List ℕ → List ℕ → PrintOutcome
print_into image text = print_rule (decode image) text
