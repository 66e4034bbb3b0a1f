-- `evaluate::join_says` meets its contract: each kind has its own line, and the other kinds are no combinator's. Assumes nothing.
use native.Mathlib.Omega.{arith}
use Rattle.image.proofs.Laws.KindLaws.{no_join}
use Rattle.evaluate.proofs.Laws.MeaningLaws.{kind_at_least, kind_all, kind_any}
use Rattle.evaluate.proofs.join_says.Goals as goal

pub returns-in-3 : goal.returns-in-3
returns-in-3 c = λ s n j bs e y t. kind_at_least s n _ j bs e y c.in-3.is

pub returns-in-4 : goal.returns-in-4
returns-in-4 c = λ s n j bs e y t. kind_all s n _ j bs e y t c.in-4.is

pub returns-in-5 : goal.returns-in-5
returns-in-5 c = λ s n j bs e y t. kind_any s n _ j bs e y c.in-5.is

pub returns-in_default : goal.returns-in_default
returns-in_default c = λ s n j bs e y t. absurd (no_join s n _ _ (λ h i. omega arith) j e)
