-- `refusals::row_of` meets its contract: the row of the number, with its cause's texts or none. Assumes nothing.
use mathlib.Core.Path.{refl, sym, ◌∙◌}
use Rattle.refusals.proofs.Laws.RowLaws.{row_of_cause, row_of_none}
use Rattle.refusals.proofs.row_of.Goals as goal

pub returns-in-Some : goal.returns-in-Some
returns-in-Some c =
    rw (← row_of_cause c.args.number c.in-Some.cause (sym c.of_number.ensures ∙ c.in-Some.is))
    (record { number = refl; word = c.word.ensures; meaning = c.meaning.ensures })

pub returns-in-None : goal.returns-in-None
returns-in-None c =
    rw (← row_of_none c.args.number (sym c.of_number.ensures ∙ c.in-None.is))
    (record { number = refl; word = refl; meaning = refl })
