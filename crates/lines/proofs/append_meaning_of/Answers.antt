-- `lines::append_meaning_of` meets its contract: the line of the number's cause, or that of empty texts. Assumes nothing.
use mathlib.Core.Path.{sym, ◌∙◌}
use Rattle.refusals.proofs.Laws.RowLaws.{row_of_cause, row_of_none}
use Rattle.lines.proofs.append_meaning_of.Goals as goal

pub returns-in-Some : goal.returns-in-Some
returns-in-Some c =
    rw (← row_of_cause c.args.number c.in-Some.cause (sym c.of_number.ensures ∙ c.in-Some.is)) c.append_meaning.ensures

pub returns-in-None : goal.returns-in-None
returns-in-None c =
    rw (← row_of_none c.args.number (sym c.of_number.ensures ∙ c.in-None.is)) c.append.ensures
