-- `decimal::count::sign_end` meets its contract. Assumes nothing.
use mathlib.Core.Path.{sym, ◌∙◌}
use Rattle.decimal.proofs.Laws.CountLaws.{sign_same}
use Rattle.decimal.proofs.count.sign_end.Goals as goal

pub returns-then-starts_with : goal.returns-then-starts_with
returns-then-starts_with c = rw (sym c.starts_with.ensures.value ∙ c.if-starts_with.true) at (sign_same c.args.word.now)

pub returns-else-starts_with : goal.returns-else-starts_with
returns-else-starts_with c = rw (sym c.starts_with.ensures.value ∙ c.if-starts_with.false) at (sign_same c.args.word.now)
