-- `read::read` meets its contract: 1, then 2, then the reading of a text that fits. Assumes nothing.
use mathlib.Core.Path.{refl, sym, ◌∙◌}
use Rattle.read.proofs.Laws.BufferLaws.{says_short, reads}
use Rattle.parse_text.proofs.Laws.ParseTextLaws.{read_long}
use Rattle.read.proofs.read.Goals as goal

pub returns-then-short : goal.returns-then-short
returns-then-short c = rw c.at.ensures (says_short _ _ c.if-short.true)

pub returns-then-long : goal.returns-then-long
returns-then-long c = rw c.at-then-long.ensures (sym (reads _ _ c.if-short.false (read_long _ c.if-long.true)))

pub returns : goal.returns
returns c =
    c.read_fitting.ensures ∙ sym (reads _ _ c.if-short.false refl)
