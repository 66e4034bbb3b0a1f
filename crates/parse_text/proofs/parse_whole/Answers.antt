-- `parse_text::parse_whole` meets its contract: what is left after the rule is the end, or it is refused. Assumes nothing.
use mathlib.Core.Path.{sym, ap, ◌∙◌}
use Rattle.grammar.specs.Reading.{refused}
use Rattle.parse_text.proofs.Laws.ParseTextLaws.{refused_on, parse_refused, parse_trailing, parse_whole, not_end}
use Rattle.parse_text.proofs.parse_whole.Goals as goal

pub returns-in_err-end : goal.returns-in_err-end
returns-in_err-end g c =
    refused_on _ _ c.from_residual.result c.from_residual.ensures.1 (parse_refused _ c.in_err-end.ensures)

pub returns-in_default : goal.returns-in_default
returns-in_default g c =
    let t = c.token_from-rest in
    parse_trailing _ c.in_ok-end.ensures (sym t.ensures) (not_end t.result c.in_default.not-End) c.place_of.ensures
    ∙ ap refused (sym c.at.ensures)

pub returns : goal.returns
returns g c = parse_whole _ c.in_ok-end.ensures c.clear.ensures (sym c.token_from-rest.ensures ∙ c.in-End.is)
