-- `parse_text::parse_text` meets its contract: the tests before the parse come first wherever they refuse. Assumes nothing.
use Rattle.std.specs.Prelude.{Result}
use mathlib.Core.Path.{◌≡◌, sym, ap, ◌∙◌}
use Rattle.refusals.specs.declared.Refusal.{Refusal}
use native.Mathlib.Omega.{arith}
use Rattle.tokens.specs.Token.{tokens_from, scan_of}
use Rattle.grammar.specs.Reading.{refused, scanned_of, read_of}
use Rattle.parse_text.proofs.Laws.ParseTextLaws.{unread_on, finished_ended, finished_parsed, read_foreign, read_scanned}
use Rattle.parse_text.proofs.parse_text.Goals as goal
use Rattle.parse_text.proofs.parse_text.Goals.{Else-place-text}

-- past 3, the scan decides
scanned : (g : _) (c : Else-place-text g) {x : Result (Unit {0}) Refusal} →
    (let s = c.args.text.now in scan_of (tokens_from s 0) ≡ x → read_of s ≡ scanned_of x s)
scanned g c =
    read_scanned _ (omega (arith, c.requires)) c.foreign_at-place.ensures c.if-place-text.false

pub returns-then-place-text : goal.returns-then-place-text
returns-then-place-text g c =
    read_foreign _ (omega (arith, c.requires)) c.foreign_at-place.ensures c.if-place-text.true ∙ ap refused (sym c.at.ensures)

pub returns-else-refused : goal.returns-else-refused
returns-else-refused g c =
    finished_parsed _ _ _ (sym c.is_err-refused.ensures.value ∙ c.if-refused.false) (scanned _ (goal.at.returns-else-refused g c).Else-place-text) c.parse_whole-whole.ensures

pub returns-in_err-scan : goal.returns-in_err-scan
returns-in_err-scan g c =
    unread_on _ _ c.from_residual.result c.from_residual.ensures.1
    (scanned _ (goal.at.returns-in_err-scan g c).Else-place-text (sym c.scan.ensures ∙ c.in_err-scan.was))

pub returns-in_ok-scan : goal.returns-in_ok-scan
returns-in_ok-scan g c =
    finished_ended _ _ _ (scanned _ (goal.at.returns-in_ok-scan g c).Else-place-text (sym c.scan.ensures ∙ c.in_ok-scan.was)) c.parse_whole-whole.ensures
