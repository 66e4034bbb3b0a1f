-- `calls::readable_start` meets its contract: by the word that is expected, the count that it is, and the bracket after it.
-- Assumes nothing.
use mathlib.Core.Path.{◌≡◌}
use native.Mathlib.Omega.{arith}
use borrow.Author.Rules.{rules}
use Rattle.std.specs.Prelude.{Err}
use Rattle.grammar.specs.Grammar.{readable_start}
use Rattle.grammar.proofs.Laws.StartLaws.{begins_leaf}
use Rattle.calls.proofs.Laws.BracketLaws.{bracket_expected}
use Rattle.calls.proofs.Laws.CountLaws.{word_missing, count_bad, sign_missing}
use Rattle.calls.proofs.readable_start.Goals as goal

pub returns-in_err-word : goal.returns-in_err-word
unfolding readable_start
returns-in_err-word c =
    let e : c.from_residual.result ≡ Err c.in_err-word.field-0.0 = search rules in
    word_missing _ _ _ e c.in_err-word.ensures

pub returns-in_err-count : goal.returns-in_err-count
unfolding readable_start
returns-in_err-count c =
    let e : c.from_residual-in_err-count.result ≡ Err c.in_err-count.field-0.0 = search rules in
    count_bad _ _ _ _ _ c.in_ok-word.word c.in_ok-word.ensures e c.in_err-count.ensures

pub returns-in_err-next : goal.returns-in_err-next
unfolding readable_start
returns-in_err-next c =
    let e : c.from_residual-in_err-next.result ≡ Err c.in_err-next.field-0.0 = search rules in
    sign_missing _ _ _ _ _ c.in_ok-word.word c.in_ok-word.ensures e c.in_ok-count.ensures c.expected_bracket.ensures c.in_err-next.was (omega arith)

pub returns : goal.returns
unfolding readable_start
returns c =
    let w = c.in_ok-word.ensures in
    let s = bracket_expected _ _ _ _ c.expected_bracket.ensures c.in_ok-next.was (omega arith) in
    begins_leaf (rw (w.0, c.in_ok-count.ensures, s.0)) (omega arith)
