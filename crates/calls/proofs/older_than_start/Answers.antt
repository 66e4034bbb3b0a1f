-- `calls::older_than_start` meets its contract: by the word that is expected, the bracket after it and the duration. Assumes nothing.
use mathlib.Core.Path.{◌≡◌}
use native.Mathlib.Omega.{arith}
use borrow.Author.Rules.{rules}
use Rattle.std.specs.Prelude.{Err}
use Rattle.durations.specs.Duration.{duration_of}
use Rattle.grammar.specs.Grammar.{older_than_start}
use Rattle.grammar.proofs.Laws.StartLaws.{begins_refused, begins_leaf, told}
use Rattle.calls.proofs.Laws.BracketLaws.{bracket_expected}
use Rattle.calls.proofs.Laws.CountLaws.{word_missing}
use Rattle.calls.proofs.older_than_start.Goals as goal

pub returns-in_err-word : goal.returns-in_err-word
unfolding older_than_start
returns-in_err-word c =
    let e : c.from_residual.result ≡ Err c.in_err-word.field-0.0 = search rules in
    word_missing _ _ _ e c.in_err-word.ensures

pub returns-in_err-after : goal.returns-in_err-after
unfolding older_than_start
returns-in_err-after c =
    let w = c.in_ok-word.ensures in
    let s = bracket_expected _ _ _ _ c.expected_bracket.ensures c.in_err-after.was (omega arith) in
    let e : c.from_residual-in_err-after.result ≡ Err c.in_err-after.field-0.0 = search rules in
    begins_refused e s.1 (rw (w.0, s.0))

pub returns-in_err-milliseconds : goal.returns-in_err-milliseconds
unfolding older_than_start
returns-in_err-milliseconds c =
    let w = c.in_ok-word.ensures in
    let s = bracket_expected _ _ _ _ c.expected_bracket.ensures c.in_ok-after.was (omega arith) in
    let n = c.in_err-milliseconds.ensures in
    let e : c.from_residual-in_err-milliseconds.result ≡ Err c.at.result = search rules in
    begins_refused e c.at.ensures (rw (w.0, s.0, told duration_of c.word_of.ensures c.parse_duration-duration.ensures n.ok_part))

pub returns : goal.returns
unfolding older_than_start
returns c =
    let w = c.in_ok-word.ensures in
    let s = bracket_expected _ _ _ _ c.expected_bracket.ensures c.in_ok-after.was (omega arith) in
    let n = c.in_ok-milliseconds.ensures in
    begins_leaf (rw (w.0, s.0, told duration_of c.word_of.ensures c.parse_duration-duration.ensures n.ok_part)) (omega arith)
