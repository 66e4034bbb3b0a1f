-- `primary_start::primary_start_at` meets its contract: by the token that is there. Assumes nothing.
use mathlib.Core.Path.{◌≡◌, refl, sym, ◌∙◌}
use native.Mathlib.Omega.{arith}
use borrow.Author.Rules.{rules}
use Rattle.std.specs.Prelude.{Err}
use Rattle.tokens.specs.Token.{next_of}
use Rattle.grammar.proofs.Laws.TokenListLaws.{word_part, steps}
use Rattle.grammar.proofs.Laws.StartLaws.{begins_group, begins_refused, begins_within, head_next, too_deep_lem, not_deep}
use Rattle.grammar.proofs.Tags.{no_primary}
use Rattle.primary_start.proofs.primary_start_at.Goals as goal

pub word_start-requires : goal.word_start-requires
word_start-requires c =
    let w = word_part _ _ (sym c.token_at-t.ensures ∙ c.in-Word.is) in
    omega arith

pub returns-in_err-allow_bracket-in-Open : goal.returns-in_err-allow_bracket-in-Open
unfolding next_of
returns-in_err-allow_bracket-in-Open c =
    let deep = c.in_err-allow_bracket-in-Open.ensures.deep in
    let e : c.from_residual.result ≡ Err c.in_err-allow_bracket-in-Open.field-0.0 = search rules in
    begins_refused e deep.1
    (rw (head_next _ _ _ (sym c.token_at-t.ensures ∙ c.in-Open.is) refl, too_deep_lem {d = c.args.depth} {k = 64} (omega (arith, deep.0)) (omega arith)))

pub returns-in-Word : goal.returns-in-Word
unfolding next_of
returns-in-Word c =
    let word = sym c.token_at-t.ensures ∙ c.in-Word.is in
    let lies = word_part _ _ word in
    let behind = steps _ _ word refl in
    rw (head_next _ _ _ word refl) (begins_within c.word_start.ensures (omega arith) (omega arith) (omega arith))

pub returns-in_ok-allow_bracket-in-Open : goal.returns-in_ok-allow_bracket-in-Open
unfolding next_of
returns-in_ok-allow_bracket-in-Open c =
    let opening = sym c.token_at-t.ensures ∙ c.in-Open.is in
    let inside = steps _ _ opening refl in
    begins_group (rw (head_next _ _ _ opening refl, not_deep {d = c.args.depth} {k = 64} (omega (arith, c.in_ok-allow_bracket-in-Open.ensures.room)) (omega arith))) (omega arith)

pub returns-in_default : goal.returns-in_default
returns-in_default c =
    begins_refused refl c.at.ensures (rw c.place_of.ensures (no_primary _ _ c.token_at-t.ensures c.in_default.not-Word _ c.in_default.not-Open))
