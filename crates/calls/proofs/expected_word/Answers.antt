-- `calls::expected_word` meets its contract: by the token that is there. Assumes nothing.
use mathlib.Core.Path.{refl, sym}
use native.Mathlib.Omega.{arith}
use Rattle.tokens.specs.Token.{next_of}
use Rattle.grammar.proofs.Laws.TokenListLaws.{word_expected, word_part, steps}
use Rattle.grammar.proofs.Tags.{no_word}
use Rattle.calls.proofs.expected_word.Goals as goal

pub returns-in_default : goal.returns-in_default
returns-in_default c = rw (c.at.ensures, c.place_of.ensures) (no_word _ _ c.token_at-t.ensures c.in_default.not-Word, refl)

pub returns : goal.returns
unfolding next_of
returns c =
    let e = sym c.in-Word.ensures in
    let w = word_part _ _ e in
    let n = steps _ _ e refl in
    (word_expected _ _ e, w.1, w.2, omega arith, n)
