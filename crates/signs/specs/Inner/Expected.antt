-- The classes of brackets and signs, and a bracket that is expected: it is there, or what is there is refused. Assumes nothing.
use Rattle.std.specs.Prelude.{ℕ, Option, Some, None, Result, Ok, Err}
use Rattle.classes.specs.Class.{open_bracket, close_bracket, comma, ampersand, bar}
use Rattle.refusals.specs.declared.Refusal.{Refusal}
use Rattle.refusals.specs.declared.Cause.{Cause}
use Rattle.refusals.specs.Refusals.{refusal}
use Rattle.tokens.specs.declared.Token.{Token}
use Rattle.tokens.specs.Token.{place_of}
use Rattle.tokens.specs.Inner.Bounds.{next_of_class}
use Rattle.signs.specs.declared.Bracket.{Bracket}
use Rattle.signs.specs.declared.Bracket.TheVariants.{Open, Close, Comma}
use Rattle.signs.specs.declared.Sign.{Sign}
use Rattle.signs.specs.declared.Sign.TheVariants.{And, Or}

-- the class of a bracket or a comma
abbrev pub bracket_class : Bracket → ℕ
bracket_class Open = open_bracket
bracket_class Close = close_bracket
bracket_class Comma = comma

-- the class of a sign's first byte
abbrev pub sign_class : Sign → ℕ
sign_class And = ampersand
sign_class Or = bar

-- where the text continues after what is expected, if it does; else another token is at p
abbrev pub expected_by : Option ℕ → Cause → ℕ → Result ℕ Refusal
expected_by (Some next) c p = Ok next
expected_by None c p = Err (refusal c p)

-- this token is to be a bracket or a comma of class k, and another is refused for this cause
abbrev pub expected : ℕ → Cause → Token → Result ℕ Refusal
expected k c t = expected_by (next_of_class k t) c (place_of t)
