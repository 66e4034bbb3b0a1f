-- A refusal's word and its meaning are short, and the line of a number is its cause's. Assumes nothing.
use mathlib.Core.Path.{◌≡◌, refl}
use mathlib.Core.List.{◌++◌}
use Prim.Native.Nat.{ℕ, ◌≤◌}
use native.Mathlib.Omega.{arith}
use lib.ListN.{length}
use Rattle.std.specs.Prelude.{None}
use Rattle.slices.specs.Text.{bytes}
use Rattle.refusals.specs.Refusals.{number, word, meaning}
use Rattle.refusals.specs.Inner.Rows.{cause_of}
use Rattle.refusals.proofs.Laws.RowLaws.{cause_of_number, row_of_cause, row_of_none}
use Rattle.lines.specs.Lines.{line_end, meaning_line}
use Rattle.lines.specs.Inner.Numbered.{meaning_line_of}
use Rattle.refusals.specs.declared.Cause.{Cause}
use Rattle.refusals.specs.declared.Cause.TheVariants.{ShortBuffer, LongText, ForeignByte, HalfSign, OpenQuote, StrayCharacter, NoExpression, BracketExpected, TrailingToken, UnknownFunction, MissingArgument, BadCount, BadDuration, EmptyList, TooDeep, BadImage, BadStoreTable, TwinName, BadConfirmedList, UnknownStore, Unconfirmed, ArchiveOnly}

pub word_short : (c : Cause) → length (word c) ≤ 18
word_short ShortBuffer = omega arith
word_short LongText = omega arith
word_short ForeignByte = omega arith
word_short HalfSign = omega arith
word_short OpenQuote = omega arith
word_short StrayCharacter = omega arith
word_short NoExpression = omega arith
word_short BracketExpected = omega arith
word_short TrailingToken = omega arith
word_short UnknownFunction = omega arith
word_short MissingArgument = omega arith
word_short BadCount = omega arith
word_short BadDuration = omega arith
word_short EmptyList = omega arith
word_short TooDeep = omega arith
word_short BadImage = omega arith
word_short BadStoreTable = omega arith
word_short TwinName = omega arith
word_short BadConfirmedList = omega arith
word_short UnknownStore = omega arith
word_short Unconfirmed = omega arith
word_short ArchiveOnly = omega arith

pub meaning_short : (c : Cause) → length (meaning c) ≤ 64
meaning_short ShortBuffer = omega arith
meaning_short LongText = omega arith
meaning_short ForeignByte = omega arith
meaning_short HalfSign = omega arith
meaning_short OpenQuote = omega arith
meaning_short StrayCharacter = omega arith
meaning_short NoExpression = omega arith
meaning_short BracketExpected = omega arith
meaning_short TrailingToken = omega arith
meaning_short UnknownFunction = omega arith
meaning_short MissingArgument = omega arith
meaning_short BadCount = omega arith
meaning_short BadDuration = omega arith
meaning_short EmptyList = omega arith
meaning_short TooDeep = omega arith
meaning_short BadImage = omega arith
meaning_short BadStoreTable = omega arith
meaning_short TwinName = omega arith
meaning_short BadConfirmedList = omega arith
meaning_short UnknownStore = omega arith
meaning_short Unconfirmed = omega arith
meaning_short ArchiveOnly = omega arith

pub line_of_number : (c : Cause) → meaning_line_of (number c) ≡ meaning_line c
line_of_number c = rw (← row_of_cause (number c) c (cause_of_number c)) refl

pub line_of_none : (n : ℕ) → cause_of n ≡ None → meaning_line_of n ≡ bytes ": " ++ line_end
line_of_none n e = rw (← row_of_none n e) refl
