-- The table of refusals: a number, a word and a meaning for each cause. Assumes nothing.
use Rattle.std.specs.Prelude.{ℕ, List}
use Rattle.slices.specs.Text.{bytes}
use Rattle.refusals.specs.declared.Cause.{Cause}
use Rattle.refusals.specs.declared.Cause.TheVariants.{ShortBuffer, LongText, ForeignByte, HalfSign, OpenQuote, StrayCharacter, NoExpression, BracketExpected, TrailingToken, UnknownFunction, MissingArgument, BadCount, BadDuration, EmptyList, TooDeep, BadImage, BadStoreTable, TwinName, BadConfirmedList, UnknownStore, Unconfirmed, ArchiveOnly}
use Rattle.refusals.specs.declared.Refusal.{Refusal}

abbrev pub number : Cause → ℕ
number ShortBuffer = 1
number LongText = 2
number ForeignByte = 3
number HalfSign = 4
number OpenQuote = 5
number StrayCharacter = 6
number NoExpression = 7
number BracketExpected = 8
number TrailingToken = 9
number UnknownFunction = 10
number MissingArgument = 11
number BadCount = 12
number BadDuration = 13
number EmptyList = 14
number TooDeep = 15
number BadImage = 16
number BadStoreTable = 17
number TwinName = 18
number BadConfirmedList = 19
number UnknownStore = 20
number Unconfirmed = 21
number ArchiveOnly = 22

abbrev pub word : Cause → List ℕ
word ShortBuffer = bytes "short buffer"
word LongText = bytes "long text"
word ForeignByte = bytes "foreign byte"
word HalfSign = bytes "half sign"
word OpenQuote = bytes "open quote"
word StrayCharacter = bytes "stray character"
word NoExpression = bytes "no expression"
word BracketExpected = bytes "open bracket"
word TrailingToken = bytes "trailing token"
word UnknownFunction = bytes "unknown function"
word MissingArgument = bytes "missing argument"
word BadCount = bytes "bad count"
word BadDuration = bytes "bad duration"
word EmptyList = bytes "empty list"
word TooDeep = bytes "too deep"
word BadImage = bytes "bad image"
word BadStoreTable = bytes "bad store table"
word TwinName = bytes "twin name"
word BadConfirmedList = bytes "bad confirmed list"
word UnknownStore = bytes "unknown store"
word Unconfirmed = bytes "unconfirmed"
word ArchiveOnly = bytes "archive only"

-- what it means to a person
abbrev pub meaning : Cause → List ℕ
meaning ShortBuffer = bytes "the lent output is too short"
meaning LongText = bytes "the rule has more than 2,048 bytes"
meaning ForeignByte = bytes "this byte is not ASCII"
meaning HalfSign = bytes "this sign stands alone: write `&&` or `||`"
meaning OpenQuote = bytes "this quote is not closed"
meaning StrayCharacter = bytes "nothing in a rule begins with this character"
meaning NoExpression = bytes "an expression is expected here"
meaning BracketExpected = bytes "a `)` is expected here"
meaning TrailingToken = bytes "the rule is complete before this"
meaning UnknownFunction = bytes "there is no function of this name"
meaning MissingArgument = bytes "a count, a duration or a comma is expected here"
meaning BadCount = bytes "this is not a count"
meaning BadDuration = bytes "this is not a duration, as 30d or 12h30m is"
meaning EmptyList = bytes "this function needs an argument"
meaning TooDeep = bytes "64 brackets are open already"
meaning BadImage = bytes "the bytes are not the image of a rule"
meaning BadStoreTable = bytes "the bytes are not a table of stores"
meaning TwinName = bytes "two stores have this name"
meaning BadConfirmedList = bytes "the bytes are not a list of confirmed stores"
meaning UnknownStore = bytes "the rule names a store that is not in the table"
meaning Unconfirmed = bytes "the rule says evict with nothing confirmed"
meaning ArchiveOnly = bytes "the rule says evict with only write-only stores confirmed"

-- "A refusal returns its number and a place"
abbrev pub refusal : Cause → ℕ → Refusal
refusal c p = record { cause = c; place = p }
