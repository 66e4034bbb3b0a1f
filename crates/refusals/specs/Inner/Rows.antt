-- The table of refusals read by number: each number's cause, and its row. Assumes nothing.
use Rattle.std.specs.Prelude.{ℕ, ◌≡◌, List, [], ◌∷◌, map, get_or, eqb, find, Option}
use Rattle.refusals.specs.Refusals.{number, word, meaning}
use Rattle.refusals.specs.declared.Cause.{Cause}
use Rattle.refusals.specs.declared.Cause.TheVariants.{ShortBuffer, LongText, ForeignByte, HalfSign, OpenQuote, StrayCharacter, NoExpression, BracketExpected, TrailingToken, UnknownFunction, MissingArgument, BadCount, BadDuration, EmptyList, TooDeep, BadImage, BadStoreTable, TwinName, BadConfirmedList, UnknownStore, Unconfirmed, ArchiveOnly}
use Rattle.refusals.specs.declared.Row.{Row}

abbrev pub causes : List Cause
causes =
    ShortBuffer ∷
    LongText ∷
    ForeignByte ∷
    HalfSign ∷
    OpenQuote ∷
    StrayCharacter ∷
    NoExpression ∷
    BracketExpected ∷
    TrailingToken ∷
    UnknownFunction ∷
    MissingArgument ∷
    BadCount ∷
    BadDuration ∷
    EmptyList ∷
    TooDeep ∷
    BadImage ∷
    BadStoreTable ∷
    TwinName ∷
    BadConfirmedList ∷
    UnknownStore ∷
    Unconfirmed ∷
    ArchiveOnly ∷
    []

-- the cause that has a number
unfoldable pub cause_of : ℕ → Option Cause
cause_of n = find (λ c. eqb (number c) n) causes

-- a row: a number, its word, and what that means to a person
pub record TableRow : Type 0 where
  pub number : ℕ
  pub word : List ℕ
  pub meaning : List ℕ

abbrev pub row : ℕ → List ℕ → List ℕ → TableRow
row n w m = record { number = n; word = w; meaning = m }

abbrev pub row_for : Cause → TableRow
row_for c = row (number c) (word c) (meaning c)

-- the table, whose rows are numbered from 1
abbrev pub table : List TableRow
table = map row_for causes

-- the row of a number; a number that is in no row has no word and no meaning
unfoldable pub row_of : ℕ → TableRow
row_of n = get_or (row 0 [] [] ∷ table) n (row n [] [])

-- the program's form of a row
pub record IsRow (w : TableRow) (r : Row) : Type 0 where
  pub number : r.number ≡ w.number
  pub word : r.word.now ≡ w.word
  pub meaning : r.meaning.now ≡ w.meaning
