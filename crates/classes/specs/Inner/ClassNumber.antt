-- The number of a class as the code has it. Assumes nothing.
use Rattle.std.specs.Prelude.{ℕ}
use Rattle.classes.specs.Class.{blank, open_bracket, close_bracket, comma, ampersand, bar, quote, word, foreign, stray}
use Rattle.classes.specs.declared.Class.{Class}
use Rattle.classes.specs.declared.Class.TheVariants.{Blank, Open, Close, Comma, Ampersand, Bar, Quote, Word, Foreign, Stray}

abbrev pub class_number : Class → ℕ
class_number Blank = blank
class_number Open = open_bracket
class_number Close = close_bracket
class_number Comma = comma
class_number Ampersand = ampersand
class_number Bar = bar
class_number Quote = quote
class_number Word = word
class_number Foreign = foreign
class_number Stray = stray
