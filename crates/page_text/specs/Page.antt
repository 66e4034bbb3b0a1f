-- What the program `rulejudge` prints of a rule's text and of stores given as arguments. Not of document 01. Assumes nothing.
use Rattle.std.specs.Prelude.{ℕ, cond, List, [], ◌++◌, Result, Ok, Err, ltb, length}
use Rattle.slices.specs.Text.{bytes}
use Rattle.decimal.specs.Digits.{digits_of}
use Rattle.lines.specs.Lines.{line_end}
use Rattle.store_table.specs.Stores.{Entry}
use Rattle.store_table.specs.TableBytes.{table_of}
use Rattle.verdict.specs.Check.{judge_of}
use Rattle.page_text.specs.Report.{detail_of, verdict_text}
use Rattle.store_args.specs.declared.WrongArgument.{WrongArgument}
use Rattle.store_args.specs.Arguments.{fault_text, arguments_in, stores_in}

-- ---- bad arguments

abbrev pub argument_line : WrongArgument → List ℕ
argument_line w = bytes "argument " ++ (digits_of w.index ++ (bytes ": " ++ (fault_text w.fault ++ line_end)))

-- ---- all of it

-- the verdict on a text for some stores, and what it means
unfoldable pub judged_text : List ℕ → List Entry → List ℕ
unfolding detail_of table_of
judged_text text es = verdict_text text es (judge_of text (table_of es))

abbrev pub report_by : List ℕ → Result (List Entry) WrongArgument → List ℕ
report_by text (Err w) = argument_line w
report_by text (Ok es) = judged_text text es

-- of a rule's text, and of arguments one after the other, each with a 0 after it
unfoldable pub report_of : List ℕ → List ℕ → List ℕ
unfolding arguments_in stores_in judged_text
report_of text args = cond (ltb 64 (length (arguments_in args))) (bytes "more than 64 stores are given" ++ line_end) (report_by text (stores_in args))

-- written to the front of a page; nothing where the page has less than 32,768 bytes
abbrev pub page_of : List ℕ → List ℕ → List ℕ → List ℕ
page_of text args page = cond (ltb (length page) 32_768) [] (report_of text args)
