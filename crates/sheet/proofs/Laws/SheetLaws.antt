-- The sheet: each row of the table is what the definitions give. Assumes nothing.
use mathlib.Core.Path.{◌≡◌, refl}
use mathlib.Core.List.{List, [], ◌∷◌, map, Memᴰ}
use Rattle.slices.specs.Text.{part, run, run_end, all_ascii, other}
use Rattle.ascii.specs.Letters.{lower, equal_by}
use Rattle.classes.specs.Class.{class_of, of_class}
use Rattle.tokens.specs.Token.{ascii, place_of, doubled, quoted_to, quoted_at, unquoted_to, unquoted_at, token_of, start_at, token_at, next_of, tokens_by, tokens_from, scan_of}
use Rattle.decimal.specs.Count.{count_of}
use Rattle.decimal.specs.Digits.{digits_of}
use Rattle.durations.specs.Duration.{duration_of}
use Rattle.duration_text.specs.DurationText.{duration_text}
use Rattle.rules.specs.Rule.{size}
use Rattle.grammar.specs.Grammar.{after, first_place, expected_word, older_than_start, readable_start, at_least_start, function_of, unquoted_leaf, primary_start, left_rules, chain, or_in}
use Rattle.grammar.specs.Reading.{parse_of, read_of}
use Rattle.little_endian.specs.Bytes.{le_at}
use Rattle.store_table.specs.Names.{has}
use Rattle.store_table.specs.Stores.{sum, all_at_most, well_made, entries_in, is_readable, all_names, write_only_names, ready_count, twin_of}
use Rattle.evaluate.specs.Evict.{evict}
use Rattle.verdict.specs.Check.{unknown_in, check_rule, judge_of}
use Rattle.print_text.specs.Print.{text_of}
use Rattle.sheet.proofs.Laws.Sheet.{Example, answer_of, expected, rows}

-- by computation, over all rows at once
rows_computed : map answer_of rows ≡ map expected rows
unfolding answer_of expected run run_end part lower equal_by class_of of_class other doubled quoted_to quoted_at unquoted_to unquoted_at
    token_of start_at token_at next_of tokens_by tokens_from scan_of count_of duration_of ascii place_of size after first_place expected_word
    older_than_start readable_start at_least_start function_of unquoted_leaf primary_start left_rules chain or_in parse_of read_of le_at
    all_ascii has sum all_at_most well_made entries_in is_readable all_names write_only_names ready_count twin_of evict unknown_in check_rule
    judge_of duration_text text_of digits_of
rows_computed = refl

-- each row holds
each : (r : Example) (rs : List Example) → map answer_of rs ≡ map expected rs → Memᴰ r rs → answer_of r ≡ expected r
each r [] e m = elim m [ ]
each r (x ∷ xs) e (Memᴰ.head q) = rw q (cc)
each r (x ∷ xs) e (Memᴰ.tail m) = each r xs (cc) m

pub sheet : (r : Example) → Memᴰ r rows → answer_of r ≡ expected r
sheet r m = each r rows rows_computed m
