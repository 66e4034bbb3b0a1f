-- The guarantee speaks of something: the sheet's table of two stores is one that it is given for, and the rule that is set where
-- nothing else is said is safe for it. Assumes nothing.
use Prim.Native.Nat.{ℕ, zero, suc}
use mathlib.Core.Path.{◌≡◌, refl}
use mathlib.Core.Bool.{true, and-eq-true_iff}
use mathlib.Core.List.{List, [], ◌∷◌}
use native.Mathlib.Omega.{arith}
use borrow.Author.Tests.{leb-true}
use lib.Dec.{leb}
use Rattle.slices.specs.Text.{bytes, AllBytes, part, run, run_end, all_ascii, other}
use Rattle.ascii.specs.Letters.{lower, equal_by}
use Rattle.classes.specs.Class.{class_of, of_class}
use Rattle.tokens.specs.Token.{ascii, place_of, doubled, quoted_to, quoted_at, unquoted_to, unquoted_at, token_of, start_at, token_at, next_of, tokens_by, tokens_from, scan_of}
use Rattle.decimal.specs.Count.{count_of}
use Rattle.durations.specs.Duration.{duration_of}
use Rattle.little_endian.specs.Bytes.{le_at}
use Rattle.rules.specs.Rule.{Rule, size}
use Rattle.grammar.specs.Grammar.{after, first_place, expected_word, older_than_start, readable_start, at_least_start, function_of, unquoted_leaf, primary_start, left_rules, chain, or_in}
use Rattle.grammar.specs.Reading.{rule, parse_of, read_of}
use Rattle.store_table.specs.Names.{has}
use Rattle.store_table.specs.Stores.{sum, all_at_most, well_made, count_in, entries_in, is_readable, all_names, write_only_names, ready_count, twin_of}
use Rattle.std.specs.Prelude.{None, Ok}
use Rattle.store_table.proofs.Laws.DistinctLaws.{no_twin_distinct}
use Rattle.evaluate.specs.Evict.{evict}
use Rattle.verdict.specs.Check.{unknown_in, check_rule, judge_of}
use Rattle.verdict.specs.Guarantee.{Table, Known, Safe}
use Rattle.verdict.proofs.Laws.GuaranteeLaws.{judged}
use Rattle.sheet.proofs.Laws.Sheet.{home}

bytes_of : (s : List ℕ) → all_at_most 255 s ≡ true → AllBytes s
unfolding all_at_most
bytes_of [] e i = omega arith
bytes_of (b ∷ s) e zero = omega (arith, leb-true b 255 ((and-eq-true_iff (leb b 255) (all_at_most 255 s)).0 e).0)
bytes_of (b ∷ s) e (suc i) = bytes_of s ((and-eq-true_iff (leb b 255) (all_at_most 255 s)).0 e).1 i

home_bytes : AllBytes home
unfolding all_at_most
home_bytes = bytes_of home refl

no_twin : twin_of (entries_in home) ≡ None
unfolding twin_of entries_in le_at has
no_twin = refl

pub home_table : Table home
unfolding well_made twin_of entries_in count_in le_at sum all_at_most all_ascii has
home_table = record { bytes = home_bytes; made = refl; stored = omega arith; distinct = (no_twin_distinct (entries_in home)).0 no_twin }

abbrev pub text : List ℕ
text = bytes "older_than(30d) && readable(1)"

passes : judge_of text home ≡ Ok tt
unfolding run run_end part lower equal_by class_of of_class other doubled quoted_to quoted_at unquoted_to unquoted_at token_of start_at
    token_at next_of tokens_by tokens_from scan_of count_of duration_of ascii place_of size after first_place expected_word older_than_start
    readable_start at_least_start function_of unquoted_leaf primary_start left_rules chain or_in parse_of read_of le_at all_ascii has sum
    all_at_most well_made entries_in is_readable all_names write_only_names ready_count twin_of evict unknown_in check_rule judge_of
passes = refl

-- the text reads as a rule that names only stores of the table, and is safe for it
pub safe : (r : Rule) × (read_of text ≡ rule r) × Known r home × Safe r home
safe = ((judged text home).guarantee home_table).passes.0 passes
