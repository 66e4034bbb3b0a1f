-- `primary_start::unquoted_start` meets its contract: by whether a bracket follows the word. Assumes nothing.
use Prim.Native.Nat.{ℕ}
use mathlib.Core.Path.{◌≡◌, ap, ◌∙◌}
use mathlib.Core.Bool.{Bool}
use mathlib.Core.List.{List}
use native.Mathlib.Omega.{arith}
use borrow.Author.Rules.{rules}
use Rattle.std.specs.Prelude.{Err}
use Rattle.slices.specs.Text.{bytes}
use Rattle.ascii.specs.Letters.{equal_ignoring_case}
use Rattle.grammar.specs.Grammar.{function_of, unquoted_leaf}
use Rattle.classes.specs.Class.{open_bracket}
use Rattle.grammar.proofs.Laws.SignTestLaws.{test_off, test_on, test_place}
use Rattle.grammar.proofs.Laws.StartLaws.{begins_name, begins_leaf, begins_refused, begins_within, told, too_deep_lem, not_deep}
use Rattle.primary_start.proofs.unquoted_start.Goals as goal

-- the test of a word without a bracket after it
abbrev is_readable : List ℕ → Bool
is_readable w = equal_ignoring_case w (bytes "readable")

pub returns-then-eq_ignore_ascii_case : goal.returns-then-eq_ignore_ascii_case
unfolding unquoted_leaf
returns-then-eq_ignore_ascii_case c =
    begins_leaf
    (rw (
      test_off _ _ open_bracket c.bracket_at.ensures (omega arith) (omega arith) c.in_default.is,
      told is_readable c.word_of-bytes.ensures c.eq_ignore_ascii_case.ensures c.if-eq_ignore_ascii_case.true,
    ))
    (omega arith)

pub returns-in_default : goal.returns-in_default
unfolding unquoted_leaf
returns-in_default c =
    rw c.name_of.ensures
    (begins_name
    (rw (
      test_off _ _ open_bracket c.bracket_at.ensures (omega arith) (omega arith) c.in_default.is,
      told is_readable c.word_of-bytes.ensures c.eq_ignore_ascii_case.ensures c.if-eq_ignore_ascii_case.false,
    ))
    (omega arith)
    (omega arith))

pub overflow_sub-inside : goal.overflow_sub-inside
overflow_sub-inside c =
    let inside = (test_on _ _ open_bracket c.bracket_at.ensures c.in-Some.is).bounds in
    omega arith

pub returns-in_err-allow_bracket : goal.returns-in_err-allow_bracket
returns-in_err-allow_bracket c =
    let deep = c.in_err-allow_bracket.ensures.deep in
    let e : c.from_residual.result ≡ Err c.in_err-allow_bracket.field-0.0 = search rules in
    begins_refused e deep.1
    (rw (
      (test_on _ _ open_bracket c.bracket_at.ensures c.in-Some.is).sign,
      too_deep_lem deep.0 (omega arith),
      test_place _ _ open_bracket c.bracket_at.ensures c.in-Some.is (omega arith),
    ))

pub call_start-requires : goal.call_start-requires
call_start-requires c =
    let inside = (test_on _ _ open_bracket c.bracket_at.ensures c.in-Some.is).bounds in
    omega arith

pub returns : goal.returns
returns c =
    let opening = test_on _ _ open_bracket c.bracket_at.ensures c.in-Some.is in
    let inside = opening.bounds in
    rw (opening.sign, not_deep c.in_ok-allow_bracket.ensures.room (omega arith), ← c.function_of.ensures ∙ ap function_of c.word_of-bytes.ensures)
    (begins_within c.call_start.ensures (omega arith) (omega arith) (omega arith))
