-- How long what is said of a verdict is at most. Assumes nothing.
use Rattle.std.specs.Prelude.{Ok, Err}
use mathlib.Core.Path.{◌≡◌, refl}
use mathlib.Core.Bool.{Bool, true, false, cond}
use mathlib.Core.List.{List, [], ◌∷◌}
use Prim.Native.Nat.{ℕ, zero, suc, ◌+◌, ◌*◌, ◌≤◌}
use native.Mathlib.Omega.{arith}
use borrow.Author.Tests.{ltb-true, ltb-false}
use lib.Dec.{eqb, ltb}
use lib.ListN.{length, take, drop, get_or, length-append, length-take, length-drop}
use Rattle.refusals.specs.Refusals.{number}
use Rattle.refusals.specs.declared.Cause.{Cause}
use Rattle.lines.proofs.Laws.CauseLaws.{word_short, meaning_short}
use Rattle.decimal.proofs.Laws.DigitsLaws.{digits_short}
use Rattle.lines.specs.Lines.{meaning_line}
use Rattle.lines.proofs.Laws.LinesLaws.{shown_length}
use Rattle.rules.specs.Rule.{Rule}
use Rattle.image.specs.Layout.{node_count_in}
use Rattle.image.specs.Encode.{encode}
use Rattle.image.specs.Decode.{node_at, cell_at, meaning}
use Rattle.grammar.specs.Reading.{Read, rule, refused, read_of}
use Rattle.grammar.proofs.Laws.FitsLaws.{read_decodes, read_length}
use Rattle.store_table.specs.Stores.{entries_from, entries_in, modes_in, lengths_in, name_bytes_in, sum, write_only, write_only_names}
use Rattle.store_table.specs.Inner.Bounds.{TableInBounds}
use Rattle.verdict.specs.Verdict.{Verdict}
use Rattle.image.proofs.Laws.InsideLaws.{Whole, decode_whole}
use Rattle.page_text.specs.Report.{verdict_line, node_names, node_name, confirmed_lines}
use Rattle.page_text.proofs.Laws.NodeNameLaws.{name_in, unnamed, name_at, past_last}

-- ---- the first line
pub verdict_short : (v : Verdict) → length (verdict_line v) ≤ 45
verdict_short (Ok u) = omega arith
verdict_short (Err f) = simp length-append (omega (arith, digits_short (number f.cause), digits_short f.place))

-- ---- a refusal's meaning
pub meaning_line_short : (c : Cause) → length (meaning_line c) ≤ 85
meaning_line_short c = simp length-append (omega (arith, word_short c, meaning_short c))

-- ---- a node's name, which lies in an image
meant_short : (s : List ℕ) (n k a : ℕ) → length (name_in (meaning s n k a)) ≤ length s
unfolding meaning
meant_short s n zero a = simp (length-take, length-drop) (omega arith)
meant_short s n (suc k) a = rw (unnamed s n (suc k) a (λ e. omega arith)) (omega arith)

named_short : (s : List ℕ) (n : ℕ) (r : Rule) (i : ℕ) → Whole s n r → length (get_or (node_names r) i []) ≤ length s
unfolding cell_at
named_short s n r i w = go (ltb i n) refl
  where
    go : (b : Bool) → ltb i n ≡ b → length (get_or (node_names r) i []) ≤ length s
    go true h = let d = node_at s n i in rw (name_at s w i (ltb-true i n h)) (meant_short s n d.kind d.arg)
    go false h = rw (past_last s w i (ltb-false i n h)) (omega arith)

pub name_short : (text : List ℕ) (i : ℕ) → length (node_name (read_of text) i) ≤ 26_628
name_short text i = go (read_of text) refl
  where
    go : (x : Read) → read_of text ≡ x → length (node_name x i) ≤ 26_628
    go (rule r) q =
        let w = decode_whole (encode r) refl (read_decodes text r q) in
        omega (arith, named_short (encode r) (node_count_in (encode r)) r i w, read_length text r q)
    go (refused f) q = omega arith

-- ---- the names of the write-only stores, with twelve bytes about each
lines_from : (ms ls bs : List ℕ) → length (confirmed_lines (write_only_names (entries_from ms ls bs))) ≤ 12 * length ms + sum ls
unfolding entries_from write_only_names confirmed_lines sum
lines_from [] ls bs = omega arith
lines_from (m ∷ ms) [] bs = omega arith
lines_from (m ∷ ms) (l ∷ ls) bs = go (eqb m write_only) (write_only_names (entries_from ms ls (drop l bs))) (lines_from ms ls (drop l bs))
  where
    go : (b : Bool) (ns : List (List ℕ)) → length (confirmed_lines ns) ≤ 12 * length ms + sum ls →
        length (confirmed_lines (cond b (take l bs ∷ ns) ns)) ≤ 12 * suc (length ms) + (l + sum ls)
    go true ns h = simp (length-append, shown_length, length-take) (omega arith)
    go false ns h = omega arith

pub lines_short : (s : List ℕ) → TableInBounds s → length (confirmed_lines (write_only_names (entries_in s))) ≤ length s + 768
unfolding entries_in
lines_short s h = omega (arith, simp length-take at (lines_from (modes_in s) (lengths_in s) (name_bytes_in s)))
