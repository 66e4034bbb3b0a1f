-- What checking answers, by what each test found, and that what reading writes can be checked. Assumes nothing.
use Prim.Native.Nat.{ℕ, ◌≤◌}
use mathlib.Core.Path.{◌≡◌, refl, sym, ap, ◌∙◌}
use mathlib.Core.Bool.{Bool, true, false, ◌&&◌}
use mathlib.Core.List.{List, [], ◌∷◌, ◌++◌}
use native.Mathlib.Omega.{arith}
use borrow.Author.Tests.{le-leb}
use lib.Dec.{leb}
use lib.ListN.{length, take, drop, length-append}
use lib.Seq.{take-append_seam}
use Rattle.refusals.specs.declared.Refusal.{Refusal}
use Rattle.refusals.specs.Refusals.{refusal}
use Rattle.refusals.specs.declared.Cause.TheVariants.{BadImage, BadStoreTable, TwinName, UnknownStore, Unconfirmed, ArchiveOnly}
use Rattle.rules.specs.Rule.{Rule, size}
use Rattle.image.specs.Layout.{node_count_in}
use Rattle.image.specs.Encode.{encode}
use Rattle.image.specs.Decode.{cell_at, decode}
use Rattle.image.specs.Inner.Valid.{is_some}
use Rattle.image.proofs.Laws.FitLaws.{is_some_true, is_some_false}
use Rattle.image.specs.Inner.EncodedAt.{EncodedAt}
use Rattle.grammar.specs.Reading.{Read, rule, refused, read_of}
use Rattle.grammar.proofs.Laws.FitsLaws.{read_decodes}
use Rattle.read.specs.Outcome.{ReadOutcome, outcome, reading_of}
use Rattle.store_table.specs.Stores.{Entry, is_table, count_in, entries_in, write_only_names, twin_of}
use Rattle.store_table.proofs.Laws.StoresLaws.{well_made_in_bounds}
use Rattle.store_table.proofs.Laws.WalkLaws.{length_entries}
use Rattle.std.specs.Prelude.{None, Option, Some, Result, Err, Ok}
use Rattle.evaluate.specs.Evict.{env_of, evict}
use Rattle.decide.specs.Inner.StoresTest.{stores_test}
use Rattle.decide.proofs.Laws.TestsLaws.{tests_refuse}
use Rattle.image.proofs.Laws.InsideLaws.{decode_whole}
use Rattle.verdict.specs.Check.{oldest, evicts_unconfirmed, evicts_on_archive, verdict, unknown_in, check_stores, check_rule, check_of}
use Rattle.verdict.specs.Verdict.{Verdict}
use Rattle.verdict.specs.Inner.Grades.{WithStores}

-- where 21 is not the answer, 22 is tested without a look at whether there are write-only stores
pub archived_by : (r : Rule) (es : List Entry) → evicts_unconfirmed r es ≡ false → evicts_on_archive r es ≡ evict r (env_of es oldest (write_only_names es))
archived_by r es e = go (write_only_names es)
  where
    go : (ns : List (List ℕ)) → (leb 1 (length ns) && evict r (env_of es oldest ns)) ≡ evict r (env_of es oldest ns)
    go [] = sym e
    go (n ∷ ns) = rw (le-leb 1 (length (n ∷ ns)) (omega arith))

-- ---- checking a rule against the bytes of a table

-- of a rule r and bytes s: 17, 18, no stores
module _ (r : Rule) (s : List ℕ) where
  pub refused_17 : is_table s ≡ false → Err (refusal BadStoreTable 0) ≡ check_rule r s
  unfolding check_rule
  refused_17 e = rw e

  pub refused_18 : {i : ℕ} → is_table s ≡ true → twin_of (entries_in s) ≡ Some i → Err (refusal TwinName i) ≡ check_rule r s
  unfolding check_rule
  refused_18 table e = rw (table, e)

  pub refused_stores : {f : Refusal} → stores_test s ≡ Some f → Err f ≡ check_rule r s
  unfolding check_rule
  refused_stores e = tests_refuse s Err [] (check_stores r (entries_in s)) e

  by_stores : is_table s ≡ true → twin_of (entries_in s) ≡ None → check_stores r (entries_in s) ≡ check_rule r s
  unfolding check_rule
  by_stores table no_twin = rw (table, no_twin)

  pub passed_none : is_table s ≡ true → twin_of (entries_in s) ≡ None → count_in s ≡ 0 → Ok tt ≡ check_rule r s
  passed_none table no_twin e = go (entries_in s) (length_entries s (well_made_in_bounds _ s table)) ∙ by_stores table no_twin
    where
      go : (es : List Entry) → length es ≡ count_in s → Ok tt ≡ check_stores r es
      go [] q = refl
      go (x ∷ es) q = absurd (omega arith)

  -- 20: there are stores, and u is what a look for unknown names found
  module _ (h : WithStores s) {u : Option ℕ} (found : u ≡ unknown_in (entries_in s) r 0) where
    pub by_tests : verdict u (evicts_unconfirmed r (entries_in s)) (evicts_on_archive r (entries_in s)) ≡ check_rule r s
    by_tests = rw found (go (entries_in s) (length_entries s (well_made_in_bounds _ s h.table))) ∙ by_stores h.table h.no_twin
      where
        go : (es : List Entry) → length es ≡ count_in s → verdict (unknown_in es r 0) (evicts_unconfirmed r es) (evicts_on_archive r es) ≡ check_stores r es
        go [] q = absurd (h.stored (sym q))
        go (x ∷ es) q = refl

    pub refused_20 : {i : ℕ} → u ≡ Some i → Err (refusal UnknownStore i) ≡ check_rule r s
    refused_20 e = rw e at by_tests

    -- 21: there is none, and b is what the rule says with nothing confirmed
    module _ (known : u ≡ None) {b : Bool} (says : b ≡ evicts_unconfirmed r (entries_in s)) where
      pub refused_21 : b ≡ true → Err (refusal Unconfirmed 0) ≡ check_rule r s
      refused_21 e = rw (known, ← says, e) at by_tests

      -- 22 or a pass: b is keep, and a is what the rule says with the write-only stores confirmed
      module _ (keeps : b ≡ false) {a : Bool} (also : a ≡ evict r (env_of (entries_in s) oldest (write_only_names (entries_in s)))) where
        by_archived : verdict None false a ≡ check_rule r s
        by_archived = rw (known, archived_by r (entries_in s) (sym says ∙ keeps), ← says, keeps, ← also) at by_tests

        pub refused_22 : a ≡ true → Err (refusal ArchiveOnly 0) ≡ check_rule r s
        refused_22 e = rw e at by_archived

        pub passed : a ≡ false → Ok tt ≡ check_rule r s
        passed e = rw e at by_archived

-- ---- checking an image i
module _ (i : List ℕ) where
  pub refused_16 : (s : List ℕ) → is_some (decode i) ≡ false → Err (refusal BadImage 0) ≡ check_of i s
  unfolding check_of
  refused_16 s e = rw (is_some_false (decode i) e)

  -- n is what its first two bytes say
  module _ {n : ℕ} (image : is_some (decode i) ≡ true) (p : n ≡ node_count_in i) where
    -- v is the verdict on whatever rule has all n nodes
    pub checks_image : {v : Verdict} (s : List ℕ) → ((r : Rule) → size r ≡ n → EncodedAt r (cell_at i n) 0 → v ≡ check_rule r s) → v ≡ check_of i s
    unfolding check_of
    checks_image s h =
        let (r, e) = is_some_true (decode i) image in
        let w = decode_whole i p e in
        rw e (h r w.sized w.stands)

-- ---- what reading writes into a buffer is an image, and lies within the buffer
pub written_image : (text buffer : List ℕ) {a : Result ℕ Refusal} {n : ℕ} {image : List ℕ} →
    outcome a image ≡ reading_of (read_of text) buffer → a ≡ Ok n → (n ≤ length image) × (is_some (decode (take n image)) ≡ true)
written_image text buffer {a} {n} {image} e is = go (read_of text) refl e
  where
    go : (x : Read) → read_of text ≡ x → outcome a image ≡ reading_of x buffer → (n ≤ length image) × (is_some (decode (take n image)) ≡ true)
    go (rule r) q o =
        let long : n ≡ length (encode r) = cc (ap (λ (x : ReadOutcome). x.answer) o) in
        let left : image ≡ encode r ++ drop (length (encode r)) buffer = ap (λ (x : ReadOutcome). x.image) o in
        (rw left (simp length-append (omega arith)), rw (long, left, take-append_seam, read_decodes text r q))
    go (refused f) q o = absurd (cc (ap (λ (x : ReadOutcome). x.answer) o))
