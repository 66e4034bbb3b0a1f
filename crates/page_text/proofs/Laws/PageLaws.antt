-- Laws of the page: which of its cases applies, and the table that arguments make. Assumes nothing.
use mathlib.Core.Path.{◌≡◌}
use mathlib.Core.List.{List, [], ◌++◌}
use Prim.Native.Nat.{ℕ, ◌≤◌, ◌<◌}
use Rattle.std.specs.Prelude.{Ok, Err}
use native.Mathlib.Omega.{arith}
use borrow.Author.Tests.{lt-ltb, le-ltb}
use lib.ListN.{length, take}
use Rattle.slices.specs.Text.{bytes, AllBytes}
use Rattle.lines.specs.Lines.{line_end}
use Rattle.store_table.specs.Stores.{Entry, entries_in}
use Rattle.store_table.specs.Inner.Bounds.{TableInBounds}
use Rattle.store_table.specs.TableBytes.{table_of}
use Rattle.store_table.proofs.Laws.TableBytesLaws.{table_length, sum_few, table_of_lem, table_in_bounds}
use Rattle.verdict.specs.Verdict.{Verdict}
use Rattle.verdict.specs.Check.{judge_of}
use Rattle.page_text.specs.Report.{verdict_text}
use Rattle.store_args.specs.declared.Fault.{Fault}
use Rattle.store_args.specs.declared.Fault.TheVariants.{NoColon, NoMode, LongName, ForeignName}
use Rattle.store_args.specs.declared.WrongArgument.{WrongArgument}
use Rattle.store_args.specs.Arguments.{fault_text, arguments_in, stores_in}
use Rattle.store_args.proofs.Laws.ArgumentsLaws.{stores_fit, stores_many}
use Rattle.store_args.specs.Inner.Filling.{TableAt}
use Rattle.page_text.specs.Page.{argument_line, judged_text, report_of, page_of}

pub fault_short : (f : Fault) → length (fault_text f) ≤ 64
fault_short NoColon = omega arith
fault_short NoMode = omega arith
fault_short LongName = omega arith
fault_short ForeignName = omega arith

-- ---- the table that arguments make, at the front of a buffer
pub record Given (args buffer : List ℕ) (n : ℕ) : Type 0 where
  pub all : List Entry
  pub are : stores_in args ≡ Ok all
  pub within : n ≤ length buffer
  pub bytes : take n buffer ≡ table_of all
  pub back : entries_in (take n buffer) ≡ all
  pub in_bounds : TableInBounds (take n buffer)
  pub are_bytes : AllBytes (take n buffer)
  pub small : length (take n buffer) ≤ 16_452

pub given : {args buffer : List ℕ} {n : ℕ} → length (arguments_in args) ≤ 64 → TableAt (stores_in args) buffer n → Given args buffer n
given {args} {buffer} {n} few t =
    let es = t.es in
    let fit = stores_fit args es t.are in
    let most : length es ≤ 64 = omega (arith, stores_many args es t.are) in
    record {
      all = es;
      are = t.are;
      within = t.within;
      bytes = t.bytes;
      back = rw t.bytes (table_of_lem _ es (omega arith) most fit).2;
      in_bounds = rw t.bytes (table_in_bounds _ es (omega arith) most fit);
      are_bytes = rw t.bytes (table_of_lem _ es (omega arith) most fit).0;
      small = rw t.bytes (omega (arith, table_length es, sum_few es fit));
    }

-- ---- the cases
module _ (text args page : List ℕ) where
  pub page_short : length page < 32_768 → [] ≡ page_of text args page
  page_short h = rw (lt-ltb (length page) 32_768 h)

  module _ (room : 32_768 ≤ length page) where
    pub page_many : 64 < length (arguments_in args) → bytes "more than 64 stores are given" ++ line_end ≡ page_of text args page
    unfolding report_of
    page_many h = rw (le-ltb (length page) 32_768 room, lt-ltb 64 (length (arguments_in args)) h)

    module _ (few : length (arguments_in args) ≤ 64) where
      pub page_wrong : {w : WrongArgument} → stores_in args ≡ Err w → argument_line w ≡ page_of text args page
      unfolding report_of
      page_wrong e = rw (le-ltb (length page) 32_768 room, le-ltb 64 (length (arguments_in args)) few, e)

      pub page_judged : {buffer : List ℕ} {n : ℕ} {v : Verdict} → (g : Given args buffer n) → v ≡ judge_of text (take n buffer) →
          verdict_text text (entries_in (take n buffer)) v ≡ page_of text args page
      unfolding report_of judged_text
      page_judged g e = rw (le-ltb (length page) 32_768 room, le-ltb 64 (length (arguments_in args)) few, g.are, e, g.back, g.bytes)
