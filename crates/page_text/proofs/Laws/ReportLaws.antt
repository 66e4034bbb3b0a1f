-- Laws of the lines that name the write-only stores. Assumes nothing.
use mathlib.Core.Path.{◌≡◌, refl, ap}
use mathlib.Core.List.{List, [], ◌++◌, append-nil, append_assoc}
use Prim.Native.Nat.{ℕ, ◌+◌, ◌≤◌}
use native.Mathlib.Omega.{arith}
use borrow.Author.Tests.{ne_eqb}
use lib.ListN.{length, drop, length-append, drop_of_length-le}
use Rattle.slices.specs.Text.{WrittenAt}
use Rattle.slices.proofs.Laws.WrittenLaws.{written_at_none, written_at_after, written_at_length}
use Rattle.lines.proofs.Laws.LinesLaws.{shown_length}
use Rattle.store_table.specs.Stores.{Entry, write_only, count_in, entries_in, write_only_names}
use Rattle.store_table.specs.Inner.Bounds.{TableInBounds}
use Rattle.store_table.specs.Inner.Index.{EntryAt, NameAt}
use Rattle.store_table.proofs.Laws.WalkLaws.{length_entries}
use Rattle.page_text.specs.Report.{confirmed_line, confirmed_lines}
use Rattle.page_text.proofs.Laws.ShortLaws.{lines_short}

-- after k stores: the lines that are written, and those of the stores that are left
pub record Named (s a b : List ℕ) (at k end : ℕ) : Type 0 where
  pub done : List ℕ
  pub put : WrittenAt a b at end done
  pub rest : done ++ confirmed_lines (write_only_names (drop k (entries_in s))) ≡ confirmed_lines (write_only_names (entries_in s))

pub named_start : (s a : List ℕ) (at : ℕ) → Named s a a at 0 at
named_start s a at = record { done = []; put = written_at_none a at; rest = refl }

module _ {s a b : List ℕ} {at k end : ℕ} (h : Named s a b at k end) (t : TableInBounds s) (room : at + length s + 768 ≤ length a) where
  pub named_length : length b ≡ length a
  named_length = written_at_length (omega (arith, simp length-append at (ap length h.rest), lines_short s t)) h.put

  pub named_end : count_in s ≤ k → WrittenAt a b at end (confirmed_lines (write_only_names (entries_in s)))
  unfolding confirmed_lines write_only_names
  named_end le =
      let l : length (entries_in s) ≤ k = omega (arith, length_entries s t) in
      let e = rw (drop_of_length-le (entries_in s) l, append-nil) at h.rest in
      rw e at h.put

  -- one store more, of this name and this mode
  module _ {start : ℕ} {name : List ℕ} (n : NameAt s k start name) {mode : ℕ} (m : (x : Entry) → EntryAt (entries_in s) k x → mode ≡ x.mode) where
    pub named_no : (mode ≡ write_only → ⊥) → Named s a b at (k + 1) end
    unfolding write_only_names
    named_no other = record { done = h.done; put = h.put; rest = rw (n.here, ← m n.entry n.here, ne_eqb mode write_only other) at h.rest }

    -- that is write-only
    module _ (y : mode ≡ write_only) where
      rest_yes : h.done ++ (confirmed_line name ++ confirmed_lines (write_only_names (drop (k + 1) (entries_in s)))) ≡ confirmed_lines (write_only_names (entries_in s))
      unfolding write_only_names confirmed_lines
      rest_yes = rw (n.here, ← m n.entry n.here, y, n.named) at h.rest

      pub named_room : end + length name + 12 ≤ length b
      named_room = omega (arith, simp (length-append, shown_length) at (ap length rest_yes), lines_short s t, named_length)

      pub named_yes : {c : List ℕ} {now : ℕ} → WrittenAt b c end now (confirmed_line name) → Named s a c at (k + 1) now
      named_yes {c} {now} p =
          record {
            done = h.done ++ confirmed_line name;
            put = written_at_after (omega arith) h.put p;
            rest = rw append_assoc rest_yes;
          }
