-- What looking a name up in a whole table finds: no entry has it, or an entry whose index is known. Assumes nothing.
use mathlib.Core.Path.{◌≡◌, refl}
use mathlib.Core.Bool.{true, false}
use mathlib.Core.List.Memᴰ
use mathlib.Core.List.{List, Memᴰ}
use Prim.Native.Nat.{ℕ, ◌<◌}
use Rattle.store_table.specs.Names.{has}
use Rattle.store_table.specs.Stores.{Entry, count_in, entries_in, all_names}
use Rattle.store_table.specs.Inner.Bounds.{TableInBounds}
use Rattle.store_table.proofs.Laws.MemberLaws.{same_eq, mem_has}
use Rattle.store_table.proofs.Laws.WalkLaws.{entries_all}
use Rattle.store_table.proofs.Laws.EntryLaws.{at_mem, entry_named}
use Rattle.store_table.specs.Inner.Index.{EntryAt, Finds}
use Rattle.std.specs.Prelude.{None, Option, Some}

-- a name w is that of the entry that was found
pub record FoundAt (s w : List ℕ) (k : ℕ) : Type 0 where
  pub entry : Entry
  pub here : Memᴰ entry (entries_in s)
  pub named : w ≡ entry.name
  pub below : k < count_in s
  pub at : EntryAt (entries_in s) k entry
  pub known : has w (all_names (entries_in s)) ≡ true

module _ (s : List ℕ) {w : List ℕ} {r : Option ℕ} (h : TableInBounds s) (finds : Finds w (entries_in s) (count_in s) r) where
  pub found_none : r ≡ None → has w (all_names (entries_in s)) ≡ false
  found_none e = rw (entries_all s (count_in s) h refl) at (finds.missing e)

  pub found_at : {k : ℕ} → r ≡ Some k → FoundAt s w k
  found_at {k} e =
      let (lt, (x, (at, same))) = finds.there k e in
      let m = at_mem (entries_in s) k at in
      let n : w ≡ x.name = same_eq w x.name same in
      record {
        entry = x;
        here = m;
        named = n;
        below = lt;
        at = at;
        known = mem_has (Memᴰ.cast n (entry_named x (entries_in s) m));
      }
