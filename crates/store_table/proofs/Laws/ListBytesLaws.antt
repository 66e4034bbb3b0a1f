-- The bytes of a confirmed list that holds given names are a confirmed list, and its names are those. Assumes nothing.
use mathlib.Core.Path.{◌≡◌, refl}
use mathlib.Core.Bool.{true}
use mathlib.Core.List.Memᴰ
use mathlib.Core.List.{List, [], ◌∷◌, Memᴰ}
use Prim.Native.Nat.{ℕ, ◌≤◌}
use native.Mathlib.Omega.{arith}
use lib.ListN.{length, length-map}
use Rattle.slices.specs.Text.{all_ascii, AllBytes}
use Rattle.store_table.specs.Stores.{entries_in, is_list, read_write, all_names}
use Rattle.store_table.proofs.Laws.TableBytesLaws.{AllFit, table_of_lem}
use Rattle.store_table.specs.Inner.ListBytes.{plain, list_of}

-- the names of such entries
names_back : (ns : List (List ℕ)) → all_names (plain ns) ≡ ns
unfolding plain all_names
names_back [] = refl
names_back (w ∷ ns) = rw (names_back ns)

pub list_of_lem : (ns : List (List ℕ)) → length ns ≤ 64 → ((w : List ℕ) → Memᴰ w ns → (length w ≤ 255) × (all_ascii w ≡ true)) →
    AllBytes (list_of ns) × (is_list (list_of ns) ≡ true) × (all_names (entries_in (list_of ns)) ≡ ns)
unfolding list_of plain
list_of_lem ns few fit =
    let (b, m, e) = table_of_lem read_write (plain ns) (omega arith) (rw length-map few) fits in
    (b, m, rw e (names_back ns))
  where
    fits : AllFit read_write (plain ns)
    fits e m =
        let (w, k, p) = Memᴰ.of_map _ ns m in
        rw (← p) (record { mode = omega arith; short = (fit w k).0; ascii = (fit w k).1 })
