-- Confirmed lists: the names on them, and that there are lists with nothing and with just the write-only stores. Assumes nothing.
use mathlib.Core.Path.{◌≡◌, sym}
use mathlib.Core.Bool.{true, false≢true}
use mathlib.Core.List.Memᴰ
use mathlib.Core.List.{List, [], Memᴰ}
use Prim.Native.Nat.{ℕ, ◌≤◌}
use native.Mathlib.Omega.{arith}
use lib.ListN.{length}
use Rattle.rules.specs.Rule.{Rule}
use Rattle.slices.specs.Text.{all_ascii}
use Rattle.store_table.specs.Names.{has}
use Rattle.store_table.specs.Stores.{entries_in, write_only_names}
use Rattle.store_table.proofs.Laws.StoresLaws.{well_made_in_bounds}
use Rattle.store_table.proofs.Laws.WalkLaws.{length_entries}
use Rattle.store_table.proofs.Laws.MemberLaws.{has_mem, mem_has}
use Rattle.store_table.proofs.Laws.EntryLaws.{entry_name, name_entry, entry_named, write_only_entry, entry_write_only, write_only_few}
use Rattle.store_table.specs.Inner.ListBytes.{list_of}
use Rattle.store_table.proofs.Laws.ListBytesLaws.{list_of_lem}
use Rattle.evaluate.specs.Evict.{env_of, evict}
use Rattle.decide.specs.Decide.{list_names}
use Rattle.evaluate.proofs.Laws.MonotoneLaws.{as_set, both_ways}
use Rattle.verdict.specs.Guarantee.{Table, Confirmed, Named, Nothing, WriteOnly, JustWriteOnly}

-- ---- which names a list has, and which are those of write-only stores
module _ {l : List ℕ} (c : Confirmed l) (w : List ℕ) where
  pub named_has : Named w l → has w (list_names l) ≡ true
  named_has (e, m, p) = mem_has (Memᴰ.cast (sym p) (entry_named e (entries_in l) m))

  pub has_named : has w (list_names l) ≡ true → Named w l
  has_named h = name_entry w (entries_in l) (has_mem w (list_names l) h)

module _ (s w : List ℕ) where
  pub write_only_mem : WriteOnly w s → Memᴰ w (write_only_names (entries_in s))
  write_only_mem (e, m, only, p) = Memᴰ.cast (sym p) (entry_write_only e (entries_in s) m only)

  pub mem_write_only : Memᴰ w (write_only_names (entries_in s)) → WriteOnly w s
  mem_write_only h = write_only_entry w (entries_in s) h

-- ---- of a list with nothing, and of one with just the write-only stores, only that counts
module _ (r : Rule) (s : List ℕ) (age : ℕ) (l : List ℕ) where
  pub nothing_same : Nothing l → evict r (env_of (entries_in s) age (list_names l)) ≡ evict r (env_of (entries_in s) age [])
  unfolding has
  nothing_same n = as_set r (entries_in s) age (list_names l) [] (λ w. both_ways (λ h. absurd (n.none w (has_named n.list w h))) (λ h. absurd (false≢true h)))

  pub write_only_same : JustWriteOnly s l → evict r (env_of (entries_in s) age (list_names l)) ≡ evict r (env_of (entries_in s) age (write_only_names (entries_in s)))
  write_only_same j = as_set r (entries_in s) age (list_names l) (write_only_names (entries_in s)) (λ w. both_ways
      (λ h. mem_has (write_only_mem s w ((j.just w).0 (has_named j.list w h))))
      (λ h. named_has j.list w ((j.just w).1 (mem_write_only s w (has_mem w (write_only_names (entries_in s)) h)))))

-- ---- there are such lists
pub nothing_is : (l : List ℕ) × Nothing l
nothing_is =
    let (b, m, e) = list_of_lem [] (omega arith) (λ w h. absurd (Memᴰ.not-nil h)) in
    let c : Confirmed (list_of []) = record { bytes = b; made = m } in
    (list_of [], record { list = c; none = λ w n. Memᴰ.not-nil (has_mem w [] (rw e at (named_has c w n))) })

pub write_only_is : (s : List ℕ) → Table s → (l : List ℕ) × JustWriteOnly s l
write_only_is s t =
    let es = entries_in s in
    let in_bounds = well_made_in_bounds _ s t.made in
    let (b, m, e) = list_of_lem (write_only_names es) (omega (arith, write_only_few es, length_entries s in_bounds, in_bounds.few))
    (λ w h. named_fit w (mem_write_only s w h)) in
    let c : Confirmed (list_of (write_only_names es)) = record { bytes = b; made = m } in (
      list_of (write_only_names es),
      record {
        list = c;
        just = λ w.
            (λ n. mem_write_only s w (has_mem w (write_only_names es) (rw e at (named_has c w n))), λ n. has_named c w (rw e (mem_has (write_only_mem s w n))));
      },
    )
  where
    named_fit : (w : List ℕ) → WriteOnly w s → (length w ≤ 255) × (all_ascii w ≡ true)
    named_fit w (e, m, only, p) = rw p at (entry_name _ s t.bytes t.made e m)
