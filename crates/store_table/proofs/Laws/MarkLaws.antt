-- The marks of confirmed stores, one name more of the list at a time. Assumes nothing.
use mathlib.Core.Path.{◌≡◌, sym, ◌∙◌}
use mathlib.Core.Bool.{Bool, true, false, true≢false}
use mathlib.Core.List.{List}
use Prim.Native.Nat.{ℕ, ◌+◌, ◌<◌}
use native.Mathlib.Decide.{ℕ_discrete}
use native.Mathlib.Omega.{arith}
use lib.ListN.{length, get_or, take, set}
use lib.Seq.{get_or-set_same, get_or-set_other}
use Rattle.store_table.specs.Names.{same_name, has}
use Rattle.store_table.proofs.Laws.NamesLaws.{has_next}
use Rattle.store_table.proofs.Laws.SameLaws.{same_not}
use Rattle.store_table.proofs.Laws.MemberLaws.{same_eq, eq_same}
use Rattle.store_table.specs.Stores.{Entry, count_in, entries_in, all_names, twin_of}
use Rattle.store_table.specs.Inner.Bounds.{TableInBounds}
use Rattle.store_table.proofs.Laws.WalkLaws.{length_entries}
use Rattle.store_table.proofs.Laws.EntryLaws.{at_below, has_at, one_place}
use Rattle.store_table.specs.Inner.Index.{EntryAt, Unmarked, Marked}
use Rattle.std.specs.Prelude.{None}

-- what is known of a mark after one was set
after_mark : (P : Bool → Type 0) (marks : List Bool) (i j : ℕ) → i < length marks → (j ≡ i → P true) →
    ((j ≡ i → ⊥) → P (get_or marks j false)) → P (get_or (set marks i true) j false)
after_mark P marks i j lt here there = go (ℕ_discrete j i)
  where
    go : Dec (j ≡ i) → P (get_or (set marks i true) j false)
    go (yes e) = rw (e, get_or-set_same marks i true false lt) (here e)
    go (no n) = rw (get_or-set_other marks i j true false n) (there n)

pub marked_start : (es fs : List Entry) (marks : List Bool) → Unmarked marks → Marked es (all_names (take 0 fs)) marks
unfolding all_names has
marked_start es fs marks b k x e = rw (b k)

-- the list's entry j, y, is next
module _ (s : List ℕ) (fs : List Entry) (j : ℕ) (marks : List Bool) (h : Marked (entries_in s) (all_names (take j fs)) marks) {y : Entry} (f : EntryAt fs j y) where
  -- a store of another name keeps its mark
  other : (k : ℕ) (x : Entry) → EntryAt (entries_in s) k x → (x.name ≡ y.name → ⊥) → get_or marks k false ≡ has x.name (all_names (take (j + 1) fs))
  other k x e differs =
      let d : same_name x.name y.name ≡ false = same_not (λ w. w) differs in
      rw (has_next fs j f x.name, d) (h k x e)

  -- store i has y's name
  pub marked_found : twin_of (entries_in s) ≡ None → (i : ℕ) {z : Entry} → EntryAt (entries_in s) i z →
      same_name y.name z.name ≡ true → i < length marks → Marked (entries_in s) (all_names (take (j + 1) fs)) (set marks i true)
  marked_found t i {z} g p lt k x e =
      let q = same_eq y.name z.name p in
      after_mark (λ v. v ≡ has x.name (all_names (take (j + 1) fs))) marks i k lt
      (λ o. let u : x.name ≡ y.name = cc in rw (has_next fs j f x.name, eq_same u))
      (λ n. other k x e (λ u. n (one_place (entries_in s) t k i e g (u ∙ q))))

  -- no store has it
  pub marked_none : TableInBounds s → has y.name (all_names (take (count_in s) (entries_in s))) ≡ false →
      Marked (entries_in s) (all_names (take (j + 1) fs)) marks
  marked_none l p k x e =
      other k x e
      (λ u. true≢false (sym (rw u at (has_at (entries_in s) (count_in s) k (omega (arith, at_below (entries_in s) k e, length_entries s l)) e)) ∙ p))
