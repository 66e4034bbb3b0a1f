-- What a look for a name finds, what an empty slot of an index says, and one entry more in an index. Assumes nothing.
use mathlib.Core.Path.{◌≡◌, refl, sym, ◌∙◌}
use mathlib.Core.Bool.{◌||◌, true, false, false≢true, not-eq-not}
use mathlib.Core.List.{List}
use Prim.Native.Nat.{ℕ, ◌+◌, ◌≤◌, ◌<◌}
use native.Mathlib.Omega.{arith}
use lib.ListN.{length, get_or, take, set}
use Rattle.slices.proofs.Laws.WrittenLaws.{after_set}
use Rattle.store_table.specs.Names.{same_name, has}
use Rattle.store_table.proofs.Laws.SameLaws.{same_not}
use Rattle.store_table.proofs.Laws.NamesLaws.{has_next}
use Rattle.store_table.specs.Stores.{Entry, entries_in, all_names, count_in}
use Rattle.store_table.specs.Inner.Index.{hash_of, EntryAt, NameAt, Finds, Indexed, Blank, EntryWalk}
use Rattle.std.specs.Prelude.{None, Option, Some, is_some}
use Rattle.store_table.proofs.Laws.MemberLaws.{same_eq}
use Rattle.store_table.proofs.Laws.EntryLaws.{has_at}

-- ---- what a look finds
module _ {w : List ℕ} {es : List Entry} {first : ℕ} where
  pub finds_none : has w (all_names (take first es)) ≡ false → Finds w es first None
  finds_none h =
      record {
        missing = λ e. h;
        there = λ k e. absurd (cc);
      }

  pub finds_at : {k : ℕ} {x : Entry} → k < first → EntryAt es k x → same_name w x.name ≡ true → Finds w es first (Some k)
  finds_at {k} {x} lt e p =
      record {
        missing = λ z. absurd (cc);
        there = λ j z. let i : j ≡ k = cc in rw i (lt, (x, (e, p)));
      }

  -- it finds something exactly where one of the entries has the name
  pub finds_whether : (r : Option ℕ) → Finds w es first r → is_some r ≡ has w (all_names (take first es))
  finds_whether None h = sym (h.missing refl)
  finds_whether (Some k) h =
      let (lt, (x, (e, same))) = h.there k refl in
      sym (rw (same_eq w x.name same) (has_at es first k lt e))

-- ---- one entry more, whose name is known, has that name more
pub has_named : {s : List ℕ} {k start : ℕ} {name : List ℕ} → NameAt s k start name → (w : List ℕ) →
    has w (all_names (take (k + 1) (entries_in s))) ≡ (same_name w name || has w (all_names (take k (entries_in s))))
has_named {s} {k} h w = has_next (entries_in s) k h.here w ∙ rw h.named

-- ---- an index
pub indexed_start : (s starts slots : List ℕ) → Blank slots → Indexed s 0 starts slots
unfolding has all_names
indexed_start s starts slots b =
    record {
      begins = λ k lt. absurd (omega arith);
      kept = λ h. omega (arith, b h);
      filled = λ w p z. absurd (false≢true p);
    }

module _ {s starts slots : List ℕ} {k : ℕ} (h : Indexed s k starts slots) where
  -- a name whose slot is empty is none of those indexed
  pub slot_empty : (w : List ℕ) → get_or slots (hash_of w) 0 ≡ 0 → has w (all_names (take k (entries_in s))) ≡ false
  slot_empty w z = not-eq-not.0 (λ p. h.filled w p z)

  -- one entry more, x, whose name begins at `at`
  module _ {at hash : ℕ} {x : Entry} (st : EntryWalk s (count_in s) k at) (e : EntryAt (entries_in s) k x)
      (q : hash ≡ hash_of x.name) (room : k < length starts) (slot : hash < length slots) where
    pub indexed_next : Indexed s (k + 1) (set starts k at) (set slots hash (k + 1))
    indexed_next =
        record {
          begins = λ j lt. after_set (EntryWalk s (count_in s) j) starts k at j room (λ z. rw z st) (λ n. h.begins j (omega arith));
          kept = λ g. after_set (λ v. v ≤ k + 1) slots hash (k + 1) g slot (λ z. omega arith) (λ n. omega (arith, h.kept g));
          filled = λ w p. after_set (λ v. v ≡ 0 → ⊥) slots hash (k + 1) (hash_of w) slot (λ z o. omega arith) (λ n. h.filled w (among w n p));
        }
      where
        among : (w : List ℕ) → (hash_of w ≡ hash → ⊥) → has w (all_names (take (k + 1) (entries_in s))) ≡ true → has w (all_names (take k (entries_in s))) ≡ true
        among w n p =
            let d : same_name w x.name ≡ false = same_not hash_of (λ z. n (z ∙ sym q)) in
            rw (has_next (entries_in s) k e w, d) at p
