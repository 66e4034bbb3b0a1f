-- What is known after k entries: how many are ready, and which names were seen. Assumes nothing.
use mathlib.Core.Path.{◌≡◌, refl}
use mathlib.Core.Bool.{Bool, true, false}
use mathlib.Core.List.{List, [], ◌∷◌}
use Prim.Native.Nat.{ℕ, ◌+◌, ◌≤◌}
use native.Mathlib.Numerals.{add-one}
use native.Mathlib.Omega.{arith}
use lib.ListN.{length, get_or, take, drop, drop_of_length-le}
use Rattle.store_table.specs.Names.{has}
use Rattle.store_table.specs.Stores.{Entry, is_readable, all_names, ready_count, twin_from, twin_of}
use Rattle.store_table.proofs.Laws.NamesLaws.{has_next}
use Rattle.store_table.specs.Inner.Index.{EntryAt, Marked}
use Rattle.std.specs.Prelude.{None, Some}

-- ---- the ready stores are counted by their marks: this many of the first k
pub record ReadySoFar (es : List Entry) (marks : List Bool) (k ready : ℕ) : Type 0 where
  pub few : ready ≤ k
  pub rest : (names : List (List ℕ)) → Marked es names marks → ready + ready_count (drop k es) names ≡ ready_count es names

pub ready_start : (es : List Entry) (marks : List Bool) → ReadySoFar es marks 0 0
ready_start es marks = record { few = omega arith; rest = λ names m. omega arith }

module _ {es : List Entry} {marks : List Bool} {k ready : ℕ} (h : ReadySoFar es marks k ready) where
  pub ready_end : length es ≤ k → (names : List (List ℕ)) → Marked es names marks → ready ≡ ready_count es names
  unfolding ready_count
  ready_end le names m =
      let z = rw (drop_of_length-le es le) at (h.rest names m) in
      omega arith

  module _ {x : Entry} (e : EntryAt es k x) {now : ℕ} where
    pub ready_skip : is_readable x.mode ≡ false → now ≡ ready → ReadySoFar es marks (k + 1) now
    unfolding ready_count
    ready_skip p z =
        record { few = omega (arith, h.few); rest = λ names m. let q = rw (e, p) at (h.rest names m) in omega arith }

    module _ (p : is_readable x.mode ≡ true) where
      pub ready_no : get_or marks k false ≡ false → now ≡ ready → ReadySoFar es marks (k + 1) now
      unfolding ready_count
      ready_no n z =
          record { few = omega (arith, h.few); rest = λ names m. let q = rw (e, p, ← m k x e, n) at (h.rest names m) in omega arith }

      pub ready_yes : get_or marks k false ≡ true → now ≡ ready + 1 → ReadySoFar es marks (k + 1) now
      unfolding ready_count
      ready_yes y z =
          record { few = omega (arith, h.few); rest = λ names m. let q = rw (e, p, ← m k x e, y) at (h.rest names m) in omega arith }

-- ---- a twin is looked for: the names seen are those of the first k, whatever their modes, in another order
pub record Seen (es : List Entry) (k : ℕ) : Type 0 where
  pub names : List (List ℕ)
  pub same : (w : List ℕ) → has w names ≡ has w (all_names (take k es))
  pub rest : twin_from names k (drop k es) ≡ twin_of es

pub seen_start : (es : List Entry) → Seen es 0
unfolding all_names twin_of
seen_start es = record { names = []; same = λ w. refl; rest = refl }

module _ {es : List Entry} {k : ℕ} (h : Seen es k) where
  pub seen_end : length es ≤ k → None ≡ twin_of es
  unfolding twin_from
  seen_end le = rw (drop_of_length-le es le) at h.rest

  module _ {x : Entry} (e : drop k es ≡ x ∷ drop (k + 1) es) where
    pub seen_yes : has x.name (all_names (take k es)) ≡ true → Some k ≡ twin_of es
    unfolding twin_from
    seen_yes p = rw (e, h.same x.name, p) at h.rest

    pub seen_no : has x.name (all_names (take k es)) ≡ false → Seen es (k + 1)
    unfolding twin_from has
    seen_no p =
        record {
          names = x.name ∷ h.names;
          same = λ w. rw (has_next es k e w, h.same w);
          rest = rw add-one (rw (e, h.same x.name, p, add-one) at h.rest);
        }
