-- 18 is not the answer exactly if no two entries share a name. Assumes nothing.
use mathlib.Core.Path.{◌≡◌, refl, sym}
use mathlib.Core.Bool.{Bool, true, false, cond, ◌||◌}
use mathlib.Core.List.{List, [], ◌∷◌}
use mathlib.Core.Logic.{◌↔◌}
use mathlib.Core.Option.{some, none-ne-some}
use Prim.Native.Nat.{ℕ, zero, suc}
use native.Mathlib.Omega.{arith}
use lib.ListN.{drop, get_elem?}
use Rattle.store_table.specs.Names.{same_name, has}
use Rattle.store_table.specs.Stores.{Entry, twin_from, twin_of, Distinct}
use Rattle.store_table.proofs.Laws.MemberLaws.{same_eq}
use Rattle.store_table.proofs.Laws.EntryLaws.{one_place}
use Rattle.std.specs.Prelude.{None, Option, Some}

-- an entry at an index is the first of those from there on
dropped : (es : List Entry) (i : ℕ) {d : Entry} → get_elem? es i ≡ some d → (xs : List Entry) × (drop i es ≡ d ∷ xs)
dropped [] i e = absurd (none-ne-some _ e)
dropped (x ∷ es) zero e = (es, cc)
dropped (x ∷ es) (suc i) e = dropped es i e

-- no entry's name is one of these
abbrev Unseen : List (List ℕ) → List Entry → Type 0
Unseen seen es = (i : ℕ) (d : Entry) → get_elem? es i ≡ some d → has d.name seen ≡ true → ⊥

module _ (x : Entry) (es : List Entry) (distinct : Distinct (x ∷ es)) where
  distinct_rest : Distinct es
  distinct_rest i j d e lt = distinct (suc i) (suc j) d e (omega arith)

  unseen_rest : (seen : List (List ℕ)) → Unseen seen (x ∷ es) → Unseen (x.name ∷ seen) es
  unfolding has
  unseen_rest seen unseen i d e on = go (same_name d.name x.name) refl on
    where
      go : (b : Bool) → same_name d.name x.name ≡ b → (b || has d.name seen) ≡ true → ⊥
      go true s h = distinct 0 (suc i) x d (omega arith) refl e (sym (same_eq d.name x.name s))
      go false s h = unseen (suc i) d e h

no_twins : (seen : List (List ℕ)) (k : ℕ) (es : List Entry) → Distinct es → Unseen seen es → twin_from seen k es ≡ None
unfolding twin_from has
no_twins seen k [] distinct unseen = refl
no_twins seen k (x ∷ es) distinct unseen =
    go (has x.name seen) refl (no_twins (x.name ∷ seen) (suc k) es (distinct_rest x es distinct) (unseen_rest x es distinct seen unseen))
  where
    go : (b : Bool) → has x.name seen ≡ b → {t : Option ℕ} → t ≡ None → cond b (Some k) t ≡ None
    go true h e = absurd (unseen 0 x refl h)
    go false h e = e

pub no_twin_distinct : (es : List Entry) → (twin_of es ≡ None) ↔ Distinct es
unfolding twin_of has
no_twin_distinct es = (to, λ distinct. no_twins [] 0 es distinct (λ i d e h. let z : ◌≡◌ {A = ℕ} 0 1 = cc in omega arith))
  where
    to : twin_of es ≡ None → Distinct es
    to t i j d e lt p q n =
        let (xs, f) = dropped es i p in
        let (ys, g) = dropped es j q in
        omega (arith, one_place es t i j f g n)
