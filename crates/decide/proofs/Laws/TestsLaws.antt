-- What the tests of the stores say, and that deciding and checking refuse what they refuse. Assumes nothing.
use mathlib.Core.Path.{◌≡◌, refl, ap}
use mathlib.Core.Bool.{Bool, true, false, cond}
use mathlib.Core.List.{List, [], ◌∷◌}
use Prim.Native.Nat.{ℕ}
use Rattle.std.specs.Prelude.{Option, None, Some}
use Rattle.refusals.specs.declared.Refusal.{Refusal}
use Rattle.refusals.specs.Refusals.{refusal}
use Rattle.refusals.specs.declared.Cause.TheVariants.{BadStoreTable, TwinName}
use Rattle.store_table.specs.Stores.{is_table, entries_in, twin_of}
use Rattle.decide.specs.Tests.{first_refusal, table_test, twin_refusal, twin_test}
use Rattle.decide.specs.Inner.StoresTest.{stores_test}

-- the tests, by what they found
abbrev by_found : Bool → Option ℕ → Option Refusal
by_found b t = first_refusal Some (cond b None (Some (refusal BadStoreTable 0)) ∷ twin_refusal t ∷ []) None

-- of stores s
module _ (s : List ℕ) where
  -- none refuses
  module _ (passed : stores_test s ≡ None) where
    found : (b : Bool) (t : Option ℕ) → by_found b t ≡ None → (b ≡ true) × (t ≡ None)
    found true None e = (refl, refl)
    found true (Some i) e = absurd (cc)
    found false t e = absurd (cc)

    pub tested_table : is_table s ≡ true
    tested_table = (found (is_table s) (twin_of (entries_in s)) passed).0

    pub tested_twin : twin_of (entries_in s) ≡ None
    tested_twin = (found (is_table s) (twin_of (entries_in s)) passed).1

  -- one does, whatever tests come after
  pub tests_refuse : {A : Type 0} (refuse : Refusal → A) (tests : List (Option Refusal)) (answer : A) {f : Refusal} → stores_test s ≡ Some f →
      refuse f ≡ first_refusal refuse (table_test s ∷ twin_test s ∷ tests) answer
  tests_refuse {A} refuse tests answer {f} = go (is_table s) (twin_of (entries_in s))
    where
      go : (b : Bool) (t : Option ℕ) → by_found b t ≡ Some f →
          refuse f ≡ first_refusal refuse (cond b None (Some (refusal BadStoreTable 0)) ∷ twin_refusal t ∷ tests) answer
      go true None e = absurd (cc)
      go true (Some i) e = let q : f ≡ refusal TwinName i = cc in ap refuse q
      go false t e = let q : f ≡ refusal BadStoreTable 0 = cc in ap refuse q
