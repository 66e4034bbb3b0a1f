-- The tests that come before an answer, in document 01's order: the first that fails refuses. Assumes nothing.
use Rattle.std.specs.Prelude.{ℕ, cond, List, [], ◌∷◌, None, Option, Some}
use Rattle.refusals.specs.declared.Refusal.{Refusal}
use Rattle.refusals.specs.Refusals.{refusal}
use Rattle.refusals.specs.declared.Cause.TheVariants.{BadStoreTable, TwinName, BadConfirmedList}
use Rattle.store_table.specs.Stores.{is_table, is_list, entries_in, twin_of}

-- the first refusal of these tests, from left to right, or else the answer
abbrev pub first_refusal {ℓ} : {A : Type ℓ} → (Refusal → A) → List (Option Refusal) → A → A
first_refusal refuse [] answer = answer
first_refusal refuse (None ∷ tests) answer = first_refusal refuse tests answer
first_refusal refuse (Some f ∷ tests) answer = refuse f

-- 17, "bad store table"
abbrev pub table_test : List ℕ → Option Refusal
table_test stores = cond (is_table stores) None (Some (refusal BadStoreTable 0))

-- 18, "twin name", at the index of a twin
abbrev pub twin_refusal : Option ℕ → Option Refusal
twin_refusal None = None
twin_refusal (Some i) = Some (refusal TwinName i)

abbrev pub twin_test : List ℕ → Option Refusal
twin_test stores = twin_refusal (twin_of (entries_in stores))

-- 19, "bad confirmed list"
abbrev pub list_test : List ℕ → Option Refusal
list_test list = cond (is_list list) None (Some (refusal BadConfirmedList 0))
