-- The tests of the stores alone, which deciding and checking share. Assumes nothing.
use Rattle.std.specs.Prelude.{ℕ, List, [], ◌∷◌, None, Option, Some}
use Rattle.refusals.specs.declared.Refusal.{Refusal}
use Rattle.decide.specs.Tests.{first_refusal, table_test, twin_test}

-- that they are a table, then that no name is there twice
abbrev pub stores_test : List ℕ → Option Refusal
stores_test stores = first_refusal Some (table_test stores ∷ twin_test stores ∷ []) None
