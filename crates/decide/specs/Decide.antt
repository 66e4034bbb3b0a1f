-- "Decide takes image, stores, age, list, tests 16 to 19, and answers evict or keep." Assumes nothing.
use Rattle.std.specs.Prelude.{ℕ, Bool, true, false, List, [], ◌∷◌, Result, Ok, Err}
use Rattle.std.proofs.Math.Option.{Option, none, some}
use Rattle.refusals.specs.declared.Refusal.{Refusal}
use Rattle.refusals.specs.Refusals.{refusal}
use Rattle.refusals.specs.declared.Cause.TheVariants.{BadImage}
use Rattle.rules.specs.Rule.{Rule}
use Rattle.image.specs.Decode.{decode}
use Rattle.store_table.specs.Stores.{entries_in, all_names}
use Rattle.evaluate.specs.Evict.{env_of, evict}
use Rattle.decide.specs.Tests.{first_refusal, table_test, twin_test, list_test}
use Rattle.decide.specs.declared.Decision.{Decision}
use Rattle.decide.specs.declared.Decision.TheVariants.{Evict, Keep}

-- what deciding answers: a decision, or a refusal
abbrev pub Answer : Type 0
Answer = Result Decision Refusal

abbrev pub decision_of : Bool → Answer
decision_of true = Ok Evict
decision_of false = Ok Keep

-- the names that a list holds
abbrev pub list_names : List ℕ → List (List ℕ)
list_names l = all_names (entries_in l)

-- 16, then 17, 18 and 19, then what the rule says
abbrev pub decide_rule : Option Rule → List ℕ → ℕ → List ℕ → Answer
decide_rule none stores age list = Err (refusal BadImage 0)
decide_rule (some r) stores age list =
    first_refusal Err (table_test stores ∷ twin_test stores ∷ list_test list ∷ [])
    (decision_of (evict r (env_of (entries_in stores) age (list_names list))))

unfoldable pub decide_of : List ℕ → List ℕ → ℕ → List ℕ → Answer
decide_of image stores age list = decide_rule (decode image) stores age list
