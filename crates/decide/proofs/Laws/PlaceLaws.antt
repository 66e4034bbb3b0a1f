-- A refusal of deciding has the place of a store, or 0. Assumes nothing.
use mathlib.Core.Path.{◌≡◌, refl, sym, ◌∙◌}
use mathlib.Core.Bool.{Bool, true, false}
use mathlib.Core.List.{List}
use mathlib.Core.Option.{Option as Maybe, none, some}
use Prim.Native.Nat.{ℕ, ◌<◌}
use native.Mathlib.Omega.{arith}
use Rattle.refusals.specs.declared.Refusal.{Refusal}
use Rattle.rules.specs.Rule.{Rule}
use Rattle.image.specs.Decode.{decode}
use Rattle.store_table.specs.Stores.{is_table, is_list, entries_in, twin_of}
use Rattle.store_table.proofs.Laws.TwinLaws.{twin_index}
use Rattle.std.specs.Prelude.{None, Option, Some, Err}
use Rattle.evaluate.specs.Evict.{env_of, evict}
use Rattle.decide.specs.Decide.{decision_of, list_names, decide_of}
use Rattle.decide.proofs.Laws.DecideLaws.{decide_16, decide_17, decide_18, decide_19, decide_says}

module _ (i s : List ℕ) (a : ℕ) (l : List ℕ) (f : Refusal) (due : decide_of i s a l ≡ Err f) where
  -- it is this refusal
  by : {g : Refusal} → decide_of i s a l ≡ Err g → g.place < 64 → f.place < 64
  by {g} e h = let q : g ≡ f = cc in rw (← q) h

  never : (b : Bool) → decision_of b ≡ Err f → ⊥
  never true e = cc
  never false e = cc

  module _ {r : Rule} (image : decode i ≡ some r) where
    by_list : is_table s ≡ true → twin_of (entries_in s) ≡ None → (b : Bool) → is_list l ≡ b → f.place < 64
    by_list table distinct true e = absurd (never (evict r (env_of (entries_in s) a (list_names l))) (sym (decide_says i s a l image table distinct e) ∙ due))
    by_list table distinct false e = by (decide_19 i s a l image table distinct e) (omega arith)

    by_twin : is_table s ≡ true → (t : Option ℕ) → twin_of (entries_in s) ≡ t → f.place < 64
    by_twin table None e = by_list table e (is_list l) refl
    by_twin table (Some n) e = by (decide_18 i s a l image table e) (twin_index s n table e)

    by_table : (b : Bool) → is_table s ≡ b → f.place < 64
    by_table true e = by_twin e (twin_of (entries_in s)) refl
    by_table false e = by (decide_17 i s a l image e) (omega arith)

  by_image : (o : Maybe Rule) → decode i ≡ o → f.place < 64
  by_image none e = by (decide_16 i s a l e) (omega arith)
  by_image (some r) e = by_table e (is_table s) refl

  pub decide_place : f.place < 64
  decide_place = by_image (decode i) refl
