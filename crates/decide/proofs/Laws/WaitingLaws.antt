-- Deciding on bytes never turns from evict to keep with a larger age, or with a list that has all the old names. Assumes nothing.
use mathlib.Core.Path.{◌≡◌, refl, ap, ◌∙◌}
use mathlib.Core.Bool.{Bool, true, false}
use mathlib.Core.List.{List}
use mathlib.Core.Option.{Option as Maybe, none, some}
use Prim.Native.Nat.{ℕ, ◌≤◌}
use Rattle.refusals.specs.declared.Refusal.{Refusal}
use Rattle.rules.specs.Rule.{Rule}
use Rattle.image.specs.Decode.{decode}
use Rattle.store_table.specs.Names.{has}
use Rattle.store_table.specs.Stores.{is_table, is_list, entries_in, twin_of}
use Rattle.std.specs.Prelude.{None, Option, Some, Err, Ok}
use Rattle.evaluate.specs.Evict.{env_of, evict}
use Rattle.evaluate.proofs.Laws.MonotoneLaws.{monotone}
use Rattle.decide.specs.Decide.{Answer, decision_of, list_names, decide_of}
use Rattle.decide.specs.declared.Decision.TheVariants.{Evict, Keep}
use Rattle.decide.proofs.Laws.DecideLaws.{decide_16, decide_17, decide_18, decide_19, decide_says}

-- what is kept or refused is not evicted
not_kept : {d : Answer} → d ≡ Ok Keep → d ≡ Ok Evict → ⊥
not_kept p q = cc

not_refused : {d : Answer} {f : Refusal} → d ≡ Err f → d ≡ Ok Evict → ⊥
not_refused p q = cc

-- an image i and stores s, decided on at age a with list l; and later, at age b with list m, which has the names of l
module _ (i s : List ℕ) {a b : ℕ} (l m : List ℕ) (older : a ≤ b)
    (onto : (w : List ℕ) → has w (list_names l) ≡ true → has w (list_names m) ≡ true) (listed : is_list m ≡ true) where
  abbrev Waits : Type 0
  Waits = decide_of i s a l ≡ Ok Evict → decide_of i s b m ≡ Ok Evict

  module _ {r : Rule} (image : decode i ≡ some r) where
    module _ (table : is_table s ≡ true) where
      module _ (no_twin : twin_of (entries_in s) ≡ None) where
        by_rule : is_list l ≡ true → (v : Bool) → evict r (env_of (entries_in s) a (list_names l)) ≡ v → Waits
        by_rule u true q h =
            decide_says i s b m image table no_twin listed
            ∙ ap decision_of (monotone r (entries_in s) (list_names l) (list_names m) older onto q)
        by_rule u false q h = absurd (not_kept (decide_says i s a l image table no_twin u ∙ ap decision_of q) h)

        by_list : (u : Bool) → is_list l ≡ u → Waits
        by_list true u = by_rule u (evict r (env_of (entries_in s) a (list_names l))) refl
        by_list false u = λ h. absurd (not_refused (decide_19 i s a l image table no_twin u) h)

      by_twin : (t : Option ℕ) → twin_of (entries_in s) ≡ t → Waits
      by_twin None t = by_list t (is_list l) refl
      by_twin (Some n) t = λ h. absurd (not_refused (decide_18 i s a l image table t) h)

    by_table : (t : Bool) → is_table s ≡ t → Waits
    by_table true t = by_twin t (twin_of (entries_in s)) refl
    by_table false t = λ h. absurd (not_refused (decide_17 i s a l image t) h)

  by_image : (o : Maybe Rule) → decode i ≡ o → Waits
  by_image (some r) e = by_table e (is_table s) refl
  by_image none e = λ h. absurd (not_refused (decide_16 i s a l e) h)

  -- a log that may go today may go tomorrow
  pub waiting : decide_of i s a l ≡ Ok Evict → decide_of i s b m ≡ Ok Evict
  waiting = by_image (decode i) refl
