-- What deciding answers, by whether the bytes are an image, and by what evaluating the image's rule says. Assumes nothing.
use mathlib.Core.Path.{◌≡◌, sym, ap, ◌∙◌}
use mathlib.Core.Bool.{Bool, true, false}
use mathlib.Core.List.{List, [], ◌∷◌}
use Prim.Native.Nat.{ℕ}
use Rattle.refusals.specs.declared.Refusal.{Refusal}
use Rattle.refusals.specs.Refusals.{refusal}
use Rattle.refusals.specs.declared.Cause.TheVariants.{BadImage, BadConfirmedList}
use Rattle.decide.specs.Tests.{list_test}
use Rattle.decide.specs.Inner.StoresTest.{stores_test}
use Rattle.decide.proofs.Laws.TestsLaws.{tests_refuse}
use Rattle.rules.specs.Rule.{Rule, size}
use Rattle.image.specs.Layout.{node_count_in}
use Rattle.image.specs.Decode.{cell_at, decode}
use Rattle.image.specs.Inner.Valid.{is_some}
use Rattle.image.proofs.Laws.FitLaws.{is_some_true, is_some_false}
use Rattle.store_table.specs.Stores.{is_table, is_list, entries_in, twin_of, ready_count}
use Rattle.std.specs.Prelude.{None, Option, Some, Result, Err}
use Rattle.std.specs.Option.{ok_or}
use Rattle.image.specs.Inner.EncodedAt.{EncodedAt}
use Rattle.evaluate.specs.Evict.{env_of, evict}
use Rattle.evaluate.specs.Inner.Known.{env_in}
use Rattle.decide.specs.Decide.{decision_of, list_names, decide_of}
use Rattle.decide.proofs.Laws.DecideLaws.{decide_rule_lem, decide_16, decide_19, decide_says}
use Rattle.image.proofs.Laws.InsideLaws.{decode_whole}

-- what `ok_or` refuses, where there is none, is the refusal that it is given
pub refused_none : {A B : Type 0} {o : Option A} {e f g : Refusal} → ◌≡◌ {A = Result A Refusal} (Err e) (ok_or o f) → o ≡ None → f ≡ g →
    ◌≡◌ {A = Result B Refusal} (Err e) (Err g)
refused_none {e = e} {f = f} v none p = let q : e ≡ f = cc (rw none at v) in rw (q, p)

-- of bytes i, s and l, and an age a
module _ (i s : List ℕ) (a : ℕ) (l : List ℕ) where
  pub refused_16 : is_some (decode i) ≡ false → Err (refusal BadImage 0) ≡ decide_of i s a l
  refused_16 e = sym (decide_16 i s a l (is_some_false (decode i) e))

  -- the bytes are an image
  module _ (image : is_some (decode i) ≡ true) where
    pub refused_stores : {f : Refusal} → stores_test s ≡ Some f → Err f ≡ decide_of i s a l
    refused_stores e =
        let (r, p) = is_some_true (decode i) image in
        tests_refuse s Err (list_test l ∷ []) (decision_of (evict r (env_of (entries_in s) a (list_names l)))) e
        ∙ sym (decide_rule_lem i s a l p)

    -- the stores are a table
    module _ (table : is_table s ≡ true) where
      -- of which no two share a name
      module _ (no_twin : twin_of (entries_in s) ≡ None) where
        pub refused_19 : is_list l ≡ false → Err (refusal BadConfirmedList 0) ≡ decide_of i s a l
        refused_19 e = let (r, p) = is_some_true (decode i) image in sym (decide_19 i s a l p table no_twin e)

        -- b is the answer of whatever rule has all n nodes
        pub answered : {n ready : ℕ} → is_list l ≡ true → n ≡ node_count_in i → ready ≡ ready_count (entries_in s) (list_names l) → (b : Bool) →
            ((r : Rule) → size r ≡ n → EncodedAt r (cell_at i n) 0 → b ≡ evict r (env_in l a ready)) → decision_of b ≡ decide_of i s a l
        answered is p c b says =
            let (r, e) = is_some_true (decode i) image in
            let w = decode_whole i p e in
            let q = rw c at (says r w.sized w.stands) in
            ap decision_of q ∙ sym (decide_says i s a l e table no_twin is)
