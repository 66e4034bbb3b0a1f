-- What deciding answers in each case. Assumes nothing.
use mathlib.Core.Path.{◌≡◌, refl}
use mathlib.Core.Bool.{true, false}
use mathlib.Core.List.{List}
use mathlib.Core.Option.{none, some}
use Prim.Native.Nat.{ℕ}
use Rattle.refusals.specs.Refusals.{refusal}
use Rattle.refusals.specs.declared.Cause.TheVariants.{BadImage, BadStoreTable, TwinName, BadConfirmedList}
use Rattle.rules.specs.Rule.{Rule}
use Rattle.image.specs.Encode.{encode, Fits}
use Rattle.image.specs.Decode.{decode}
use Rattle.image.proofs.Laws.ImageLaws.{encode_bytes, decode_encode}
use Rattle.store_table.specs.Stores.{is_table, is_list, entries_in, twin_of}
use Rattle.std.specs.Prelude.{None, Some, Err}
use Rattle.evaluate.specs.Evict.{env_of, evict}
use Rattle.decide.specs.Decide.{decision_of, list_names, decide_rule, decide_of}

-- of bytes i, s and l, and an age a
module _ (i s : List ℕ) (a : ℕ) (l : List ℕ) where
  pub decide_16 : decode i ≡ none → decide_of i s a l ≡ Err (refusal BadImage 0)
  unfolding decide_of
  decide_16 e = rw e

  -- the image is a rule's
  module _ {r : Rule} (image : decode i ≡ some r) where
    pub decide_rule_lem : decide_of i s a l ≡ decide_rule (some r) s a l
    unfolding decide_of
    decide_rule_lem = rw image

    pub decide_17 : is_table s ≡ false → decide_of i s a l ≡ Err (refusal BadStoreTable 0)
    unfolding decide_of
    decide_17 e = rw (image, e)

    -- the stores are a table
    module _ (table : is_table s ≡ true) where
      pub decide_18 : {n : ℕ} → twin_of (entries_in s) ≡ Some n → decide_of i s a l ≡ Err (refusal TwinName n)
      unfolding decide_of
      decide_18 e = rw (image, table, e)

      -- of which no two share a name
      module _ (no_twin : twin_of (entries_in s) ≡ None) where
        pub decide_19 : is_list l ≡ false → decide_of i s a l ≡ Err (refusal BadConfirmedList 0)
        unfolding decide_of
        decide_19 e = rw (image, table, no_twin, e)

        pub decide_says : is_list l ≡ true → decide_of i s a l ≡ decision_of (evict r (env_of (entries_in s) a (list_names l)))
        unfolding decide_of
        decide_says e = rw (image, table, no_twin, e)

-- a rule's own image
pub decide_image : (r : Rule) → Fits r → (s : List ℕ) (a : ℕ) (l : List ℕ) → decide_of (encode r) s a l ≡ decide_rule (some r) s a l
decide_image r fits s a l = decide_rule_lem (encode r) s a l ((decode_encode (encode r) (encode_bytes r fits) r).1 (fits, refl))
