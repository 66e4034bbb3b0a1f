-- A refusal of checking or judging has the index of a store or of a node, a position in the text, or 0. Assumes nothing.
use mathlib.Core.Path.{◌≡◌, refl, ap}
use mathlib.Core.Bool.{Bool, true, false, cond}
use mathlib.Core.List.{List}
use mathlib.Core.Option.{Option as Maybe, none, some}
use Prim.Native.Nat.{ℕ, zero, suc, ◌+◌, max, ◌≤◌, ◌<◌}
use native.Mathlib.Omega.{arith}
use Rattle.refusals.specs.declared.Refusal.{Refusal}
use Rattle.refusals.specs.Refusals.{refusal, number}
use Rattle.refusals.specs.declared.Cause.TheVariants.{BadImage, TwinName}
use Rattle.rules.specs.Rule.{Rule, leaf, node, Rules, nil, more, size, sizes}
use Rattle.image.specs.Decode.{decode}
use Rattle.grammar.specs.Reading.{Read, rule, refused, read_of}
use Rattle.grammar.proofs.Laws.FitsLaws.{read_fits}
use Rattle.grammar.proofs.Laws.NumberLaws.{read_number}
use Rattle.grammar.proofs.Laws.PlaceLaws.{read_place}
use Rattle.store_table.specs.Stores.{Entry, is_table, count_in, entries_in, twin_of}
use Rattle.store_table.proofs.Laws.TwinLaws.{twin_index}
use Rattle.std.specs.Prelude.{None, Option, Some, Err}
use Rattle.image.proofs.Laws.InsideLaws.{decode_whole}
use Rattle.verdict.specs.Check.{is_unknown, first, unknown_in, unknown_all, evicts_unconfirmed, evicts_on_archive, verdict, check_rule, check_decoded, check_of, judge_read, judge_of}
use Rattle.verdict.proofs.Laws.CheckLaws.{refused_17, refused_18, passed_none, by_tests}

-- ---- 20: the index of a node
abbrev Below : ℕ → Option ℕ → Type 0
Below n None = Unit {0}
Below n (Some i) = i < n

first_below : (n : ℕ) (x y : Option ℕ) → Below n x → Below n y → Below n (first x y)
first_below n None y h k = k
first_below n (Some i) y h k = h

wider : (n m : ℕ) (x : Option ℕ) → n ≤ m → Below n x → Below m x
wider n m None le h = tt
wider n m (Some i) le h = omega arith

module _ (es : List Entry) where
  mutual
    unfolding unknown_in size

    unknown_below : (r : Rule) (k : ℕ) → Below (k + size r) (unknown_in es r k)
    unknown_below (leaf l) k = go (is_unknown es l)
      where
        go : (b : Bool) → Below (k + 1) (cond b (Some k) None)
        go true = omega arith
        go false = tt
    unknown_below (node j rs r) k =
        first_below _ (unknown_all es rs k) _ (wider _ _ (unknown_all es rs k) (omega arith) (unknowns_below rs k))
        (wider _ _ (unknown_in es r (k + sizes rs)) (omega arith) (unknown_below r (k + sizes rs)))

    unknowns_below : (rs : Rules) (k : ℕ) → Below (k + sizes rs) (unknown_all es rs k)
    unknowns_below nil k = tt
    unknowns_below (more rs r) k =
        first_below _ (unknown_all es rs k) _ (wider _ _ (unknown_all es rs k) (omega arith) (unknowns_below rs k))
        (wider _ _ (unknown_in es r (k + sizes rs)) (omega arith) (unknown_below r (k + sizes rs)))

-- ---- a rule
-- the place of a refusal where a rule has n nodes; 18's is the index of a store
pub record Placed (n : ℕ) (f : Refusal) : Type 0 where
  pub place : f.place < max 64 n
  pub store : f.cause ≡ TwinName → f.place < 64

module _ (r : Rule) (s : List ℕ) (f : Refusal) (due : check_rule r s ≡ Err f) where
  -- it is this refusal
  by : {g : Refusal} → Err g ≡ check_rule r s → Placed (size r) g → Placed (size r) f
  by {g} e h = let q : g ≡ f = cc in rw (← q) h

  by_verdict : (u : Option ℕ) (b a : Bool) → Below (size r) u → verdict u b a ≡ check_rule r s → Placed (size r) f
  by_verdict (Some i) b a h e = by e (record { place = omega arith; store = λ n. absurd (omega (arith, ap number n)) })
  by_verdict None true a h e = by e (record { place = omega arith; store = λ n. omega arith })
  by_verdict None false true h e = by e (record { place = omega arith; store = λ n. omega arith })
  by_verdict None false false h e = absurd (cc)

  by_count : is_table s ≡ true → twin_of (entries_in s) ≡ None → (n : ℕ) → count_in s ≡ n → Placed (size r) f
  by_count table no_twin zero e = absurd (cc (passed_none r s table no_twin e))
  by_count table no_twin (suc n) e =
      by_verdict (unknown_in (entries_in s) r 0) (evicts_unconfirmed r (entries_in s)) (evicts_on_archive r (entries_in s))
      (wider _ _ (unknown_in (entries_in s) r 0) (omega arith) (unknown_below (entries_in s) r 0))
      (by_tests r s (record { table = table; no_twin = no_twin; stored = λ z. omega arith }) refl)

  by_twin : is_table s ≡ true → (t : Option ℕ) → twin_of (entries_in s) ≡ t → Placed (size r) f
  by_twin table None e = by_count table e (count_in s) refl
  by_twin table (Some i) e =
      let low = twin_index s i table e in
      by (refused_18 r s table e) (record { place = omega arith; store = λ n. low })

  by_table : (b : Bool) → is_table s ≡ b → Placed (size r) f
  by_table true e = by_twin e (twin_of (entries_in s)) refl
  by_table false e = by (refused_17 r s e) (record { place = omega arith; store = λ n. omega arith })

  pub rule_place : Placed (size r) f
  rule_place = by_table (is_table s) refl

-- ---- an image and a text
module _ (s : List ℕ) (f : Refusal) where
  pub check_place : (image : List ℕ) → check_of image s ≡ Err f → f.place < 2048
  unfolding check_of
  check_place image due = go (decode image) refl due
    where
      go : (o : Maybe Rule) → decode image ≡ o → check_decoded o s ≡ Err f → f.place < 2048
      go none e d = let q : refusal BadImage 0 ≡ f = cc in rw (← q) (omega arith)
      go (some r) e d =
          let w = decode_whole image refl e in
          let p = rule_place r s f d in
          omega arith

  pub judge_placed : (text : List ℕ) → judge_of text s ≡ Err f → Placed 2049 f
  unfolding judge_of
  judge_placed text due = go (read_of text) refl due
    where
      go : (x : Read) → read_of text ≡ x → judge_read x s ≡ Err f → Placed 2049 f
      go (rule r) e d =
          let few = (read_fits text r e).nodes in
          let p = rule_place r s f d in
          record { place = omega arith; store = p.store }
      go (refused g) e d =
          let q : g ≡ f = cc in
          let at = (read_place text g e).1 in
          let (low, high) = read_number text g e in
          rw (← q) (record { place = omega arith; store = λ n. absurd (omega (arith, high, ap number n)) })

  pub judge_place : (text : List ℕ) → judge_of text s ≡ Err f → f.place ≤ 2048
  judge_place text due = let p = judge_placed text due in omega arith
