-- What leaves say at the largest age, with nothing confirmed and with just the write-only stores, is what their grades say. Assumes nothing.
use mathlib.Core.Path.{◌≡◌, refl, sym, ap, ◌∙◌}
use mathlib.Core.Bool.{Bool, true, false, cond, true≢false}
use mathlib.Core.List.{List, [], Memᴰ}
use mathlib.Core.Logic.{⊎_elim}
use Prim.Native.Nat.{ℕ, ◌+◌, ◌<◌}
use native.Mathlib.Omega.{arith}
use borrow.Author.Tests.{leb-true, eqb-true, eq-eqb}
use lib.Dec.{eqb, leb}
use lib.ListN.{length, set}
use Rattle.slices.proofs.Laws.WrittenLaws.{after_set}
use Rattle.rules.specs.Rule.{Leaf}
use Rattle.image.specs.Kinds.{named_kind, older_than_kind, readable_kind}
use Rattle.image.specs.Layout.{name_of}
use Rattle.image.specs.Decode.{leaf_meaning, meaning, cell_at}
use Rattle.store_table.specs.Names.{has}
use Rattle.store_table.specs.Stores.{Entry, read_only, write_only, is_readable, write_only_names, ready_count, twin_of}
use Rattle.store_table.proofs.Laws.MemberLaws.{has_mem, mem_has}
use Rattle.store_table.proofs.Laws.EntryLaws.{write_only_entry, entry_write_only, one_of_name, ready_or_none}
use Rattle.std.specs.Prelude.{None}
use Rattle.evaluate.specs.Evict.{Env, env_of, leaf_says}
use Rattle.evaluate.proofs.Laws.MeaningLaws.{says_named, says_older, says_readable}
use Rattle.evaluate.proofs.Laws.MonotoneLaws.{both_ways}
use Rattle.verdict.specs.Check.{oldest}
use Rattle.verdict.specs.Inner.Grades.{name_grade, Graded, GradedUpTo}

-- a leaf that says the same of both
same_graded : {l : Leaf} {es : List Entry} (b : Bool) → b ≡ leaf_says l (env_of es oldest []) →
    b ≡ leaf_says l (env_of es oldest (write_only_names es)) → Graded l es (cond b 2 0)
same_graded true p q = record { unconfirmed = p; archived = q }
same_graded false p q = record { unconfirmed = p; archived = q }

-- no name is one of none
none_has : (w : List ℕ) → has w [] ≡ false
unfolding has
none_has w = refl

-- ---- of stores of which no two share a name
module _ (es : List Entry) (no_twin : twin_of es ≡ None) where
  -- a store's name is a write-only store's exactly where its mode is write-only
  write_only_has : (x : Entry) → Memᴰ x es → has x.name (write_only_names es) ≡ eqb x.mode write_only
  write_only_has x m = both_ways to from
    where
      to : has x.name (write_only_names es) ≡ true → eqb x.mode write_only ≡ true
      to h =
          let (y, k, only, p) = write_only_entry x.name es (has_mem x.name (write_only_names es) h) in
          let same : x.mode ≡ y.mode = ap (λ (z : Entry). z.mode) (one_of_name es no_twin x y m k (sym p)) in
          eq-eqb x.mode write_only (omega arith)

      from : eqb x.mode write_only ≡ true → has x.name (write_only_names es) ≡ true
      from e =
          mem_has (entry_write_only x es m (eqb-true x.mode write_only e))

  -- so a readable store's is not
  pub write_only_unready : (x : Entry) → Memᴰ x es → is_readable x.mode ≡ true → has x.name (write_only_names es) ≡ true → ⊥
  unfolding is_readable
  write_only_unready x m r h = omega (arith, leb-true x.mode read_only r, eqb-true x.mode write_only (sym (write_only_has x m) ∙ h))

  -- no readable store is confirmed
  none_ready : (ns : List (List ℕ)) → ((x : Entry) → Memᴰ x es → is_readable x.mode ≡ true → has x.name ns ≡ true → ⊥) → ready_count es ns ≡ 0
  none_ready ns off = ⊎_elim (λ o. absurd (off o.0 o.1 o.2 o.3)) (λ n. n.0) (ready_or_none es ns)

  ready_bare : ready_count es [] ≡ 0
  ready_bare = none_ready [] (λ x m r h. true≢false (sym h ∙ none_has x.name))

  ready_archived : ready_count es (write_only_names es) ≡ 0
  ready_archived = none_ready (write_only_names es) write_only_unready

  -- ---- the grade of a leaf, by its kind
  module _ (s : List ℕ) (n : ℕ) {k : ℕ} (a : ℕ) (l : Leaf) (e : meaning s n k a ≡ leaf_meaning l) where
    pub older_graded : {b : Bool} → k ≡ older_than_kind → leb a oldest ≡ b → Graded l es (cond b 2 0)
    older_graded {b} h p =
        same_graded b (sym p ∙ says_older s n a (env_of es oldest []) l e h) (sym p ∙ says_older s n a (env_of es oldest (write_only_names es)) l e h)

    pub readable_graded : {b : Bool} → k ≡ readable_kind → leb a 0 ≡ b → Graded l es (cond b 2 0)
    readable_graded {b} h p = same_graded b (says (env_of es oldest []) ready_bare) (says (env_of es oldest (write_only_names es)) ready_archived)
      where
        says : (v : Env) → v.ready ≡ 0 → b ≡ leaf_says l v
        says v q = sym p ∙ ap (leb a) (sym q) ∙ says_readable s n a v l e h

    -- a name, which is this store's
    pub name_graded : {w : List ℕ} (x : Entry) → k ≡ named_kind → w ≡ name_of s n a → Memᴰ x es → w ≡ x.name → Graded l es (name_grade x.mode)
    name_graded {w} x h named-as m p =
        by (eqb x.mode write_only) (says_named s n a (env_of es oldest (write_only_names es)) l e h named-as (rw p (sym (write_only_has x m))))
      where
        keeps : false ≡ leaf_says l (env_of es oldest [])
        keeps = says_named s n a (env_of es oldest []) l e h named-as (sym (none_has w))

        by : (b : Bool) → b ≡ leaf_says l (env_of es oldest (write_only_names es)) → Graded l es (cond b 1 0)
        by true q = record { unconfirmed = keeps; archived = q }
        by false q = record { unconfirmed = keeps; archived = q }

-- ---- the grades of one node more
pub graded_next : (s : List ℕ) (n : ℕ) (grades : List ℕ) (g : ℕ) {es : List Entry} {i : ℕ} → GradedUpTo s n i grades es →
    i < length grades → ((l : Leaf) → (cell_at s n i).what ≡ leaf_meaning l → Graded l es g) → GradedUpTo s n (i + 1) (set grades i g) es
graded_next s n grades g {es} {i} h lt here j less l e = after_set (Graded l es) grades i g j lt (λ p. here l (rw p at e)) (λ q. h j (omega arith) l e)
