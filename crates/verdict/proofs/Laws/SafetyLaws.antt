-- Demand 3 for a rule: check's answer for a table, by what the rule says at the largest age with nothing confirmed, and with just the
-- write-only stores. Assumes nothing.
use mathlib.Core.Path.{◌≡◌, refl, sym, ap, ◌∙◌}
use mathlib.Core.Bool.{Bool, true, false, false≢true, true≢false}
use mathlib.Core.List.{List}
use mathlib.Core.Logic.{◌↔◌, ◌⊎◌, inl, inr, ⊎_elim}
use Prim.Native.Nat.{ℕ, ◌≤◌}
use native.Mathlib.Omega.{arith}
use borrow.Author.Tests.{leb-false}
use Rattle.refusals.specs.Refusals.{refusal, number}
use Rattle.refusals.specs.declared.Cause.TheVariants.{UnknownStore, Unconfirmed, ArchiveOnly}
use Rattle.rules.specs.Rule.{Rule}
use Rattle.store_table.specs.Names.{has}
use Rattle.store_table.specs.Stores.{is_readable, entries_in, twin_of, read_only, write_only, all_names, write_only_names}
use Rattle.store_table.proofs.Laws.MemberLaws.{has_mem, mem_has}
use Rattle.std.specs.Prelude.{None, Option, Some, Err, Ok}
use Rattle.store_table.proofs.Laws.DistinctLaws.{no_twin_distinct}
use Rattle.store_table.proofs.Laws.EntryLaws.{entry_mode, name_entry, entry_named, OneReady, NoneReady, ready_or_none}
use Rattle.evaluate.specs.Evict.{env_of, evict}
use Rattle.decide.specs.Decide.{list_names}
use Rattle.evaluate.proofs.Laws.MonotoneLaws.{evict_up}
use Rattle.verdict.specs.Check.{unknown_in, oldest, evicts_unconfirmed, evicts_on_archive, verdict, check_rule}
use Rattle.verdict.specs.Guarantee.{Table, Named, Nothing, JustWriteOnly, Known, Evicts, ReadableOn, Safe, Guarantee}
use Rattle.verdict.proofs.Laws.CheckLaws.{archived_by, by_tests}
use Rattle.verdict.proofs.Laws.GradesLaws.{write_only_unready}
use Rattle.verdict.proofs.Laws.KnownLaws.{unknown_no, no_unknown}
use Rattle.verdict.proofs.Laws.ListsLaws.{has_named, write_only_mem, nothing_same, write_only_same, nothing_is, write_only_is}
use Rattle.verdict.specs.Verdict.{Verdict}

-- ---- a verdict, by its three tests
-- the number of a refusal, 0 for a pass
abbrev pub number_of : Verdict → ℕ
number_of (Ok u) = 0
number_of (Err f) = number f.cause

verdict_pass : (u : Option ℕ) (b a : Bool) → verdict u b a ≡ Ok tt → (u ≡ None) × (b ≡ false) × (a ≡ false)
verdict_pass (Some i) b a e = absurd (omega (arith, ap number_of e))
verdict_pass None true a e = absurd (omega (arith, ap number_of e))
verdict_pass None false true e = absurd (omega (arith, ap number_of e))
verdict_pass None false false e = (refl, refl, refl)

verdict_known : (b a : Bool) → (verdict None b a ≡ Ok tt) ⊎ (verdict None b a ≡ Err (refusal Unconfirmed 0)) ⊎ (verdict None b a ≡ Err (refusal ArchiveOnly 0))
verdict_known true a = inr (inl refl)
verdict_known false true = inr (inr refl)
verdict_known false false = inl refl

verdict_21 : (b a : Bool) → (verdict None b a ≡ Err (refusal Unconfirmed 0)) ↔ (b ≡ true)
verdict_21 true a = (λ d. refl, λ d. refl)
verdict_21 false true = (λ d. absurd (omega (arith, ap number_of d)), λ d. absurd (false≢true d))
verdict_21 false false = (λ d. absurd (omega (arith, ap number_of d)), λ d. absurd (false≢true d))

verdict_22 : (b a : Bool) → (verdict None b a ≡ Err (refusal ArchiveOnly 0)) ↔ ((b ≡ false) × (a ≡ true))
verdict_22 true a = (λ d. absurd (omega (arith, ap number_of d)), λ d. absurd (true≢false d.0))
verdict_22 false true = (λ d. (refl, refl), λ d. refl)
verdict_22 false false = (λ d. absurd (omega (arith, ap number_of d)), λ d. absurd (false≢true d.1))

false_of : (b : Bool) → (b ≡ true → ⊥) → b ≡ false
false_of true f = absurd (f refl)
false_of false f = refl

-- ---- the mode that is not readable
unreadable_mode : {mode : ℕ} → mode ≤ write_only → is_readable mode ≡ false → mode ≡ write_only
unfolding is_readable
unreadable_mode {mode} le e = omega (arith, leb-false mode read_only e)

-- ---- a table with at least one store and no name twice
module _ {s : List ℕ} (t : Table s) (r : Rule) where
  no_twin : twin_of (entries_in s) ≡ None
  no_twin = (no_twin_distinct (entries_in s)).1 t.distinct

  -- check's answer is the verdict of the three tests
  check_verdict : check_rule r s ≡ verdict (unknown_in (entries_in s) r 0) (evicts_unconfirmed r (entries_in s)) (evicts_on_archive r (entries_in s))
  check_verdict = sym (by_tests r s (record { table = t.made; no_twin = no_twin; stored = λ e. omega (arith, t.stored) }) refl)

  known_no : Known r s → unknown_in (entries_in s) r 0 ≡ None
  known_no k = no_unknown (entries_in s) r 0 (λ w m. stored w (k w m))
    where
      stored : (w : List ℕ) → Named w s → has w (all_names (entries_in s)) ≡ true
      stored w (e, m, p) = rw p at (mem_has (entry_named e (entries_in s) m))

  no_known : unknown_in (entries_in s) r 0 ≡ None → Known r s
  no_known e w m =
      let (x, at, p) = name_entry w (entries_in s) (has_mem w (all_names (entries_in s)) (unknown_no (entries_in s) r 0 e w m)) in
      (x, at, p)

  -- what says evict with no readable store on the list says so at the largest age with just the write-only stores confirmed
  module _ (known : Known r s) {age : ℕ} (young : age ≤ oldest) (ns : List (List ℕ)) where
    kept : NoneReady (entries_in s) ns → (w : List ℕ) → Named w s → has w ns ≡ true → has w (write_only_names (entries_in s)) ≡ true
    kept none w (e, m, p) h = by (is_readable e.mode) refl
      where
        by : (b : Bool) → is_readable e.mode ≡ b → has w (write_only_names (entries_in s)) ≡ true
        by true q = absurd (true≢false (sym h ∙ (rw p at (none.1 e m q))))
        by false q = mem_has (write_only_mem s w (e, m, unreadable_mode (entry_mode _ s t.made e m) q, p))

    reaches : NoneReady (entries_in s) ns → evict r (env_of (entries_in s) age ns) ≡ true →
        evict r (env_of (entries_in s) oldest (write_only_names (entries_in s))) ≡ true
    reaches none =
        evict_up (env_of (entries_in s) age ns) (env_of (entries_in s) oldest (write_only_names (entries_in s))) young
        (omega (arith, none.0)) r (λ w m. kept none w (known w m))

  to_safe : Known r s → evict r (env_of (entries_in s) oldest (write_only_names (entries_in s))) ≡ false → Safe r s
  to_safe known keep age young l c e = ⊎_elim on off (ready_or_none (entries_in s) (list_names l))
    where
      on : OneReady (entries_in s) (list_names l) → ReadableOn s l
      on (x, m, q, h) = (x, m, q, has_named c x.name h)

      off : NoneReady (entries_in s) (list_names l) → ReadableOn s l
      off none = absurd (true≢false (sym (reaches known young (list_names l) none e) ∙ keep))

  -- a safe rule keeps with nothing confirmed, and with just the write-only stores
  safe_bare : Safe r s → evicts_unconfirmed r (entries_in s) ≡ false
  safe_bare safe = by (evicts_unconfirmed r (entries_in s)) refl
    where
      by : (b : Bool) → evicts_unconfirmed r (entries_in s) ≡ b → b ≡ false
      by true e =
          let (l, n) = nothing_is in
          let (x, m, q, on) = safe oldest (omega arith) l n.list (nothing_same r s oldest l n ∙ e) in
          absurd (n.none x.name on)
      by false e = refl

  safe_archive : Safe r s → evict r (env_of (entries_in s) oldest (write_only_names (entries_in s))) ≡ false
  safe_archive safe = by (evict r (env_of (entries_in s) oldest (write_only_names (entries_in s)))) refl
    where
      by : (b : Bool) → evict r (env_of (entries_in s) oldest (write_only_names (entries_in s))) ≡ b → b ≡ false
      by true e =
          let (l, j) = write_only_is s t in
          let (x, m, q, on) = safe oldest (omega arith) l j.list (write_only_same r s oldest l j ∙ e) in
          absurd (write_only_unready (entries_in s) no_twin x m q (mem_has (write_only_mem s x.name ((j.just x.name).0 on))))
      by false e = refl

  -- ---- the guarantee
  pub rule_passes : (check_rule r s ≡ Ok tt) ↔ (Known r s × Safe r s)
  rule_passes = rw check_verdict (to, from)
    where
      to : verdict (unknown_in (entries_in s) r 0) (evicts_unconfirmed r (entries_in s)) (evicts_on_archive r (entries_in s)) ≡ Ok tt → Known r s × Safe r s
      to e =
          let (u, b, a) = verdict_pass (unknown_in (entries_in s) r 0) (evicts_unconfirmed r (entries_in s)) (evicts_on_archive r (entries_in s)) e in
          let k = no_known u in
          (k, to_safe k (sym (archived_by r (entries_in s) b) ∙ a))

      from : Known r s × Safe r s → verdict (unknown_in (entries_in s) r 0) (evicts_unconfirmed r (entries_in s)) (evicts_on_archive r (entries_in s)) ≡ Ok tt
      from (k, safe) =
          let b = safe_bare safe in
          rw (known_no k, archived_by r (entries_in s) b, b, safe_archive safe)

  module _ (known : Known r s) where
    check_known : check_rule r s ≡ verdict None (evicts_unconfirmed r (entries_in s)) (evicts_on_archive r (entries_in s))
    check_known = check_verdict ∙ rw (known_no known)

    pub rule_answers : (check_rule r s ≡ Ok tt) ⊎ (check_rule r s ≡ Err (refusal Unconfirmed 0)) ⊎ (check_rule r s ≡ Err (refusal ArchiveOnly 0))
    rule_answers = rw check_known (verdict_known (evicts_unconfirmed r (entries_in s)) (evicts_on_archive r (entries_in s)))

    pub rule_21 : (l : List ℕ) → Nothing l → (check_rule r s ≡ Err (refusal Unconfirmed 0)) ↔ Evicts r s oldest l
    rule_21 l n = rw (check_known, nothing_same r s oldest l n) (verdict_21 (evicts_unconfirmed r (entries_in s)) (evicts_on_archive r (entries_in s)))

    pub rule_22 : (l k : List ℕ) → Nothing l → JustWriteOnly s k →
        (check_rule r s ≡ Err (refusal ArchiveOnly 0)) ↔ ((Evicts r s oldest l → ⊥) × Evicts r s oldest k)
    rule_22 l k n j = rw (check_known, nothing_same r s oldest l n, write_only_same r s oldest k j) (to, from)
      where
        to : verdict None (evicts_unconfirmed r (entries_in s)) (evicts_on_archive r (entries_in s)) ≡ Err (refusal ArchiveOnly 0) →
            (evicts_unconfirmed r (entries_in s) ≡ true → ⊥) × (evict r (env_of (entries_in s) oldest (write_only_names (entries_in s))) ≡ true)
        to e =
            let (b, a) = (verdict_22 (evicts_unconfirmed r (entries_in s)) (evicts_on_archive r (entries_in s))).0 e in
            (λ d. true≢false (sym d ∙ b), sym (archived_by r (entries_in s) b) ∙ a)

        from : (evicts_unconfirmed r (entries_in s) ≡ true → ⊥) × (evict r (env_of (entries_in s) oldest (write_only_names (entries_in s))) ≡ true) →
            verdict None (evicts_unconfirmed r (entries_in s)) (evicts_on_archive r (entries_in s)) ≡ Err (refusal ArchiveOnly 0)
        from (keeps, a) =
            let b = false_of (evicts_unconfirmed r (entries_in s)) keeps in
            (verdict_22 (evicts_unconfirmed r (entries_in s)) (evicts_on_archive r (entries_in s))).1 (b, archived_by r (entries_in s) b ∙ a)

  pub rule_20 : (Known r s → ⊥) → (i : ℕ) × (check_rule r s ≡ Err (refusal UnknownStore i))
  rule_20 unknown = rw check_verdict (by (unknown_in (entries_in s) r 0) refl)
    where
      by : (u : Option ℕ) → unknown_in (entries_in s) r 0 ≡ u →
          (i : ℕ) × (verdict u (evicts_unconfirmed r (entries_in s)) (evicts_on_archive r (entries_in s)) ≡ Err (refusal UnknownStore i))
      by None e = absurd (unknown (no_known e))
      by (Some i) e = (i, refl)

-- what may hold a rule, where the verdict on it is check's on the rule, and a pass only where it holds one
pub guaranteed : (Holds : Rule → Type 0) {s : List ℕ} {v : Verdict} → Table s → ((r : Rule) → Holds r → v ≡ check_rule r s) →
    (v ≡ Ok tt → (r : Rule) × Holds r) → Guarantee Holds s v
guaranteed Holds {s} {v} t says held =
    record {
      passes = (
        λ e. let (r, h) = held e in let (k, safe) = (rule_passes t r).0 (sym (says r h) ∙ e) in (r, h, k, safe),
        λ x. says x.0 x.1 ∙ (rule_passes t x.0).1 (x.2, x.3),
      );
      answers = λ r h k. rw (says r h) (rule_answers t r k);
      unconfirmed_when = λ r h k. rw (says r h) (rule_21 t r k);
      archive_only_when = λ r h k. rw (says r h) (rule_22 t r k);
      unknown_name = λ r h u. rw (says r h) (rule_20 t r u);
      nothing_list = nothing_is;
      write_only_list = write_only_is s t;
    }
