-- The table of refusals read by number. Assumes nothing.
use mathlib.Core.Path.{◌≡◌, refl, sym, ap, ◌∙◌}
use mathlib.Core.Bool.{Bool, true, false, cond}
use mathlib.Core.List.{List, [], ◌∷◌}
use mathlib.Core.Logic.{◌⊎◌}
use Prim.Native.Nat.{ℕ, zero, suc, ◌+◌, ◌-◌, ◌≤◌, ◌<◌}
use native.Mathlib.Omega.{arith}
use lib.Dec.{eqb, eqb→eq}
use lib.ListN.{length, get_or, get_or-eq_default}
use Rattle.std.specs.Prelude.{Option, Some, None, find}
use Rattle.std.proofs.lemmas.Option.{none-some, same_Some}
use Rattle.std.proofs.lemmas.List.{get_or-map, get_or_default}
use Rattle.std.proofs.lemmas.List.FromFn.{get_or-range_with_len}
use Rattle.refusals.specs.Refusals.{number, word, meaning}
use Rattle.refusals.specs.Inner.Rows.{causes, cause_of, TableRow, row, row_for, table, row_of}
use Rattle.refusals.specs.declared.Cause.{Cause}
use Rattle.refusals.specs.declared.Cause.TheVariants.{ShortBuffer, LongText, ForeignByte, HalfSign, OpenQuote, StrayCharacter, NoExpression, BracketExpected, TrailingToken, UnknownFunction, MissingArgument, BadCount, BadDuration, EmptyList, TooDeep, BadImage, BadStoreTable, TwinName, BadConfirmedList, UnknownStore, Unconfirmed, ArchiveOnly}

-- the cause of a cause's number is that cause
pub cause_of_number : (c : Cause) → cause_of (number c) ≡ Some c
unfolding cause_of
cause_of_number ShortBuffer = refl
cause_of_number LongText = refl
cause_of_number ForeignByte = refl
cause_of_number HalfSign = refl
cause_of_number OpenQuote = refl
cause_of_number StrayCharacter = refl
cause_of_number NoExpression = refl
cause_of_number BracketExpected = refl
cause_of_number TrailingToken = refl
cause_of_number UnknownFunction = refl
cause_of_number MissingArgument = refl
cause_of_number BadCount = refl
cause_of_number BadDuration = refl
cause_of_number EmptyList = refl
cause_of_number TooDeep = refl
cause_of_number BadImage = refl
cause_of_number BadStoreTable = refl
cause_of_number TwinName = refl
cause_of_number BadConfirmedList = refl
cause_of_number UnknownStore = refl
cause_of_number Unconfirmed = refl
cause_of_number ArchiveOnly = refl

-- a cause that is found has the number, and is in the list
record Found (n : ℕ) (l : List Cause) (c : Cause) : Type 0 where
  pub numbered : number c ≡ n
  pub at : ℕ
  pub inside : at < length l
  pub here : (d : Cause) → get_or l at d ≡ c

found : (n : ℕ) (l : List Cause) (c : Cause) → find (λ d. eqb (number d) n) l ≡ Some c → Found n l c
found n [] c e = absurd (none-some c e)
found n (d ∷ l) c e = by (eqb (number d) n) refl (λ f. found n l c f) e
  where
    by : (b : Bool) → eqb (number d) n ≡ b → (find (λ d. eqb (number d) n) l ≡ Some c → Found n l c)
        → cond b (Some d) (find (λ d. eqb (number d) n) l) ≡ Some c → Found n (d ∷ l) c
    by true p more e =
        let same : d ≡ c = same_Some d c e in
        record { numbered = rw (← same) (eqb→eq (number d) n (rw p tt)); at = 0; inside = omega arith; here = λ x. same }
    by false p more e =
        let f = more e in
        record { numbered = f.numbered; at = suc f.at; inside = omega (arith, f.inside); here = f.here }

-- the numbers of the causes are 1 to 22, in order
number_at : (i : ℕ) (d : Cause) → i < 22 → number (get_or causes i d) ≡ 1 + i
number_at i d h = sym (get_or-map number causes i d 0 h) ∙ get_or-range_with_len 1 22 i 0 h

-- the number of a number's cause is that number, and so within 1 to 22
pub number_of_cause : (n : ℕ) (c : Cause) → cause_of n ≡ Some c → number c ≡ n
unfolding cause_of
number_of_cause n c e = (found n causes c e).numbered

pub cause_in : (n : ℕ) → (n ≡ 0 → ⊥) → n - 1 < 22 → cause_of n ≡ Some (get_or causes (n - 1) ShortBuffer)
cause_in n h k =
    let e : number (get_or causes (n - 1) ShortBuffer) ≡ n = omega (arith, number_at (n - 1) ShortBuffer k) in
    rw e at (cause_of_number (get_or causes (n - 1) ShortBuffer))

pub number_range : (n : ℕ) (c : Cause) → cause_of n ≡ Some c → (0 < n) × (n ≤ 22)
unfolding cause_of
number_range n c e =
    let f = found n causes c e in
    let h = number_at f.at c f.inside in
    let k : number c ≡ 1 + f.at = rw (f.here c) at h in
    (omega (arith, f.numbered), omega (arith, f.numbered, f.inside))

-- no other number has a cause
pub cause_out : (n : ℕ) → (n ≡ 0) ⊎ (22 < n) → cause_of n ≡ None
cause_out n h = by (cause_of n) refl
  where
    by : (o : Option Cause) → cause_of n ≡ o → cause_of n ≡ None
    by None e = e
    by (Some c) e = let r = number_range n c e in absurd (omega (arith, h))

-- the table read by number
pub row_in : (n : ℕ) (d : TableRow) → (n ≡ 0 → ⊥) → n - 1 < 22 → get_or table (n - 1) d ≡ row_of n
unfolding row_of
row_in zero d h k = absurd (h refl)
row_in (suc i) d h k = let e : suc i - 1 ≡ i = omega arith in rw e (get_or_default table i d (row (suc i) [] []) (omega arith))

pub row_out : (n : ℕ) → 22 < n → row n [] [] ≡ row_of n
unfolding row_of
row_out n h = rw (get_or-eq_default (row 0 [] [] ∷ table) (row n [] []) {n = n} h)

pub row_zero : (n : ℕ) → n ≡ 0 → row n [] [] ≡ row_of n
unfolding row_of
row_zero n h = rw h

-- a number's row has its cause's texts, and none where it has no cause
pub row_of_cause : (n : ℕ) (c : Cause) → cause_of n ≡ Some c → row n (word c) (meaning c) ≡ row_of n
row_of_cause n c e =
    let r = number_range n c e in
    let k : n - 1 < 22 = omega arith in
    let some : n ≡ 0 → ⊥ = λ z. omega arith in
    let same : c ≡ get_or causes (n - 1) ShortBuffer = same_Some _ _ (sym e ∙ cause_in n some k) in
    let mine : row n (word c) (meaning c) ≡ row_for c = ap (λ m. row m (word c) (meaning c)) (sym (number_of_cause n c e)) in
    mine ∙ ap row_for same ∙ sym (get_or-map row_for causes (n - 1) ShortBuffer (row_for ShortBuffer) k) ∙ row_in n (row_for ShortBuffer) some k

pub row_of_none : (n : ℕ) → cause_of n ≡ None → row n [] [] ≡ row_of n
row_of_none zero e = row_zero zero refl
row_of_none (suc i) e =
    let one : suc i - 1 ≡ i = omega arith in
    let past : i < 22 → ⊥ = λ h. none-some _ (sym e ∙ cause_in (suc i) (λ z. omega arith) (rw one h)) in
    row_out (suc i) (omega (arith, past))
