-- What is known of each entry of a well-made table or list, the names of entries, and that no two entries share a name where there is no
-- twin. Assumes nothing.
use mathlib.Core.Path.{◌≡◌, refl, sym, ap, ◌∙◌}
use mathlib.Core.Bool.{Bool, true, false, cond, ◌&&◌, ◌||◌, true≢false, and-eq-true_iff}
use mathlib.Core.Logic.{◌⊎◌, inl, inr}
use mathlib.Core.List.Memᴰ
use mathlib.Core.List.{List, [], ◌∷◌, Memᴰ}
use Prim.Native.Nat.{ℕ, zero, suc, ◌+◌, ◌-◌, ◌≤◌, ◌<◌}
use native.Mathlib.Omega.{arith}
use borrow.Author.Tests.{leb-true, eqb-true}
use lib.Dec.{eqb, leb}
use lib.ListN.{length, take, drop, length-take, length-drop}
use lib.Seq.{drop-nil, take-add, take-length}
use Rattle.little_endian.proofs.Laws.BytesLaws.{bytes_at}
use Rattle.slices.specs.Text.{all_ascii, AllBytes}
use Rattle.slices.proofs.Laws.AsciiLaws.{take_ascii, drop_ascii}
use Rattle.store_table.specs.Names.{same_name, has}
use Rattle.store_table.proofs.Laws.MemberLaws.{mem_has}
use Rattle.store_table.specs.Stores.{lengths_start, write_only, Entry, entries_from, entries_in, count_in, modes_in, lengths_in, name_bytes_in, all_at_most, well_made, is_readable, all_names, write_only_names, ready_count, twin_from, twin_of}
use Rattle.store_table.proofs.Laws.StoresLaws.{made}
use Rattle.std.specs.Prelude.{None, Option, Some}

-- ---- the names of entries: each is some entry's, and each entry has its name among them
pub name_entry : (w : List ℕ) (es : List Entry) → Memᴰ w (all_names es) → (e : Entry) × Memᴰ e es × (e.name ≡ w)
unfolding all_names
name_entry w es m = Memᴰ.of_map _ es m

pub entry_named : (e : Entry) (es : List Entry) → Memᴰ e es → Memᴰ e.name (all_names es)
unfolding all_names
entry_named e es m = Memᴰ.map _ m

-- ---- the names of the write-only ones: each is some such entry's, and each such entry has its name among them
pub write_only_entry : (w : List ℕ) (es : List Entry) → Memᴰ w (write_only_names es) → (e : Entry) × Memᴰ e es × (e.mode ≡ write_only) × (e.name ≡ w)
unfolding write_only_names
write_only_entry w [] m = absurd (Memᴰ.not-nil m)
write_only_entry w (x ∷ es) m = go (eqb x.mode write_only) refl (write_only_entry w es) m
  where
    go : (b : Bool) → eqb x.mode write_only ≡ b → (Memᴰ w (write_only_names es) → (e : Entry) × Memᴰ e es × (e.mode ≡ write_only) × (e.name ≡ w)) →
        Memᴰ w (cond b (x.name ∷ write_only_names es) (write_only_names es)) →
        (e : Entry) × Memᴰ e (x ∷ es) × (e.mode ≡ write_only) × (e.name ≡ w)
    go true t below (Memᴰ.head p) = (x, Memᴰ.head refl, eqb-true x.mode write_only t, sym p)
    go true t below (Memᴰ.tail k) = let (e, i, only, n) = below k in (e, Memᴰ.tail i, only, n)
    go false t below k = let (e, i, only, n) = below k in (e, Memᴰ.tail i, only, n)

pub entry_write_only : (e : Entry) (es : List Entry) → Memᴰ e es → e.mode ≡ write_only → Memᴰ e.name (write_only_names es)
unfolding write_only_names
entry_write_only e es (Memᴰ.head {x} {xs} p) only =
    rw (← ap (λ (t : Entry). t.mode) p, only) (Memᴰ.head (ap (λ (t : Entry). t.name) p))
entry_write_only e es (Memᴰ.tail {x} {xs} m) only = go (eqb x.mode write_only) (entry_write_only e xs m only)
  where
    go : (b : Bool) → Memᴰ e.name (write_only_names xs) → Memᴰ e.name (cond b (x.name ∷ write_only_names xs) (write_only_names xs))
    go true k = Memᴰ.tail k
    go false k = k

-- and there are no more of them than entries
pub write_only_few : (es : List Entry) → length (write_only_names es) ≤ length es
unfolding write_only_names
write_only_few [] = omega arith
write_only_few (e ∷ es) = go (eqb e.mode write_only) (write_only_few es)
  where
    go : (b : Bool) → length (write_only_names es) ≤ length es → length (cond b (e.name ∷ write_only_names es) (write_only_names es)) ≤ suc (length es)
    go true h = omega arith
    go false h = omega arith

-- ---- an entry at an index is one of them
pub at_below : (es : List Entry) (k : ℕ) {x : Entry} {xs : List Entry} → drop k es ≡ x ∷ xs → k < length es
at_below es k e = omega (arith, rw e at (length-drop k es))

at_take : (es : List Entry) (first k : ℕ) {x : Entry} {xs : List Entry} → k < first → drop k es ≡ x ∷ xs → Memᴰ x (take first es)
at_take es first k {x} lt e =
    let z : first ≡ k + suc (first - suc k) = omega arith in
    rw (z, take-add, e) (Memᴰ.append_right (take k es) (Memᴰ.head refl))

pub at_mem : (es : List Entry) (k : ℕ) {x : Entry} {xs : List Entry} → drop k es ≡ x ∷ xs → Memᴰ x es
at_mem es k e = rw take-length at (at_take es (length es) k (at_below es k e) e)

-- so each of the first entries has its name among theirs
pub has_at : (es : List Entry) (first k : ℕ) {x : Entry} {xs : List Entry} → k < first → drop k es ≡ x ∷ xs → has x.name (all_names (take first es)) ≡ true
has_at es first k {x} lt e = mem_has (entry_named x (take first es) (at_take es first k lt e))

-- ---- no two entries share a name where there is no twin
no_twin : (b : Bool) (i : ℕ) (r : Option ℕ) → cond b (Some i) r ≡ None → (b ≡ false) × (r ≡ None)
no_twin true i r e = absurd (cc)
no_twin false i r e = (refl, e)

neither : (a b : Bool) → (a || b) ≡ false → b ≡ false
neither true b e = absurd (true≢false e)
neither false b e = e

-- each entry's name is not one that was seen
unseen : (seen : List (List ℕ)) (i : ℕ) (es : List Entry) → twin_from seen i es ≡ None → (e : Entry) → Memᴰ e es → has e.name seen ≡ false
unfolding twin_from has
unseen seen i [] t e m = elim m [ ]
unseen seen i (x ∷ es) t e (Memᴰ.head p) = rw p (no_twin (has x.name seen) i _ t).0
unseen seen i (x ∷ es) t e (Memᴰ.tail m) =
    neither (same_name e.name x.name) (has e.name seen) (unseen (x.name ∷ seen) (suc i) es (no_twin (has x.name seen) i _ t).1 e m)

-- nor that of an entry before it
module _ (seen : List (List ℕ)) (i : ℕ) (x : Entry) (es : List Entry) (t : twin_from seen i (x ∷ es) ≡ None) where
  later : twin_from (x.name ∷ seen) (suc i) es ≡ None
  unfolding twin_from
  later = (no_twin (has x.name seen) i _ t).1

  apart : (y : Entry) → Memᴰ y es → y.name ≡ x.name → ⊥
  apart y m e = true≢false (sym (mem_has (Memᴰ.head {xs = seen} e)) ∙ unseen (x.name ∷ seen) (suc i) es later y m)

one_from : (seen : List (List ℕ)) (i : ℕ) (es : List Entry) → twin_from seen i es ≡ None → (e f : Entry) → Memᴰ e es →
    Memᴰ f es → e.name ≡ f.name → e ≡ f
one_from seen i [] t e f m k n = absurd (Memᴰ.not-nil m)
one_from seen i (x ∷ es) t e f m k n = go (λ l j. one_from (x.name ∷ seen) (suc i) es (later seen i x es t) e f l j n) m k
  where
    go : (Memᴰ e es → Memᴰ f es → e ≡ f) → Memᴰ e (x ∷ es) → Memᴰ f (x ∷ es) → e ≡ f
    go below (Memᴰ.head p) (Memᴰ.head q) = p ∙ sym q
    go below (Memᴰ.head p) (Memᴰ.tail l) = absurd (apart seen i x es t f l (rw p at (sym n)))
    go below (Memᴰ.tail l) (Memᴰ.head q) = absurd (apart seen i x es t e l (rw q at n))
    go below (Memᴰ.tail l) (Memᴰ.tail j) = below l j

pub one_of_name : (es : List Entry) → twin_of es ≡ None → (e f : Entry) → Memᴰ e es → Memᴰ f es → e.name ≡ f.name → e ≡ f
unfolding twin_of
one_of_name es t = one_from [] 0 es t

-- nor is one name at two indices
place_from : (seen : List (List ℕ)) (i : ℕ) (es : List Entry) → twin_from seen i es ≡ None →
    (k j : ℕ) {x y : Entry} {xs ys : List Entry} → drop k es ≡ x ∷ xs → drop j es ≡ y ∷ ys → x.name ≡ y.name → k ≡ j
place_from seen i [] t k j p q n = absurd (cc (drop-nil {A = Entry} k))
place_from seen i (z ∷ es) t zero zero p q n = refl
place_from seen i (z ∷ es) t zero (suc j) {x} {y} p q n = absurd (apart seen i z es t y (at_mem es j q) (cc))
place_from seen i (z ∷ es) t (suc k) zero {x} p q n = absurd (apart seen i z es t x (at_mem es k p) (cc))
place_from seen i (z ∷ es) t (suc k) (suc j) p q n = ap suc (place_from (z.name ∷ seen) (suc i) es (later seen i z es t) k j p q n)

pub one_place : (es : List Entry) → twin_of es ≡ None → (k j : ℕ) {x y : Entry} {xs ys : List Entry} → drop k es ≡ x ∷ xs →
    drop j es ≡ y ∷ ys → x.name ≡ y.name → k ≡ j
unfolding twin_of
one_place es t = place_from [] 0 es t

-- ---- a readable store is confirmed, or none is, and then none is counted
abbrev pub OneReady : List Entry → List (List ℕ) → Type 0
OneReady es ns = (e : Entry) × Memᴰ e es × (is_readable e.mode ≡ true) × (has e.name ns ≡ true)

abbrev pub NoneReady : List Entry → List (List ℕ) → Type 0
NoneReady es ns = (ready_count es ns ≡ 0) × ((e : Entry) → Memᴰ e es → is_readable e.mode ≡ true → has e.name ns ≡ false)

pub ready_or_none : (es : List Entry) (ns : List (List ℕ)) → OneReady es ns ⊎ NoneReady es ns
unfolding ready_count
ready_or_none [] ns = inr (refl, λ e m. absurd (Memᴰ.not-nil m))
ready_or_none (x ∷ es) ns = go (is_readable x.mode) (has x.name ns) refl refl (ready_or_none es ns)
  where
    each : (is_readable x.mode ≡ true → has x.name ns ≡ false) → NoneReady es ns → (e : Entry) → Memᴰ e (x ∷ es) →
        is_readable e.mode ≡ true → has e.name ns ≡ false
    each f n e (Memᴰ.head p) r = rw p (f (rw p at r))
    each f n e (Memᴰ.tail m) r = n.1 e m r

    go : (r h : Bool) → is_readable x.mode ≡ r → has x.name ns ≡ h → OneReady es ns ⊎ NoneReady es ns →
        OneReady (x ∷ es) ns
        ⊎ ((cond (r && h) (suc (ready_count es ns)) (ready_count es ns) ≡ 0)
        × ((e : Entry) → Memᴰ e (x ∷ es) → is_readable e.mode ≡ true → has e.name ns ≡ false))
    go true true p q below = inl (x, Memᴰ.head refl, p, q)
    go true false p q (inl (e, m, a, b)) = inl (e, Memᴰ.tail m, a, b)
    go true false p q (inr n) = inr (n.0, each (λ y. q) n)
    go false h p q (inl (e, m, a, b)) = inl (e, Memᴰ.tail m, a, b)
    go false h p q (inr n) = inr (n.0, each (λ y. absurd (true≢false (sym y ∙ p))) n)

-- ---- each entry of a well-made table or list: its mode is at most the largest, its name has at most 255 bytes, each below 128
mode_from : (most : ℕ) (ms ls bs : List ℕ) → all_at_most most ms ≡ true → (e : Entry) → Memᴰ e (entries_from ms ls bs) → e.mode ≤ most
unfolding entries_from all_at_most
mode_from most [] ls bs h e m = absurd (Memᴰ.not-nil m)
mode_from most (m ∷ ms) [] bs h e k = absurd (Memᴰ.not-nil k)
mode_from most (m ∷ ms) (l ∷ ls) bs h e (Memᴰ.head p) = rw p (leb-true m most ((and-eq-true_iff (leb m most) (all_at_most most ms)).0 h).0)
mode_from most (m ∷ ms) (l ∷ ls) bs h e (Memᴰ.tail k) =
    mode_from most ms ls (drop l bs) ((and-eq-true_iff (leb m most) (all_at_most most ms)).0 h).1 e k

pub entry_mode : (most : ℕ) (s : List ℕ) → well_made most s ≡ true → (e : Entry) → Memᴰ e (entries_in s) → e.mode ≤ most
unfolding entries_in
entry_mode most s h = mode_from most (modes_in s) (lengths_in s) (name_bytes_in s) (made most s h).modes

name_from : (ms ls bs : List ℕ) → AllBytes ls → all_ascii bs ≡ true → (e : Entry) → Memᴰ e (entries_from ms ls bs) →
    (length e.name ≤ 255) × (all_ascii e.name ≡ true)
unfolding entries_from
name_from [] ls bs b a e m = absurd (Memᴰ.not-nil m)
name_from (m ∷ ms) [] bs b a e k = absurd (Memᴰ.not-nil k)
name_from (m ∷ ms) (l ∷ ls) bs b a e (Memᴰ.head p) = rw p (omega (arith, length-take l bs, b 0), take_ascii l bs a)
name_from (m ∷ ms) (l ∷ ls) bs b a e (Memᴰ.tail k) = name_from ms ls (drop l bs) (λ i. b (suc i)) (drop_ascii l bs a) e k

pub entry_name : (most : ℕ) (s : List ℕ) → AllBytes s → well_made most s ≡ true → (e : Entry) → Memᴰ e (entries_in s) →
    (length e.name ≤ 255) × (all_ascii e.name ≡ true)
unfolding entries_in
entry_name most s b h =
    name_from (modes_in s) (lengths_in s) (name_bytes_in s) (bytes_at s (lengths_start (count_in s)) (count_in s) b) (made most s h).ascii
