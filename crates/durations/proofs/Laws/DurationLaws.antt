-- Laws of durations: the bytes of a unit's name, a part by where its digits end and its unit's name begins and ends, how large it is, and
-- the parts unit by unit. Assumes nothing.
use mathlib.Core.Path.{◌≡◌, refl, sym, ap, ◌∙◌}
use mathlib.Core.Bool.{Bool, true, false, cond, not, ◌&&◌, ◌||◌, and-false, and-eq-true_iff}
use mathlib.Core.List.{List, [], ◌∷◌}
use Prim.Native.Nat.{ℕ, zero, suc, ◌+◌, ◌-◌, ◌*◌, ◌^◌, ◌≤◌, ◌<◌, max}
use native.Mathlib.Nat.{mul-le-mul, le_of_lt, zero-add, add_assoc}
use native.Mathlib.Numerals.{add-one}
use native.Mathlib.Omega.{arith}
use borrow.Author.Tests.{leb-true, lt-ltb, le-ltb, le-leb, lt-leb}
use lib.Dec.{eqb, leb, ltb}
use lib.ListN.{length, take, drop, get_or, drop_of_length-le}
use lib.Seq.{drop-cons}
use Rattle.ascii.specs.Letters.{is_digit, equal}
use Rattle.slices.specs.Text.{part, run, run_end}
use Rattle.slices.proofs.Laws.TextLaws.{end_ge, end_le}
use Rattle.classes.specs.Class.{class_of, of_class, blank}
use Rattle.decimal.specs.Count.{all_digits}
use Rattle.decimal.specs.Decimal.{digit_value, decimal_from, decimal}
use Rattle.decimal.proofs.Laws.DecimalLaws.{decimal_small}
use Rattle.durations.specs.Duration.{NamedUnit, unit, units, is_unit_byte, digits_end, unit_start, unit_end, is_part, amount_of, next_part, part_at, plus, part_then, parts_from, duration_of}
use Rattle.durations.specs.Inner.Units.{unit_at, unit_of}
use Rattle.durations.specs.declared.unit.TimeUnit.{TimeUnit}
use Rattle.std.proofs.lemmas.List.{get_or-map, length-map}
use Rattle.std.specs.Prelude.{Option, Some, None, map}
use Rattle.durations.specs.declared.duration.Part.{Part}

-- ---- the bytes of a unit's name
module _ (b : ℕ) where
  pub unit_digit : is_digit b ≡ true → is_unit_byte b ≡ false
  unfolding is_unit_byte
  unit_digit d = rw d

  pub unit_other : {k : ℕ} → is_digit b ≡ false → k ≡ class_of b → is_unit_byte b ≡ not (eqb k blank)
  unfolding is_unit_byte
  unit_other d e = ap (λ (v : Bool). not (v || of_class blank b)) d ∙ ap (λ (k : ℕ). not (eqb k blank)) (sym e)

-- ---- the digits of a part
run_all_step : (v : Bool) (b n : ℕ) (s : List ℕ) → is_digit b ≡ v → all_digits (take n s) ≡ true → all_digits (take (cond v (suc n) 0) (b ∷ s)) ≡ true
unfolding all_digits
run_all_step true b n s e h = rw e h
run_all_step false b n s e h = refl

run_all : (s : List ℕ) → all_digits (take (run is_digit s) s) ≡ true
unfolding all_digits run
run_all [] = refl
run_all (b ∷ s) = run_all_step (is_digit b) b (run is_digit s) s refl (run_all s)

pub run_digits : (w : List ℕ) (at : ℕ) {to : ℕ} → to ≡ run_end is_digit w at → all_digits (take (to - at) (drop at w)) ≡ true
unfolding run_end
run_digits w at {to} e = let r : to - at ≡ run is_digit (drop at w) = omega arith in rw r (run_all (drop at w))

module _ (ds : List ℕ) (i : ℕ) (h : i < length ds) where
  pub digit_here : all_digits (drop i ds) ≡ true → (is_digit (get_or ds i 0) ≡ true) × (all_digits (drop (i + 1) ds) ≡ true)
  unfolding all_digits
  digit_here e = let p = (and-eq-true_iff (is_digit (get_or ds i 0)) (all_digits (drop (suc i) ds))).0 (rw (drop-cons ds i 0 h) at e) in (p.0, rw (add-one i) p.1)

  pub digit_more : (n : ℕ) → decimal_from n (drop i ds) ≡ decimal_from (n * 10 + digit_value (get_or ds i 0)) (drop (i + 1) ds)
  unfolding decimal_from
  digit_more n = rw (drop-cons ds i 0 h, add-one i)

pub none_more : (n : ℕ) (ds : List ℕ) (i : ℕ) → length ds ≤ i → decimal_from n (drop i ds) ≡ n
unfolding decimal_from
none_more n ds i h = rw (drop_of_length-le ds h)

-- ---- units: each by its rank in a table of them
pub at_rank : (ts : List TimeUnit) → map unit_of ts ≡ units → {rank : ℕ} (d : TimeUnit) → rank < length units → unit_of (get_or ts rank d) ≡ unit_at rank
at_rank ts e {rank} d h =
    let n = sym (length-map ts unit_of) ∙ ap length e in
    sym (get_or-map unit_of ts rank d (unit "" 0) (omega (arith, n))) ∙ ap (λ (us : List NamedUnit). get_or us rank (unit "" 0)) e

-- none of these units has more milliseconds
most : List NamedUnit → ℕ
most [] = 0
most (u ∷ us) = max u.milliseconds (most us)

of_most : (us : List NamedUnit) (i : ℕ) → (get_or us i (unit "" 0)).milliseconds ≤ most us
unfolding most
of_most [] i = omega arith
of_most (u ∷ us) zero = omega arith
of_most (u ∷ us) (suc i) = omega (arith, of_most us i)

-- no part has more milliseconds than 10^9 weeks; six of them are less than 2^64
abbrev pub part_most : ℕ
part_most = 10 ^ 9 * 604_800_000

pub amount_small : {n ms : ℕ} → n < 10 ^ 9 → ms ≤ 604_800_000 → n * ms ≤ part_most
amount_small h l = mul-le-mul (le_of_lt h) l

rank_small : (rank : ℕ) → (unit_at rank).milliseconds ≤ 604_800_000
unfolding most
rank_small rank = omega (arith, of_most units rank)

pub entry_small : (ts : List TimeUnit) → map unit_of ts ≡ units → {rank : ℕ} (d : TimeUnit) → rank < length units → (get_or ts rank d).milliseconds ≤ 604_800_000
entry_small ts e {rank} d h = omega (arith, ap (λ (u : NamedUnit). u.milliseconds) (at_rank ts e d h), rank_small rank)

-- ---- a part
module _ (u : NamedUnit) (w : List ℕ) (at : ℕ) where
  no_part : is_part u w at ≡ false → part_at u w at ≡ None
  unfolding part_at
  no_part e = rw e

  a_part : is_part u w at ≡ true → part_at u w at ≡ Some (record { amount = amount_of u w at; next = next_part w at })
  unfolding part_at
  a_part e = rw e

  module _ {digits : ℕ} (d : digits ≡ run_end is_digit w at) where
    -- "1 to 9 digits": none
    pub part_none : digits ≡ at → part_at u w at ≡ None
    unfolding is_part
    part_none h = no_part (rw (le-ltb at (digits_end w at) (omega arith)))

    -- and more than nine
    pub part_long : at + 9 < digits → part_at u w at ≡ None
    unfolding is_part
    part_long h = no_part (rw (lt-leb (digits_end w at) (at + 9) (omega arith), and-false (ltb at (digits_end w at))))

    module _ {start end : ℕ} (b : start ≡ run_end (of_class blank) w digits) (e : end ≡ run_end is_unit_byte w start) where
      -- another name
      pub part_other : equal (part w start end) u.name ≡ false → part_at u w at ≡ None
      unfolding is_part
      part_other h = no_part (rw (rw (e, b, d) at h, and-false (ltb at (digits_end w at) && leb (digits_end w at) (at + 9))))

      pub part_found : (digits ≡ at → ⊥) → digits ≤ at + 9 → equal (part w start end) u.name ≡ true →
          part_at u w at ≡ Some (record { amount = decimal (part w at digits) * u.milliseconds; next = run_end (of_class blank) w end })
      unfolding part_at
      part_found l m h =
          rw (lt-ltb at (digits_end w at) (omega (arith, end_ge is_digit w at)), le-leb (digits_end w at) (at + 9) (omega arith), rw (e, b, d) at h, e, b, d)

-- the bounds of a part that is there
module _ (u : NamedUnit) (w : List ℕ) (at : ℕ) {p : Part} (q : part_at u w at ≡ Some p) where
  part_is : (is_part u w at ≡ true) × (amount_of u w at ≡ p.amount) × (next_part w at ≡ p.next)
  part_is = go (is_part u w at) refl
    where
      go : (v : Bool) → is_part u w at ≡ v → (is_part u w at ≡ true) × (amount_of u w at ≡ p.amount) × (next_part w at ≡ p.next)
      go true e =
          let s : record { amount = amount_of u w at; next = next_part w at } ≡ p = cc (a_part u w at e) in
          (e, ap (λ (r : Part). r.amount) s, ap (λ (r : Part). r.next) s)
      go false e = let z : ◌≡◌ {A = ℕ} 0 1 = cc (no_part u w at e) in absurd (omega arith)

  pub part_within : at ≤ length w → p.next ≤ length w
  unfolding next_part
  part_within h =
      let i = part_is in
      omega (
        arith,
        end_le (of_class blank) w (unit_end w at) (end_le is_unit_byte w (unit_start w at) (end_le (of_class blank) w (digits_end w at) (end_le is_digit w at h))),
      )

pub part_small : (rank : ℕ) (w : List ℕ) (at : ℕ) {p : Part} → part_at (unit_at rank) w at ≡ Some p → p.amount ≤ part_most
unfolding is_part amount_of
part_small rank w at q =
    let i = part_is (unit_at rank) w at q in
    let d = digits_end w at in
    let l = ((and-eq-true_iff (ltb at d) (leb d (at + 9))).0 ((and-eq-true_iff (ltb at d && leb d (at + 9)) _).0 i.0).0).1 in
    omega (arith, amount_small (decimal_small w at refl (leb-true d (at + 9) l)) (rank_small rank))

-- ---- the parts, unit by unit
plus_plus : (n m : ℕ) (r : Option ℕ) → plus n (plus m r) ≡ plus (n + m) r
plus_plus n m (Some k) = ap Some (sym (add_assoc n m k))
plus_plus n m None = refl

plus_zero : (r : Option ℕ) → plus 0 r ≡ r
plus_zero (Some k) = ap Some (zero-add k)
plus_zero None = refl

-- at the first position that is no blank
pub parts_start : (w : List ℕ) {at : ℕ} → at ≡ run_end (of_class blank) w 0 → plus 0 (parts_from units w at) ≡ duration_of w
unfolding duration_of
parts_start w e = plus_zero _ ∙ ap (parts_from units w) e

module _ (total : ℕ) (w : List ℕ) (at rank : ℕ) where
  -- after the last unit
  pub parts_end : length units ≤ rank → plus total (parts_from (drop rank units) w at) ≡ None
  unfolding parts_from
  parts_end h = rw (drop_of_length-le units h)

  module _ (h : rank < length units) where
    parts_at : {p : Option Part} → part_at (unit_at rank) w at ≡ p → parts_from (drop rank units) w at ≡ part_then p (length w) at (parts_from (drop (rank + 1) units) w)
    unfolding parts_from
    parts_at e = rw (add-one rank, drop-cons units rank (unit "" 0) h, e)

    -- no part of this unit
    pub parts_skip : part_at (unit_at rank) w at ≡ None → plus total (parts_from (drop rank units) w at) ≡ plus total (parts_from (drop (rank + 1) units) w at)
    parts_skip e = ap (plus total) (parts_at e)

    module _ {p : Part} (e : part_at (unit_at rank) w at ≡ Some p) where
      -- one at whose end the word ends
      pub parts_last : length w ≤ p.next → plus total (parts_from (drop rank units) w at) ≡ Some (total + p.amount)
      parts_last l = rw (parts_at e, le-ltb p.next (length w) l)

      -- and one after which the word continues
      pub parts_on : p.next < length w → plus total (parts_from (drop rank units) w at) ≡ plus (total + p.amount) (parts_from (drop (rank + 1) units) w p.next)
      parts_on l = rw (parts_at e, lt-ltb p.next (length w) l) (plus_plus total p.amount (parts_from (drop (rank + 1) units) w p.next))
