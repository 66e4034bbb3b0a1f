-- What counts and durations come to: 8 bytes hold it. Assumes nothing.
use mathlib.Core.Path.{◌≡◌, refl}
use mathlib.Core.Bool.{Bool, true, false, cond, ◌&&◌}
use mathlib.Core.List.{List, [], ◌∷◌}
use Prim.Native.Nat.{ℕ, suc, ◌+◌, ◌-◌, ◌*◌, ◌^◌, ◌≤◌, ◌<◌}
use native.Mathlib.Omega.{arith}
use borrow.Author.Tests.{ltb-true}
use lib.Dec.{ltb}
use lib.ListN.{length, drop, get_or}
use Rattle.std.specs.Prelude.{Option, Some, None}
use Rattle.slices.specs.Text.{run_end}
use Rattle.classes.specs.Class.{of_class, blank}
use Rattle.durations.specs.declared.duration.Part.{Part}
use Rattle.decimal.specs.Decimal.{decimal_from}
use Rattle.decimal.specs.Count.{all_digits, count_from, sign_end, count_of}
use Rattle.durations.specs.Duration.{NamedUnit, unit, units, part_at, plus, part_then, parts_from, duration_of}
use Rattle.durations.proofs.Laws.DurationLaws.{part_most, part_small}

-- a number that is read is at most this much
abbrev UpTo : ℕ → Option ℕ → Type 0
UpTo m (Some n) = n ≤ m
UpTo m None = Unit {0}

-- ---- counts
count_up : (w : List ℕ) → UpTo (2 ^ 64 - 1) (count_of w)
unfolding count_of count_from
count_up w = go (ltb (sign_end w) (length w)) (all_digits (drop (sign_end w) w)) (ltb n (2 ^ 64)) refl
  where
    n : ℕ
    n = decimal_from 0 (drop (sign_end w) w)

    go : (x y z : Bool) → ltb n (2 ^ 64) ≡ z → UpTo (2 ^ 64 - 1) (cond x (cond (y && z) (Some n) None) None)
    go false y z e = tt
    go true false z e = tt
    go true true false e = tt
    go true true true e = omega (arith, ltb-true n (2 ^ 64) e)

pub count_small : (w : List ℕ) {n : ℕ} → count_of w ≡ Some n → n < 2 ^ 64
count_small w e = omega (arith, rw e at (count_up w))

-- ---- durations: of each unit at most one part
plus_up : (n k m : ℕ) (x : Option ℕ) → n + k ≤ m → UpTo k x → UpTo m (plus n x)
plus_up n k m (Some i) l h = omega arith
plus_up n k m None l h = tt

then_up : (x : Option Part) (len at k m : ℕ) (later : ℕ → Option ℕ) → part_most + k ≤ m → ((p : Part) → x ≡ Some p → p.amount ≤ part_most) →
    ((next : ℕ) → UpTo k (later next)) → UpTo m (part_then x len at later)
then_up (Some p) len at k m later l h g = go (ltb p.next len) (h p refl)
  where
    go : (v : Bool) → p.amount ≤ part_most → UpTo m (cond v (plus p.amount (later p.next)) (Some p.amount))
    go true i = plus_up p.amount k m (later p.next) (omega arith) (g p.next)
    go false i = omega arith
then_up None len at k m later l h g = go (later at) (g at)
  where
    go : (x : Option ℕ) → UpTo k x → UpTo m x
    go (Some n) i = omega arith
    go None i = tt

parts_up : (us : List NamedUnit) (w : List ℕ) →
    ((i at : ℕ) (p : Part) → part_at (get_or us i (unit "" 0)) w at ≡ Some p → p.amount ≤ part_most) → (at : ℕ) → UpTo (length us * part_most) (parts_from us w at)
unfolding parts_from
parts_up [] w h at = tt
parts_up (u ∷ us) w h at =
    then_up (part_at u w at) (length w) at (length us * part_most) (suc (length us) * part_most) (parts_from us w) (omega arith)
    (h 0 at) (parts_up us w (λ i. h (suc i)))

pub duration_small : (w : List ℕ) {n : ℕ} → duration_of w ≡ Some n → n < 2 ^ 64
unfolding duration_of
duration_small w e = omega (arith, rw e at (parts_up units w (λ i at p q. part_small i w at q) (run_end (of_class blank) w 0)))
