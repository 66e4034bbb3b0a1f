-- Laws of the last colon of an argument. Assumes nothing.
use mathlib.Core.Path.{◌≡◌, refl, ap, ◌∙◌}
use mathlib.Core.Bool.{Bool, true, false, ◌&&◌}
use mathlib.Core.List.{List}
use Prim.Native.Nat.{ℕ, zero, suc, ◌+◌, ◌-◌, ◌≤◌, ◌<◌}
use native.Mathlib.Omega.{arith}
use borrow.Author.Tests.{leb-true, ltb-true, ltb-false, le-ltb, ne_eqb}
use lib.Dec.{eqb, leb, ltb}
use lib.ListN.{length, get_or, take, drop, length-drop}
use lib.Seq.{take_all}
use Rattle.std.specs.Prelude.{Err}
use Rattle.ascii.specs.Letters.{within}
use Rattle.slices.specs.Text.{end_of_last}
use Rattle.store_args.specs.Arguments.{mode_tested, colon_tested, given_by}
use Rattle.store_args.specs.declared.Fault.TheVariants.{NoColon}

not_colon : (b : ℕ) → (b ≡ 58 → ⊥) → within 58 58 b ≡ false
not_colon b h = go (leb 58 b) refl (leb b 58) refl
  where
    go : (v : Bool) → leb 58 b ≡ v → (w : Bool) → leb b 58 ≡ w → v && w ≡ false
    go false p w q = refl
    go true p false q = refl
    go true p true q = absurd (h (omega (arith, leb-true 58 b p, leb-true b 58 q)))

module _ (s : List ℕ) where
  none_of : (n : ℕ) → ((k : ℕ) → k < n → get_or s k 0 ≡ 58 → ⊥) → end_of_last (within 58 58) s n ≡ 0
  unfolding end_of_last
  none_of zero h = refl
  none_of (suc n) h = rw (not_colon (get_or s n 0) (h n (omega arith)), none_of n (λ k l. h k (omega (arith, l))))

  at_last : (i n : ℕ) → i < n → get_or s i 0 ≡ 58 → ((k : ℕ) → i < k → k < n → get_or s k 0 ≡ 58 → ⊥) → end_of_last (within 58 58) s n ≡ suc i
  unfolding end_of_last
  at_last i zero l e h = absurd (omega arith)
  at_last i (suc n) l e h = go (ltb i n) refl (λ lt. at_last i n lt e (λ k m t. h k m (omega (arith, t))))
    where
      go : (v : Bool) → ltb i n ≡ v → (i < n → end_of_last (within 58 58) s n ≡ suc i) → end_of_last (within 58 58) s (suc n) ≡ suc i
      go true q before = let lt = ltb-true i n q in rw (not_colon (get_or s n 0) (h n lt (omega arith)), before lt)
      go false q before = let same : n ≡ i = omega (arith, l, ltb-false i n q) in rw (same, e)

  -- where no byte is a colon
  pub given_none : length s ≤ 266 → ((k : ℕ) → k < length s → get_or s k 0 ≡ 58 → ⊥) → Err NoColon ≡ given_by s
  unfolding given_by colon_tested
  given_none m h = rw (le-ltb _ _ m, none_of (length s) h)

  -- where one is, and none after it
  module _ (m : length s ≤ 266) (i : ℕ) (l : i < length s) (e : get_or s i 0 ≡ 58) (h : (k : ℕ) → i < k → k < length s → get_or s k 0 ≡ 58 → ⊥) where
    -- what is after it, as a slice has it
    after : take (length s - (i + 1)) (drop (i + 1) s) ≡ drop (suc i) s
    after =
        let z : i + 1 ≡ suc i = omega arith in
        take_all (length s - (i + 1)) (drop (i + 1) s) (rw length-drop (omega arith)) ∙ ap (λ k. drop k s) z

    name : take (suc i - 1) s ≡ take i s
    name = let z : suc i - 1 ≡ i = omega arith in rw z

    pub given_last : mode_tested (take (length s - (i + 1)) (drop (i + 1) s)) (take i s) ≡ given_by s
    unfolding given_by colon_tested
    given_last =
        let apart : eqb (suc i) 0 ≡ false = ne_eqb _ _ (λ z. absurd (omega (arith, z))) in
        rw (le-ltb _ _ m, at_last i (length s) l e h, apart, name, after)
