-- Laws of arguments that follow one another: the first one, and those after it. Assumes nothing.
use mathlib.Core.Path.{◌≡◌, refl}
use mathlib.Core.Bool.{Bool, true, false, cond}
use mathlib.Core.List.{List, [], ◌∷◌}
use Prim.Native.Nat.{ℕ, suc, ◌+◌, ◌-◌, ◌≤◌, ◌<◌}
use native.Mathlib.Numerals.{add-one}
use native.Mathlib.Omega.{arith}
use lib.Dec.{eqb}
use lib.ListN.{length, take, drop, drop_of_length-le, length-drop}
use lib.Seq.{take_all}
use Rattle.slices.proofs.Laws.TextLaws.{end_within}
use Rattle.slices.specs.Text.{run, run_end, other}
use Rattle.store_args.specs.Arguments.{onto_first, arguments_in}
use Rattle.store_args.specs.Inner.Filling.{FirstOf}

-- the first argument ends where the first 0 is
abbrev First : List ℕ → Type 0
First s = let n = run (other 0) s in arguments_in s ≡ take n s ∷ arguments_in (drop (suc n) s)

module _ (b : ℕ) where
  one : (v : Bool) → eqb b 0 ≡ v → First (b ∷ [])
  unfolding arguments_in run other
  one true e = rw e
  one false e = rw e

  more : (s : List ℕ) (v : Bool) → eqb b 0 ≡ v → First s → First (b ∷ s)
  unfolding arguments_in run other
  more s true e h = rw e
  more s false e h = rw (e, h)

first : (b : ℕ) (s : List ℕ) → First (b ∷ s)
first b [] = one b (eqb b 0) refl
first b (a ∷ s) = more b (a ∷ s) (eqb b 0) refl (first a s)

first_in : (s : List ℕ) → 0 < length s → First s
first_in [] h = absurd (omega arith)
first_in (b ∷ s) h = first b s

onto_few : (b n : ℕ) (ws : List (List ℕ)) → length ws ≤ n → length (onto_first b ws) ≤ suc n
onto_few b n [] h = omega arith
onto_few b n (w ∷ ws) h = omega arith

either_few : (b n : ℕ) (ws : List (List ℕ)) → length ws ≤ n → (v : Bool) → length (cond v ([] ∷ ws) (onto_first b ws)) ≤ suc n
either_few b n ws h true = omega arith
either_few b n ws h false = onto_few b n ws h

-- each argument takes a byte at least
pub arguments_few : (s : List ℕ) → length (arguments_in s) ≤ length s
unfolding arguments_in
arguments_few [] = omega arith
arguments_few (b ∷ s) = either_few b _ (arguments_in s) (arguments_few s) (eqb b 0)

pub none_in : (s : List ℕ) → length s ≡ 0 → arguments_in s ≡ []
unfolding arguments_in
none_in [] h = refl
none_in (b ∷ s) h = absurd (omega arith)

module _ (s : List ℕ) {stop : ℕ} (p : stop ≡ run_end (other 0) s 0) where
  at_first : stop ≡ run (other 0) s
  unfolding run_end
  at_first = omega (arith, p)

  pub stop_within : stop ≤ length s
  stop_within = (end_within (other 0) s 0 (omega arith) p).1

  -- what is after a position, as a slice has it
  after : (k : ℕ) → take (length s - k) (drop k s) ≡ drop k s
  after k = take_all _ _ (rw length-drop (omega arith))

  -- an argument with a 0 after it
  pub first_ended : stop < length s → FirstOf s (take stop s) (take (length s - (stop + 1)) (drop (stop + 1) s))
  first_ended h = record { are = rw (after, add-one, at_first) (first_in s (omega arith)); less = rw (after, length-drop) (omega arith) }

  -- the last one, without a 0
  pub first_open : 0 < length s → length s ≤ stop → FirstOf s (take stop s) (take (length s - stop) (drop stop s))
  first_open h l =
      let e : drop (suc stop) s ≡ [] = drop_of_length-le s {i = suc stop} (omega arith) in
      let f : FirstOf s (take stop s) (drop stop s) =
      record { are = rw (drop_of_length-le s l, ← e, at_first) (first_in s h); less = rw length-drop (omega arith) } in
      rw after f
