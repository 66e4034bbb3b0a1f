-- 18's place is the index of one of at most 64 stores. Assumes nothing.
use mathlib.Core.Path.{◌≡◌}
use mathlib.Core.Bool.{Bool, true, false, cond}
use mathlib.Core.List.{List, [], ◌∷◌}
use Prim.Native.Nat.{ℕ, suc, ◌+◌, ◌<◌}
use native.Mathlib.Omega.{arith}
use lib.ListN.{length}
use Rattle.store_table.specs.Names.{has}
use Rattle.store_table.specs.Stores.{Entry, is_table, entries_in, twin_from, twin_of}
use Rattle.store_table.proofs.Laws.StoresLaws.{made, well_made_in_bounds}
use Rattle.store_table.proofs.Laws.WalkLaws.{length_entries}
use Rattle.std.specs.Prelude.{Option, Some}

twin_step : (b : Bool) (i k : ℕ) (es : List Entry) {r : Option ℕ} → cond b (Some i) r ≡ Some k → (r ≡ Some k → k < suc i + length es) → k < i + suc (length es)
twin_step true i k es e more = let q : i ≡ k = cc in omega arith
twin_step false i k es e more = omega (arith, more e)

twin_below : (seen : List (List ℕ)) (i : ℕ) (es : List Entry) (k : ℕ) → twin_from seen i es ≡ Some k → k < i + length es
unfolding twin_from
twin_below seen i [] k e = absurd (cc)
twin_below seen i (x ∷ es) k e = twin_step (has x.name seen) i k es e (twin_below (x.name ∷ seen) (suc i) es k)

pub twin_index : (s : List ℕ) (k : ℕ) → is_table s ≡ true → twin_of (entries_in s) ≡ Some k → k < 64
unfolding twin_of
twin_index s k t e = omega (arith, twin_below [] 0 (entries_in s) k e, (made 2 s t).few, length_entries s (well_made_in_bounds 2 s t))
