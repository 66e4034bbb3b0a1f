-- What a combinator says, by how many of its children say evict. Assumes nothing.
use mathlib.Core.Path.{◌≡◌, refl}
use mathlib.Core.Bool.{Bool, true, false, cond}
use mathlib.Core.List.{List, [], ◌∷◌}
use Prim.Native.Nat.{ℕ, suc, ◌≤◌}
use native.Mathlib.Omega.{arith}
use lib.Dec.{leb, eqb, eqb-suc-suc}
use lib.ListN.{length}
use borrow.Author.Tests.{le-leb, ne_eqb}
use Rattle.rules.specs.Rule.{at_least, all, any}
use Rattle.evaluate.specs.Evict.{count_true, all_say, any_says, join_says}

pub yeses_cons : (b : Bool) (bs : List Bool) → count_true (b ∷ bs) ≡ cond b (suc (count_true bs)) (count_true bs)
unfolding count_true
yeses_cons true bs = refl
yeses_cons false bs = refl

pub yeses_le : (bs : List Bool) → count_true bs ≤ length bs
unfolding count_true
yeses_le [] = omega arith
yeses_le (true ∷ bs) = omega (arith, yeses_le bs)
yeses_le (false ∷ bs) = omega (arith, yeses_le bs)

all_counts : (bs : List Bool) → all_say bs ≡ eqb (count_true bs) (length bs)
unfolding count_true all_say
all_counts [] = refl
all_counts (true ∷ bs) = rw eqb-suc-suc (all_counts bs)
all_counts (false ∷ bs) = let h = yeses_le bs in rw (ne_eqb (count_true bs) (suc (length bs)) (λ e. omega arith))

any_counts : (bs : List Bool) → any_says bs ≡ leb 1 (count_true bs)
unfolding count_true any_says
any_counts [] = refl
any_counts (true ∷ bs) = rw (le-leb 1 (suc (count_true bs)) (omega arith))
any_counts (false ∷ bs) = any_counts bs

-- y of the answers are evict
module _ (bs : List Bool) {y : ℕ} (h : count_true bs ≡ y) where
  pub says_at_least : (k : ℕ) → join_says (at_least k) bs ≡ leb k y
  unfolding join_says
  says_at_least k = rw h

  -- of t
  pub says_all : {t : ℕ} → length bs ≡ t → join_says all bs ≡ eqb y t
  unfolding join_says
  says_all e = rw (← h, ← e) (all_counts bs)

  pub says_any : join_says any bs ≡ leb 1 y
  unfolding join_says
  says_any = rw (← h) (any_counts bs)
