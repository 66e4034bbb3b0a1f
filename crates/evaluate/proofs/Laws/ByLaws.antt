-- Leaf answers by index, where they are those of an environment, are what the rule's own leaves say. Assumes nothing.
use mathlib.Core.Path.{◌≡◌, refl}
use mathlib.Core.Bool.{Bool}
use Prim.Native.Nat.{ℕ, ◌+◌, ◌≤◌, ◌<◌}
use native.Mathlib.Omega.{arith}
use Rattle.rules.specs.Rule.{Leaf, Rule, leaf, node, Rules, nil, more, size, sizes}
use Rattle.image.specs.Decode.{leaf_meaning, Cell}
use Rattle.image.specs.Inner.EncodedAt.{EncodedAt, EncodedAllAt}
use Rattle.evaluate.specs.Evict.{Env, leaf_says, evict, answers}
use Rattle.evaluate.specs.Inner.By.{evict_by, answers_by}

module _ (f : ℕ → Cell) (g : ℕ → Bool) (v : Env) (n : ℕ) (says : (i : ℕ) → i < n → (l : Leaf) → (f i).what ≡ leaf_meaning l → g i ≡ leaf_says l v) where
  mutual
    unfolding evict evict_by EncodedAt size

    pub by_says : (r : Rule) (i : ℕ) → i + size r ≤ n → EncodedAt r f i → evict_by g r i ≡ evict r v
    by_says (leaf l) i le st = says i (omega arith) l st.0
    by_says (node j rs r) i le st = rw (by_says r (i + sizes rs) (omega arith) st.1, by_all rs i (omega arith) st.0)

    by_all : (rs : Rules) (i : ℕ) → i + sizes rs ≤ n → EncodedAllAt rs f i → answers_by g rs i ≡ answers rs v
    by_all nil i le st = refl
    by_all (more rs r) i le st = rw (by_says r (i + sizes rs) (omega arith) st.1, by_all rs i (omega arith) st.0)
