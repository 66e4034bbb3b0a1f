-- The walk back over rules that stand one after another: the last cell says how many nodes the last of them has. Assumes nothing.
use mathlib.Core.Path.{◌≡◌, ◌∙◌}
use Prim.Native.Nat.{ℕ, ◌+◌, ◌-◌, ◌≤◌, ◌<◌}
use native.Mathlib.Omega.{arith}
use native.Mathlib.Bridge.{le_prop}
use Rattle.std.proofs.Math.Logic.{∥∥₁_elim, ∥∥₁_map}
use Rattle.rules.specs.Rule.{Rule, leaf, node, Rules, nil, more, size, sizes}
use Rattle.image.specs.Decode.{Cell}
use Rattle.image.specs.Inner.EncodedAt.{EncodedAt, EncodedAllAt}
use Rattle.image.specs.Inner.Subtree.{Siblings, Subtree}
use Rattle.image.proofs.Laws.KindLaws.{NoLeaf}
use Rattle.image.proofs.Laws.EncodeLaws.{size_pos}
use Rattle.image.proofs.Laws.EncodedAtLaws.{root_size}

record Back (f : ℕ → Cell) (from end z : ℕ) : Type 0 where
  some : 0 < z
  fits : z + from ≤ end
  left : Siblings f from (end - z)

module _ {f : ℕ → Cell} {from end : ℕ} (lt : from < end) {z : ℕ} (says : z ≡ (f (end - 1)).size) where
  back : Siblings f from end → Back f from end z
  unfolding size EncodedAt
  back s = by s.rules s.stand s.ends
    where
      by : (rs : Rules) → EncodedAllAt rs f from → from + sizes rs ≡ end → Back f from end z
      by nil st e = absurd (omega arith)
      by (more rs r) st e =
          let p : from + sizes rs + size r - 1 ≡ end - 1 = omega arith in
          let q : z ≡ size r = says ∙ (rw p at (root_size r f (from + sizes rs) st.1)) in
          let pos = size_pos r in
          record { some = omega arith; fits = omega arith; left = record { rules = rs; stand = st.0; ends = omega arith } }

  pub back_some : ∥ Siblings f from end ∥₁ → 0 < z
  back_some h = ∥∥₁_elim h le_prop (λ s. (back s).some)

  pub back_fits : ∥ Siblings f from end ∥₁ → z + from ≤ end
  back_fits h = ∥∥₁_elim h le_prop (λ s. (back s).fits)

  pub back_left : ∥ Siblings f from end ∥₁ → ∥ Siblings f from (end - z) ∥₁
  back_left h = ∥∥₁_map h (λ s. (back s).left)

-- a combinator's children are its nodes but the last
pub children_stand : {f : ℕ → Cell} {from k : ℕ} → Subtree f from k → NoLeaf (f (from + k - 1)).what → Siblings f from (from + k - 1)
unfolding size EncodedAt
children_stand {f} {from} {k} t other = by t.rule t.sized t.stands
  where
    by : (r : Rule) → size r ≡ k → EncodedAt r f from → Siblings f from (from + k - 1)
    by (leaf l) e st =
        let p : from + k - 1 ≡ from = omega arith in
        absurd (other l (rw p st.0))
    by (node j rs r) e st = record { rules = more rs r; stand = (st.0, st.1); ends = omega arith }
