-- The nodes of a rule are built into it, so whether nodes are a rule's is known by building. Assumes nothing.
use mathlib.Core.Path.{◌≡◌, refl}
use mathlib.Core.Bool.{true}
use mathlib.Core.Option.{some}
use Prim.Native.Nat.{ℕ, suc, ◌+◌, ◌-◌}
use native.Mathlib.Nat.{add-zero, zero-add}
use native.Mathlib.Numerals.{add-one}
use native.Mathlib.Omega.{arith}
use Rattle.rules.specs.Rule.{Rule, leaf, node, Rules, nil, more, size, sizes}
use Rattle.image.specs.Decode.{Cell, place, build, bind, only}
use Rattle.image.specs.Inner.EncodedAt.{EncodedAt, EncodedAllAt}
use Rattle.image.specs.Inner.Subtree.{Subtree}
use Rattle.image.specs.Inner.Valid.{is_some}
use Rattle.image.proofs.Laws.BuildLaws.{bind_some, chain, close_chain}
use Rattle.image.proofs.Laws.FitLaws.{is_some_true}
use Rattle.image.proofs.Laws.TestLaws.{only_some}
use Rattle.image.proofs.Laws.EncodedAtLaws.{built}

module _ (f : ℕ → Cell) where
  mutual
    unfolding size EncodedAt build place chain

    made : (r : Rule) (i : ℕ) (ps : Rules) → EncodedAt r f i → build f i ≡ some ps → build f (i + size r) ≡ some (more ps r)
    made (leaf l) i ps st e = rw (add-one, e, st.0, st.1) refl
    made (node j rs r) i ps st e =
        let k = sizes rs + size r in
        let h = made r (i + sizes rs) (chain ps rs) st.1 (all_made rs i ps st.0 e) in
        let p : i + suc k ≡ suc (i + sizes rs + size r) = omega arith in
        let q : suc k - 1 ≡ k = omega arith in
        rw (p, h, st.2, st.3, q) (close_chain j ps rs r)

    all_made : (rs : Rules) (i : ℕ) (ps : Rules) → EncodedAllAt rs f i → build f i ≡ some ps → build f (i + sizes rs) ≡ some (chain ps rs)
    all_made nil i ps st e = rw add-zero e
    all_made (more rs r) i ps st e =
        let p : i + (sizes rs + size r) ≡ i + sizes rs + size r = omega arith in
        rw p (made r (i + sizes rs) (chain ps rs) st.1 (all_made rs i ps st.0 e))

  pub is_row : {n : ℕ} → Subtree f 0 n → is_some (bind (build f n) only) ≡ true
  unfolding build
  is_row t =
      let e = rw (zero-add, t.sized) at (made t.rule 0 nil t.stands refl) in
      rw e refl

  pub row : {n : ℕ} → is_some (bind (build f n) only) ≡ true → Subtree f 0 n
  unfolding size EncodedAt
  row {n} is =
      let (r, e) = is_some_true _ is in
      let (rs, e₁, e₂) = bind_some (build f n) only e in
      let b = rw (only_some rs r e₂) at (built f n rs e₁) in
      record { rule = r; sized = omega (arith, b.sized); stands = b.standing.1 }
