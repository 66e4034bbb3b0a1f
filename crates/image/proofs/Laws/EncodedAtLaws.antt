-- What `build` makes of the first nodes has them as its cells, and no other rule has the same cells. Assumes nothing.
use mathlib.Core.Path.{◌≡◌, refl, sym, ap, ◌∙◌}
use mathlib.Core.Option.{some, none-ne-some}
use Prim.Native.Nat.{ℕ, zero, suc, ◌+◌, ◌-◌}
use native.Mathlib.Omega.{arith}
use lib.Dec.{eqb}
use borrow.Author.Tests.{eqb-true}
use Rattle.rules.specs.Rule.{Rule, leaf, node, Rules, nil, more, size, sizes}
use Rattle.image.specs.Decode.{Meaning, leaf_meaning, join_meaning, nothing, Cell, place, build}
use Rattle.image.specs.Inner.EncodedAt.{EncodedAt, EncodedAllAt}
use Rattle.image.proofs.Laws.EncodeLaws.{size_pos}
use Rattle.image.proofs.Laws.BuildLaws.{when_some, bind_some, chain, closed, sizes_chain, sizes_close}

-- a rule's last cell says its size
pub root_size : (r : Rule) (f : ℕ → Cell) (s : ℕ) → EncodedAt r f s → (f (s + size r - 1)).size ≡ size r
unfolding size EncodedAt
root_size (leaf l) f s st =
    let e : s + 1 - 1 ≡ s = omega arith in
    rw e st.1
root_size (node j rs r) f s st =
    let e : s + suc (sizes rs + size r) - 1 ≡ s + sizes rs + size r = omega arith in
    rw e st.3

-- rules that end at the same cell are of the same size, for that cell says it
same_last : (r q : Rule) (f : ℕ → Cell) (s m k : ℕ) → EncodedAt r f (s + m) → EncodedAt q f (s + k) → m + size r ≡ k + size q → (size r ≡ size q) × (m ≡ k)
same_last r q f s m k x y e =
    let a : s + m + size r - 1 ≡ s + k + size q - 1 = omega arith in
    let b : size r ≡ size q = sym (rw a at (root_size r f (s + m) x)) ∙ root_size q f (s + k) y in
    (b, omega arith)

-- two rules of the same size with the same cells are the same
mutual
  unfolding size EncodedAt

  pub one_rule : (p q : Rule) (f : ℕ → Cell) (s : ℕ) → size p ≡ size q → EncodedAt p f s → EncodedAt q f s → p ≡ q
  one_rule (leaf l) (leaf m) f s e x y = cc
  one_rule (leaf l) (node i qs q) f s e x y = absurd (omega (arith, size_pos q))
  one_rule (node j rs r) (leaf m) f s e x y = absurd (omega (arith, size_pos r))
  one_rule (node j rs r) (node i qs q) f s e x y =
      let (a, b) = same_last r q f s (sizes rs) (sizes qs) x.1 y.1 (omega arith) in
      let c = one_rules rs qs f s b x.0 y.0 in
      let d = one_rule r q f (s + sizes qs) a (rw b at x.1) y.1 in
      let g : s + sizes rs + size r ≡ s + sizes qs + size q = omega arith in
      let w = rw g at x.2 in
      let v = y.2 in
      cc

  one_rules : (ps qs : Rules) (f : ℕ → Cell) (s : ℕ) → sizes ps ≡ sizes qs → EncodedAllAt ps f s → EncodedAllAt qs f s → ps ≡ qs
  one_rules nil nil f s e x y = refl
  one_rules nil (more qs q) f s e x y = absurd (omega (arith, size_pos q))
  one_rules (more ps p) nil f s e x y = absurd (omega (arith, size_pos p))
  one_rules (more rs r) (more qs q) f s e x y =
      let (a, b) = same_last r q f s (sizes rs) (sizes qs) x.1 y.1 e in
      let c = one_rules rs qs f s b x.0 y.0 in
      let d = one_rule r q f (s + sizes qs) a (rw b at x.1) y.1 in
      cc

-- of rules one after another: the first ones, and those after them
encoded_chain : (f : ℕ → Cell) (s : ℕ) (ps rs : Rules) → EncodedAllAt (chain ps rs) f s → EncodedAllAt ps f s × EncodedAllAt rs f (s + sizes ps)
unfolding chain EncodedAt
encoded_chain f s ps nil h = (h, tt)
encoded_chain f s ps (more rs r) h =
    let (x, y) = encoded_chain f s ps rs h.0 in
    let z : s + sizes (chain ps rs) ≡ s + sizes ps + sizes rs = omega (arith, sizes_chain ps rs) in
    (x, (y, rw z at h.1))

-- rules that have the first i cells
pub record Built (f : ℕ → Cell) (i : ℕ) (rs : Rules) : Type 0 where
  pub standing : EncodedAllAt rs f 0
  pub sized : sizes rs ≡ i

module _ (f : ℕ → Cell) where
  place_built : (i : ℕ) (w : Meaning) (rs out : Rules) → (f i).what ≡ w → place w (f i).size rs ≡ some out → Built f i rs → Built f (suc i) out
  unfolding place size EncodedAt
  place_built i (leaf_meaning l) rs out m e b =
      let (t, e₁) = when_some (eqb (f i).size 1) (some (more rs (leaf l))) e in
      let p : out ≡ more rs (leaf l) = cc in
      let q : 0 + sizes rs ≡ i = omega (arith, b.sized) in
      rw p (record { standing = (b.standing, (rw q m, rw q (eqb-true (f i).size 1 t))); sized = omega (arith, b.sized) })
  place_built i (join_meaning j) rs out m e b =
      let c = closed j rs ((f i).size - 1) out e in
      let k = sizes_close j c.before c.children c.child in
      let was = ap sizes c.was in
      let pos = size_pos c.child in
      let h = rw c.was at b.standing in
      let (x, y) = encoded_chain f 0 c.before c.children h.0 in
      let d : 0 + sizes (chain c.before c.children) ≡ 0 + sizes c.before + sizes c.children =
      omega (arith, sizes_chain c.before c.children) in
      let q : 0 + sizes c.before + sizes c.children + size c.child ≡ i = omega (arith, b.sized) in
      let s : (f i).size ≡ suc (sizes c.children + size c.child) = omega (arith, c.sized) in
      rw c.becomes (record { standing = (x, (y, rw d at h.1, rw q m, rw q s)); sized = omega (arith, b.sized) })
  place_built i nothing rs out m e b = absurd (none-ne-some _ e)

  pub built : (i : ℕ) (rs : Rules) → build f i ≡ some rs → Built f i rs
  unfolding build size EncodedAt
  built zero rs e =
      let p : rs ≡ nil = cc in
      rw p (record { standing = tt; sized = refl })
  built (suc i) out e =
      let (rs, e₁, e₂) = bind_some (build f i) _ e in
      place_built i (f i).what rs out refl e₂ (built i rs e₁)
