-- What `build` does with one node more: a combinator takes the last rules, and no others. Assumes nothing.
use mathlib.Core.Path.{◌≡◌, refl, sym, ap, ◌∙◌}
use mathlib.Core.Bool.{Bool, true, false}
use mathlib.Core.List.{[], ◌∷◌, ◌++◌, append_assoc, append-nil}
use mathlib.Core.Option.{Option, none, some, none-ne-some}
use Prim.Native.Nat.{ℕ, zero, suc, ◌+◌, ◌-◌, ◌^◌, ◌≤◌, ◌<◌}
use native.Mathlib.Omega.{arith}
use lib.Dec.{leb}
use lib.ListN.{length, length-append}
use borrow.Author.Tests.{leb-true, le-leb}
use Rattle.rules.specs.Rule.{Join, Rule, node, Rules, nil, more, size, sizes}
use Rattle.image.specs.Encode.{tag, join_kind, join_arg, names_all, names, tags_all, tags, args_all, args, SmallAll, Small}
use Rattle.image.specs.Decode.{when, bind, split, close}
use Rattle.image.proofs.Laws.EncodeLaws.{size_pos}

pub when_some : {A : Type 0} (b : Bool) (o : Option A) {a : A} → when b o ≡ some a → (b ≡ true) × (o ≡ some a)
when_some true o e = (refl, e)
when_some false o e = absurd (none-ne-some _ e)

pub bind_some : {A B : Type 0} (o : Option A) (f : A → Option B) {b : B} → bind o f ≡ some b → (a : A) × (o ≡ some a) × (f a ≡ some b)
bind_some none f e = absurd (none-ne-some _ e)
bind_some (some a) f e = (a, refl, e)

-- the rules ps, and rs after them
unfoldable pub chain : Rules → Rules → Rules
chain ps nil = ps
chain ps (more rs r) = more (chain ps rs) r

pub split_zero : (rs : Rules) → split rs 0 ≡ some (rs, nil)
unfolding split
split_zero nil = refl
split_zero (more rs r) = refl

pub split_more : (rs : Rules) (r : Rule) (m : ℕ) → 0 < m → size r ≤ m → split (more rs r) m ≡ bind (split rs (m - size r)) (λ p. some (p.0, more p.1 r))
unfolding split
split_more rs r zero p h = absurd (omega arith)
split_more rs r (suc m) p h = rw (le-leb (size r) (suc m) h)

split_chain : (ps rs : Rules) → split (chain ps rs) (sizes rs) ≡ some (ps, rs)
unfolding chain size
split_chain ps nil = split_zero ps
split_chain ps (more rs r) =
    let p = size_pos r in
    let e : sizes rs + size r - size r ≡ sizes rs = omega arith in
    split_more (chain ps rs) r (sizes rs + size r) (omega arith) (omega arith) ∙ rw (e, split_chain ps rs)

chain_split : (rs : Rules) (m : ℕ) (p : Rules × Rules) → split rs m ≡ some p → (chain p.0 p.1 ≡ rs) × (sizes p.1 ≡ m)
unfolding chain size split
chain_split nil zero p e =
    let q : p ≡ (nil, nil) = cc in
    rw q (refl, refl)
chain_split nil (suc m) p e = absurd (none-ne-some _ e)
chain_split (more rs r) zero p e =
    let q : p ≡ (more rs r, nil) = cc in
    rw q (refl, refl)
chain_split (more rs r) (suc m) p e =
    let (t, e₁) = when_some (leb (size r) (suc m)) _ e in
    let (p₁, e₂, e₃) = bind_some (split rs (suc m - size r)) _ e₁ in
    let q : p ≡ (p₁.0, more p₁.1 r) = cc in
    let (c, z) = chain_split rs (suc m - size r) p₁ e₂ in
    let l = leb-true (size r) (suc m) t in
    rw q (ap (λ (x : Rules). more x r) c, omega arith)

-- a combinator over rs and r, which come after ps
pub close_chain : (j : Join) (ps rs : Rules) (r : Rule) → close j (more (chain ps rs) r) (sizes rs + size r) ≡ some (more ps (node j rs r))
unfolding close
close_chain j ps rs r =
    let e : sizes rs + size r - size r ≡ sizes rs = omega arith in
    rw (le-leb (size r) (sizes rs + size r) (omega arith), e, split_chain ps rs)

pub record Closed (j : Join) (rs : Rules) (m : ℕ) (out : Rules) : Type 0 where
  pub before : Rules
  pub children : Rules
  pub child : Rule
  pub was : rs ≡ more (chain before children) child
  pub sized : sizes children + size child ≡ m
  pub becomes : out ≡ more before (node j children child)

pub closed : (j : Join) (rs : Rules) (m : ℕ) (out : Rules) → close j rs m ≡ some out → Closed j rs m out
unfolding close
closed j nil m out e = absurd (none-ne-some _ e)
closed j (more rs r) m out e =
    let (t, e₁) = when_some (leb (size r) m) _ e in
    let (p, e₂, e₃) = bind_some (split rs (m - size r)) _ e₁ in
    let (c, z) = chain_split rs (m - size r) p e₂ in
    let l = leb-true (size r) m t in
    record { before = p.0; children = p.1; child = r; was = ap (λ (x : Rules). more x r) (sym c); sized = omega arith; becomes = cc }

-- what rules one after another have: the sizes add up, and tags, arguments and names follow one another
pub sizes_chain : (ps rs : Rules) → sizes (chain ps rs) ≡ sizes ps + sizes rs
unfolding chain size
sizes_chain ps nil = omega arith
sizes_chain ps (more rs r) = let h = sizes_chain ps rs in omega arith

names_chain : (ps rs : Rules) → names_all (chain ps rs) ≡ names_all ps ++ names_all rs
unfolding chain names
names_chain ps nil = sym (append-nil (names_all ps))
names_chain ps (more rs r) = rw (names_chain ps rs, append_assoc)

tags_chain : (ps rs : Rules) → tags_all (chain ps rs) ≡ tags_all ps ++ tags_all rs
unfolding chain tags
tags_chain ps nil = sym (append-nil (tags_all ps))
tags_chain ps (more rs r) = rw (tags_chain ps rs, append_assoc)

length_chain : (ps rs : Rules) (t : ℕ) → t + length (names_all (chain ps rs)) ≡ t + length (names_all ps) + length (names_all rs)
length_chain ps rs t = rw (names_chain ps rs, length-append) (omega arith)

args_chain : (ps rs : Rules) (t : ℕ) → args_all (chain ps rs) t ≡ args_all ps t ++ args_all rs (t + length (names_all ps))
unfolding chain args
args_chain ps nil t = sym (append-nil (args_all ps t))
args_chain ps (more rs r) t = rw (args_chain ps rs t, append_assoc, length_chain ps rs t)

small_chain : (ps rs : Rules) → SmallAll (chain ps rs) → SmallAll ps × SmallAll rs
unfolding chain Small
small_chain ps nil h = (h, tt)
small_chain ps (more rs r) h = let (x, y) = small_chain ps rs h.0 in (x, (y, h.1))

-- so a combinator adds its tag and its argument, and no name
module _ (j : Join) (ps rs : Rules) (r : Rule) where
  pub sizes_close : sizes (more ps (node j rs r)) ≡ suc (sizes (more (chain ps rs) r))
  unfolding size
  sizes_close = rw (sizes_chain ps rs) (omega arith)

  pub names_close : names_all (more ps (node j rs r)) ≡ names_all (more (chain ps rs) r)
  unfolding names
  names_close = rw (names_chain ps rs, append_assoc)

  pub tags_close : tags_all (more ps (node j rs r)) ≡ tags_all (more (chain ps rs) r) ++ (tag (join_kind j) (suc (sizes rs + size r)) ∷ [])
  unfolding tags
  tags_close = simp (tags_chain ps rs, append_assoc)

  pub args_close : (t : ℕ) → args_all (more ps (node j rs r)) t ≡ args_all (more (chain ps rs) r) t ++ (join_arg j ∷ [])
  unfolding args
  args_close t = simp (args_chain ps rs t, length_chain ps rs t, append_assoc)

  pub small_close : join_arg j < 2 ^ 64 → SmallAll (more (chain ps rs) r) → SmallAll (more ps (node j rs r))
  unfolding Small
  small_close lt h = let (x, y) = small_chain ps rs h.0 in (x, (lt, (y, h.1)))
