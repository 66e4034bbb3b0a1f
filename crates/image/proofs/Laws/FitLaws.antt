-- The walk back over the rules that the first nodes make, and whether a node can follow them. Assumes nothing.
use mathlib.Core.Path.{◌≡◌, refl, sym, ap, ◌∙◌}
use mathlib.Core.Bool.{Bool, true, false}
use mathlib.Core.List.{List}
use mathlib.Core.Option.{Option, none, some}
use Prim.Native.Nat.{ℕ, zero, suc, ◌+◌, ◌-◌, ◌≤◌, ◌<◌}
use native.Mathlib.Nat.{add-zero, add-suc, add-sub_of_le}
use native.Mathlib.Omega.{arith}
use lib.Dec.{leb, eqb}
use borrow.Author.Tests.{lt-leb, eq-eqb, ne_eqb}
use Rattle.rules.specs.Rule.{Leaf, named, older_than, readable, Join, at_least, all, any, Rule, leaf, Rules, nil, more, size, sizes}
use Rattle.image.specs.Kinds.{readable_kind, at_least_kind, any_kind}
use Rattle.image.specs.Layout.{name_of}
use Rattle.image.specs.Decode.{when, bind, Node, node_at, Meaning, leaf_meaning, join_meaning, nothing, argument0, meaning, Cell, cell_at, split, close, place, build, only}
use Rattle.image.specs.Inner.Valid.{is_some}
use Rattle.image.specs.Inner.Leaves.{is_leaf}
use Rattle.image.specs.Inner.EncodedAt.{EncodedAt, EncodedAllAt}
use Rattle.image.proofs.Laws.EncodedAtLaws.{root_size, Built, built}
use Rattle.image.proofs.Laws.EncodeLaws.{size_pos}
use Rattle.image.proofs.Laws.KindLaws.{leaf_low, leaf_high}
use Rattle.image.proofs.Laws.BuildLaws.{split_zero, split_more, closed, sizes_close}

pub is_some_true : {A : Type 0} (o : Option A) → is_some o ≡ true → (a : A) × (o ≡ some a)
is_some_true none e = let z : ◌≡◌ {A = ℕ} 0 1 = cc in absurd (omega arith)
is_some_true (some a) e = (a, refl)

pub is_some_false : {A : Type 0} (o : Option A) → is_some o ≡ false → o ≡ none
is_some_false none e = refl
is_some_false (some a) e = let z : ◌≡◌ {A = ℕ} 0 1 = cc in absurd (omega arith)

is_some_bind : {A B : Type 0} (o : Option A) (f : A → B) → is_some (bind o (λ a. some (f a))) ≡ is_some o
is_some_bind none f = refl
is_some_bind (some a) f = refl

-- what is none at i, and with each number at the next one, is none from i on
pub stays_none : {A : Type 0} (g : ℕ → Option A) → ((i : ℕ) → g i ≡ none → g (suc i) ≡ none) → (i n : ℕ) → i ≤ n → g i ≡ none → g n ≡ none
stays_none g h i n le e = rw (add-sub_of_le le) at (up (n - i))
  where
    up : (k : ℕ) → g (i + k) ≡ none
    up zero = rw add-zero e
    up (suc k) = rw add-suc (h (i + k) (up k))

-- the last rule is too large for m nodes, or it is one of those that have m nodes
split_no : (rs : Rules) (r : Rule) (m : ℕ) → 0 < m → m < size r → is_some (split (more rs r) m) ≡ false
unfolding split
split_no rs r zero p h = absurd (omega arith)
split_no rs r (suc m) p h = rw (lt-leb (size r) (suc m) h)

split_on : (rs : Rules) (r : Rule) (m : ℕ) → 0 < m → size r ≤ m → is_some (split (more rs r) m) ≡ is_some (split rs (m - size r))
split_on rs r m p h = ap is_some (split_more rs r m p h) ∙ is_some_bind (split rs (m - size r)) _

-- a combinator takes at least one node, and no more than there are
close_none : (j : Join) (rs : Rules) (m : ℕ) → (0 < m → m ≤ sizes rs → ⊥) → is_some (close j rs m) ≡ false
unfolding size
close_none j rs m never = by (close j rs m) refl
  where
    by : (o : Option Rules) → close j rs m ≡ o → is_some o ≡ false
    by none e = refl
    by (some out) e =
        let c = closed j rs m out e in
        let p = size_pos c.child in
        let z = sizes_close j c.before c.children c.child in
        absurd (never (omega arith) (omega (arith, ap sizes c.was)))

close_split : (j : Join) (rs : Rules) (m : ℕ) → 0 < m → is_some (close j rs m) ≡ is_some (split rs m)
unfolding close
close_split j rs zero h = absurd (omega arith)
close_split j nil (suc m) h = refl
close_split j (more rs r) (suc m) h = by (leb (size r) (suc m)) (split rs (suc m - size r)) _ _
  where
    by : {A B C : Type 0} (b : Bool) (o : Option A) (f : A → B) (g : A → C) →
        is_some (when b (bind o (λ a. some (f a)))) ≡ is_some (when b (bind o (λ a. some (g a))))
    by true o f g = is_some_bind o f ∙ sym (is_some_bind o g)
    by false o f g = refl

module _ (f : ℕ → Cell) where
  -- the last of the rules that have the first i cells
  record Last (i : ℕ) (rs : Rules) : Type 0 where
    before : Rules
    child : Rule
    is : rs ≡ more before child
    standing : EncodedAllAt before f 0
    sized : sizes before + size child ≡ i
    says : (f (i - 1)).size ≡ size child

  last : (i : ℕ) (rs : Rules) → 0 < i → Built f i rs → Last i rs
  unfolding size EncodedAt
  last i nil h b = absurd (omega (arith, b.sized))
  last i (more rs r) h b =
      let p : sizes rs + size r ≡ i = b.sized in
      let q : 0 + sizes rs + size r - 1 ≡ i - 1 = omega arith in
      record { before = rs; child = r; is = refl; standing = b.standing.0; sized = p; says = rw q at (root_size r f (0 + sizes rs) b.standing.1) }

-- of the rules that the first `end` cells make, those that are left when the walk back has come to `at`
pub record Left (f : ℕ → Cell) (from end at : ℕ) : Type 0 where
  rest : Rules
  built : Built f at rest
  same : (rs : Rules) → build f end ≡ some rs → is_some (split rs (end - from)) ≡ is_some (split rest (at - from))

module _ (f : ℕ → Cell) (from end : ℕ) where
  pub left_all : is_some (build f end) ≡ true → Left f from end end
  left_all e =
      let (rs, p) = is_some_true (build f end) e in
      record { rest = rs; built = built f end rs p; same = λ qs q. ap (λ (x : Rules). is_some (split x (end - from))) (cc) }

  pub left_done : (at : ℕ) → from ≡ at → Left f from end at → (rs : Rules) → build f end ≡ some rs → true ≡ is_some (split rs (end - from))
  left_done at p l rs e =
      let z : at - from ≡ 0 = omega arith in
      sym (l.same rs e ∙ rw (z, split_zero l.rest))

  -- the cell before `at` says z, which is the size of the last rule that is left
  module _ (at z : ℕ) (says : z ≡ (f (at - 1)).size) (lt : from < at) (l : Left f from end at) where
    left_last : Last f at l.rest
    left_last = last f at l.rest (omega arith) l.built

    pub left_back : (0 < z) × (z ≤ at)
    left_back =
        let d = left_last in
        let p = size_pos d.child in
        omega arith

    pub left_no : at - from < z → (rs : Rules) → build f end ≡ some rs → false ≡ is_some (split rs (end - from))
    left_no h rs e =
        let d = left_last in
        sym (l.same rs e ∙ rw d.is (split_no d.before d.child (at - from) (omega arith) (omega arith)))

    pub left_on : z ≤ at - from → Left f from end (at - z)
    left_on h =
        let d = left_last in
        let p : at - from - size d.child ≡ at - z - from = omega arith in
        record {
          rest = d.before;
          built = record { standing = d.standing; sized = omega arith };
          same = λ rs e. l.same rs e ∙ ap (λ (x : Rules). is_some (split x (at - from))) d.is
              ∙ rw (← p) (split_on d.before d.child (at - from) (omega arith) (omega arith));
        }

-- what a kind and an argument mean
argument_0 : (a : ℕ) (j : Join) → a ≤ 0 → argument0 a j ≡ join_meaning j
argument_0 zero j h = refl
argument_0 (suc a) j h = absurd (omega arith)

argument_more : (a : ℕ) (j : Join) → 0 < a → argument0 a j ≡ nothing
argument_more zero j h = absurd (omega arith)
argument_more (suc a) j h = refl

-- a node whose kind and argument are a combinator's
pub record Joins (d : Node) : Type 0 where
  pub low : at_least_kind ≤ d.kind
  pub high : d.kind ≤ any_kind
  pub plain : at_least_kind < d.kind → d.arg ≤ 0

module _ (s : List ℕ) (n : ℕ) where
  leaf_meant : (k a : ℕ) → k ≤ readable_kind → (l : Leaf) × (meaning s n k a ≡ leaf_meaning l)
  unfolding meaning
  leaf_meant zero a h = (named (name_of s n a), refl)
  leaf_meant (suc zero) a h = (older_than a, refl)
  leaf_meant (suc (suc zero)) a h = (readable a, refl)
  leaf_meant (suc (suc (suc k))) a h = absurd (omega arith)

  is_join : (k a : ℕ) → at_least_kind ≤ k → k ≤ any_kind → (at_least_kind < k → a ≤ 0) → (j : Join) × (meaning s n k a ≡ join_meaning j)
  unfolding meaning
  is_join zero a h i p = absurd (omega arith)
  is_join (suc zero) a h i p = absurd (omega arith)
  is_join (suc (suc zero)) a h i p = absurd (omega arith)
  is_join (suc (suc (suc zero))) a h i p = (at_least a, refl)
  is_join (suc (suc (suc (suc zero)))) a h i p = (all, argument_0 a all (p (omega arith)))
  is_join (suc (suc (suc (suc (suc zero))))) a h i p = (any, argument_0 a any (p (omega arith)))
  is_join (suc (suc (suc (suc (suc (suc k)))))) a h i p = absurd (omega arith)

  is_nothing : (k a : ℕ) → is_leaf k ≡ false → (k ≡ at_least_kind → ⊥) → (at_least_kind ≤ k → k ≤ any_kind → 0 < a) → meaning s n k a ≡ nothing
  unfolding meaning
  is_nothing zero a h q p = absurd (omega (arith, leaf_high zero h))
  is_nothing (suc zero) a h q p = absurd (omega (arith, leaf_high (suc zero) h))
  is_nothing (suc (suc zero)) a h q p = absurd (omega (arith, leaf_high (suc (suc zero)) h))
  is_nothing (suc (suc (suc zero))) a h q p = absurd (q refl)
  is_nothing (suc (suc (suc (suc zero)))) a h q p = argument_more a all (p (omega arith) (omega arith))
  is_nothing (suc (suc (suc (suc (suc zero))))) a h q p = argument_more a any (p (omega arith) (omega arith))
  is_nothing (suc (suc (suc (suc (suc (suc k)))))) a h q p = refl

  pub cell_size : (i : ℕ) {d : Node} → d ≡ node_at s n i → d.size ≡ (cell_at s n i).size
  unfolding cell_at
  cell_size i e = ap (λ (x : Node). x.size) e

  -- whether node i, as it was read, can follow the rules that the nodes before it make
  module _ (i : ℕ) {d : Node} (e : d ≡ node_at s n i) (ready : is_some (build (cell_at s n) i) ≡ true) where
    fits_when : (w : Meaning) (b : Bool) → meaning s n d.kind d.arg ≡ w →
        ((rs : Rules) → build (cell_at s n) i ≡ some rs → is_some (place w d.size rs) ≡ b) → b ≡ is_some (build (cell_at s n) (suc i))
    unfolding build cell_at
    fits_when w b m h =
        let (rs, p) = is_some_true (build (cell_at s n) i) ready in
        sym (rw (p, ← e, m) (h rs p))

    pub fits_leaf : is_leaf d.kind ≡ true → eqb d.size 1 ≡ is_some (build (cell_at s n) (suc i))
    unfolding place
    fits_leaf h =
        let (l, m) = leaf_meant d.kind d.arg (leaf_low d.kind h) in
        fits_when (leaf_meaning l) (eqb d.size 1) m (λ rs p. by (eqb d.size 1) (more rs (leaf l)))
      where
        by : (b : Bool) (rs : Rules) → is_some (when b (some rs)) ≡ b
        by true rs = refl
        by false rs = refl

    pub fits_unknown : is_leaf d.kind ≡ false → (d.kind ≡ at_least_kind → ⊥) →
        (at_least_kind ≤ d.kind → d.kind ≤ any_kind → 0 < d.arg) → false ≡ is_some (build (cell_at s n) (suc i))
    unfolding place
    fits_unknown h q p = fits_when nothing false (is_nothing d.kind d.arg h q p) (λ rs e. refl)

    module _ (joins : Joins d) where
      a_join : (j : Join) × (meaning s n d.kind d.arg ≡ join_meaning j)
      a_join = is_join d.kind d.arg joins.low joins.high joins.plain

      pub fits_bad_size : (2 ≤ d.size → d.size ≤ i + 1 → ⊥) → false ≡ is_some (build (cell_at s n) (suc i))
      unfolding place
      fits_bad_size never =
          let (j, m) = a_join in
          fits_when (join_meaning j) false m (λ rs p. close_none j rs (d.size - 1) (λ x y. never (omega arith) (omega (arith, (built (cell_at s n) i rs p).sized))))

      pub fits_join : 2 ≤ d.size → d.size ≤ i + 1 → (b : Bool) →
          ((rs : Rules) → build (cell_at s n) i ≡ some rs → b ≡ is_some (split rs (i - (i + 1 - d.size)))) → b ≡ is_some (build (cell_at s n) (suc i))
      unfolding place
      fits_join h k b says =
          let (j, m) = a_join in
          let q : d.size - 1 ≡ i - (i + 1 - d.size) = omega arith in
          fits_when (join_meaning j) b m (λ rs p. close_split j rs (d.size - 1) (omega arith) ∙ rw q (sym (says rs p)))

-- whether all nodes make one rule
module _ (f : ℕ → Cell) (n : ℕ) where
  pub fits_stop : (i : ℕ) → i < n → is_some (build f (suc i)) ≡ false → false ≡ is_some (bind (build f n) only)
  unfolding build
  fits_stop i h e = rw (stays_none (build f) (λ j p. rw p) (suc i) n h (is_some_false (build f (suc i)) e))

  only_last : (rs : Rules) (r : Rule) → sizes rs + size r ≡ n → eqb (size r) n ≡ is_some (only (more rs r))
  unfolding size
  only_last nil r h = eq-eqb (size r) n (omega arith)
  only_last (more rs q) r h = let p = size_pos q in ne_eqb (size r) n (λ e. omega arith)

  pub fits_root : (z : ℕ) → z ≡ (f (n - 1)).size → 0 < n → is_some (build f n) ≡ true → eqb z n ≡ is_some (bind (build f n) only)
  fits_root z says h e =
      let (rs, p) = is_some_true (build f n) e in
      let d = last f n rs h (built f n rs p) in
      let q : z ≡ size d.child = says ∙ d.says in
      rw (p, d.is, q) (only_last d.before d.child d.sized)
