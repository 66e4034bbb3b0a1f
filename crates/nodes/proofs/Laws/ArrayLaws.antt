-- Laws of what nodes hold after others: joined, one more, one less. Assumes nothing.
use mathlib.Core.Path.{◌≡◌, refl, sym, ap, ◌∙◌}
use mathlib.Core.List.{List, [], ◌∷◌, ◌++◌, append_assoc, append-nil}
use Prim.Native.Nat.{ℕ, ◌+◌, ◌-◌, ◌≤◌, ◌<◌}
use native.Mathlib.Numerals.{add-one}
use native.Mathlib.Omega.{arith}
use lib.ListN.{length, take, set, get_or, length-append}
use lib.Seq.{take_at, get_or_at, take-take, get_or-take, take-suc-set, length-take-le}
use Rattle.nodes.specs.Inner.Parses.{Holds, pushed}
use Rattle.nodes.specs.declared.Nodes.{Nodes}

-- ---- the first elements of a list
cut : (a b T : List ℕ) (n m : ℕ) → take m a ≡ take n b ++ T → m ≡ n + length T → n ≤ length b → take n a ≡ take n b
cut a b T n m e h fits =
    let le : n ≤ m = omega arith in
    sym (take-take n m a le) ∙ ap (take n) e ∙ take_at (take n b) T n (length-take-le n b fits)

join : (a b c T U : List ℕ) (n m l : ℕ) → take m a ≡ take n b ++ T → take l c ≡ take m a ++ U → take l c ≡ take n b ++ (T ++ U)
join a b c T U n m l e h = h ∙ ap (λ (x : List ℕ). x ++ U) e ∙ append_assoc (take n b) T U

pub snoc : (a b c T : List ℕ) (n m x : ℕ) → take m a ≡ take n b ++ T → m < length a → c ≡ set a m x → take (m + 1) c ≡ take n b ++ (T ++ x ∷ [])
snoc a b c T n m x e lt h =
    ap (λ (l : List ℕ). take (m + 1) l) h
    ∙ ap (λ (i : ℕ). take i (set a m x)) (add-one m)
    ∙ take-suc-set a m x lt
    ∙ ap (λ (l : List ℕ). l ++ x ∷ []) e
    ∙ append_assoc (take n b) T (x ∷ [])

-- the last of the first m, and those before it
module _ (a b T : List ℕ) (n m x : ℕ) (e : take m a ≡ take n b ++ (T ++ x ∷ [])) (h : m ≡ n + length (T ++ x ∷ [])) (fits : n ≤ length b) where
  head_long : length (take n b ++ T) + 1 ≡ m
  head_long = omega (arith, length-append (take n b) T, length-append T (x ∷ []), length-take-le n b fits)

  regrouped : take m a ≡ (take n b ++ T) ++ x ∷ []
  regrouped = e ∙ sym (append_assoc (take n b) T (x ∷ []))

  pub unsnoc : take (m - 1) a ≡ take n b ++ T
  unsnoc =
      let le : m - 1 ≤ m = omega arith in
      sym (take-take (m - 1) m a le) ∙ ap (take (m - 1)) regrouped ∙ take_at (take n b ++ T) (x ∷ []) (m - 1) (omega (arith, head_long))

  pub last_is : get_or a (m - 1) 0 ≡ x
  last_is =
      let lt : m - 1 < m = omega (arith, head_long) in
      sym (get_or-take m a (m - 1) 0 lt) ∙ ap (λ (l : List ℕ). get_or l (m - 1) 0) regrouped ∙ get_or_at (take n b ++ T) x [] 0 (m - 1) (omega (arith, head_long))

-- ---- what nodes hold after others
module _ {N : ℕ} {b a : Nodes N} {T A W : List ℕ} (h : Holds b a T A W) where
  pub holds_as : {T' A' W' : List ℕ} → T ≡ T' → A ≡ A' → W ≡ W' → Holds b a T' A' W'
  holds_as p q r = record {
    tags = h.tags ∙ ap (λ (x : List ℕ). take b.n b.tags ++ x) p;
    args = h.args ∙ ap (λ (x : List ℕ). take b.n b.args ++ x) q;
    names = h.names ∙ ap (λ (x : List ℕ). take b.m b.names ++ x) r;
    more_tags = h.more_tags ∙ ap (λ (x : List ℕ). b.n + length x) p;
    more_args = h.more_args ∙ ap (λ (x : List ℕ). b.n + length x) q;
    more_names = h.more_names ∙ ap (λ (x : List ℕ). b.m + length x) r;
  }

  pub holds_join : {c : Nodes N} {T' A' W' : List ℕ} → Holds a c T' A' W' → Holds b c (T ++ T') (A ++ A') (W ++ W')
  holds_join {c} {T'} {A'} {W'} g = record {
    tags = join a.tags b.tags c.tags T T' b.n a.n c.n h.tags g.tags;
    args = join a.args b.args c.args A A' b.n a.n c.n h.args g.args;
    names = join a.names b.names c.names W W' b.m a.m c.m h.names g.names;
    more_tags = omega (arith, h.more_tags, g.more_tags, length-append T T');
    more_args = omega (arith, h.more_args, g.more_args, length-append A A');
    more_names = omega (arith, h.more_names, g.more_names, length-append W W');
  }

  pub holds_push : (x y : ℕ) → a.n < length a.tags → a.n < length a.args → Holds b (pushed x y a) (T ++ x ∷ []) (A ++ y ∷ []) W
  holds_push x y lt la = record {
    tags = snoc a.tags b.tags (set a.tags a.n x) T b.n a.n x h.tags lt refl;
    args = snoc a.args b.args (set a.args a.n y) A b.n a.n y h.args la refl;
    names = h.names;
    more_tags = omega (arith, h.more_tags, length-append T (x ∷ []));
    more_args = omega (arith, h.more_args, length-append A (y ∷ []));
    more_names = h.more_names;
  }

  -- what was there before is still there
  pub front : b.n ≤ length b.tags → b.n ≤ length b.args → b.m ≤ length b.names →
      (take b.n a.tags ≡ take b.n b.tags) × (take b.n a.args ≡ take b.n b.args) × (take b.m a.names ≡ take b.m b.names)
  front lt la lw = (
    cut a.tags b.tags T b.n a.n h.tags h.more_tags lt,
    cut a.args b.args A b.n a.n h.args h.more_args la,
    cut a.names b.names W b.m a.m h.names h.more_names lw,
  )

  -- and the same after others, as many, that begin the same way
  pub rebased : {b' : Nodes N} → b.n ≡ b'.n → b.m ≡ b'.m →
      (take b.n b.tags ≡ take b.n b'.tags) × (take b.n b.args ≡ take b.n b'.args) × (take b.m b.names ≡ take b.m b'.names) → Holds b' a T A W
  rebased n m q = record {
    tags = h.tags ∙ rw (q.0, n);
    args = h.args ∙ rw (q.1, n);
    names = h.names ∙ rw (q.2, m);
    more_tags = rw (← n) h.more_tags;
    more_args = rw (← n) h.more_args;
    more_names = rw (← m) h.more_names;
  }

pub holds_none : {N : ℕ} {b : Nodes N} → Holds b b [] [] []
holds_none {N} {b} = record {
  tags = sym (append-nil (take b.n b.tags));
  args = sym (append-nil (take b.n b.args));
  names = sym (append-nil (take b.m b.names));
  more_tags = omega arith;
  more_args = omega arith;
  more_names = omega arith;
}
