-- A larger age and more confirmed names never turn evict into keep, and of a list of names only what is on it counts.
-- Assumes nothing.
use mathlib.Core.Path.{◌≡◌, refl, sym, ◌∙◌}
use mathlib.Core.Bool.{Bool, true, false, cond, ◌&&◌, true≢false, false≢true}
use mathlib.Core.List.Memᴰ
use mathlib.Core.List.{List, [], ◌∷◌, ◌++◌, Memᴰ}
use Prim.Native.Nat.{ℕ, suc, ◌≤◌}
use native.Mathlib.Omega.{arith}
use lib.ListN.{length}
use borrow.Author.Tests.{leb-true, le-leb, eqb-true, eq-eqb}
use Rattle.rules.specs.Rule.{Leaf, named, older_than, readable, Join, at_least, all, any, Rule, leaf, node, Rules, nil, more, leaf_names, names_in, names_in_all}
use Rattle.store_table.specs.Names.{has}
use Rattle.store_table.specs.Stores.{Entry, is_readable, ready_count}
use Rattle.evaluate.specs.Evict.{Env, env_of, leaf_says, count_true, join_says, evict, answers}
use Rattle.evaluate.proofs.Laws.JoinLaws.{yeses_le, yeses_cons, says_at_least, says_all, says_any}

-- ---- tests and counts, where the second test passes if the first does

and_up : (c : Bool) {x y : Bool} → (x ≡ true → y ≡ true) → (c && x) ≡ true → (c && y) ≡ true
and_up true f e = f e
and_up false f e = e

keep_down : {x y : Bool} → (x ≡ true → y ≡ true) → y ≡ false → x ≡ false
keep_down {x = true} f e = absurd (true≢false (sym (f refl) ∙ e))
keep_down {x = false} f e = refl

pub both_ways : {x y : Bool} → (x ≡ true → y ≡ true) → (y ≡ true → x ≡ true) → x ≡ y
both_ways {x = true} f g = sym (f refl)
both_ways {x = false} f g = sym (keep_down g refl)

count_up : {x y : Bool} {m n : ℕ} → (x ≡ true → y ≡ true) → m ≤ n → cond x (suc m) m ≤ cond y (suc n) n
count_up {x = true} {y = true} f h = omega arith
count_up {x = true} {y = false} f h = absurd (false≢true (f refl))
count_up {x = false} {y = true} f h = omega arith
count_up {x = false} {y = false} f h = h

-- ---- readable stores: with more names confirmed, no fewer are ready

pub ready_up : (stores : List Entry) (xs ys : List (List ℕ)) → ((w : List ℕ) → has w xs ≡ true → has w ys ≡ true) → ready_count stores xs ≤ ready_count stores ys
unfolding ready_count
ready_up [] xs ys f = omega arith
ready_up (e ∷ es) xs ys f = count_up (and_up (is_readable e.mode) (f e.name)) (ready_up es xs ys f)

-- ---- combinators

-- as many answers, and no fewer of them evict
record Grown (xs ys : List Bool) : Type 0 where
  evicts : count_true xs ≤ count_true ys
  as_many : length xs ≡ length ys

cons_up : {x y : Bool} {xs ys : List Bool} → (x ≡ true → y ≡ true) → Grown xs ys → Grown (x ∷ xs) (y ∷ ys)
cons_up f g = record { evicts = simp yeses_cons (count_up f g.evicts); as_many = omega arith }

join_up : (j : Join) {xs ys : List Bool} → Grown xs ys → join_says j xs ≡ true → join_says j ys ≡ true
join_up (at_least k) {xs} {ys} g e =
    let h = leb-true k (count_true xs) (sym (says_at_least xs refl k) ∙ e) in
    says_at_least ys refl k ∙ le-leb k (count_true ys) (omega arith)
join_up all {xs} {ys} g e =
    let h = eqb-true (count_true xs) (length xs) (sym (says_all xs refl refl) ∙ e) in
    says_all ys refl refl ∙ eq-eqb (count_true ys) (length ys) (omega (arith, yeses_le ys))
join_up any {xs} {ys} g e =
    let h = leb-true 1 (count_true xs) (sym (says_any xs refl) ∙ e) in
    says_any ys refl ∙ le-leb 1 (count_true ys) (omega arith)

-- ---- rules

-- from one environment to another: those of some names that are confirmed in the first are confirmed in the second
abbrev pub Kept : Env → Env → List (List ℕ) → Type 0
Kept u v ws = (w : List ℕ) → Memᴰ w ws → has w u.names ≡ true → has w v.names ≡ true

module _ (u v : Env) (older : u.age ≤ v.age) (readier : u.ready ≤ v.ready) where
  leaf_up : (l : Leaf) → Kept u v (leaf_names l) → leaf_says l u ≡ true → leaf_says l v ≡ true
  unfolding leaf_says
  leaf_up (named w) f e = f w (Memᴰ.head refl) e
  leaf_up (older_than d) f e = le-leb d v.age (omega (arith, leb-true d u.age e))
  leaf_up (readable k) f e = le-leb k v.ready (omega (arith, leb-true k u.ready e))

  -- what holds of rules and of a rule after them holds of them all
  more_up : (rs : Rules) (r : Rule) → (Kept u v (names_in_all rs) → Grown (answers rs u) (answers rs v)) →
      (Kept u v (names_in r) → evict r u ≡ true → evict r v ≡ true) →
      Kept u v (names_in_all rs ++ names_in r) → Grown (evict r u ∷ answers rs u) (evict r v ∷ answers rs v)
  more_up rs r h k f = cons_up (k (λ w m. f w (Memᴰ.append_right (names_in_all rs) m))) (h (λ w m. f w (Memᴰ.append_left (names_in r) m)))

  mutual
    unfolding evict names_in

    -- only the names that the rule has need be kept
    pub evict_up : (r : Rule) → Kept u v (names_in r) → evict r u ≡ true → evict r v ≡ true
    evict_up (leaf l) f e = leaf_up l f e
    evict_up (node j rs r) f e = join_up j (more_up rs r (λ k. answers_up rs k) (λ k d. evict_up r k d) f) e

    answers_up : (rs : Rules) → Kept u v (names_in_all rs) → Grown (answers rs u) (answers rs v)
    answers_up nil f = record { evicts = omega arith; as_many = refl }
    answers_up (more rs r) f = more_up rs r (λ k. answers_up rs k) (λ k d. evict_up r k d) f

module _ (r : Rule) (stores : List Entry) where
  module _ {a b : ℕ} (xs ys : List (List ℕ)) (older : a ≤ b) (onto : (w : List ℕ) → has w xs ≡ true → has w ys ≡ true) where
    pub monotone : evict r (env_of stores a xs) ≡ true → evict r (env_of stores b ys) ≡ true
    monotone = evict_up (env_of stores a xs) (env_of stores b ys) older (ready_up stores xs ys onto) r (λ w m. onto w)

    -- so a rule that keeps at the largest age, with the most names, always keeps
    pub monotone_keep : evict r (env_of stores b ys) ≡ false → evict r (env_of stores a xs) ≡ false
    monotone_keep = keep_down monotone

  pub as_set : (a : ℕ) (xs ys : List (List ℕ)) → ((w : List ℕ) → has w xs ≡ has w ys) → evict r (env_of stores a xs) ≡ evict r (env_of stores a ys)
  as_set a xs ys f = both_ways (monotone xs ys (omega arith) (λ w e. sym (f w) ∙ e)) (monotone ys xs (omega arith) (λ w e. f w ∙ e))
