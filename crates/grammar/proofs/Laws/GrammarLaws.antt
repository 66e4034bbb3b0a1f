-- What the grammar reads leaves fewer tokens; given enough calls, their bound does not matter; and the equations of the grammar
-- that name no bound. Assumes nothing.
use mathlib.Core.Path.{◌≡◌, refl, sym, ap, ◌∙◌}
use mathlib.Core.List.{List}
use Prim.Native.Nat.{ℕ, zero, suc, ◌+◌, ◌-◌, ◌*◌, ◌≤◌, ◌<◌}
use native.Mathlib.Omega.{arith}
use lib.ListN.{length}
use Rattle.refusals.specs.Refusals.{refusal}
use Rattle.refusals.specs.declared.Cause.TheVariants.{BracketExpected}
use Rattle.tokens.specs.declared.Token.{Token}
use Rattle.tokens.specs.Token.{tokens_from}
use Rattle.rules.specs.Rule.{Join, all, any, Rule, node, Rules, nil, more}
use Rattle.grammar.specs.Grammar.{rest, after, first_place, PrimaryStart, a_leaf, a_group, a_list, refused, primary_start, ParseResult, got, bad, onto, on_rest, close_after, by_start, or_in, or_more, and_in, and_more, primary_in, list_more}
use Rattle.classes.specs.Class.{close_bracket, comma, ampersand, bar}
use Rattle.grammar.specs.Reading.{ended, parse_of}
use Rattle.grammar.specs.Inner.Rules.{start_rest, left_of, or_of, and_of, primary_of, or_rest, and_rest, list_rest}
use Rattle.grammar.proofs.Laws.TakenLaws.{Sign, by_after, on_rest_lem, Begun, head_begun, MadeRule, Holds, or_made, and_made, primary_made}

-- ---- fewer tokens are left
rest_fewer : (vs : List Token) {us : List Token} {n : ℕ} → length vs < n → rest vs ≡ rest us → length us < n
rest_fewer vs {us} l e = let i : vs ≡ us = cc in rw i at l

begun_fewer : (s : List ℕ) (ts : List Token) (h : PrimaryStart) {us : List Token} → Begun s ts h → start_rest h ≡ rest us → length us < length ts
begun_fewer s ts (a_leaf l vs) b e = rest_fewer vs b.taken.fewer e
begun_fewer s ts (a_group vs) b e = rest_fewer vs b.fewer e
begun_fewer s ts (a_list j p vs) b e = rest_fewer vs b.0.fewer e
begun_fewer s ts (refused f) b e = let z : ◌≡◌ {A = ℕ} 0 1 = cc in absurd (omega arith)

pub made_left : (s : List ℕ) (ts : List Token) (g : ParseResult) → Holds (MadeRule s ts) g → left_of g ≤ length ts - 1
made_left s ts (got r us) m = omega (arith, m.taken.fewer)
made_left s ts (bad f) m = omega arith

pub onto_left : (j : Join) (l : Rule) (g : ParseResult) → left_of (onto j l g) ≡ left_of g
onto_left j l (got r us) = refl
onto_left j l (bad f) = refl

module _ (s : List ℕ) where
  pub head_fewer : (d : ℕ) (ts : List Token) {us : List Token} → start_rest (primary_start s d ts) ≡ rest us → length us < length ts
  head_fewer d ts e = begun_fewer s ts (primary_start s d ts) (head_begun s d ts) e

  -- a chain's operand leaves at most these, and so does what follows it
  turn_left : (k : ℕ) (j : Join) (operand : List Token → ParseResult) (again : ParseResult → ParseResult) → Sign k →
      ((vs : List Token) → Holds (MadeRule s vs) (operand vs)) → ((g : ParseResult) → left_of (again g) ≤ left_of g) →
      (l : Rule) (us : List Token) → left_of (on_rest (after k us) (λ vs. again (onto j l (operand vs))) (got l us)) ≤ length us
  turn_left k j operand again p m h l us =
      on_rest_lem (λ g. left_of g ≤ length us) k us _ (got l us) p
      (λ vs t. omega (arith, h (onto j l (operand vs)), onto_left j l (operand vs), made_left s vs (operand vs) (m vs)))
      (omega arith)

  pub or_left : (f d : ℕ) (g : ParseResult) → left_of (or_more f s d g) ≤ left_of g
  unfolding or_in
  or_left zero d g = omega arith
  or_left (suc f) d (bad r) = omega arith
  or_left (suc f) d (got l us) = turn_left bar any (and_in f s d) (or_more f s d) (omega arith) (and_made s f d) (or_left f d) l us

  pub and_left : (f d : ℕ) (g : ParseResult) → left_of (and_more f s d g) ≤ left_of g
  unfolding or_in
  and_left zero d g = omega arith
  and_left (suc f) d (bad r) = omega arith
  and_left (suc f) d (got l us) = turn_left ampersand all (primary_in f s d) (and_more f s d) (omega arith) (primary_made s f d) (and_left f d) l us

  pub list_left : (f d : ℕ) (j : Join) (rs : Rules) (g : ParseResult) → left_of (list_more f s d j rs g) ≤ left_of g
  unfolding or_in
  list_left zero d j rs g = omega arith
  list_left (suc f) d j rs (bad r) = omega arith
  list_left (suc f) d j rs (got r us) =
      on_rest_lem (λ g. left_of g ≤ length us) comma us _ _ (omega arith)
      (λ vs t. omega (arith, list_left f d j (more rs r) (or_in f s (d + 1) vs), made_left s vs (or_in f s (d + 1) vs) (or_made s f (d + 1) vs)))
      (on_rest_lem (λ g. left_of g ≤ length us) close_bracket us _ _ (omega arith) (λ vs t. omega arith) (omega arith))

-- ---- given enough calls, their bound does not matter
head_same : (h : PrimaryStart) (i i' : List Token → ParseResult) (l l' : Join → List Token → ParseResult) →
    ((us : List Token) → start_rest h ≡ rest us → i us ≡ i' us) →
    ((j : Join) (us : List Token) → start_rest h ≡ rest us → l j us ≡ l' j us) → by_start h i l ≡ by_start h i' l'
head_same (a_leaf x us) i i' l l' p q = refl
head_same (a_group us) i i' l l' p q = ap close_after (p us refl)
head_same (a_list j place us) i i' l l' p q = ap (on_rest (after close_bracket us) _) (q j us refl)
head_same (refused f) i i' l l' p q = refl

rest_same : (k : ℕ) (us : List Token) (x y : List Token → ParseResult) (o : ParseResult) → Sign k →
    ((vs : List Token) → length vs < length us → x vs ≡ y vs) → on_rest (after k us) x o ≡ on_rest (after k us) y o
rest_same k us x y o p h = by_after (λ r. on_rest r x o ≡ on_rest r y o) k us p refl (λ vs t. h vs t.fewer)

module _ (s : List ℕ) where
  -- what follows what was read of ts
  then_same : (ts : List Token) (x y : ParseResult) (a b : ParseResult → ParseResult) → Holds (MadeRule s ts) x → x ≡ y →
      ((g : ParseResult) → left_of g ≤ length ts - 1 → a g ≡ b g) → a x ≡ b y
  then_same ts x y a b m e q = q x (made_left s ts x m) ∙ ap b e

  -- a chain's turn
  turn_same : (k : ℕ) (j : Join) (x y : List Token → ParseResult) (a b : ParseResult → ParseResult) → Sign k →
      ((vs : List Token) → Holds (MadeRule s vs) (x vs)) → (l : Rule) (us : List Token) →
      ((vs : List Token) → length vs < length us → x vs ≡ y vs) → ((g : ParseResult) → left_of g < length us → a g ≡ b g) →
      on_rest (after k us) (λ vs. a (onto j l (x vs))) (got l us) ≡ on_rest (after k us) (λ vs. b (onto j l (y vs))) (got l us)
  turn_same k j x y a b p m l us e q =
      rest_same k us _ _ (got l us) p
      (λ vs t. then_same vs (x vs) (y vs) (λ g. a (onto j l g)) (λ g. b (onto j l g)) (m vs) (e vs t) (λ g i. q (onto j l g) (omega (arith, onto_left j l g))))

  mutual
    unfolding or_in

    or_same : (f g d : ℕ) (ts : List Token) → 3 * length ts + 3 ≤ f → 3 * length ts + 3 ≤ g → or_in f s d ts ≡ or_in g s d ts
    or_same zero g d ts h i = absurd (omega arith)
    or_same (suc f) zero d ts h i = absurd (omega arith)
    or_same (suc f) (suc g) d ts h i =
        then_same ts (and_in f s d ts) (and_in g s d ts) (or_more f s d) (or_more g s d) (and_made s f d ts)
        (and_same f g d ts (omega arith) (omega arith)) (λ x l. or_more_same f g d x (omega arith) (omega arith))

    or_more_same : (f g d : ℕ) (x : ParseResult) → 3 * left_of x + 1 ≤ f → 3 * left_of x + 1 ≤ g → or_more f s d x ≡ or_more g s d x
    or_more_same zero g d x h i = absurd (omega arith)
    or_more_same (suc f) zero d x h i = absurd (omega arith)
    or_more_same (suc f) (suc g) d (bad r) h i = refl
    or_more_same (suc f) (suc g) d (got l us) h i =
        turn_same bar any (and_in f s d) (and_in g s d) (or_more f s d) (or_more g s d) (omega arith) (and_made s f d) l us
        (λ vs t. and_same f g d vs (omega arith) (omega arith)) (λ x t. or_more_same f g d x (omega arith) (omega arith))

    and_same : (f g d : ℕ) (ts : List Token) → 3 * length ts + 2 ≤ f → 3 * length ts + 2 ≤ g → and_in f s d ts ≡ and_in g s d ts
    and_same zero g d ts h i = absurd (omega arith)
    and_same (suc f) zero d ts h i = absurd (omega arith)
    and_same (suc f) (suc g) d ts h i =
        then_same ts (primary_in f s d ts) (primary_in g s d ts) (and_more f s d) (and_more g s d) (primary_made s f d ts)
        (primary_same f g d ts (omega arith) (omega arith)) (λ x l. and_more_same f g d x (omega arith) (omega arith))

    and_more_same : (f g d : ℕ) (x : ParseResult) → 3 * left_of x + 1 ≤ f → 3 * left_of x + 1 ≤ g → and_more f s d x ≡ and_more g s d x
    and_more_same zero g d x h i = absurd (omega arith)
    and_more_same (suc f) zero d x h i = absurd (omega arith)
    and_more_same (suc f) (suc g) d (bad r) h i = refl
    and_more_same (suc f) (suc g) d (got l us) h i =
        turn_same ampersand all (primary_in f s d) (primary_in g s d) (and_more f s d) (and_more g s d) (omega arith) (primary_made s f d) l us
        (λ vs t. primary_same f g d vs (omega arith) (omega arith)) (λ x t. and_more_same f g d x (omega arith) (omega arith))

    primary_same : (f g d : ℕ) (ts : List Token) → 3 * length ts + 1 ≤ f → 3 * length ts + 1 ≤ g → primary_in f s d ts ≡ primary_in g s d ts
    primary_same zero g d ts h i = absurd (omega arith)
    primary_same (suc f) zero d ts h i = absurd (omega arith)
    primary_same (suc f) (suc g) d ts h i =
        head_same (primary_start s d ts) _ _ _ _
        (λ us e. let l = head_fewer s d ts e in or_same f g (d + 1) us (omega arith) (omega arith))
        (λ j us e. let l = head_fewer s d ts e in
        then_same us (or_in f s (d + 1) us) (or_in g s (d + 1) us) (list_more f s d j nil) (list_more g s d j nil) (or_made s f (d + 1) us)
        (or_same f g (d + 1) us (omega arith) (omega arith)) (λ x k. list_more_same f g d j nil x (omega arith) (omega arith)))

    list_more_same : (f g d : ℕ) (j : Join) (rs : Rules) (x : ParseResult) → 3 * left_of x + 1 ≤ f → 3 * left_of x + 1 ≤ g →
        list_more f s d j rs x ≡ list_more g s d j rs x
    list_more_same zero g d j rs x h i = absurd (omega arith)
    list_more_same (suc f) zero d j rs x h i = absurd (omega arith)
    list_more_same (suc f) (suc g) d j rs (bad r) h i = refl
    list_more_same (suc f) (suc g) d j rs (got r us) h i =
        rest_same comma us _ _ _ (omega arith)
        (λ vs t. then_same vs (or_in f s (d + 1) vs) (or_in g s (d + 1) vs) (list_more f s d j (more rs r)) (list_more g s d j (more rs r)) (or_made s f (d + 1) vs)
        (or_same f g (d + 1) vs (omega arith) (omega arith)) (λ x k. list_more_same f g d j (more rs r) x (omega arith) (omega arith)))

  -- ---- so each function is the one that has no bound
  module _ (f d : ℕ) where
    module _ (ts : List Token) where
      pub or_fuel : 3 * length ts + 3 ≤ f → or_in f s d ts ≡ or_of s d ts
      unfolding or_of
      or_fuel h = or_same f (3 * length ts + 3) d ts h (omega arith)

      pub and_fuel : 3 * length ts + 2 ≤ f → and_in f s d ts ≡ and_of s d ts
      unfolding and_of
      and_fuel h = and_same f (3 * length ts + 2) d ts h (omega arith)

      pub primary_fuel : 3 * length ts + 1 ≤ f → primary_in f s d ts ≡ primary_of s d ts
      unfolding primary_of
      primary_fuel h = primary_same f (3 * length ts + 1) d ts h (omega arith)

    module _ (g : ParseResult) (h : 3 * left_of g + 1 ≤ f) where
      pub or_more_fuel : or_more f s d g ≡ or_rest s d g
      unfolding or_rest
      or_more_fuel = or_more_same f (3 * left_of g + 1) d g h (omega arith)

      pub and_more_fuel : and_more f s d g ≡ and_rest s d g
      unfolding and_rest
      and_more_fuel = and_more_same f (3 * left_of g + 1) d g h (omega arith)

      pub list_more_fuel : (j : Join) (rs : Rules) → list_more f s d j rs g ≡ list_rest s d j rs g
      unfolding list_rest
      list_more_fuel j rs = list_more_same f (3 * left_of g + 1) d j rs g h (omega arith)

-- ---- the equations without a bound
module _ (s : List ℕ) (d : ℕ) where
  -- or
  pub or_of_lem : (ts : List Token) → or_of s d ts ≡ or_rest s d (and_of s d ts)
  unfolding or_in
  or_of_lem ts =
      let f = 3 * length ts + 2 in
      sym (or_fuel s (suc f) d ts (omega arith)) ∙
      then_same s ts (and_in f s d ts) (and_of s d ts) (or_more f s d) (or_rest s d) (and_made s f d ts)
      (and_fuel s f d ts (omega arith)) (λ g l. or_more_fuel s f d g (omega arith))

  module _ (l : Rule) (us : List Token) where
    pub or_step : or_rest s d (got l us) ≡ on_rest (after bar us) (λ vs. or_rest s d (onto any l (and_of s d vs))) (got l us)
    unfolding or_in
    or_step =
        let f = 3 * length us in
        sym (or_more_fuel s (suc f) d (got l us) (omega arith)) ∙
        turn_same s bar any (and_in f s d) (and_of s d) (or_more f s d) (or_rest s d) (omega arith) (and_made s f d) l us
        (λ vs t. and_fuel s f d vs (omega arith)) (λ g t. or_more_fuel s f d g (omega arith))

  -- and
  pub and_of_lem : (ts : List Token) → and_of s d ts ≡ and_rest s d (primary_of s d ts)
  unfolding or_in
  and_of_lem ts =
      let f = 3 * length ts + 1 in
      sym (and_fuel s (suc f) d ts (omega arith)) ∙
      then_same s ts (primary_in f s d ts) (primary_of s d ts) (and_more f s d) (and_rest s d) (primary_made s f d ts)
      (primary_fuel s f d ts (omega arith)) (λ g l. and_more_fuel s f d g (omega arith))

  module _ (l : Rule) (us : List Token) where
    pub and_step : and_rest s d (got l us) ≡ on_rest (after ampersand us) (λ vs. and_rest s d (onto all l (primary_of s d vs))) (got l us)
    unfolding or_in
    and_step =
        let f = 3 * length us in
        sym (and_more_fuel s (suc f) d (got l us) (omega arith)) ∙
        turn_same s ampersand all (primary_in f s d) (primary_of s d) (and_more f s d) (and_rest s d) (omega arith) (primary_made s f d) l us
        (λ vs t. primary_fuel s f d vs (omega arith)) (λ g t. and_more_fuel s f d g (omega arith))

  -- an argument of a list, and what follows it
  args_same : (f : ℕ) (j : Join) (rs : Rules) (us : List Token) → 3 * length us + 3 ≤ f →
      list_more f s d j rs (or_in f s (d + 1) us) ≡ list_rest s d j rs (or_of s (d + 1) us)
  args_same f j rs us h =
      then_same s us (or_in f s (d + 1) us) (or_of s (d + 1) us) (list_more f s d j rs) (list_rest s d j rs) (or_made s f (d + 1) us)
      (or_fuel s f (d + 1) us h) (λ g l. list_more_fuel s f d g (omega arith) j rs)

  -- a primary
  pub primary_of_lem : (ts : List Token) →
      primary_of s d ts ≡ by_start (primary_start s d ts) (λ us. or_of s (d + 1) us) (λ j us. list_rest s d j nil (or_of s (d + 1) us))
  unfolding or_in
  primary_of_lem ts =
      let f = 3 * length ts in
      sym (primary_fuel s (suc f) d ts (omega arith)) ∙
      head_same (primary_start s d ts) _ _ _ _
      (λ us e. or_fuel s f (d + 1) us (omega (arith, head_fewer s d ts e)))
      (λ j us e. args_same f j nil us (omega (arith, head_fewer s d ts e)))

  -- the arguments of a list
  module _ (j : Join) (rs : Rules) where
    module _ (r : Rule) (us : List Token) where
      pub list_step : list_rest s d j rs (got r us)
          ≡ on_rest (after comma us) (λ vs. list_rest s d j (more rs r) (or_of s (d + 1) vs))
          (on_rest (after close_bracket us) (λ vs. got (node j rs r) vs) (bad (refusal BracketExpected (first_place us))))
      unfolding or_in
      list_step =
          let f = 3 * length us in
          sym (list_more_fuel s (suc f) d (got r us) (omega arith) j rs) ∙
          rest_same comma us _ _ _ (omega arith) (λ vs t. args_same f j (more rs r) vs (omega arith))

-- ---- a text's expression
pub parse_of_lem : (s : List ℕ) → parse_of s ≡ ended (or_of s 0 (tokens_from s 0))
unfolding parse_of or_of
parse_of_lem s = refl
