-- Laws of the parser's promises: an answer by its case, a chain turn by turn, a primary by how it begins, a list item by item.
-- Assumes nothing.
use mathlib.Core.Path.{◌≡◌, refl, sym, ap, ◌∙◌}
use mathlib.Core.List.{List, [], ◌∷◌, ◌++◌}
use Prim.Native.Nat.{ℕ, zero, suc, ◌+◌, ◌-◌, ◌*◌, ◌≤◌, ◌<◌}
use native.Mathlib.Omega.{arith}
use lib.ListN.{length, take, set, length-append, length-set}
use Rattle.std.specs.Prelude.{Result, Ok, Err}
use Rattle.std.specs.Result.{IsErrAnd}
use Rattle.refusals.specs.declared.Refusal.{Refusal}
use Rattle.refusals.specs.Refusals.{refusal}
use Rattle.refusals.specs.declared.Cause.TheVariants.{BracketExpected, EmptyList}
use Rattle.tokens.specs.declared.Token.{Token}
use Rattle.tokens.specs.Token.{tokens_from}
use Rattle.rules.specs.Rule.{Leaf, Join, all, any, Rule, leaf, node, Rules, nil, more, size, sizes}
use Rattle.image.specs.Encode.{join_kind, tag, join_arg, leaf_name, tags, tags_all, args, args_all, names}
use Rattle.image.proofs.Laws.EncodeLaws.{length_tags, length_tags_all}
use Rattle.grammar.specs.Grammar.{Rest, rest, missing, after, first_place, a_leaf, a_group, a_list, refused, primary_start, chain, ParseResult, got, bad, onto, on_rest, close_after, or_in, or_more, and_in, and_more, primary_in, list_more}
use Rattle.classes.specs.Class.{ampersand, bar, comma, close_bracket}
use Rattle.grammar.specs.Inner.Starts.{left}
use Rattle.nodes.specs.Inner.Parses.{Long, Appended, ParsedRule, ParseAnswer, joined, without_root}
use Rattle.nodes.specs.declared.Nodes.{Nodes}
use Rattle.nodes.proofs.Laws.ArrayLaws.{holds_as, holds_join, holds_push, holds_none, rebased}
use Rattle.nodes.proofs.Laws.ChainLaws.{Chains, by_all, by_any, AppendedAll, chained, root_bounds}

-- a refusal that was passed on
pub passed_on : {G : ℕ → ParseResult} {need : ℕ} (s : List ℕ) (at : ℕ) {N : ℕ} (b a : Nodes N) (r : Result ℕ Refusal) {x : Refusal} →
    IsErrAnd r (λ (y : Refusal). y ≡ x) → ((f : ℕ) → need ≤ f → G f ≡ bad x) → ParseAnswer G need s at b a r
passed_on s at b a (Ok e) h not = absurd h
passed_on s at b a (Err y) h not = λ f le. not f le ∙ ap bad (sym h)

-- the same after other nodes, as many, that begin the same way
pub rebase : {G : ℕ → ParseResult} {need : ℕ} {s : List ℕ} {at N : ℕ} {b a b' : Nodes N} {e : ℕ} → b'.n ≡ b.n → b'.m ≡ b.m →
    (take b.n b'.tags ≡ take b.n b.tags) × (take b.n b'.args ≡ take b.n b.args) × (take b.m b'.names ≡ take b.m b.names) →
    ParsedRule G need s at b' a e → ParsedRule G need s at b a e
rebase n m q r = record {
  tree = r.tree;
  says = r.says;
  on = r.on;
  within = r.within;
  fewer = r.fewer;
  some = rw (← n) r.some;
  room = rw (← n) r.room;
  width = rw (← m) r.width;
  holds = holds_as (rebased r.holds n m (rw (n, m) q)) refl (ap (args r.tree) m) refl;
}

-- the arrays that a combinator's node was appended to have room for it
joined_long : (j : Join) (first : ℕ) {N : ℕ} (c : Nodes N) → c.n < N → Long (joined j first c) → (c.n < length c.tags) × (c.n < length c.args)
joined_long j first c room l =
    let t : length (set c.tags c.n (tag (join_kind j) (c.n - first + 1))) ≡ length c.tags = length-set c.tags c.n _ in
    let x : length (set c.args c.n (join_arg j)) ≡ length c.args = length-set c.args c.n _ in
    omega arith

-- ---- a level of the grammar, `or` or `and`: G reads at `at`, Op reads an operand, More continues after what was read
pub record Level (s : List ℕ) (G : ℕ → ParseResult) (More : ℕ → ParseResult → ParseResult) (Op : ℕ → ℕ → ParseResult) (sign : ℕ)
    (j : Join) (at : ℕ) : Type 0 where
  pub chains : Chains j
  pub starts : (f : ℕ) → G (suc f) ≡ More f (Op f at)
  pub fails : (f : ℕ) (x : Refusal) → More (suc f) (bad x) ≡ bad x
  pub stops : (f : ℕ) (t : Rule) (e : ℕ) → after sign (tokens_from s e) ≡ missing → More (suc f) (got t (tokens_from s e)) ≡ got t (tokens_from s e)
  pub turns : (f : ℕ) (t : Rule) (e y : ℕ) → after sign (tokens_from s e) ≡ rest (tokens_from s y) →
      More (suc f) (got t (tokens_from s e)) ≡ More f (onto j t (Op f y))

-- what a loop has read so far
pub record Sofar {N : ℕ} (G : ℕ → ParseResult) (More : ℕ → ParseResult → ParseResult) (need : ℕ) (s : List ℕ) (at : ℕ) (b a : Nodes N) (e : ℕ) : Type 0 where
  pub tree : Rule
  pub says : (f : ℕ) → need ≤ f → (g : ℕ) × (3 * left s e + 1 ≤ g) × (G f ≡ More g (got tree (tokens_from s e)))
  pub on : at < e
  pub within : e ≤ length s
  pub fewer : left s e < left s at
  pub some : b.n < a.n
  pub room : a.n + at ≤ b.n + e
  pub width : a.m + at ≤ b.m + e
  pub holds : Appended tree b a

module _ {s : List ℕ} {G : ℕ → ParseResult} {More : ℕ → ParseResult → ParseResult} {Op : ℕ → ℕ → ParseResult} {sign : ℕ}
    {j : Join} {at : ℕ} (L : Level s G More Op sign j at) where
  -- the first operand was refused
  pub first_refused : {need need' : ℕ} {x : Refusal} → (1 ≤ need) × (need + 1 ≤ need') → ((f : ℕ) → need ≤ f → Op f at ≡ bad x) →
      (f : ℕ) → need' ≤ f → G f ≡ bad x
  first_refused {need} {need'} {x} pos not f h = go f h
    where
      go : (f : ℕ) → need' ≤ f → G f ≡ bad x
      go zero h = absurd (omega arith)
      go (suc zero) h = absurd (omega arith)
      go (suc (suc f)) h = L.starts (suc f) ∙ ap (More (suc f)) (not (suc f) (omega arith)) ∙ L.fails f x

  -- the first operand was read
  pub begin : {need need' N : ℕ} {b a : Nodes N} {e : ℕ} → (3 * left s at + 1 ≤ need) × (need + 1 ≤ need') →
      ParsedRule (λ (f : ℕ). Op f at) need s at b a e → Sofar G More need' s at b a e
  begin {need} {need'} {N} {b} {a} {e} enough r = record {
    tree = r.tree;
    says = go;
    on = r.on;
    within = r.within;
    fewer = r.fewer;
    some = r.some;
    room = r.room;
    width = r.width;
    holds = r.holds;
  }
    where
      go : (f : ℕ) → need' ≤ f → (g : ℕ) × (3 * left s e + 1 ≤ g) × (G f ≡ More g (got r.tree (tokens_from s e)))
      go zero h = absurd (omega arith)
      go (suc g) h = (g, omega (arith, r.fewer), L.starts g ∙ ap (More g) (r.says g (omega arith)))

  -- no sign follows
  pub stop : {need N : ℕ} {b a : Nodes N} {e : ℕ} → after sign (tokens_from s e) ≡ missing → Sofar G More need s at b a e → ParsedRule G need s at b a e
  stop {need} {N} {b} {a} {e} not l = record {
    tree = l.tree;
    says = λ f h. (l.says f h).2 ∙ done (l.says f h).0 (l.says f h).1;
    on = l.on;
    within = l.within;
    fewer = l.fewer;
    some = l.some;
    room = l.room;
    width = l.width;
    holds = l.holds;
  }
    where
      done : (g : ℕ) → 3 * left s e + 1 ≤ g → More g (got l.tree (tokens_from s e)) ≡ got l.tree (tokens_from s e)
      done zero h = absurd (omega arith)
      done (suc g) h = L.stops g l.tree e not

  -- a sign follows, and the text continues at y
  module _ {e y : ℕ} (is : after sign (tokens_from s e) ≡ rest (tokens_from s y)) (fewer : left s y < left s e) where
    -- the operand after it was refused
    pub right_refused : {need need₂ N : ℕ} {b a : Nodes N} {x : Refusal} →
        Sofar G More need s at b a e → need₂ ≤ 3 * left s y + 2 → ((f : ℕ) → need₂ ≤ f → Op f y ≡ bad x) → (f : ℕ) → need ≤ f → G f ≡ bad x
    right_refused {need₂ = need₂} {x = x} l enough not f h = (l.says f h).2 ∙ done (l.says f h).0 (l.says f h).1
      where
        done : (g : ℕ) → 3 * left s e + 1 ≤ g → More g (got l.tree (tokens_from s e)) ≡ bad x
        done zero h = absurd (omega arith)
        done (suc zero) h = absurd (omega arith)
        done (suc (suc g)) h =
            L.turns (suc g) l.tree e y is ∙ ap (λ (o : ParseResult). More (suc g) (onto j l.tree o)) (not (suc g) (omega arith)) ∙ L.fails g x

    -- the operand after it was read, and the chain's node appended
    pub turn : {need need₂ N : ℕ} {b a k c d : Nodes N} {e₂ : ℕ} → e < y → Sofar G More need s at b a e
        → k ≡ without_root (join_kind j) a → need₂ ≤ 3 * left s y + 2
        → ParsedRule (λ (f : ℕ). Op f y) need₂ s y k c e₂
        → c.n < N → Long k → Long d → d ≡ joined j b.n c → Sofar G More need s at b d e₂
    turn {need} {need₂} {N} {b} {a} {k} {c} {d} {e₂} on l q enough r room lk ld w =
        let keeps = root_bounds (join_kind j) q (omega (arith, l.some)) in
        let la : Long a = rw q at lk in
        let lc : (c.n < length c.tags) × (c.n < length c.args) = joined_long j b.n c room (rw w at ld) in
        rw w record {
          tree = chain j l.tree r.tree;
          says = λ f h. let u = l.says f h in let v = says₂ u.0 u.1 in (v.0, v.1, u.2 ∙ v.2);
          on = omega (arith, l.on, r.on);
          within = r.within;
          fewer = omega (arith, l.fewer, r.fewer);
          some = omega (arith, l.some, r.some, keeps);
          room = omega (arith, l.room, r.room, keeps);
          width = omega (arith, l.width, r.width, keeps);
          holds = chained L.chains l.tree r.tree l.holds (omega (arith, r.some)) q r.holds lc;
        }
      where
        says₂ : (g : ℕ) → 3 * left s e + 1 ≤ g →
            (g₂ : ℕ) × (3 * left s e₂ + 1 ≤ g₂) × (More g (got l.tree (tokens_from s e)) ≡ More g₂ (got (chain j l.tree r.tree) (tokens_from s e₂)))
        says₂ zero h = absurd (omega arith)
        says₂ (suc g) h =
            (g, omega (arith, r.fewer), L.turns g l.tree e y is ∙ ap (λ (o : ParseResult). More g (onto j l.tree o)) (r.says g (omega arith)))

-- ---- the levels
pub and_level : (s : List ℕ) (d at : ℕ) →
    Level s (λ (f : ℕ). and_in f s d (tokens_from s at)) (λ (f : ℕ) (g : ParseResult). and_more f s d g)
    (λ (f e : ℕ). primary_in f s d (tokens_from s e)) ampersand all at
unfolding and_in
and_level s d at = record {
  chains = by_all;
  starts = λ f. refl;
  fails = λ f x. refl;
  stops = λ f t e q. rw q;
  turns = λ f t e y q. rw q;
}

pub or_level : (s : List ℕ) (d at : ℕ) →
    Level s (λ (f : ℕ). or_in f s d (tokens_from s at)) (λ (f : ℕ) (g : ParseResult). or_more f s d g) (λ (f e : ℕ). and_in f s d (tokens_from s e)) bar any at
unfolding or_in
or_level s d at = record {
  chains = by_any;
  starts = λ f. refl;
  fails = λ f x. refl;
  stops = λ f t e q. rw q;
  turns = λ f t e y q. rw q;
}

-- ---- a primary, by how it begins
module _ (s : List ℕ) (d at : ℕ) where
  abbrev Says : ParseResult → Type 0
  Says g = (f : ℕ) → 3 * left s at + 1 ≤ f → primary_in f s d (tokens_from s at) ≡ g

  pub head_refused : {x : Refusal} → primary_start s d (tokens_from s at) ≡ refused x → Says (bad x)
  unfolding primary_in
  head_refused q zero le = absurd (omega arith)
  head_refused q (suc f) le = rw q

  head_leaf : {l : Leaf} {us : List Token} → primary_start s d (tokens_from s at) ≡ a_leaf l us → Says (got (leaf l) us)
  unfolding primary_in
  head_leaf q zero le = absurd (omega arith)
  head_leaf q (suc f) le = rw q

  -- a leaf's node was appended, and its name if it has one
  pub leaf_read : (l : Leaf) {e N : ℕ} {b a : Nodes N} → primary_start s d (tokens_from s at) ≡ a_leaf l (tokens_from s e)
      → (at < e) × (e ≤ length s) × (left s e < left s at) → length (leaf_name l) + at ≤ e → Appended (leaf l) b a
      → ParsedRule (λ (f : ℕ). primary_in f s d (tokens_from s at)) (3 * left s at + 1) s at b a e
  unfolding tags args names
  leaf_read l {e} {N} {b} {a} q h short w =
      let one : a.n ≡ b.n + 1 = w.more_tags in
      let more : a.m ≡ b.m + length (leaf_name l) = w.more_names in
      record {
        tree = leaf l;
        says = head_leaf q;
        on = h.0;
        within = h.1;
        fewer = h.2;
        some = omega arith;
        room = omega arith;
        width = omega arith;
        holds = w;
      }

  -- a bracket, after which the text continues at e₀
  module _ {e₀ : ℕ} (q : primary_start s d (tokens_from s at) ≡ a_group (tokens_from s e₀)) (h : (at < e₀) × (e₀ ≤ length s) × (left s e₀ < left s at)) where
    grouped : (g : ParseResult) → ((f : ℕ) → 3 * left s e₀ + 3 ≤ f → or_in f s (d + 1) (tokens_from s e₀) ≡ g) → Says (close_after g)
    unfolding primary_in
    grouped g inner zero le = absurd (omega arith)
    grouped g inner (suc f) le = rw q (ap close_after (inner f (omega arith)))

    pub inner_refused : {x : Refusal} → ((f : ℕ) → 3 * left s e₀ + 3 ≤ f → or_in f s (d + 1) (tokens_from s e₀) ≡ bad x) → Says (bad x)
    inner_refused {x} inner = grouped (bad x) inner

    module _ {N : ℕ} {b a : Nodes N} {e : ℕ}
        (r : ParsedRule (λ (f : ℕ). or_in f s (d + 1) (tokens_from s e₀)) (3 * left s e₀ + 3) s e₀ b a e) where
      pub unclosed : {p : ℕ} → after close_bracket (tokens_from s e) ≡ missing → first_place (tokens_from s e) ≡ p → Says (bad (refusal BracketExpected p))
      unclosed not pl f le =
          grouped (got r.tree (tokens_from s e)) r.says f le
          ∙ ap (λ (x : Rest). on_rest x (λ us. got r.tree us) (bad (refusal BracketExpected (first_place (tokens_from s e))))) not
          ∙ ap (λ (x : ℕ). bad (refusal BracketExpected x)) pl

      pub closed : {y : ℕ} → after close_bracket (tokens_from s e) ≡ rest (tokens_from s y) →
          (e < y) × (y ≤ length s) × (left s y < left s e) → ParsedRule (λ (f : ℕ). primary_in f s d (tokens_from s at)) (3 * left s at + 1) s at b a y
      closed shut lt = record {
        tree = r.tree;
        says = λ f le.
            grouped (got r.tree (tokens_from s e)) r.says f le
            ∙ ap (λ (x : Rest). on_rest x (λ us. got r.tree us) (bad (refusal BracketExpected (first_place (tokens_from s e))))) shut;
        on = omega (arith, r.on);
        within = lt.1;
        fewer = omega (arith, r.fewer);
        some = r.some;
        room = omega (arith, r.room);
        width = omega (arith, r.width);
        holds = r.holds;
      }

-- ---- a list
-- what was read of a list before an argument at e is read
pub record Listing {N : ℕ} (s : List ℕ) (d at : ℕ) (j : Join) (b a : Nodes N) (e : ℕ) : Type 0 where
  pub rules : Rules
  pub says : (f : ℕ) → 3 * left s at + 1 ≤ f →
      (g : ℕ) × (3 * left s e + 3 ≤ g) × (primary_in f s d (tokens_from s at) ≡ list_more g s d j rules (or_in g s (d + 1) (tokens_from s e)))
  pub on : at < e
  pub within : e ≤ length s
  pub fewer : left s e < left s at
  pub room : a.n + at ≤ b.n + e
  pub width : a.m + at ≤ b.m + e
  pub some : b.n ≤ a.n
  pub holds : AppendedAll rules b a

-- and after the last argument so far, up to e
pub record Listed {N : ℕ} (s : List ℕ) (d at : ℕ) (j : Join) (b a : Nodes N) (e : ℕ) : Type 0 where
  pub rules : Rules
  pub last : Rule
  pub says : (f : ℕ) → 3 * left s at + 1 ≤ f →
      (g : ℕ) × (3 * left s e + 4 ≤ g) × (primary_in f s d (tokens_from s at) ≡ list_more g s d j rules (got last (tokens_from s e)))
  pub on : at < e
  pub within : e ≤ length s
  pub fewer : left s e < left s at
  pub room : a.n + at ≤ b.n + e
  pub width : a.m + at ≤ b.m + e
  pub some : b.n < a.n
  pub holds : AppendedAll (more rules last) b a

module _ (s : List ℕ) (d at : ℕ) (j : Join) where
  module _ {place e : ℕ} (q : primary_start s d (tokens_from s at) ≡ a_list j place (tokens_from s e))
      (h : (at < e) × (e ≤ length s) × (left s e < left s at)) where
    pub list_empty : {us : List Token} → after close_bracket (tokens_from s e) ≡ rest us → Says s d at (bad (refusal EmptyList place))
    unfolding primary_in
    list_empty shut zero le = absurd (omega arith)
    list_empty shut (suc f) le = rw (q, shut)

    pub list_begin : {N : ℕ} {b : Nodes N} → after close_bracket (tokens_from s e) ≡ missing → Listing s d at j b b e
    unfolding primary_in tags args names
    list_begin {N} {b} not = record {
      rules = nil;
      says = go;
      on = h.0;
      within = h.1;
      fewer = h.2;
      room = omega arith;
      width = omega arith;
      some = omega arith;
      holds = holds_none;
    }
      where
        go : (f : ℕ) → 3 * left s at + 1 ≤ f →
            (g : ℕ) × (3 * left s e + 3 ≤ g) × (primary_in f s d (tokens_from s at) ≡ list_more g s d j nil (or_in g s (d + 1) (tokens_from s e)))
        go zero le = absurd (omega arith)
        go (suc g) le = (g, omega arith, rw (q, not))

  -- an argument is read at e
  module _ {N : ℕ} {b a : Nodes N} {e : ℕ} (l : Listing s d at j b a e) where
    pub item_refused : {x : Refusal} → ((f : ℕ) → 3 * left s e + 3 ≤ f → or_in f s (d + 1) (tokens_from s e) ≡ bad x) → Says s d at (bad x)
    unfolding list_more
    item_refused {x} not f le = (l.says f le).2 ∙ go (l.says f le).0 (l.says f le).1
      where
        go : (g : ℕ) → 3 * left s e + 3 ≤ g → list_more g s d j l.rules (or_in g s (d + 1) (tokens_from s e)) ≡ bad x
        go zero h = absurd (omega arith)
        go (suc g) h = ap (list_more (suc g) s d j l.rules) (not (suc g) h)

    pub item_read : {c : Nodes N} {e₂ : ℕ} →
        ParsedRule (λ (f : ℕ). or_in f s (d + 1) (tokens_from s e)) (3 * left s e + 3) s e a c e₂ → Listed s d at j b c e₂
    unfolding tags args names
    item_read {c} {e₂} r = record {
      rules = l.rules;
      last = r.tree;
      says = λ f le.
          let v = l.says f le in
          (v.0, omega (arith, v.1, r.fewer), v.2 ∙ ap (list_more v.0 s d j l.rules) (r.says v.0 v.1));
      on = omega (arith, l.on, r.on);
      within = r.within;
      fewer = omega (arith, l.fewer, r.fewer);
      room = omega (arith, l.room, r.room);
      width = omega (arith, l.width, r.width);
      some = omega (arith, l.some, r.some);
      holds = holds_as (holds_join l.holds r.holds) refl (ap (λ (x : ℕ). args_all l.rules b.m ++ args r.tree x) l.holds.more_names) refl;
    }

  -- an argument was read up to e
  module _ {N : ℕ} {b a : Nodes N} {e : ℕ} (l : Listed s d at j b a e) where
    after_item : (f : ℕ) → 3 * left s at + 1 ≤ f →
        (g : ℕ) × (3 * left s e + 3 ≤ g) × (primary_in f s d (tokens_from s at) ≡ list_more (suc g) s d j l.rules (got l.last (tokens_from s e)))
    after_item f le = let v = go (l.says f le).0 (l.says f le).1 in (v.0, v.1, (l.says f le).2 ∙ v.2)
      where
        go : (g : ℕ) → 3 * left s e + 4 ≤ g →
            (g₂ : ℕ) × (3 * left s e + 3 ≤ g₂)
            × (list_more g s d j l.rules (got l.last (tokens_from s e)) ≡ list_more (suc g₂) s d j l.rules (got l.last (tokens_from s e)))
        go zero h = absurd (omega arith)
        go (suc g) h = (g, omega arith, refl)

    -- neither a comma nor a bracket follows
    pub list_unclosed : {p : ℕ} → after comma (tokens_from s e) ≡ missing → after close_bracket (tokens_from s e) ≡ missing →
        first_place (tokens_from s e) ≡ p → Says s d at (bad (refusal BracketExpected p))
    unfolding list_more
    list_unclosed c o pl f le = let v = after_item f le in v.2 ∙ rw (c, o, pl)

    pub list_turn : {y : ℕ} → after comma (tokens_from s e) ≡ rest (tokens_from s y) →
        (e < y) × (y ≤ length s) × (left s y < left s e) → Listing s d at j b a y
    unfolding list_more
    list_turn c lt = record {
      rules = more l.rules l.last;
      says = λ f le. let v = after_item f le in (v.0, omega (arith, v.1), v.2 ∙ rw c);
      on = omega (arith, l.on);
      within = lt.1;
      fewer = omega (arith, l.fewer);
      room = omega (arith, l.room);
      width = omega (arith, l.width);
      some = omega (arith, l.some);
      holds = l.holds;
    }

    pub list_stop : {c : Nodes N} {y : ℕ} → after comma (tokens_from s e) ≡ missing →
        after close_bracket (tokens_from s e) ≡ rest (tokens_from s y) → (e < y) × (y ≤ length s) × (left s y < left s e)
        → a.n < N → Long c → c ≡ joined j b.n a
        → ParsedRule (λ (f : ℕ). primary_in f s d (tokens_from s at)) (3 * left s at + 1) s at b c y
    unfolding list_more tags args names
    list_stop {c} shut_not shut lt room lc w =
        let la : (a.n < length a.tags) × (a.n < length a.args) = joined_long j b.n a room (rw w at lc) in
        let rs : Rules = l.rules in
        let t : Rule = l.last in
        let sz : a.n - b.n + 1 ≡ suc (sizes rs + size t) =
        omega (arith, l.holds.more_tags, length-append (tags_all rs) (tags t), length_tags_all rs, length_tags t) in
        rw w record {
          tree = node j rs t;
          says = λ f le. let v = after_item f le in v.2 ∙ rw (shut_not, shut);
          on = omega (arith, l.on);
          within = lt.1;
          fewer = omega (arith, l.fewer);
          some = omega (arith, l.some);
          room = omega (arith, l.room);
          width = omega (arith, l.width);
          holds = holds_as
              (holds_push l.holds (tag (join_kind j) (a.n - b.n + 1)) (join_arg j) la.0 la.1)
              (ap (λ (x : ℕ). (tags_all rs ++ tags t) ++ tag (join_kind j) x ∷ []) sz) refl refl;
        }
