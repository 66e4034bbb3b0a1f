-- What the grammar takes of a list of tokens: no fault, and fewer are left; each node of the rule had a token of its own that is
-- not the end, each byte of its names is in a word, and 8 bytes hold its numbers. A primary that does not begin is refused with a
-- number among 2 to 15. Assumes nothing.
use mathlib.Core.Path.{◌≡◌, refl}
use mathlib.Core.Bool.{Bool, true, false, cond}
use mathlib.Core.List.{List, [], ◌∷◌, ◌++◌}
use Prim.Native.Nat.{ℕ, zero, suc, ◌+◌, ◌-◌, ◌^◌, ◌≤◌, ◌<◌, min}
use native.Mathlib.Omega.{arith}
use borrow.Author.Tests.{eqb-true}
use lib.Dec.{eqb, ltb}
use lib.ListN.{length, drop, length-append, length-take, length-drop}
use Rattle.std.specs.Prelude.{Option, Some, None}
use Rattle.slices.specs.Text.{bytes, part, all_ascii}
use Rattle.ascii.specs.Letters.{equal_ignoring_case}
use Rattle.refusals.specs.declared.Refusal.{Refusal}
use Rattle.refusals.specs.Refusals.{number, refusal}
use Rattle.refusals.specs.declared.Cause.{Cause}
use Rattle.refusals.specs.declared.Cause.TheVariants.{BracketExpected, MissingArgument, TooDeep}
use Rattle.tokens.specs.declared.Token.{Token}
use Rattle.tokens.specs.declared.Token.TheVariants.{End, Open, Close, Comma, And, Or, Word, Fault}
use Rattle.decimal.specs.Count.{count_of}
use Rattle.durations.specs.Duration.{duration_of}
use Rattle.rules.specs.Rule.{named, readable, Join, at_least, all, any, Rule, leaf, node, Rules, nil, more, size, sizes}
use Rattle.image.specs.Encode.{leaf_arg, leaf_name, join_kind, join_arg, names, names_all, Small, SmallAll}
use Rattle.grammar.specs.declared.Function.{Function}
use Rattle.grammar.specs.declared.Function.TheVariants.{OlderThan, Readable, Any, All, AtLeast}
use Rattle.grammar.specs.Grammar.{token_kind, Rest, rest, missing, after, first_place, PrimaryStart, a_leaf, a_group, a_list, refused, refuse, expecting, expected_word, require_word, valued, older_than_start, readable_start, at_least_start, function_of, call_start, unquoted_leaf, opened, unquoted_start, word_start, primary_start, chain, left_rules, ParseResult, got, bad, onto, on_rest, close_after, by_start, or_in, or_more, and_in, and_more, primary_in, list_more}
use Rattle.classes.specs.Class.{open_bracket, close_bracket, comma, ampersand, bar}
use Rattle.slices.proofs.Laws.AsciiLaws.{append_ascii}
use Rattle.grammar.proofs.Laws.AsciiLaws.{part_ascii}
use Rattle.grammar.proofs.Laws.SmallLaws.{count_small, duration_small}

-- ---- what tokens can pay for: a node for each but the end, and a byte of a name for each byte of a word
abbrev pub nodes_for : List Token → ℕ
nodes_for [] = 0
nodes_for (t ∷ ts) = min 1 (token_kind t) + nodes_for ts

abbrev pub word_length : Token → ℕ
word_length (End p) = 0
word_length (Open p n) = 0
word_length (Close p n) = 0
word_length (Comma p n) = 0
word_length (And p n) = 0
word_length (Or p n) = 0
word_length (Word w) = w.end - w.start
word_length (Fault f) = 0

abbrev pub bytes_for : List Token → ℕ
bytes_for [] = 0
bytes_for (t ∷ ts) = word_length t + bytes_for ts

-- the faults among tokens
abbrev pub faults_in : List Token → ℕ
faults_in [] = 0
faults_in (t ∷ ts) = token_kind t - 6 + faults_in ts

-- tokens were taken off ts until us were left, no fault among them, and paid for x nodes with y bytes of names
pub record Taken (ts us : List Token) (x y : ℕ) : Type 0 where
  pub fewer : length us < length ts
  pub clean : faults_in ts ≡ faults_in us
  pub nodes : x + nodes_for us ≤ nodes_for ts
  pub bytes : y + bytes_for us ≤ bytes_for ts

-- the nodes have these names, and S says that 8 bytes hold their numbers; s is the text
pub record TakenNamed (s : List ℕ) (ts us : List Token) (x : ℕ) (ws : List ℕ) (S : Type 0) : Type 0 where
  pub taken : Taken ts us x (length ws)
  pub ascii : all_ascii s ≡ true → all_ascii ws ≡ true
  pub small : length s < 2 ^ 64 → S

-- ---- a sign
-- the kind of a bracket, a comma or a sign
abbrev pub Sign : ℕ → Type 0
Sign k = (0 < k) × (k < 6)

after_taken : (k : ℕ) (ts : List Token) {us : List Token} → Sign k → after k ts ≡ rest us → Taken ts us 1 0
unfolding after
after_taken k [] {us} l e = let z : ◌≡◌ {A = ℕ} 0 1 = cc in absurd (omega arith)
after_taken k (t ∷ ts) {us} l e = go (eqb (token_kind t) k) refl e
  where
    go : (v : Bool) → eqb (token_kind t) k ≡ v → cond v (rest ts) missing ≡ rest us → Taken (t ∷ ts) us 1 0
    go true q i = let j : us ≡ ts = cc in rw j (omega (arith, eqb-true (token_kind t) k q))
    go false q i = let z : ◌≡◌ {A = ℕ} 0 1 = cc in absurd (omega arith)

-- either way of one that is looked for
pub by_after : (P : Rest → Type 0) (k : ℕ) (ts : List Token) → Sign k → P missing → ((us : List Token) → Taken ts us 1 0 → P (rest us)) → P (after k ts)
by_after P k ts l m f = go (after k ts) refl
  where
    go : (r : Rest) → after k ts ≡ r → P r
    go (rest us) e = f us (after_taken k ts l e)
    go missing e = m

-- ---- how a primary begins
-- the refusals of a text: the table's 2 to 15
abbrev pub Numbered : Refusal → Type 0
Numbered f = (2 ≤ number f.cause) × (number f.cause ≤ 15)

abbrev pub Begun : List ℕ → List Token → PrimaryStart → Type 0
Begun s ts (a_leaf l us) = TakenNamed s ts us 1 (leaf_name l) (leaf_arg l 0 < 2 ^ 64)
Begun s ts (a_group us) = Taken ts us 1 0
Begun s ts (a_list j p us) = Taken ts us 1 0 × (join_arg j < 2 ^ 64)
Begun s ts (refused f) = Numbered f

-- a part of a text is no longer than its bounds say, nor than the text
part_short : (s : List ℕ) (a b : ℕ) → (length (part s a b) ≤ b - a) × (length (part s a b) ≤ length s)
unfolding part
part_short s a b = omega (arith, length-take (b - a) (drop a s), length-drop a s)

module _ (s : List ℕ) (ts : List Token) where
  closed_begun : (us : List Token) (p : ℕ) (then : List Token → PrimaryStart) →
      ((vs : List Token) → Taken us vs 1 0 → Begun s ts (then vs)) → Begun s ts (expecting BracketExpected (after close_bracket us) p then)
  closed_begun us p then f = by_after (λ r. Begun s ts (expecting BracketExpected r p then)) close_bracket us (omega arith) (omega arith) f

  valued_begun : (x : Option ℕ) (c : Cause) (p : ℕ) (then : ℕ → PrimaryStart) → Numbered (refusal c p) →
      ((n : ℕ) → x ≡ Some n → Begun s ts (then n)) → Begun s ts (valued x c p then)
  valued_begun (Some n) c p then l f = f n refl
  valued_begun None c p then l f = l

  expected_begun : (us : List Token) (then : ℕ → List ℕ → List Token → PrimaryStart) →
      ((p : ℕ) (w : List ℕ) (vs : List Token) → Taken us vs 1 0 → Begun s ts (then p w vs)) → Begun s ts (require_word (expected_word s us) then)
  unfolding expected_word
  expected_begun [] then f = omega arith
  expected_begun (End p ∷ us) then f = omega arith
  expected_begun (Open p n ∷ us) then f = omega arith
  expected_begun (Close p n ∷ us) then f = omega arith
  expected_begun (Comma p n ∷ us) then f = omega arith
  expected_begun (And p n ∷ us) then f = omega arith
  expected_begun (Or p n ∷ us) then f = omega arith
  expected_begun (Word w ∷ us) then f = f w.place (part s w.start w.end) us (omega arith)
  expected_begun (Fault g ∷ us) then f = omega arith

  opened_begun : (d p : ℕ) (h : PrimaryStart) → Begun s ts h → Begun s ts (opened d p h)
  opened_begun d p h b = go (ltb d 64)
    where
      go : (v : Bool) → Begun s ts (cond v h (refuse TooDeep p))
      go true = b
      go false = omega arith

  -- a leaf that has no name
  number_made : {us : List Token} {n : ℕ} → Taken ts us 1 0 → n < 2 ^ 64 → TakenNamed s ts us 1 [] (n < 2 ^ 64)
  unfolding all_ascii
  number_made t l = record { taken = t; ascii = λ _. refl; small = λ _. l }

  -- a function, of which the word and its bracket were taken
  module _ (us : List Token) (t : Taken ts us 1 0) where
    older_begun : Begun s ts (older_than_start s us)
    unfolding older_than_start
    older_begun =
        expected_begun us _ (λ p w vs i. closed_begun vs _ _ (λ xs j.
        valued_begun (duration_of w) _ _ _ (omega arith) (λ n e. number_made (omega arith) (duration_small w e))))

    readable_begun : Begun s ts (readable_start s us)
    unfolding readable_start
    readable_begun =
        expected_begun us _ (λ p w vs i. valued_begun (count_of w) _ _ _ (omega arith) (λ n e.
        closed_begun vs _ _ (λ xs j. number_made (omega arith) (count_small w e))))

    at_least_begun : (place : ℕ) → Begun s ts (at_least_start s place us)
    unfolding at_least_start
    at_least_begun place =
        expected_begun us _ (λ p w vs i. valued_begun (count_of w) _ _ _ (omega arith) (λ n e.
        by_after (λ r. Begun s ts (expecting MissingArgument r (first_place vs) (a_list (at_least n) place))) comma vs (omega arith)
        (omega arith) (λ xs j. (omega arith, count_small w e))))

    call_begun : (place : ℕ) (f : Option Function) → Begun s ts (call_start s place f us)
    call_begun place (Some OlderThan) = older_begun
    call_begun place (Some Readable) = readable_begun
    call_begun place (Some Any) = (t, omega arith)
    call_begun place (Some All) = (t, omega arith)
    call_begun place (Some AtLeast) = at_least_begun place
    call_begun place None = omega arith

  -- a name
  name_made : (us : List Token) (a b : ℕ) → Taken ts us 1 (b - a) → Begun s ts (a_leaf (named (part s a b)) us)
  name_made us a b t = record { taken = omega (arith, part_short s a b); ascii = part_ascii s a b; small = λ i. omega (arith, part_short s a b) }

  -- an unquoted word alone
  unquoted_made : (us : List Token) (a b : ℕ) → Taken ts us 1 (b - a) → Begun s ts (a_leaf (unquoted_leaf (part s a b)) us)
  unfolding unquoted_leaf
  unquoted_made us a b t = go (equal_ignoring_case (part s a b) (bytes "readable"))
    where
      go : (v : Bool) → Begun s ts (a_leaf (cond v (readable 1) (named (part s a b))) us)
      go true = number_made (omega arith) (omega arith)
      go false = name_made us a b t

pub head_begun : (s : List ℕ) (d : ℕ) (ts : List Token) → Begun s ts (primary_start s d ts)
unfolding primary_start
head_begun s d [] = omega arith
head_begun s d (End p ∷ us) = omega arith
head_begun s d (Open p n ∷ us) = opened_begun s (Open p n ∷ us) d p (a_group us) (omega arith)
head_begun s d (Close p n ∷ us) = omega arith
head_begun s d (Comma p n ∷ us) = omega arith
head_begun s d (And p n ∷ us) = omega arith
head_begun s d (Or p n ∷ us) = omega arith
head_begun s d (Word w ∷ us) = go w.quoted
  where
    ts : List Token
    ts = Word w ∷ us

    go : (quoted : Bool) → Begun s ts (word_start s d w.place (part s w.start w.end) quoted us)
    go true = name_made s ts us w.start w.end (omega arith)
    go false =
        by_after (λ r. Begun s ts (unquoted_start s d w.place (part s w.start w.end) us r)) open_bracket us (omega arith)
        (unquoted_made s ts us w.start w.end (omega arith))
        (λ vs t. opened_begun s ts d _ _ (call_begun s ts vs (omega arith) w.place (function_of (part s w.start w.end))))
head_begun s d (Fault f ∷ us) = omega arith

-- ---- rules
abbrev pub MadeRule : List ℕ → List Token → Rule → List Token → Type 0
MadeRule s ts r us = TakenNamed s ts us (size r) (names r) (Small r)

abbrev MadeRules : List ℕ → List Token → Rules → List Token → Type 0
MadeRules s ts rs us = TakenNamed s ts us (sizes rs) (names_all rs) (SmallAll rs)

module _ {s : List ℕ} where
  -- some tokens, and then those that it was made of
  behind : {ts us vs : List Token} {x : ℕ} {ws : List ℕ} {S : Type 0} → Taken ts us 1 0 → TakenNamed s us vs x ws S → TakenNamed s ts vs x ws S
  behind t m = record { taken = omega arith; ascii = m.ascii; small = m.small }

  -- and a token after them
  before : {ts us vs : List Token} {x z : ℕ} {ws : List ℕ} {S : Type 0} → z ≤ x + 1 → TakenNamed s ts us x ws S → Taken us vs 1 0 → TakenNamed s ts vs z ws S
  before l m t = record { taken = omega arith; ascii = m.ascii; small = m.small }

  -- two, with a sign between them
  both : {ts us vs xs : List Token} {x y z : ℕ} {ws zs : List ℕ} {S T : Type 0} → z ≤ x + y + 1 → TakenNamed s ts us x ws S →
      Taken us vs 1 0 → TakenNamed s vs xs y zs T → TakenNamed s ts xs z (ws ++ zs) (S × T)
  both {ws = ws} {zs} l m t n =
      record {
        taken = omega (arith, length-append ws zs);
        ascii = λ h. append_ascii ws zs (m.ascii h) (n.ascii h);
        small = λ h. (m.small h, n.small h);
      }

  -- a combinator over its children
  node_made : {ts us : List Token} (j : Join) (rs : Rules) (r : Rule) → join_arg j < 2 ^ 64 →
      TakenNamed s ts us (suc (sizes rs + size r)) (names_all rs ++ names r) (SmallAll rs × Small r) → MadeRule s ts (node j rs r) us
  unfolding size names Small
  node_made j rs r l m = record { taken = m.taken; ascii = m.ascii; small = λ h. (l, m.small h) }

  -- a child alone
  alone : {ts us : List Token} (r : Rule) → MadeRule s ts r us → MadeRules s ts (more nil r) us
  unfolding size names Small
  alone r m = record { taken = omega arith; ascii = m.ascii; small = λ h. (tt, m.small h) }

  -- the children that the left side of a chain gives
  left_made : (j : Join) {ts us : List Token} (l : Rule) → MadeRule s ts l us → MadeRules s ts (left_rules j l) us
  unfolding left_rules size names Small
  left_made j {ts} {us} (leaf l) m = alone (leaf l) m
  left_made j {ts} {us} (node i rs r) m = go (eqb (join_kind i) (join_kind j))
    where
      go : (v : Bool) → MadeRules s ts (cond v (more rs r) (more nil (node i rs r))) us
      go true = record { taken = omega arith; ascii = m.ascii; small = λ h. (m.small h).1 }
      go false = alone (node i rs r) m

  chain_made : (j : Join) {ts us vs xs : List Token} (l r : Rule) → join_arg j < 2 ^ 64 → MadeRule s ts l us → Taken us vs 1 0 →
      MadeRule s vs r xs → MadeRule s ts (chain j l r) xs
  unfolding chain
  chain_made j l r h m t n = node_made j (left_rules j l) r h (both (omega arith) (left_made j l m) t n)

-- ---- what is read satisfies P
abbrev pub Holds : (Rule → List Token → Type 0) → ParseResult → Type 0
Holds P (got r us) = P r us
Holds P (bad f) = Unit {0}

pub on_rest_lem : (P : ParseResult → Type 0) (k : ℕ) (ts : List Token) (then : List Token → ParseResult) (other : ParseResult) →
    Sign k → ((us : List Token) → Taken ts us 1 0 → P (then us)) → P other → P (on_rest (after k ts) then other)
on_rest_lem P k ts then other l f g = by_after (λ r. P (on_rest r then other)) k ts l g f

module _ (s : List ℕ) where
  holds_behind : (ts us : List Token) (g : ParseResult) → Taken ts us 1 0 → Holds (MadeRule s us) g → Holds (MadeRule s ts) g
  holds_behind ts us (got r vs) t m = behind t m
  holds_behind ts us (bad f) t m = tt

  -- a chain's turn
  holds_onto : (j : Join) (ts us vs : List Token) (l : Rule) (g : ParseResult) → join_arg j < 2 ^ 64 → MadeRule s ts l us →
      Taken us vs 1 0 → Holds (MadeRule s vs) g → Holds (MadeRule s ts) (onto j l g)
  holds_onto j ts us vs l (got r xs) h m t n = chain_made j l r h m t n
  holds_onto j ts us vs l (bad f) h m t n = tt

  holds_turn : (k : ℕ) (j : Join) (operand : List Token → ParseResult) (again : ParseResult → ParseResult) → Sign k →
      join_arg j < 2 ^ 64 → ((us : List Token) → Holds (MadeRule s us) (operand us)) →
      ((ts : List Token) (g : ParseResult) → Holds (MadeRule s ts) g → Holds (MadeRule s ts) (again g)) →
      (ts us : List Token) (l : Rule) → MadeRule s ts l us → Holds (MadeRule s ts) (on_rest (after k us) (λ vs. again (onto j l (operand vs))) (got l us))
  holds_turn k j operand again p h e a ts us l m =
      on_rest_lem (Holds (MadeRule s ts)) k us _ (got l us) p (λ vs t. a ts _ (holds_onto j ts us vs l (operand vs) h m t (e vs))) m

  -- an argument, the first and a later one
  holds_first : (ts : List Token) (g : ParseResult) → Holds (MadeRule s ts) g → Holds (λ r us. MadeRules s ts (more nil r) us) g
  holds_first ts (got r us) m = alone r m
  holds_first ts (bad f) m = tt

  holds_next : (ts us vs : List Token) (rs : Rules) (g : ParseResult) → MadeRules s ts rs us → Taken us vs 1 0 →
      Holds (MadeRule s vs) g → Holds (λ r xs. MadeRules s ts (more rs r) xs) g
  unfolding size names Small
  holds_next ts us vs rs (got r xs) m t n = both (omega arith) m t n
  holds_next ts us vs rs (bad f) m t n = tt

  -- a bracket that closes
  holds_closed : (ts us : List Token) (g : ParseResult) → Taken ts us 1 0 → Holds (MadeRule s us) g → Holds (MadeRule s ts) (close_after g)
  holds_closed ts us (got r vs) t m =
      on_rest_lem (Holds (MadeRule s ts)) close_bracket vs (λ xs. got r xs) _ (omega arith) (λ xs u. behind t (before (omega arith) m u)) tt
  holds_closed ts us (bad f) t m = tt

  holds_head : (ts : List Token) (h : PrimaryStart) (inner : List Token → ParseResult) (list : Join → List Token → ParseResult) →
      Begun s ts h → ((us : List Token) → Holds (MadeRule s us) (inner us)) →
      ((j : Join) (us : List Token) → join_arg j < 2 ^ 64 → Holds (MadeRule s us) (list j us)) → Holds (MadeRule s ts) (by_start h inner list)
  unfolding size names Small
  holds_head ts (a_leaf l us) inner list b i e = b
  holds_head ts (a_group us) inner list b i e = holds_closed ts us (inner us) b (i us)
  holds_head ts (a_list j p us) inner list b i e =
      on_rest_lem (Holds (MadeRule s ts)) close_bracket us _ (list j us) (omega arith) (λ vs t. tt) (holds_behind ts us (list j us) b.0 (e j us b.1))
  holds_head ts (refused f) inner list b i e = tt

  mutual
    unfolding or_in size names Small

    pub or_made : (f d : ℕ) (ts : List Token) → Holds (MadeRule s ts) (or_in f s d ts)
    or_made zero d ts = tt
    or_made (suc f) d ts = or_more_lem f d ts (and_in f s d ts) (and_made f d ts)

    or_more_lem : (f d : ℕ) (ts : List Token) (g : ParseResult) → Holds (MadeRule s ts) g → Holds (MadeRule s ts) (or_more f s d g)
    or_more_lem zero d ts g m = tt
    or_more_lem (suc f) d ts (bad r) m = tt
    or_more_lem (suc f) d ts (got l us) m =
        holds_turn bar any (and_in f s d) (or_more f s d) (omega arith) (omega arith) (λ vs. and_made f d vs) (λ xs g. or_more_lem f d xs g) ts us l m

    pub and_made : (f d : ℕ) (ts : List Token) → Holds (MadeRule s ts) (and_in f s d ts)
    and_made zero d ts = tt
    and_made (suc f) d ts = and_more_lem f d ts (primary_in f s d ts) (primary_made f d ts)

    and_more_lem : (f d : ℕ) (ts : List Token) (g : ParseResult) → Holds (MadeRule s ts) g → Holds (MadeRule s ts) (and_more f s d g)
    and_more_lem zero d ts g m = tt
    and_more_lem (suc f) d ts (bad r) m = tt
    and_more_lem (suc f) d ts (got l us) m =
        holds_turn ampersand all (primary_in f s d) (and_more f s d) (omega arith) (omega arith) (λ vs. primary_made f d vs) (λ xs g. and_more_lem f d xs g) ts us l m

    pub primary_made : (f d : ℕ) (ts : List Token) → Holds (MadeRule s ts) (primary_in f s d ts)
    primary_made zero d ts = tt
    primary_made (suc f) d ts =
        holds_head ts (primary_start s d ts) _ _ (head_begun s d ts) (λ us. or_made f (d + 1) us)
        (λ j us l. list_more_lem f d j us nil (or_in f s (d + 1) us) l (holds_first us (or_in f s (d + 1) us) (or_made f (d + 1) us)))

    list_more_lem : (f d : ℕ) (j : Join) (ts : List Token) (rs : Rules) (g : ParseResult) → join_arg j < 2 ^ 64 →
        Holds (λ r us. MadeRules s ts (more rs r) us) g → Holds (MadeRule s ts) (list_more f s d j rs g)
    list_more_lem zero d j ts rs g l m = tt
    list_more_lem (suc f) d j ts rs (bad r) l m = tt
    list_more_lem (suc f) d j ts rs (got r us) l m =
        on_rest_lem (Holds (MadeRule s ts)) comma us _ _ (omega arith)
        (λ vs t. list_more_lem f d j ts (more rs r) (or_in f s (d + 1) vs) l (holds_next ts us vs (more rs r) (or_in f s (d + 1) vs) m t (or_made f (d + 1) vs)))
        (on_rest_lem (Holds (MadeRule s ts)) close_bracket us _ _ (omega arith) (λ vs t. node_made j rs r l (before (omega arith) m t)) tt)
