-- The place of a text's refusal is a position in the text, or its end. Assumes nothing.
use mathlib.Core.Path.{◌≡◌}
use mathlib.Core.Bool.{Bool, true, false, cond}
use mathlib.Core.List.{List, [], ◌∷◌}
use Prim.Native.Nat.{ℕ, zero, suc, ◌+◌, ◌-◌, ◌*◌, ◌≤◌}
use native.Mathlib.Omega.{arith}
use borrow.Author.Tests.{ltb-true, ltb-false}
use lib.Dec.{ltb, eqb}
use lib.ListN.{length}
use Rattle.std.specs.Prelude.{Result, Ok, Err, Option, Some, None, ⊤}
use Rattle.slices.specs.Text.{part, run_end}
use Rattle.refusals.specs.declared.Refusal.{Refusal}
use Rattle.tokens.specs.declared.Token.{Token}
use Rattle.tokens.specs.declared.Token.TheVariants.{End, Open, Close, Comma, And, Or, Word, Fault}
use Rattle.tokens.specs.Token.{ascii, place_of, token_at, next_of, onward, tokens_by, tokens_from, scan_of}
use Rattle.tokens.specs.Inner.Bounds.{Lexed}
use Rattle.tokens.proofs.Laws.TokenLaws.{by_cond, lexed}
use Rattle.decimal.specs.Count.{count_of}
use Rattle.durations.specs.Duration.{duration_of}
use Rattle.rules.specs.Rule.{Join, all, any, Rule, Rules, nil, more}
use Rattle.grammar.specs.declared.Function.{Function}
use Rattle.grammar.specs.declared.Function.TheVariants.{OlderThan, Readable, Any, All, AtLeast}
use Rattle.grammar.specs.Grammar as grammar
use Rattle.grammar.specs.Grammar.{token_kind, Rest, rest, missing, after, first_place, PrimaryStart, a_leaf, a_group, a_list, expecting, expected_word, require_word, valued, older_than_start, readable_start, at_least_start, function_of, call_start, opened, unquoted_start, word_start, primary_start, ParseResult, got, bad, onto, on_rest, close_after, by_start, or_in, or_more, and_in, and_more, primary_in, list_more}
use Rattle.refusals.specs.declared.Cause.{Cause}
use Rattle.refusals.specs.declared.Cause.TheVariants.{BracketExpected, MissingArgument}
use Rattle.classes.specs.Class.{open_bracket, close_bracket, comma, ampersand, bar}
use Rattle.grammar.specs.Reading.{Read, rule, refused, at_end, ended, parse_of, scanned_of, read_of}

-- ---- places of at most m: of tokens, of those left, and of a refusal
abbrev Placed : ℕ → List Token → Type 0
Placed m [] = Unit {0}
Placed m (t ∷ ts) = (place_of t ≤ m) × Placed m ts

abbrev RestPlaced : ℕ → Rest → Type 0
RestPlaced m (rest ts) = Placed m ts
RestPlaced m missing = Unit {0}

abbrev HeadPlaced : ℕ → PrimaryStart → Type 0
HeadPlaced m (a_leaf l ts) = Placed m ts
HeadPlaced m (a_group ts) = Placed m ts
HeadPlaced m (a_list j p ts) = (p ≤ m) × Placed m ts
HeadPlaced m (grammar.refused f) = f.place ≤ m

abbrev GotPlaced : ℕ → ParseResult → Type 0
GotPlaced m (got r ts) = Placed m ts
GotPlaced m (bad f) = f.place ≤ m

module _ (m : ℕ) where
  after_placed : (k : ℕ) (ts : List Token) → Placed m ts → RestPlaced m (after k ts)
  unfolding after
  after_placed k [] h = tt
  after_placed k (t ∷ ts) h = go (eqb (token_kind t) k)
    where
      go : (b : Bool) → RestPlaced m (cond b (rest ts) missing)
      go true = h.1
      go false = tt

  first_placed : (ts : List Token) → Placed m ts → first_place ts ≤ m
  unfolding first_place
  first_placed [] h = omega arith
  first_placed (t ∷ ts) h = h.0

  -- ---- how a primary begins
  expecting_placed : (c : Cause) (r : Rest) (p : ℕ) (then : List Token → PrimaryStart) → RestPlaced m r → p ≤ m →
      ((ts : List Token) → Placed m ts → HeadPlaced m (then ts)) → HeadPlaced m (expecting c r p then)
  expecting_placed c (rest ts) p then h l f = f ts h
  expecting_placed c missing p then h l f = l

  valued_placed : (x : Option ℕ) (c : Cause) (p : ℕ) (then : ℕ → PrimaryStart) → p ≤ m → ((n : ℕ) → HeadPlaced m (then n)) → HeadPlaced m (valued x c p then)
  valued_placed (Some n) c p then l f = f n
  valued_placed None c p then l f = l

  module _ (s : List ℕ) where
    expected_placed : (ts : List Token) (then : ℕ → List ℕ → List Token → PrimaryStart) → Placed m ts →
        ((p : ℕ) (w : List ℕ) (us : List Token) → p ≤ m → Placed m us → HeadPlaced m (then p w us)) → HeadPlaced m (require_word (expected_word s ts) then)
    unfolding expected_word place_of
    expected_placed [] then h f = omega arith
    expected_placed (End p ∷ ts) then h f = h.0
    expected_placed (Open p n ∷ ts) then h f = h.0
    expected_placed (Close p n ∷ ts) then h f = h.0
    expected_placed (Comma p n ∷ ts) then h f = h.0
    expected_placed (And p n ∷ ts) then h f = h.0
    expected_placed (Or p n ∷ ts) then h f = h.0
    expected_placed (Word w ∷ ts) then h f = f w.place (part s w.start w.end) ts h.0 h.1
    expected_placed (Fault x ∷ ts) then h f = h.0

    older_placed : (ts : List Token) → Placed m ts → HeadPlaced m (older_than_start s ts)
    unfolding older_than_start
    older_placed ts h =
        expected_placed ts _ h (λ p w us l k.
        expecting_placed BracketExpected (after close_bracket us) (first_place us) _ (after_placed close_bracket us k) (first_placed us k) (λ vs e.
        valued_placed (duration_of w) _ p _ l (λ n. e)))

    readable_placed : (ts : List Token) → Placed m ts → HeadPlaced m (readable_start s ts)
    unfolding readable_start
    readable_placed ts h =
        expected_placed ts _ h (λ p w us l k.
        valued_placed (count_of w) _ p _ l (λ n.
        expecting_placed BracketExpected (after close_bracket us) (first_place us) _ (after_placed close_bracket us k) (first_placed us k) (λ vs e. e)))

    at_least_placed : (place : ℕ) (ts : List Token) → place ≤ m → Placed m ts → HeadPlaced m (at_least_start s place ts)
    unfolding at_least_start
    at_least_placed place ts at h =
        expected_placed ts _ h (λ p w us l k.
        valued_placed (count_of w) _ p _ l (λ n.
        expecting_placed MissingArgument (after comma us) (first_place us) _ (after_placed comma us k) (first_placed us k) (λ vs e. (at, e))))

    call_placed : (place : ℕ) (x : Option Function) (ts : List Token) → place ≤ m → Placed m ts → HeadPlaced m (call_start s place x ts)
    call_placed place (Some OlderThan) ts at h = older_placed ts h
    call_placed place (Some Readable) ts at h = readable_placed ts h
    call_placed place (Some Any) ts at h = (at, h)
    call_placed place (Some All) ts at h = (at, h)
    call_placed place (Some AtLeast) ts at h = at_least_placed place ts at h
    call_placed place None ts at h = at

    opened_placed : (d p : ℕ) (x : PrimaryStart) → p ≤ m → HeadPlaced m x → HeadPlaced m (opened d p x)
    opened_placed d p x l h = by_cond (HeadPlaced m) (ltb d 64) (λ e. h) (λ e. l)

    unquoted_placed : (d place : ℕ) (w : List ℕ) (ts : List Token) (r : Rest) → place ≤ m → Placed m ts → RestPlaced m r →
        HeadPlaced m (unquoted_start s d place w ts r)
    unquoted_placed d place w ts missing at h k = h
    unquoted_placed d place w ts (rest us) at h k = opened_placed d (first_place ts) _ (first_placed ts h) (call_placed place (function_of w) us at k)

    word_placed : (d place : ℕ) (w : List ℕ) (q : Bool) (ts : List Token) → place ≤ m → Placed m ts → HeadPlaced m (word_start s d place w q ts)
    word_placed d place w true ts at h = h
    word_placed d place w false ts at h = unquoted_placed d place w ts (after open_bracket ts) at h (after_placed open_bracket ts h)

    head_placed : (d : ℕ) (ts : List Token) → Placed m ts → HeadPlaced m (primary_start s d ts)
    unfolding primary_start place_of
    head_placed d [] h = omega arith
    head_placed d (End p ∷ ts) h = h.0
    head_placed d (Open p n ∷ ts) h = opened_placed d p (a_group ts) h.0 h.1
    head_placed d (Close p n ∷ ts) h = h.0
    head_placed d (Comma p n ∷ ts) h = h.0
    head_placed d (And p n ∷ ts) h = h.0
    head_placed d (Or p n ∷ ts) h = h.0
    head_placed d (Word w ∷ ts) h = word_placed d w.place (part s w.start w.end) w.quoted ts h.0 h.1
    head_placed d (Fault f ∷ ts) h = h.0

  -- ---- an expression
  on_rest_placed : (k : ℕ) (ts : List Token) (then : List Token → ParseResult) (other : ParseResult) → Placed m ts →
      ((us : List Token) → Placed m us → GotPlaced m (then us)) → GotPlaced m other → GotPlaced m (on_rest (after k ts) then other)
  on_rest_placed k ts then other h f g = go (after k ts) (after_placed k ts h)
    where
      go : (r : Rest) → RestPlaced m r → GotPlaced m (on_rest r then other)
      go (rest us) p = f us p
      go missing p = g

  onto_placed : (j : Join) (l : Rule) (g : ParseResult) → GotPlaced m g → GotPlaced m (onto j l g)
  onto_placed j l (got r ts) h = h
  onto_placed j l (bad f) h = h

  close_placed : (g : ParseResult) → GotPlaced m g → GotPlaced m (close_after g)
  close_placed (got r ts) h = on_rest_placed close_bracket ts _ _ h (λ us k. k) (first_placed ts h)
  close_placed (bad f) h = h

  by_head_placed : (x : PrimaryStart) (inner : List Token → ParseResult) (list : Join → List Token → ParseResult) →
      HeadPlaced m x → ((ts : List Token) → Placed m ts → GotPlaced m (inner ts)) →
      ((j : Join) (ts : List Token) → Placed m ts → GotPlaced m (list j ts)) → GotPlaced m (by_start x inner list)
  by_head_placed (a_leaf l ts) inner list h i e = h
  by_head_placed (a_group ts) inner list h i e = close_placed (inner ts) (i ts h)
  by_head_placed (a_list j p ts) inner list h i e = on_rest_placed close_bracket ts _ (list j ts) h.1 (λ us k. h.0) (e j ts h.1)
  by_head_placed (grammar.refused f) inner list h i e = h

  module _ (s : List ℕ) where
    mutual
      unfolding or_in

      or_placed : (f d : ℕ) (ts : List Token) → Placed m ts → GotPlaced m (or_in f s d ts)
      or_placed zero d ts h = omega arith
      or_placed (suc f) d ts h = or_more_placed f d (and_in f s d ts) (and_placed f d ts h)

      or_more_placed : (f d : ℕ) (g : ParseResult) → GotPlaced m g → GotPlaced m (or_more f s d g)
      or_more_placed zero d g h = omega arith
      or_more_placed (suc f) d (bad r) h = h
      or_more_placed (suc f) d (got l ts) h =
          on_rest_placed bar ts _ (got l ts) h
          (λ us k. or_more_placed f d (onto any l (and_in f s d us)) (onto_placed any l (and_in f s d us) (and_placed f d us k))) h

      and_placed : (f d : ℕ) (ts : List Token) → Placed m ts → GotPlaced m (and_in f s d ts)
      and_placed zero d ts h = omega arith
      and_placed (suc f) d ts h = and_more_placed f d (primary_in f s d ts) (primary_placed f d ts h)

      and_more_placed : (f d : ℕ) (g : ParseResult) → GotPlaced m g → GotPlaced m (and_more f s d g)
      and_more_placed zero d g h = omega arith
      and_more_placed (suc f) d (bad r) h = h
      and_more_placed (suc f) d (got l ts) h =
          on_rest_placed ampersand ts _ (got l ts) h
          (λ us k. and_more_placed f d (onto all l (primary_in f s d us)) (onto_placed all l (primary_in f s d us) (primary_placed f d us k))) h

      primary_placed : (f d : ℕ) (ts : List Token) → Placed m ts → GotPlaced m (primary_in f s d ts)
      primary_placed zero d ts h = omega arith
      primary_placed (suc f) d ts h =
          by_head_placed (primary_start s d ts) _ _ (head_placed s d ts h)
          (λ us k. or_placed f (d + 1) us k)
          (λ j us k. list_more_placed f d j nil (or_in f s (d + 1) us) (or_placed f (d + 1) us k))

      list_more_placed : (f d : ℕ) (j : Join) (rs : Rules) (g : ParseResult) → GotPlaced m g → GotPlaced m (list_more f s d j rs g)
      list_more_placed zero d j rs g h = omega arith
      list_more_placed (suc f) d j rs (bad r) h = h
      list_more_placed (suc f) d j rs (got r ts) h =
          on_rest_placed comma ts _ _ h (λ us k. list_more_placed f d j (more rs r) (or_in f s (d + 1) us) (or_placed f (d + 1) us k))
          (on_rest_placed close_bracket ts _ _ h (λ us k. k) (first_placed ts h))

-- ---- the tokens of a text
onward_placed : (len at : ℕ) (t : Token) (later : ℕ → List Token) → Lexed len at t → ((n : ℕ) → Placed len (later n)) → Placed len (onward t (next_of t) later)
unfolding next_of place_of
onward_placed len at (End p) later l h = (omega arith, tt)
onward_placed len at (Open p n) later l h = (omega arith, h n)
onward_placed len at (Close p n) later l h = (omega arith, h n)
onward_placed len at (Comma p n) later l h = (omega arith, h n)
onward_placed len at (And p n) later l h = (omega arith, h n)
onward_placed len at (Or p n) later l h = (omega arith, h n)
onward_placed len at (Word w) later l h = (omega arith, h w.next)
onward_placed len at (Fault f) later l h = (omega arith, tt)

tokens_placed : (f : ℕ) (s : List ℕ) (at : ℕ) → Placed (length s) (tokens_by f s at)
unfolding tokens_by
tokens_placed zero s at = tt
tokens_placed (suc f) s at = onward_placed (length s) at (token_at s at) (tokens_by f s) (lexed s at) (tokens_placed f s)

abbrev ScanPlaced : ℕ → Result ⊤ Refusal → Type 0
ScanPlaced m (Ok u) = Unit {0}
ScanPlaced m (Err f) = f.place ≤ m

scan_placed : (m : ℕ) (ts : List Token) → Placed m ts → ScanPlaced m (scan_of ts)
unfolding scan_of place_of
scan_placed m [] h = tt
scan_placed m (End p ∷ ts) h = scan_placed m ts h.1
scan_placed m (Open p n ∷ ts) h = scan_placed m ts h.1
scan_placed m (Close p n ∷ ts) h = scan_placed m ts h.1
scan_placed m (Comma p n ∷ ts) h = scan_placed m ts h.1
scan_placed m (And p n ∷ ts) h = scan_placed m ts h.1
scan_placed m (Or p n ∷ ts) h = scan_placed m ts h.1
scan_placed m (Word w ∷ ts) h = scan_placed m ts h.1
scan_placed m (Fault f ∷ ts) h = h.0

-- ---- a text
abbrev ReadPlaced : ℕ → Read → Type 0
ReadPlaced m (rule r) = Unit {0}
ReadPlaced m (refused f) = f.place ≤ m

module _ (s : List ℕ) where
  text_placed : Placed (length s) (tokens_from s 0)
  unfolding tokens_from
  text_placed = tokens_placed (length s - 0 + 1) s 0

  ended_placed : (g : ParseResult) → GotPlaced (length s) g → ReadPlaced (length s) (ended g)
  ended_placed (got r ts) h = by_cond (ReadPlaced (length s)) (at_end ts) (λ e. tt) (λ e. first_placed (length s) ts h)
  ended_placed (bad f) h = h

  scanned_placed : (x : Result ⊤ Refusal) → ScanPlaced (length s) x → ReadPlaced (length s) (scanned_of x s)
  unfolding parse_of
  scanned_placed (Ok u) h = let ts = tokens_from s 0 in let f = 3 * length ts + 3 in ended_placed (or_in f s 0 ts) (or_placed (length s) s f 0 ts text_placed)
  scanned_placed (Err f) h = h

  -- of at most 2,048 bytes, since a longer one is refused at 0
  placed : (m : ℕ) → (length s ≤ 2048 → length s ≤ m) → ReadPlaced m (read_of s)
  unfolding read_of
  placed m short =
      by_cond (ReadPlaced m) (ltb 2048 (length s)) (λ e. omega arith)
      (λ e. let le = short (ltb-false 2048 (length s) e) in
      by_cond (ReadPlaced m) (ltb (run_end ascii s 0) (length s))
      (λ d. omega (arith, ltb-true (run_end ascii s 0) (length s) d))
      (λ d. wider (scanned_of (scan_of (tokens_from s 0)) s) le (scanned_placed (scan_of (tokens_from s 0)) (scan_placed (length s) (tokens_from s 0) text_placed))))
    where
      wider : (x : Read) → length s ≤ m → ReadPlaced (length s) x → ReadPlaced m x
      wider (rule r) le h = tt
      wider (refused f) le h = omega arith

  pub read_place : (f : Refusal) → read_of s ≡ refused f → (f.place ≤ length s) × (f.place ≤ 2048)
  read_place f e = (rw e at (placed (length s) (λ h. omega arith)), rw e at (placed 2048 (λ h. h)))
