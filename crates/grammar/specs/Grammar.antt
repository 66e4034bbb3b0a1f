-- Expressions, as document 01 and document 02's Job 2 lay them down, over the list of placed tokens. Assumes nothing.
use Rattle.std.specs.Prelude.{ℕ, zero, suc, ◌+◌, Bool, true, false, cond, List, [], ◌∷◌, ltb, eqb, Option, Some, None}
use Rattle.slices.specs.Text.{bytes, part}
use Rattle.ascii.specs.Letters.{equal_ignoring_case}
use Rattle.classes.specs.Class.{open_bracket, close_bracket, comma, ampersand, bar}
use Rattle.refusals.specs.declared.Refusal.{Refusal}
use Rattle.refusals.specs.Refusals.{refusal}
use Rattle.refusals.specs.declared.Cause.{Cause}
use Rattle.refusals.specs.declared.Cause.TheVariants.{ShortBuffer, NoExpression, BracketExpected, UnknownFunction, MissingArgument, BadCount, BadDuration, EmptyList, TooDeep}
use Rattle.tokens.specs.declared.Token.{Token}
use Rattle.tokens.specs.declared.Token.TheVariants.{End, Open, Close, Comma, And, Or, Word, Fault}
use Rattle.tokens.specs.Token.{place_of}
use Rattle.decimal.specs.Count.{count_of}
use Rattle.durations.specs.Duration.{duration_of}
use Rattle.image.specs.Encode.{join_kind}
use Rattle.grammar.specs.declared.Function.{Function}
use Rattle.grammar.specs.declared.Function.TheVariants.{OlderThan, Readable, Any, All, AtLeast}
use Rattle.rules.specs.Rule.{Leaf, named, older_than, readable, Join, at_least, all, any, Rule, leaf, node, Rules, nil, more}

-- ---- looking at the next token

-- which token it is: a bracket, a comma or a sign by the class of its first byte
abbrev pub token_kind : Token → ℕ
token_kind (End p) = 0
token_kind (Open p n) = open_bracket
token_kind (Close p n) = close_bracket
token_kind (Comma p n) = comma
token_kind (And p n) = ampersand
token_kind (Or p n) = bar
token_kind (Word w) = 6
token_kind (Fault f) = 7

-- the tokens after the next one
pub data Rest : Type 0 where
  rest : List Token → Rest
  missing : Rest

-- where the next one is of this kind
unfoldable pub after : ℕ → List Token → Rest
after k [] = missing
after k (t ∷ ts) = cond (eqb (token_kind t) k) (rest ts) missing

-- "the first byte of the token found, or the text length if none"
unfoldable pub first_place : List Token → ℕ
first_place [] = 0
first_place (t ∷ ts) = place_of t

-- ---- how a primary begins

-- a leaf, with the tokens left; a bracket; a function with a list, and the place of its word; or a refusal
pub data PrimaryStart : Type 0 where
  a_leaf : Leaf → List Token → PrimaryStart
  a_group : List Token → PrimaryStart
  a_list : Join → ℕ → List Token → PrimaryStart
  refused : Refusal → PrimaryStart

abbrev pub refuse : Cause → ℕ → PrimaryStart
refuse c p = refused (refusal c p)

-- "`)` expected", "the comma after a count expected": what `then` makes of the tokens after it, or the refusal
abbrev pub expecting : Cause → Rest → ℕ → (List Token → PrimaryStart) → PrimaryStart
expecting c (rest ts) p then = then ts
expecting c missing p then = refuse c p

-- a word that is expected: its place, its bytes, the tokens left; or the place of what is there
pub data ExpectedWord : Type 0 where
  expected : ℕ → List ℕ → List Token → ExpectedWord
  other_token : ℕ → ExpectedWord

abbrev pub expected_by : List ℕ → Token → List Token → ExpectedWord
expected_by s (Word w) ts = expected w.place (part s w.start w.end) ts
expected_by s (End p) ts = other_token p
expected_by s (Open p n) ts = other_token p
expected_by s (Close p n) ts = other_token p
expected_by s (Comma p n) ts = other_token p
expected_by s (And p n) ts = other_token p
expected_by s (Or p n) ts = other_token p
expected_by s (Fault f) ts = other_token f.place

unfoldable pub expected_word : List ℕ → List Token → ExpectedWord
expected_word s [] = other_token 0
expected_word s (t ∷ ts) = expected_by s t ts

-- "A call whose next token is no word stops there with 11"
abbrev pub require_word : ExpectedWord → (ℕ → List ℕ → List Token → PrimaryStart) → PrimaryStart
require_word (expected p w ts) then = then p w ts
require_word (other_token p) then = refuse MissingArgument p

-- a number that a word is read as, or the refusal of the word at p
abbrev pub valued : Option ℕ → Cause → ℕ → (ℕ → PrimaryStart) → PrimaryStart
valued (Some n) c p then = then n
valued None c p then = refuse c p

-- "`older_than` tests `)` before the duration"
unfoldable pub older_than_start : List ℕ → List Token → PrimaryStart
older_than_start s ts =
    require_word (expected_word s ts) (λ p w us.
    expecting BracketExpected (after close_bracket us) (first_place us) (λ vs.
    valued (duration_of w) BadDuration p (λ ms. a_leaf (older_than ms) vs)))

-- "`readable` tests its count before `)`"
unfoldable pub readable_start : List ℕ → List Token → PrimaryStart
readable_start s ts =
    require_word (expected_word s ts) (λ p w us.
    valued (count_of w) BadCount p (λ k.
    expecting BracketExpected (after close_bracket us) (first_place us) (λ vs. a_leaf (readable k) vs)))

-- "`at_least` tests count, comma, list"; its word is at `place`
unfoldable pub at_least_start : List ℕ → ℕ → List Token → PrimaryStart
at_least_start s place ts =
    require_word (expected_word s ts) (λ p w us.
    valued (count_of w) BadCount p (λ k.
    expecting MissingArgument (after comma us) (first_place us) (λ vs. a_list (at_least k) place vs)))

-- "A word followed by `(` is a function, .. any case: `older_than`, `readable`, `oneof`/`any`, `allof`/`all`, `at_least`."; since
-- Job 2 this holds of unquoted words only
unfoldable pub function_of : List ℕ → Option Function
function_of w =
    cond (equal_ignoring_case w (bytes "older_than")) (Some OlderThan)
    (cond (equal_ignoring_case w (bytes "readable")) (Some Readable)
    (cond (equal_ignoring_case w (bytes "oneof")) (Some Any)
    (cond (equal_ignoring_case w (bytes "any")) (Some Any)
    (cond (equal_ignoring_case w (bytes "allof")) (Some All)
    (cond (equal_ignoring_case w (bytes "all")) (Some All)
    (cond (equal_ignoring_case w (bytes "at_least")) (Some AtLeast) None))))))

-- after its bracket; its word is at `place`
abbrev pub call_start : List ℕ → ℕ → Option Function → List Token → PrimaryStart
call_start s place (Some OlderThan) ts = older_than_start s ts
call_start s place (Some Readable) ts = readable_start s ts
call_start s place (Some Any) ts = a_list any place ts
call_start s place (Some All) ts = a_list all place ts
call_start s place (Some AtLeast) ts = at_least_start s place ts
call_start s place None ts = refuse UnknownFunction place

-- "Otherwise `readable`, any case .., is readable(1), and another word names a store."; since Job 2 of unquoted words only
unfoldable pub unquoted_leaf : List ℕ → Leaf
unquoted_leaf w = cond (equal_ignoring_case w (bytes "readable")) (readable 1) (named w)

-- 15, "a bracket opened while 64 stand open"; the bracket stands at p, and d are open
abbrev pub opened : ℕ → ℕ → PrimaryStart → PrimaryStart
opened d p h = cond (ltb d 64) h (refuse TooDeep p)

-- an unquoted word at `place`; "After the bracket come 15, then 10."
abbrev pub unquoted_start : List ℕ → ℕ → ℕ → List ℕ → List Token → Rest → PrimaryStart
unquoted_start s d place w ts missing = a_leaf (unquoted_leaf w) ts
unquoted_start s d place w ts (rest us) = opened d (first_place ts) (call_start s place (function_of w) us)

-- a word, quoted or not; Job 2: "A quoted word, whatever follows, now names a store."
abbrev pub word_start : List ℕ → ℕ → ℕ → List ℕ → Bool → List Token → PrimaryStart
word_start s d place w true ts = a_leaf (named w) ts
word_start s d place w false ts = unquoted_start s d place w ts (after open_bracket ts)

abbrev pub start_by : List ℕ → ℕ → Token → List Token → PrimaryStart
start_by s d (Word w) ts = word_start s d w.place (part s w.start w.end) w.quoted ts
start_by s d (Open p n) ts = opened d p (a_group ts)
start_by s d (End p) ts = refuse NoExpression p
start_by s d (Close p n) ts = refuse NoExpression p
start_by s d (Comma p n) ts = refuse NoExpression p
start_by s d (And p n) ts = refuse NoExpression p
start_by s d (Or p n) ts = refuse NoExpression p
start_by s d (Fault f) ts = refuse NoExpression f.place

-- what a primary begins with, where d brackets are open
unfoldable pub primary_start : List ℕ → ℕ → List Token → PrimaryStart
primary_start s d [] = refuse NoExpression 0
primary_start s d (t ∷ ts) = start_by s d t ts

-- ---- chains

-- "A chain appends to its left side where that is already of the chain's kind, however it arose; else it makes a two-child node."
-- The children that the left side gives
unfoldable pub left_rules : Join → Rule → Rules
left_rules j (leaf l) = more nil (leaf l)
left_rules j (node i rs r) = cond (eqb (join_kind i) (join_kind j)) (more rs r) (more nil (node i rs r))

-- "The right side is never opened up."
unfoldable pub chain : Join → Rule → Rule → Rule
unfolding left_rules
chain j l r = node j (left_rules j l) r

-- ---- or, and, primary

-- a rule, with the tokens left; or a refusal
pub data ParseResult : Type 0 where
  got : Rule → List Token → ParseResult
  bad : Refusal → ParseResult

abbrev pub onto : Join → Rule → ParseResult → ParseResult
onto j l (got r ts) = got (chain j l r) ts
onto j l (bad f) = bad f

abbrev pub on_rest : Rest → (List Token → ParseResult) → ParseResult → ParseResult
on_rest (rest ts) then other = then ts
on_rest missing then other = other

-- "`)` expected" after a rule
abbrev pub close_after : ParseResult → ParseResult
close_after (got r ts) = on_rest (after close_bracket ts) (λ us. got r us) (bad (refusal BracketExpected (first_place ts)))
close_after (bad f) = bad f

-- by how a primary begins: a leaf; a bracket, with what `inner` reads after it; a list, with what `list` reads
abbrev pub by_start : PrimaryStart → (List Token → ParseResult) → (Join → List Token → ParseResult) → ParseResult
by_start (a_leaf l ts) inner list = got (leaf l) ts
by_start (a_group ts) inner list = close_after (inner ts)
by_start (a_list j place ts) inner list = on_rest (after close_bracket ts) (λ us. bad (refusal EmptyList place)) (list j ts)
by_start (refused f) inner list = bad f

-- what no text gives: a bound that is too low for it; the refusal is none of a text's, which are 2 to 15
abbrev pub out_of_fuel : ParseResult
out_of_fuel = bad (refusal ShortBuffer 0)

-- "Or calls and, and calls primary, primary calls or again, inside brackets or arguments." The first number bounds how deep
-- the calls go; s is the text, and d brackets are open.
unfoldable mutual
  pub or_in : ℕ → List ℕ → ℕ → List Token → ParseResult
  or_in zero s d ts = out_of_fuel
  or_in (suc f) s d ts = or_more f s d (and_in f s d ts)

  pub or_more : ℕ → List ℕ → ℕ → ParseResult → ParseResult
  or_more zero s d g = out_of_fuel
  or_more (suc f) s d (bad r) = bad r
  or_more (suc f) s d (got l ts) = on_rest (after bar ts) (λ us. or_more f s d (onto any l (and_in f s d us))) (got l ts)

  pub and_in : ℕ → List ℕ → ℕ → List Token → ParseResult
  and_in zero s d ts = out_of_fuel
  and_in (suc f) s d ts = and_more f s d (primary_in f s d ts)

  pub and_more : ℕ → List ℕ → ℕ → ParseResult → ParseResult
  and_more zero s d g = out_of_fuel
  and_more (suc f) s d (bad r) = bad r
  and_more (suc f) s d (got l ts) = on_rest (after ampersand ts) (λ us. and_more f s d (onto all l (primary_in f s d us))) (got l ts)

  pub primary_in : ℕ → List ℕ → ℕ → List Token → ParseResult
  primary_in zero s d ts = out_of_fuel
  primary_in (suc f) s d ts =
      by_start (primary_start s d ts) (λ us. or_in f s (d + 1) us) (λ j us. list_more f s d j nil (or_in f s (d + 1) us))

  -- an argument was read, after others: "after a comma that follows an argument an expression is expected"
  pub list_more : ℕ → List ℕ → ℕ → Join → Rules → ParseResult → ParseResult
  list_more zero s d j rs g = out_of_fuel
  list_more (suc f) s d j rs (bad r) = bad r
  list_more (suc f) s d j rs (got r ts) =
      on_rest (after comma ts) (λ us. list_more f s d j (more rs r) (or_in f s (d + 1) us))
      (on_rest (after close_bracket ts) (λ us. got (node j rs r) us) (bad (refusal BracketExpected (first_place ts))))
