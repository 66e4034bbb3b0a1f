-- What the parser's functions ask and promise: where in the text they are, and what nodes they append.
-- Assumes nothing.
use Rattle.std.specs.Prelude.{ℕ, ◌+◌, ◌-◌, ◌*◌, ◌≤◌, ◌<◌, ◌≡◌, Bool, true, false, List, ◌++◌, eqb, length, get_or, take, set, Result, Ok, Err}
use Rattle.refusals.specs.declared.Refusal.{Refusal}
use Rattle.tokens.specs.declared.Token.{Token}
use Rattle.tokens.specs.Token.{tokens_from}
use Rattle.rules.specs.Rule.{Leaf, Join, Rule, leaf}
use Rattle.image.specs.Layout.{tag_kind}
use Rattle.image.specs.Encode as image
use Rattle.grammar.specs.Grammar.{ParseResult, got, bad}
use Rattle.grammar.specs.Inner.Starts.{left}
use Rattle.nodes.specs.declared.Nodes.{Nodes}

-- the arrays of nodes are as long as they are declared
abbrev pub Long : {N : ℕ} → Nodes N → Type 0
Long {N} b = (length b.tags ≡ N) × (length b.args ≡ N)

-- before a call: the position lies in the text after the brackets that are open, and there is room
-- for a node and for a name byte for each byte of the text that is left
pub record Before {N : ℕ} (s : List ℕ) (at depth : ℕ) (b : Nodes N) : Type 0 where
  pub inside : at ≤ length s
  pub shallow : depth ≤ at
  pub roomy : b.n + (length s - at) ≤ N
  pub wide : b.m + (length s - at) ≤ N
  pub few : N ≤ 2048

-- a holds, after the nodes and name bytes of b, the tags T, the arguments A and the name bytes W
pub record Holds {N : ℕ} (b a : Nodes N) (T A W : List ℕ) : Type 0 where
  pub tags : take a.n a.tags ≡ take b.n b.tags ++ T
  pub args : take a.n a.args ≡ take b.n b.args ++ A
  pub names : take a.m a.names ≡ take b.m b.names ++ W
  pub more_tags : a.n ≡ b.n + length T
  pub more_args : a.n ≡ b.n + length A
  pub more_names : a.m ≡ b.m + length W

-- a holds, after those of b, the nodes of a rule
abbrev pub Appended : {N : ℕ} → Rule → Nodes N → Nodes N → Type 0
Appended t b a = Holds b a (image.tags t) (image.args t b.m) (image.names t)

-- after it: G, with enough fuel, reads a rule and leaves the tokens from e on, and the rule's nodes are appended
pub record ParsedRule {N : ℕ} (G : ℕ → ParseResult) (need : ℕ) (s : List ℕ) (at : ℕ) (b a : Nodes N) (e : ℕ) : Type 0 where
  pub tree : Rule
  pub says : (f : ℕ) → need ≤ f → G f ≡ got tree (tokens_from s e)
  pub on : at < e
  pub within : e ≤ length s
  pub fewer : left s e < left s at
  pub some : b.n < a.n
  pub room : a.n + at ≤ b.n + e
  pub width : a.m + at ≤ b.m + e
  pub holds : Appended tree b a

-- either case of an answer
abbrev pub ParseAnswer : {N : ℕ} → (ℕ → ParseResult) → ℕ → List ℕ → ℕ → Nodes N → Nodes N → Result ℕ Refusal → Type 0
ParseAnswer G need s at b a (Ok e) = ParsedRule G need s at b a e
ParseAnswer G need s at b a (Err x) = (f : ℕ) → need ≤ f → G f ≡ bad x

-- of the text from a position on, by one of the grammar's functions and its level: three calls for each token left
abbrev pub ParsedBy : {N : ℕ} → (ℕ → List ℕ → ℕ → List Token → ParseResult) → ℕ → List ℕ → ℕ → ℕ → Nodes N → Nodes N → Result ℕ Refusal → Type 0
ParsedBy G level s depth at b a r = ParseAnswer (λ (f : ℕ). G f s depth (tokens_from s at)) (3 * left s at + level) s at b a r

-- ---- what the functions that append nodes ask and promise

-- room for a name, the part of a text from `start` to `end`, and for its node
pub record NameRoom {N : ℕ} (s : List ℕ) (start end : ℕ) (b : Nodes N) : Type 0 where
  pub ordered : start ≤ end
  pub inside : end ≤ length s
  pub room : b.n < N
  pub width : b.m + (end - start) ≤ N
  pub few : N ≤ 2048

-- a leaf's node was appended, and its name where it has one
pub record Written {N : ℕ} (l : Leaf) (b a : Nodes N) : Type 0 where
  pub reached : (a.n ≡ b.n + 1) × (a.m ≡ b.m + length (image.leaf_name l))
  pub holds : Appended (leaf l) b a

-- room for a combinator's node, over those from `first` on
pub record JoinRoom {N : ℕ} (first : ℕ) (b : Nodes N) : Type 0 where
  pub some : first < b.n
  pub room : b.n < N
  pub few : N ≤ 2048

-- one more node
abbrev pub pushed : {N : ℕ} → ℕ → ℕ → Nodes N → Nodes N
pushed t x b = record b { tags = set b.tags b.n t; args = set b.args b.n x; n = b.n + 1 }

-- a combinator's, over those from `first` on
abbrev pub joined : {N : ℕ} → Join → ℕ → Nodes N → Nodes N
joined j first b = pushed (image.tag (image.join_kind j) (b.n - first + 1)) (image.join_arg j) b

-- one less where a chain continues its left side, whose root is the last node
abbrev pub keep_if : Bool → ℕ → ℕ
keep_if true n = n - 1
keep_if false n = n

abbrev pub without_root : {N : ℕ} → ℕ → Nodes N → Nodes N
without_root kind b = record b { n = keep_if (eqb (tag_kind (get_or b.tags (b.n - 1) 0)) kind) b.n }
