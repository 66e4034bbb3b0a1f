-- What the functions that read a whole text ask and promise: room in the nodes, and what they hold afterwards.
-- Assumes nothing.
use Rattle.std.specs.Prelude.{ℕ, ◌≤◌, ◌≡◌, List, length, take, Result, Ok, Err}
use Rattle.refusals.specs.declared.Refusal.{Refusal}
use Rattle.tokens.specs.Token.{tokens_from, scan_of}
use Rattle.rules.specs.Rule.{Rule, size}
use Rattle.image.specs.Encode as image
use Rattle.grammar.specs.Reading.{Read, rule, refused as unread, parse_of, read_of}
use Rattle.nodes.specs.declared.Nodes.{Nodes}

-- there is room for a node and for a name byte for each byte of the text
pub record ReadRoom {N : ℕ} (s : List ℕ) (b : Nodes N) : Type 0 where
  pub room : length s ≤ N
  pub few : N ≤ 2048

-- x, which the text is read as, is a rule, whose nodes and name bytes these are
pub record Whole {N : ℕ} (x : Read) (s : List ℕ) (a : Nodes N) : Type 0 where
  pub tree : Rule
  pub says : x ≡ rule tree
  pub tags : take a.n a.tags ≡ image.tags tree
  pub args : take a.n a.args ≡ image.args tree 0
  pub names : take a.m a.names ≡ image.names tree
  pub nodes : a.n ≡ size tree
  pub bytes : a.m ≡ length (image.names tree)
  pub few : a.n ≤ length s
  pub short : a.m ≤ length s

-- the text was parsed, and no token of it is a fault where it parses as a rule
abbrev pub Ended : {N : ℕ} → List ℕ → Nodes N → Result (Unit {0}) Refusal → Type 0
Ended s a (Ok u) = (scan_of (tokens_from s 0) ≡ Ok tt) × Whole (parse_of s) s a
Ended s a (Err f) = parse_of s ≡ unread f

-- the text was read
abbrev pub Finished : {N : ℕ} → List ℕ → Nodes N → Result (Unit {0}) Refusal → Type 0
Finished s a (Ok u) = Whole (read_of s) s a
Finished s a (Err f) = read_of s ≡ unread f
