-- A rule in a row of nodes: what a function that walks a part of an image asks. Assumes nothing.
use Rattle.std.specs.Prelude.{ℕ, ◌+◌, ◌≤◌, ◌<◌, ◌≡◌, List, length}
use Rattle.rules.specs.Rule.{Rule, Rules, size, sizes}
use Rattle.image.specs.Kinds.{named_kind}
use Rattle.image.specs.Layout.{names_start, name_start, name_length}
use Rattle.image.specs.Decode.{Cell, cell_at, node_at}
use Rattle.image.specs.Inner.EncodedAt.{EncodedAt, EncodedAllAt}

-- the k cells from `from` on are a rule's
pub record Subtree (f : ℕ → Cell) (from k : ℕ) : Type 0 where
  pub rule : Rule
  pub sized : size rule ≡ k
  pub stands : EncodedAt rule f from

-- the cells from `from` up to `end` are those of rules, one after another
pub record Siblings (f : ℕ → Cell) (from end : ℕ) : Type 0 where
  pub rules : Rules
  pub stand : EncodedAllAt rules f from
  pub ends : from + sizes rules ≡ end

-- this holds of whatever rule has the k nodes from `from` on, among n nodes
abbrev pub OfRule : List ℕ → ℕ → ℕ → ℕ → (Rule → Type 0) → Type 0
OfRule s n from k P = (r : Rule) → size r ≡ k → EncodedAt r (cell_at s n) from → P r

-- the name that an argument gives lies inside an image of n nodes
abbrev pub NameInside : List ℕ → ℕ → ℕ → Type 0
NameInside s n arg = names_start n + name_start arg + name_length arg ≤ length s

-- so do the names of all n nodes
unfoldable pub NamesInside : List ℕ → ℕ → Type 0
NamesInside s n = (i : ℕ) → i < n → (node_at s n i).kind ≡ named_kind → NameInside s n (node_at s n i).arg

-- n nodes, of which the k from `from` on are a rule's, whatever its leaves are
pub record NodeRow (s : List ℕ) (n from k : ℕ) : Type 0 where
  pub long : names_start n ≤ length s
  pub within : from + k ≤ n
  pub here : Subtree (cell_at s n) from k

-- an image of n nodes, of which the k from `from` on are a rule's
pub record ValidSubtree (s : List ℕ) (n from k : ℕ) : Type 0 where
  pub long : names_start n ≤ length s
  pub names : NamesInside s n
  pub within : from + k ≤ n
  pub here : Subtree (cell_at s n) from k

abbrev pub row_of : {s : List ℕ} {n from k : ℕ} → ValidSubtree s n from k → NodeRow s n from k
row_of i = record { long = i.long; within = i.within; here = i.here }
