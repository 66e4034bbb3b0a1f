-- From bytes to the rule whose image they are, if they are one. Assumes nothing.
use Rattle.std.specs.Prelude.{ℕ, zero, suc, ◌+◌, ◌-◌, Bool, true, false, ◌&&◌, List, leb, eqb, length, drop}
use Rattle.std.proofs.Math.Option.{Option, none, some}
use Rattle.rules.specs.Rule.{Leaf, named, older_than, readable, Join, at_least, all, any, Rule, leaf, node, Rules, nil, more, size}
use Rattle.little_endian.specs.Bytes.{le_at}
use Rattle.slices.specs.Text.{all_ascii}
use Rattle.image.specs.Layout.{node_count_in, name_byte_count_in, tag_start, arg_start, names_start, tag_kind, tag_size, name_start, name_length, name_of}

abbrev pub when {ℓ} : {A : Type ℓ} → Bool → Option A → Option A
when true o = o
when false o = none

abbrev pub bind {ℓ} : {A B : Type ℓ} → Option A → (A → Option B) → Option B
bind none f = none
bind (some a) f = f a

-- a node as it lies in the image
pub record Node : Type 0 where
  pub kind : ℕ
  pub size : ℕ
  pub arg : ℕ

-- node i of an image of n nodes
unfoldable pub node_at : List ℕ → ℕ → ℕ → Node
unfolding le_at
node_at s n i = record {
  kind = tag_kind (le_at s (tag_start i) 4);
  size = tag_size (le_at s (tag_start i) 4);
  arg = le_at s (arg_start n i) 8;
}

-- what a node is: a leaf, a combinator, or nothing that a rule has
pub data Meaning : Type 0 where
  leaf_meaning : Leaf → Meaning
  join_meaning : Join → Meaning
  nothing : Meaning

abbrev pub argument0 : ℕ → Join → Meaning
argument0 zero j = join_meaning j
argument0 (suc k) j = nothing

-- by its kind and its argument, in an image of n nodes
unfoldable pub meaning : List ℕ → ℕ → ℕ → ℕ → Meaning
meaning s n zero a = leaf_meaning (named (name_of s n a))
meaning s n (suc zero) a = leaf_meaning (older_than a)
meaning s n (suc (suc zero)) a = leaf_meaning (readable a)
meaning s n (suc (suc (suc zero))) a = join_meaning (at_least a)
meaning s n (suc (suc (suc (suc zero)))) a = argument0 a all
meaning s n (suc (suc (suc (suc (suc zero))))) a = argument0 a any
meaning s n (suc (suc (suc (suc (suc (suc k)))))) a = nothing

pub record Cell : Type 0 where
  pub what : Meaning
  pub size : ℕ

abbrev pub cell_of : List ℕ → ℕ → Node → Cell
cell_of s n d = record { what = meaning s n d.kind d.arg; size = d.size }

unfoldable pub cell_at : List ℕ → ℕ → ℕ → Cell
cell_at s n i = cell_of s n (node_at s n i)

-- "sizes tile exactly": of the rules that nodes so far make, the last ones that have m nodes in all, and those before them
unfoldable pub split : Rules → ℕ → Option (Rules × Rules)
unfolding size
split nil zero = some (nil, nil)
split nil (suc m) = none
split (more rs r) zero = some (more rs r, nil)
split (more rs r) (suc m) = when (leb (size r) (suc m)) (bind (split rs (suc m - size r)) (λ p. some (p.0, more p.1 r)))

-- a combinator over the last rules that have m nodes in all: "at least one child"
unfoldable pub close : Join → Rules → ℕ → Option Rules
unfolding split
close j nil m = none
close j (more rs r) m = when (leb (size r) m) (bind (split rs (m - size r)) (λ p. some (more p.0 (node j p.1 r))))

-- the rules that nodes make, after one node more: "Kinds 0 to 2 have size 1"
unfoldable pub place : Meaning → ℕ → Rules → Option Rules
unfolding close
place (leaf_meaning l) s rs = when (eqb s 1) (some (more rs (leaf l)))
place (join_meaning j) s rs = close j rs (s - 1)
place nothing s rs = none

-- the rules that the first i nodes make, in order
unfoldable pub build : (ℕ → Cell) → ℕ → Option Rules
unfolding place
build f zero = some nil
build f (suc i) = bind (build f i) (place (f i).what (f i).size)

-- "the root is last": one rule, and no other
abbrev pub only : Rules → Option Rule
only nil = none
only (more nil r) = some r
only (more (more rs q) r) = none

-- "start the sum of earlier name lengths": where the next name starts, if each started where the one before it ended
abbrev pub next_name : ℕ → ℕ → ℕ → Option ℕ
next_name zero a t = when (eqb (name_start a) t) (some (t + name_length a))
next_name (suc k) a t = some t

unfoldable pub name_end : (ℕ → Node) → ℕ → Option ℕ
name_end f zero = some 0
name_end f (suc i) = bind (name_end f i) (next_name (f i).kind (f i).arg)

abbrev pub ends_at : Option ℕ → ℕ → Bool
ends_at none m = false
ends_at (some t) m = eqb t m

-- "Length is exactly 4 + 12 × n + m; n is 1 to 2,048, m at most 2,048."
unfoldable pub sized : List ℕ → ℕ → ℕ → Bool
sized s n m = leb 1 n && leb n 2048 && leb m 2048 && eqb (length s) (names_start n + m)

-- n nodes and m name bytes: "lengths sum to m"; "Name bytes are below 128"
unfoldable pub decode_parts : List ℕ → ℕ → ℕ → Option Rule
unfolding sized all_ascii name_end node_at meaning build cell_at
decode_parts s n m =
    when (sized s n m)
    (when (all_ascii (drop (names_start n) s))
    (when (ends_at (name_end (node_at s n) n) m)
    (bind (build (cell_at s n) n) only)))

unfoldable pub decode : List ℕ → Option Rule
unfolding le_at decode_parts
decode s = decode_parts s (node_count_in s) (name_byte_count_in s)
