-- From a rule to its image, as document 01's 'Rule image' lays it down. Assumes nothing.
use Rattle.std.specs.Prelude.{ℕ, suc, ◌+◌, ◌*◌, ◌^◌, ◌≤◌, ◌<◌, ◌≡◌, true, List, [], ◌∷◌, ◌++◌, length}
use Rattle.rules.specs.Rule.{Leaf, named, older_than, readable, Join, at_least, all, any, Rule, leaf, node, Rules, nil, more, size, sizes}
use Rattle.little_endian.specs.Bytes.{le_bytes, packed}
use Rattle.slices.specs.Text.{all_ascii}
use Rattle.image.specs.Kinds.{named_kind, older_than_kind, readable_kind, at_least_kind, all_kind, any_kind}

-- the kind of a leaf
abbrev pub leaf_kind : Leaf → ℕ
leaf_kind (named w) = named_kind
leaf_kind (older_than d) = older_than_kind
leaf_kind (readable k) = readable_kind

-- the kind of a combinator
abbrev pub join_kind : Join → ℕ
join_kind (at_least k) = at_least_kind
join_kind all = all_kind
join_kind any = any_kind

-- "Tag = kind + 256 × size"
abbrev pub tag : ℕ → ℕ → ℕ
tag kind size = kind + 256 * size

-- "argument start × 65,536 + length"
abbrev pub name_arg : ℕ → ℕ → ℕ
name_arg start length = start * 65536 + length

-- of a name before which there are `start` name bytes; "milliseconds"; "count"
abbrev pub leaf_arg : Leaf → ℕ → ℕ
leaf_arg (named w) start = name_arg start (length w)
leaf_arg (older_than d) start = d
leaf_arg (readable k) start = k

-- "count"; "all, any (argument 0)"
abbrev pub join_arg : Join → ℕ
join_arg (at_least k) = k
join_arg all = 0
join_arg any = 0

abbrev pub leaf_name : Leaf → List ℕ
leaf_name (named w) = w
leaf_name (older_than d) = []
leaf_name (readable k) = []

-- "Children stand before their parent, in text order; the root is last": the name bytes
unfoldable mutual
  pub names : Rule → List ℕ
  names (leaf l) = leaf_name l
  names (node j rs r) = names_all rs ++ names r

  pub names_all : Rules → List ℕ
  names_all nil = []
  names_all (more rs r) = names_all rs ++ names r

-- the tags: "Kinds 0 to 2 have size 1"
unfoldable mutual
  unfolding size

  pub tags : Rule → List ℕ
  tags (leaf l) = tag (leaf_kind l) 1 ∷ []
  tags (node j rs r) = (tags_all rs ++ tags r) ++ (tag (join_kind j) (suc (sizes rs + size r)) ∷ [])

  pub tags_all : Rules → List ℕ
  tags_all nil = []
  tags_all (more rs r) = tags_all rs ++ tags r

-- the arguments, after `start` name bytes: "start the sum of earlier name lengths"
unfoldable mutual
  unfolding names

  pub args : Rule → ℕ → List ℕ
  args (leaf l) start = leaf_arg l start ∷ []
  args (node j rs r) start = (args_all rs start ++ args r (start + length (names_all rs))) ++ (join_arg j ∷ [])

  pub args_all : Rules → ℕ → List ℕ
  args_all nil start = []
  args_all (more rs r) start = args_all rs start ++ args r (start + length (names_all rs))

-- "n (2 bytes, nodes), m (2 bytes, name bytes), array of n tags (4 bytes), array of n arguments (8 bytes), m name bytes"
unfoldable pub image_of : ℕ → List ℕ → List ℕ → List ℕ → List ℕ
unfolding le_bytes packed
image_of n ts xs ws = le_bytes 2 n ++ (le_bytes 2 (length ws) ++ (packed 4 ts ++ (packed 8 xs ++ ws)))

unfoldable pub encode : Rule → List ℕ
unfolding size tags args names image_of
encode r = image_of (size r) (tags r) (args r 0) (names r)

-- counts and durations that 8 bytes hold
unfoldable mutual
  pub Small : Rule → Type 0
  Small (leaf l) = leaf_arg l 0 < 2 ^ 64
  Small (node j rs r) = (join_arg j < 2 ^ 64) × (SmallAll rs × Small r)

  pub SmallAll : Rules → Type 0
  SmallAll nil = Unit {0}
  SmallAll (more rs r) = SmallAll rs × Small r

-- the rules that an image can hold: "n is 1 to 2,048, m at most 2,048"
pub record Fits (r : Rule) : Type 0 where
  pub nodes : size r ≤ 2048
  pub bytes : length (names r) ≤ 2048
  pub ascii : all_ascii (names r) ≡ true
  pub small : Small r
