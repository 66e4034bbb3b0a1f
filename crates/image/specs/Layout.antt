-- Where the parts of an image lie, as document 01's 'Rule image' lays them down. Assumes nothing.
use Rattle.std.specs.Prelude.{ℕ, ◌+◌, ◌*◌, ◌/◌, ◌%◌, List, take, drop}
use Rattle.little_endian.specs.Bytes.{le_at}

-- "n (2 bytes, nodes)"
abbrev pub node_count_in : List ℕ → ℕ
node_count_in s = le_at s 0 2

-- "m (2 bytes, name bytes)"
abbrev pub name_byte_count_in : List ℕ → ℕ
name_byte_count_in s = le_at s 2 2

-- "array of n tags (4 bytes)": where tag i lies
abbrev pub tag_start : ℕ → ℕ
tag_start i = 4 + 4 * i

-- "array of n arguments (8 bytes)": where argument i of n lies
abbrev pub arg_start : ℕ → ℕ → ℕ
arg_start n i = 4 + 4 * n + 8 * i

-- "m name bytes": where those of n nodes begin
abbrev pub names_start : ℕ → ℕ
names_start n = 4 + 12 * n

-- "Tag = kind + 256 × size": what a tag says
abbrev pub tag_kind : ℕ → ℕ
tag_kind tag = tag % 256

abbrev pub tag_size : ℕ → ℕ
tag_size tag = tag / 256

-- "argument start × 65,536 + length": what the argument of a name's node says
abbrev pub name_start : ℕ → ℕ
name_start arg = arg / 65536

abbrev pub name_length : ℕ → ℕ
name_length arg = arg % 65536

-- the bytes of the name, in an image of n nodes
abbrev pub name_of : List ℕ → ℕ → ℕ → List ℕ
name_of s n arg = take (name_length arg) (drop (names_start n + name_start arg) s)
