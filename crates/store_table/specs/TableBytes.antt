-- The bytes of a store table or a confirmed list that has given entries. Assumes nothing.
use Rattle.std.specs.Prelude.{ℕ, List, [], ◌∷◌, ◌++◌, map, length}
use Rattle.little_endian.specs.Bytes.{le_bytes}
use Rattle.store_table.specs.Stores.{Entry, sum}

-- the mode of each entry
unfoldable pub modes : List Entry → List ℕ
modes es = map (λ e. e.mode) es

-- the length of each name
unfoldable pub lengths : List Entry → List ℕ
lengths es = map (λ e. length e.name) es

-- the names, one after the other
unfoldable pub joined : List Entry → List ℕ
joined [] = []
joined (e ∷ es) = e.name ++ joined es

-- "count (2 bytes, at most 64), total (2 bytes), two parallel arrays of count bytes, modes and name lengths, then total bytes of names in order"
unfoldable pub table_of : List Entry → List ℕ
unfolding le_bytes sum modes lengths joined
table_of es = le_bytes 2 (length es) ++ (le_bytes 2 (sum (lengths es)) ++ (modes es ++ (lengths es ++ joined es)))
