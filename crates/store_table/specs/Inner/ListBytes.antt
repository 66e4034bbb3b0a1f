-- The bytes of a confirmed list that holds given names. Assumes nothing.
use Rattle.std.specs.Prelude.{ℕ, List, map}
use Rattle.store_table.specs.Stores.{Entry, read_write}
use Rattle.store_table.specs.TableBytes.{table_of}

-- names as entries: "A confirmed list has modes 0"
unfoldable pub plain : List (List ℕ) → List Entry
plain ns = map (λ w. record { mode = read_write; name = w }) ns

-- the table of those entries
unfoldable pub list_of : List (List ℕ) → List ℕ
unfolding plain table_of
list_of ns = table_of (plain ns)
