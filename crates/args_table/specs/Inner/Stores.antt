-- What the functions that make a table of arguments ask and answer. Assumes nothing.
use Rattle.std.specs.Prelude.{ℕ, ◌+◌, ◌≤◌, ◌<◌, ◌≡◌, List, ◌++◌, length, take}
use Rattle.little_endian.specs.Bytes.{le_bytes}
use Rattle.store_table.specs.Stores.{Entry}
use Rattle.store_table.specs.TableBytes as table
use Rattle.args_table.specs.declared.Stores.{Stores}

-- these are the stores
pub record Hold (es : List Entry) (s : Stores) : Type 0 where
  pub many : s.count ≡ length es
  pub modes : take s.count s.modes ≡ table.modes es
  pub lengths : take s.count s.lengths ≡ table.lengths es
  pub names : take s.end s.names ≡ table.joined es
  pub ends : s.end ≡ length (table.joined es)

-- there is room for a store more, with a name of this length
pub record Room (s : Stores) (size : ℕ) : Type 0 where
  pub few : s.count < 64
  pub short : size ≤ 255
  pub names : s.end + size ≤ 16_320

-- the parts of the table are at the front of the buffer
pub record Written (s : Stores) (buffer : List ℕ) (n : ℕ) : Type 0 where
  pub within : n ≤ length buffer
  pub bytes : take n buffer
      ≡ le_bytes 2 s.count ++ le_bytes 2 s.end ++ take s.count s.modes ++ take s.count s.lengths ++ take s.end s.names
