-- What the functions that make a table of arguments answer. Assumes nothing.
use Rattle.std.specs.Prelude.{ℕ, suc, min, ◌≤◌, ◌<◌, ◌≡◌, List, ◌∷◌, Result, Ok, Err, length, take}
use Rattle.slices.specs.Text.{run_end, other}
use Rattle.store_table.specs.Stores.{Entry}
use Rattle.store_table.specs.TableBytes.{table_of}
use Rattle.store_args.specs.Arguments.{arguments_in}
use Rattle.store_args.specs.declared.Fault.{Fault}
use Rattle.store_args.specs.declared.WrongArgument.{WrongArgument}
use Rattle.store_args.specs.declared.Store.{Store}

-- where the argument after that at a position begins, or the end
abbrev pub next_arg : List ℕ → ℕ → ℕ
next_arg s at = min (suc (run_end (other 0) s at)) (length s)

-- the entry of a store that is given
abbrev pub entry : Store → Entry
entry s = record { mode = s.mode; name = s.name.now }

abbrev pub given : Result Store Fault → Result Entry Fault
given (Ok s) = Ok (entry s)
given (Err f) = Err f

-- the first argument, and the arguments after it
pub record FirstOf (s arg rest : List ℕ) : Type 0 where
  pub are : arguments_in s ≡ arg ∷ arguments_in rest
  pub less : length rest < length s

-- the table of all stores is at the front of the buffer
pub record TableAt (s : Result (List Entry) WrongArgument) (buffer : List ℕ) (n : ℕ) : Type 0 where
  pub es : List Entry
  pub are : s ≡ Ok es
  pub within : n ≤ length buffer
  pub bytes : take n buffer ≡ table_of es
