-- Stores given as arguments, each `name:mode` with the Rust's names of modes. Not of document 01. Assumes nothing.
use Rattle.std.specs.Prelude.{ℕ, suc, ◌-◌, cond, List, [], ◌∷◌, Result, Ok, Err, eqb, ltb, length, take, drop}
use Prim.Native.Char.{code}
use Rattle.slices.specs.Text.{bytes, all_ascii, end_of_last}
use Rattle.ascii.specs.Letters.{within, equal}
use Rattle.store_table.specs.Stores.{Entry, read_write, read_only, write_only}
use Rattle.store_args.specs.declared.Fault.{Fault}
use Rattle.store_args.specs.declared.WrongArgument.{WrongArgument}
use Rattle.store_args.specs.declared.Fault.TheVariants.{NoColon, NoMode, LongName, ForeignName}

-- arguments are given one after the other, each with a 0 after it
abbrev pub onto_first : ℕ → List (List ℕ) → List (List ℕ)
onto_first b [] = (b ∷ []) ∷ []
onto_first b (w ∷ ws) = (b ∷ w) ∷ ws

unfoldable pub arguments_in : List ℕ → List (List ℕ)
arguments_in [] = []
arguments_in (b ∷ s) = let ws = arguments_in s in cond (eqb b 0) ([] ∷ ws) (onto_first b ws)

-- what is wrong with an argument, as a person reads it
abbrev pub fault_text : Fault → List ℕ
fault_text NoColon = bytes "no colon; a store is given as name:mode"
fault_text NoMode = bytes "no such mode; it is read-write, read-only or write-only"
fault_text LongName = bytes "too long; a name has at most 255 bytes"
fault_text ForeignName = bytes "a name has a byte that is not ASCII"

-- a store of this mode and name, or what is wrong with the argument
unfoldable pub named : ℕ → List ℕ → Result Entry Fault
named mode name =
    cond (ltb 255 (length name)) (Err LongName)
    (cond (all_ascii name) (Ok (record { mode = mode; name = name })) (Err ForeignName))

-- the mode that a word names, and the name before the colon
unfoldable pub mode_tested : List ℕ → List ℕ → Result Entry Fault
unfolding named
mode_tested word name =
    cond (equal word (bytes "read-write")) (named read_write name)
    (cond (equal word (bytes "read-only")) (named read_only name)
    (cond (equal word (bytes "write-only")) (named write_only name) (Err NoMode)))

-- after the last colon of an argument, or 0 where there is none
abbrev pub after_colon : List ℕ → ℕ
after_colon w = end_of_last (within (code ":") (code ":")) w (length w)

unfoldable pub colon_tested : List ℕ → ℕ → Result Entry Fault
unfolding mode_tested
colon_tested w c = cond (eqb c 0) (Err NoColon) (mode_tested (drop c w) (take (c - 1) w))

-- the store that an argument gives; one with a name of 255 bytes has at most 266
unfoldable pub given_by : List ℕ → Result Entry Fault
unfolding colon_tested
given_by w = cond (ltb 266 (length w)) (Err LongName) (colon_tested w (after_colon w))

-- all stores, or the first argument that is wrong, counted from 1, and what is wrong with it
abbrev pub before : Result Entry Fault → ℕ → Result (List Entry) WrongArgument → Result (List Entry) WrongArgument
before (Err f) i rest = Err (record { index = i; fault = f })
before (Ok e) i (Ok es) = Ok (e ∷ es)
before (Ok e) i (Err w) = Err w

unfoldable pub stores_from : ℕ → List (List ℕ) → Result (List Entry) WrongArgument
unfolding given_by
stores_from i [] = Ok []
stores_from i (w ∷ ws) = before (given_by w) i (stores_from (suc i) ws)

unfoldable pub stores_in : List ℕ → Result (List Entry) WrongArgument
unfolding arguments_in stores_from
stores_in args = stores_from 1 (arguments_in args)
