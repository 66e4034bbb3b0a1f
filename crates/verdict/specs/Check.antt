-- Checking and judging, as document 01's 'Deciding and checking' lays them down. Assumes nothing.
use Rattle.std.specs.Prelude.{ℕ, ◌+◌, ◌-◌, ◌^◌, Bool, true, false, not, cond, ◌&&◌, List, [], ◌∷◌, leb, length, None, Option, Some, Err, Ok}
use Rattle.std.proofs.Math.Option.{Option as Maybe, none, some}
use Rattle.refusals.specs.Refusals.{refusal}
use Rattle.refusals.specs.declared.Cause.TheVariants.{BadImage, UnknownStore, Unconfirmed, ArchiveOnly}
use Rattle.rules.specs.Rule.{Leaf, named, older_than, readable, Rule, leaf, node, Rules, nil, more, size, sizes}
use Rattle.image.specs.Decode.{decode}
use Rattle.grammar.specs.Reading.{Read, rule, refused, read_of}
use Rattle.store_table.specs.Names.{has}
use Rattle.store_table.specs.Stores.{Entry, entries_in, all_names, write_only_names}
use Rattle.evaluate.specs.Evict.{env_of, evict}
use Rattle.decide.specs.Tests.{first_refusal, table_test, twin_test}
use Rattle.verdict.specs.Verdict.{Verdict}

-- ---- 20, "first unknown in text order"

-- a leaf names a store not in the table
unfoldable pub is_unknown : List Entry → Leaf → Bool
is_unknown stores (named w) = not (has w (all_names stores))
is_unknown stores (older_than d) = false
is_unknown stores (readable k) = false

abbrev pub first : Option ℕ → Option ℕ → Option ℕ
first None later = later
first (Some i) later = Some i

-- "20 the node's index from 0", of a rule that begins at node i
unfoldable mutual
  unfolding is_unknown size

  pub unknown_in : List Entry → Rule → ℕ → Option ℕ
  unknown_in stores (leaf l) i = cond (is_unknown stores l) (Some i) None
  unknown_in stores (node j rs r) i = first (unknown_all stores rs i) (unknown_in stores r (i + sizes rs))

  pub unknown_all : List Entry → Rules → ℕ → Option ℕ
  unknown_all stores nil i = None
  unknown_all stores (more rs r) i = first (unknown_all stores rs i) (unknown_in stores r (i + sizes rs))

-- ---- 21 and 22

-- "The largest age is 2^64 - 1."
abbrev pub oldest : ℕ
oldest = 2 ^ 64 - 1

-- "21 (largest age, nothing confirmed)"
abbrev pub evicts_unconfirmed : Rule → List Entry → Bool
evicts_unconfirmed r stores = evict r (env_of stores oldest [])

-- "22 (largest age, exactly the write-only names, only if there are some)"
abbrev pub evicts_on_archive : Rule → List Entry → Bool
evicts_on_archive r stores = leb 1 (length (write_only_names stores)) && evict r (env_of stores oldest (write_only_names stores))

-- ---- check

-- "Then 20 .., 21 .., 22 .."
abbrev pub verdict : Option ℕ → Bool → Bool → Verdict
verdict (Some i) b a = Err (refusal UnknownStore i)
verdict None true a = Err (refusal Unconfirmed 0)
verdict None false true = Err (refusal ArchiveOnly 0)
verdict None false false = Ok tt

-- "no stores passes"
abbrev pub check_stores : Rule → List Entry → Verdict
check_stores r [] = Ok tt
check_stores r (e ∷ es) = let stores = e ∷ es in verdict (unknown_in stores r 0) (evicts_unconfirmed r stores) (evicts_on_archive r stores)

-- 17, then 18
unfoldable pub check_rule : Rule → List ℕ → Verdict
check_rule r s = first_refusal Err (table_test s ∷ twin_test s ∷ []) (check_stores r (entries_in s))

-- "Check tests 16 to 18"
abbrev pub check_decoded : Maybe Rule → List ℕ → Verdict
check_decoded none s = Err (refusal BadImage 0)
check_decoded (some r) s = check_rule r s

unfoldable pub check_of : List ℕ → List ℕ → Verdict
check_of image s = check_decoded (decode image) s

-- ---- judge: "it tests 2 to 15, 17, 18, 20, 21, 22 in that order of stages"

abbrev pub judge_read : Read → List ℕ → Verdict
judge_read (rule r) s = check_rule r s
judge_read (refused f) s = Err f

unfoldable pub judge_of : List ℕ → List ℕ → Verdict
judge_of text s = judge_read (read_of text) s
