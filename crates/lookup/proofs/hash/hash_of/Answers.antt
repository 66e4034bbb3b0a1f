-- `lookup::hash::hash_of` meets its contract: it computes as the definition says. Assumes nothing.
use native.Mathlib.Omega.{arith}
use Rattle.store_table.specs.Inner.Index.{hash_of}
use Rattle.lookup.proofs.hash.hash_of.Goals as goal

pub returns : goal.returns
unfolding hash_of
returns c = (rw (← c.key_of-key.ensures), omega arith)
