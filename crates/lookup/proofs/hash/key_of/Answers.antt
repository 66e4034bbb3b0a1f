-- `lookup::hash::key_of` meets its contract: its tests of the length are the definition's. Assumes nothing.
use native.Mathlib.Omega.{arith}
use borrow.Author.Tests.{le-leb, lt-leb}
use Rattle.store_table.specs.Inner.Index.{key_of}
use Rattle.lookup.proofs.hash.key_of.Goals as goal

pub returns-then-n-ge8 : goal.returns-then-n-ge8
unfolding key_of
returns-then-n-ge8 c = rw (le-leb _ _ c.if-n-ge8.true, ← c.read.ensures.0, ← c.read-then-n-ge8.ensures.0)

pub returns-then-n-ge4 : goal.returns-then-n-ge4
unfolding key_of
returns-then-n-ge4 c =
    rw (
      lt-leb _ _ c.if-n-ge8.false,
      le-leb _ _ c.if-n-ge4.true,
      ← c.read-then-n-ge4.ensures.0,
      ← c.read-then-n-ge4-2.ensures.0,
    )

pub returns-then-n-ge1 : goal.returns-then-n-ge1
unfolding key_of
returns-then-n-ge1 c =
    rw (lt-leb _ _ c.if-n-ge8.false, lt-leb _ _ c.if-n-ge4.false, le-leb _ _ c.if-n-ge1.true) (omega arith)

pub returns : goal.returns
unfolding key_of
returns c = rw (lt-leb _ _ c.if-n-ge8.false, lt-leb _ _ c.if-n-ge4.false, lt-leb _ _ c.if-n-ge1.false)
