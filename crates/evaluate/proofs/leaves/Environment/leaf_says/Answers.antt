-- `evaluate::leaves::Environment::leaf_says` meets its contract: each kind has its own line, and the other kinds are no leaf's. Assumes nothing.
use native.Mathlib.Omega.{arith}
use Rattle.evaluate.specs.Inner.Known.{env_in}
use Rattle.image.proofs.Laws.KindLaws.{other_kind, no_leaf}
use Rattle.evaluate.proofs.Laws.MeaningLaws.{says_named, says_older, says_readable}
use Rattle.evaluate.proofs.leaves.Environment.leaf_says.Goals as goal

pub name-requires : goal.name-requires
name-requires c = c.requires c.in-0.is

pub returns-in-0 : goal.returns-in-0
returns-in-0 c = λ l e.
    let s = c.args.self in
    says_named _ _ _ (env_in s.confirmed.list.bytes.now s.age s.ready) l e c.in-0.is c.name.ensures c.is_confirmed.ensures

pub returns-in-1 : goal.returns-in-1
returns-in-1 c = λ l e. says_older _ _ _ _ l e c.in-1.is

pub returns-in-2 : goal.returns-in-2
returns-in-2 c = λ l e. says_readable _ _ _ _ l e c.in-2.is

pub returns-in_default : goal.returns-in_default
returns-in_default c = λ l e. absurd (no_leaf _ _ _ _ (other_kind _ (λ q. omega arith) (λ q. omega arith) (λ q. omega arith)) l e)
