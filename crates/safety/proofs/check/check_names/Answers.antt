-- `safety::check::check_names` meets its contract: the tests are 20, 21 and 22 in their order. Assumes nothing.
use Rattle.std.specs.Prelude.{Err}
use mathlib.Core.Path.{◌≡◌, ap, ◌∙◌}
use mathlib.Core.List.{[]}
use native.Mathlib.Omega.{arith}
use Rattle.image.proofs.Laws.WholeLaws.{all_nodes}
use Rattle.evaluate.proofs.Laws.ByLaws.{by_says}
use Rattle.rules.specs.Rule.{Rule, size}
use Rattle.image.specs.Decode.{cell_at}
use Rattle.image.specs.Inner.EncodedAt.{EncodedAt}
use Rattle.store_table.specs.Stores.{entries_in, write_only_names}
use Rattle.evaluate.specs.Evict.{env_of, evict}
use Rattle.verdict.specs.Check.{oldest, evicts_unconfirmed}
use Rattle.verdict.proofs.Laws.CheckLaws.{refused_20, refused_21, refused_22, passed}
use Rattle.safety.proofs.check.check_names.Goals as goal
use Rattle.safety.proofs.check.check_names.Goals.{After-evaluate, After-evaluate-archived}

-- what the rule says with nothing confirmed, and with just the write-only stores
the_bare : (c : After-evaluate) →
    (let s = c.args in
    (r : Rule) → size r ≡ s.image.nodes → EncodedAt r (cell_at s.image.bytes.now s.image.nodes) 0 → c.evaluate.result ≡ evicts_unconfirmed r (entries_in s.stores.table.bytes.now))
the_bare c r z st =
    let says = rw (c.table-nodes.ensures.0, c.table-nodes.ensures.1) at c.evaluate.ensures in
    says r z st
    ∙ by_says _ _ (env_of _ oldest []) _
    (λ i lt l e. (c.grade_leaves.ensures.1 c.in_default.is i lt l e).unconfirmed) r 0 (omega arith) st

the_archived : (c : After-evaluate-archived) →
    (let s = c.args in
    (r : Rule) → size r ≡ s.image.nodes → EncodedAt r (cell_at s.image.bytes.now s.image.nodes) 0 →
    c.evaluate-archived.result ≡ evict r (env_of (entries_in s.stores.table.bytes.now) oldest (write_only_names (entries_in s.stores.table.bytes.now))))
the_archived c r z st =
    let says = rw (c.table-nodes.ensures.0, c.table-nodes.ensures.1) at c.evaluate-archived.ensures in
    says r z st
    ∙ by_says _ _ (env_of _ oldest (write_only_names _)) _
    (λ i lt l e. (c.grade_leaves.ensures.1 c.in_default.is i lt l e).archived) r 0 (omega arith) st

pub returns-in-Some : goal.returns-in-Some
returns-in-Some c r z st =
    ap Err c.at.ensures ∙ refused_20 r _ c.requires.1 (c.grade_leaves.ensures.0 r z st) c.in-Some.is

pub evaluate-requires : goal.evaluate-requires
evaluate-requires c =
    (rw (c.table-nodes.ensures.0, c.table-nodes.ensures.1) (all_nodes c.args.image), omega arith)

pub returns-then-evaluate : goal.returns-then-evaluate
returns-then-evaluate c r z st =
    ap Err c.at-then-evaluate.ensures ∙ refused_21 r _ c.requires.1 (c.grade_leaves.ensures.0 r z st)
    c.in_default.is (the_bare (goal.at.returns-then-evaluate c).After-evaluate r z st) c.if-evaluate.true

pub evaluate-archived-requires : goal.evaluate-archived-requires
evaluate-archived-requires c =
    (rw (c.table-nodes.ensures.0, c.table-nodes.ensures.1) (all_nodes c.args.image), omega arith)

pub returns-then-archived : goal.returns-then-archived
returns-then-archived c r z st =
    ap Err c.at-then-archived.ensures ∙ refused_22 r _ c.requires.1 (c.grade_leaves.ensures.0 r z st)
    c.in_default.is (the_bare (goal.at.returns-then-archived c).After-evaluate r z st) c.if-evaluate.false
    (the_archived (goal.at.returns-then-archived c).After-evaluate-archived r z st) c.if-archived.true

pub returns : goal.returns
returns c r z st =
    passed r _ c.requires.1 (c.grade_leaves.ensures.0 r z st) c.in_default.is
    (the_bare (goal.at.returns c).After-evaluate r z st) c.if-evaluate.false (the_archived (goal.at.returns c).After-evaluate-archived r z st) c.if-archived.false
