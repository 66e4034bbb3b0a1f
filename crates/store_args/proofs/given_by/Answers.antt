-- `store_args::given_by` meets its contract: the last colon is after the name. Assumes nothing.
use mathlib.Core.Path.{◌≡◌, ◌∙◌}
use Prim.Native.Nat.{ℕ, ◌<◌}
use lib.ListN.{length, get_or}
use borrow.Author.Rules.{rules}
use Rattle.store_args.proofs.Laws.ColonLaws.{given_none, given_last}
use Rattle.store_args.proofs.given_by.Goals as goal

pub returns-in_default : goal.returns-in_default
returns-in_default c =
    let none : (k : ℕ) → k < length c.args.arg.now → get_or c.args.arg.now k 0 ≡ 58 → ⊥ = search rules in
    given_none _ c.if-arg-gt266.false none

pub returns : goal.returns
returns c =
    let within : c.in-Some.colon < length c.args.arg.now = search rules in
    let here : get_or c.args.arg.now c.in-Some.colon 0 ≡ 58 = search rules in
    let later : (k : ℕ) → c.in-Some.colon < k → k < length c.args.arg.now → get_or c.args.arg.now k 0 ≡ 58 → ⊥ = search rules in
    c.mode_tested.ensures ∙ given_last _ c.if-arg-gt266.false _ within here later
