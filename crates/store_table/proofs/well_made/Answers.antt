-- `store_table::well_made` meets its contract: its tests are the definition's, in their order. Assumes nothing.
use mathlib.Core.Path.{◌≡◌, sym, ap, ◌∙◌}
use mathlib.Core.List.{List}
use Prim.Native.Nat.{ℕ, ◌+◌, ◌-◌}
use native.Mathlib.Omega.{arith}
use Rattle.store_table.proofs.Laws.StoresLaws.{unmade_short, unmade_length, unmade_sum, unmade_modes, made_names}
use lib.ListN.{take, drop}
use Rattle.store_table.specs.Stores.{sum, all_at_most, modes_start, lengths_start, names_start}
use Rattle.store_table.proofs.well_made.Goals as goal

pub returns-then-s-lt-MODES_START : goal.returns-then-s-lt-MODES_START
returns-then-s-lt-MODES_START c = unmade_short _ _ (omega arith)

pub returns-then-s-names : goal.returns-then-s-names
returns-then-s-names c =
    unmade_length _ _ _ _ c.read-count.ensures.0 c.read-total.ensures.0 (λ e. c.if-s-names.true (omega arith))

-- the slices that are summed and tested are the lengths and the modes
lengths_part : (s : List ℕ) (count : ℕ) → take (4 + count + count - (4 + count)) (drop (4 + count) s) ≡ take count (drop (lengths_start count) s)
lengths_part s count = let z : 4 + count + count - (4 + count) ≡ count = omega arith in rw z

modes_part : (s : List ℕ) (count : ℕ) → take (4 + count - 4) (drop 4 s) ≡ take count (drop modes_start s)
modes_part s count = let z : 4 + count - 4 ≡ count = omega arith in rw z

pub returns-then-sum_of-total : goal.returns-then-sum_of-total
returns-then-sum_of-total c =
    unmade_sum _ _ _ _ c.read-count.ensures.0 c.read-total.ensures.0
    (λ e. c.if-sum_of-total.true (c.sum_of.ensures ∙ ap sum (lengths_part c.args.s.now c.read-count.result) ∙ e))

pub returns-then-not-all_at_most : goal.returns-then-not-all_at_most
returns-then-not-all_at_most c =
    unmade_modes _ _ _ _ c.read-count.ensures.0 c.read-total.ensures.0
    (sym (ap (all_at_most c.args.most) (modes_part c.args.s.now c.read-count.result)) ∙ sym c.all_at_most.ensures ∙ c.if-not-all_at_most.true)

pub returns : goal.returns
returns c =
    let n = c.read-count.result in
    let fill = sym (c.sum_of.ensures ∙ ap sum (lengths_part c.args.s.now c.read-count.result)) ∙ c.if-sum_of-total.false in
    let allow = sym (ap (all_at_most c.args.most) (modes_part c.args.s.now c.read-count.result)) ∙ sym c.all_at_most.ensures ∙ c.if-not-all_at_most.false in
    let z : 4 + n + n ≡ names_start n = omega arith in
    c.ascii_from.ensures
    ∙ rw z
    (made_names _ _ _ _ c.read-count.ensures.0 c.read-total.ensures.0 (omega arith) (omega arith)
    (omega (arith, c.if-s-names.false)) fill allow)
