-- The first argument ends at the first 0, or at the end.
use Rattle.std.proofs.Common.{sym, arith, rules, length-take-le}
use Rattle.std.proofs.lemmas.Bool.Decides.{nat_tests}
use Rattle.store_args.proofs.Laws.SplitLaws.{stop_within, none_in, first_ended, first_open}
use Rattle.store_args.proofs.first_and_rest.Goals as goal

pub returns-then-is_empty : goal.returns-then-is_empty
returns-then-is_empty c = none_in _ (grind (arith, nat_tests))

pub returns-then-stop-args : goal.returns-then-stop-args
returns-then-stop-args c = first_ended _ c.mark_at-stop.ensures (omega arith)

pub slice_bounds-result-end-2 : goal.slice_bounds-result-end-2
slice_bounds-result-end-2 c = sym (length-take-le _ _ (stop_within _ c.mark_at-stop.ensures))

pub slice_bounds-result-count-2 : goal.slice_bounds-result-count-2
slice_bounds-result-count-2 c = stop_within _ c.mark_at-stop.ensures

pub slice_bounds-result-start-2 : goal.slice_bounds-result-start-2
slice_bounds-result-start-2 c = let h = stop_within _ c.mark_at-stop.ensures in search rules

pub returns : goal.returns
returns c = first_open _ c.mark_at-stop.ensures (grind (arith, nat_tests)) (omega arith)
