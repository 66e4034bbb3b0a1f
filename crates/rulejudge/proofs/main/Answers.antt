-- The page ends within its buffer.
use Rattle.console.proofs.Laws.WithinLaws.{put_within, put_counts}
use Rattle.rulejudge.proofs.main.Goals as goal

pub slice_bounds-page-end : goal.slice_bounds-page-end
slice_bounds-page-end c = put_within c.report-written.ensures

pub slice_bounds-write_out-end : goal.slice_bounds-write_out-end
slice_bounds-write_out-end c = put_counts c.report-written.ensures
