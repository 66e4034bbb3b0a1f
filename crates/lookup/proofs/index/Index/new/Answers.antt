-- `lookup::index::Index::new` meets its contract: an array of zeros is blank. Assumes nothing.
use Rattle.store_table.proofs.Laws.BlankLaws.{zeros_blank}
use Rattle.lookup.proofs.index.Index.new.Goals as goal

pub returns : goal.returns
returns c = zeros_blank 512
