-- `read_line::reading_line` meets its contract: the line says the numbers at the front of the rule's image, or the refusal.
use Rattle.read.proofs.Laws.FoundLaws.{read_refused, read_rule}
use Rattle.read_line.proofs.Laws.ReadingLaws.{read_numbers}
use borrow.Author.Rules.{rules}
use Rattle.read_line.proofs.reading_line.Goals as goal

pub returns-in-Ok : goal.returns-in-Ok
returns-in-Ok c =
    let g = read_rule _ _ (search rules) c.read.ensures c.in-Ok.is in
    rw (read_numbers g c.node_count-nodes.ensures.0 c.name_byte_count-bytes.ensures.0)
    c.append_numbers.ensures

pub returns-in-Err : goal.returns-in-Err
returns-in-Err c =
    rw (read_refused _ _ (search rules) c.read.ensures c.in-Err.is) c.append_refusal.ensures
