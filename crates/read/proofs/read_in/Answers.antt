-- `read::read_in` meets its contract: the image is written only where the whole text has been read. Assumes nothing.
use mathlib.Core.Path.{◌≡◌, sym, ◌∙◌}
use lib.ListN.{take, length}
use Rattle.image.proofs.Laws.EncodeLaws.{length_tags}
use Rattle.read.proofs.Laws.BufferLaws.{says_rule}
use Rattle.read.proofs.read_in.Goals as goal

pub returns : goal.returns
returns g c =
    let w = c.in_ok-parse_text.ensures in
    let a = c.parse_text.new.nodes in
    let tags : length (take a.n a.tags) ≡ a.n = rw w.tags (length_tags w.tree ∙ sym w.nodes) in
    let names : length (take a.m a.names) ≡ a.m = rw w.names (sym w.bytes) in
    says_rule w _ (rw (tags, names) at c.write_image.ensures.0) (rw tags at c.write_image.ensures.1)
