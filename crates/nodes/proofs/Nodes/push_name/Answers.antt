-- `nodes::Nodes::push_name` meets its contract. Assumes nothing.
use mathlib.Core.Path.{ap}
use Prim.Native.Nat.{◌+◌, ◌-◌}
use native.Mathlib.Omega.{arith}
use Rattle.slices.specs.Text.{part, WrittenAt}
use Rattle.slices.proofs.Laws.TextLaws.{part_length}
use Rattle.slices.proofs.Laws.WrittenLaws.{written_at_front}
use Rattle.nodes.proofs.Laws.WriteLaws.{name_written}
use Rattle.nodes.proofs.Nodes.push_name.Goals as goal

pub returns : goal.returns
unfolding part
returns g c =
    let b = c.args.self.now in
    let name = part c.args.text.now c.args.start c.args.end in
    let size = part_length c.args.text.now c.args.start c.args.end c.requires.ordered c.requires.inside in
    let end = b.m + (c.args.end - c.args.start) in
    let copied : WrittenAt b.names c.append-self.new.text b.m end name =
    record { ends = ap (λ i. b.m + i) size; text = c.append-self.ensures.text } in
    name_written c.requires (omega arith) (rw c.name_arg.ensures at c.push.ensures) (written_at_front (omega arith) copied)
