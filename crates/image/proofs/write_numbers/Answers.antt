-- `image::write_numbers` meets its contract: after i turns the first i numbers are written.
use Rattle.std.proofs.Common.{◌≡◌, ◌≤◌, ◌<◌, length, get_or, map, sym, ap, ◌∙◌, arith}
use Rattle.std.proofs.lemmas.List.{length-map, get_or-map, take_all}
use Rattle.little_endian.specs.Bytes.{packed}
use Rattle.slices.proofs.Laws.WrittenLaws.{written_none}
use Rattle.little_endian.proofs.Laws.NumberWrittenLaws.{packed_on}
use Rattle.image.proofs.write_numbers.Goals as goal

pub loop-i-init : goal.loop-i-init
unfolding packed
loop-i-init g c value h = written_none _ _

pub loop-i-preserved : goal.loop-i-preserved
loop-i-preserved g c value h =
    let xs = c.args.numbers.now in
    let i = c.loop-i.i in
    let l : i < length (map value xs) = omega (arith, length-map xs value) in
    let q : c.into.result ≡ get_or (map value xs) i 0 =
    h _ _ c.into.ensures ∙ ap value c.index-numbers-i.is ∙ sym (get_or-map value xs i c.index-numbers-i.result 0 (omega arith)) in
    packed_on _ _ (omega arith) (map value xs) i l g.row.K (c.loop-i.invariant value h) (rw q at c.write.ensures)

pub returns : goal.returns
returns g c value h =
    let xs = c.args.numbers.now in
    let all : length (map value xs) ≤ c.loop-i.i = omega (arith, length-map xs value) in
    rw take_all at (c.loop-i.invariant value h)
