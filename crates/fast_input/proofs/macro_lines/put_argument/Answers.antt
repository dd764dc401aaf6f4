use Rattle.std.proofs.lemmas.Grind.{common_steps}
use Rattle.std.proofs.Common.{◌≡◌, ◌-◌, ◌*◌, length, take, drop, map, subst, length-drop, arith}
use Rattle.std.proofs.lemmas.List.{take_all}
use Rattle.nr_reading.specs.declared.next_item.NextItem.TheVariants as next_items
use Rattle.nr_reading.specs.Many.Passing.{quiet}
use Rattle.nr_reading.specs.Many.Runs.{HasTakenIn}
use Rattle.fast_input.proofs.MacroLines.{reads_then, reads_taken_in, reads_added}
use Rattle.fast_input.proofs.macro_lines.put_argument.Goals as goal

pub returns-clause-reads : goal.returns-clause-reads
returns-clause-reads g c =
    let added = c.add_prefix-added.result in
    let add = c.add_prefix-added.ensures in
    let end = c.end_argument-end.result in
    let bs = c.args.bytes.now in
    let v = c.args.store.now in
    let w = c.add_prefix-added.new.store in
    let r = c.args.reader.now in
    let k = c.end_argument-end.new.half in
    let rest : take (length bs - added) (drop added bs) ≡ drop added bs = take_all (length bs - added) (drop added bs) (omega (arith, length-drop added bs)) in
    reads_then (2 * added) end.moves added end.taken bs v w w r r (record r { half = k })
    (reads_added added bs v w r c.requires.argument add.prefix add.plain add.added add.afforded)
    (reads_taken_in end.moves end.taken (drop added bs) w r k (subst (λ ys. HasTakenIn end.moves (map next_items.Byte ys) r.half (quiet end.taken k)) rest c.end_argument-end.ensures.taken_in))

pub overflow_add-result : goal.overflow_add-result
overflow_add-result g c = grind (arith, common_steps)

pub overflow_add-result-2 : goal.overflow_add-result-2
overflow_add-result-2 g c = grind (arith, common_steps)
