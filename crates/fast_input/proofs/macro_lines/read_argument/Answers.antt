use Rattle.std.proofs.lemmas.Grind.{common_steps}
use Rattle.std.proofs.Common.{◌+◌, ◌-◌, ◌≤◌, length, length-drop, drop, arith}
use Rattle.std.proofs.lemmas.List.{length-map, length-take}
use Rattle.nr_reading.specs.declared.next_item.NextItem.TheVariants as next_items
use Rattle.fast_input.proofs.MacroLines.{reads_then, reads_still, reads_rest, reads_taken_in}
use Rattle.fast_input.proofs.macro_lines.read_argument.Goals as goal

pub returns-then-not-is_in_argument-clause-reads : goal.returns-then-not-is_in_argument-clause-reads
returns-then-not-is_in_argument-clause-reads g c =
    let begun = c.begin_argument-begun.result in
    let bs = c.args.bytes.now in
    let v = c.args.store.now in
    let r = c.args.reader.now in
    let k = c.begin_argument-begun.new.half in
    reads_still begun.moves c.do_argument-first.result begun.taken bs v v c.do_argument-first.new.store r (record r { half = k }) c.do_argument-first.new.reader
    (reads_taken_in begun.moves begun.taken bs v r k c.begin_argument-begun.ensures.taken_in) (c.do_argument-first.ensures.reads (drop begun.taken bs))

pub returns-clause-reads : goal.returns-clause-reads
returns-clause-reads g c =
    let begun = c.begin_argument-begun.result in
    let first = c.do_argument-first in
    let put = c.put_argument-put in
    let end = c.do_argument-end in
    let bs = c.args.bytes.now in
    let v = c.args.store.now in
    let r = c.args.reader.now in
    let k = c.begin_argument-begun.new.half in
    let taken_in = c.begin_argument-begun.ensures.taken_in in
    let few : begun.taken ≤ length bs = let inside = taken_in.within in omega (arith, inside, length-map bs next_items.Byte) in
    let one = reads_still begun.moves first.result begun.taken bs v v first.new.store r (record r { half = k }) first.new.reader (reads_taken_in begun.moves begun.taken bs v r k taken_in) (first.ensures.reads (drop begun.taken bs)) in
    let two = reads_then (begun.moves + first.result) put.result.moves begun.taken put.result.taken bs v first.new.store put.new.store r first.new.reader put.new.reader one
    (reads_rest put.result.moves begun.taken put.result.taken bs first.new.store put.new.store first.new.reader put.new.reader few put.ensures.reads) in
    reads_still (begun.moves + first.result + put.result.moves) end.result (begun.taken + put.result.taken) bs v put.new.store end.new.store r put.new.reader end.new.reader two
    (end.ensures.reads (drop (begun.taken + put.result.taken) bs))

pub overflow_add-result-4 : goal.overflow_add-result-4
overflow_add-result-4 g c =
    let bs = c.args.bytes.now in
    let t = c.begin_argument-begun.result.taken in
    let taken_in = c.begin_argument-begun.ensures.taken_in in
    let put = c.put_argument-put.ensures in
    let inside = taken_in.within in
    let more = put.reads.within in
    omega (arith, inside, more, length-map bs next_items.Byte, length-drop t bs, length-take (length bs - t) (drop t bs), c.begin_argument-begun.ensures.few, c.do_argument-first.ensures.few, put.few, c.requires.short)

pub overflow_add-result-5 : goal.overflow_add-result-5
overflow_add-result-5 g c =
    let bs = c.args.bytes.now in
    let t = c.begin_argument-begun.result.taken in
    let taken_in = c.begin_argument-begun.ensures.taken_in in
    let put = c.put_argument-put.ensures in
    let inside = taken_in.within in
    let more = put.reads.within in
    omega (
      arith,
      inside,
      more,
      length-map bs next_items.Byte,
      length-drop t bs,
      length-take (length bs - t) (drop t bs),
      c.begin_argument-begun.ensures.few,
      c.do_argument-first.ensures.few,
      put.few,
      c.do_argument-end.ensures.few,
      c.requires.short,
    )

pub overflow_add-result : goal.overflow_add-result
overflow_add-result g c = grind (arith, common_steps)

pub slice_bounds-put_argument-count : goal.slice_bounds-put_argument-count
slice_bounds-put_argument-count g c = grind (arith, common_steps)

pub slice_bounds-put_argument-start : goal.slice_bounds-put_argument-start
slice_bounds-put_argument-start g c = grind (arith, common_steps)

pub overflow_add-result-3 : goal.overflow_add-result-3
overflow_add-result-3 g c = grind (arith, common_steps)
