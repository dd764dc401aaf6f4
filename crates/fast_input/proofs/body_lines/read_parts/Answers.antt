use Rattle.std.proofs.Common.{refl, arith}
use Rattle.fast_input.proofs.MacroLines.{reads_then, reads_none, reads_rest}
use Rattle.fast_input.proofs.body_lines.read_parts.Goals as goal

pub loop-init : goal.loop-init
loop-init g c = record {
  reads = reads_none c.args.bytes.now c.args.store.now c.args.store.now c.args.reader.now c.args.reader.now refl refl;
  few = omega arith;
}

pub loop-preserved : goal.loop-preserved
loop-preserved g c =
    let more = c.read_chunk-part in
    let bs = c.args.bytes.now in
    let so_far = c.loop.invariant.reads in
    record {
      reads = reads_then c.loop.moves more.result.moves c.loop.taken more.result.taken bs c.args.store.now c.loop.store more.new.store c.args.reader.now c.loop.reader more.new.reader so_far
          (reads_rest more.result.moves c.loop.taken more.result.taken bs c.loop.store more.new.store c.loop.reader more.new.reader so_far.within more.ensures.reads);
      few = omega (arith, c.loop.invariant.few, more.ensures.few);
    }

pub returns-then-part-eq0-clause-reads : goal.returns-then-part-eq0-clause-reads
returns-then-part-eq0-clause-reads g c =
    let more = c.read_chunk-part in
    let bs = c.args.bytes.now in
    let so_far = c.loop.invariant.reads in
    reads_then c.loop.moves more.result.moves c.loop.taken more.result.taken bs c.args.store.now c.loop.store more.new.store c.args.reader.now c.loop.reader more.new.reader so_far
    (reads_rest more.result.moves c.loop.taken more.result.taken bs c.loop.store more.new.store c.loop.reader more.new.reader so_far.within more.ensures.reads)
