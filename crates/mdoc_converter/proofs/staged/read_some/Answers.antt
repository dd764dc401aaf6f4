use Rattle.std.proofs.Common.{rules, ◌<◌, length, get_or, refl, arith}
use Rattle.mdoc_converter.specs.Reading.{state}
use Rattle.mdoc_converter.proofs.ManyBytes.{fed-next_state, fed-next_bytes, fed-next_steps}
use Rattle.mdoc_converter.proofs.staged.read_some.Goals as goal

pub loop-i-preserved : goal.loop-i-preserved
loop-i-preserved c =
    let bytes = c.args.bytes.now in
    let i = c.loop-i.i in
    let s = state c.args.reader.now c.args.blocks.now.items in
    let t = state c.loop-i.reader c.loop-i.blocks.items in
    let within : i < length bytes = search (rules, arith) in
    record {
      is_read = fed-next_state s t _ bytes i (get_or bytes i 0) within c.loop-i.invariant.is_read refl c.read-steps-in-loop-i.ensures.state;
      is_put = fed-next_bytes s t bytes c.args.out.now.items c.loop-i.out.items _ i (get_or bytes i 0) within c.loop-i.invariant.is_read refl c.loop-i.invariant.is_put
          c.read-steps-in-loop-i.ensures.items;
      is_counted = fed-next_steps s t bytes i (get_or bytes i 0) c.loop-i.steps _ within c.loop-i.invariant.is_read refl c.loop-i.invariant.is_counted
          c.read-steps-in-loop-i.ensures.steps;
      few = (let few = c.loop-i.invariant.few in let more = c.read-steps-in-loop-i.ensures.few in omega (arith, few, more));
      quick = (let quick = c.loop-i.invariant.quick in let more = c.read-steps-in-loop-i.ensures.quick in omega (arith, quick, more));
      room = search rules;
      blocks = search rules;
    }
