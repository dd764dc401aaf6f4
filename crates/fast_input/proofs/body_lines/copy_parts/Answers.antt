use Rattle.std.proofs.Common.{◌≡◌, ◌+◌, ◌-◌, ◌≤◌, ◌++◌, drop, length, length-drop, take, refl, sym, ap, ◌∙◌, arith}
use Rattle.std.proofs.lemmas.List.{length-take, take_all}
use Rattle.fast_input.specs.declared.target.Target.TheVariants.{Text}
use Rattle.fast_input.specs.Target.{with_more}
use Rattle.fast_input.proofs.BodyLines.{part_copied, part_within}
use Rattle.fast_input.proofs.MacroLines.{reads_none}
use Rattle.fast_input.proofs.Targets.{with_more-none}
use Rattle.fast_input.proofs.body_lines.copy_parts.Goals as goal

pub loop-init : goal.loop-init
loop-init g c =
    let v = c.args.store.now in
    record {
      reads = reads_none c.args.bytes.now v (with_more Text (take 0 c.args.chunk.now) v) c.args.reader.now c.args.reader.now (with_more-none Text v) refl;
      size = c.requires.size;
      within = omega arith;
      few = omega arith;
      none = λ zero. refl;
    }

pub loop-preserved : goal.loop-preserved
loop-preserved g c =
    let v = c.args.store.now in
    let bs = c.args.bytes.now in
    let so_far = c.loop.invariant in
    let part = c.in-Some.part in
    let is = c.in-Some.ensures in
    let some = is.some in
    let added = part.own + part.more in
    let near = take (length bs - c.loop.taken) (drop c.loop.taken bs) in
    let rest : near ≡ drop c.loop.taken bs = take_all (length bs - c.loop.taken) (drop c.loop.taken bs) (omega (arith, length-drop c.loop.taken bs)) in
    let put = c.put_after in
    let inside = part_within part.own part.more near c.loop.reader.half is in
    let long : length (take added near) ≡ added = omega (arith, length-take added near, inside) in
    let whole : take (c.loop.count + added) put.new.chunk ≡ take c.loop.count c.loop.chunk ++ take added near = ap (λ n. take (c.loop.count + n) put.new.chunk) (sym long) ∙ put.ensures.bytes in
    let size : length put.new.chunk ≡ 256 = put.ensures.size ∙ so_far.size in
    let within : c.loop.count + added ≤ 256 = omega (arith, put.ensures.within, long, size) in
    record {
      reads = rw c.in_body-reader.ensures
          (part_copied c.args.reader.now c.loop.reader v bs near (take c.loop.count c.loop.chunk) (take (c.loop.count + added) put.new.chunk) c.loop.taken c.loop.count part.own part.more rest so_far.reads is
          (omega (arith, c.requires.room, size, length-take (c.loop.count + added) put.new.chunk)) whole);
      size = size;
      within = within;
      few = omega (arith, so_far.few);
      none = λ zero. absurd (omega (arith, zero, some));
    }
