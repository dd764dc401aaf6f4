use Rattle.std.proofs.Common.{◌∙◌, ◌-◌, ◌≤◌, length, drop, refl, arith}
use Rattle.std.proofs.lemmas.List.{length-drop, length-take}
use Rattle.preconv_converter.proofs.Taking.{Takes-cut, Takes-none, Takes-trans}
use Rattle.preconv_converter.proofs.reader.Reader.take.Goals as goal

pub loop-count-init : goal.loop-count-init
loop-count-init c = record {
  taken = Takes-none c.args.bytes.now c.args.self.now c.args.out.now.items;
  within = omega arith;
  few = omega arith;
  quick = omega arith;
  room = refl;
}

pub loop-count-preserved : goal.loop-count-preserved
loop-count-preserved c =
    let bs = c.args.bytes.now in
    let n = c.loop-count.count in
    let m = c.take_prefix-more.result.count in
    let k = length bs - n in
    let cut = length-take k (drop n bs) in
    let rest = length-drop n bs in
    let prefix = c.take_prefix-more.ensures.within in
    let within : m ≤ k = omega (arith, cut, prefix) in
    let more = Takes-cut m k (drop n bs) c.loop-count.self c.take_prefix-more.new.self c.loop-count.out.items c.take_prefix-more.new.out.items c.take_prefix-more.result.steps
    within c.take_prefix-more.ensures.taken in
    record {
      taken = Takes-trans n m bs c.args.self.now c.loop-count.self c.take_prefix-more.new.self
          c.args.out.now.items c.loop-count.out.items c.take_prefix-more.new.out.items c.loop-count.steps c.take_prefix-more.result.steps
          c.loop-count.invariant.taken more;
      within = (let before = c.loop-count.invariant.within in omega (arith, within, before));
      few = (let said = c.take_prefix-more.ensures.few in let before = c.loop-count.invariant.few in omega (arith, said, before));
      quick = (let made = c.take_prefix-more.ensures.quick in let before = c.loop-count.invariant.quick in omega (arith, made, before));
      room = c.take_prefix-more.ensures.room ∙ c.loop-count.invariant.room;
    }
