use Rattle.std.proofs.Common.{refl, sym, ◌∙◌, arith}
use Rattle.nr_reading.proofs.PlainBytes.{goes_more, take_in-passed}
use Rattle.nr_reading.proofs.half.Half.pass_plain.Goals as goal

pub loop-place-preserved : goal.loop-place-preserved
loop-place-preserved g c = record {
  goes =
      goes_more (g.I.Items.next_items c.args.items.now) c.loop-place.place c.in-Some.byte c.args.self.now c.args.self.now c.args.self.now
      c.loop-place.invariant.goes (omega arith) c.in-Some.ensures.value c.requires.pending_act refl
      (take_in-passed c.in-Some.byte c.args.self.now c.requires.passes c.requires.pending_act (sym c.is_plain.ensures ∙ c.if-is_plain.true));
}
