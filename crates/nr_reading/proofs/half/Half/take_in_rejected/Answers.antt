use Prim.Native.Char.{code}
use Rattle.std.specs.Prelude.{◌==◌}
use Rattle.std.proofs.Common.{◌≡◌, ◌+◌, false, Some, refl, ap, ◌∙◌, arith}
use Rattle.std.proofs.lemmas.Bool.{ne_eqb}
use Rattle.nr_reading.specs.declared.next_item.NextItem.TheVariants as next_items
use Rattle.nr_reading.specs.declared.half.Half.{Half}
use Rattle.nr_reading.specs.declared.mode.Mode.TheVariants as modes
use Rattle.nr_reading.proofs.PartStretches.{take_in-dropped, take_in-rejected_end, skipped}
use Rattle.nr_reading.proofs.Stretches.{recount, taken_more, rest_after, looks}
use Rattle.nr_reading.proofs.half.Half.take_in_rejected.Goals.{else-byte-eq10-via-then-byte-eq10+else-level-eq0, else-byte-eq10-via-else-byte-eq10}
use Rattle.nr_reading.proofs.half.Half.take_in_rejected.Goals as goal

pub loop-place-preserved-then-byte-eq92 : goal.loop-place-preserved-then-byte-eq92
loop-place-preserved-then-byte-eq92 g c =
    let fs = g.I.Items.next_items c.args.items.now in
    let k = c.loop-place.self in
    let i = c.loop-place.invariant in
    let place = c.loop-place.place in
    let new : Half = record k { reading = record k.reading { mode = modes.Skip c.braces-level.result } } in
    record {
      leads =
          recount fs 0 0 (place + 1 + 1) (place + 2) (place + 1 + 1) (place + 2) c.args.self.now new
          (skipped fs 0 0 place place c.in-Some-byte_of.afterwards c.loop-place.level c.braces-level.result c.args.self.now k i.leads i.mode i.next c.in-Some-byte_of.ensures.within
          (c.in-Some.ensures.value ∙ ap (λ b. Some (next_items.Byte b)) c.if-byte-eq92.true) c.in-Some-byte_of.ensures.value c.braces-level.ensures)
          (omega arith) (omega arith);
      mode = refl;
      next = i.next;
      few = omega arith;
    }

pub returns-then-level-eq0 : goal.returns-then-level-eq0
returns-then-level-eq0 g c =
    let fs = g.I.Items.next_items c.args.items.now in
    let k = c.loop-place.self in
    let i = c.loop-place.invariant in
    let place = c.loop-place.place in
    let new : Half = record k { reading = record k.reading { mode = modes.Start } } in
    rest_after fs 0 0 (place + 1) (place + 1) c.args.self.now new c.take_in_beginning.new.self c.take_in_beginning.new.run
    (taken_more fs 0 0 place place (code "\n") c.args.self.now k new i.leads (omega arith) (looks k i.next) (c.in-Some.ensures.value ∙ ap (λ b. Some (next_items.Byte b)) c.if-byte-eq10.true)
    (take_in-rejected_end c.loop-place.level k i.mode i.next c.if-level-eq0.true))
    c.take_in_beginning.ensures

pub loop-place-preserved : goal.loop-place-preserved
loop-place-preserved g c =
    let fs = g.I.Items.next_items c.args.items.now in
    let k = c.loop-place.self in
    let i = c.loop-place.invariant in
    let place = c.loop-place.place in
    let goes : (c.in-Some.byte ≡ code "\n") → (c.loop-place.level == 0) ≡ false = λ e. elim c.else-byte-eq10.branch [
      | else-byte-eq10-via-then-byte-eq10+else-level-eq0 w ↦ ne_eqb c.loop-place.level 0 w.if-level-eq0.false
      | else-byte-eq10-via-else-byte-eq10 w ↦ absurd (w.if-byte-eq10.false e)
    ] in
    record {
      leads = taken_more fs 0 0 place place c.in-Some.byte c.args.self.now k k i.leads (omega arith) (looks k i.next) c.in-Some.ensures.value (take_in-dropped c.in-Some.byte c.loop-place.level k i.mode i.next (ne_eqb c.in-Some.byte (code "\\") c.if-byte-eq92.false) goes);
      mode = i.mode;
      next = i.next;
      few = omega arith;
    }
