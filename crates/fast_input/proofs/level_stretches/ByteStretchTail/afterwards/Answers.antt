use Rattle.std.proofs.Common.{◌≡◌, ◌-◌, length, map, take, drop, sym, ap, ◌∙◌, arith, length-drop}
use Rattle.std.proofs.lemmas.List.{take_all, drop-map}
use Rattle.nr_reading.specs.declared.next_item.NextItem.TheVariants as next_items
use Rattle.fast_input.proofs.level_stretches.ByteStretchTail.afterwards.Goals as goal

pub returns : goal.returns
returns c =
    let n = c.args.n in
    let bs = c.args.self.0.now in
    let rest : take (length bs - n) (drop n bs) ≡ drop n bs = take_all (length bs - n) (drop n bs) (omega (arith, length-drop n bs)) in
    ap (map next_items.Byte) rest ∙ sym (drop-map next_items.Byte n bs)
