use Rattle.std.proofs.Common.{◌≡◌, ◌-◌, length, map, take, drop, sym, ap, ◌∙◌, arith, length-drop}
use Rattle.std.proofs.lemmas.List.{take_all, drop-map}
use Rattle.nr_input.specs.Place.{element_item}
use Rattle.fast_input.proofs.level_stretches.ElementStretchTail.afterwards.Goals as goal

pub returns : goal.returns
returns c =
    let n = c.args.n in
    let es = c.args.self.0.now in
    let rest : take (length es - n) (drop n es) ≡ drop n es = take_all (length es - n) (drop n es) (omega (arith, length-drop n es)) in
    ap (map element_item) rest ∙ sym (drop-map element_item n es)
