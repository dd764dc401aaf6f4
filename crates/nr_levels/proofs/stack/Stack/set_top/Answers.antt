use Rattle.std.proofs.Common.{◌≡◌, ◌-◌, ◌∷◌, List, length, drop, reverse, ap, ◌∙◌, arith}
use Rattle.std.proofs.lemmas.List.{length-reverse}
use Rattle.nr_vectors.specs.Items.{Items}
use Rattle.nr_levels.proofs.Reversed.{new_top}
use Rattle.nr_levels.proofs.stack.Stack.set_top.Goals as goal

pub returns : goal.returns
returns g c =
    let s = c.self.inside in
    let some : length (reverse s.items.items) ≡ length c.args.self.now.items = ap (λ (w : Items _). length w.items) c.self.view_is in
    let top = new_top s.items.items (c.len-last.result - 1) c.args.item (omega (arith, c.requires, c.len-last.ensures, length-reverse s.items.items)) in
    ap (λ (ys : List _). record { items = ys; capacity = s.capacity }) top ∙ ap (λ (w : Items _). record { items = c.args.item ∷ drop 1 w.items; capacity = w.capacity }) c.self.view_is
