use Rattle.std.proofs.Common.{◌≡◌, ◌-◌, List, length, drop, reverse, ap, ◌∙◌, arith}
use Rattle.std.proofs.lemmas.List.{length-reverse}
use Rattle.nr_vectors.specs.Items.{Items}
use Rattle.nr_levels.proofs.Reversed.{one_less}
use Rattle.nr_levels.proofs.stack.Stack.pop.Goals as goal

pub returns : goal.returns
returns g c =
    let s = c.self.inside in
    let some : length (reverse s.items.items) ≡ length c.args.self.now.items = ap (λ (w : Items _). length w.items) c.self.view_is in
    let less = one_less s.items.items (c.len.result - 1) (omega (arith, c.requires, c.len.ensures, length-reverse s.items.items)) in
    ap (λ (ys : List _). record { items = reverse ys; capacity = s.capacity }) c.truncate.ensures.items
    ∙ ap (λ (ys : List _). record { items = ys; capacity = s.capacity }) less ∙ ap (λ (w : Items _). record { items = drop 1 w.items; capacity = w.capacity }) c.self.view_is
