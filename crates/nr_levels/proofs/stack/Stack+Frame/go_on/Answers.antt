use Rattle.std.proofs.Common.{◌≡◌, ◌+◌, ◌-◌, ◌∷◌, List, length, drop, reverse, ap, sym, ◌∙◌, arith}
use Rattle.std.proofs.lemmas.List.{length-reverse}
use Rattle.nr_vectors.specs.Items.{Items}
use Rattle.nr_levels.specs.declared.frame.Reads.{Reads}
use Rattle.nr_levels.specs.Moving.{newest_gone_on}
use Rattle.nr_levels.proofs.Reversed.{new_top, top_is, some_frame}
use Rattle.nr_levels.proofs.stack.Stack+Frame.go_on.Goals as goal

pub returns : goal.returns
returns c =
    let s = c.self.inside in
    let xs = s.items.items in
    let n = c.args.n in
    let last = c.len-last.result - 1 in
    let f = c.index_mut.result.now in
    let some : length (reverse xs) ≡ length c.args.self.now.items = ap (λ (w : Items _). length w.items) c.self.view_is in
    let frame = some_frame n _ c.requires in
    let is : last + 1 ≡ length xs = omega (arith, c.len-last.ensures, length-reverse xs) in
    ap (λ (ys : List _). record { items = ys; capacity = s.capacity })
    (new_top xs last _ is ∙ ap (λ (r : Reads). record f { reads = r } ∷ drop 1 (reverse xs)) c.go_on.ensures ∙ ap (newest_gone_on n) (sym (top_is xs last f is c.index_mut.ensures.value)))
    ∙ ap (λ (w : Items _). record { items = newest_gone_on n w.items; capacity = w.capacity }) c.self.view_is
