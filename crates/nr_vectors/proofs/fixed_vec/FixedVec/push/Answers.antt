use Rattle.std.proofs.Common.{[], ◌+◌, ◌∷◌, ◌++◌, length, length-append, ap, sym, ◌∙◌, arith}
use Rattle.std.proofs.lemmas.List.{take_all}
use Rattle.nr_vectors.specs.Items.{Items}
use Rattle.nr_vectors.proofs.Written.{take_pushed}
use Rattle.nr_vectors.proofs.fixed_vec.FixedVec.push.Goals as goal

pub returns-then-len-clause-items : goal.returns-then-len-clause-items
returns-then-len-clause-items g c =
    let s = c.self.inside in
    let xs = s.slots.items in
    let ys = c.push.new.self.items in
    let full = c.if-len.true in
    let is = c.push.ensures.items in
    let long = ap length is in
    let more = length-append xs (c.args.item ∷ []) in
    take_all (s.len + 1) ys (omega (arith, full, c.len.ensures, long, more))
    ∙ is
    ∙ ap (λ (zs : _). zs ++ c.args.item ∷ []) (sym (take_all s.len xs (omega (arith, full, c.len.ensures))))
    ∙ ap (λ (v : Items _). v.items ++ c.args.item ∷ []) c.self.view_is

pub returns-clause-items : goal.returns-clause-items
returns-clause-items g c =
    let s = c.self.inside in
    take_pushed s.slots.items s.len c.args.item (omega (arith, c.self.invariant.0, c.if-len.false, c.len.ensures))
    ∙ ap (λ (v : Items _). v.items ++ c.args.item ∷ []) c.self.view_is
