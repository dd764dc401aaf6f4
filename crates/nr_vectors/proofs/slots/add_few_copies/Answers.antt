use Rattle.std.proofs.Common.{◌≡◌, ◌++◌, length, take, replicate, ap, ◌∙◌, arith}
use Rattle.std.proofs.lemmas.List.{length-replicate, take-replicate}
use Rattle.nr_vectors.proofs.Copying.{prefix_put}
use Rattle.nr_vectors.proofs.slots.add_few_copies.Goals as goal

pub returns-then-slots-len-ge-CHUNK-clause-items : goal.returns-then-slots-len-ge-CHUNK-clause-items
returns-then-slots-len-ge-CHUNK-clause-items g c written =
    let xs = c.args.slots.now in
    let ys = c.copy_from_slice.new.self in
    let item = c.args.item in
    let n = c.args.n in
    let few = c.if-n-le-CHUNK.true in
    let copied : ys ≡ replicate 8 item = c.copy_from_slice.ensures.after in
    let long : length ys ≡ 8 = ap length copied ∙ length-replicate 8 item in
    prefix_put c.args.len _ n xs ys c.requires (omega (arith, long, few))
    ∙ ap (λ zs. take c.args.len xs ++ zs) (ap (take n) copied ∙ take-replicate n 8 item (omega (arith, few)))
