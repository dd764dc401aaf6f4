use Rattle.std.proofs.Common.{◌-◌, take, ap, ◌∙◌, arith}
use Rattle.std.proofs.lemmas.List.{take-append-le}
use Rattle.nr_fill.proofs.Queues.{moved_to_start}
use Rattle.nr_fill.proofs.queue.move_to_start.Goals as goal

pub returns-clause-items : goal.returns-clause-items
returns-clause-items g c =
    let n = c.args.span.end - c.args.span.start in
    ap (take n) c.lengthen.ensures.items
    ∙ take-append-le n c.copy_within.new.self.items _ (omega (arith, c.copy_within.ensures.len, c.requires.within))
    ∙ ap (take n) c.copy_within.ensures.items
    ∙ moved_to_start c.args.slots.now.items c.args.span.start c.args.span.end c.requires.ordered (omega (arith, c.requires.within))
