use Rattle.std.proofs.Common.{◌+◌, Bool, List, take, set, ap, ◌∙◌, arith}
use Rattle.nr_reading.specs.Noting.{remembered}
use Rattle.nr_reading.proofs.NextItems.{remembered_more, remembered_full}
use Rattle.nr_reading.proofs.answers.Answers.remember.Goals as goal

pub returns-then-self-lt-MOST : goal.returns-then-self-lt-MOST
returns-then-self-lt-MOST c =
    let s = c.self.inside in
    let y = c.args.answer in
    ap (λ (ys : List Bool). take (s.len + 1) (set ys 0 y)) c.copy_within.ensures.after
    ∙ remembered_more s.answers s.len y c.self.invariant.1 c.if-self-lt-MOST.true ∙ ap (remembered y) c.self.view_is

pub returns-else-self-lt-MOST : goal.returns-else-self-lt-MOST
returns-else-self-lt-MOST c =
    let s = c.self.inside in
    let y = c.args.answer in
    ap (λ (ys : List Bool). take s.len (set ys 0 y)) c.copy_within.ensures.after
    ∙ remembered_full s.answers s.len y c.self.invariant.1 (omega (arith, c.self.invariant.0)) ∙ ap (remembered y) c.self.view_is
