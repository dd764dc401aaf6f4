use Rattle.std.proofs.Common.{◌≡◌, ◌<◌, ◌≤◌, ℕ, subst, sym, ◌∙◌}
use Rattle.nr_machine.specs.Holding.{shape}
use Rattle.nr_formatter.specs.Many.Obeying.{moves_obeying, obeyed}
use Rattle.fast_machine.specs.Running.{MakesInPlace}
use Rattle.fast_machine.proofs.Obeyed.{makes_obeyed, moves_obeying-le, obeyed_shape, reads_obeyed}
use Rattle.fast_machine.proofs.obeying.obey.Goals as goal

pub returns-clause-obeys : goal.returns-clause-obeys
returns-clause-obeys c =
    let f = c.args.engine.now.formatter in
    let same : moves_obeying f ≡ c.from.result = sym (c.from.ensures ∙ c.obey.ensures.moves) in
    rw c.obey.ensures.is (subst (λ (n : ℕ). MakesInPlace n (shape c.args.engine.now) (obeyed_shape (obeyed f) (shape c.args.engine.now))) same (makes_obeyed (shape c.args.engine.now) c.requires.request))

pub returns-clause-next : goal.returns-clause-next
returns-clause-next c = λ sets some. rw c.obey.ensures.is (reads_obeyed c.args.engine.now.formatter sets (subst (λ (n : ℕ). 0 < n) (c.from.ensures ∙ c.obey.ensures.moves) some))

pub returns-clause-few : goal.returns-clause-few
returns-clause-few c = subst (λ (n : ℕ). n ≤ 4) (sym (c.from.ensures ∙ c.obey.ensures.moves)) (moves_obeying-le c.args.engine.now.formatter)
