use Rattle.std.proofs.Common.{sym, ◌∙◌, arith}
use Rattle.utf8_own_stage.proofs.Begins.{begins}
use Rattle.utf8_own_stage.proofs.runs.letter_of.Goals as goal

pub returns : goal.returns
returns c = λ d is.
    begins c.args.bytes.now c.number_of.result d (omega (arith, c.if-bytes-lt3.false)) (sym c.is_three.ensures ∙ c.if-not-is_three.false) c.number_of.ensures.value
    (c.letter_by.ensures d is)
