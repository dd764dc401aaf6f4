use Rattle.std.proofs.Common.{List, ℕ, ◌++◌, ap, sym, ◌∙◌}
use Rattle.utf8_own_sink.proofs.Going.{rest-ended}
use Rattle.utf8_own_sink.proofs.staged.DecoderStage.finish.Goals as goal

pub returns-clause-says : goal.returns-clause-says
returns-clause-says c =
    ap (λ (xs : List ℕ). c.args.out.now.items ++ xs) (rest-ended c.args.self.now.table.now c.args.self.now.reader) ∙ sym c.finish.ensures.items
