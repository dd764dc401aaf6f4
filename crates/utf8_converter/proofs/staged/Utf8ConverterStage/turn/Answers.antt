use Rattle.std.proofs.Common.{List, ℕ, ◌++◌, ap, ◌∙◌}
use Rattle.utf8_converter.proofs.Staging.{counted-some, said-some}
use Rattle.utf8_converter.proofs.staged.Utf8ConverterStage.turn.Goals as goal

pub returns-clause-says : goal.returns-clause-says
returns-clause-says c =
    said-some c.args.self.now.reader c.read_some-some.new.self.reader c.args.bytes.now c.read_some-some.result.taken c.read_some-some.new.self.room c.read_some-some.result.end
    c.args.self.now.strays c.read_some-some.new.self.strays c.args.out.now.items c.extend.new.self.items c.read_some-some.ensures.reads
    (c.extend.ensures.items ∙ ap (λ (xs : List ℕ). c.args.out.now.items ++ xs) c.text.ensures)

pub returns-clause-counts : goal.returns-clause-counts
returns-clause-counts c =
    counted-some c.args.self.now.reader c.read_some-some.new.self.reader c.args.bytes.now c.read_some-some.result.taken c.read_some-some.new.self.room c.read_some-some.result.end
    c.args.self.now.strays c.read_some-some.new.self.strays c.read_some-some.ensures.reads
