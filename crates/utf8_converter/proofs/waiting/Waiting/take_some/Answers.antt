use Rattle.std.proofs.Common.{ℕ, List, ◌++◌, subst, ◌∙◌}
use Rattle.nr_units.specs.Sink.{AppendsPrefix}
use Rattle.document_stages.specs.Running.{Flushes}
use Rattle.utf8_converter.proofs.Passing.{Prefix-more, Reads-some, Some-err}
use Rattle.utf8_converter.proofs.waiting.Waiting.take_some.Goals as goal

pub returns-in_err-emit-clause-takes : goal.returns-in_err-emit-clause-takes
returns-in_err-emit-clause-takes g c =
    let r = c.args.self.now.turner.reader in
    let held = g.W.Sink.held c.args.output.now in
    let new = g.W.Sink.held c.emit.new.output in
    let waits = c.args.self.now.out.items in
    let reads = c.read_some-some.ensures.reads in
    let P : List ℕ → Type 0 = λ xs. AppendsPrefix held new (waits ++ xs) in
    Some-err c.from_residual.result held new r c.read_some-some.new.self.reader waits c.emit.new.out.items c.args.self.now.turner.strays c.read_some-some.new.self.strays c.args.bytes.now
    c.from_residual.ensures.0
    (Prefix-more held new r waits c.read_some-some.result.taken c.args.bytes.now (subst P (c.text.ensures ∙ reads.out) c.in_err-emit.ensures.err))

pub returns-clause-takes : goal.returns-clause-takes
returns-clause-takes g c =
    let held = g.W.Sink.held c.args.output.now in
    let new = g.W.Sink.held c.emit.new.output in
    let waits = c.args.self.now.out.items in
    let left = c.emit.new.out.items in
    let reads = c.read_some-some.ensures.reads in
    let P : List ℕ → Type 0 = λ xs. Flushes held new (waits ++ xs) left in (
      reads.some,
      reads.within,
      Reads-some held new c.args.self.now.turner.reader c.read_some-some.new.self.reader waits left c.args.self.now.turner.strays c.read_some-some.new.self.strays c.args.bytes.now
          c.read_some-some.result.taken c.read_some-some.new.self.room c.read_some-some.result.end reads (subst P c.text.ensures c.in_ok-emit.ensures.ok),
    )
