use Rattle.std.proofs.Common.{◌≡◌, false, rules, w32, w64, FitsSigned, to_z, of_z, sym, ap, ◌∙◌}
use Rattle.std.proofs.KnownBytes.{Appends-nil}
use Rattle.std.proofs.lemmas.Int.{to_z-of_z}
use Rattle.nr_machine.specs.Printing.{selects}
use Rattle.nr_machine.proofs.Selected.{not_selected}
use Rattle.nr_machine.proofs.engine.Engine.print.Goals as goal

pub returns-then-not-has-clause-ok : goal.returns-then-not-has-clause-ok
returns-then-not-has-clause-ok g c = λ s page select faces formatter.
    let fits : FitsSigned w32 c.args.self.now.formatter.paper.number = search rules in
    let wide : to_z w64 (of_z w64 c.from.result) ≡ c.from.result = to_z-of_z w64 c.from.result (record { sfits = c.from.type_inv }) in
    let number : to_z w64 (of_z w64 c.from.result) ≡ s.formatter.paper.number =
    wide ∙ c.from.ensures ∙ to_z-of_z w32 c.args.self.now.formatter.paper.number fits ∙ sym (ap (λ f. f.paper.number) formatter)
    in
    let none : selects c.args.self.now.select (to_z w64 (of_z w64 c.from.result)) ≡ false =
    not_selected c.args.self.now.select (to_z w64 (of_z w64 c.from.result)) c.has.result c.has.ensures.1 c.if-not-has.true
    in
    let unprinted : selects s.select s.formatter.paper.number ≡ false = rw (select, sym number) none in
    rw unprinted (Appends-nil (g.W.Sink.held c.args.output.now))
