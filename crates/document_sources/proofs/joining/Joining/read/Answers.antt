use Rattle.std.proofs.Common.{◌≡◌, drop, length, true, sym, ◌∙◌, ◌==◌, arith}
use Rattle.std.proofs.lemmas.Bool.Decides.{Decides-eqb}
use Rattle.document_stages.proofs.Steps.{none-of-length}
use Rattle.document_sources.specs.Joining.{coming}
use Rattle.document_sources.proofs.Steps.{Came-pushed, Came-ended, Came-none}
use Rattle.document_sources.proofs.joining.Joining.read.Goals as goal

pub returns-then-is_empty-clause-end : goal.returns-then-is_empty-clause-end
returns-then-is_empty-clause-end g c =
    let s = c.args.self.now in
    let zero : (length s.line.items == 0) ≡ true = sym c.is_empty.ensures ∙ c.if-is_empty.true in
    λ _. Came-none (g.F.Folder.texts s.folder) (coming (drop s.ahead.taken s.ahead.text.items) (g.R.Source.supply s.input)) _ s.line.capacity s.standing s.line.items
    c.requires (none-of-length s.line.items (let none = (Decides-eqb (length s.line.items) 0).0 zero in omega (arith, none))) (rw c.in-None.is at c.in_ok-byte.ensures)

pub returns-in-Some-clause-stays : goal.returns-in-Some-clause-stays
returns-in-Some-clause-stays g c =
    let s = c.args.self.now in
    Came-pushed (g.F.Folder.texts s.folder) (coming (drop s.ahead.taken s.ahead.text.items) (g.R.Source.supply s.input)) _ s.line.capacity _ s.standing _ s.line.items _ c.in-Some.byte _
    c.requires (rw c.in-Some.is at c.in_ok-byte.ensures) c.push.ensures.items c.push.ensures.room c.is_full-full.ensures.value c.after_byte-self.ensures

pub returns-else-is_empty-clause-stays : goal.returns-else-is_empty-clause-stays
returns-else-is_empty-clause-stays g c =
    let s = c.args.self.now in
    Came-ended (g.F.Folder.texts s.folder) (coming (drop s.ahead.taken s.ahead.text.items) (g.R.Source.supply s.input)) _ s.line.capacity s.standing _ s.line.items
    c.requires (rw c.in-None.is at c.in_ok-byte.ensures) c.ended-self.ensures
