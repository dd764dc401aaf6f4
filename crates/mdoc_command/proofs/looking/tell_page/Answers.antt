use Rattle.std.proofs.Common.{ℕ, length, sym, subst, ap, ◌∙◌}
use Rattle.filters.specs.Endings.{Tells}
use Rattle.mdoc_command.specs.Complaints.{lines_of}
use Rattle.mdoc_command.specs.Telling.{AllReported}
use Rattle.mdoc_command.specs.Watching.{Page, all_heard, finished, first_page}
use Rattle.mdoc_command.proofs.looking.tell_page.Goals as goal

pub returns-clause-reported : goal.returns-clause-reported
returns-clause-reported g c =
    let blocks = ap (λ xs. length xs) c.deref_mut.ensures.value ∙ (sym c.in_ok-open.open.ok.0 ∙ c.in_ok-open.ensures.len) in
    let complaints = ap (λ xs. length xs) c.deref_mut-2.ensures.value ∙ c.in_ok-complaints.ensures in
    let first = c.over-page.ensures ∙ (ap (λ (n : ℕ). first_page n (length c.deref_mut-2.result.now)) blocks ∙ ap (first_page 64) complaints) in
    let page = c.finish.ensures ∙ ap finished (c.hear_all.ensures ∙ ap (all_heard c.args.text.now) first) in
    subst (λ (t : AllReported). Tells (g.E.Sink.held c.args.errors.now) (g.E.Sink.held c.tell_complaints.new.errors) (g.E.Sink.failures c.args.errors.now) (g.E.Sink.failures c.tell_complaints.new.errors) (lines_of c.args.program.now c.args.name.now t))
    (c.reported.ensures ∙ ap (λ (p : Page). p.reported) page) c.tell_complaints.ensures
