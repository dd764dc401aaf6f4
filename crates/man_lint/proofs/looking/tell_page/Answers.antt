use Rattle.std.proofs.Common.{ℕ, length, sym, subst, ap, ◌∙◌}
use Rattle.filters.specs.Endings.{Tells}
use Rattle.man_lint.specs.Complaints.{lines_of}
use Rattle.man_lint.specs.Reporting.{AllReported}
use Rattle.man_lint.specs.Watching.{Page, all_heard, finished, first_page}
use Rattle.man_lint.proofs.looking.tell_page.Goals as goal

pub returns-clause-reported : goal.returns-clause-reported
returns-clause-reported g c =
    let names = ap (λ xs. length xs) c.deref_mut.ensures.value ∙ (sym c.in_ok-names.names.ok.0 ∙ c.in_ok-names.ensures.len) in
    let blocks = ap (λ xs. length xs) c.deref_mut-2.ensures.value ∙ (sym c.in_ok-open.open.ok.0 ∙ c.in_ok-open.ensures.len) in
    let complaints = ap (λ xs. length xs) c.deref_mut-3.ensures.value ∙ c.in_ok-complaints.ensures in
    let first = c.over-page.ensures
    ∙ (ap (λ (n : ℕ). first_page n (length c.deref_mut-2.result.now) (length c.deref_mut-3.result.now)) names
    ∙ (ap (λ (n : ℕ). first_page 512 n (length c.deref_mut-3.result.now)) blocks ∙ ap (first_page 512 64) complaints)) in
    let page = c.finish.ensures ∙ ap finished (c.hear_all.ensures ∙ ap (all_heard c.args.text.now) first) in
    subst (λ (r : AllReported). Tells (g.E.Sink.held c.args.errors.now) (g.E.Sink.held c.tell_complaints.new.errors) (g.E.Sink.failures c.args.errors.now) (g.E.Sink.failures c.tell_complaints.new.errors) (lines_of c.args.program.now c.args.name.now r))
    (c.reports.ensures ∙ ap (λ (p : Page). p.reports) page) c.tell_complaints.ensures
