use Rattle.std.proofs.Common.{rules, ◌≡◌, ◌<ℤ◌, pos, true, false, Some, ap, sym, ◌∙◌, FitsSigned, w32}
use Rattle.nr_symbol_tables.specs.Trap.{nearest}
use Rattle.nr_formatter.specs.Places.{trap_below}
use Rattle.nr_formatter.specs.Pages.{names_text, next_springing, springing_traps}
use Rattle.nr_formatter.proofs.NextSprings.{springing_below, springing_none, springing_found, springing_passed, below_cast}
use Rattle.nr_formatter.proofs.formatter.Formatter.next_springing.Goals as goal

pub returns-then-names_text-clause-value : goal.returns-then-names_text-clause-value
returns-then-names_text-clause-value c =
    let invariant : springing_below c.loop-trap.place c.args.self.now ≡ next_springing c.args.self.now = c.loop-trap.invariant in
    let found : trap_below c.loop-trap.place c.args.self.now ≡ Some c.in-Some.trap = sym c.in-Some.ensures.value in
    let text : names_text c.in-Some.trap.name c.args.self.now ≡ true = sym c.if-names_text.ensures in
    sym (springing_found c.args.self.now c.loop-trap.place c.in-Some.trap found text) ∙ invariant

pub loop-trap-preserved : goal.loop-trap-preserved
loop-trap-preserved c =
    let invariant : springing_below c.loop-trap.place c.args.self.now ≡ next_springing c.args.self.now = c.loop-trap.invariant in
    let found : trap_below c.loop-trap.place c.args.self.now ≡ Some c.in-Some.trap = sym c.in-Some.ensures.value in
    let text : names_text c.in-Some.trap.name c.args.self.now ≡ false = sym c.if-names_text.ensures in
    let below : pos c.loop-trap.place <ℤ c.in-Some.trap.place = c.in-Some.ensures.below.0 in
    let fits : FitsSigned w32 c.in-Some.trap.place = search rules in
    ap (λ place. nearest place (pos c.args.self.now.settings.pages.page_length) (springing_traps c.args.self.now))
    (below_cast c.loop-trap.place c.in-Some.trap.place fits below)
    ∙ (sym (springing_passed c.args.self.now c.loop-trap.place c.in-Some.trap found text) ∙ invariant)

pub returns-clause-value : goal.returns-clause-value
returns-clause-value c =
    let invariant : springing_below c.loop-trap.place c.args.self.now ≡ next_springing c.args.self.now = c.loop-trap.invariant in
    sym (springing_none c.args.self.now c.loop-trap.place (sym c.in_default.ensures.value)) ∙ invariant
