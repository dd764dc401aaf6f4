use Rattle.std.proofs.Common.{◌≡◌, ◌≤◌, sym, arith, rules}
use Rattle.nr_formatter.specs.Places.{trap_below}
use Rattle.nr_formatter.proofs.Below.{between_nearest, nearest-beyond}
use Rattle.nr_formatter.proofs.formatter.Formatter.trap_below.Goals as goal

pub returns-then-place-length-clause-value : goal.returns-then-place-length-clause-value
returns-then-place-length-clause-value c =
    sym (nearest-beyond c.args.place c.args.self.now.settings.pages.page_length c.args.self.now.store.traps
    (let e = c.units-length.ensures.value in let h : c.units-length.result ≤ c.args.place = c.if-place-length.true in omega arith))

pub returns-clause-below : goal.returns-clause-below
returns-clause-below c =
    let e : c.next_trap.result ≡ trap_below c.args.place c.args.self.now = search rules in
    rw e (between_nearest c.args.place c.args.self.now.settings.pages.page_length c.args.self.now.store.traps)
