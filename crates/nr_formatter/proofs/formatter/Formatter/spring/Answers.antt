use Rattle.std.proofs.Common.{◌≡◌, None, rules, arith}
use Rattle.nr_symbol_tables.specs.Table.{find}
use Rattle.nr_store.specs.Store.{words}
use Rattle.nr_formatter.proofs.Splices.{unsprung, springs_nothing, sprung_none}
use Rattle.nr_formatter.proofs.Falling.{falls-less}
use Rattle.nr_formatter.proofs.InputFalls.{falls-sprung, not_text, falls-unsprung}
use Rattle.nr_formatter.proofs.formatter.Formatter.spring.Goals as goal

pub returns-else-sprung-clause-result : goal.returns-else-sprung-clause-result
returns-else-sprung-clause-result c = λ w.
    let f = c.args.self.now in
    let springs = rw c.if-sprung.false at c.in-Ok.ensures.springs in
    let none : words (find c.args.name f.store.names) ≡ None = unsprung c.args.name _ f.store _ f.reader _ springs in
    springs_nothing f c.args.name (words (find c.args.name f.store.names)) none w

pub returns-else-sprung-clause-ok : goal.returns-else-sprung-clause-ok
returns-else-sprung-clause-ok c =
    let f = c.args.self.now in
    let springs = rw c.if-sprung.false at c.in-Ok.ensures.springs in
    let same = rw c.if-sprung.false at c.in-Ok.ensures.pays in
    let none : words (find c.args.name f.store.names) ≡ None = unsprung c.args.name _ f.store _ f.reader _ springs in
    rw (same.0, same.1) (sprung_none f c.args.name (words (find c.args.name f.store.names)) none)

pub returns-then-sprung-clause-text : goal.returns-then-sprung-clause-text
returns-then-sprung-clause-text c = λ names.
    let f = c.args.self.now in
    let splices = rw c.if-sprung.true at c.in-Ok.ensures.pays in
    falls-sprung c.args.name f _ (search rules) splices

pub returns-then-sprung-clause-falls : goal.returns-then-sprung-clause-falls
returns-then-sprung-clause-falls c = λ waits.
    let f = c.args.self.now in
    let splices = rw c.if-sprung.true at c.in-Ok.ensures.pays in
    falls-less 4 0 1 0 f _ (falls-sprung c.args.name f _ (search rules) splices) (omega arith)

pub returns-else-sprung-clause-text : goal.returns-else-sprung-clause-text
returns-else-sprung-clause-text c = λ names.
    let f = c.args.self.now in
    let springs = rw c.if-sprung.false at c.in-Ok.ensures.springs in
    let none : words (find c.args.name f.store.names) ≡ None = unsprung c.args.name _ f.store _ f.reader _ springs in
    absurd (not_text (words (find c.args.name f.store.names)) none names)

pub returns-else-sprung-clause-falls : goal.returns-else-sprung-clause-falls
returns-else-sprung-clause-falls c = λ waits.
    let f = c.args.self.now in
    let same = rw c.if-sprung.false at c.in-Ok.ensures.pays in
    rw (same.0, same.1) (falls-unsprung c.args.name f waits)
