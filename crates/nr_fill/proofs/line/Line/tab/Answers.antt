use Rattle.std.proofs.Common.{◌≡◌, ◌-◌, ap, sym, ◌∙◌, refl, arith, true}
use Rattle.nr_fill.specs.Line.{Lined}
use Rattle.nr_fill.specs.Piece.{line_cells}
use Rattle.nr_fill.proofs.Measures.{afforded_ok}
use Rattle.nr_fill.specs.Tabs.{tabbed, to_stop, first_beyond, column, with_field, is_aligned}
use Rattle.nr_fill.specs.Piece.{ended, in_word, with_word}
use Rattle.nr_fill.proofs.Measures.{line_cells-with_field, text_cells-ended}
use Rattle.nr_fill.proofs.line.Line.tab.Goals as goal

pub returns-in_default-clause-result : goal.returns-in_default-clause-result
returns-in_default-clause-result c =
    let now = c.args.self.now.collected in
    let within = c.open_word.ensures.within in
    let same = ap (λ (v : Lined). line_cells v.collected) c.open_word.ensures.opened in
    let limit = ap (λ (v : Lined). v.limit) c.open_word.ensures.opened in
    let none = ap (λ k. first_beyond k c.args.stops.now) (sym c.column-column.ensures.value) ∙ sym c.first_beyond.ensures ∙ c.in_default.is in
    let is : tabbed c.args.margins c.args.stops.now c.args.aligned c.args.fill now ≡ with_word c.args.margins now = ap (to_stop c.args.margins c.args.aligned c.args.fill now) none in
    let v : Lined = record { collected = tabbed c.args.margins c.args.stops.now c.args.aligned c.args.fill now; limit = c.args.self.now.limit } in
    afforded_ok v (rw is (omega arith))

pub returns-clause-result : goal.returns-clause-result
returns-clause-result c =
    let now = c.args.self.now.collected in
    let stop = c.in-Some.stop in
    let m = c.args.margins in
    let within = c.open_word-2.ensures.within in
    let same = ap (λ (v : Lined). line_cells v.collected) c.open_word-2.ensures.opened in
    let limit = ap (λ (v : Lined). v.limit) c.open_word-2.ensures.opened in
    let some = ap (λ k. first_beyond k c.args.stops.now) (sym c.column-column.ensures.value) ∙ sym c.first_beyond.ensures ∙ c.in-Some.is in
    let kind : is_aligned c.args.aligned stop.kind ≡ true = sym c.aligns.ensures ∙ c.if-not-aligns.false in
    let is : tabbed m c.args.stops.now c.args.aligned c.args.fill now ≡ in_word (with_field (stop.column - column now) stop.kind c.args.fill) (in_word ended (with_word m now)) =
    ap (to_stop m c.args.aligned c.args.fill now) some ∙ rw kind refl in
    let text = line_cells-with_field (stop.column - column now) stop.kind c.args.fill (in_word ended (with_word m now)) in
    let piece = text_cells-ended (with_word m now) in
    let v : Lined = record { collected = tabbed m c.args.stops.now c.args.aligned c.args.fill now; limit = c.args.self.now.limit } in
    afforded_ok v (rw is (omega arith))

pub returns-clause-ok : goal.returns-clause-ok
returns-clause-ok c =
    let now = c.args.self.now.collected in
    let stop = c.in-Some.stop in
    let m = c.args.margins in
    let some = ap (λ k. first_beyond k c.args.stops.now) (sym c.column-column.ensures.value) ∙ sym c.first_beyond.ensures ∙ c.in-Some.is in
    let kind : is_aligned c.args.aligned stop.kind ≡ true = sym c.aligns.ensures ∙ c.if-not-aligns.false in
    let is : tabbed m c.args.stops.now c.args.aligned c.args.fill now ≡ in_word (with_field (stop.column - column now) stop.kind c.args.fill) (in_word ended (with_word m now)) =
    ap (to_stop m c.args.aligned c.args.fill now) some ∙ rw kind refl in
    let width = c.saturating_sub-width.ensures ∙ ap (λ k. stop.column - k) c.column-column.ensures.value in
    rw (c.begin_field.ensures, c.end_piece.ensures, c.open_word-2.ensures.opened, width, is) refl
