use Rattle.std.proofs.Common.{◌≡◌, ◌==◌, ◌+◌, ◌-◌, ◌∙◌, suc, false, length, ap, sym, arith}
use Rattle.nr_settings.specs.Arguments.{number_in}
use Rattle.nr_settings.specs.Tabs.{numbers_in, with_stop, with_stops}
use Rattle.nr_settings.proofs.TabStops.{with_stops-more}
use Rattle.nr_settings.proofs.tabs.Tabs.ta.Goals as goal

pub loop-at-preserved : goal.loop-at-preserved
loop-at-preserved c =
    let v = c.args.v in
    let left = length c.args.line.now - (c.loop-at._at + 1) in
    let rest = c.loop-at.arguments.rest.now in
    let ruler = c.loop-at.ruler in
    let count : length c.args.line.now - c.loop-at._at ≡ suc left = omega arith in
    let some : (length (number_in rest) == 0) ≡ false = ap (λ a. length a == 0) (sym c.number-argument.ensures.number) ∙ sym c.is_empty.ensures ∙ c.if-is_empty.false in
    let added = c.add.ensures.added ∙ ap (λ a. with_stop v a ruler) c.number-argument.ensures.number in (
      ap (λ l. with_stops v (numbers_in left l) c.add.new.self) c.number-argument.ensures.rest
          ∙ ap (with_stops v (numbers_in left _)) added
          ∙ sym (with_stops-more v left rest ruler some)
          ∙ ap (λ n. with_stops v (numbers_in n rest) ruler) (sym count)
          ∙ c.loop-at.invariant.0,
      c.add.ensures.range,
    )
