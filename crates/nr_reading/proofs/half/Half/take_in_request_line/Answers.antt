use Prim.Native.Char.{code}
use Rattle.std.proofs.Common.{◌≡◌, ◌<◌, ◌+◌, ◌-◌, length, length-drop, take, drop, map, get_or, subst, sym, ◌∙◌, arith}
use Rattle.std.proofs.lemmas.Bool.{false≢true}
use Rattle.std.proofs.lemmas.List.{take_all}
use Rattle.nr_reading.specs.declared.event.Event.TheVariants as events
use Rattle.nr_reading.specs.declared.next_item.NextItem.TheVariants as next_items
use Rattle.nr_reading.specs.declared.half.Half.{Half}
use Rattle.nr_reading.specs.declared.mode.Mode.TheVariants as modes
use Rattle.nr_reading.specs.Many.Runs.{HasTakenIn}
use Rattle.nr_reading.proofs.RequestLines.{line-at-hand}
use Rattle.nr_reading.proofs.half.Half.take_in_request_line.Goals.{in-RequestBlanks, in_default}
use Rattle.nr_reading.proofs.half.Half.take_in_request_line.Goals as goal

pub returns-clause-taken_in : goal.returns-clause-taken_in
returns-clause-taken_in c =
    let bs = c.args.bytes.now in
    let h = c.args.self.now in
    let k = c.blank_count-blanks.result in
    let count = c.plain_count-count.result in
    let blanks : h.reading.mode ≡ modes.RequestBlanks = elim c.match-matches.branch [ in-RequestBlanks w ↦ w.in-RequestBlanks.is | in_default w ↦ absurd (false≢true (sym w.matches-is ∙ c.if-not-matches.false)) ] in
    let near = take c.min.result bs in
    let rest = take (length near - k) (drop k near) in
    let rest_is : rest ≡ drop k near = take_all (length near - k) (drop k near) (omega (arith, length-drop k near)) in
    let inside : count < length rest = omega (arith, c.if-count-rest.false, c.plain_count-count.ensures.prefix) in
    let newline : get_or rest count 0 ≡ code "\n" = omega (arith, c.if-rest-count-ne10.false) in
    subst (λ (j : Half). HasTakenIn (k + count + 2) (map next_items.Byte bs) h (record { taken = k + count + 1; half = j; event = events.Request })) (sym c.end_request_line.ensures)
    (line-at-hand bs rest c.min.result k count h rest_is blanks (sym c.reads_next.ensures ∙ c.if-not-reads_next.false) c.blank_count-blanks.ensures.prefix c.blank_count-blanks.ensures.blanks c.blank_count-blanks.ensures.stops
    c.plain_count-count.ensures.plain inside newline)
