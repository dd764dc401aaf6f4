use Prim.Native.Char.{code}
use Rattle.std.proofs.Common.{◌≡◌, ◌+◌, ◌≤◌, true, length, refl, sym, ◌∙◌, arith}
use Rattle.std.proofs.lemmas.Bool.{false≢true, ne_eqb}
use Rattle.nr_reading.specs.Many.ControlNames.{NameEnds, goes_on_name}
use Rattle.nr_reading.proofs.ControlNames.{taken_in-lone, taken_in-pair}
use Rattle.nr_reading.proofs.half.Half.take_in_name_at.Goals.{else-long-via-then-long+else-not-name_ends, else-long-via-else-long}
use Rattle.nr_reading.proofs.half.Half.take_in_name_at.Goals as goal

pub returns-then-ends_name-clause-taken_in : goal.returns-then-ends_name-clause-taken_in
returns-then-ends_name-clause-taken_in g c = λ n.
    let fs = g.I.Items.next_items c.args.items.now in
    let h = c.args.self.now in
    let place = c.args.place in
    let within : place + 3 ≤ length fs = omega (arith, c.if-count-lt3.false, c.if-place-count.false, c.count.ensures, c.count-else-count-lt3.ensures) in
    rw c.take_name.ensures
    (taken_in-lone fs place n h c.in-Some.sign c.in-Some-byte.first c.in-Some-sign_of.no_break c.requires.mode c.requires.next within c.in-Some.ensures.value c.in-Some-byte.ensures.value c.in-Some-sign_of.ensures
    (sym c.goes_on_name.ensures ∙ c.if-not-goes_on_name.false) c.in-Some-byte-2.second c.in-Some-byte-2.ensures.value (sym c.ends_name.ensures ∙ c.if-ends_name.true))

pub returns-clause-taken_in : goal.returns-clause-taken_in
returns-clause-taken_in g c = λ n.
    let fs = g.I.Items.next_items c.args.items.now in
    let h = c.args.self.now in
    let place = c.args.place in
    let second = c.in-Some-byte-2.second in
    let within : place + 3 ≤ length fs = omega (arith, c.if-count-lt3.false, c.if-place-count.false, c.count.ensures, c.count-else-count-lt3.ensures) in
    let goes : goes_on_name second ≡ true = rw (sym c.ends_name.ensures ∙ c.if-ends_name.false, ne_eqb second (code "\\") c.if-second-eq92.false) refl in
    let ends : h.signs.long ≡ true → NameEnds fs (place + 3) = λ is. elim c.else-long.branch [
      | else-long-via-then-long+else-not-name_ends w ↦ w.name_ends.ensures w.if-not-name_ends.false
      | else-long-via-else-long w ↦ absurd (false≢true (sym w.if-long.false ∙ is))
    ] in
    rw (c.push.ensures, c.take_name-2.ensures, c.from.ensures)
    (taken_in-pair fs place n h c.in-Some.sign c.in-Some-byte.first c.in-Some-sign_of.no_break c.requires.mode c.requires.next within c.in-Some.ensures.value c.in-Some-byte.ensures.value c.in-Some-sign_of.ensures
    (sym c.goes_on_name.ensures ∙ c.if-not-goes_on_name.false) second h.signs.long refl c.in-Some-byte-2.ensures.value goes ends)
