use Prim.Native.Char.{code}
use Rattle.std.specs.Int.{from_bool}
use Rattle.std.proofs.Common.{◌≡◌, ◌+◌, true, refl, sym, subst, ap, ◌∙◌, arith}
use Rattle.std.proofs.lemmas.Bool.{false≢true, ne_eqb}
use Rattle.nr_reading.specs.declared.half.Half.{Half}
use Rattle.nr_reading.specs.declared.spelled.Spelled.{Spelled}
use Rattle.nr_reading.specs.Many.ControlNames.{NameEnds, goes_on_name}
use Rattle.nr_reading.specs.Many.Stretch.{LeadsOn}
use Rattle.nr_reading.specs.Spelled.{nothing_spelled, spelled}
use Rattle.nr_reading.specs.Many.StringStretches.{after_name}
use Rattle.nr_reading.proofs.Stretches.{recount, rest_after}
use Rattle.nr_reading.proofs.StringStretches.{lone_named, pair_named}
use Rattle.nr_reading.proofs.half.Half.take_in_string.Goals.{else-long-via-then-long+else-not-name_ends, else-long-via-else-long}
use Rattle.nr_reading.proofs.half.Half.take_in_string.Goals as goal

pub returns-then-ends_name : goal.returns-then-ends_name
returns-then-ends_name g c =
    let fs = g.I.Items.next_items c.args.items.now in
    let h = c.args.self.now in
    let place = c.pass_first_blanks-place.result in
    let first = c.in-Some.first in
    let name : c.with-lone.result ≡ spelled first nothing_spelled = c.with-lone.ensures ∙ ap (spelled first) c.new.ensures in
    let mid : c.take_string_name.new.self ≡ after_name (spelled first nothing_spelled) h = c.take_string_name.ensures ∙ ap (λ (n : Spelled). after_name n h) name in
    rest_after fs 0 0 (place + 1) (place + 3) h c.take_string_name.new.self c.take_in_string_blanks.new.self c.take_in_string_blanks.new.run
    (subst (λ (k : Half). LeadsOn fs 0 0 h (place + 1) (place + 3) k) (sym mid)
    (recount fs 0 0 (place + 1) (place + 1) (place + 1 + 1 + 1) (place + 3) h (after_name (spelled first nothing_spelled) h)
    (lone_named fs 0 0 place place h h c.pass_first_blanks-place.ensures.leads c.requires.mode c.requires.next first c.in-Some-byte_of.second c.in-Some-byte_of.ensures.within c.in-Some.ensures.value c.in-Some-byte_of.ensures.value
    (sym c.goes_on_name.ensures ∙ c.if-not-goes_on_name.false) (ne_eqb c.in-Some-byte_of.second (code "\\") c.if-second-eq92.false) (sym c.ends_name.ensures ∙ c.if-ends_name.true))
    refl (omega arith)))
    c.take_in_string_blanks.ensures

pub returns : goal.returns
returns g c =
    let fs = g.I.Items.next_items c.args.items.now in
    let h = c.args.self.now in
    let place = c.pass_first_blanks-place.result in
    let first = c.in-Some.first in
    let second = c.in-Some-byte_of.second in
    let name : c.with.result ≡ spelled second (spelled first nothing_spelled) = c.with.ensures ∙ ap (spelled second) (c.with-lone.ensures ∙ ap (spelled first) c.new.ensures) in
    let mid : c.take_string_name-2.new.self ≡ after_name (spelled second (spelled first nothing_spelled)) h = c.take_string_name-2.ensures ∙ ap (λ (n : Spelled). after_name n h) name in
    let goes : goes_on_name second ≡ true = rw (sym c.ends_name.ensures ∙ c.if-ends_name.false, ne_eqb second (code "\\") c.if-second-eq92.false) refl in
    let moves = place + 3 + c.from.result in
    let ends : h.signs.long ≡ true → NameEnds fs (place + 2) = λ is. elim c.else-long.branch [
      | else-long-via-then-long+else-not-name_ends w ↦ w.name_ends.ensures w.if-not-name_ends.false
      | else-long-via-else-long w ↦ absurd (false≢true (sym w.if-long.false ∙ is))
    ] in
    rest_after fs 0 0 (place + 2) moves h c.take_string_name-2.new.self c.take_in_string_blanks-2.new.self c.take_in_string_blanks-2.new.run
    (subst (λ (k : Half). LeadsOn fs 0 0 h (place + 2) moves k) (sym mid)
    (recount fs 0 0 (place + 2) (place + 2) (place + (3 + from_bool h.signs.long)) moves h (after_name (spelled second (spelled first nothing_spelled)) h)
    (pair_named fs 0 0 place place h h c.pass_first_blanks-place.ensures.leads c.requires.mode c.requires.next first second c.in-Some-byte_of.ensures.within c.in-Some.ensures.value c.in-Some-byte_of.ensures.value
    (sym c.goes_on_name.ensures ∙ c.if-not-goes_on_name.false) h.signs.long refl goes ends)
    refl (omega (arith, c.from.ensures))))
    c.take_in_string_blanks-2.ensures
