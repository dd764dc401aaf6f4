use Rattle.std.proofs.Common.{inl, inr, ℕ, List, [], ◌∷◌, ◌++◌, refl, sym, ap, ◌∙◌, append_assoc, arith}
use Rattle.nr_page.specs.Selection.{hyphen}
use Rattle.nr_page.specs.declared.selection.PageRange.TheVariants.{UpTo, Between}
use Rattle.nr_page.proofs.ItemText.{number_at_prefix, after_item_no_digit, up_to_item, FirstNumber, first_number, first_number_cut, GoesOn-no_digit, goes_on_after, one_item, from_or_between}
use Rattle.nr_page.proofs.selection.read_item.Goals as goal

pub returns-in_err-last-clause-read : goal.returns-in_err-last-clause-read
returns-in_err-last-clause-read c item prefix after spelled ends is =
    let up_to = up_to_item item prefix after c.in-Some.rest.now spelled (sym c.in-Some.ensures.found ∙ is) in
    absurd (c.in_err-last.ensures.read up_to.0 up_to.1 after up_to.3 (after_item_no_digit after ends) up_to.4)

pub returns-in-Some-clause-found : goal.returns-in-Some-clause-found
returns-in-Some-clause-found c =
    let last = c.in_ok-last.ensures.found in
    (hyphen ∷ last.0, c.in-Some.ensures.found ∙ ap (λ (xs : List ℕ). hyphen ∷ xs) last.1, (last.0, refl, last.2))

pub returns-in-Some-clause-read : goal.returns-in-Some-clause-read
returns-in-Some-clause-read c item prefix after spelled ends is =
    let up_to = up_to_item item prefix after c.in-Some.rest.now spelled (sym c.in-Some.ensures.found ∙ is) in
    let same = c.in_ok-last.ensures.read up_to.0 up_to.1 after up_to.3 (after_item_no_digit after ends) up_to.4 in
    (ap UpTo same.0 ∙ up_to.2, same.1)

pub returns-in_err-first-clause-read : goal.returns-in_err-first-clause-read
returns-in_err-first-clause-read c item prefix after spelled ends is =
    let first : FirstNumber item prefix = first_number item prefix after spelled (λ rest begins. c.in_default.ensures.none rest (is ∙ begins)) in
    absurd (c.in_err-first.ensures.read first.number first.digits (first.tail ++ after) first.writes
    (GoesOn-no_digit first.number item first.tail after first.goes_on ends) (first_number_cut item prefix after c.args.text.now first is))

pub returns-in_default-after_byte-clause-read : goal.returns-in_default-after_byte-clause-read
returns-in_default-after_byte-clause-read c item prefix after spelled ends is =
    let afterwards = goes_on_after item prefix after c.args.text.now c.in_ok-first.first c.in_ok-first.after_first.now c.in_ok-first.ensures.read
    c.in_default.ensures.none spelled ends is in
    one_item c.in_ok-first.first item afterwards.0 after c.in_ok-first.after_first.now afterwards.1 afterwards.2 c.in_default-after_byte.ensures.none

pub returns-in_default-read_number-clause-found : goal.returns-in_default-read_number-clause-found
returns-in_default-read_number-clause-found c =
    let first = c.in_ok-first.ensures.found in (
      first.0 ++ hyphen ∷ [],
      first.1 ∙ (ap (λ (xs : List ℕ). first.0 ++ xs) c.in-Some-after_byte.ensures.found ∙ sym (append_assoc first.0 (hyphen ∷ []) c.in-Some-after_byte.rest.now)),
      (first.0, refl, first.2),
    )

pub returns-in_default-read_number-clause-read : goal.returns-in_default-read_number-clause-read
returns-in_default-read_number-clause-read c item prefix after spelled ends is =
    let afterwards = goes_on_after item prefix after c.args.text.now c.in_ok-first.first c.in_ok-first.after_first.now c.in_ok-first.ensures.read
    c.in_default.ensures.none spelled ends is in
    elim (from_or_between c.in_ok-first.first item afterwards.0 after c.in-Some-after_byte.rest.now afterwards.1 ends (sym c.in-Some-after_byte.ensures.found ∙ afterwards.2)) [
      | inl from ↦ from
      | inr between ↦ absurd (c.in_default-read_number.ensures.read between.0 between.1 after between.4 (after_item_no_digit after ends) between.5)
    ]

pub returns-then-first-last-clause-found : goal.returns-then-first-last-clause-found
returns-then-first-last-clause-found c =
    let first = c.in_ok-first.ensures.found in
    let last = c.in-Some-read_number.ensures.found in (
      first.0 ++ hyphen ∷ last.0,
      first.1 ∙ (ap (λ (xs : List ℕ). first.0 ++ xs) (c.in-Some-after_byte.ensures.found ∙ ap (λ (xs : List ℕ). hyphen ∷ xs) last.1)
          ∙ sym (append_assoc first.0 (hyphen ∷ last.0) c.in-Some-read_number.after.now)),
      (first.0, last.0, refl, first.2, last.2, c.if-first-last.true),
    )

pub returns-then-first-last-clause-read : goal.returns-then-first-last-clause-read
returns-then-first-last-clause-read c item prefix after spelled ends is =
    let last = c.in-Some-read_number.ensures.found in
    let afterwards = goes_on_after item prefix after c.args.text.now c.in_ok-first.first c.in_ok-first.after_first.now c.in_ok-first.ensures.read
    c.in_default.ensures.none spelled ends is in
    elim (from_or_between c.in_ok-first.first item afterwards.0 after c.in-Some-after_byte.rest.now afterwards.1 ends (sym c.in-Some-after_byte.ensures.found ∙ afterwards.2)) [
      | inl from ↦ absurd (number_at_prefix c.in-Some-read_number.last last.0 c.in-Some-read_number.after.now after last.2 (after_item_no_digit after ends) (sym from.1 ∙ last.1))
      | inr between ↦
          let same = c.in-Some-read_number.ensures.read between.0 between.1 after between.4 (after_item_no_digit after ends) between.5 in
          (ap (λ (m : ℕ). Between c.in_ok-first.first m) same.0 ∙ between.2, same.1)
    ]

pub returns-else-first-last-clause-read : goal.returns-else-first-last-clause-read
returns-else-first-last-clause-read c item prefix after spelled ends is =
    let last = c.in-Some-read_number.ensures.found in
    let afterwards = goes_on_after item prefix after c.args.text.now c.in_ok-first.first c.in_ok-first.after_first.now c.in_ok-first.ensures.read
    c.in_default.ensures.none spelled ends is in
    elim (from_or_between c.in_ok-first.first item afterwards.0 after c.in-Some-after_byte.rest.now afterwards.1 ends (sym c.in-Some-after_byte.ensures.found ∙ afterwards.2)) [
      | inl from ↦ number_at_prefix c.in-Some-read_number.last last.0 c.in-Some-read_number.after.now after last.2 (after_item_no_digit after ends) (sym from.1 ∙ last.1)
      | inr between ↦
          let same = c.in-Some-read_number.ensures.read between.0 between.1 after between.4 (after_item_no_digit after ends) between.5 in
          omega (arith, same.0, between.3, c.if-first-last.false)
    ]
