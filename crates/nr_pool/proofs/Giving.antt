-- The text that lies last is given to a number that has no elements.
use Rattle.std.proofs.Common.{◌≡◌, ◌≢◌, ℕ, ◌+◌, ◌-◌, ◌<◌, List, [], length, set, refl, sym, ap, ap₂, ◌∙◌, subst, arith}
use Rattle.std.proofs.lemmas.List.{length-set, get_or-set_other, get_or-set_same, set-set}
use Rattle.nr_pool.specs.Texts.{Held, Texts, text, holders, with_text}
use Rattle.nr_pool.specs.Slot.{blank_slot, slot_at, texts_of, given, IsPacked}
use Rattle.nr_pool.specs.Spares.{HasSpares}
use Rattle.nr_pool.specs.declared.slot.Slot.{Slot}
use Rattle.nr_pool.proofs.Places.{entry_is, set_last, set_same, slot_set}
use Rattle.nr_pool.proofs.Spares.{spares_set}

module _ {T : Type 0} (E : List T) (slots : List Slot) (used i j : ℕ) (packed : IsPacked (length E) slots used) (i_in : i < length slots) (j_in : j < length slots) (other : i ≢ j)
    (last : (slot_at slots i).start + (slot_at slots i).len ≡ used) (none : (slot_at slots j).len ≡ 0) (held_i : 0 < (slot_at slots i).holders) (held_j : 0 < (slot_at slots j).holders) where
  abbrev emptied : Slot
  emptied = record (slot_at slots i) { len = 0 }

  abbrev mid : List Slot
  mid = set slots i emptied

  abbrev began : Slot
  began = record (slot_at mid j) { start = (slot_at slots i).start }

  abbrev new : Slot
  new = record (slot_at mid j) { start = (slot_at slots i).start; len = (slot_at slots i).len }

  mid_j : slot_at mid j ≡ slot_at slots j
  mid_j = get_or-set_other slots i j emptied blank_slot (λ e. other (sym e))

  j_mid : j < length mid
  j_mid = omega (arith, length-set slots i emptied)

  none_mid : (slot_at mid j).len ≡ 0
  none_mid = ap (λ (s : Slot). s.len) mid_j ∙ none

  held_mid : 0 < (slot_at mid j).holders
  held_mid = let same = ap (λ (s : Slot). s.holders) mid_j in omega arith

  mid_packed : IsPacked (length E) mid (used - (slot_at slots i).len)
  mid_packed =
      let room = packed.room in
      set_last (length E) used slots i emptied (used - (slot_at slots i).len) packed i_in last (omega arith) (omega arith) (λ some. absurd (omega arith)) (λ _. refl)

  began_packed : IsPacked (length E) (set mid j began) (used - (slot_at slots i).len)
  began_packed = let empty = none_mid in set_same (length E) (used - (slot_at slots i).len) mid j began mid_packed j_mid refl (λ some. absurd (omega arith)) (λ _. empty)

  began_is : slot_at (set mid j began) j ≡ began
  began_is = get_or-set_same mid j began blank_slot j_mid

  pub given_packed : IsPacked (length E) (given slots i j) used
  given_packed =
      let starts : (slot_at (set mid j began) j).start ≡ (slot_at slots i).start = ap (λ (s : Slot). s.start) began_is in
      let lens : (slot_at (set mid j began) j).len ≡ 0 = ap (λ (s : Slot). s.len) began_is ∙ none_mid in
      let held = held_mid in
      let room = packed.room in
      subst (λ ss. IsPacked (length E) ss used) (set-set mid j began new)
      (set_last (length E) (used - (slot_at slots i).len) (set mid j began) j new used began_packed (let long = length-set mid j began in let in_mid = j_mid in omega arith) (omega arith) (omega arith) room (λ _. sym starts) (λ gone. absurd (omega arith)))

  pub given_length : length (given slots i j) ≡ length slots
  given_length = length-set mid j new ∙ length-set slots i emptied

  pub given_spares : (count first : ℕ) → HasSpares slots count first → HasSpares (given slots i j) count first
  given_spares count first spares =
      let held = held_mid in
      spares_set mid j new count first j_mid held held (spares_set slots i emptied count first i_in held_i held_i spares)

  given_first : texts_of E mid ≡ with_text (texts_of E slots) i []
  given_first = slot_set E slots (texts_of E slots) i i emptied (record { elements = []; holders = holders (texts_of E slots) i }) refl refl
      (ap (λ n. record { elements = []; holders = n }) (sym (ap (λ (t : Held T). t.holders) (entry_is E slots i))))

  pub given_texts : texts_of E (given slots i j) ≡ with_text (with_text (texts_of E slots) i []) j (text (texts_of E slots) i)
  given_texts =
      slot_set E mid (with_text (texts_of E slots) i []) j j new (record { elements = text (texts_of E slots) i; holders = holders (with_text (texts_of E slots) i []) j }) given_first refl
      (ap₂ (λ xs n. record { elements = xs; holders = n }) (sym (ap (λ (t : Held T). t.elements) (entry_is E slots i)))
      (sym (ap (λ (t : Held T). t.holders) (entry_is E mid j)) ∙ ap (λ (q : Texts T). holders q j) given_first))
