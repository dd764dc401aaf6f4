use Rattle.std.proofs.Common.{◌≡◌, ◌≢◌, [], length, refl, sym, ap, ap₂, ◌∙◌, arith}
use Rattle.nr_pool.specs.Texts.{Held, Texts, text, with_text}
use Rattle.nr_pool.specs.Laws.{within_of_open, open-with_text}
use Rattle.nr_pool.specs.Slot.{texts_of, slot_at}
use Rattle.nr_pool.proofs.Places.{found}
use Rattle.nr_pool.proofs.Rooms.{open_in, same_entry, lifted_text}
use Rattle.nr_pool.proofs.Giving.{given_packed, given_length, given_spares, given_texts}
use Rattle.nr_pool.proofs.packed.Packed.give.Goals as goal

pub give_last-requires-clause-from_within : goal.give_last-requires-clause-from_within
give_last-requires-clause-from_within g c =
    let s = c.self.inside in
    let last = c.bring_last.ensures in
    (found _ _ _ _ _ _ last.packed last.same c.from.view_is (open_in s.capacity s.most _ (texts_of s.elements.items s.slots.items) c.self.view_is _ c.requires.from_open)).within

pub give_last-requires-clause-to_within : goal.give_last-requires-clause-to_within
give_last-requires-clause-to_within g c =
    let s = c.self.inside in
    let last = c.bring_last.ensures in
    (found _ _ _ _ _ _ last.packed last.same c.to.view_is (open_in s.capacity s.most _ (texts_of s.elements.items s.slots.items) c.self.view_is _ c.requires.to_open)).within

pub invariant_of-self : goal.invariant_of-self
invariant_of-self g c =
    let s = c.self.inside in
    let last = c.bring_last.ensures in
    let kept = c.self.invariant.0 in
    let E = c.bring_last.new.elements.items in
    let S = c.bring_last.new.slots.items in
    let i = c.from.inside.index in
    let j = c.to.inside.index in
    let q = texts_of s.elements.items s.slots.items in
    let f = found _ _ _ _ _ _ last.packed last.same c.from.view_is (open_in s.capacity s.most _ q c.self.view_is _ c.requires.from_open) in
    let t = found _ _ _ _ _ _ last.packed last.same c.to.view_is (open_in s.capacity s.most _ q c.self.view_is _ c.requires.to_open) in
    let none : (slot_at S j).len ≡ 0 = sym t.len_is ∙ sym (ap (λ (h : Held _). length h.elements) (same_entry s.capacity s.most _ q c.self.view_is c.args.to)) ∙ ap length c.requires.empty in
    let other : i ≢ j = λ e. c.requires.apart (sym c.from.view_is ∙ e ∙ c.to.view_is) in
    let packed = given_packed E S s.used i j last.packed f.within t.within other last.last none f.held t.held in
    let spares = given_spares E S s.used i j last.packed f.within t.within other last.last none f.held t.held s.spares s.first_spare (last.spares _ _ kept.spares) in
    let long = given_length E S s.used i j last.packed f.within t.within other last.last none f.held t.held in
    rw c.give_last.ensures.given (
      record {
        packed = packed;
        spares = spares;
        elements_within = omega (arith, last.elements, kept.elements_within);
        slots_within = omega (arith, last.slots, kept.slots_within);
        elements_fit = kept.elements_fit;
        slots_fit = kept.slots_fit;
      },
      (omega (arith, last.elements_room, c.self.invariant.1.0), omega (arith, c.give_last.ensures.room, last.slots_room, c.self.invariant.1.1)),
    )

pub returns : goal.returns
returns g c =
    let s = c.self.inside in
    let last = c.bring_last.ensures in
    let E = c.bring_last.new.elements.items in
    let S = c.bring_last.new.slots.items in
    let i = c.from.inside.index in
    let j = c.to.inside.index in
    let q = texts_of s.elements.items s.slots.items in
    let p = c.args.self.now in
    let from = c.args.from in
    let to = c.args.to in
    let from_open = open_in s.capacity s.most p q c.self.view_is from c.requires.from_open in
    let to_open = open_in s.capacity s.most p q c.self.view_is to c.requires.to_open in
    let f = found _ _ _ _ _ _ last.packed last.same c.from.view_is from_open in
    let t = found _ _ _ _ _ _ last.packed last.same c.to.view_is to_open in
    let none : (slot_at S j).len ≡ 0 = sym t.len_is ∙ sym (ap (λ (h : Held _). length h.elements) (same_entry s.capacity s.most _ q c.self.view_is c.args.to)) ∙ ap length c.requires.empty in
    let other : i ≢ j = λ e. c.requires.apart (sym c.from.view_is ∙ e ∙ c.to.view_is) in
    let texts : texts_of E c.give_last.new.slots.items ≡ with_text (with_text q from []) to (text q from) =
    ap (texts_of E) c.give_last.ensures.given ∙ given_texts E S s.used i j last.packed f.within t.within other last.last none f.held t.held
    ∙ ap (λ (r : Texts _). with_text (with_text r i []) j (text r i)) last.same
    ∙ ap₂ (λ k l. with_text (with_text q k []) l (text q k)) c.from.view_is c.to.view_is in
    let first = lifted_text s.capacity s.most p q c.self.view_is (with_text q from []) from (λ _. []) (within_of_open q from from_open) refl in
    record {
      given = lifted_text s.capacity s.most (with_text p from []) (with_text q from []) first (texts_of E c.give_last.new.slots.items) to (λ _. text q from) (within_of_open (with_text q from []) to (open-with_text q from to [] to_open)) texts
          ∙ ap (λ xs. with_text (with_text p from []) to xs) (sym (ap (λ (h : Held _). h.elements) (same_entry s.capacity s.most p q c.self.view_is from)));
    }
