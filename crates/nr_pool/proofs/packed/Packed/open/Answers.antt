use Rattle.std.proofs.Common.{◌-◌, ◌<◌, [], refl, arith}
use Rattle.std.proofs.lemmas.List.{length-map}
use Rattle.std.proofs.lemmas.Option.{slice_get_within}
use Rattle.std.proofs.lemmas.Bool.{false≢true}
use Rattle.nr_pool.specs.Slot.{held_of, texts_of}
use Rattle.nr_pool.specs.Laws.{apart_of_unused, open_after_entry, open_after_opened}
use Rattle.nr_pool.proofs.Places.{all_open, opened_at, free_entry, not_all_open, slot_is}
use Rattle.nr_pool.proofs.Spares.{none_spare}
use Rattle.nr_pool.proofs.Changes.{after_open, kept_after}
use Rattle.nr_pool.proofs.Rooms.{spared, free_within, all_within, lifted}
use Rattle.nr_pool.proofs.packed.Packed.open.Goals as goal

pub returns-in_default-clause-full : goal.returns-in_default-clause-full
returns-in_default-clause-full g c =
    let s = c.self.inside in
    let kept = c.self.invariant.0 in
    let none = c.in_default.ensures.none refl in
    let q = texts_of s.elements.items s.slots.items in
    (λ _. all_within s.capacity s.most _ q c.self.view_is (omega (arith, length-map s.slots.items (held_of s.elements.items), none.1.0)) (all_open s.elements.items s.slots.items q refl (none_spare _ _ _ kept.spares none.0)), λ _. refl)

pub invariant_of-self-2 : goal.invariant_of-self-2
invariant_of-self-2 g c =
    let s = c.self.inside in
    let kept = c.self.invariant.0 in
    let news = c.spare_of.new.slots.items in
    let spares = c.in-Some.ensures.spares in
    let some : 0 < c.in-Some.spares = c.in-Some.ensures.some in
    let few = c.in-Some.ensures.few in
    let now = spared s.elements.items s.slots.items news _ _ _ s.capacity s.most _ kept c.self.view_is c.in-Some.ensures.same (omega arith) in
    let at = slot_is news c.in-Some.index _ c.index_mut-slot.ensures.value (spares.within 0 some) in
    rw at (
      kept_after _ _ _ news _ _ _ _ _ _ _ _ _ _ kept (after_open _ news _ _ (c.in-Some.spares - 1) _ _ now.packed spares (omega arith) refl refl (omega arith)) kept.elements_within (omega arith),
      (c.self.invariant.1.0, omega (arith, c.in-Some.ensures.room)),
    )

pub returns-clause-unused : goal.returns-clause-unused
returns-clause-unused g c =
    let s = c.self.inside in
    let kept = c.self.invariant.0 in
    let news = c.spare_of.new.slots.items in
    let spares = c.in-Some.ensures.spares in
    let some : 0 < c.in-Some.spares = c.in-Some.ensures.some in
    let few = c.in-Some.ensures.few in
    let now = spared s.elements.items s.slots.items news _ _ _ s.capacity s.most _ kept c.self.view_is c.in-Some.ensures.same (omega arith) in
    free_within s.capacity s.most _ (texts_of s.elements.items news) c.in-Some.index now.view (free_entry _ _ _ _ _ now.packed refl (spares.within 0 some) (spares.unheld 0 some))

pub returns-clause-full : goal.returns-clause-full
returns-clause-full g c = (λ ok. absurd (false≢true ok), λ all. absurd (not_all_open c.args.self.now _ (returns-clause-unused g c) all))

pub returns-clause-ok : goal.returns-clause-ok
returns-clause-ok g c =
    let s = c.self.inside in
    let kept = c.self.invariant.0 in
    let news = c.spare_of.new.slots.items in
    let spares = c.in-Some.ensures.spares in
    let some : 0 < c.in-Some.spares = c.in-Some.ensures.some in
    let few = c.in-Some.ensures.few in
    let now = spared s.elements.items s.slots.items news _ _ _ s.capacity s.most _ kept c.self.view_is c.in-Some.ensures.same (omega arith) in
    let within = spares.within 0 some in
    let at = slot_is news c.in-Some.index _ c.index_mut-slot.ensures.value within in
    rw at (lifted s.capacity s.most _ (texts_of s.elements.items news) now.view _ c.in-Some.index (record { elements = []; holders = 1 }) (omega (arith, length-map news (held_of s.elements.items)))
    (opened_at s.elements.items news _ c.in-Some.index _ refl (now.packed.empty _ (spares.unheld 0 some)) refl))

pub returns-clause-is_open : goal.returns-clause-is_open
returns-clause-is_open g c = open_after_opened c.args.self.now _ _ (slice_get_within _ _ _ (returns-clause-unused g c)) (returns-clause-ok g c)

pub returns-clause-keeps : goal.returns-clause-keeps
returns-clause-keeps g c = open_after_entry c.args.self.now _ _ _ (omega arith) (slice_get_within _ _ _ (returns-clause-unused g c)) (returns-clause-ok g c)

pub returns-clause-apart : goal.returns-clause-apart
returns-clause-apart g c = λ other is_open. apart_of_unused c.args.self.now _ other (returns-clause-unused g c) is_open
