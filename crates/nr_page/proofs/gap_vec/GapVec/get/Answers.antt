use Rattle.std.proofs.lemmas.Grind.{common_steps}
use Rattle.std.proofs.Common.{◌+◌, length, get_or, refl, sym, ap, ◌∙◌, arith}
use Rattle.std.proofs.lemmas.Option.{slice_get_read}
use Rattle.nr_vectors.specs.Items.{Items}
use Rattle.nr_page.proofs.Gapped.{get_or-gapped_prefix, get_or-gapped_back}
use Rattle.nr_page.proofs.gap_vec.GapVec.get.Goals as goal

pub returns-then-place-self : goal.returns-then-place-self
returns-then-place-self g c =
    let s = c.self.inside in
    let place = c.args.place in
    let x = c.index-slots-place.result in
    slice_get_read c.args.self.now.items (length c.args.self.now.items) place x refl c.requires
    (c.index-slots-place.is ∙ ap (λ l. get_or l place x) c.as_slice-slots.ensures.value ∙ sym (get_or-gapped_prefix s.prefix s.gap s.slots.items place x c.self.invariant.0 c.if-place-self.true) ∙ ap (λ (v : Items _). get_or v.items place x) c.self.view_is)

pub returns-else-place-self : goal.returns-else-place-self
returns-else-place-self g c =
    let s = c.self.inside in
    let place = c.args.place in
    let x = c.index-slots-self.result in
    slice_get_read c.args.self.now.items (length c.args.self.now.items) place x refl c.requires
    (c.index-slots-self.is ∙ ap (λ l. get_or l (s.gap + place) x) c.as_slice-slots.ensures.value ∙ sym (get_or-gapped_back s.prefix s.gap s.slots.items place x c.self.invariant.0 c.if-place-self.false) ∙ ap (λ (v : Items _). get_or v.items place x) c.self.view_is)

pub overflow_add-result : goal.overflow_add-result
overflow_add-result g c = grind (arith, common_steps)

pub offset_bounds-slots-self-inside : goal.offset_bounds-slots-self-inside
offset_bounds-slots-self-inside g c = grind (arith, common_steps)

pub bounds-slots-self-inside : goal.bounds-slots-self-inside
bounds-slots-self-inside g c = grind (arith, common_steps)
