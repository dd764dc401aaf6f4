use Rattle.std.proofs.lemmas.Grind.{common_steps}
use Rattle.std.proofs.Common.{◌≡◌, ℕ, ◌+◌, ◌-◌, ◌<◌, ◌≤◌, ◌++◌, ◌∷◌, [], length, take, drop, inl, inr, ap, ◌∙◌, subst, length-drop, arith}
use Rattle.std.proofs.lemmas.Bool.{cases_lt}
use Rattle.std.proofs.lemmas.List.{length-take, length-take-le}
use Rattle.nr_vectors.proofs.Copying.{prefix_put}
use Rattle.nr_store.specs.Windows.{rest_of, left_times}
use Rattle.nr_reading.proofs.InText.{in_text}
use Rattle.nr_reading.specs.declared.event.Event.TheVariants as events
use Rattle.nr_input.specs.declared.reader.Reader.{Reader}
use Rattle.fast_input.specs.declared.splices.Splice.{Splice}
use Rattle.nr_input.specs.Acting.{expanded}
use Rattle.fast_input.specs.Gathering.{AreGathered}
use Rattle.fast_input.specs.Interpolations.{MaySplice, brings_text}
use Rattle.fast_input.proofs.StretchesRead.{taken-le}
use Rattle.fast_input.proofs.TextGathered.{after_is, after_made, escape_gathered}
use Rattle.fast_input.proofs.gathering.gather_escape.Goals as goal

pub add-requires-clause-items : goal.add-requires-clause-items
add-requires-clause-items g c =
    let taken_in = c.in-Some.taken_in in
    let items = c.requires.items in
    let few = c.in-Some.ensures.few in
    omega (arith, items, few, taken-le taken_in.moves _ c.args.reader.now.half (record { taken = taken_in.taken; half = c.take_in_splice.new.reader.half; event = events.Nothing }) c.in-Some.ensures.taken_in)

pub begin_splice-requires : goal.begin_splice-requires
begin_splice-requires g c = record { burst = (c.in-Some.ensures.may 0 (omega arith)).room.burst }

pub returns-clause-gathered : goal.returns-clause-gathered
returns-clause-gathered g c = λ r old.
    let gathered = c.args.gathered.now in
    let chunk = c.args.chunk.now in
    let part = c.take_in_splice.new.chunk in
    let bytes = take gathered.count chunk in
    let v = c.args.store.now in
    let q = c.args.reader.now in
    let h = c.take_in_splice.new.reader.half in
    let named = brings_text h.reading.pending_act in
    let taken_in = c.in-Some.taken_in in
    let own = take taken_in.count part in
    let pending_is : c.take_in_splice.new.reader ≡ record q { half = h } = c.in-Some.ensures.reader in
    let may : (k : ℕ) → k ≤ length (rest_of v.levels) → MaySplice own (left_times k v) (record q { half = h }) = λ k few. subst (λ (z : Reader). MaySplice own (left_times k v) z) pending_is (c.in-Some.ensures.may k few) in
    let most = c.len.ensures.most in
    let value = c.len.ensures.value in
    let less : length gathered.splices < 8 = elim (cases_lt (length gathered.splices) 8) [
      | inl below ↦ below
      | inr past ↦ let full : c.len.result ≡ 8 = omega (arith, past, most, value) in absurd (c.if-len-eq-MOST.false full)
    ] in
    let here = c.requires.count in
    let within = c.in-Some.ensures.within in
    let whole = c.take_in_splice.auto.chunk in
    let holds = c.requires.holds in
    let long : length bytes ≡ gathered.count = length-take-le gathered.count chunk here in
    let own_long : length own ≡ taken_in.count = length-take-le taken_in.count part within in
    let fits : length bytes + length own ≤ 4096 = omega (arith, long, own_long, within, whole, here, holds, length-drop gathered.count chunk, length-take (length chunk - gathered.count) (drop gathered.count chunk)) in
    let look = (in_text q.half c.requires.text).pending_act in
    let made = escape_gathered bytes gathered.items gathered.moves gathered.splices v r q old.gathered old.reader look taken_in.moves taken_in.taken own h _ c.requires.stretch c.in-Some.ensures.taken_in c.in-Some.ensures.asks may c.in-Some.ensures.few less fits in
    let counted = subst (λ k. AreGathered (bytes ++ own) (gathered.items + taken_in.taken) (gathered.moves + taken_in.moves + 2)
    (gathered.splices ++ record { afterwards = gathered.items + taken_in.taken; before = gathered.count; count = k; moves = gathered.moves + taken_in.moves + 1; asked = h.notes.asked; named = named } ∷ []) v r) own_long
    (subst (λ k. AreGathered (bytes ++ own) (gathered.items + taken_in.taken) (gathered.moves + taken_in.moves + 2)
    (gathered.splices ++ record { afterwards = gathered.items + taken_in.taken; before = k; count = length own; moves = gathered.moves + taken_in.moves + 1; asked = h.notes.asked; named = named } ∷ []) v r) long made) in
    let splice : Splice = record { afterwards = gathered.items + taken_in.taken; before = gathered.count; count = taken_in.count; moves = gathered.moves + taken_in.moves + 1; asked = h.notes.asked; named = named } in
    rw (c.add.ensures, c.begin_splice.ensures, c.brings_text-named.ensures)
    (record {
      gathered = rw (prefix_put gathered.count (length chunk - gathered.count) taken_in.count chunk part here within) counted;
      reader = ap expanded pending_is
          ∙ after_is bytes gathered.items gathered.moves gathered.splices v r q old.gathered old.reader look taken_in.moves taken_in.taken own h _ c.requires.stretch c.in-Some.ensures.taken_in c.in-Some.ensures.asks may c.in-Some.ensures.few less fits
          ∙ after_made gathered.splices splice r.half.notes.asked r;
    })

pub returns-in_default-clause-gathered : goal.returns-in_default-clause-gathered
returns-in_default-clause-gathered g c = grind (arith, common_steps)
