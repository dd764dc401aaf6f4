use Rattle.std.proofs.Common.{◌≡◌, ℕ, ◌+◌, ◌<◌, List, [], ◌∷◌, ◌++◌, map, take, drop, suc, length, slice_get, Some, None, IsOk, vec_len, vec_capacity, ap, sym, ◌∙◌, arith}
use Rattle.std.specs.Option.{option_map}
use Rattle.std.specs.List.{AllZip}
use Rattle.std.proofs.lemmas.Option.{slice_get_within}
use Rattle.std.proofs.lemmas.List.{map-append}
use Rattle.nr_command_options.specs.Inputs.{Reading, readings, reading_of}
use Rattle.nr_command_options.specs.Job.{asked_of}
use Rattle.nr_command.specs.Opening.{AreOpen, Opens, Refuses}
use Rattle.nr_command.proofs.Openings.{Asks-then, AllZip-last, AllZip-same, if_ok, take-get, take-none, parted_at}
use Rattle.nr_command.proofs.opening.open_texts.Goals as goal

pub loop-input-preserved : goal.loop-input-preserved
loop-input-preserved g c =
    let all = readings (asked_of c.args.job.now) in
    let texts = c.loop-input.texts in
    let n = vec_len texts in
    let reading = reading_of c.in-Some.input in
    let get : slice_get all n ≡ Some reading = rw c.len.ensures at (sym c.in-Some.ensures) in
    let inside : n < length all = slice_get_within all n reading get in
    let room : n < vec_capacity texts = omega (arith, c.loop-input.invariant.room) in
    let ok : IsOk c.push.result = c.push.ensures.succeeds room in
    let items : c.push.new.self.items ≡ texts.items ++ c.in-Ok.text ∷ [] = c.push.ensures.items ∙ if_ok c.push.result _ _ ok in
    let len : vec_len c.push.new.self ≡ n + 1 = c.push.ensures.len ∙ if_ok c.push.result _ _ ok in
    let supply = g.O.Text.Source.supply in
    let opened = AllZip-last (λ reading given. g.O.Opener.may_come c.args.opener.now reading (Opens given)) (take n all) (map supply texts.items) reading (supply c.in-Ok.text) c.loop-input.invariant.opened (c.loop-input.invariant.stays reading (Opens (supply c.in-Ok.text)) c.in-Ok.ensures.comes) in
    let asked = Asks-then _ _ _ (take n all) (reading ∷ []) c.loop-input.invariant.asked c.in-Ok.ensures.asked in
    record {
      within = omega (arith, len);
      room = omega (arith, c.push.ensures.capacity, c.loop-input.invariant.room);
      opened = AllZip-same _ _ _ _ _ (ap (λ k. take k all) len ∙ take-get all n reading get) (ap (map supply) items ∙ map-append supply texts.items (c.in-Ok.text ∷ [])) opened;
      stays = λ other opening comes. c.loop-input.invariant.stays other opening (c.in-Ok.ensures.stays other opening comes);
      asked = rw len (rw (take-get all n reading get) asked);
    }

pub returns-in-Err-clause-refused : goal.returns-in-Err-clause-refused
returns-in-Err-clause-refused g c =
    let all = readings (asked_of c.args.job.now) in
    let n = vec_len c.loop-input.texts in
    let reading = reading_of c.in-Some.input in
    let get : slice_get all n ≡ Some reading = rw c.len.ensures at (sym c.in-Some.ensures) in
    record {
      before = take n all;
      rest = drop (suc n) all;
      readings_are = parted_at all n reading get;
      given = map g.O.Text.Source.supply c.loop-input.texts.items;
      opened = c.loop-input.invariant.opened;
      refused = c.loop-input.invariant.stays reading Refuses c.in-Err.ensures.comes;
      tried = Asks-then _ _ _ (take n all) (reading ∷ []) c.loop-input.invariant.asked c.in-Err.ensures.asked;
    }

pub returns-clause-all : goal.returns-clause-all
returns-clause-all g c =
    let all = readings (asked_of c.args.job.now) in
    let n = vec_len c.loop-input.texts in
    let reported : slice_get all c.len.result ≡ None = sym c.input.ensures ∙ ap (option_map reading_of) c.in_default.is in
    let none : slice_get all n ≡ None = rw c.len.ensures at reported in
    rw (take-none all n none) at c.loop-input.invariant.opened

pub returns-clause-asked : goal.returns-clause-asked
returns-clause-asked g c =
    let all = readings (asked_of c.args.job.now) in
    let n = vec_len c.loop-input.texts in
    let reported : slice_get all c.len.result ≡ None = sym c.input.ensures ∙ ap (option_map reading_of) c.in_default.is in
    let none : slice_get all n ≡ None = rw c.len.ensures at reported in
    rw (take-none all n none) at c.loop-input.invariant.asked

pub returns-in-Err-clause-unopened : goal.returns-in-Err-clause-unopened
returns-in-Err-clause-unopened g c = λ same. absurd cc

pub returns-in-Err-clause-memory : goal.returns-in-Err-clause-memory
returns-in-Err-clause-memory g c = c.in_ok-texts.ensures.refusals
