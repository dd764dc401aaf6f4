use Prim.Native.Char.{code}
use Rattle.std.specs.Prelude.{map}
use Rattle.std.proofs.Common.{◌∙◌, ◌≡◌, drop, take, refl, ap, sym, arith}
use Rattle.std.proofs.lemmas.List.{length-take-le}
use Rattle.nr_store.specs.Windows.{rest_of}
use Rattle.nr_input.specs.Place.{element_item}
use Rattle.fast_input.specs.Gathering.{IsGathering, brace_items}
use Rattle.fast_input.specs.declared.gathering.Gathered.{Gathered}
use Rattle.fast_input.proofs.TextBraces.{brace_begins, byte_shown, has_brace, shown_byte}
use Rattle.fast_input.proofs.TextGathered.{nothing_is, run_copied, run_stops}
use Rattle.fast_input.proofs.TextLeft.{spliced_none}
use Rattle.fast_input.proofs.gathering.gather_stretch.Goals as goal

pub gather_escapes-rest-requires-clause-gathered : goal.gather_escapes-rest-requires-clause-gathered
gather_escapes-rest-requires-clause-gathered g c =
    let v = c.args.store.now in
    let r = c.args.reader.now in
    let none = c.args.gathered.now in
    let chunk = c.args.chunk.now in
    let run = c.gather_run-count in
    let stretch : g.I.Items.next_items c.args.stretch ≡ drop none.items (map element_item (rest_of v.levels)) = rw c.requires.none c.requires.stretch in
    let base : IsGathering (take none.count chunk) v r r none = rw c.requires.none (record { gathered = nothing_is v r; reader = sym (spliced_none r.half.notes.asked r refl) }) in
    let passed = ap (λ (z : Gathered). z.count) run.ensures.passed in
    let within = run.ensures.count in
    let most = c.requires.holds in
    rw run.ensures.passed
    (run_copied none run.result chunk run.new.chunk (g.I.Items.next_items c.args.stretch) v stretch r r base run.ensures.kept run.ensures.bytes (omega (arith, passed, within)) (omega (arith, run.ensures.holds, most)))

pub gather_escapes-rest-requires-clause-stops : goal.gather_escapes-rest-requires-clause-stops
gather_escapes-rest-requires-clause-stops g c =
    let v = c.args.store.now in
    let none = c.args.gathered.now in
    let run = c.gather_run-count in
    let stretch : g.I.Items.next_items c.args.stretch ≡ drop none.items (map element_item (rest_of v.levels)) = rw c.requires.none c.requires.stretch in
    let room = c.requires.room in
    let longest = run.ensures.longest in
    rw run.ensures.passed
    (run_stops none run.result c.args.chunk.now run.new.chunk (g.I.Items.next_items c.args.stretch) v stretch (omega (arith, run.ensures.holds, room)) (λ less. longest (omega (arith, less, run.ensures.holds))))

pub returns-clause-gathered : goal.returns-clause-gathered
returns-clause-gathered g c =
    let rest = rest_of c.args.store.now.levels in
    let there = c.gather_escapes-rest.new.gathered in
    let chunk = c.gather_escapes-rest.new.chunk in
    let fs = g.I.Items.next_items c.gather_escapes-rest.result in
    let stretch = c.gather_escapes-rest.ensures.stretch in
    record {
      count = sym (length-take-le there.count chunk c.gather_escapes-rest.ensures.count);
      gathered = c.gather_escapes-rest.ensures.gathered;
      closes = λ yes. has_brace there.items fs rest stretch (sym c.takes_in_brace-gathered.ensures.brace ∙ yes);
      ends = λ yes. byte_shown there.items fs rest stretch (brace_items c.takes_in_brace-gathered.result) (code "\n") (sym c.has_newline-gathered.ensures ∙ yes);
    }

pub returns-clause-most : goal.returns-clause-most
returns-clause-most g c =
    let rest = rest_of c.args.store.now.levels in
    let there = c.gather_escapes-rest.new.gathered in
    let fs = g.I.Items.next_items c.gather_escapes-rest.result in
    let stretch = c.gather_escapes-rest.ensures.stretch in
    record {
      stops = c.gather_escapes-rest.ensures.stops;
      closes = λ brace. c.takes_in_brace-gathered.ensures.brace ∙ brace_begins there.items fs rest stretch brace;
      ends = λ shown. c.has_newline-gathered.ensures ∙ shown_byte there.items fs rest stretch (brace_items c.takes_in_brace-gathered.result) (code "\n") shown;
    }
