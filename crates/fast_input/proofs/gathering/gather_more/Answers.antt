use Rattle.std.specs.Prelude.{map}
use Rattle.std.proofs.Common.{◌≡◌, ◌+◌, drop, refl, ap, ◌∙◌, arith}
use Rattle.nr_store.specs.Windows.{rest_of}
use Rattle.nr_input.specs.Place.{element_item}
use Rattle.fast_input.specs.declared.gathering.Gathered.{Gathered}
use Rattle.fast_input.proofs.TextGathered.{stretch_on, run_copied, run_stops}
use Rattle.fast_input.proofs.gathering.gather_more.Goals as goal

pub loop-preserved : goal.loop-preserved
loop-preserved g c =
    let v = c.args.store.now in
    let r = c.args.reader.now in
    let rest = rest_of v.levels in
    let escape = c.gather_escape-taken in
    let run = c.gather_run-count in
    let there = escape.new.gathered in
    let n = run.result in
    let fs = g.I.Items.next_items c.afterwards-rest.result in
    let stretch : fs ≡ drop there.items (map element_item rest) = stretch_on c.loop.gathered.items escape.result there.items (g.I.Items.next_items c.loop.rest) fs rest c.loop.invariant.stretch c.afterwards-rest.ensures escape.ensures.items in
    let before = escape.ensures.gathered r c.loop.invariant.gathered in
    let passed = ap (λ (z : Gathered). z.count) run.ensures.passed in
    let within = run.ensures.count in
    let holds = run.ensures.holds ∙ escape.ensures.holds ∙ c.loop.invariant.holds in
    let most = c.requires.holds in
    let room = c.requires.room in
    let longest = run.ensures.longest in
    rw run.ensures.passed
    (record {
      text = escape.ensures.text;
      stretch = stretch_on there.items n (there.items + n) fs (g.I.Items.next_items c.afterwards-rest-in-loop.result) rest stretch c.afterwards-rest-in-loop.ensures refl;
      count = omega (arith, passed, within);
      holds = holds;
      ends = escape.ensures.ends ∙ c.loop.invariant.ends;
      gathered = run_copied there n escape.new.chunk run.new.chunk fs v stretch r escape.new.reader before run.ensures.kept run.ensures.bytes (omega (arith, passed, within)) (omega (arith, holds, most));
      stops = run_stops there n escape.new.chunk run.new.chunk fs v stretch (omega (arith, holds, room)) (λ less. longest (omega (arith, less, run.ensures.holds)));
    })
