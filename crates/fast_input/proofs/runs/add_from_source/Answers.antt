use Rattle.std.proofs.Common.{◌-◌, ◌<◌, length, take, arith, subst, ap, ◌∙◌}
use Rattle.std.specs.Prelude.{slice_index}
use Rattle.nr_store.specs.Store.{Stored}
use Rattle.nr_input.specs.Moving.{situation}
use Rattle.fast_input.specs.Runs.{HasRead, PaysAll}
use Rattle.nr_input.specs.Limits.{limits_of}
use Rattle.fast_input.proofs.LimitsStay.{with_more-limits}
use Rattle.fast_input.proofs.Longest.{added_longest}
use Rattle.fast_input.proofs.StretchesRead.{holds_past}
use Rattle.fast_input.proofs.PuttingRead.{source_added, source_added_pays}
use Rattle.fast_input.proofs.Targets.{nothing_added}
use Rattle.fast_input.proofs.runs.add_from_source.Goals as goal

pub returns-then-taken-eq0-clause-read : goal.returns-then-taken-eq0-clause-read
returns-then-taken-eq0-clause-read g c = λ k holds.
    let run = c.read_source.result in
    let same = nothing_added c.args.target c.add_prefix-taken.result c.window-bytes.result.now c.args.store.now c.add_prefix-taken.new.store c.if-taken-eq0.true c.add_prefix-taken.ensures.added in
    subst (λ (v : Stored _). HasRead run.moves (situation v k c.args.reader.now) run.event c.add_prefix-taken.new.store c.read_source.new.reader c.read_source.new.place (g.R.Source.supply c.read_source.new.source))
    same (c.read_source.ensures.read k holds)

pub returns-then-taken-eq0-clause-pays : goal.returns-then-taken-eq0-clause-pays
returns-then-taken-eq0-clause-pays g c =
    let run = c.read_source.result in
    let same = nothing_added c.args.target c.add_prefix-taken.result c.window-bytes.result.now c.args.store.now c.add_prefix-taken.new.store c.if-taken-eq0.true c.add_prefix-taken.ensures.added in
    subst (λ (v : Stored _). PaysAll run.moves v c.args.place.now c.args.reader.now run.event c.add_prefix-taken.new.store c.read_source.new.place c.read_source.new.reader) same c.read_source.ensures.pays

pub returns-clause-read : goal.returns-clause-read
returns-clause-read g c = λ k holds.
    let bs = c.window-bytes.result.now in
    let taken = c.add_prefix-taken.result in
    let add = c.add_prefix-taken.ensures in
    let many : 0 < taken = omega (arith, c.if-taken-eq0.false) in
    let some : 0 < length bs = omega (arith, many, add.prefix) in
    let next = c.window-bytes.ensures.next some k holds in
    let there = holds_past taken bs k c.args.place.now c.pass_run.new.self _ _ many add.prefix (c.window-bytes.ensures.unseen some) next holds c.skip.ensures.skips c.pass_run.ensures in
    source_added c.args.target taken c.args.store.now c.add_prefix-taken.new.store k c.args.reader.now bs (c.window-bytes.ensures.levels some) next c.requires add.prefix add.plain add.added add.afforded c.pass_run.new.self _ many there

pub returns-clause-pays : goal.returns-clause-pays
returns-clause-pays g c =
    let bs = c.window-bytes.result.now in
    let taken = c.add_prefix-taken.result in
    source_added_pays c.args.target taken (slice_index bs (taken - 1)) (take taken bs) c.args.store.now c.add_prefix-taken.new.store c.args.place.now c.pass_run.new.self c.args.reader.now (omega (arith, c.if-taken-eq0.false))
    c.add_prefix-taken.ensures.added c.pass_run.ensures

pub returns-then-taken-eq0-clause-longest : goal.returns-then-taken-eq0-clause-longest
returns-then-taken-eq0-clause-longest g c = λ none unseen.
    let same = nothing_added c.args.target c.add_prefix-taken.result c.window-bytes.result.now c.args.store.now c.add_prefix-taken.new.store c.if-taken-eq0.true c.add_prefix-taken.ensures.added in
    c.read_source.ensures.longest (ap (λ (v : Stored _). v.levels) same ∙ none) unseen

pub returns-clause-longest : goal.returns-clause-longest
returns-clause-longest g c = λ none unseen.
    let r = c.args.reader.now in
    added_longest c.args.target (g.R.Source.at_hand c.args.source.now) c.window-bytes.result.now c.add_prefix-taken.result c.args.place.now c.pass_run.new.self r (record r { burst = 0 }) c.add_prefix-taken.new.store
    (c.window-bytes.ensures.all unseen none) c.requires (omega (arith, c.if-taken-eq0.false)) c.add_prefix-taken.ensures.longest (ap (λ q. q.taken) c.pass_run.ensures)

pub returns-then-taken-eq0-clause-limits : goal.returns-then-taken-eq0-clause-limits
returns-then-taken-eq0-clause-limits g c =
    let v = c.args.store.now in
    let r = c.args.reader.now in
    c.read_source.ensures.limits ∙ (ap (λ (w : Stored _). limits_of w r) c.add_prefix-taken.ensures.added ∙ with_more-limits c.args.target (take c.add_prefix-taken.result c.window-bytes.result.now) v r)

pub returns-clause-limits : goal.returns-clause-limits
returns-clause-limits g c =
    let v = c.args.store.now in
    let r = c.args.reader.now in
    ap (λ (w : Stored _). limits_of w r) c.add_prefix-taken.ensures.added ∙ with_more-limits c.args.target (take c.add_prefix-taken.result c.window-bytes.result.now) v r
