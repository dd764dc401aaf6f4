use Rattle.std.proofs.lemmas.Grind.{common_steps}
use Rattle.std.proofs.Common.{◌≡◌, ◌+◌, ◌<◌, length, subst, sym, ap, ◌∙◌, arith}
use Rattle.std.proofs.lemmas.Bool.{false≢true}
use Rattle.nr_store.specs.Store.{Stored, reading_bytes}
use Rattle.nr_store.specs.Windows.{left_times}
use Rattle.nr_reading.specs.declared.event.Event.TheVariants as events
use Rattle.nr_input.specs.declared.reader.Reader.{Reader}
use Rattle.nr_input.specs.Limits.{limits_of}
use Rattle.nr_input.specs.Moving.{situation}
use Rattle.fast_input.specs.Runs.{HasRead, PaysMany}
use Rattle.fast_input.specs.Interpolations.{HasRoom}
use Rattle.fast_input.proofs.Interpolated.{entered_bytes, spliced_read, spliced_pays, whole_read, whole_pays}
use Rattle.fast_input.proofs.LevelParts.{many_of_all}
use Rattle.fast_input.proofs.LimitsStay.{left_times-limits}
use Rattle.nr_input.proofs.Taking.{pending_look}
use Rattle.fast_input.proofs.interpolations.splice_read.Goals.{in-Nothing, in_default}
use Rattle.fast_input.proofs.interpolations.splice_read.Goals as goal

pub returns-then-looks-clause-read : goal.returns-then-looks-clause-read
returns-then-looks-clause-read g c =
    let run = c.read_bytes-run.result in
    let v = c.args.store.now in
    let r = c.args.reader.now in
    let s = c.read_bytes-run.new.reader in
    let yes = c.if-not-may_splice.false in
    let may = c.may_splice.ensures in
    let room : HasRoom c.args.bytes.now v r = record { charge = let some = may.charge yes in omega (arith, some); depth = may.depth yes; burst = may.burst yes } in
    let reads = c.read_bytes-run.ensures.read in
    let pays = c.read_bytes-run.ensures.pays in
    let silent : run.event ≡ events.Nothing = elim c.match-matches.branch [ in-Nothing b ↦ b.in-Nothing.is | in_default b ↦ absurd (false≢true (sym b.matches-is ∙ c.if-matches.true)) ] in
    whole_read run.taken run.moves c.args.bytes.now v c.read_bytes-run.new.store r c.begin_splice.new.reader s run.event c.requires.pending_act room c.begin_splice.ensures reads pays silent c.if-run-bytes.true
    (pending_look s.half.reading.pending_act (sym c.looks.ensures ∙ c.if-looks.true))

pub returns-then-looks-clause-pays : goal.returns-then-looks-clause-pays
returns-then-looks-clause-pays g c = λ p.
    let run = c.read_bytes-run.result in
    let v = c.args.store.now in
    let r = c.args.reader.now in
    let w = c.read_bytes-run.new.store in
    let s = c.read_bytes-run.new.reader in
    let yes = c.if-not-may_splice.false in
    let may = c.may_splice.ensures in
    let room : HasRoom c.args.bytes.now v r = record { charge = let some = may.charge yes in omega (arith, some); depth = may.depth yes; burst = may.burst yes } in
    let reads = c.read_bytes-run.ensures.read in
    let pays = c.read_bytes-run.ensures.pays in
    let silent : run.event ≡ events.Nothing = elim c.match-matches.branch [ in-Nothing b ↦ b.in-Nothing.is | in_default b ↦ absurd (false≢true (sym b.matches-is ∙ c.if-matches.true)) ] in
    many_of_all (run.moves + 2) v w p p r s events.Nothing
    (whole_pays run.taken run.moves c.args.bytes.now v w r c.begin_splice.new.reader s run.event c.requires.pending_act room c.begin_splice.ensures reads pays silent c.if-run-bytes.true
    (pending_look s.half.reading.pending_act (sym c.looks.ensures ∙ c.if-looks.true)) p)

pub returns-clause-read : goal.returns-clause-read
returns-clause-read g c = λ k p supply holds.
    let run = c.read_bytes-run.result in
    let bytes = c.args.bytes.now in
    let v = c.args.store.now in
    let r = c.args.reader.now in
    let w = c.read_bytes-run.new.store in
    let s = c.read_bytes-run.new.reader in
    let yes = c.if-not-may_splice.false in
    let may = c.may_splice.ensures in
    let room : HasRoom bytes v r = record { charge = let some = may.charge yes in omega (arith, some); depth = may.depth yes; burst = may.burst yes } in
    let reads = c.read_bytes-run.ensures.read in
    let pays = c.read_bytes-run.ensures.pays in
    let depth : length w.levels < w.deepest = (let same = ap length c.read_bytes-run.ensures.levels in let deepest = c.read_bytes-run.ensures.deepest in let some = may.depth yes in omega (arith, same, deepest, some)) in
    let entered = entered_bytes bytes w c.enter_bytes.new.self c.enter_bytes.result c.read_bytes-run.ensures.room depth c.enter_bytes.ensures.answer c.enter_bytes.ensures.ok in
    subst (λ (x : Stored _). HasRead (run.moves + 1) (situation v k r) run.event x s p supply) (sym (c.skip.ensures ∙ ap (λ (x : Stored _). left_times run.taken x) entered))
    (spliced_read run.taken run.moves bytes v w r c.begin_splice.new.reader s run.event c.requires.pending_act room c.begin_splice.ensures reads pays k p supply holds)

pub returns-clause-pays : goal.returns-clause-pays
returns-clause-pays g c = λ p.
    let run = c.read_bytes-run.result in
    let bytes = c.args.bytes.now in
    let v = c.args.store.now in
    let r = c.args.reader.now in
    let w = c.read_bytes-run.new.store in
    let s = c.read_bytes-run.new.reader in
    let yes = c.if-not-may_splice.false in
    let may = c.may_splice.ensures in
    let room : HasRoom bytes v r = record { charge = let some = may.charge yes in omega (arith, some); depth = may.depth yes; burst = may.burst yes } in
    let reads = c.read_bytes-run.ensures.read in
    let pays = c.read_bytes-run.ensures.pays in
    let depth : length w.levels < w.deepest = (let same = ap length c.read_bytes-run.ensures.levels in let deepest = c.read_bytes-run.ensures.deepest in let some = may.depth yes in omega (arith, same, deepest, some)) in
    let entered = entered_bytes bytes w c.enter_bytes.new.self c.enter_bytes.result c.read_bytes-run.ensures.room depth c.enter_bytes.ensures.answer c.enter_bytes.ensures.ok in
    subst (λ (x : Stored _). PaysMany (run.moves + 1) v p r run.event x p s) (sym (c.skip.ensures ∙ ap (λ (x : Stored _). left_times run.taken x) entered))
    (many_of_all (run.moves + 1) v (left_times run.taken (reading_bytes bytes w)) p p r s run.event
    (spliced_pays run.taken run.moves bytes v w r c.begin_splice.new.reader s run.event c.requires.pending_act room c.begin_splice.ensures reads pays p))

pub returns-clause-limits : goal.returns-clause-limits
returns-clause-limits g c =
    let run = c.read_bytes-run.result in
    let bytes = c.args.bytes.now in
    let w = c.read_bytes-run.new.store in
    let s = c.read_bytes-run.new.reader in
    let yes = c.if-not-may_splice.false in
    let depth : length w.levels < w.deepest = (let same = ap length c.read_bytes-run.ensures.levels in let deepest = c.read_bytes-run.ensures.deepest in let some = c.may_splice.ensures.depth yes in omega (arith, same, deepest, some)) in
    let entered = entered_bytes bytes w c.enter_bytes.new.self c.enter_bytes.result c.read_bytes-run.ensures.room depth c.enter_bytes.ensures.answer c.enter_bytes.ensures.ok in
    ap (λ (x : Stored _). limits_of x s) (c.skip.ensures ∙ ap (λ (x : Stored _). left_times run.taken x) entered) ∙ left_times-limits run.taken (reading_bytes bytes w) s ∙ c.read_bytes-run.ensures.limits ∙ ap (λ (q : Reader). limits_of c.args.store.now q) c.begin_splice.ensures

pub skip-requires : goal.skip-requires
skip-requires g c = grind (arith, common_steps)
