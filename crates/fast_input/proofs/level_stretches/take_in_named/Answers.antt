use Rattle.std.proofs.lemmas.Grind.{common_steps}
use Rattle.std.proofs.Common.{◌≡◌, ◌+◌, false, drop, subst, sym, ◌∙◌, arith}
use Rattle.std.proofs.lemmas.Bool.{false≢true}
use Rattle.nr_store.specs.Windows.{left_times}
use Rattle.nr_reading.specs.declared.event.Event.TheVariants as events
use Rattle.nr_reading.specs.Many.Runs.{HasTakenIn, spot}
use Rattle.fast_input.specs.LevelStretches.{begun_by, is_text}
use Rattle.nr_input.specs.Moving.{situation}
use Rattle.fast_input.specs.Runs.{HasRead}
use Rattle.fast_input.proofs.LevelStretches.{name_read, named_read, named_pays}
use Rattle.fast_input.proofs.StretchesRead.{taken-le}
use Rattle.fast_input.proofs.level_stretches.take_in_named.Goals.{in-Nothing, in_default}
use Rattle.fast_input.proofs.level_stretches.take_in_named.Goals as goal

pub returns-then-calls-clause-read : goal.returns-then-calls-clause-read
returns-then-calls-clause-read g c = λ k p supply holds.
    let v = c.args.store.now in
    let t = c.args.from in
    let s = c.take_meaning-emitted.new.self in
    let e = c.take_meaning-emitted.result in
    let same : t ≡ t + 0 = omega arith in
    subst (λ n. HasRead 1 (situation (left_times t v) k c.args.reader.now) e (begun_by c.is_text-calls.result (left_times n v)) s p supply) same
    (subst (λ b. HasRead 1 (situation (left_times t v) k c.args.reader.now) e (begun_by b (left_times t v)) s p supply) (sym c.is_text-calls.ensures)
    (name_read t v c.meaning-meaning.result c.args.reader.now s e c.requires.within c.requires.pending_act c.meaning-meaning.ensures c.take_meaning-emitted.ensures.reader c.take_meaning-emitted.ensures.emitted k p supply holds))

pub returns-clause-read : goal.returns-clause-read
returns-clause-read g c = λ k p supply holds.
    let v = c.args.store.now in
    let t = c.args.from in
    let m = c.meaning-meaning.result in
    let s = c.take_meaning-emitted.new.self in
    let e = c.take_meaning-emitted.result in
    let more = c.take_in_run-more.result in
    let q = spot more c.take_in_run-more.new.self in
    let silent : e ≡ events.Nothing = elim c.match-matches.branch [ in-Nothing b ↦ b.in-Nothing.is | in_default b ↦ absurd (false≢true (sym b.matches-is ∙ c.if-not-matches.false)) ] in
    let other : is_text m ≡ false = sym c.is_text-calls.ensures ∙ c.if-calls.false in
    let taken_in : HasTakenIn more.moves (drop t (g.I.Items.next_items c.args.stretch)) s.half q = subst (λ fs. HasTakenIn more.moves fs s.half q) c.afterwards.ensures c.take_in_run-more.ensures.taken_in in
    named_read t v m c.args.reader.now s e c.requires.within c.requires.pending_act c.meaning-meaning.ensures c.take_meaning-emitted.ensures.reader c.take_meaning-emitted.ensures.emitted more.moves (g.I.Items.next_items c.args.stretch) q
    c.requires.stretch taken_in silent other k p supply holds

pub returns-clause-pays : goal.returns-clause-pays
returns-clause-pays g c = λ p.
    let v = c.args.store.now in
    let t = c.args.from in
    let m = c.meaning-meaning.result in
    let s = c.take_meaning-emitted.new.self in
    let e = c.take_meaning-emitted.result in
    let more = c.take_in_run-more.result in
    let q = spot more c.take_in_run-more.new.self in
    let silent : e ≡ events.Nothing = elim c.match-matches.branch [ in-Nothing b ↦ b.in-Nothing.is | in_default b ↦ absurd (false≢true (sym b.matches-is ∙ c.if-not-matches.false)) ] in
    let other : is_text m ≡ false = sym c.is_text-calls.ensures ∙ c.if-calls.false in
    let taken_in : HasTakenIn more.moves (drop t (g.I.Items.next_items c.args.stretch)) s.half q = subst (λ fs. HasTakenIn more.moves fs s.half q) c.afterwards.ensures c.take_in_run-more.ensures.taken_in in
    named_pays t v m c.args.reader.now s e c.requires.within c.requires.pending_act c.meaning-meaning.ensures c.take_meaning-emitted.ensures.reader c.take_meaning-emitted.ensures.emitted more.moves (g.I.Items.next_items c.args.stretch) q
    c.requires.stretch taken_in silent other p

pub returns-clause-short : goal.returns-clause-short
returns-clause-short g c =
    let more = c.take_in_run-more.result in
    omega (arith, taken-le more.moves _ c.take_meaning-emitted.new.self.half (spot more c.take_in_run-more.new.self) c.take_in_run-more.ensures.taken_in)

pub afterwards-requires : goal.afterwards-requires
afterwards-requires g c = grind (arith, common_steps)

pub returns-clause-within : goal.returns-clause-within
returns-clause-within g c = grind (arith, common_steps)
