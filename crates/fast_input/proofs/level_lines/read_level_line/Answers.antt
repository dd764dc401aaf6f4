use Rattle.std.proofs.Common.{◌≡◌, ℕ, ◌+◌, refl, sym, ◌∙◌, subst, arith}
use Rattle.std.proofs.lemmas.Bool.{false≢true}
use Rattle.nr_reading.specs.declared.event.Event.{Event}
use Rattle.nr_reading.specs.declared.event.Event.TheVariants as events
use Rattle.nr_input.specs.Moving.{situation}
use Rattle.fast_input.specs.Runs.{HasRead, PaysAll}
use Rattle.fast_input.proofs.ControlLines.{done_read, pays_then, seeks, waits, seek_pays}
use Rattle.fast_input.proofs.LevelLines.{then_reads}
use Rattle.fast_input.proofs.level_lines.read_level_line.Goals.{in-Nothing, in_default-matches}
use Rattle.fast_input.proofs.level_lines.read_level_line.Goals as goal

pub returns-in_default-clause-read : goal.returns-in_default-clause-read
returns-in_default-clause-read g c = λ k p supply holds.
    rw (sym (c.in_default.ensures.store refl), sym (c.in_default.ensures.reader refl)) (c.read_level.ensures.read k p supply holds)

pub returns-in_default-clause-pays : goal.returns-in_default-clause-pays
returns-in_default-clause-pays g c = λ p.
    rw (sym (c.in_default.ensures.store refl), sym (c.in_default.ensures.reader refl)) (c.read_level.ensures.pays p)

pub returns-in_default-clause-longest : goal.returns-in_default-clause-longest
returns-in_default-clause-longest g c =
    rw (sym (c.in_default.ensures.store refl), sym (c.in_default.ensures.reader refl)) c.read_level.ensures.longest

pub returns-then-not-matches-clause-read : goal.returns-then-not-matches-clause-read
returns-then-not-matches-clause-read g c = λ k p supply holds.
    let v = c.args.store.now in
    let r = c.args.reader.now in
    let w = c.read_name.new.store in
    let s = c.read_name.new.reader in
    let x = c.seek-emitted.new.store in
    let t = c.seek-emitted.new.self in
    let e = c.seek-emitted.result in
    let name = c.in-Some.name in
    let pending_act = c.in-Some.ensures.pending_act in
    let count : 1 + name.moves ≡ name.moves + 1 = omega arith in
    subst (λ (n : ℕ). HasRead n (situation v k r) e x t p supply) count
    (then_reads 1 name.moves (situation v k r) e w x s t p p supply supply (c.in-Some.ensures.read k p supply holds)
    (λ d there. done_read w x d s t e (waits w x s t e pending_act c.seek-emitted.ensures) (seeks w x s t e pending_act c.seek-emitted.ensures) p supply there))

pub returns-then-not-matches-clause-pays : goal.returns-then-not-matches-clause-pays
returns-then-not-matches-clause-pays g c = λ p.
    let v = c.args.store.now in
    let r = c.args.reader.now in
    let w = c.read_name.new.store in
    let s = c.read_name.new.reader in
    let x = c.seek-emitted.new.store in
    let t = c.seek-emitted.new.self in
    let e = c.seek-emitted.result in
    let name = c.in-Some.name in
    let count : 1 + name.moves ≡ name.moves + 1 = omega arith in
    subst (λ (n : ℕ). PaysAll n v p r e x p t) count
    (pays_then 1 name.moves v w x p p p r s t e (c.in-Some.ensures.pays p) (seek_pays w x s t e c.in-Some.ensures.pending_act c.seek-emitted.ensures p))

pub returns-clause-read : goal.returns-clause-read
returns-clause-read g c = λ k p supply holds.
    let v = c.args.store.now in
    let r = c.args.reader.now in
    let w = c.read_name.new.store in
    let s = c.read_name.new.reader in
    let x = c.seek-emitted.new.store in
    let t = c.seek-emitted.new.self in
    let run = c.read_level-run.result in
    let name = c.in-Some.name in
    let pending_act = c.in-Some.ensures.pending_act in
    let silent : c.seek-emitted.result ≡ events.Nothing = elim c.match-matches.branch [ in-Nothing b ↦ b.in-Nothing.is | in_default-matches b ↦ absurd (false≢true (sym b.matches-is ∙ c.if-not-matches.false)) ] in
    let sought = then_reads 1 name.moves (situation v k r) c.seek-emitted.result w x s t p p supply supply (c.in-Some.ensures.read k p supply holds)
    (λ d there. done_read w x d s t c.seek-emitted.result (waits w x s t c.seek-emitted.result pending_act c.seek-emitted.ensures) (seeks w x s t c.seek-emitted.result pending_act c.seek-emitted.ensures) p supply there) in
    let first : HasRead (1 + name.moves) (situation v k r) events.Nothing x t p supply = subst (λ (e : Event). HasRead (1 + name.moves) (situation v k r) e x t p supply) silent sought in
    let count : run.moves + (1 + name.moves) ≡ name.moves + 1 + run.moves = omega arith in
    subst (λ (n : ℕ). HasRead n (situation v k r) run.event c.read_level-run.new.store c.read_level-run.new.reader p supply) count
    (then_reads run.moves (1 + name.moves) (situation v k r) run.event x c.read_level-run.new.store t c.read_level-run.new.reader p p supply supply first (λ d there. c.read_level-run.ensures.read d p supply there))

pub returns-clause-pays : goal.returns-clause-pays
returns-clause-pays g c = λ p.
    let v = c.args.store.now in
    let r = c.args.reader.now in
    let w = c.read_name.new.store in
    let s = c.read_name.new.reader in
    let x = c.seek-emitted.new.store in
    let t = c.seek-emitted.new.self in
    let run = c.read_level-run.result in
    let name = c.in-Some.name in
    let silent : c.seek-emitted.result ≡ events.Nothing = elim c.match-matches.branch [ in-Nothing b ↦ b.in-Nothing.is | in_default-matches b ↦ absurd (false≢true (sym b.matches-is ∙ c.if-not-matches.false)) ] in
    let sought = pays_then 1 name.moves v w x p p p r s t c.seek-emitted.result (c.in-Some.ensures.pays p) (seek_pays w x s t c.seek-emitted.result c.in-Some.ensures.pending_act c.seek-emitted.ensures p) in
    let first : PaysAll (1 + name.moves) v p r events.Nothing x p t = subst (λ (e : Event). PaysAll (1 + name.moves) v p r e x p t) silent sought in
    let count : run.moves + (1 + name.moves) ≡ name.moves + 1 + run.moves = omega arith in
    subst (λ (n : ℕ). PaysAll n v p r run.event c.read_level-run.new.store p c.read_level-run.new.reader) count
    (pays_then run.moves (1 + name.moves) v x c.read_level-run.new.store p p p r t c.read_level-run.new.reader run.event first (c.read_level-run.ensures.pays p))

pub returns-clause-longest : goal.returns-clause-longest
returns-clause-longest g c = record {
  some = λ b is pending_act. omega arith;
  all = λ few. c.read_level-run.ensures.longest.all (omega (arith, few));
}
