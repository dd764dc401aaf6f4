use Rattle.std.proofs.lemmas.Grind.{common_steps}
use Rattle.std.proofs.Common.{◌≡◌, All, ◌+◌, ◌*◌, ◌≤◌, length, take, drop, ap, sym, ◌∙◌, subst, arith}
use Rattle.std.proofs.lemmas.Bool.{false≢true}
use Rattle.std.proofs.lemmas.List.{length-drop, length-take}
use Rattle.nr_store.specs.Store.{Stored, charge_of, reading_bytes}
use Rattle.nr_store.specs.Windows.{left_times}
use Rattle.nr_reading.specs.declared.event.Event.{Event}
use Rattle.nr_reading.specs.declared.event.Event.TheVariants as events
use Rattle.nr_reading.specs.Many.InArgument.{ending_of, IsPlain}
use Rattle.nr_reading.specs.Many.Runs.{spot}
use Rattle.fast_input.specs.Target.{with_more}
use Rattle.nr_input.specs.declared.reader.Reader.{Reader}
use Rattle.nr_input.specs.Moving.{situation}
use Rattle.fast_input.specs.Runs.{HasRead, PaysAll}
use Rattle.fast_input.proofs.BegunTargets.{begun_read, begun_pays, begun_room, more_read, more_pays, slice_after, in_level}
use Rattle.fast_input.proofs.ControlLines.{pays_then}
use Rattle.fast_input.proofs.Interpolated.{charge-more, taken_in_read, taken_in_pays, taken_in_within, read_then}
use Rattle.fast_input.proofs.Targets.{limit-with_more}
use Rattle.fast_input.proofs.beginnings.take_in_bytes.Goals.{in-Nothing, in_default, then-not-matches-via-then-not-matches, then-not-matches-via-else-not-matches+then-not-begin_target}
use Rattle.fast_input.proofs.beginnings.take_in_bytes.Goals as goal

pub returns-then-not-matches-clause-read : goal.returns-then-not-matches-clause-read
returns-then-not-matches-clause-read g c = λ k p supply holds.
    let run = c.take_in_run-run.result in
    let bytes = c.args.bytes.now in
    let v = c.args.store.now in
    let r = c.args.reader.now in
    let afterwards : Reader = record r { half = c.take_in_run-run.new.self } in
    let taken_in = taken_in_read run.moves bytes v r (spot run c.take_in_run-run.new.self) c.take_in_run-run.ensures.taken_in k p supply holds in
    elim c.then-not-matches.branch [
      | then-not-matches-via-then-not-matches b ↦
          subst (λ (w : Stored _). HasRead run.moves (situation (reading_bytes bytes v) k r) run.event (left_times run.taken (reading_bytes bytes w)) c.then-not-matches.reader p supply) (sym b.store-is)
          (subst (λ (s : Reader). HasRead run.moves (situation (reading_bytes bytes v) k r) run.event (left_times run.taken (reading_bytes bytes v)) s p supply) (sym b.reader-is) taken_in)
      | then-not-matches-via-else-not-matches+then-not-begin_target b ↦
          let no = b.if-not-begin_target.true in
          subst (λ (w : Stored _). HasRead run.moves (situation (reading_bytes bytes v) k r) run.event (left_times run.taken (reading_bytes bytes w)) c.then-not-matches.reader p supply) (sym (b.store-is ∙ b.begin_target.ensures.store no))
          (subst (λ (s : Reader). HasRead run.moves (situation (reading_bytes bytes v) k r) run.event (left_times run.taken (reading_bytes bytes v)) s p supply) (sym (b.reader-is ∙ b.begin_target.ensures.reader no)) taken_in)
    ]

pub returns-then-not-matches-clause-pays : goal.returns-then-not-matches-clause-pays
returns-then-not-matches-clause-pays g c = λ p.
    let run = c.take_in_run-run.result in
    let bytes = c.args.bytes.now in
    let v = c.args.store.now in
    let r = c.args.reader.now in
    let taken_in = taken_in_pays run.moves bytes v r (spot run c.take_in_run-run.new.self) c.take_in_run-run.ensures.taken_in p in
    elim c.then-not-matches.branch [
      | then-not-matches-via-then-not-matches b ↦
          subst (λ (w : Stored _). PaysAll run.moves (reading_bytes bytes v) p r run.event (left_times run.taken (reading_bytes bytes w)) p c.then-not-matches.reader) (sym b.store-is)
          (subst (λ (s : Reader). PaysAll run.moves (reading_bytes bytes v) p r run.event (left_times run.taken (reading_bytes bytes v)) p s) (sym b.reader-is) taken_in)
      | then-not-matches-via-else-not-matches+then-not-begin_target b ↦
          let no = b.if-not-begin_target.true in
          subst (λ (w : Stored _). PaysAll run.moves (reading_bytes bytes v) p r run.event (left_times run.taken (reading_bytes bytes w)) p c.then-not-matches.reader) (sym (b.store-is ∙ b.begin_target.ensures.store no))
          (subst (λ (s : Reader). PaysAll run.moves (reading_bytes bytes v) p r run.event (left_times run.taken (reading_bytes bytes v)) p s) (sym (b.reader-is ∙ b.begin_target.ensures.reader no)) taken_in)
    ]

pub returns-in_default-of-clause-read : goal.returns-in_default-of-clause-read
returns-in_default-of-clause-read g c = λ k p supply holds.
    let run = c.take_in_run-run.result in
    let bytes = c.args.bytes.now in
    let v = c.args.store.now in
    let r = c.args.reader.now in
    let afterwards : Reader = record r { half = c.take_in_run-run.new.self } in
    let w = c.begin_target.new.store in
    let s = c.begin_target.new.reader in
    let yes = c.if-not-begin_target.false in
    let begun = c.begin_target.ensures in
    let silent : run.event ≡ events.Nothing = elim c.match-matches.branch [ in-Nothing b ↦ b.in-Nothing.is | in_default b ↦ absurd (false≢true (sym b.matches-is ∙ c.if-not-matches.false)) ] in
    let within = taken_in_within run.moves bytes v r (spot run c.take_in_run-run.new.self) c.take_in_run-run.ensures.taken_in in
    let taken_in = taken_in_read run.moves bytes v r (spot run c.take_in_run-run.new.self) c.take_in_run-run.ensures.taken_in k p supply holds in
    read_then 1 run.moves (situation (reading_bytes bytes v) k r) events.Nothing (in_level run.taken bytes v) (in_level run.taken bytes w) afterwards s p p supply supply
    (subst (λ (e : Event). HasRead run.moves (situation (reading_bytes bytes v) k r) e (in_level run.taken bytes v) afterwards p supply) silent taken_in)
    (λ d there. begun_read bytes v w afterwards s (begun.begins yes) (begun.empty yes) (begun.done yes) (begun.room yes) run.taken within d p supply there)

pub returns-in_default-of-clause-pays : goal.returns-in_default-of-clause-pays
returns-in_default-of-clause-pays g c = λ p.
    let run = c.take_in_run-run.result in
    let bytes = c.args.bytes.now in
    let v = c.args.store.now in
    let r = c.args.reader.now in
    let afterwards : Reader = record r { half = c.take_in_run-run.new.self } in
    let w = c.begin_target.new.store in
    let s = c.begin_target.new.reader in
    let yes = c.if-not-begin_target.false in
    let begun = c.begin_target.ensures in
    let silent : run.event ≡ events.Nothing = elim c.match-matches.branch [ in-Nothing b ↦ b.in-Nothing.is | in_default b ↦ absurd (false≢true (sym b.matches-is ∙ c.if-not-matches.false)) ] in
    let within = taken_in_within run.moves bytes v r (spot run c.take_in_run-run.new.self) c.take_in_run-run.ensures.taken_in in
    let taken_in = taken_in_pays run.moves bytes v r (spot run c.take_in_run-run.new.self) c.take_in_run-run.ensures.taken_in p in
    let count : 1 + run.moves ≡ run.moves + 1 = omega arith in
    subst (λ n. PaysAll n (reading_bytes bytes v) p r events.Nothing (in_level run.taken bytes w) p s) count
    (pays_then 1 run.moves (reading_bytes bytes v) (in_level run.taken bytes v) (in_level run.taken bytes w) p p p r afterwards s events.Nothing
    (subst (λ (e : Event). PaysAll run.moves (reading_bytes bytes v) p r e (in_level run.taken bytes v) p afterwards) silent taken_in)
    (begun_pays bytes v w afterwards s (begun.begins yes) (begun.empty yes) (begun.done yes) (begun.room yes) run.taken within p))

pub returns-clause-read : goal.returns-clause-read
returns-clause-read g c = λ k p supply holds.
    let run = c.take_in_run-run.result in
    let bytes = c.args.bytes.now in
    let v = c.args.store.now in
    let r = c.args.reader.now in
    let afterwards : Reader = record r { half = c.take_in_run-run.new.self } in
    let w = c.begin_target.new.store in
    let s = c.begin_target.new.reader in
    let n = c.add_prefix-added.result in
    let x = c.add_prefix-added.new.store in
    let yes = c.if-not-begin_target.false in
    let begun = c.begin_target.ensures in
    let silent : run.event ≡ events.Nothing = elim c.match-matches.branch [ in-Nothing b ↦ b.in-Nothing.is | in_default b ↦ absurd (false≢true (sym b.matches-is ∙ c.if-not-matches.false)) ] in
    let within = taken_in_within run.moves bytes v r (spot run c.take_in_run-run.new.self) c.take_in_run-run.ensures.taken_in in
    let taken_in = taken_in_read run.moves bytes v r (spot run c.take_in_run-run.new.self) c.take_in_run-run.ensures.taken_in k p supply holds in
    let room = begun_room bytes v w afterwards s (begun.begins yes) (begun.empty yes) (begun.done yes) (begun.room yes) in
    let slice = slice_after run.taken bytes in
    let prefix = subst (λ ys. n ≤ length ys) slice c.add_prefix-added.ensures.prefix in
    let added = subst (λ ys. x ≡ with_more c.in-Some.target (take n ys) w) slice c.add_prefix-added.ensures.added in
    let plain = subst (λ ys. All (IsPlain (ending_of s.half.reading.mode)) (take n ys)) slice c.add_prefix-added.ensures.plain in
    let first =
    read_then 1 run.moves (situation (reading_bytes bytes v) k r) events.Nothing (in_level run.taken bytes v) (in_level run.taken bytes w) afterwards s p p supply supply
    (subst (λ (e : Event). HasRead run.moves (situation (reading_bytes bytes v) k r) e (in_level run.taken bytes v) afterwards p supply) silent taken_in)
    (λ d there. begun_read bytes v w afterwards s (begun.begins yes) (begun.empty yes) (begun.done yes) (begun.room yes) run.taken within d p supply there) in
    read_then (2 * n) (run.moves + 1) (situation (reading_bytes bytes v) k r) events.Nothing (in_level run.taken bytes w) (in_level (run.taken + n) bytes x) s s p p supply supply first
    (λ d there. more_read c.in-Some.target run.taken n bytes w x s within prefix added c.in-Some.ensures.reads plain room d p supply there)

pub returns-clause-pays : goal.returns-clause-pays
returns-clause-pays g c = λ p.
    let run = c.take_in_run-run.result in
    let bytes = c.args.bytes.now in
    let v = c.args.store.now in
    let r = c.args.reader.now in
    let afterwards : Reader = record r { half = c.take_in_run-run.new.self } in
    let w = c.begin_target.new.store in
    let s = c.begin_target.new.reader in
    let n = c.add_prefix-added.result in
    let x = c.add_prefix-added.new.store in
    let yes = c.if-not-begin_target.false in
    let begun = c.begin_target.ensures in
    let silent : run.event ≡ events.Nothing = elim c.match-matches.branch [ in-Nothing b ↦ b.in-Nothing.is | in_default b ↦ absurd (false≢true (sym b.matches-is ∙ c.if-not-matches.false)) ] in
    let within = taken_in_within run.moves bytes v r (spot run c.take_in_run-run.new.self) c.take_in_run-run.ensures.taken_in in
    let taken_in = taken_in_pays run.moves bytes v r (spot run c.take_in_run-run.new.self) c.take_in_run-run.ensures.taken_in p in
    let first =
    pays_then 1 run.moves (reading_bytes bytes v) (in_level run.taken bytes v) (in_level run.taken bytes w) p p p r afterwards s events.Nothing
    (subst (λ (e : Event). PaysAll run.moves (reading_bytes bytes v) p r e (in_level run.taken bytes v) p afterwards) silent taken_in)
    (begun_pays bytes v w afterwards s (begun.begins yes) (begun.empty yes) (begun.done yes) (begun.room yes) run.taken within p) in
    let slice = slice_after run.taken bytes in
    let prefix = subst (λ ys. n ≤ length ys) slice c.add_prefix-added.ensures.prefix in
    let added = subst (λ ys. x ≡ with_more c.in-Some.target (take n ys) w) slice c.add_prefix-added.ensures.added in
    let count : 2 * n + (1 + run.moves) ≡ run.moves + 1 + 2 * n = omega arith in
    subst (λ m. PaysAll m (reading_bytes bytes v) p r events.Nothing (in_level (run.taken + n) bytes x) p s) count
    (pays_then (2 * n) (1 + run.moves) (reading_bytes bytes v) (in_level run.taken bytes w) (in_level (run.taken + n) bytes x) p p p r s s events.Nothing first
    (more_pays c.in-Some.target run.taken n bytes w x s within prefix added p))

pub returns-clause-room : goal.returns-clause-room
returns-clause-room g c =
    let run = c.take_in_run-run.result in
    let bytes = c.args.bytes.now in
    let v = c.args.store.now in
    let r = c.args.reader.now in
    let afterwards : Reader = record r { half = c.take_in_run-run.new.self } in
    let w = c.begin_target.new.store in
    let n = c.add_prefix-added.result in
    let yes = c.if-not-begin_target.false in
    let begun = c.begin_target.ensures in
    let room = begun_room bytes v w afterwards c.begin_target.new.reader (begun.begins yes) (begun.empty yes) (begun.done yes) (begun.room yes) in
    let x = c.add_prefix-added.new.store in
    let slice = slice_after run.taken bytes in
    let prefix = subst (λ ys. n ≤ length ys) slice c.add_prefix-added.ensures.prefix in
    let added = subst (λ ys. x ≡ with_more c.in-Some.target (take n ys) w) slice c.add_prefix-added.ensures.added in
    let is = ap (λ (y : Stored _). charge_of y) added in
    let limit = ap (λ (y : Stored _). y.limit) added ∙ limit-with_more c.in-Some.target (take n (drop run.taken bytes)) w in
    omega (arith, room, is, limit, charge-more c.in-Some.target (take n (drop run.taken bytes)) w, length-take n (drop run.taken bytes), length-drop run.taken bytes)

pub returns-then-not-matches-clause-within : goal.returns-then-not-matches-clause-within
returns-then-not-matches-clause-within g c = grind (arith, common_steps)

pub returns-in_default-of-clause-within : goal.returns-in_default-of-clause-within
returns-in_default-of-clause-within g c = grind (arith, common_steps)

pub returns-in_default-of-clause-room : goal.returns-in_default-of-clause-room
returns-in_default-of-clause-room g c = grind (arith, common_steps)

pub slice_bounds-add_prefix-count : goal.slice_bounds-add_prefix-count
slice_bounds-add_prefix-count g c = grind (arith, common_steps)

pub slice_bounds-add_prefix-start : goal.slice_bounds-add_prefix-start
slice_bounds-add_prefix-start g c = grind (arith, common_steps)

pub returns-clause-within : goal.returns-clause-within
returns-clause-within g c = grind (arith, common_steps)

pub returns-clause-levels : goal.returns-clause-levels
returns-clause-levels g c = grind (arith, common_steps)

pub returns-clause-deepest : goal.returns-clause-deepest
returns-clause-deepest g c = grind (arith, common_steps)

pub returns-clause-limits : goal.returns-clause-limits
returns-clause-limits g c = grind (arith, common_steps)
