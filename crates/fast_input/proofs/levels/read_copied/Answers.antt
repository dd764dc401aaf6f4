use Rattle.std.proofs.Common.{◌≡◌, ℕ, ◌+◌, subst, sym, ◌∙◌, arith}
use Rattle.nr_store.specs.Store.{Stored}
use Rattle.nr_reading.specs.declared.event.Event.{Event}
use Rattle.nr_reading.specs.declared.event.Event.TheVariants as events
use Rattle.nr_input.specs.Moving.{situation}
use Rattle.fast_input.specs.Runs.{HasRead, PaysMany}
use Rattle.fast_input.proofs.LevelParts.{read_on, many_then}
use Rattle.fast_input.proofs.levels.read_copied.Goals.{else-made_none-via-then-made_none+else-end_level, else-made_none-via-else-made_none}
use Rattle.fast_input.proofs.levels.read_copied.Goals as goal

pub returns-then-end_level-clause-read : goal.returns-then-end_level-clause-read
returns-then-end_level-clause-read g c = λ k p supply holds.
    let run = c.read_added-run.result in
    let v = c.args.store.now in
    let r = c.args.reader.now in
    let w = c.read_added-run.new.store in
    let s = c.read_added-run.new.reader in
    let none = c.made_none.ensures.moves c.if-made_none.true in
    let count : run.moves + 1 ≡ 1 = omega (arith, none) in
    let first = subst (λ (e : Event). HasRead run.moves (situation v k r) e w s p supply) (c.made_none.ensures.event c.if-made_none.true) (c.read_added-run.ensures.read k p supply holds) in
    subst (λ (n : ℕ). HasRead n (situation v k r) events.Nothing c.end_level.new.store s p supply) count
    (read_on run.moves 1 v w c.end_level.new.store r s s k p supply events.Nothing first
    (λ d there. c.end_level.ensures.read c.if-end_level.true d p s supply (c.made_none.ensures.pending_act c.if-made_none.true) there))

pub returns-then-end_level-clause-pays : goal.returns-then-end_level-clause-pays
returns-then-end_level-clause-pays g c = λ p.
    let run = c.read_added-run.result in
    let v = c.args.store.now in
    let r = c.args.reader.now in
    let w = c.read_added-run.new.store in
    let s = c.read_added-run.new.reader in
    let none = c.made_none.ensures.moves c.if-made_none.true in
    let count : run.moves + 1 ≡ 1 = omega (arith, none) in
    let first = subst (λ (e : Event). PaysMany run.moves v p r e w p s) (c.made_none.ensures.event c.if-made_none.true) (c.read_added-run.ensures.pays p) in
    subst (λ (n : ℕ). PaysMany n v p r events.Nothing c.end_level.new.store p s) count
    (many_then 1 run.moves v w c.end_level.new.store p p p r s s events.Nothing first (c.end_level.ensures.pays c.if-end_level.true p s (c.made_none.ensures.pending_act c.if-made_none.true)))

pub returns-then-end_level-clause-limits : goal.returns-then-end_level-clause-limits
returns-then-end_level-clause-limits g c = c.end_level.ensures.limits c.read_added-run.new.reader ∙ c.read_added-run.ensures.limits

pub returns-clause-pays : goal.returns-clause-pays
returns-clause-pays g c = λ p.
    let run = c.read_added-run.result in
    let v = c.args.store.now in
    let r = c.args.reader.now in
    let s = c.read_added-run.new.reader in
    elim c.else-made_none.branch [
      | else-made_none-via-then-made_none+else-end_level b ↦
          subst (λ (w : Stored _). PaysMany run.moves v p r run.event w p s) (sym (b.store-is ∙ b.end_level.ensures.left b.if-end_level.false)) (c.read_added-run.ensures.pays p)
      | else-made_none-via-else-made_none b ↦ subst (λ (w : Stored _). PaysMany run.moves v p r run.event w p s) (sym b.store-is) (c.read_added-run.ensures.pays p)
    ]
