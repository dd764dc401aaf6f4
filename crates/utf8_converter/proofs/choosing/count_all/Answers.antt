use Rattle.std.proofs.Common.{◌+◌, List, ℕ, sym, subst, arith}
use Rattle.utf8_converter.specs.Choosing.{Counts}
use Rattle.utf8_converter.proofs.Choices.{Counts-beyond, Counts-set, occurrences-le}
use Rattle.utf8_converter.proofs.choosing.count_all.Goals.{then-character-counts, else-character-counts}
use Rattle.utf8_converter.proofs.choosing.count_all.Goals as goal

pub overflow_add-counts : goal.overflow_add-counts
overflow_add-counts c =
    let few = occurrences-le c.args.page.now c.loop-place.place c.character_at-character.result in
    let is = c.loop-place.invariant c.character_at-character.result c.if-character-counts.true in
    let more = c.loop-place-test.true in
    let all = c.requires in
    omega (arith, few, is, more, all)

pub loop-place-preserved : goal.loop-place-preserved
loop-place-preserved c =
    let page = c.args.page.now in
    let P : List ℕ → Type 0 = λ counts. Counts page (c.loop-place.place + 1) counts in
    elim c.if-character-counts.branch [
      | then-character-counts w ↦
          subst P (sym w.counts-is)
          (Counts-set page c.loop-place.place c.loop-place.counts c.character_at-character.result c.loop-place.invariant c.character_at-character.ensures w.if-character-counts.true)
      | else-character-counts w ↦
          subst P (sym w.counts-is)
          (Counts-beyond page c.loop-place.place c.loop-place.counts c.loop-place.invariant (rw c.character_at-character.ensures at w.if-character-counts.false))
    ]
