use Rattle.std.proofs.Common.{◌++◌, ◌-◌, List, ℕ, drop, replicate, sym, ap, ◌∙◌, arith, rules}
use Rattle.std.proofs.lemmas.Grind.{common_steps}
use Rattle.std.proofs.lemmas.List.{take_all, length-drop, length-replicate}
use Rattle.nr_units.proofs.Letters.{letters_step, letters_none, letters_all, letters_left, letters_text}
use Rattle.nr_units.proofs.number_text.push_alphabetic.Goals as goal

pub loop-rest-init : goal.loop-rest-init
loop-rest-init c = (
  first_of (search rules, grind (arith, common_steps)),
  first_of (search rules, grind (arith, common_steps)),
  first_of (search rules, grind (arith, common_steps)),
  first_of (search rules, grind (arith, common_steps)),
  first_of (search rules, grind (arith, common_steps)),
  letters_none c.args.before c.args.n (replicate {A = ℕ} 14 0) (length-replicate {A = ℕ} 14 0),
)

pub loop-rest-preserved : goal.loop-rest-preserved
loop-rest-preserved c =
    let l = c.loop-rest in
    let i = l.invariant in (
      first_of (search rules, grind (arith, common_steps)),
      first_of (search rules, grind (arith, common_steps)),
      first_of (search rules, grind (arith, common_steps)),
      first_of (search rules, grind (arith, common_steps)),
      first_of (search rules, grind (arith, common_steps)),
      letters_step l.start c.args.before l.rest l.letters (letters_left l.start l.rest i.2 c.loop-rest-test.true) c.loop-rest-test.true (omega (arith, i.0, i.1)) ∙ i.5,
    )

pub returns-clause-computed : goal.returns-clause-computed
returns-clause-computed c =
    let l = c.loop-rest in
    let i = l.invariant in
    let row = drop l.start l.letters in
    c.push_all-2.ensures
    ∙ ap (λ (ys : List ℕ). c.args.text.now.items ++ ys) (take_all (14 - l.start) row (omega (arith, i.0, length-drop l.start l.letters)) ∙ sym (letters_all l.start c.args.before l.rest row c.loop-rest-test.false) ∙ i.5)
    ∙ ap (λ (ys : List ℕ). c.args.text.now.items ++ ys) (letters_text c.args.before c.args.n c.if-n-eq0.false)

pub returns-then-n-eq0-clause-short : goal.returns-then-n-eq0-clause-short
returns-then-n-eq0-clause-short c = grind (arith, common_steps)

pub returns-clause-appends : goal.returns-clause-appends
returns-clause-appends c = grind (arith, common_steps)

pub returns-clause-short : goal.returns-clause-short
returns-clause-short c = grind (arith, common_steps)
