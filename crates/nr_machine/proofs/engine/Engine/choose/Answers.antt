use Rattle.std.proofs.Common.{◌≡◌, ℤ, pos, Ok, Err, rules, refl, sym, ap, ◌∙◌, subst, arith, get_or, FitsSigned, w64, to_z, of_z}
use Rattle.std.proofs.lemmas.Int.{to_z-of_z}
use Rattle.nr_machine.specs.State.{First, Register}
use Rattle.nr_machine.specs.Run.{is_read_fault, is_write_fault}
use Rattle.nr_machine.specs.Holding.{Made, shape}
use Rattle.nr_machine.specs.Machine.{first_set}
use Rattle.nr_machine.specs.Choosing.{Chooses}
use Rattle.nr_machine.proofs.Choices.{choice_stays, stays-trans, first_chooses, choice_made, registers_of, register_made, register_halts, register_stays, all_made}
use Rattle.nr_machine.specs.Limits.{limits_of}
use Rattle.nr_machine.proofs.LimitsStay.{first_set-limits, formatter-limits}
use Rattle.nr_machine.proofs.engine.Engine.choose.Goals as goal

pub loop-choice-init : goal.loop-choice-init
loop-choice-init c =
    let items = c.as_slice-choice-items.ensures.value in
    let e = shape c.args.self.now in
    let f = shape c.set_first.new.self in
    let n = c.args.options.now.first in
    let fits : FitsSigned w64 n = search rules in
    let given : f ≡ record e { formatter = first_set (to_z w64 (of_z w64 n)) e.formatter } = c.set_first.ensures in
    let first : f ≡ record e { formatter = first_set n e.formatter } = subst (λ (k : ℤ). f ≡ record e { formatter = first_set k e.formatter }) (to_z-of_z w64 n fits) given in
    record {
      items = items;
      moves = refl;
      stays = choice_stays (First c.args.options.now.first) e f first;
      limits = ap limits_of first ∙ formatter-limits e (first_set n e.formatter) (first_set-limits n e.formatter);
      made = λ supply held s h. subst (λ xs. Made (registers_of xs) s 1 (shape c.set_first.new.self) supply held held) (sym items)
          (choice_made (First c.args.options.now.first) (registers_of c.args.options.now.registers.items) supply held s (shape c.args.self.now) h (shape c.set_first.new.self)
          (first_chooses n e f first));
    }

pub loop-choice-preserved : goal.loop-choice-preserved
loop-choice-preserved c =
    let now = c.loop-choice.invariant in
    let r = get_or c.as_slice-choice-items.result.now c.loop-choice.choice-index (0, pos 0) in
    let fits : FitsSigned w64 r.1 = search rules in
    let given : Chooses (Register r.0 (to_z w64 (of_z w64 r.1))) (shape c.loop-choice.self) (shape c.set_register.new.self) (Ok tt) = c.in-Ok.ensures.chooses in
    let does : Chooses (Register r.0 r.1) (shape c.loop-choice.self) (shape c.set_register.new.self) (Ok tt) =
    subst (λ (k : ℤ). Chooses (Register r.0 k) (shape c.loop-choice.self) (shape c.set_register.new.self) (Ok tt)) (to_z-of_z w64 r.1 fits) given in
    record {
      items = now.items;
      moves = omega (arith, now.moves);
      stays = stays-trans (shape c.args.self.now) (shape c.loop-choice.self) (shape c.set_register.new.self) now.stays (register_stays r.0 r.1 (shape c.loop-choice.self) (shape c.set_register.new.self) does);
      limits = c.set_register.ensures.limits ∙ now.limits;
      made = λ supply held s h. register_made c.as_slice-choice-items.result.now c.loop-choice.choice-index c.loop-choice.moves (0, pos 0) supply held s (shape c.loop-choice.self) c.loop-choice-test.true (now.made supply held s h) (shape c.set_register.new.self) does;
    }

pub returns-in-Err-clause-chooses : goal.returns-in-Err-clause-chooses
returns-in-Err-clause-chooses c =
    let r = get_or c.as_slice-choice-items.result.now c.loop-choice.choice-index (0, pos 0) in
    let fits : FitsSigned w64 r.1 = search rules in
    let given : Chooses (Register r.0 (to_z w64 (of_z w64 r.1))) (shape c.loop-choice.self) (shape c.set_register.new.self) (Err c.in-Err.outcome) = c.in-Err.ensures.chooses in
    let does : Chooses (Register r.0 r.1) (shape c.loop-choice.self) (shape c.set_register.new.self) (Err c.in-Err.outcome) =
    subst (λ (k : ℤ). Chooses (Register r.0 k) (shape c.loop-choice.self) (shape c.set_register.new.self) (Err c.in-Err.outcome)) (to_z-of_z w64 r.1 fits) given in
    record {
      chooses = λ supply held s h. register_halts c.as_slice-choice-items.result.now c.loop-choice.choice-index c.loop-choice.moves (0, pos 0) supply held s (shape c.loop-choice.self) c.loop-choice-test.true (c.loop-choice.invariant.made supply held s h) (shape c.set_register.new.self) c.in-Err.outcome does;
      stays = tt;
      reads = ap is_read_fault c.in-Err.ensures.chooses.0;
      writes = ap is_write_fault c.in-Err.ensures.chooses.0;
    }

pub returns-clause-chooses : goal.returns-clause-chooses
returns-clause-chooses c = record {
  chooses = λ supply held s h. all_made c.as_slice-choice-items.result.now c.loop-choice.choice-index c.loop-choice.moves supply held s (shape c.loop-choice.self) (omega (arith, c.loop-choice-test.false)) (c.loop-choice.invariant.made supply held s h);
  stays = c.loop-choice.invariant.stays;
  reads = refl;
  writes = refl;
}

pub returns-in-Err-clause-limits : goal.returns-in-Err-clause-limits
returns-in-Err-clause-limits c = c.set_register.ensures.limits ∙ c.loop-choice.invariant.limits

pub returns-clause-limits : goal.returns-clause-limits
returns-clause-limits c = c.loop-choice.invariant.limits
