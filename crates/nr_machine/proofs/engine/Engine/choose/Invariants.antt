use Rattle.std.proofs.Common.{◌≡◌, ℕ, ◌+◌, List, Option, map, drop}
use Rattle.nr_units.specs.Source.{Supply}
use Rattle.nr_machine.specs.State.{State, Register, choices}
use Rattle.nr_machine.specs.Holding.{Holds, Made, shape}
use Rattle.nr_machine.specs.Limits.{limits_of}
use Rattle.nr_machine.specs.Choosing.{StaysLight}
use Rattle.nr_machine.proofs.engine.Engine.choose.Given as goal

abbrev pub invariant-loop-choice : goal.invariant-loop-choice
invariant-loop-choice l = record {
  items : l.choice-items ≡ l.fn.options.registers.items;
  moves : l.moves ≡ l.choice-index + 1;
  stays : StaysLight (shape l.fn.self) (shape l.self);
  limits : limits_of (shape l.self) ≡ limits_of (shape l.fn.self);
  made : (supply : Option Supply) (held : Option (List ℕ)) (s : State) → Holds (choices l.fn.options) supply s (shape l.fn.self) →
      Made (map (λ r. Register r.0 r.1) (drop l.choice-index l.choice-items)) s l.moves (shape l.self) supply held held;
}
