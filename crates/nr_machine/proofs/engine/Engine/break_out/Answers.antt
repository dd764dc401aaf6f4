use Rattle.std.proofs.Common.{◌≡◌, List, Option, Result, Ok, Err, ℕ, refl, arith}
use Rattle.std.specs.Prelude.{OnOk}
use Rattle.nr_units.specs.Source.{Supply}
use Rattle.nr_reading.specs.declared.half.Half.{Half}
use Rattle.nr_reading.specs.Setting.{not_continued}
use Rattle.nr_formatter.specs.Weights.{owed_by_task, Falls}
use Rattle.nr_formatter.specs.declared.tasks.Room.TheVariants as rooms
use Rattle.nr_formatter.specs.declared.tasks.Task.{Task}
use Rattle.nr_formatter.specs.declared.tasks.Task.TheVariants as tasks
use Rattle.nr_formatter.specs.declared.formatter.Formatter.{Formatter}
use Rattle.nr_formatter.proofs.WorkFalls.{falls-afterwards, falls-work}
use Rattle.nr_machine.specs.State.{State, plainly}
use Rattle.nr_machine.specs.Machine.{break_part, continues_none}
use Rattle.nr_machine.specs.Holding.{Shape, at, shape, IsLighter, AfterWork, Works}
use Rattle.nr_machine.specs.declared.outcome.Stop.{Stop}
use Rattle.nr_machine.specs.declared.outcome.Stop.TheVariants as stops
use Rattle.nr_machine.proofs.engine.Engine.break_out.Goals as goal

-- the engine where what `\c` continues has ended
abbrev uncontinued : Shape → Shape
uncontinued e = record e { formatter = continues_none e.formatter }

owed-not_continued : (t : Task) (h : Half) → owed_by_task t (not_continued h) ≡ owed_by_task t h
owed-not_continued (tasks.Act r) h = refl
owed-not_continued (tasks.Break t) h = refl
owed-not_continued (tasks.Room rooms.Line) h = refl
owed-not_continued (tasks.Room rooms.Title) h = refl
owed-not_continued t h = refl

falls-continues_none : (f : Formatter) → Falls 0 0 f (continues_none f)
falls-continues_none f = falls-work 0 0 f (continues_none f) refl (omega (arith, owed-not_continued f.task f.reader.half)) (omega arith)

after-continues_none : (supply : Option Supply) (s t : State) (e f : Shape) (old new : Option (List ℕ)) (r : Result (Unit {0}) Stop)
    → AfterWork supply (at (uncontinued e) s) t f old new r → AfterWork supply (at e s) t f old new r
after-continues_none supply s t e f old new (Ok x) w =
    (w.0, record { wrote = (w.1.wrote.0, record { grows = w.1.wrote.1.grows }, w.1.wrote.2) })
after-continues_none supply s t e f old new (Err (stops.Limit which)) w = w
after-continues_none supply s t e f old new (Err stops.WriteFault) w =
    (w.0, record { page = w.1.page; ends = w.1.ends; prefix = w.1.prefix })

lightens-continues_none : (e f : Shape) (r : Result (Unit {0}) Stop) → OnOk r (IsLighter (uncontinued e) f) → OnOk r (IsLighter e f)
lightens-continues_none e f (Ok x) light =
    (falls-afterwards 1 0 e.formatter (continues_none e.formatter) f.formatter (falls-continues_none e.formatter) light.0, light.1)
lightens-continues_none e f (Err stop) light = tt

-- a part of a break after that
works-continues_none : (g : State → State) (e f : Shape) (old new : Option (List ℕ)) (r : Result (Unit {0}) Stop)
    → Works g (uncontinued e) f old new r → Works (λ s. g (plainly continues_none s)) e f old new r
works-continues_none g e f old new r w = record {
  comes = λ supply s h. after-continues_none supply s (g (at (uncontinued e) s)) e f old new r (w.comes supply s (record {
    chosen_is = h.chosen_is;
    coming = h.coming;
    row = h.row;
    page = h.page;
    page_limit = h.page_limit;
    select = h.select;
    faces = h.faces;
    within = record {
      formatter = record { stored = h.within.formatter.stored; depth = h.within.formatter.depth; line = h.within.formatter.line; burst = h.within.formatter.burst };
      page = h.within.page;
    };
  }));
  lightens = lightens-continues_none e f r w.lightens;
}

pub returns-clause-works : goal.returns-clause-works
returns-clause-works g c =
    works-continues_none (break_part c.args.then) (shape c.args.self.now) (shape c.break_part.new.self) _ _ c.break_part.result
    (rw c.end_continuing.ensures at c.break_part.ensures.works)
