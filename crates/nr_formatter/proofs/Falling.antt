-- What may still come falls: by what is half read and owed, and by the moves that are left.
use Rattle.std.specs.Prelude.{OnOk}
use Rattle.std.proofs.Common.{◌≡◌, ℕ, ◌+◌, ◌*◌, ◌≤◌, List, Option, None, Some, Result, Ok, Err, refl, ap, arith}
use Rattle.nr_reading.specs.declared.event.Event.{Event}
use Rattle.nr_reading.specs.declared.event.Event.TheVariants as events
use Rattle.nr_reading.specs.declared.half.Half.{Half}
use Rattle.nr_reading.specs.Weights.{weight_of_half, blanks_owed}
use Rattle.nr_input.specs.Weights.{Splices, items_left, expansions_worth}
use Rattle.nr_formatter.specs.declared.formatter.Formatter.{Formatter}
use Rattle.nr_formatter.specs.declared.paper.Outlet.{Outlet}
use Rattle.nr_formatter.specs.declared.paper.Outlet.TheVariants as outlets
use Rattle.nr_formatter.specs.declared.tasks.Step.{Step}
use Rattle.nr_formatter.specs.declared.tasks.Step.TheVariants as steps
use Rattle.nr_formatter.specs.declared.tasks.Task.{Task}
use Rattle.nr_formatter.specs.declared.tasks.Task.TheVariants as tasks
use Rattle.nr_formatter.specs.declared.tasks.Then.{Then}
use Rattle.nr_formatter.specs.declared.tasks.Then.TheVariants as thens
use Rattle.nr_formatter.specs.Weights.{Falls, weight, steps_left, owed, weight_of_name, weight_of_outlet, weight_of_last_break, weight_of_break, weight_of_task, weight_of_agenda}

-- ---- parts

-- what is half read, with its blanks
abbrev pub weight_read : Half → ℕ
weight_read h = weight_of_half h + 178 * blanks_owed h

pub weight_of_name-le : (name : Option (List ℕ)) → weight_of_name name ≤ 1
weight_of_name-le None = omega arith
weight_of_name-le (Some name) = omega arith

pub weight_of_outlet-le : (o : Outlet) → weight_of_outlet o ≤ 3
weight_of_outlet-le outlets.Full = omega arith
weight_of_outlet-le outlets.NoPage = omega arith
weight_of_outlet-le o = omega arith

pub weight_of_last_break-le : (s : Step) → weight_of_last_break s ≤ 3
weight_of_last_break-le steps.FirstBreak = omega arith
weight_of_last_break-le steps.SecondBreak = omega arith
weight_of_last_break-le s = omega arith

pub weight_of_break-le : (t : Then) (s : Step) → weight_of_break t s ≤ 27
weight_of_break-le (thens.Act r) s = omega arith
weight_of_break-le thens.Finish s = omega (arith, weight_of_last_break-le s)
weight_of_break-le t s = omega arith

pub weight_of_task-le : (t : Task) (s : Step) → weight_of_task t s ≤ 190
weight_of_task-le (tasks.Break t) s = omega (arith, weight_of_break-le t s)
weight_of_task-le (tasks.Begin None) s = omega arith
weight_of_task-le (tasks.Begin (Some given)) s = omega arith
weight_of_task-le t s = omega arith

-- where what is under way weighs less, so does what is on the agenda
pub weight_of_agenda-le : (e : Event) (t new : Task) (s : Step) → weight_of_task new s ≤ weight_of_task t s → weight_of_agenda e new s ≤ weight_of_agenda e t s
weight_of_agenda-le events.Nothing t new s less = less
weight_of_agenda-le events.Over t new s less = omega arith
weight_of_agenda-le e t new s less = omega arith

-- ---- less than it fell

pub falls-less : (down up low high : ℕ) (f g : Formatter) → Falls down up f g → low + up ≤ down + high → Falls low high f g
falls-less down up low high f g falls less = record { limit = falls.limit; most = falls.most; falls = λ p. let a = falls.falls p in omega arith }

-- ---- where the input stays

pub record KeepsInput (f g : Formatter) : Type 0 where
  pub levels : g.store.levels ≡ f.store.levels
  pub limit : g.store.limit ≡ f.store.limit
  pub burst : g.reader.burst ≡ f.reader.burst
  pub most : g.reader.most ≡ f.reader.most

-- where what is half read and owed costs so much more
pub falls-costing : (cost down up : ℕ) (f g : Formatter) → KeepsInput f g → weight_read g.reader.half + owed g ≤ weight_read f.reader.half + owed f + cost
    → steps_left g + down ≤ steps_left f + up → Falls down (cost + up) f g
unfolding weight
falls-costing cost down up f g keeps read left = record {
  limit = keeps.limit;
  most = keeps.most;
  falls = λ p.
      let items = ap items_left keeps.levels in
      let worth : expansions_worth g.reader.most g.reader.burst g.store.limit ≡ expansions_worth f.reader.most f.reader.burst f.store.limit = rw (keeps.most, keeps.burst, keeps.limit) refl in
      omega arith;
}

pub falls-kept : (down up : ℕ) (f g : Formatter) → KeepsInput f g → weight_read g.reader.half + owed g ≤ weight_read f.reader.half + owed f
    → steps_left g + down ≤ steps_left f + up → Falls down up f g
falls-kept down up f g keeps read left = falls-less down (0 + up) down up f g (falls-costing 0 down up f g keeps (omega arith) left) (omega arith)

-- ---- where a text is spliced

pub falls-spliced : (down : ℕ) (f g : Formatter) → Splices f.store f.reader g.store g.reader → owed g ≤ owed f + 1000
    → steps_left g + down ≤ steps_left f + 1000 → Falls down 0 f g
unfolding weight
falls-spliced down f g splices owes left = record {
  limit = splices.limit;
  most = splices.most;
  falls = λ p. let pays = splices.pays p in omega arith;
}

-- ---- one move after another, and the same move

pub falls-is : (down up : ℕ) (f g h : Formatter) → g ≡ h → Falls down up f h → Falls down up f g
falls-is down up f g h same falls = rw same falls

pub falls-then : (down up low high : ℕ) (f g h : Formatter) → Falls down up f g → Falls low high g h → Falls (down + low) (up + high) f h
falls-then down up low high f g h first second = record {
  limit = rw second.limit first.limit;
  most = rw second.most first.most;
  falls = λ p. let a = first.falls p in let b = second.falls p in omega arith;
}

-- ---- calls that may be refused

pub on_ok : {A E P Q : Type 0} (r : Result A E) → (P → Q) → OnOk r P → OnOk r Q
on_ok (Ok x) f p = f p
on_ok (Err e) f p = p
