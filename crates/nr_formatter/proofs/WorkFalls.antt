-- What may still come falls by what the work that is left weighs less, where nothing else that is weighed changed.
use Rattle.std.proofs.Common.{◌≡◌, ◌≤◌, ℕ, ◌+◌, ◌*◌, List, Option, Result, Ok, Err, refl, ap, sym, subst, ◌∙◌, arith}
use Rattle.std.specs.Prelude.{OnOk}
use Rattle.nr_store.specs.Store.{Stored}
use Rattle.nr_reading.specs.declared.event.Event.{Event}
use Rattle.nr_reading.specs.declared.event.Event.TheVariants as events
use Rattle.nr_reading.specs.Weights.{weight_of_half, blanks_owed}
use Rattle.nr_input.specs.Place.{Reached}
use Rattle.nr_input.specs.Weights.{items_left, newline_left, expansions_worth}
use Rattle.nr_formatter.specs.declared.formatter.Formatter.{Formatter}
use Rattle.nr_formatter.specs.declared.paper.Paper.{Paper}
use Rattle.nr_formatter.specs.declared.tasks.Resume.{Resume}
use Rattle.nr_formatter.specs.declared.tasks.Step.{Step}
use Rattle.nr_formatter.specs.declared.tasks.Task.{Task}
use Rattle.nr_formatter.specs.Access.{collected}
use Rattle.nr_formatter.specs.Places.{page_outlet}
use Rattle.nr_formatter.specs.Weights.{weight_of_line, weight_of_outlet, weight_of_diversions, weight_of_name, weight_of_step, weight_of_task, weight_of_event, weight_of_agenda, steps_left, owed_by_event, owed_by_task, owed, weight, Falls}

-- what is weighed beside the work that is left
pub record Rest : Type 0 where
  pub store : Stored Resume
  pub most : ℕ
  pub burst : ℕ
  pub half : ℕ
  pub blanks : ℕ
  pub springs : Option (List ℕ)
  pub paper : Paper
  pub page_length : ℕ

abbrev pub rest_of : Formatter → Rest
rest_of f = record {
  store = f.store;
  most = f.reader.most;
  burst = f.reader.burst;
  half = weight_of_half f.reader.half;
  blanks = blanks_owed f.reader.half;
  springs = f.springs;
  paper = f.paper;
  page_length = f.settings.pages.page_length;
}

weight_of_rest : Reached → Rest → ℕ
weight_of_rest p r =
    256 * (items_left r.store.levels + newline_left p.inside) + expansions_worth r.most r.burst r.store.limit + r.half + 178 * r.blanks
    + weight_of_name r.springs + weight_of_outlet (page_outlet r.paper.state r.paper.place r.page_length) + weight_of_diversions r.store.building

-- what is under way, the line, and the step of the end
abbrev pub weight_of_work : Formatter → ℕ
weight_of_work f = weight_of_agenda f.event f.task f.step + weight_of_line (collected f) + weight_of_step f.step

-- what it may set to be read next
abbrev pub owed_by_work : Formatter → ℕ
owed_by_work f = owed_by_event f.event + owed_by_task f.task f.reader.half

weight-parts : (p : Reached) (f : Formatter) → weight p f ≡ weight_of_rest p (rest_of f) + owed_by_work f + weight_of_work f
unfolding weight owed steps_left weight_of_rest
weight-parts p f = omega arith

pub falls-work : (down up : ℕ) (f g : Formatter) → rest_of g ≡ rest_of f → owed_by_work g ≤ owed_by_work f → weight_of_work g + down ≤ weight_of_work f + up → Falls down up f g
falls-work down up f g rest owes less = record {
  limit = ap (λ r. r.store.limit) rest;
  most = ap (λ r. r.most) rest;
  falls = λ p. omega (arith, weight-parts p f, weight-parts p g, ap (weight_of_rest p) rest);
}

-- ---- one move after another, and an answer

pub falls-afterwards : (down up : ℕ) (f g h : Formatter) → Falls 0 0 f g → Falls down up g h → Falls down up f h
falls-afterwards down up f g h first second = record {
  limit = second.limit ∙ first.limit;
  most = second.most ∙ first.most;
  falls = λ p. omega (arith, first.falls p, second.falls p);
}

pub falls-at : (down up : ℕ) (f g h : Formatter) → g ≡ h → Falls down up f h → Falls down up f g
falls-at down up f g h is falls = subst (λ k. Falls down up f k) (sym is) falls

pub falls-on_ok : {E : Type 0} (down up : ℕ) (f g h : Formatter) (r : Result (Unit {0}) E) → OnOk r (g ≡ h) → Falls down up f h → OnOk r (Falls down up f g)
falls-on_ok down up f g h (Ok x) is falls = subst (λ k. Falls down up f k) (sym is) falls
falls-on_ok down up f g h (Err e) is falls = tt

-- ---- text was heard

-- what was emitted is acted on before what is under way
weight-agenda : (e : Event) (t : Task) (s : Step) → 1 ≤ weight_of_event e → weight_of_agenda e t s ≡ weight_of_event e + weight_of_task t s
weight-agenda events.Nothing t s some = let wrong : ⊥ = omega (arith, some) in absurd wrong
weight-agenda events.Over t s some = let wrong : ⊥ = omega (arith, some) in absurd wrong
weight-agenda e t s some = refl

-- it is acted on by another task, or none
pub falls-heard_for : (more longer : ℕ) (f g : Formatter) → rest_of g ≡ rest_of f → more + longer + 1 ≤ weight_of_event f.event → g.event ≡ events.Nothing → g.step ≡ f.step → weight_of_task g.task g.step ≤ weight_of_task f.task f.step + more → owed_by_task g.task g.reader.half ≤ owed_by_task f.task f.reader.half → weight_of_line (collected g) ≤ weight_of_line (collected f) + longer → Falls 1 0 f g
falls-heard_for more longer f g rest enough event step task owes line =
    falls-work 1 0 f g rest (omega (arith, ap owed_by_event event))
    (omega (arith, enough, task, line, weight-agenda f.event f.task f.step (omega (arith, enough)), ap (λ e. weight_of_agenda e g.task g.step) event, ap weight_of_step step))

pub falls-heard : (longer : ℕ) (f g : Formatter) → rest_of g ≡ rest_of f → longer + 1 ≤ weight_of_event f.event → g.event ≡ events.Nothing → g.step ≡ f.step → g.task ≡ f.task → g.reader ≡ f.reader → weight_of_line (collected g) ≤ weight_of_line (collected f) + longer → Falls 1 0 f g
falls-heard longer f g rest enough event step task reader line =
    let weighs : weight_of_task g.task g.step ≡ weight_of_task f.task f.step = cc in
    let owes : owed_by_task g.task g.reader.half ≡ owed_by_task f.task f.reader.half = cc in
    falls-heard_for 0 longer f g rest (omega (arith, enough)) event step (omega arith) (omega arith) line
