-- How a run begins, and what the options do to it. (CSTR 54, usage, options -n and -r.)
use Rattle.std.specs.Prelude.{◌≡◌, ℕ, ◌≤◌, ◌<◌, List, [], Option, Result, Ok, Err, OnOk, false}
use Rattle.nr_units.specs.Source.{Supply}
use Rattle.nr_options.specs.Limits.{Bounds}
use Rattle.nr_options.specs.declared.options.Options.{Options}
use Rattle.nr_input.specs.Place.{nothing_reached}
use Rattle.nr_fill.specs.CellRow.{IsRow}
use Rattle.nr_formatter.specs.Limits.{IsWithin}
use Rattle.nr_page.specs.Page.{Holds as HoldsPage}
use Rattle.nr_store.specs.Store.{charge_of}
use Rattle.nr_machine.specs.State.{State, Choice, choices, formatter_at_first}
use Rattle.nr_machine.specs.Machine.{choose}
use Rattle.nr_machine.specs.Run.{stops_reading, stops_writing}
use Rattle.nr_machine.specs.Holding.{Shape, Holds, Made, Halts, weight}
use Rattle.nr_machine.specs.declared.outcome.Measure.TheVariants.{Stored}
use Rattle.nr_machine.specs.declared.outcome.Outcome.{Outcome}
use Rattle.nr_machine.specs.declared.outcome.Outcome.TheVariants.{Limit}

-- Under these limits nothing is read yet, and nothing placed; what is printed is as the options say.
pub record IsNew (b : Bounds) (options : Options) (e : Shape) : Type 0 where
  pub formatter : e.formatter ≡ formatter_at_first b
  pub place : e.place ≡ nothing_reached
  pub row : IsRow [] e.row
  pub page : HoldsPage [] e.page
  pub page_limit : e.page.limit ≡ b.cells
  pub select : e.select ≡ options.select
  pub faces : e.faces ≡ options.faces

-- a choice takes effect, or too much would be stored
abbrev pub Chooses : Choice → Shape → Shape → Result (Unit {0}) Outcome → Type 0
Chooses c e f (Ok x) = (f ≡ record e { formatter = choose c e.formatter })
    × (IsWithin e.formatter → charge_of (choose c e.formatter).store ≤ e.formatter.store.limit)
Chooses c e f (Err outcome) = (outcome ≡ Limit Stored e.place.taken)
    × (IsWithin e.formatter → e.formatter.store.limit < charge_of (choose c e.formatter).store)

-- what the engine holds without the formatter stays, and what may still come
pub record StaysLight (e f : Shape) : Type 0 where
  pub place : f.place ≡ e.place
  pub limit : f.formatter.store.limit ≡ e.formatter.store.limit
  pub most : f.formatter.reader.most ≡ e.formatter.reader.most
  pub weighs : weight f ≡ weight e

-- all choices took effect, each as a move, or the run stops at one
abbrev pub AfterChoices : Option Supply → State → ℕ → Shape → Option (List ℕ)
    → Result (Unit {0}) Outcome → Type 0
AfterChoices supply s n f held (Ok x) = Made [] s n f supply held held
AfterChoices supply s n f held (Err outcome) = Halts s n outcome held held

-- At whatever state the engine held with these options to choose, they are chosen.
pub record ChoosesAll (options : Options) (e f : Shape) (n : ℕ) (r : Result (Unit {0}) Outcome) : Type 0 where
  pub chooses : (supply : Option Supply) (held : Option (List ℕ)) (s : State)
      → Holds (choices options) supply s e → AfterChoices supply s n f held r
  pub stays : OnOk r (StaysLight e f)
  pub reads : stops_reading r ≡ false
  pub writes : stops_writing r ≡ false
