-- What many moves that read cost.
use Rattle.std.proofs.Common.{◌≡◌, ℕ, ◌+◌, ◌*◌, ◌≤◌, arith}
use Rattle.nr_store.specs.Store.{Stored}
use Rattle.nr_reading.specs.declared.event.Event.{Event}
use Rattle.nr_reading.specs.declared.event.Event.TheVariants as events
use Rattle.nr_input.specs.Place.{Reached}
use Rattle.nr_input.specs.Weights.{byte_worth}
use Rattle.nr_input.specs.declared.reader.Reader.{Reader}
use Rattle.fast_input.specs.Runs.{PaysMany}
use Rattle.nr_formatter.specs.Weights.{weight}
use Rattle.nr_formatter.specs.declared.formatter.Formatter.{Formatter}
use Rattle.nr_formatter.specs.declared.tasks.Resume.{Resume}
use Rattle.nr_formatter.specs.declared.tasks.Task.TheVariants as tasks
use Rattle.nr_machine.proofs.Spending.{emitted_no_lead}

-- many moves read, and the last of them emitted this
pub emitted_all : (n : ℕ) (p q : Reached) (f : Formatter) (v : Stored Resume) (r : Reader) (e : Event) → f.event ≡ events.Nothing → f.task ≡ tasks.Read
    → PaysMany n f.store p f.reader e v q r
    → weight q (record f { store = v; reader = r; event = e }) + n + byte_worth f.reader.most f.store.limit * p.taken
    ≤ weight p f + byte_worth f.reader.most f.store.limit * q.taken
emitted_all n p q f v r e idle task pays =
    emitted_no_lead n p q f v r e idle task (pays.pays (byte_worth f.reader.most f.store.limit) (omega arith)) pays.tells (omega (arith, pays.diversions))
