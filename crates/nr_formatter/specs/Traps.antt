-- Page traps and input line traps. (CSTR 54, section 7.5; groff manual, traps.)
use Rattle.std.specs.Prelude.{Option, None, Some}
use Rattle.nr_store.specs.Store.{trap_planted, trap_changed, trap_removed}
use Rattle.nr_settings.specs.Traps as traps
use Rattle.nr_settings.specs.declared.traps.PageTrap.{PageTrap}
use Rattle.nr_settings.specs.declared.traps.PageTrap.TheVariants.{Plant, Remove, Nothing}
use Rattle.nr_settings.specs.declared.traps.TrapMove.{TrapMove}
use Rattle.nr_settings.specs.declared.traps.LineTrap.{LineTrap}
use Rattle.nr_settings.specs.declared.traps.LineTrap.TheVariants as counts
use Rattle.nr_formatter.specs.declared.formatter.Formatter.{Formatter}
use Rattle.nr_formatter.specs.declared.formatter.InputTrap.{InputTrap}
use Rattle.nr_formatter.specs.declared.tasks.Task.TheVariants as tasks
use Rattle.nr_formatter.specs.Access.{line, long, spacing}
use Rattle.nr_formatter.specs.Places.{present_place}

-- `.wh N xx`
abbrev pub with_page_trap : PageTrap → Formatter → Formatter
with_page_trap (Plant place name) f = record f { store = trap_planted place name f.store }
with_page_trap (Remove place) f = record f { store = trap_removed place f.store }
with_page_trap Nothing f = f

abbrev pub wh : Formatter → Formatter
wh f = record (with_page_trap (traps.wh (line f) (long f) (spacing f) (present_place f)) f)
    { task = tasks.Read }

-- `.ch xx N`
abbrev pub with_trap_moved : Option TrapMove → Formatter → Formatter
with_trap_moved None f = f
with_trap_moved (Some m) f = record f { store = trap_changed m.name m.place f.store }

abbrev pub ch : Formatter → Formatter
ch f = record (with_trap_moved (traps.ch (line f) (long f) (spacing f) (present_place f)) f)
    { task = tasks.Read }

-- `.it N xx`
abbrev pub line_trap_in : LineTrap → Option InputTrap → Option InputTrap
line_trap_in (counts.After n name) old = Some (record { lines = n; name = name })
line_trap_in counts.Off old = None
line_trap_in counts.Nothing old = old

abbrev pub it : Formatter → Formatter
it f = record f {
  input_trap = line_trap_in (traps.it (line f) (long f) (spacing f)) f.input_trap;
  task = tasks.Read;
}
