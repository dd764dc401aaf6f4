-- The midst of a macro's argument, where nothing is half read.
use Prim.Native.Char.{code}
use Rattle.std.specs.Prelude.{◌≢◌, ℕ, Bool, false, List}
use Rattle.nr_reading.specs.declared.ask.Ask.{Ask}
use Rattle.nr_reading.specs.declared.half.Half.{Half}
use Rattle.nr_reading.specs.declared.mode.PendingAct.{PendingAct}
use Rattle.nr_reading.specs.declared.mode.PendingAct.TheVariants as pending_acts
use Rattle.nr_reading.specs.declared.mode.Escape.{Escape}
use Rattle.nr_reading.specs.declared.mode.Escape.TheVariants as escapes
use Rattle.nr_reading.specs.declared.mode.Mode.{Mode}
use Rattle.nr_reading.specs.declared.mode.Mode.TheVariants as modes
use Rattle.nr_reading.specs.Nesting.{is_none}

abbrev pub is_in_argument_at : Mode → Escape → PendingAct → List Ask → Bool
is_in_argument_at modes.Word escapes.Plain pending_acts.Look asks = is_none asks
is_in_argument_at modes.Quoted escapes.Plain pending_acts.Look asks = is_none asks
is_in_argument_at m e d asks = false

-- the next item is read in the midst of an argument, after no part of an escape
abbrev pub is_in_argument : Half → Bool
is_in_argument h = is_in_argument_at h.reading.mode h.reading.escape h.reading.pending_act h.asks

-- the byte that ends an argument: a quote one that began with a quote, else a blank; a newline ends what is defined
abbrev pub ending_of : Mode → ℕ
ending_of modes.Quoted = code "\""
ending_of modes.StringText = code "\n"
ending_of modes.Body = code "\n"
ending_of m = code " "

-- In copy mode a byte stands for itself that is no `\` and no such ending; a newline ends anything.
abbrev pub IsPlain : ℕ → ℕ → Type 0
IsPlain ending b = (b ≢ ending) × (b ≢ code "\n") × (b ≢ code "\\")
