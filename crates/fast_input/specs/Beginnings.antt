-- Arguments of macros and texts of strings that begin with spliced bytes (CSTR 54, 7.1, 7.3).
use Rattle.std.specs.Prelude.{Bool, true, false}
use Rattle.nr_reading.specs.declared.mode.PendingAct.{PendingAct}
use Rattle.nr_reading.specs.declared.mode.PendingAct.TheVariants as pending_acts

-- it is pending that a string's text begins, or that the first byte of an argument is put
abbrev pub begins_target : PendingAct → Bool
begins_target pending_acts.Begin = true
begins_target (pending_acts.Put b) = true
begins_target d = false
