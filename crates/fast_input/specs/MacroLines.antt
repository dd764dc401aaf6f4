-- The arguments of a macro, read at once of the bytes that come next of the source (CSTR 54, 7.3).
use Prim.Native.Char.{code}
use Rattle.std.specs.Prelude.{◌≡◌, ℕ, ◌+◌, ◌≤◌, ◌==◌, Bool, false, if◌then◌else◌, List, [], length, Option}
use Rattle.nr_units.specs.Source.{Supply}
use Rattle.nr_store.specs.Store.{Stored}
use Rattle.nr_reading.specs.declared.event.Event.TheVariants as events
use Rattle.nr_reading.specs.declared.half.Half.{Half}
use Rattle.nr_reading.specs.declared.mode.PendingAct.TheVariants as pending_acts
use Rattle.nr_reading.specs.declared.mode.Mode.{Mode}
use Rattle.nr_reading.specs.declared.mode.Mode.TheVariants as modes
use Rattle.nr_reading.specs.Half.{reads_next}
use Rattle.nr_input.specs.declared.reader.Reader.{Reader}
use Rattle.nr_input.specs.declared.place.Ahead.TheVariants.{Unseen}
use Rattle.fast_input.specs.AtHand.{ComeNext}
use Rattle.nr_input.specs.Place.{Coming, Reached, HoldsComing}
use Rattle.nr_input.specs.Limits.{limits_of}
use Rattle.nr_input.specs.Moving.{situation}
use Rattle.fast_input.specs.Runs.{HasRead, PaysAll, after_run, inside_after}

abbrev pub is_before_argument_in : Mode → Half → Bool
is_before_argument_in modes.MacroBlanks h = reads_next h
is_before_argument_in modes.MacroGap h = reads_next h
is_before_argument_in m h = false

-- the next item is read before an argument of a macro or after the last, after no part of an escape
abbrev pub is_before_argument : Half → Bool
is_before_argument h = is_before_argument_in h.reading.mode h

-- before the first argument the blanks are left in a move of their own
abbrev pub blanks_left : Mode → ℕ
blanks_left modes.MacroBlanks = 1
blanks_left m = 0

-- After the byte that an argument begins with, or a quote before it, or after the newline that ends the line.
abbrev pub begun_with : ℕ → Half → Half
begun_with b h =
    if b == code "\n" then record h { reading = record h.reading { mode = modes.Start; pending_act = pending_acts.Call } }
    else (if b == code "\"" then record h { reading = record h.reading { mode = modes.Quoted } }
    else record h { reading = record h.reading { mode = modes.Word; pending_act = pending_acts.Put b } })

-- where an argument has ended
abbrev pub argument_ended : Half → Half
argument_ended h = record h { reading = record h.reading { mode = modes.MacroGap; pending_act = pending_acts.EndArgument } }

-- after the first n of these bytes
abbrev pub reached_after : ℕ → List ℕ → Reached → Reached
reached_after n bs p = record { ahead = Unseen; taken = p.taken + n; inside = inside_after n bs p.inside }

-- With no level open and nothing spliced since the last byte n moves that tell nothing take so many of these bytes, where they come
-- next of the source, and lead from the one to the other.
pub record ReadsOn {K : Type 0} (n taken : ℕ) (bs : List ℕ) (v : Stored K) (r : Reader) (w : Stored K)
    (s : Reader) : Type 0 where
  pub within : taken ≤ length bs
  pub levels : w.levels ≡ v.levels
  pub burst : s.burst ≡ r.burst
  pub limits : limits_of w s ≡ limits_of v r
  pub reads : v.levels ≡ [] → r.burst ≡ 0 → (c : Coming) (p : Reached) (supply : Option Supply)
      → ComeNext bs c → HoldsComing (after_run taken c) p supply
      → HasRead n (situation v c r) events.Nothing w s p supply
  pub pays : r.burst ≡ 0 → (p : Reached) → PaysAll n v p r events.Nothing w (reached_after taken bs p) s
