-- What a move does that is pending, whatever limits it passes. Where it is refused stands in Refusal.
use Rattle.std.specs.Prelude.{ℕ, ◌+◌, ◌-◌, nat_le, nat_lt, Bool, true, false, if◌then◌else◌, List, [], ◌∷◌, slice_index, Option, None, Some, is_some}
use Rattle.nr_units.specs.NumberText.{number_text}
use Rattle.nr_levels.specs.Levels.{argument}
use Rattle.nr_symbol_tables.specs.Table.{find}
use Rattle.nr_store.specs.Store.{Stored, begun, text_of, added, defined, words, entered, called, reading_bytes, gathering, gathered_whole, ungathered, register_of, stepped, meaning_of}
use Rattle.nr_store.specs.declared.element.Element.TheVariants as elements
use Rattle.nr_store.specs.declared.named.Meaning.{Meaning}
use Rattle.nr_store.specs.declared.named.Meaning.TheVariants as meanings
use Rattle.nr_store.specs.declared.request.Request.{Request}
use Rattle.nr_store.specs.declared.request.Request.TheVariants as requests
use Rattle.nr_store.specs.declared.register.Register.{Register}
use Rattle.nr_reading.specs.declared.ask.Sign.TheVariants as signs
use Rattle.nr_reading.specs.declared.event.Event.{Event}
use Rattle.nr_reading.specs.declared.event.Event.TheVariants as events
use Rattle.nr_reading.specs.declared.half.Half.{Half}
use Rattle.nr_reading.specs.declared.mode.Calls.{Calls}
use Rattle.nr_reading.specs.declared.mode.Calls.TheVariants as calls
use Rattle.nr_reading.specs.declared.mode.PendingAct.{PendingAct}
use Rattle.nr_reading.specs.declared.mode.PendingAct.TheVariants as pending_acts
use Rattle.nr_reading.specs.Conditionals.{judged}
use Rattle.nr_reading.specs.Definitions.{last_line}
use Rattle.nr_reading.specs.Seeking.{sought, sought_event}
use Rattle.nr_reading.specs.Spelled.{name_of, is_empty}
use Rattle.nr_input.specs.declared.reader.Reader.{Reader}

-- what is stored and half read after it, and what it tells
pub record Acted (K : Type 0) : Type 0 where
  pub stored : Stored K
  pub reader : Reader
  pub event : Event

abbrev pub done : {K : Type 0} → Event → Stored K → Reader → Acted K
done e v r = record { stored = v; reader = r; event = e }

-- with this pending next
abbrev pub next : PendingAct → Half → Half
next d h = record h { reading = record h.reading { pending_act = d } }

abbrev pub on_half : (Half → Half) → Reader → Reader
on_half f r = record r { half = f r.half }

abbrev pub then_pending : PendingAct → Reader → Reader
then_pending d r = on_half (next d) r

abbrev pub idle : Reader → Reader
idle r = then_pending pending_acts.Look r

-- ---- definitions

-- the name that is read, or that a text is defined under
abbrev pub name_in : Reader → List ℕ
name_in r = name_of r.half.notes.name

-- A text is built apart: empty, or from a copy of the old one.
abbrev pub base_of : {K : Type 0} → Reader → Stored K → Stored K
base_of r v = if r.half.notes.defining.appends then begun (text_of (name_in r) v) None v else begun [] None v

abbrev pub adding_byte : {K : Type 0} → ℕ → PendingAct → Stored K → Reader → Acted K
adding_byte b d v r = done events.Nothing (added (elements.Byte b ∷ []) v) (then_pending d r)

-- what is pending after a byte that was held back
abbrev pub after_held : ℕ → ℕ → Option ℕ → PendingAct
after_held held n (Some b) = if nat_lt (n + 1) held then pending_acts.Release held (n + 1) (Some b) else pending_acts.Add b
after_held held n None = if nat_lt (n + 1) held then pending_acts.Release held (n + 1) None else pending_acts.Look

abbrev pub act_release : {K : Type 0} → ℕ → ℕ → Option ℕ → Stored K → Reader → Acted K
act_release held n b v r =
    adding_byte (slice_index (last_line r.half.notes.defining) n) (after_held held n b) v r

-- the text takes its name, where it is kept
abbrev pub naming : {K : Type 0} → Reader → Stored K → Stored K
naming r v = if r.half.notes.defining.keeps then defined (name_in r) v else v

abbrev pub after_definition : Reader → PendingAct
after_definition r = if is_empty r.half.notes.defining.ending then pending_acts.Look else pending_acts.CallEnding

-- ---- splices

-- whether a name has a text
abbrev pub has_text : {K : Type 0} → List ℕ → Stored K → Bool
has_text name v = is_some (words (find name v.names))

-- a splice more since the last byte of the input was taken
abbrev pub expanded : Reader → Reader
expanded r = record (idle r) { burst = r.burst + 1 }

-- A level is opened, or none: a name that is undefined or a request's splices nothing, and counts nothing.
abbrev pub splicing : {K : Type 0} → Bool → Stored K → Reader → Acted K
splicing is_text new r = done events.Nothing new (if is_text then expanded r else idle r)

-- the text of a name, with no arguments in force
abbrev pub splicing_name : {K : Type 0} → List ℕ → Stored K → Reader → Acted K
splicing_name name v r = splicing (has_text name v) (entered name (words (find name v.names)) None v) r

-- a macro with the arguments that were read
abbrev pub act_call : {K : Type 0} → Stored K → Reader → Acted K
act_call v r = splicing (has_text (name_in r) v) (called (name_in r) (words (find (name_in r) v.names)) v) r

-- bytes, the arguments staying in force
abbrev pub splicing_bytes : {K : Type 0} → List ℕ → Stored K → Reader → Acted K
splicing_bytes bytes v r = splicing true (reading_bytes bytes v) r

-- a register's value in its format; an undefined one has 0
abbrev pub register_text : Register → List ℕ
register_text r = number_text r.format r.value

-- ---- what a control line calls

abbrev pub calls_of_request : Request → Calls
calls_of_request requests.Ds = calls.NewString
calls_of_request requests.As = calls.MoreString
calls_of_request requests.If = calls.If
calls_of_request requests.Ie = calls.IfElse
calls_of_request requests.El = calls.Else
calls_of_request requests.Tl = calls.Title
calls_of_request q = calls.Request

abbrev pub calls_of : Meaning → Calls
calls_of meanings.Unknown = calls.Nothing
calls_of (meanings.Request q) = calls_of_request q
calls_of meanings.Text = calls.Macro

-- the request that is called, if one is
abbrev pub request_of : Meaning → Request → Request
request_of (meanings.Request q) old = q
request_of m old = old

-- what the name that was read means; the empty name means nothing
abbrev pub meaning_in : {K : Type 0} → Stored K → Reader → Meaning
meaning_in v r = if is_empty (name_in r) then meanings.Unknown else meaning_of (find (name_in r) v.names)

-- the arguments of a macro begin to be read
abbrev pub after_meaning : {K : Type 0} → Meaning → Stored K → Stored K
after_meaning meanings.Text v = ungathered v
after_meaning m v = v

-- what is half read after a name that means this
abbrev pub after_name : Meaning → Reader → Reader
after_name m r =
    record r { half = sought (calls_of m) (next pending_acts.Look r.half); request = request_of m r.request }

abbrev pub seeking : {K : Type 0} → Meaning → Stored K → Reader → Acted K
seeking m v r =
    done (sought_event (calls_of m)) (after_meaning m v)
    (record r { half = sought (calls_of m) (next pending_acts.Look r.half); request = request_of m r.request })

-- ---- the blanks that a text line begins with

abbrev pub after_lead : ℕ → PendingAct
after_lead n = if nat_le n 1 then pending_acts.Look else pending_acts.Lead (n - 1)

-- ---- all of it

abbrev pub act : {K : Type 0} → PendingAct → Stored K → Reader → Acted K
act pending_acts.Look v r = done events.Nothing v r
act pending_acts.Begin v r = done events.Nothing (base_of r v) (idle r)
act (pending_acts.Add b) v r = adding_byte b pending_acts.Look v r
act (pending_acts.Release held n b) v r = act_release held n b v r
act pending_acts.Define v r = done events.Nothing (naming r v) (idle r)
act pending_acts.DefineAndCall v r = done events.Nothing (naming r v) (then_pending (after_definition r) r)
act pending_acts.CallEnding v r = splicing_name r.half.notes.defining.ending v r
act pending_acts.Splice v r = splicing_name r.half.notes.asked v r
act (pending_acts.Register signs.None) v r =
    splicing_bytes (register_text (register_of (find r.half.notes.asked v.registers))) v r
-- the step is added or taken away first
act (pending_acts.Register signs.Plus) v r =
    done events.Nothing (stepped r.half.notes.asked true v) (then_pending (pending_acts.Register signs.None) r)
act (pending_acts.Register signs.Minus) v r =
    done events.Nothing (stepped r.half.notes.asked false v) (then_pending (pending_acts.Register signs.None) r)
-- a missing argument is empty
act (pending_acts.Argument n) v r = splicing_bytes (argument v.arguments n) v r
act (pending_acts.Put b) v r = done events.Nothing (gathering b v) (idle r)
act pending_acts.EndArgument v r = done events.Nothing (gathered_whole v) (idle r)
act pending_acts.Call v r = act_call v r
act pending_acts.Seek v r = seeking (meaning_in v r) v r
act (pending_acts.Judge b) v r = done events.Nothing v (on_half (λ h. judged b (next pending_acts.Look h)) r)
act (pending_acts.Lead n) v r = done events.Lead v (then_pending (after_lead n) r)
-- a splice was refused, and is from then on
act pending_acts.Expanded v r = done events.Nothing v r

abbrev pub is_look : PendingAct → Bool
is_look pending_acts.Look = true
is_look d = false
