-- What the next item does to what is half read.
use Prim.Native.Char.{code}
use Rattle.std.specs.Prelude.{ℕ, ◌&&◌, Bool, true, false, if◌then◌else◌, List, [], ◌∷◌, drop}
use Rattle.nr_reading.specs.declared.ask.Ask.{Ask}
use Rattle.nr_reading.specs.declared.ask.Answer.{Answer}
use Rattle.nr_reading.specs.declared.ask.Answer.TheVariants as answers
use Rattle.nr_reading.specs.declared.ask.Kind.{Kind}
use Rattle.nr_reading.specs.declared.ask.Kind.TheVariants as kinds
use Rattle.nr_reading.specs.declared.ask.Sign.TheVariants as signs
use Rattle.nr_reading.specs.declared.escape.Offer.{Offer}
use Rattle.nr_reading.specs.declared.escape.Offer.TheVariants as offers
use Rattle.nr_reading.specs.declared.event.Event.{Event}
use Rattle.nr_reading.specs.declared.event.Event.TheVariants as events
use Rattle.nr_reading.specs.declared.next_item.NextItem.{NextItem}
use Rattle.nr_reading.specs.declared.half.Half.{Half}
use Rattle.nr_reading.specs.declared.half.Seen.{Seen}
use Rattle.nr_reading.specs.declared.mode.PendingAct.{PendingAct}
use Rattle.nr_reading.specs.declared.mode.PendingAct.TheVariants as pending_acts
use Rattle.nr_reading.specs.declared.mode.Escape.{Escape}
use Rattle.nr_reading.specs.declared.mode.Escape.TheVariants as escapes
use Rattle.nr_reading.specs.Notes.{Note}
use Rattle.nr_reading.specs.Notes as notes
use Rattle.nr_reading.specs.Step.{Step}
use Rattle.nr_reading.specs.Ask.{has_text, reads_argument, is_size, begun_ask, answer}
use Rattle.nr_reading.specs.Ended.{pending_of, event_of}
use Rattle.nr_reading.specs.Escape.{offer, raw_offer}
use Rattle.nr_reading.specs.Delimited.{begun_text, with_text_byte, ended_text, no_texts}
use Rattle.nr_reading.specs.Mode.{is_direct, reads_arguments, at_a_line, first_signs}
use Rattle.nr_reading.specs.Nesting.{pushed, may_nest, is_none}
use Rattle.nr_reading.specs.Noting.{noted, no_notes}
use Rattle.nr_reading.specs.Reader.{read, read_over, direct}
use Rattle.nr_reading.specs.Spelled.{name_of}

-- what is half read after an item, what it tells, and whether it is taken
pub record TakenIn : Type 0 where
  pub half : Half
  pub event : Event
  pub takes : Bool

-- the same, as the program has it
abbrev pub taken_in : Half → Seen → TakenIn
taken_in h seen = record { half = h; event = seen.event; takes = seen.takes }

-- nothing is half read
abbrev pub nothing_half : Half
nothing_half =
    record { reading = at_a_line; signs = first_signs; asks = []; delimited = no_texts; notes = no_notes }

-- ---- an escape whose argument is still to be read begins

abbrev pub asking : Ask → Half → Half
asking a h = record h {
  asks = pushed a h.asks;
  delimited = if has_text a.kind then begun_text h.delimited else h.delimited;
}

-- An interpolation that is nested too deep gives the empty name: a register that is undefined, and else nothing.
abbrev pub too_deep : Kind → Half → Half
too_deep (kinds.Register s) h = record h {
  reading = record h.reading { pending_act = pending_acts.Register signs.None };
  notes = record h.notes { asked = [] };
}
too_deep k h = h

abbrev pub beginning : Kind → Half → Half
beginning k h = if may_nest h.reading.mode h.asks then asking (begun_ask k) h else too_deep k h

-- ---- it is settled whether the element is taken

-- An escape ends with the element that it gives; one that is begun stays begun where the element is left; a comment
-- ends before the newline.
abbrev pub left_escape : Escape → Escape
left_escape escapes.Comment = escapes.Plain
left_escape e = e

abbrev pub escape_after : Bool → Escape → Escape
escape_after true e = escapes.Plain
escape_after false e = left_escape e

-- `next_item` says whether the next item is the element
abbrev pub settled : Bool → Bool → Event → Half → TakenIn
settled takes next_item event h = record {
  half = record h { reading = record h.reading { escape = escape_after takes h.reading.escape } };
  event = event;
  takes = takes && next_item;
}

-- ---- an element comes to an escape

-- the others stay
abbrev pub replaced : Ask → Half → Half
replaced a h = record h { asks = a ∷ drop 1 h.asks }

-- it has ended: its name and its text are what was asked for
abbrev pub finished : Ask → Half → Half
finished a h = record h {
  reading = record h.reading { pending_act = pending_of a.kind (name_of a.name) };
  asks = drop 1 h.asks;
  delimited = if has_text a.kind then ended_text h.delimited else h.delimited;
  notes = record h.notes { asked = name_of a.name };
}

-- the number of an argument was read
abbrev pub argued : ℕ → Half → Half
argued n h = record h { reading = record h.reading { pending_act = pending_acts.Argument n }; asks = drop 1 h.asks }

abbrev pub longer : ℕ → Half → Half
longer b h = record h { delimited = with_text_byte b h.delimited }

abbrev pub answered : Bool → Answer → Half → TakenIn
answered next_item (answers.Goes a) h = settled true next_item events.Nothing (replaced a h)
answered next_item (answers.Turns a) h = settled false next_item events.Nothing (replaced a h)
answered next_item (answers.Keeps b) h = settled true next_item events.Nothing (longer b h)
answered next_item (answers.Ends a) h = settled true next_item (event_of a.kind (name_of a.name)) (finished a h)
answered next_item (answers.Stops a) h = settled false next_item (event_of a.kind (name_of a.name)) (finished a h)
answered next_item (answers.Argument n) h = settled true next_item events.Nothing (argued n h)

-- ---- an element comes to the reader

-- escapes of the text whose arguments are still to be read
abbrev pub asked_by : Note → Half → Half
asked_by (notes.Begin a) h = asking a h
asked_by n h = h

-- what was noted, the reader having gone on
abbrev pub noted_in : Note → Half → Half
noted_in n h = asked_by n (record h { notes = noted n h.notes })

abbrev pub stepped : Step → Half → Half
stepped s h = asked_by s.note (record h { reading = s.reading; notes = noted s.note h.notes })

-- items as they are
abbrev pub taken_in_directly : Step → Half → TakenIn
taken_in_directly s h = record { half = stepped s h; event = s.event; takes = s.takes }

abbrev pub taken_in_copied : Bool → Step → Half → TakenIn
taken_in_copied next_item s h = settled s.takes next_item s.event (stepped s h)

-- ---- the next item, in copy mode: it comes to the newest escape, and to the reader where there is none

abbrev pub hear_by : List Ask → Bool → ℕ → Half → TakenIn
hear_by [] next_item b h = taken_in_copied next_item (read b h.signs h.notes h.reading) h
hear_by (a ∷ asks) next_item b h = answered next_item (answer b h.signs.long a) h

abbrev pub over_by : List Ask → Half → TakenIn
over_by [] h = taken_in_copied false (read_over h.signs h.notes h.reading) h
over_by (a ∷ asks) h = answered false (answer (code "\n") h.signs.long a) h

-- with another part of an escape read
abbrev pub escaping : Escape → Half → Half
escaping e h = record h { reading = record h.reading { escape = e } }

abbrev pub silent : Half → TakenIn
silent h = record { half = h; event = events.Nothing; takes = true }

abbrev pub offered : Offer → Half → TakenIn
offered (offers.Skip e) h = silent (escaping e h)
offered (offers.Begin k) h = silent (beginning k (escaping escapes.Plain h))
offered (offers.Byte b) h = hear_by h.asks true b h
offered offers.Backslash h = hear_by h.asks false (code "\\") h
offered offers.Over h = over_by h.asks h

-- what the next item is to an escape
abbrev pub offer_to : Kind → NextItem → Escape → Offer
offer_to k f e = if is_size k then raw_offer f e else offer f e (reads_argument k)

-- ---- the next item

abbrev pub take_in_by : List Ask → NextItem → Half → TakenIn
take_in_by [] f h =
    if is_direct h.reading.mode then taken_in_directly (direct f h.signs h.reading) h
    else offered (offer f h.reading.escape (reads_arguments h.reading.mode)) h
take_in_by (a ∷ asks) f h = offered (offer_to a.kind f h.reading.escape) h

abbrev pub take_in : NextItem → Half → TakenIn
take_in f h = take_in_by h.asks f h

-- what the next item is in copy mode
abbrev pub offer_by : List Ask → NextItem → Half → Offer
offer_by [] f h = offer f h.reading.escape (reads_arguments h.reading.mode)
offer_by (a ∷ asks) f h = offer_to a.kind f h.reading.escape

-- items are read as they are, after no escape whose argument is half read
abbrev pub reads_directly : Half → Bool
reads_directly h = is_none h.asks && is_direct h.reading.mode

-- no part of an escape is half read
abbrev pub reads_plainly_at : List Ask → Escape → Bool
reads_plainly_at [] escapes.Plain = true
reads_plainly_at asks e = false

abbrev pub reads_plainly : Half → Bool
reads_plainly h = reads_plainly_at h.asks h.reading.escape

-- an item is read next, and no part of an escape is half read
abbrev pub reads_next_at : PendingAct → List Ask → Escape → Bool
reads_next_at pending_acts.Look asks e = reads_plainly_at asks e
reads_next_at d asks e = false

abbrev pub reads_next : Half → Bool
reads_next h = reads_next_at h.reading.pending_act h.asks h.reading.escape
