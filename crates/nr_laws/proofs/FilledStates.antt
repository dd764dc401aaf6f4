-- What holds of the states that filled text leads to, and the output that they lead to.
use Rattle.std.specs.Prelude.{◌*◌, ◌&&◌}
use Rattle.std.proofs.Common.{◌≡◌, ℕ, ◌≤◌, Bool, true, false, List, [], ◌∷◌, ◌++◌, length}
use Rattle.nr_fill.specs.Piece.{Collected, is_nil, begins_line}
use Rattle.nr_page.specs.Grid.{Placed}
use Rattle.nr_reading.specs.declared.event.Event.{Event}
use Rattle.nr_reading.specs.declared.event.Event.TheVariants as events
use Rattle.nr_reading.specs.declared.mode.PendingAct.{PendingAct}
use Rattle.nr_reading.specs.declared.mode.Mode.{Mode}
use Rattle.nr_reading.specs.declared.mode.Mode.TheVariants as modes
use Rattle.nr_input.specs.Acting.{is_look}
use Rattle.nr_formatter.specs.declared.tasks.Task.{Task}
use Rattle.nr_formatter.specs.declared.tasks.Task.TheVariants as tasks
use Rattle.nr_formatter.specs.declared.tasks.Then.{Then}
use Rattle.nr_formatter.specs.declared.tasks.Then.TheVariants as thens
use Rattle.nr_formatter.specs.Access.{collected}
use Rattle.nr_formatter.specs.Places.{is_open}
use Rattle.nr_machine.specs.State.{State}
use Rattle.nr_machine.specs.Printing.{text}
use Rattle.nr_laws.specs.FilledText.{is_filled_from, first_margins, text_of}
use Rattle.nr_laws.proofs.FilledPages.{Consecutive, rows_shown}
use Rattle.nr_laws.proofs.FilledPieces.{rows_after}

-- ---- where the machine may be

abbrev pub is_start : Mode → Bool
is_start modes.Start = true
is_start m = false

-- not among the blanks at a line's beginning
abbrev pub is_past_lead : Mode → Bool
is_past_lead (modes.Leading n) = false
is_past_lead m = true

-- what is emitted is neither an empty line nor a blank at a line's beginning
abbrev pub is_of_words : Event → Bool
is_of_words events.Lead = false
is_of_words events.Leading = false
is_of_words events.Empty = false
is_of_words e = true

abbrev pub is_last_break : Then → Bool
is_last_break thens.Finish = true
is_last_break t = false

-- no line is broken before the end
abbrev pub is_unbroken : Task → Bool
is_unbroken (tasks.Break t) = is_last_break t
is_unbroken (tasks.Space n) = false
is_unbroken t = true

-- what is always so where filled text is read: the mode, what is pending, what was emitted, what is under way, and what is to come
pub record InFilledText (m : Mode) (d : PendingAct) (e : Event) (k : Task) (bs : List ℕ) (i : Bool) : Type 0 where
  pub goes : (is_look d && (is_past_lead m && (is_of_words e && is_unbroken k))) ≡ true
  pub bytes : is_filled_from (is_start m) bs ≡ true
  pub inside : is_start m ≡ true → i ≡ false

-- and of the line and the page: the pieces, the lines placed, the place, and whether a page is open
pub record OnFilledPage (c : Collected) (ls : List Placed) (place : ℕ) (open_page : Bool) : Type 0 where
  pub rows : Consecutive 0 ls
  pub down : open_page ≡ true → place ≡ 40 * length ls
  pub few : length ls ≤ 66
  pub begun : open_page ≡ true → ls ≡ [] → is_nil c.pieces ≡ false
  pub measure : begins_line c ≡ false → c.margins ≡ first_margins

abbrev pub ReadsFilled : State → Type 0
ReadsFilled s = InFilledText s.formatter.reader.half.reading.mode s.formatter.reader.half.reading.pending_act s.formatter.event s.formatter.task s.coming.supply.bytes s.coming.inside

abbrev pub PrintsFilled : State → Type 0
PrintsFilled s = OnFilledPage (collected s.formatter) s.lines s.formatter.paper.place (is_open s.formatter.paper.state)

-- ---- the output that a state leads to

-- the byte that was emitted and is not acted on yet
abbrev pub event_bytes : Event → List ℕ
event_bytes (events.Byte b) = b ∷ []
event_bytes events.EndLine = 10 ∷ []
event_bytes e = []

-- the pages that have ended, the open one, and all that is to come
abbrev pub output_of : State → List ℕ
output_of s = text s.pages ++ text_of s.faces (rows_shown s.lines ++ rows_after (collected s.formatter) (event_bytes s.formatter.event ++ s.coming.supply.bytes))

-- a state leads to another, and to the same output
pub record Continues (s t : State) : Type 0 where
  pub reads : ReadsFilled t
  pub prints : PrintsFilled t
  pub same : output_of t ≡ output_of s

abbrev pub Fills : State → State → Type 0
Fills s t = ReadsFilled s → PrintsFilled s → Continues s t

-- filled text does not come here
pub never_here : {A : Type 0} → false ≡ true → A
never_here e = absurd (cc)
