-- How many moves what is half read may still bring before an item is taken.
use Rattle.std.specs.Prelude.{◌≡◌, ℕ, ◌+◌, ◌-◌, ◌*◌, ◌≤◌, min, max, Bool, true, false, sum_by}
use Rattle.nr_reading.specs.declared.ask.Ask.{Ask}
use Rattle.nr_reading.specs.declared.ask.Sign.TheVariants as signs
use Rattle.nr_reading.specs.declared.ask.Stage.{Stage}
use Rattle.nr_reading.specs.declared.ask.Stage.TheVariants as stages
use Rattle.nr_reading.specs.declared.event.Event.{Event}
use Rattle.nr_reading.specs.declared.event.Event.TheVariants as events
use Rattle.nr_reading.specs.declared.next_item.NextItem.{NextItem}
use Rattle.nr_reading.specs.declared.next_item.NextItem.TheVariants as next_items
use Rattle.nr_reading.specs.declared.half.Half.{Half}
use Rattle.nr_reading.specs.declared.half.Seen.{Seen}
use Rattle.nr_reading.specs.declared.mode.PendingAct.{PendingAct}
use Rattle.nr_reading.specs.declared.mode.PendingAct.TheVariants as pending_acts
use Rattle.nr_reading.specs.declared.mode.Escape.{Escape}
use Rattle.nr_reading.specs.declared.mode.Escape.TheVariants as escapes
use Rattle.nr_reading.specs.declared.mode.Mode.{Mode}
use Rattle.nr_reading.specs.declared.mode.Mode.TheVariants as modes
use Rattle.nr_reading.specs.declared.mode.Reading.{Reading}

-- ---- amounts, each in moves

-- what an item that is text pays
abbrev pub item_worth : ℕ
item_worth = 256

-- what may begin a word: the move that reads it, the move that collects it, and the 176 that its word may bring with a piece
-- and a stop
abbrev pub cost_of_text : ℕ
cost_of_text = 178

-- a special character: it may be a dash, whose second cell is a move of its own and may begin a word too
abbrev pub cost_of_special : ℕ
cost_of_special = 367

-- anything else that is emitted, as the end of a line
abbrev pub cost_of_other : ℕ
cost_of_other = 20

-- A line that has begun may end where the input ends: the end is emitted, of text that of its last word before.
abbrev pub weight_of_start : ℕ
weight_of_start = cost_of_other

abbrev pub weight_of_text : ℕ
weight_of_text = weight_of_start + cost_of_other

-- what may set what is read next, a title's text at most: a request, a condition, a title
abbrev pub cost_of_setting : ℕ
cost_of_setting = weight_of_text + 32

-- a request's line, whose end tells the request
abbrev pub weight_of_request : ℕ
weight_of_request = weight_of_start + cost_of_setting

-- a name that is looked up: it may be a request's, or nobody's
abbrev pub weight_of_sought : ℕ
weight_of_sought = weight_of_request + cost_of_other

-- after a condition that is judged the line goes on, or is skipped
abbrev pub weight_of_judged : ℕ
weight_of_judged = weight_of_start + 2

-- an argument that is half read: it may end at once, and tell a special character; after a sign that may be there it goes on
abbrev pub weight_of_argument : ℕ
weight_of_argument = cost_of_special + 1

-- A `\` that begins the line's text, or goes on in it: with the item after it, it pays for an argument that it may begin.
abbrev pub backslash_in_text : ℕ
backslash_in_text = weight_of_argument + 3 - item_worth

-- Elsewhere it pays besides what the text in its place weighs.
abbrev pub backslash_elsewhere : ℕ
backslash_elsewhere = backslash_in_text + weight_of_text + 1

-- ---- events and items

-- What a move costs by what it tells: the move itself, and the moves of those to whom something is emitted. They count the end of
-- the input and the blanks of a line's beginning themselves.
abbrev pub cost_of_event : Event → ℕ
cost_of_event events.Nothing = 1
cost_of_event events.Over = 0
cost_of_event events.Lead = 0
cost_of_event (events.Byte b) = cost_of_text
cost_of_event (events.Cell x) = cost_of_text
cost_of_event (events.Plain b) = cost_of_text
cost_of_event events.Fixed = cost_of_text
cost_of_event events.Zero = cost_of_text
cost_of_event events.Tab = cost_of_text
cost_of_event events.Leader = cost_of_text
cost_of_event events.Horizontal = cost_of_text
cost_of_event events.Rule = cost_of_text
cost_of_event events.Special = cost_of_special
cost_of_event events.Request = cost_of_setting
cost_of_event (events.Judge q) = cost_of_setting
cost_of_event events.Title = cost_of_setting
cost_of_event e = cost_of_other

-- What an item that is taken pays: a mark its own move, the end of the input nothing.
abbrev pub worth_of_item : NextItem → ℕ
worth_of_item next_items.Mark = 1
worth_of_item next_items.Resume = 1
worth_of_item next_items.Over = 0
worth_of_item f = item_worth

abbrev pub paid_by : Bool → ℕ → ℕ
paid_by true worth = worth
paid_by false worth = 0

-- ---- the mode: what may come before it takes an item, at the end of a line what that tells

-- in a definition's line, so many bytes being held back
abbrev pub weight_of_held : ℕ → ℕ
weight_of_held held = weight_of_start + 2 + 5 * min 1 held + held

abbrev pub weight_of_mode : Mode → ℕ
weight_of_mode modes.Diverting = 0
weight_of_mode modes.Start = weight_of_start
weight_of_mode modes.Accepted = weight_of_start + 1
weight_of_mode (modes.Skip n) = weight_of_start + 1
weight_of_mode modes.Text = weight_of_text
weight_of_mode modes.TitleBefore = weight_of_text
weight_of_mode (modes.Title d n) = weight_of_text
weight_of_mode modes.TitleRest = weight_of_text
weight_of_mode modes.Diverted = weight_of_text
weight_of_mode modes.Continued = weight_of_text + 1
weight_of_mode modes.Interrupted = weight_of_text + 1
weight_of_mode (modes.Leading n) = weight_of_text + 1
weight_of_mode modes.Drop = weight_of_start + 1
weight_of_mode modes.Transparent = weight_of_start + 2
weight_of_mode modes.MacroGap = weight_of_start + 2
weight_of_mode modes.MacroBlanks = weight_of_start + 3
weight_of_mode modes.Word = weight_of_start + 4
weight_of_mode modes.Quoted = weight_of_start + 4
weight_of_mode modes.Quote = weight_of_start + 4
weight_of_mode modes.StringText = weight_of_start + 2
weight_of_mode modes.StringBlanks = weight_of_start + 4
weight_of_mode modes.StringName = weight_of_start + 5
weight_of_mode modes.StringBefore = weight_of_start + 6
weight_of_mode modes.BodyEnd = weight_of_start + 3
weight_of_mode modes.Body = weight_of_start + 4
weight_of_mode (modes.BodyStart held) = weight_of_held held
weight_of_mode (modes.First d) = weight_of_start + 3
weight_of_mode (modes.Second d) = weight_of_start + 3
weight_of_mode modes.RequestLine = weight_of_request
weight_of_mode modes.RequestBlanks = weight_of_request + 1
weight_of_mode (modes.Number depth) = weight_of_request + 1
weight_of_mode modes.Condition = weight_of_request + 2
weight_of_mode modes.Name = weight_of_sought + 1
weight_of_mode modes.Control = weight_of_sought + 2

-- ---- what is pending

abbrev pub weight_of_pending_act : PendingAct → ℕ
weight_of_pending_act pending_acts.Look = 0
weight_of_pending_act pending_acts.Expanded = 0
weight_of_pending_act (pending_acts.Lead n) = 0
weight_of_pending_act (pending_acts.Release held n b) = (held - n) + 2
weight_of_pending_act pending_acts.DefineAndCall = 2
weight_of_pending_act (pending_acts.Register signs.Plus) = 2
weight_of_pending_act (pending_acts.Register signs.Minus) = 2
weight_of_pending_act d = 1

-- ---- a `\` that is begun: it begins the line's text, or is an element itself

abbrev pub weight_of_backslash : Mode → ℕ
weight_of_backslash modes.Text = backslash_in_text
weight_of_backslash modes.Interrupted = backslash_in_text
weight_of_backslash modes.Continued = backslash_in_text
weight_of_backslash (modes.Leading n) = backslash_in_text
weight_of_backslash modes.TitleBefore = backslash_in_text
weight_of_backslash (modes.Title d n) = backslash_in_text
weight_of_backslash modes.Diverted = backslash_in_text
weight_of_backslash m = backslash_elsewhere

abbrev pub weight_of_escape : ℕ → Escape → ℕ
weight_of_escape n escapes.Begun = n
weight_of_escape n e = 0

-- ---- all of it

-- how many bytes of a definition's line are held back
abbrev pub held_by_mode : Mode → ℕ
held_by_mode (modes.BodyStart held) = held
held_by_mode m = 0

-- After a name that is looked up, and after a condition that is judged, another mode follows.
abbrev pub weight_by : PendingAct → Mode → Escape → ℕ
weight_by pending_acts.Seek m e = weight_of_sought + held_by_mode m + weight_of_escape backslash_elsewhere e
weight_by (pending_acts.Judge b) m e = weight_of_judged + held_by_mode m + weight_of_escape backslash_elsewhere e
weight_by d m e = weight_of_mode m + weight_of_pending_act d + weight_of_escape (weight_of_backslash m) e

abbrev pub weight_of_reading : Reading → ℕ
weight_of_reading r = weight_by r.pending_act r.mode r.escape

-- an escape whose argument is half read: it may end at once, and tell that
abbrev pub weight_of_stage : Stage → ℕ
weight_of_stage stages.Sign = weight_of_argument
weight_of_stage s = cost_of_special

abbrev pub weight_of_ask : Ask → ℕ
weight_of_ask a = weight_of_stage a.stage

abbrev pub weight_of_half : Half → ℕ
weight_of_half h = weight_of_reading h.reading + sum_by weight_of_ask h.asks

-- ---- the blanks of a line's beginning, which may all become cells before the next item

abbrev pub blanks_of_mode : Mode → ℕ
blanks_of_mode (modes.Leading n) = max 1 n
blanks_of_mode m = 0

abbrev pub blanks_of_pending : PendingAct → ℕ
blanks_of_pending (pending_acts.Lead n) = max 1 n
blanks_of_pending d = 0

abbrev pub blanks_owed : Half → ℕ
blanks_owed h = blanks_of_mode h.reading.mode + blanks_of_pending h.reading.pending_act

-- ---- an item pays for what comes of it

-- one of the blanks that are owed is emitted
abbrev pub is_lead : Event → Bool
is_lead events.Lead = true
is_lead e = false

-- What it leads to and tells weighs no more than what was half read, and what is taken of it. A blank more that is owed costs
-- as text does.
pub record PaysFor (f : NextItem) (old new : Half) (seen : Seen) : Type 0 where
  pub pays : weight_of_half new + cost_of_event seen.event
      + cost_of_text * (blanks_owed new - blanks_owed old)
      ≤ weight_of_half old + paid_by seen.takes (worth_of_item f)
  pub tells : is_lead seen.event ≡ false
