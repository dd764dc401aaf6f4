-- The states that plain text leads to, and what they hold of it.
use Rattle.std.specs.Prelude.{◌/◌}
use Rattle.std.proofs.Common.{◌≡◌, ℕ, ◌≤◌, Bool, true, false, List, [], ◌∷◌, ◌++◌, None, ap, sym, subst, ◌∙◌}
use Rattle.nr_fill.specs.Piece.{Collected}
use Rattle.nr_page.specs.Grid.{Placed}
use Rattle.nr_reading.specs.declared.event.Event.{Event}
use Rattle.nr_reading.specs.declared.event.Event.TheVariants as events
use Rattle.nr_reading.specs.declared.mode.PendingAct.{PendingAct}
use Rattle.nr_reading.specs.declared.mode.PendingAct.TheVariants as pending_acts
use Rattle.nr_reading.specs.declared.mode.Escape.TheVariants as escapes
use Rattle.nr_reading.specs.declared.mode.Mode.{Mode}
use Rattle.nr_reading.specs.declared.mode.Mode.TheVariants as modes
use Rattle.nr_reading.specs.Mode.{first_signs}
use Rattle.nr_settings.specs.Settings.{first_settings}
use Rattle.nr_formatter.specs.declared.tasks.After.TheVariants as afters
use Rattle.nr_formatter.specs.declared.tasks.Ejected.TheVariants as ejecteds
use Rattle.nr_formatter.specs.declared.tasks.Step.{Step}
use Rattle.nr_formatter.specs.declared.tasks.Step.TheVariants as steps
use Rattle.nr_formatter.specs.declared.tasks.Task.{Task}
use Rattle.nr_formatter.specs.declared.tasks.Task.TheVariants as tasks
use Rattle.nr_formatter.specs.declared.tasks.Then.TheVariants as thens
use Rattle.nr_formatter.specs.Access.{collected}
use Rattle.nr_formatter.specs.Places.{is_open}
use Rattle.nr_machine.specs.State.{State}
use Rattle.nr_machine.specs.Printing.{text}
use Rattle.nr_laws.specs.PlainText.{squeezed, is_plain_from}
use Rattle.nr_laws.proofs.PlainPages.{Ascends, Above, lines_ink}
use Rattle.nr_laws.proofs.PlainLines.{Clean, collected_ink}
use Rattle.nr_laws.proofs.FilledStates.{Fills}

-- a state with all that plain text never changes as it is at first, and with these moves before it
abbrev pub calm : Mode → PendingAct → Event → Task → Step → List ℕ → Bool → State → State
calm m d e t p bs i s = record s {
  chosen = [];
  coming = record s.coming { supply = record s.coming.supply { bytes = bs }; inside = i };
  formatter = record s.formatter {
    reader = record s.formatter.reader {
      half = record s.formatter.reader.half {
        reading = record s.formatter.reader.half.reading { mode = m; escape = escapes.Plain; pending_act = d; continued = false };
        signs = first_signs;
        asks = [];
      };
    };
    store = record s.formatter.store { building = []; levels = []; traps = []; words = [] };
    settings = record first_settings { text_width = s.formatter.settings.text_width };
    event = e;
    springs = None;
    task = t;
    breaks = false;
    input_trap = None;
    step = p;
    end_macro = None;
  };
  row = [];
  select = None;
}

-- blanks at a line's beginning may still be owed
pub data Owes : PendingAct → Type 0 where
  Nothing : Owes pending_acts.Look
  Blanks : (n : ℕ) → Owes (pending_acts.Lead n)

-- steps of the end, but the last
abbrev pub is_before_last : Step → Bool
is_before_last steps.LastPage = false
is_before_last p = true

abbrev pub is_break : Step → Bool
is_break steps.FirstBreak = true
is_break steps.SecondBreak = true
is_break p = false

-- where the machine may be in plain text, and what is still to come
pub data Phase : Mode → PendingAct → Event → Task → Step → List ℕ → Bool → Type 0 where
  AtStart : {bs : List ℕ} {i : Bool} → is_plain_from true bs ≡ true → Phase modes.Start pending_acts.Look events.Nothing tasks.Read steps.NotYet bs i
  InLead : {bs : List ℕ} {i : Bool} → (n : ℕ) → is_plain_from false bs ≡ true → Phase (modes.Leading n) pending_acts.Look events.Nothing tasks.Read steps.NotYet bs i
  InText : {d : PendingAct} {bs : List ℕ} {i : Bool} → Owes d → is_plain_from false bs ≡ true → Phase modes.Text d events.Nothing tasks.Read steps.NotYet bs i
  HearsByte : {bs : List ℕ} {i : Bool} → (b : ℕ) → 32 ≤ b → b ≤ 126 → is_plain_from false bs ≡ true → Phase modes.Text pending_acts.Look (events.Byte b) tasks.Read steps.NotYet bs i
  HearsLead : {d : PendingAct} {bs : List ℕ} {i : Bool} → Owes d → is_plain_from false bs ≡ true → Phase modes.Text d events.Lead tasks.Read steps.NotYet bs i
  HearsLeading : {bs : List ℕ} {i : Bool} → is_plain_from false bs ≡ true → Phase (modes.Leading 1) pending_acts.Look events.Leading tasks.Read steps.NotYet bs i
  HearsEmpty : {bs : List ℕ} {i : Bool} → is_plain_from true bs ≡ true → Phase modes.Start pending_acts.Look events.Empty tasks.Read steps.NotYet bs i
  HearsEnd : {bs : List ℕ} {i : Bool} → is_plain_from true bs ≡ true → Phase modes.Start pending_acts.Look events.EndLine tasks.Read steps.NotYet bs i
  HearsOver : Phase modes.Start pending_acts.Look events.Over tasks.Read steps.NotYet [] false
  FlowsText : {bs : List ℕ} {i : Bool} → is_plain_from false bs ≡ true → Phase modes.Text pending_acts.Look events.Nothing (tasks.Flow afters.Text false) steps.NotYet bs i
  FlowsLine : {bs : List ℕ} {i : Bool} → is_plain_from true bs ≡ true → Phase modes.Start pending_acts.Look events.Nothing (tasks.Flow afters.Line false) steps.NotYet bs i
  Counts : {bs : List ℕ} {i : Bool} → is_plain_from true bs ≡ true → Phase modes.Start pending_acts.Look events.Nothing tasks.Count steps.NotYet bs i
  CountsInput : {bs : List ℕ} {i : Bool} → is_plain_from true bs ≡ true → Phase modes.Start pending_acts.Look events.Nothing tasks.InputTrap steps.NotYet bs i
  BreaksEmpty : {bs : List ℕ} {i : Bool} → is_plain_from true bs ≡ true → Phase modes.Start pending_acts.Look events.Nothing (tasks.Break thens.Space) steps.NotYet bs i
  Spaces : {bs : List ℕ} {i : Bool} → (n : ℕ) → is_plain_from true bs ≡ true → Phase modes.Start pending_acts.Look events.Nothing (tasks.Space n) steps.NotYet bs i
  BreaksLeading : {bs : List ℕ} {i : Bool} → is_plain_from false bs ≡ true → Phase (modes.Leading 1) pending_acts.Look events.Nothing (tasks.Break thens.Leading) steps.NotYet bs i
  Finishes : (p : Step) → is_before_last p ≡ true → Phase modes.Start pending_acts.Look events.Nothing tasks.Finish p [] false
  BreaksLast : (p : Step) → is_break p ≡ true → Phase modes.Start pending_acts.Look events.Nothing (tasks.Break thens.Finish) p [] false
  Ejects : Phase modes.Start pending_acts.Look events.Nothing (tasks.Eject ejecteds.Finish) steps.LastPage [] false
  Halts : Phase modes.Start pending_acts.Look events.Nothing tasks.Halted steps.LastPage [] false

-- after the first break of the end nothing is collected
abbrev pub Drained : Step → Collected → Type 0
Drained steps.NotYet c = Unit {0}
Drained steps.FirstBreak c = Unit {0}
Drained p c = (c.pieces ≡ []) × (c.word ≡ None)

-- the last page is being ejected before the run is over, and when it is over no page is open
abbrev pub Closed : Task → List Placed → Bool → Type 0
Closed (tasks.Eject e) ls ejecting = ejecting ≡ true
Closed tasks.Halted ls ejecting = ls ≡ []
Closed t ls ejecting = Unit {0}

-- what is always so of the line and the page: the pieces, the lines placed, the place, whether a page is open, and whether it is being ejected
pub record Orderly (t : Task) (p : Step) (c : Collected) (ls : List Placed) (place : ℕ) (open_page ejecting : Bool) : Type 0 where
  pub clean : Clean c
  pub ascends : Ascends 0 ls
  pub above : Above (place / 40) ls
  pub shut : open_page ≡ false → ls ≡ []
  pub drained : Drained p c
  pub closed : Closed t ls ejecting

abbrev pub OrderlyIn : Task → Step → State → Type 0
OrderlyIn t p s = Orderly t p (collected s.formatter) s.lines s.formatter.paper.place (is_open s.formatter.paper.state) s.formatter.paper.ejecting

-- a state that plain text leads to
pub record Fine (s : State) : Type 0 where
  pub mode : Mode
  pub pending_act : PendingAct
  pub event : Event
  pub task : Task
  pub stage : Step
  pub bytes : List ℕ
  pub inside : Bool
  pub is : s ≡ calm mode pending_act event task stage bytes inside s
  pub phase : Phase mode pending_act event task stage bytes inside
  pub orderly : OrderlyIn task stage s

-- what was emitted and is not acted on yet
abbrev pub event_ink : Event → List ℕ
event_ink (events.Byte b) = squeezed (b ∷ [])
event_ink e = []

-- all of the text, less blanks and newlines: what has gone out, what is held, and what is to come
abbrev pub whole : State → List ℕ
whole s = squeezed (text s.pages) ++ (lines_ink s.faces s.lines ++ (collected_ink s.faces (collected s.formatter) ++ (event_ink s.formatter.event ++ squeezed s.coming.supply.bytes)))

-- one state leads to another, no ink is lost, and filled text leads to the same output
pub record Keeps (s t : State) : Type 0 where
  pub fine : Fine t
  pub same : whole t ≡ whole s
  pub fills : Fills s t

pub keeps : (c u t : State) (m : Mode) (d : PendingAct) (e : Event) (k : Task) (p : Step) (bs : List ℕ) (i : Bool)
    → u ≡ t → t ≡ calm m d e k p bs i t → Phase m d e k p bs i → OrderlyIn k p t → whole t ≡ whole c → Fills c t → Keeps c u
keeps c u t m d e k p bs i leads is phase o same fills = record {
  fine = subst Fine (sym leads) (record { mode = m; pending_act = d; event = e; task = k; stage = p; bytes = bs; inside = i; is = is; phase = phase; orderly = o });
  same = ap whole leads ∙ same;
  fills = subst (Fills c) (sym leads) fills;
}
