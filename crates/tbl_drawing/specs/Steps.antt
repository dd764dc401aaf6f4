-- The lines of a table, from its top to its bottom (Lesk, "Data" and "Global options"; tbl(1), "Region options"): rows in their order, with
-- the rules among them. A box has a rule above and below, allbox one between rows too, a double box two of each; a rule that stands first or
-- last in a box is one of its own. A request stands where it is; after a row with bars one of space gives lines of these bars.
use Rattle.std.specs.Prelude.{ℕ, zero, suc, ◌+◌, ◌-◌, min, Bool, true, false, ◌==◌, ◌&&◌, ◌||◌, not, nat_lt, length, Option, None, Some, if◌then◌else◌}
use Rattle.tbl_columns.specs.declared.grid.Cell.{Cell}
use Rattle.tbl_columns.specs.declared.grid.Placed.{Placed}
use Rattle.tbl_columns.specs.Frames.{has_bars, is_covered}
use Rattle.tbl_columns.specs.Held.{cell_number, columns, placed}
use Rattle.tbl_drawing.specs.declared.layout.Layout.{Layout}
use Rattle.tbl_drawing.specs.declared.layout.Step.{Step}
use Rattle.tbl_drawing.specs.declared.layout.StepKind.{StepKind}
use Rattle.tbl_drawing.specs.declared.layout.StepKind.TheVariants as steps
use Rattle.tbl_drawing.specs.declared.steps.Walk.{Walk}
use Rattle.tbl_drawing.specs.Held.{lines_of, step, tall}
use Rattle.tbl_table.specs.declared.table.Item.{Item}
use Rattle.tbl_table.specs.declared.table.Item.TheVariants as items
use Rattle.tbl_table.specs.declared.table.Span.{Span}
use Rattle.tbl_table.specs.Held.{is_all, is_boxed, is_double, item, none_of, row, some_print, text_of}
use Rattle.tbl_table.specs.Lists.{added, in_turn, put}
use Rattle.tbl_table.specs.Requests.{open_after, space_of}
use Rattle.tbl_table.specs.Sums.{sum}

abbrev pub is_rule_item : Item → Bool
is_rule_item items.Rule = true
is_rule_item i = false

-- ---- a walk over what stands below one another: its layout, the last row that takes room, which row is the next, whether a rule waits for
-- the row below, how many conditions over several lines are open, and the lines so far

pub record Walking : Type 0 where
  pub layout : Layout
  pub walk : Walk

abbrev pub walking : Layout → Walk → Walking
walking l walk = record { layout = l; walk = walk }

-- so many lines more
abbrev pub with_lines : ℕ → Walk → Walk
with_lines lines w = record w { line = sum w.line lines }

abbrev pub with_rule : Bool → Walk → Walk
with_rule ruled w = record w { ruled = ruled }

abbrev pub with_row : Option ℕ → Bool → Walk → Walk
with_row last ruled w = record w { last = last; ruled = ruled }

abbrev pub with_next : ℕ → Walk → Walk
with_next row w = record w { next = row }

abbrev pub with_open : ℕ → Walk → Walk
with_open conditions w = record w { opened = conditions }

abbrev pub ruled : Bool → Walking → Walking
ruled waits w = record w { walk = with_rule waits w.walk }

abbrev pub after_row : ℕ → Bool → Walking → Walking
after_row r waits w = record w { walk = with_row (Some r) waits w.walk }

abbrev pub step_at : StepKind → ℕ → Step
step_at kind line = record { kind = kind; line = line }

abbrev pub stepped : StepKind → ℕ → Walking → Walking
stepped kind lines w = record {
  layout = record w.layout { steps = added (step_at kind w.walk.line) w.layout.steps };
  walk = with_lines lines w.walk;
}

-- one that puts a line in which no field stands
abbrev pub one_more : Walking → Walking
one_more w = record w { walk = record w.walk { more = sum w.walk.more 1 } }

abbrev pub other : StepKind → Walking → Walking
other kind w = one_more (stepped kind 0 w)

-- a rule that waits goes out above the row below
abbrev pub released : Option ℕ → Walking → Walking
released below w = if w.walk.ruled then stepped (steps.Rule w.walk.last below) 1 w else w

-- so many columns from one on, over one of which a field goes on between two rows
abbrev pub some_covered : ℕ → Layout → Option ℕ → Option ℕ → ℕ → Bool
some_covered zero l above below c = false
some_covered (suc n) l above below c = is_covered l.grid above below c || some_covered n l above below (c + 1)

-- before another rule, or before space, it stands above the next row where a field goes on over it, and else above the row before
abbrev pub row_beside : Layout → Walk → Option ℕ
row_beside l walk =
    if nat_lt walk.next (length l.grid.table.rows.items) && some_covered (columns l.grid) l walk.last (Some walk.next) 0
    then Some walk.next else walk.last

abbrev pub released_beside : Walking → Walking
released_beside w = released (row_beside w.layout w.walk) w

-- lines of a row's bars
abbrev pub barred : ℕ → ℕ → Walking → Walking
barred r lines w = stepped (steps.Bars r lines) lines (ruled false (released_beside w))

-- after a row with bars a request of space gives lines of these
abbrev pub row_in : Layout → Option ℕ → Option ℕ → Option ℕ
row_in l (Some lines) (Some r) = if has_bars l.grid r then Some r else None
row_in l space last = None

abbrev pub row_asked : Layout → Option ℕ → Walk → Option ℕ
row_asked l space walk = row_in l space walk.last

abbrev pub asked : Option ℕ → Option ℕ → Span → Walking → Walking
asked (Some lines) (Some r) s w = barred r lines w
asked space row s w = other (steps.Request s) w

-- not in a condition that is open: the formatter may pass over it
abbrev pub space_in : Layout → Walk → Span → Option ℕ
space_in l walk s = if walk.opened == 0 then space_of (text_of l.grid.table s) else None

abbrev pub asked_in : Option ℕ → Span → Walking → Walking
asked_in space s w = asked space (row_asked w.layout space w.walk) s w

abbrev pub opened_in : Span → Walking → Walking
opened_in s w = record w { walk = with_open (open_after (text_of w.layout.grid.table s) w.walk.opened) w.walk }

abbrev pub walked_request : Span → Walking → Walking
walked_request s w = opened_in s (asked_in (space_in w.layout w.walk s) s w)

-- ---- a row

-- fields stand in no column
abbrev pub has_beyond : Layout → ℕ → Placed → Bool
has_beyond l n p = some_print ((row l.grid.table n).«end» - p.beyond) l.grid.table p.beyond

abbrev pub row_on_step : ℕ → Layout → Layout
row_on_step n l = record l { talls = put n (record (tall l n) { step = length l.steps.items }) l.talls }

abbrev pub on_step : ℕ → Walking → Walking
on_step n w = record w { layout = row_on_step n w.layout }

abbrev pub row_stepped : ℕ → Walking → Walking
row_stepped n w = after_row n (is_all w.layout.grid.table.looks.frame) (stepped (steps.Row n) (lines_of (tall w.layout n)) w)

abbrev pub beyond_stepped : ℕ → Placed → Walking → Walking
beyond_stepped n p w = if has_beyond w.layout n p then other (steps.Beyond n) w else w

-- a row that takes room, below a rule if one waits
abbrev pub walked_own_row : ℕ → Walking → Walking
walked_own_row n w = row_stepped n (on_step n (released (Some n) (stepped (steps.Before n) 0 w)))

abbrev pub on_next : ℕ → Walking → Walking
on_next n w = record w { walk = with_next (sum n 1) w.walk }

abbrev pub walked_line : Placed → ℕ → Walking → Walking
walked_line p n w = if p.own then walked_own_row n w else stepped (steps.Before n) 0 w

-- what stands in no column goes out below it in any case
abbrev pub walked_row_in : Placed → ℕ → Walking → Walking
walked_row_in p n w = on_next n (beyond_stepped n p (walked_line p n w))

abbrev pub walked_row : ℕ → Walking → Walking
walked_row n w = walked_row_in (placed w.layout.grid n) n w

-- ---- an item

abbrev pub walked_rule : Walking → Walking
walked_rule w = ruled true (released_beside w)

abbrev pub walked_item : Item → Walking → Walking
walked_item items.Rule w = walked_rule w
walked_item (items.Request s) w = walked_request s w
walked_item (items.Row n) w = walked_row n w

abbrev pub walked_at : ℕ → Walking → Walking
walked_at n w = walked_item (item w.layout.grid.table n) w

abbrev pub walked_items : Walking → Walking
walked_items w = in_turn (length w.layout.grid.table.items.items) walked_at w

-- ---- what stands above the first item and below the last

-- a table of which a part went out goes on
abbrev pub first_walk : Layout → Walk
first_walk l = record {
  last = None;
  next = 0;
  ruled = if l.begun then is_all l.grid.table.looks.frame else is_boxed l.grid.table;
  opened = 0;
  line = 0;
  more = 0;
}

abbrev pub walking_on : Layout → Walking
walking_on l = walking l (first_walk l)

abbrev pub walk_begun : Layout → Walking
walk_begun l =
    if is_double l.grid.table.looks.frame && not l.begun then stepped (steps.Edge true) 1 (walking_on l)
    else walking_on l

abbrev pub ends_with_rule : Layout → Bool
ends_with_rule l = nat_lt 0 (length l.grid.table.items.items) && is_rule_item (item l.grid.table (length l.grid.table.items.items - 1))

-- a last rule is one beside the box's own; in allbox it is the one below the last row, and of a part that the table goes on after another one
abbrev pub closes_rule : Bool → Layout → Bool
closes_rule ends l = ends_with_rule l && (not ends || (is_boxed l.grid.table && not (is_all l.grid.table.looks.frame)))

abbrev pub closed_rule : Bool → Walking → Walking
closed_rule ends w = if closes_rule ends w.layout then released w.walk.last w else w

abbrev pub closed_box : Bool → Walking → Walking
closed_box ends w =
    if ends && (w.walk.ruled || is_boxed w.layout.grid.table) then stepped (steps.Rule w.walk.last None) 1 w else w

abbrev pub closed_double : Bool → Walking → Walking
closed_double ends w = if ends && is_double w.layout.grid.table.looks.frame then stepped (steps.Edge false) 1 w else w

abbrev pub walk_ended : Bool → Walking → Walking
walk_ended ends w = closed_double ends (closed_box ends (closed_rule ends w))

-- ---- a table, or a part of one that ends with the table or doesn'l

abbrev pub without_steps : Layout → Layout
without_steps l = record l { steps = none_of l.steps }

abbrev pub walked : Bool → Layout → Walking
walked ends l = walk_ended ends (walked_items (walk_begun (without_steps l)))

abbrev pub steps_taken : Bool → Layout → Layout
steps_taken ends l = (walked ends l).layout

-- how many lines they are
abbrev pub lines_taken : Bool → Layout → ℕ
lines_taken ends l = sum (walked ends l).walk.line (walked ends l).walk.more

-- ---- lines beside which a field stands

abbrev pub row_line : Layout → ℕ → ℕ
row_line l r = (step l (tall l r).step).line

-- whether the field of a number, which begins in a column, stands beside a step: in a row, beside its bars, or over a rule between two rows
-- where it goes on
abbrev pub goes_over_rule : Layout → Option ℕ → Option ℕ → ℕ → ℕ → Bool
goes_over_rule l above None f c = false
goes_over_rule l above (Some below) f c = is_covered l.grid above (Some below) c && (cell_number l.grid below c == f)

abbrev pub stands_beside : Layout → StepKind → ℕ → ℕ → Bool
stands_beside l (steps.Rule above below) f c = goes_over_rule l above below f c
stands_beside l (steps.Row r) f c = cell_number l.grid r c == f
stands_beside l (steps.Bars r lines) f c = nat_lt 0 lines && (cell_number l.grid r c == f)
stands_beside l kind f c = false

-- how many lines a step has
abbrev pub lines_in : Layout → StepKind → ℕ
lines_in l (steps.Bars r lines) = lines
lines_in l (steps.Row r) = lines_of (tall l r)
lines_in l kind = 1

-- the last of them up to another
abbrev pub line_in : Layout → StepKind → ℕ → ℕ → ℕ
line_in l kind line wanted = min (sum line (lines_in l kind - 1)) wanted

-- of the next steps, while they begin no further, the last line beside which it stands
abbrev pub line_beside : Layout → Step → ℕ → ℕ → ℕ → ℕ → ℕ
line_beside l s f c wanted line = if stands_beside l s.kind f c then line_in l s.kind s.line wanted else line

abbrev pub line_among : ℕ → Layout → ℕ → ℕ → ℕ → ℕ → ℕ → ℕ
line_among zero l n f c wanted line = line
line_among (suc k) l n f c wanted line =
    if nat_lt wanted (step l n).line then line
    else line_among k l (n + 1) f c wanted (line_beside l (step l n) f c wanted line)

abbrev pub line_up_to : Layout → ℕ → Cell → ℕ → ℕ
line_up_to l n f wanted =
    line_among (length l.steps.items - (tall l f.top).step) l (tall l f.top).step n f.first wanted (row_line l f.top)
