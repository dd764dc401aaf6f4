-- What is wrong with the lines of a page: macros that are none, blocks that are not ended, ends of blocks
-- that are not open, ends that come before those of blocks within, too many that are open, what stands
-- outside of its list or comes too late, and words of macros.
use Rattle.std.specs.Prelude.{ℕ, List, [], ◌∷◌, length, take, drop, slice_get, Bool, true, false, not, ◌==◌}
use Rattle.std.specs.Prelude.{◌&&◌, ◌||◌, nat_lt, if◌then◌else◌, codes, Option, None, Some, is_some}
use Rattle.std.specs.List.{insert, remove}
use Rattle.std.specs.Str.{bytes_eq}
use Rattle.mdoc_words.specs.Macros.{macro_of}
use Rattle.nr_vectors.specs.Items.{Items}
use Rattle.filters_complaints.specs.Blocks.{place_of}
use Rattle.mdoc_command.specs.declared.lines.Half.{Half}
use Rattle.mdoc_command.specs.declared.lines.Line.{Line}
use Rattle.mdoc_command.specs.declared.lines.Line.TheVariants as lines_of
use Rattle.mdoc_command.specs.declared.lines.Whole.{Whole}
use Rattle.mdoc_command.specs.declared.lines.Whole.TheVariants as wholes
use Rattle.filters_complaints.specs.declared.blocks.OpenBlock.{OpenBlock}
use Rattle.mdoc_command.specs.declared.telling.Kind.{Kind}
use Rattle.mdoc_command.specs.declared.telling.Kind.TheVariants as kinds
use Rattle.mdoc_command.specs.Lines as lines
use Rattle.mdoc_command.specs.Names.{is_mark, is_request, opener_of, opens}
use Rattle.mdoc_command.specs.Naming as naming
use Rattle.mdoc_command.specs.declared.naming.Naming.{Naming}
use Rattle.mdoc_command.specs.declared.wording.Wording.{Wording}
use Rattle.mdoc_command.specs.Wording.{fault, line_of, names_section, no_line, taking, taking_other}
use Rattle.filters_complaints.specs.Complaints.{none_reported}
use Rattle.mdoc_command.specs.Telling as telling
use Rattle.mdoc_command.specs.Telling.{AllReported}

pub record Page : Type 0 where
  pub half : Half
  pub blocks : Items OpenBlock
  pub reported : AllReported
  pub wording : Wording
  pub naming : Naming
  pub headed : Bool
  pub titled : Bool
  pub system : Bool

abbrev pub first_page : ℕ → ℕ → Page
first_page blocks complaints = record {
  half = lines.first;
  blocks = record { items = []; capacity = blocks };
  reported = none_reported complaints;
  wording = no_line;
  naming = naming.first;
  headed = false;
  titled = false;
  system = false;
}

abbrev pub reported : Kind → Page → Page
reported kind p = record p { reported = telling.reported kind p.half.number p.reported }

abbrev pub with_blocks : List OpenBlock → Page → Page
with_blocks blocks p = record p { blocks = record p.blocks { items = blocks } }

-- ---- blocks

abbrev pub opened : List ℕ → Page → Page
opened name p =
    if length p.blocks.items == p.blocks.capacity then reported (kinds.TooMany name) p else
    with_blocks (insert p.blocks.items 0 (record { name = name; line = p.half.number; columns = false })) p

-- the macro of the last that was opened
abbrev pub last_name : List OpenBlock → List ℕ
last_name [] = []
last_name (block ∷ blocks) = block.name

-- blocks that were opened in the one that is ended stay open
abbrev pub nested : List ℕ → ℕ → Page → Page
nested opener place p =
    if nat_lt 0 place then reported (kinds.Nested opener (last_name p.blocks.items)) p else p

abbrev pub ended_at : Option ℕ → List ℕ → Page → Page
ended_at None opener p = reported (kinds.NotOpen p.half.name) p
ended_at (Some place) opener p = with_blocks (remove p.blocks.items place) (nested opener place p)

abbrev pub ended : List ℕ → Page → Page
ended opener p = ended_at (place_of opener p.blocks.items) opener p

abbrev pub ended_by : Option (List ℕ) → Page → Page
ended_by None p = p
ended_by (Some opener) p = ended opener p

-- a cell stands in a list of columns
abbrev pub has_columns : Option OpenBlock → Bool
has_columns None = false
has_columns (Some block) = block.columns

abbrev pub in_columns : Option ℕ → List OpenBlock → Bool
in_columns None blocks = false
in_columns (Some place) blocks = has_columns (slice_get blocks place)

abbrev pub cell : Page → Page
cell p =
    if in_columns (place_of (codes "Bl") p.blocks.items) p.blocks.items then p else
    reported (kinds.Outside p.half.name) p

-- a macro opens or ends a block, or does neither
abbrev pub called : Page → Page
called p =
    if bytes_eq p.half.name (codes "Ta") then cell p else
    if opens p.half.name then opened p.half.name p else ended_by (opener_of p.half.name) p

-- ---- headings end all blocks, and items what was opened in the item before

abbrev pub broken : ℕ → Page → Page
broken n p = record p {
  blocks = record p.blocks { items = drop n p.blocks.items };
  reported = telling.broken p.half.name p.half.number (take n p.blocks.items) p.reported;
}

abbrev pub item_at : Option ℕ → Page → Page
item_at None p = reported (kinds.Outside p.half.name) p
item_at (Some place) p = broken place p

abbrev pub item : Page → Page
item p = item_at (place_of (codes "Bl") p.blocks.items) p

-- ---- the page's name

abbrev pub with_naming : Naming → Page → Page
with_naming n p = record p { naming = n }

-- `.Nm` without a word stands for the name, which it had before, or may have had where lines are not looked
-- at
abbrev pub name_ended : Page → Page
name_ended p =
    let q = if p.naming.waits && not p.naming.known && not p.half.hidden then reported (kinds.NoName (codes "Nm")) p else p in
    with_naming (record q.naming { waits = false }) q

-- a word is that of `.Nm`, or calls a macro
abbrev pub name_called : Page → Page
name_called p =
    let q = name_ended p in with_naming (record q.naming { waits = bytes_eq p.half.name (codes "Nm") }) q

abbrev pub name_worded : Page → Page
name_worded p =
    if length p.half.name == 0 || is_mark p.half.name then p else
    if p.half.calls && (not (is_request p.half.name) && is_some (macro_of p.half.name)) then name_called p
    else with_naming (naming.taking p.naming) p

-- a section NAME ends, or its description comes, and no line of `.Nm` came in it
abbrev pub naming_ended : Page → Page
naming_ended p =
    let q = with_naming (record p.naming { section = 0 }) p in
    if nat_lt 0 p.naming.section && not p.half.hidden
    then record q { reported = telling.reported (kinds.Nameless (codes "Nd")) p.naming.section q.reported } else q

-- a macro begins a line that may name the page, or end the place of its name
abbrev pub named : Page → Page
named p =
    if bytes_eq p.half.name (codes "Nm") then with_naming (record p.naming { waits = true; section = 0 }) p else
    if bytes_eq p.half.name (codes "Nd") || bytes_eq p.half.name (codes "Sh") then naming_ended p else p

-- ---- a macro begins a line

-- the page's title
abbrev pub is_prologue : List ℕ → Bool
is_prologue name = bytes_eq name (codes "Dd") || bytes_eq name (codes "Dt") || bytes_eq name (codes "Os")

-- A macro of the title that came before is told: of `.Dd` one did, as it tells that the page is one of mdoc.
abbrev pub title_if : Bool → Page → Page
title_if came p = if came then reported (kinds.Again p.half.name) p else p

abbrev pub titles : Page → Page
titles p =
    if bytes_eq p.half.name (codes "Dt") then title_if p.titled (record p { titled = true }) else
    if bytes_eq p.half.name (codes "Os") then title_if p.system (record p { system = true }) else title_if true p

abbrev pub begun : Page → Page
begun p =
    if bytes_eq p.half.name (codes "Sh") || bytes_eq p.half.name (codes "Ss")
    then broken (length p.blocks.items) (record p { headed = true }) else
    if p.headed && is_prologue p.half.name then reported (kinds.Late p.half.name) p else
    if is_prologue p.half.name then titles p else
    if bytes_eq p.half.name (codes "It") then item p else called p

abbrev pub known : Page → Page
known p = begun (named (record p { wording = line_of p.half.name p.half.number }))

-- its name is no word
unfoldable pub judged : Page → Page
judged p =
    let q = if is_some (macro_of p.half.name) then known p else reported (kinds.Unknown p.half.name p.half.cut) p in
    record q { half = record q.half { name = [] } }

-- ---- the words of its line

abbrev pub columned : List OpenBlock → List OpenBlock
columned [] = []
columned (block ∷ blocks) = record block { columns = true } ∷ blocks

abbrev pub with_columns : Page → Page
with_columns p = with_blocks (columned p.blocks.items) p

abbrev pub columns_if : Bool → Page → Page
columns_if t p = if t then with_columns p else p

abbrev pub asks_columns : List ℕ → List ℕ → Bool
asks_columns word name = bytes_eq word (codes "-column") && bytes_eq name (codes "Bl")

abbrev pub called_if : Bool → Page → Page
called_if calls p = if calls then called p else p

-- a word calls a macro where words may, and is counted
unfoldable pub worded : Page → Page
worded p =
    let o = name_worded p in
    let q = called_if p.half.calls o in
    let r = columns_if (asks_columns p.half.name q.wording.name) q in
    record r { wording = taking p.half.name r.wording }

abbrev pub is_quoted : Line → Bool
is_quoted (lines_of.Quoted escaped) = true
is_quoted line = false

abbrev pub is_text : Line → Bool
is_text (lines_of.Text escaped) = true
is_text line = false

-- a word between quotes begins, or one that has an escape
abbrev pub begins_other : Line → Line → Bool
begins_other (lines_of.Quoted escaped) line = false
begins_other lines_of.Closed line = false
begins_other lines_of.Escape line = is_quoted line || is_text line
begins_other before line = is_quoted line

abbrev pub reported_of_line : Option Kind → Page → Page
reported_of_line None p = p
reported_of_line (Some kind) p = record p { reported = telling.reported kind p.wording.line p.reported }

-- a line of `.Sh NAME` begins the section of the page's name
abbrev pub section_begun : Page → Page
section_begun p =
    if names_section p.wording then with_naming (record p.naming { section = p.wording.line }) p else p

-- what is wrong with its words
abbrev pub wrong : Line → Page → Option Kind
wrong before p = if is_quoted before then Some (kinds.OpenQuote p.wording.name) else fault p.wording

-- the line ends: that is reported
abbrev pub line_ended : Line → Page → Page
line_ended before p =
    reported_of_line (wrong before p) (section_begun (name_ended (record p { wording = record p.wording { reading = false } })))

abbrev pub is_start : Line → Bool
is_start lines_of.Start = true
is_start line = false

abbrev pub counted_other : Line → Page → Page
counted_other before p =
    if begins_other before p.half.line
    then record p { wording = taking_other p.wording; naming = naming.taking p.naming } else p

-- the line of a macro goes on, or ends
unfoldable pub gone_on : Line → Page → Page
gone_on before p =
    if not p.wording.reading then p else
    if is_start p.half.line then line_ended before (counted_other before p) else counted_other before p

-- ---- a byte comes, and the end

abbrev pub acted : Whole → Page → Page
acted wholes.Nothing p = p
acted wholes.Macro p = judged p
acted wholes.Word p = worded p

abbrev pub with_half : Half → Page → Page
with_half h p = record p { half = h }

abbrev pub counted : ℕ → Page → Page
counted b p = with_half (lines.counted b p.half) p

-- within a line that is not looked at, and in a page that is none of mdoc, a byte changes nothing
abbrev pub heard : ℕ → Page → Page
heard b p =
    if lines.is_unread b p.half then p else
    let m = lines.taken_in b p.half in
    counted b (gone_on p.half.line (acted m.1 (with_half m.0 p)))

abbrev pub all_heard : List ℕ → Page → Page
all_heard [] p = p
all_heard (b ∷ bs) p = all_heard bs (heard b p)

-- the page ends: what is open is reported at the lines where it was opened
abbrev pub finished : Page → Page
finished p =
    let q = naming_ended p in
    record q {
      blocks = record q.blocks { items = [] };
      reported = telling.not_ended q.blocks.items q.reported;
    }
