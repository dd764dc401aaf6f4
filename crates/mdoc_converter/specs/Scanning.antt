-- A byte is offered to what is half read: lines become words (mdoc(7), MACRO SYNTAX; groff(7), control lines
-- and comments).
use Rattle.std.specs.Prelude.{ℕ, ◌+◌, [], ◌∷◌, ◌++◌, Bool, true, false, not, ◌==◌, ◌&&◌, ◌||◌, nat_lt}
use Rattle.std.specs.Prelude.{if◌then◌else◌, codes, Option, None, Some, nat_le}
use Prim.Native.Char.{code}
use Rattle.nr_units.specs.Name.{is_full}
use Rattle.mdoc_layout.specs.declared.acts.Act.TheVariants as acts
use Rattle.mdoc_layout.specs.declared.acts.Request.TheVariants as requests
use Rattle.mdoc_layout.specs.declared.acts.Text.TheVariants as texts
use Rattle.mdoc_layout.specs.declared.macros.Macro.TheVariants as macros
use Rattle.mdoc_layout.specs.declared.page.Last.TheVariants as lasts
use Rattle.mdoc_layout.specs.declared.page.Page.{Page}
use Rattle.mdoc_layout.specs.declared.page.Scan.{Scan}
use Rattle.mdoc_layout.specs.declared.page.Scan.TheVariants as scans
use Rattle.mdoc_layout.specs.declared.page.Before.{Before}
use Rattle.mdoc_layout.specs.declared.page.Before.TheVariants as befores
use Rattle.mdoc_layout.specs.declared.page.Escape.{Escape}
use Rattle.mdoc_layout.specs.declared.page.Escape.TheVariants as escapes
use Rattle.mdoc_layout.specs.declared.page.Dots.{Dots}
use Rattle.mdoc_layout.specs.declared.page.Dots.TheVariants as dots
use Rattle.mdoc_layout.specs.declared.page.Prefix.{Prefix}
use Rattle.mdoc_layout.specs.declared.page.Prefix.TheVariants as prefixes
use Rattle.mdoc_layout.specs.declared.seen.Seen.{Seen}
use Rattle.mdoc_words.specs.Calls.{tab}
use Rattle.mdoc_words.specs.Words.{given, goes_on, long}
use Rattle.mdoc_layout.specs.Columns.{has_rows}
use Rattle.mdoc_converter.specs.Definitions.{in_definition}
use Rattle.mdoc_words.specs.Escaping.{escape_then}
use Rattle.mdoc_words.specs.Keeping.{ends_word, turns, word_begins, in_word, in_quotes, closing, in_escape}
use Rattle.mdoc_words.specs.Keeping.{in_name_of}
use Rattle.mdoc_layout.specs.Laying.{is_control}
use Rattle.mdoc_converter.specs.Lines.{call_of, named_line, ends}
use Rattle.mdoc_converter.specs.Rows.{in_table}
use Rattle.mdoc_layout.specs.Seeing.{Offered, offered, left, two, taken, and_taken}

abbrev pub is_letter : ℕ → Bool
is_letter b = (nat_le (code "A") b && nat_le b (code "Z")) || (nat_le (code "a") b && nat_le b (code "z"))

-- what a byte that belongs to no escape is for the one after it
abbrev pub first_before : ℕ → Before
first_before b =
    if is_letter b then befores.Letter else
    if b == code "\\" then befores.Within escapes.Begun else befores.Other

abbrev pub within : Option Escape → Before
within None = befores.Other
within (Some escape) = befores.Within escape

-- what a byte is for the one after it
abbrev pub before_next : Before → ℕ → Before
before_next (befores.Within escape) b = within (escape_then escape b)
before_next before b = first_before b

-- ---- text lines

abbrev pub empty_line : Page → Seen
empty_line p =
    if p.lay.literal then and_taken (two (acts.Text texts.Empty) acts.Ends) else taken acts.Space

-- a line of a synopsis after text begins no paragraph
abbrev pub after_text : Page → Page
after_text p = record p { place = record p.place { last = lasts.Heading } }

abbrev pub text_begins : ℕ → Page → Offered
text_begins b p = turns (scans.Text (first_before b)) (taken (acts.Begin b)) (after_text p)

-- Blanks that begin a line stay where lines do. In a list of columns without items a line is a row.
abbrev pub at_start : ℕ → Page → Offered
at_start b p =
    if is_control b then turns scans.Control (taken acts.Nothing) p else
    if b == code "\n" then offered p (empty_line p) else
    if has_rows p.block then turns scans.Cell (left acts.Row) p else
    if ((b == code " ") || (b == code "\t")) && not p.lay.literal then offered p (taken acts.Nothing) else
    text_begins b p

-- a tab ends a cell of a row, and blanks after it are dropped
abbrev pub in_cell : ℕ → Page → Offered
in_cell b p =
    if b == code "\n" then turns scans.Start (taken acts.Ends) p else
    if b == code "\t" then offered p (taken acts.Cell) else
    if b == code " " then offered p (taken acts.Nothing) else
    text_begins b p

-- a line may be broken after a hyphen between letters: one after a letter is held back; one of an escape
-- stays
abbrev pub hyphen_in_text : Before → Page → Offered
hyphen_in_text befores.Letter p = turns scans.Hyphen (taken acts.Nothing) p
hyphen_in_text (befores.Within escape) p =
    turns (scans.Text (within (escape_then escape (code "-")))) (taken (acts.Byte (code "-"))) p
hyphen_in_text befores.Other p = turns (scans.Text befores.Other) (taken acts.Hyphen) p

abbrev pub after_hyphen : ℕ → Page → Offered
after_hyphen b p =
    turns (scans.Text befores.Other) (left (if is_letter b then acts.Byte (code "-") else acts.Hyphen)) p

abbrev pub in_text : Before → ℕ → Page → Offered
in_text before b p =
    if b == code "\n" then turns scans.Start (taken acts.Ends) p else
    if b == code "-" then hyphen_in_text before p else
    if (b == code "\t") && has_rows p.block then turns scans.Cell (taken acts.Cell) p else
    turns (scans.Text (before_next before b)) (taken (acts.Byte b)) p

-- ---- control lines and their names

abbrev pub name_begins : ℕ → Page → Offered
name_begins b p = turns scans.Name (taken acts.Nothing) (record p { word = b ∷ [] })

abbrev pub after_control : ℕ → Page → Offered
after_control b p =
    if (b == code " ") || (b == code "\t") then offered p (taken acts.Nothing) else
    if b == code "\n" then turns scans.Start (taken acts.Nothing) p else
    if b == code "\\" then turns scans.ControlEscape (taken acts.Nothing) p else name_begins b p

-- `.\"` and `.\#` begin comments; another line that begins with an escape passes
abbrev pub after_escape : ℕ → Page → Offered
after_escape b p =
    if (b == code "\"") || (b == code "#") then turns scans.Comment (taken acts.Nothing) p else
    turns scans.Rest (left acts.Control) (record p { word = codes "\\" })

abbrev pub in_comment : ℕ → Page → Offered
in_comment b p = turns (if b == code "\n" then scans.Start else scans.Comment) (taken acts.Nothing) p

abbrev pub in_name : ℕ → Page → Offered
in_name b p =
    if ends_word b || (b == code "\\") || is_full p.word then named_line p else
    offered (record p { word = p.word ++ b ∷ [] }) (taken acts.Nothing)

abbrev pub between : ℕ → Page → Offered
between b p =
    if p.call.comment then turns scans.Dropped (left acts.Nothing) p else
    if b == code " " then offered p (taken acts.Nothing) else
    if b == code "\t" then tab p else
    if b == code "\n" then turns scans.Ends (left acts.Nothing) p else
    if b == code "\"" then word_begins scans.Quoted (taken acts.Nothing) p else
    word_begins scans.Word (left acts.Nothing) p

-- ---- lines that pass, or are dropped

abbrev pub in_rest : ℕ → Page → Offered
in_rest b p = turns (if b == code "\n" then scans.Start else scans.Rest) (taken (acts.Byte b)) p

abbrev pub dropped : ℕ → Page → Offered
dropped b p = if b == code "\n" then turns scans.Ends (left acts.Nothing) p else offered p (taken acts.Nothing)

abbrev pub dots_then : Dots → ℕ → Dots
dots_then dots.Start b = if b == code "." then dots.One else dots.Other
dots_then dots.One b = if b == code "." then dots.Two else dots.Other
dots_then dots.Two b = dots.Two
dots_then dots.Other b = dots.Other

-- the last of the lines of a definition begins with two dots
abbrev pub after_ignored : Dots → Scan
after_ignored dots.Two = scans.Start
after_ignored d = scans.Ignored dots.Start

abbrev pub ignored : Dots → ℕ → Page → Offered
ignored d b p =
    turns (if b == code "\n" then after_ignored d else scans.Ignored (dots_then d b)) (taken (acts.Byte b)) p

-- ---- before a page is known to be one of mdoc: `.Dd` begins one of its first 64 lines that are neither empty nor comments

abbrev pub prefix_grows : Prefix → ℕ → Option Prefix
prefix_grows prefixes.Nothing b = if b == code "." then Some prefixes.Dot else None
prefix_grows prefixes.Dot b = if b == code "D" then Some prefixes.Half else None
prefix_grows prefixes.Half b = if b == code "d" then Some prefixes.Whole else None
prefix_grows prefix b = None

-- what a line begins with, after a byte that passes
abbrev pub prefix_then : Prefix → ℕ → Prefix
prefix_then prefixes.Nothing b = if b == code "'" then prefixes.Control else prefixes.Other
prefix_then prefixes.Control b = if b == code "\\" then prefixes.Escape else prefixes.Other
prefix_then prefixes.Escape b = if (b == code "\"") || (b == code "#") then prefixes.Comment else prefixes.Other
prefix_then prefixes.Comment b = prefixes.Comment
prefix_then prefix b = prefixes.Other

-- the same, where it goes on no `.Dd`
abbrev pub given_up : Prefix → Prefix
given_up prefixes.Dot = prefixes.Control
given_up prefixes.Half = prefixes.Other
given_up prefixes.Whole = prefixes.Other
given_up prefix = prefix

abbrev pub is_blank : Prefix → Bool
is_blank prefixes.Nothing = true
is_blank prefixes.Comment = true
is_blank partial = false

abbrev pub passes_to : Prefix → ℕ → ℕ → Scan
passes_to prefix lines b =
    if not (b == code "\n") then scans.Asleep (prefix_then prefix b) lines else
    if is_blank prefix then scans.Asleep prefixes.Nothing lines else
    if nat_lt lines 63 then scans.Asleep prefixes.Nothing (lines + 1) else scans.Passes

abbrev pub passes : Prefix → ℕ → ℕ → Page → Offered
passes prefix lines b p = turns (passes_to prefix lines b) (taken (acts.Byte b)) p

-- the macro that ends tags is defined there
abbrev pub wakes : Page → Offered
wakes p =
    turns scans.Between (left (acts.Request requests.TagMacro)) (record p { call = call_of macros.Date })

abbrev pub gives_up : Prefix → ℕ → Page → Offered
gives_up prefix lines p = turns (scans.Asleep (given_up prefix) lines) (left (acts.Prefix prefix)) p

abbrev pub asleep_after : Prefix → ℕ → ℕ → Page → Offered
asleep_after prefixes.Dot lines b p = gives_up prefixes.Dot lines p
asleep_after prefixes.Half lines b p = gives_up prefixes.Half lines p
asleep_after prefixes.Whole lines b p = if ends_word b then wakes p else gives_up prefixes.Whole lines p
asleep_after prefix lines b p = passes prefix lines b p

abbrev pub asleep_with : Option Prefix → Prefix → ℕ → ℕ → Page → Offered
asleep_with None prefix lines b p = asleep_after prefix lines b p
asleep_with (Some more) prefix lines b p = turns (scans.Asleep more lines) (taken acts.Nothing) p

abbrev pub asleep : Prefix → ℕ → ℕ → Page → Offered
asleep prefix lines b p = asleep_with (prefix_grows prefix b) prefix lines b p

-- ---- by where the line is read

abbrev pub offer_whole_at : Scan → ℕ → Page → Offered
offer_whole_at (scans.Given quoted) b p = given quoted p
offer_whole_at (scans.Long inside) b p = long inside p
offer_whole_at (scans.Goes inside) b p = goes_on inside p
offer_whole_at scans.Rest b p = in_rest b p
offer_whole_at scans.Passes b p = offered p (taken (acts.Byte b))
offer_whole_at scans.Dropped b p = dropped b p
offer_whole_at scans.Defines b p = in_definition b p
offer_whole_at (scans.Ignored d) b p = ignored d b p
offer_whole_at (scans.Table row) b p = in_table row b p
offer_whole_at scan b p = ends p

unfoldable pub offer_whole : ℕ → Page → Offered
offer_whole b p = offer_whole_at p.scan b p

abbrev pub offer_at : Scan → ℕ → Page → Offered
offer_at (scans.Asleep prefix lines) b p = asleep prefix lines b p
offer_at scans.Start b p = at_start b p
offer_at (scans.Text before) b p = in_text before b p
offer_at scans.Hyphen b p = after_hyphen b p
offer_at scans.Cell b p = in_cell b p
offer_at scans.Control b p = after_control b p
offer_at scans.ControlEscape b p = after_escape b p
offer_at scans.Comment b p = in_comment b p
offer_at scans.Name b p = in_name b p
offer_at scans.Between b p = between b p
offer_at scans.Word b p = in_word b p
offer_at scans.Quoted b p = in_quotes b p
offer_at scans.Escape b p = in_escape b false p
offer_at scans.QuotedEscape b p = in_escape b true p
offer_at scans.Closing b p = closing b p
offer_at (scans.Named escape quoted) b p = in_name_of escape quoted b p
offer_at scan b p = offer_whole b p

unfoldable pub offer : ℕ → Page → Offered
offer b p = offer_at p.scan b p
