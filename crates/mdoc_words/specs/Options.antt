-- Words that are read for what they ask: dates, titles, headings (mdoc(7), Dd, Dt, Sh), and options of Bl,
-- Bd, Bf, Sm, Ex, Rv.
use Rattle.std.specs.Prelude.{ℕ, ◌+◌, List, [], ◌∷◌, length, Bool, true, false, not, ◌==◌, ◌||◌}
use Rattle.std.specs.Prelude.{if◌then◌else◌, codes, Option, None, Some}
use Rattle.std.specs.Str.{bytes_eq}
use Prim.Native.Char.{code}
use Rattle.mdoc_layout.specs.declared.acts.Act.TheVariants as acts
use Rattle.mdoc_layout.specs.declared.acts.Request.TheVariants as requests
use Rattle.mdoc_layout.specs.declared.acts.Text.TheVariants as texts
use Rattle.mdoc_layout.specs.declared.macros.Font.{Font}
use Rattle.mdoc_layout.specs.declared.macros.Font.TheVariants.{Roman, Bold}
use Rattle.mdoc_layout.specs.declared.macros.Macro.{Macro}
use Rattle.mdoc_layout.specs.declared.macros.Macro.TheVariants as macros
use Rattle.mdoc_words.specs.declared.options.TheConstants.{ASKED, FONTS, SECTIONS}
use Rattle.mdoc_layout.specs.declared.page.Asks.{Asks}
use Rattle.mdoc_layout.specs.declared.page.Asks.TheVariants as asks
use Rattle.mdoc_layout.specs.declared.page.Block.{Block}
use Rattle.mdoc_layout.specs.declared.page.Page.{Page}
use Rattle.mdoc_layout.specs.declared.page.Scan.TheVariants as scans
use Rattle.mdoc_layout.specs.declared.page.Section.{Section}
use Rattle.mdoc_layout.specs.declared.page.Section.TheVariants as sections
use Rattle.mdoc_layout.specs.declared.page.Split.{Split}
use Rattle.mdoc_layout.specs.declared.page.Split.TheVariants as splits
use Rattle.mdoc_layout.specs.declared.page.Wanted.{Wanted}
use Rattle.mdoc_layout.specs.declared.page.Wanted.TheVariants as wanteds
use Rattle.mdoc_layout.specs.Columns.{is_column}
use Rattle.mdoc_layout.specs.Lengths.{number_said, width_named, offset_named, at_most}
use Rattle.mdoc_layout.specs.Lookup.{named_in}
use Rattle.mdoc_layout.specs.Seeing.{Offered, offered, none, left, two, three}

-- ---- what words say

unfoldable pub asked : List ℕ → Option Asks
asked word = named_in ASKED word

unfoldable pub font_named : List ℕ → Option Font
font_named word = named_in FONTS word

unfoldable pub section_named : List ℕ → Option Section
section_named word = named_in SECTIONS word

-- a word that begins so is no part of a date
abbrev pub is_version : List ℕ → Bool
is_version [] = true
is_version (b ∷ bs) = b == code "$"

-- ---- which macros read words for what they ask

abbrev pub reads_for : Macro → Bool
reads_for macros.Date = true
reads_for macros.Title = true
reads_for macros.List = true
reads_for macros.Display = true
reads_for macros.FontBegins = true
reads_for macros.Spacing = true
reads_for macros.Exits = true
reads_for macros.Returns = true
reads_for macros.Section = true
reads_for m = false

abbrev pub reads_options : Page → Bool
reads_options p = reads_for p.call.taker

abbrev pub is_heading : Macro → Bool
is_heading macros.Section = true
is_heading m = false

abbrev pub is_shown : Page → Bool
is_shown p = not (reads_options p) || is_heading p.call.taker

-- ---- dates, titles and headings

abbrev pub dated : Page → Page
dated p =
    if length p.month == 0 then record p { month = p.word } else
    if length p.day == 0 then record p { day = p.word } else
    if length p.year == 0 then record p { year = p.word } else p

abbrev pub date_word : Page → Offered
date_word p = if is_version p.word then none p else none (dated p)

abbrev pub title_word : Page → Offered
title_word p =
    none (if not p.call.some then record p { title = p.word } else
    if length p.chapter == 0 then record p { chapter = p.word } else p)

abbrev pub section_or : Option Section → Section
section_or None = sections.Other
section_or (Some s) = s

-- all authors but the first begin lines in their own section
abbrev pub splits_in : Section → Split
splits_in sections.Authors = splits.Next
splits_in s = splits.Never

abbrev pub enters : Page → Page
enters p =
    let s = section_or (section_named p.word) in
    record p { place = record p.place { section = s; split = splits_in s } }

-- the words after the first are printed, and may call macros
abbrev pub heading_word : Page → Offered
heading_word p =
    let q = enters p in
    offered (record q { call = record q.call { taker = macros.Words Roman } }) (left (acts.Word Roman))

-- ---- fonts, spacing, utilities and functions

abbrev pub font_or : Option Font → Page → Offered
font_or None p = none p
font_or (Some font) p = offered p (left (acts.Request (requests.Font font)))

abbrev pub font_word : Page → Offered
font_word p = font_or (font_named p.word) p

abbrev pub spacing_word : Page → Offered
spacing_word p = none (record p { lay = record p.lay { spaced = not (bytes_eq p.word (codes "off")) } })

abbrev pub is_usual : Page → Bool
is_usual p = bytes_eq p.word (codes "-std")

abbrev pub listed : Page → Page
listed p = record p { call = record p.call { listed = true } }

-- a name after the first is held back, as it may be the last: the one that was held back before it is not
abbrev pub holds : Page → Offered
holds p =
    if length p.held == 0 then offered (record p { held = p.word }) (left acts.Nothing) else
    offered (record p { call = record p.call { many = true } }) (left acts.Held)

abbrev pub utility : Page → Offered
utility p =
    if is_usual p then none p else if not p.call.listed then offered (listed p) (left (acts.Word Bold))
    else holds p

-- the name of a function has parentheses
abbrev pub holds_function : Page → Offered
holds_function p =
    let m = holds p in
    if m.page.call.many then offered m.page (record m.seen { second = acts.Close texts.Parentheses }) else m

abbrev pub returning : Page → Offered
returning p =
    if is_usual p then none p else
    if p.call.listed then holds_function p else
    offered (listed p) (three (acts.Text texts.The) (acts.Word Bold) (acts.Close texts.Parentheses))

-- ---- options of lists and displays

abbrev pub width_or : Option ℕ → ℕ → ℕ
width_or None other = other
width_or (Some width) other = width

-- by its name, by a number, or by its length
abbrev pub width_said : Page → ℕ
width_said p = width_or (width_named p.word) (width_or (number_said p.word) p.call.width)

abbrev pub is_display : Macro → Bool
is_display macros.Display = true
is_display m = false

abbrev pub offset_said : Page → ℕ
offset_said p =
    if is_display p.call.taker then width_or (offset_named p.word) (width_said p) else width_said p

abbrev pub wanting : Wanted → Block → Page → Page
wanting w b p = record p { call = record p.call { wanted = w }; block = b }

abbrev pub wide : Page → Offered
wide p = none (wanting wanteds.Option (record p.block { width = Some (at_most 900 (width_said p)) }) p)

abbrev pub indented : Page → Offered
indented p =
    none (wanting wanteds.Option
    (record p.block { offset = at_most 900 p.block.offset + at_most 90 (offset_said p) }) p)

abbrev pub wants : Wanted → Page → Offered
wants w p = none (record p { call = record p.call { wanted = w } })

abbrev pub wants_column : Wanted → Bool
wants_column wanteds.Column = true
wants_column w = false

-- one more column
abbrev pub added_column : Page → Page
added_column p =
    record p {
      block = record p.block { columns = at_most 99 p.block.columns + 1 };
      lay = record p.lay { cell = 0 };
    }

-- widths, one after the other
abbrev pub tab_stop : ℕ → Page → Offered
tab_stop width p =
    if wants_column p.call.wanted then offered p (left (acts.Column width)) else
    offered (record p { call = record p.call { wanted = wanteds.Column } }) (two acts.Columns (acts.Column width))

abbrev pub column_width : Page → ℕ
column_width p = at_most 900 p.call.width

abbrev pub column : Page → Offered
column p =
    if not (is_column p.block.kind) then none p else
    tab_stop (column_width p) (added_column p)

abbrev pub block_asked : Option Asks → Page → Offered
block_asked None p = column p
block_asked (Some asks.Width) p = wants wanteds.Width p
block_asked (Some asks.Offset) p = wants wanteds.Offset p
block_asked (Some asks.Compact) p = none (record p { block = record p.block { compact = true } })
block_asked (Some (asks.Kind kind)) p = none (record p { block = record p.block { kind = kind } })

abbrev pub block_option : Page → Offered
block_option p = block_asked (asked p.word) p

abbrev pub block_wanted : Wanted → Page → Offered
block_wanted wanteds.Width p = wide p
block_wanted wanteds.Offset p = indented p
block_wanted w p = block_option p

abbrev pub block_word : Page → Offered
block_word p = block_wanted p.call.wanted p

-- ---- by the macro that takes the word

abbrev pub option_for : Macro → Page → Offered
option_for macros.Date p = date_word p
option_for macros.Title p = title_word p
option_for macros.List p = block_word p
option_for macros.Display p = block_word p
option_for macros.FontBegins p = font_word p
option_for macros.Spacing p = spacing_word p
option_for macros.Exits p = utility p
option_for macros.Returns p = returning p
option_for m p = heading_word p

unfoldable pub option_word : Page → Offered
option_word p = option_for p.call.taker p

abbrev pub option : Page → Offered
option p =
    let m = option_word (record p { scan = scans.Between }) in
    offered (record m.page { call = record m.page.call { some = true } }) m.seen
