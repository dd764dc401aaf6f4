-- Lines: what the macro that begins one says, and what its end says (mdoc(7), MACRO OVERVIEW).
use Rattle.std.specs.Prelude.{◌≡◌, ℕ, ◌-◌, List, [], ◌∷◌, length, take, Bool, true, false, not, ◌==◌, ◌&&◌}
use Rattle.std.specs.Prelude.{◌||◌, nat_le, if◌then◌else◌, slice_index, codes, Option, None, Some}
use Rattle.std.specs.Str.{bytes_eq}
use Prim.Native.Char.{code}
use Rattle.mdoc_layout.specs.declared.acts.Act.{Act}
use Rattle.mdoc_layout.specs.declared.acts.Act.TheVariants as acts
use Rattle.mdoc_layout.specs.declared.acts.Stack.TheVariants.{Empties}
use Rattle.mdoc_layout.specs.declared.acts.Request.TheVariants as requests
use Rattle.mdoc_layout.specs.declared.acts.Text.TheVariants as texts
use Rattle.mdoc_layout.specs.declared.macros.Font.TheVariants.{Roman}
use Rattle.mdoc_layout.specs.declared.macros.Macro.{Macro}
use Rattle.mdoc_layout.specs.declared.macros.Macro.TheVariants as macros
use Rattle.mdoc_layout.specs.declared.page.Following.TheVariants as followings
use Rattle.mdoc_layout.specs.declared.page.Call.{Call}
use Rattle.mdoc_layout.specs.declared.page.Kind.{Kind}
use Rattle.mdoc_layout.specs.declared.page.Kind.TheVariants as kinds
use Rattle.mdoc_layout.specs.declared.page.Last.{Last}
use Rattle.mdoc_layout.specs.declared.page.Last.TheVariants as lasts
use Rattle.mdoc_layout.specs.declared.page.Page.{Page}
use Rattle.mdoc_layout.specs.declared.page.RowPart.TheVariants as rows
use Rattle.mdoc_layout.specs.declared.page.Scan.TheVariants as scans
use Rattle.mdoc_layout.specs.declared.page.Section.{Section}
use Rattle.mdoc_layout.specs.declared.page.Section.TheVariants as sections
use Rattle.mdoc_layout.specs.declared.page.Split.TheVariants as splits
use Rattle.mdoc_layout.specs.declared.page.Wanted.TheVariants as wanteds
use Rattle.mdoc_layout.specs.declared.seen.Seen.{Seen}
use Rattle.mdoc_layout.specs.Blocks.{block_opens, item, item_ends, list_begins, list_ends, display_begins}
use Rattle.mdoc_layout.specs.Blocks.{display_ends, outer_goes_on, line_opens, tag_ends}
use Rattle.mdoc_converter.specs.Definitions.{is_own}
use Rattle.mdoc_words.specs.Calls.{called, is_pending, leaves}
use Rattle.mdoc_words.specs.Macros.{macro_of}
use Rattle.mdoc_words.specs.Rules.{is_none, is_synopsis, with_place, with_scan}
use Rattle.mdoc_layout.specs.Seeing.{Offered, and_taken, left, none, offered, three, two, with_stack}

-- names of macros begin with a capital letter, or with a percent sign
abbrev pub is_request : List ℕ → Bool
is_request [] = false
is_request (b ∷ bs) = not (nat_le (code "A") b && nat_le b (code "Z")) && not (b == code "%")

-- the words of a line that one of these begins call no macro
abbrev pub calls_none : Macro → Bool
calls_none macros.Describes = true
calls_none macros.Declaration = true
calls_none macros.Library = true
calls_none macros.Plain = true
calls_none (macros.Part letter) = true
calls_none m = false

abbrev pub call_of : Macro → Call
call_of m = record {
  line = m;
  taker = m;
  first = true;
  plain = calls_none m;
  some = false;
  listed = false;
  many = false;
  following = followings.Nothing;
  going = false;
  comment = false;
  wanted = wanteds.Option;
  width = 0;
}

-- ---- the synopsis: a paragraph begins where a line of another kind came before

abbrev pub is_function : Last → Bool
is_function lasts.Function = true
is_function kind = false

abbrev pub is_variable : Last → Bool
is_variable lasts.Variable = true
is_variable kind = false

abbrev pub is_declaration : Last → Bool
is_declaration lasts.Declaration = true
is_declaration kind = false

abbrev pub is_include : Last → Bool
is_include lasts.Include = true
is_include kind = false

abbrev pub stands_after : Last → Last → Bool
stands_after lasts.Heading kind = true
stands_after lasts.Configuration kind = true
stands_after lasts.ResultType kind = is_function kind
stands_after lasts.Variable kind = is_variable kind
stands_after lasts.Declaration kind = is_declaration kind
stands_after lasts.Include kind = is_include kind
stands_after last kind = false

abbrev pub line_before : Last → Page → Act
line_before kind p = if stands_after p.place.last kind then acts.Request requests.Break else acts.Space

abbrev pub after : Last → Page → Page
after kind p = with_place (record p.place { last = kind }) p

abbrev pub synopsis_line : Last → Page → Offered
synopsis_line kind p = if not (is_synopsis p) then none p else offered (after kind p) (left (line_before kind p))

-- a function hangs
abbrev pub function_line : Page → Offered
function_line p =
    if not (is_synopsis p) then none p else
    offered (after lasts.Function p) (two (line_before lasts.Function p) (acts.Request requests.Hangs))

abbrev pub include_line : Page → Offered
include_line p =
    if not (is_synopsis p) then none p else
    offered (after lasts.Include p) (two (line_before lasts.Include p) (acts.Text texts.Include))

-- ---- titles and sections

abbrev pub titles : Page → Offered
titles p = none (record p { title = []; chapter = [] })

abbrev pub silent : Page → Offered
silent p = none (with_scan scans.Dropped p)

-- the title's line goes out once: with the system, or where no title came before that, with the first section
abbrev pub system : Page → Offered
system p =
    if p.place.titled then silent (record p { call = record p.call { line = macros.Silent } }) else
    if is_none p.title then offered p (two acts.System acts.Join) else offered p (left acts.Title)

abbrev pub heads : Page → Page
heads p =
    record p {
      place = record p.place { last = lasts.Heading; depth = 0 };
      lay = record p.lay { kept = false; literal = false };
    }

abbrev pub is_page : Kind → Bool
is_page kinds.Page = true
is_page kind = false

-- lists and displays that are open end at a heading, which has its space then
abbrev pub heading : Act → Page → Seen
heading head p =
    with_stack Empties (if is_page p.block.kind then left head
    else two (acts.Request requests.Distance) head)

abbrev pub in_section : Page → Page
in_section p =
    let q = heads p in
    record q { place = record q.place { section = sections.Other; split = splits.Never } }

abbrev pub section : Page → Offered
section p =
    offered (in_section p) (if p.place.titled then heading acts.Section p
    else with_stack Empties (three acts.Title acts.TitleEnds acts.Section))

abbrev pub subsection : Page → Offered
subsection p = offered (heads p) (heading acts.Subsection p)

abbrev pub paragraph : Page → Offered
paragraph p = offered (after lasts.Heading p) (left acts.Space)

-- space that the page itself asks for passes, but after space that was made
abbrev pub asks_space : Page → Offered
asks_space p = if p.lay.quiet then silent p else offered (with_scan scans.Rest p) (left acts.Control)

abbrev pub defines : Page → Offered
defines p = offered (with_scan scans.Defines p) (left acts.Control)

-- the words of a line stay together between `.Bk` and `.Ek`
abbrev pub keeps : Bool → Page → Offered
keeps kept p = silent (record p { lay = record p.lay { kept = kept } })

-- ---- tables: no space stands before one; what divides one prints nothing outside of one

abbrev pub table : Page → Offered
table p =
    if bytes_eq p.word (codes "TS")
    then offered (with_scan (scans.Table rows.Rest) p) (two (acts.Request requests.NoDistance) acts.Control)
    else silent p

abbrev pub table_ends : Page → Offered
table_ends p = offered (with_scan scans.Rest p) (left acts.Control)

-- ---- references

abbrev pub is_see_also : Section → Bool
is_see_also sections.SeeAlso = true
is_see_also s = false

abbrev pub book : Page → Offered
book p =
    offered (record p { place = record p.place { reference = true; authors = 0 }; parts = [] })
    (left (if is_see_also p.place.section then acts.Space else acts.Nothing))

abbrev pub book_ends : Page → Offered
book_ends p =
    if not p.place.reference then none p else offered (with_place (record p.place { reference = false }) p)
    (left acts.Reference)

abbrev pub part_begins : ℕ → Page → Offered
part_begins letter p = if not p.place.reference then none p else offered p (two (acts.Part letter) acts.Join)

abbrev pub part_ends : Page → Seen
part_ends p = left (if p.place.reference then acts.Fresh else acts.Close texts.Empty)

-- ---- a line begins

abbrev pub begins_block : Macro → Page → Offered
begins_block macros.List p = block_opens kinds.Item p
begins_block macros.Display p = block_opens kinds.Filled p
begins_block macros.Item p = item p
begins_block macros.ListEnds p = list_ends p
begins_block macros.DisplayEnds p = display_ends p
begins_block macros.Line p = line_opens p
begins_block macros.LiteralLine p = line_opens p
begins_block macros.ResultType p = synopsis_line lasts.ResultType p
begins_block macros.Function p = function_line p
begins_block macros.FunctionOpens p = function_line p
begins_block macros.Variable p = synopsis_line lasts.Variable p
begins_block macros.Declaration p = synopsis_line lasts.Declaration p
begins_block macros.Configuration p = synopsis_line lasts.Configuration p
begins_block macros.Include p = include_line p
begins_block m p = called m p

unfoldable pub begins : Macro → Page → Offered
begins macros.Title p = titles p
begins macros.System p = system p
begins macros.Section p = section p
begins macros.Subsection p = subsection p
begins macros.Paragraph p = paragraph p
begins macros.Describes p = offered p (left (acts.Text texts.Description))
begins macros.Silent p = silent p
begins macros.Spaces p = asks_space p
begins macros.Defines p = defines p
begins macros.Book p = book p
begins macros.BookEnds p = book_ends p
begins (macros.Part letter) p = part_begins letter p
begins macros.Keeps p = keeps true p
begins macros.KeepEnds p = keeps false p
begins macros.Table p = table p
begins macros.TableEnds p = table_ends p
begins macros.FontEnds p = offered p (left (acts.Request (requests.Font Roman)))
begins macros.Exits p = offered p (two (acts.Request requests.Break) (acts.Text texts.The))
begins macros.Returns p = offered p (left (acts.Request requests.Break))
begins m p = begins_block m p

abbrev pub is_condition : List ℕ → Bool
is_condition name =
    bytes_eq name (codes "if") || bytes_eq name (codes "ie") || bytes_eq name (codes "el")

abbrev pub is_in_name : Section → Bool
is_in_name sections.Name = true
is_in_name s = false

-- a condition in NAME: which of several names is the page's, nroff says
abbrev pub under_condition : Page → Page
under_condition p =
    if is_in_name p.place.section && is_condition p.word
    then record p { place = record p.place { section = sections.Condition } } else p

-- requests pass, and macros of the page's own; the words of a macro that is none are printed
abbrev pub other_line : Page → Offered
other_line p =
    if is_request p.word || is_own p
    then offered (with_scan scans.Rest (under_condition p)) (left acts.Control) else
    none (record p { call = call_of (macros.Words Roman) })

abbrev pub begins_or_other : Option Macro → Page → Offered
begins_or_other None p = other_line p
begins_or_other (Some m) p = begins m (record p { call = call_of m })

abbrev pub named_line : Page → Offered
named_line p = begins_or_other (macro_of p.word) (record p { scan = scans.Between; closers = [] })

-- ---- a line ends

abbrev pub exits : Page → Seen
exits p =
    if not p.call.listed then two acts.Own (acts.Text texts.Exits) else
    if is_none p.held then left (acts.Text texts.Exits)
    else two (acts.LastHeld p.call.many) (acts.Text texts.AllExit)

abbrev pub returns : Page → Seen
returns p =
    if not p.call.listed then left (acts.Text texts.Succeeds) else
    if is_none p.held then left (acts.Text texts.Returns) else
    three (acts.LastHeld p.call.many) (acts.Close texts.Parentheses) (acts.Text texts.AllReturn)

abbrev pub turned : Page → Page
turned p = if not p.call.some then record p { lay = record p.lay { spaced = not p.lay.spaced } } else p

-- without a word the spacing turns; a joint stays where words join
abbrev pub spacing : Page → Offered
spacing p =
    let q = turned p in none (record q { lay = record q.lay { joined = q.lay.joined && not q.lay.spaced } })

unfoldable pub end_of : Macro → Page → Offered
end_of macros.Section p = offered p (left acts.Quiet)
end_of macros.Subsection p = offered p (left acts.Quiet)
end_of macros.System p = offered p (left acts.TitleEnds)
end_of macros.List p = list_begins p
end_of macros.Display p = display_begins p
end_of macros.ListEnds p = offered p (outer_goes_on (acts.Request requests.Distance) p)
end_of macros.DisplayEnds p = offered p (outer_goes_on acts.Nothing p)
end_of macros.Line p = offered p (outer_goes_on (acts.Request requests.IndentEnds) p)
end_of macros.LiteralLine p = offered p (outer_goes_on (acts.Request requests.IndentEnds) p)
end_of macros.Item p = offered p (item_ends p)
end_of macros.Declaration p = offered p (left (acts.Request requests.Break))
end_of (macros.Part letter) p = offered p (part_ends p)
end_of macros.Exits p = offered p (exits p)
end_of macros.Returns p = offered p (returns p)
end_of macros.Spacing p = spacing p
end_of m p = none p

abbrev pub is_nothing : Act → Bool
is_nothing acts.Nothing = true
is_nothing act = false

-- a tag is whole once no enclosure is open in it
abbrev pub last_act : Page → Act
last_act p = if p.lay.tag && (p.place.depth == 0) then tag_ends p else acts.Ends

abbrev pub ended_seen : Page → Seen → Seen
ended_seen p seen = if is_nothing seen.third then record seen { third = last_act p } else seen

unfoldable pub line_ends : Page → Offered
line_ends p =
    let m = end_of p.call.line p in offered (with_scan scans.Start m.page) (ended_seen m.page (and_taken m.seen))

abbrev pub is_some_closer : Page → Type 0
is_some_closer p = is_none p.closers ≡ false

abbrev pub is_joins : Macro → Bool
is_joins macros.Joins = true
is_joins m = false

-- `.Ns` ends the line: what comes next joins what the line closes
abbrev pub ends_joined : Page → Bool
ends_joined p = is_joins p.call.taker && not p.call.some

-- the last of the enclosures that the line opened is closed
unfoldable pub closes_last : Page → Offered
closes_last p =
    let n = length p.closers - 1 in
    let close = acts.Close (texts.Closing (slice_index p.closers n)) in
    offered (record p { closers = take n p.closers }) (if ends_joined p then two close acts.Join else left close)

-- what is pending comes first, then what closes enclosures, the last first, then marks, and then what ends
-- the line
abbrev pub ends : Page → Offered
ends p =
    if is_pending p then leaves p else
    if not (is_none p.closers) then closes_last p else
    if not (is_none p.marks) then offered p (left acts.Marks) else line_ends p
