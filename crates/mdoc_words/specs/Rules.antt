-- Macros with rules of their own, and how the page changes by them (mdoc(7), MACRO OVERVIEW).
use Rattle.std.specs.Prelude.{ℕ, ◌+◌, List, length, Bool, true}
use Rattle.std.specs.Prelude.{false, not, ◌==◌, ◌&&◌, nat_lt, if◌then◌else◌, ◌||◌, codes}
use Prim.Native.Char.{code}
use Rattle.mdoc_layout.specs.declared.acts.Act.TheVariants as acts
use Rattle.mdoc_layout.specs.declared.acts.Request.TheVariants as requests
use Rattle.mdoc_layout.specs.declared.acts.Text.TheVariants as texts
use Rattle.mdoc_layout.specs.declared.macros.Font.TheVariants.{Roman, Bold, Italic}
use Rattle.mdoc_layout.specs.declared.macros.Macro.TheVariants as macros
use Rattle.mdoc_layout.specs.declared.macros.Pair.TheVariants as pairs
use Rattle.mdoc_layout.specs.declared.page.Call.{Call}
use Rattle.mdoc_layout.specs.declared.page.Last.TheVariants as lasts
use Rattle.mdoc_layout.specs.declared.page.Page.{Page}
use Rattle.mdoc_layout.specs.declared.page.Parameters.TheVariants.{Outside, First, Further}
use Rattle.mdoc_layout.specs.declared.page.Place.{Place}
use Rattle.mdoc_layout.specs.declared.page.Scan.{Scan}
use Rattle.mdoc_layout.specs.declared.page.Section.{Section}
use Rattle.mdoc_layout.specs.declared.page.Section.TheVariants.{Synopsis}
use Rattle.mdoc_layout.specs.declared.seen.Seen.{Seen}
use Rattle.mdoc_layout.specs.Seeing.{Offered, offered, left, two, three}
use Rattle.std.specs.Str.{bytes_eq}
use Rattle.mdoc_layout.specs.declared.macros.System.{System}
use Rattle.mdoc_layout.specs.declared.page.Following.{Following}
use Rattle.mdoc_layout.specs.declared.page.Following.TheVariants as followings
use Rattle.mdoc_layout.specs.declared.page.Parameters.{Parameters}
use Rattle.mdoc_layout.specs.declared.page.Section.TheVariants as sections
use Rattle.mdoc_layout.specs.declared.page.Split.{Split}
use Rattle.mdoc_layout.specs.declared.page.Split.TheVariants.{Never, Next, Always}

abbrev pub hanging : ℕ → ℕ
hanging width = if nat_lt width 900 then width + 1 else 900

abbrev pub with_call : Call → Page → Page
with_call c p = record p { call = c }

abbrev pub with_place : Place → Page → Page
with_place pl p = record p { place = pl }

abbrev pub with_scan : Scan → Page → Page
with_scan s p = record p { scan = s }

abbrev pub seen_with : Page → Offered → Offered
seen_with p m = offered p m.seen

abbrev pub is_in_synopsis : Section → Bool
is_in_synopsis Synopsis = true
is_in_synopsis s = false

abbrev pub is_synopsis : Page → Bool
is_synopsis p = is_in_synopsis p.place.section

abbrev pub is_none : List ℕ → Bool
is_none xs = length xs == 0

abbrev pub takes_no_more : Page → Page
takes_no_more p = with_call (record p.call { taker = macros.Words Roman; first = false; some = true }) p

abbrev pub heads_line : Page → Bool
heads_line p = p.call.first && not p.call.some && is_synopsis p

-- the words of a line stay together there
abbrev pub after_name : Page → Page
after_name p = record p { place = record p.place { last = lasts.Name }; lay = record p.lay { kept = true } }

-- ---- what stands for a macro that took no words, or ends it

-- a synopsis sets the name apart from what it hangs after
abbrev pub own_name : Page → Offered
own_name p =
    if heads_line p then offered (after_name p) (two (acts.Hanging (hanging p.place.width)) acts.Own)
    else offered p (left acts.Own)

abbrev pub function_closes : Page → Offered
function_closes p =
    offered (with_place (record p.place { parameters = Outside }) p)
    (if is_synopsis p then two (acts.Close texts.FunctionEnds) (acts.Request requests.HangEnds)
    else left (acts.Close (texts.Closing (code ")"))))

-- a link stands after its name, and after a colon
abbrev pub link_closes : Page → Seen
link_closes p =
    if p.call.listed then two (acts.Close texts.Colon) (acts.Text texts.Link)
    else two acts.Fresh (acts.Text texts.Link)

-- ---- words that a macro takes

-- the first word of `.Nm` is the page's name
abbrev pub naming : Page → Page
naming p =
    if is_none p.name then record p { name = p.word; place = record p.place { width = p.call.width } } else p

abbrev pub is_conditional : Section → Bool
is_conditional sections.Condition = true
is_conditional s = false

-- under a condition it is a string of nroff, which keeps the word that is read
abbrev pub named_under_condition : Page → Page
named_under_condition p =
    record p {
      name = codes "\\*(%n";
      place = record p.place { section = sections.Name; width = p.call.width };
    }

abbrev pub named : Page → Offered
named p =
    if is_conditional p.place.section
    then offered (named_under_condition p) (two acts.Naming (acts.Word Bold)) else
    if heads_line (naming p)
    then offered (after_name (naming p)) (two (acts.Hanging (hanging p.call.width)) (acts.Word Bold))
    else offered (naming p) (left (acts.Word Bold))

abbrev pub is_further : Parameters → Bool
is_further Further = true
is_further parameters = false

abbrev pub is_outside : Parameters → Bool
is_outside Outside = true
is_outside parameters = false

abbrev pub is_first : Parameters → Bool
is_first First = true
is_first parameters = false

abbrev pub is_listed : Page → Bool
is_listed p = p.call.listed || (not p.call.some && is_further p.place.parameters)

abbrev pub after_first : Page → Page
after_first p =
    if is_first p.place.parameters then with_place (record p.place { parameters = Further }) p else p

abbrev pub listing : Page → Page
listing p = with_call (record p.call { listed = true }) p

-- commas stand between the parameters of a function
abbrev pub parameter : Page → Offered
parameter p =
    if is_outside p.place.parameters then offered p (left (acts.Word Italic)) else
    offered (listing (after_first p))
    (if is_listed p then two (acts.Close texts.Comma) (acts.Word Italic) else left (acts.Word Italic))

abbrev pub reference : Page → Offered
reference p =
    if not p.call.some then offered p (left (acts.Word Roman)) else
    offered (takes_no_more p)
    (three (acts.Close (texts.Opening pairs.Parentheses)) (acts.Joined Roman)
    (acts.Close (texts.Closing (code ")"))))

-- the version of a system stays with its name
abbrev pub version : System → Page → Offered
version system p =
    offered (takes_no_more p)
    (three (acts.Text (texts.System system)) (acts.Close texts.FixedSpace) (acts.Joined Roman))

abbrev pub splits : Split → Page → Offered
splits split p = offered (with_place (record p.place { split = split }) p) (left acts.Nothing)

abbrev pub author_line_by : Split → Page → Offered
author_line_by Always p = offered p (two (acts.Request requests.Break) (acts.Word Roman))
author_line_by Next p = offered (with_place (record p.place { split = Always }) p) (left (acts.Word Roman))
author_line_by Never p = offered p (left (acts.Word Roman))

-- an author who may begin a line
abbrev pub author_line : Page → Offered
author_line p = author_line_by p.place.split p

unfoldable pub named_author : Page → Offered
named_author p = if p.call.first && not p.call.some then author_line p else offered p (left (acts.Word Roman))

abbrev pub author : Page → Offered
author p =
    if bytes_eq p.word (codes "-split") then splits Always p else
    if bytes_eq p.word (codes "-nosplit") then splits Never p else
    named_author p

abbrev pub release : Page → Offered
release p =
    offered (with_call (record p.call { taker = macros.BsdRelease }) p)
    (two (acts.Word Roman) (acts.Close texts.Bsd))

-- what stands after a word that is only the prefix of a longer one comes later
abbrev pub after_later : Following → Page → Page
after_later following p = with_call (record p.call { following = following }) p

abbrev pub prefix : Page → Offered
prefix p =
    if p.lay.partial then offered (after_later followings.Joint (takes_no_more p)) (left (acts.Word Roman)) else
    offered (takes_no_more p) (two (acts.Word Roman) acts.Join)

-- a parenthesis stands after a function's name, all of it
abbrev pub function_begins : Page → Offered
function_begins p =
    if p.lay.partial then offered (after_later followings.Parenthesis p) (left (acts.Word Bold)) else
    offered p (three (acts.Word Bold) (acts.Close (texts.Opening pairs.Parentheses)) acts.Join)

abbrev pub function : Page → Offered
function p =
    if not p.call.some then function_begins p else
    if not p.call.listed then offered (listing p) (left (acts.Word Italic)) else
    offered p (two (acts.Close texts.Comma) (acts.Word Italic))

abbrev pub function_opens : Page → Offered
function_opens p = function_begins (with_place (record p.place { parameters = First }) (takes_no_more p))

abbrev pub include : Page → Offered
include p =
    if p.lay.partial then
    offered (after_later followings.Angle (takes_no_more p))
    (two (acts.Text (texts.Opening pairs.Signs)) (acts.Joined Italic)) else
    offered (takes_no_more p)
    (three (acts.Text (texts.Opening pairs.Signs)) (acts.Joined Italic)
    (acts.Close (texts.Closing (code ">"))))

-- A link stands after its name: a string keeps it meanwhile, where its line may be broken off.
abbrev pub keeps_link : Page → Bool
keeps_link p = p.call.first && not (p.lay.tag || p.lay.joined || p.place.reference)

abbrev pub link_name : Page → Offered
link_name p =
    if p.call.listed then offered p (left (acts.Word Italic))
    else offered (listing p) (two acts.Fresh (acts.Word Italic))

abbrev pub link : Page → Offered
link p =
    if p.call.some then link_name p else
    if keeps_link p then offered p (two (acts.Request requests.Link) (acts.Word Bold)) else
    offered (with_call (record p.call { taker = macros.Words Italic }) p) (left (acts.Word Bold))
