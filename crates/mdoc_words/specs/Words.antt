-- A word is whole (mdoc(7), MACRO SYNTAX): it is a closing mark, calls a macro, or is read for one.
use Rattle.std.specs.Prelude.{ℕ, List, [], ◌∷◌, ◌++◌, length, Bool, true, false, not, ◌==◌, ◌&&◌, ◌||◌}
use Rattle.std.specs.Prelude.{if◌then◌else◌, Option, None, Some, is_some}
use Prim.Native.Char.{code}
use Rattle.mdoc_layout.specs.declared.acts.Act.TheVariants as acts
use Rattle.mdoc_layout.specs.declared.acts.Text.TheVariants as texts
use Rattle.mdoc_layout.specs.declared.macros.Font.TheVariants.{Roman}
use Rattle.mdoc_layout.specs.declared.macros.Macro.{Macro}
use Rattle.mdoc_layout.specs.declared.macros.Macro.TheVariants as macros
use Rattle.mdoc_layout.specs.declared.macros.Pair.TheVariants as pairs
use Rattle.mdoc_layout.specs.declared.page.Following.{Following}
use Rattle.mdoc_layout.specs.declared.page.Following.TheVariants as followings
use Rattle.mdoc_layout.specs.declared.page.Inside.{Inside}
use Rattle.mdoc_layout.specs.declared.page.Inside.TheVariants as insides
use Rattle.mdoc_layout.specs.declared.page.Page.{Page}
use Rattle.mdoc_layout.specs.declared.page.Scan.{Scan}
use Rattle.mdoc_layout.specs.declared.page.Scan.TheVariants as scans
use Rattle.mdoc_layout.specs.declared.seen.Seen.{Seen}
use Rattle.mdoc_words.specs.Calls.{call, called_by, is_enclosure_pending, is_pending, leaves}
use Rattle.mdoc_words.specs.Meanings.{begins_anew}
use Rattle.mdoc_words.specs.Rules.{is_none, prefix, seen_with, with_call, with_scan}
use Rattle.mdoc_words.specs.Taking.{argument, is_prefix}
use Rattle.mdoc_words.specs.Options.{is_heading, option, reads_options}
use Rattle.mdoc_layout.specs.Seeing.{Offered, offered, left, two, three}

abbrev pub is_closing : ℕ → Bool
is_closing b =
    (b == code ".") || (b == code ",") || (b == code ":") || (b == code ";")
    || (b == code ")") || (b == code "]") || (b == code "?") || (b == code "!")

abbrev pub closing_mark : Bool → List ℕ → Option ℕ
closing_mark quoted [] = None
closing_mark quoted (b ∷ []) = if not quoted && is_closing b then Some b else None
closing_mark quoted (a ∷ b ∷ rest) = None

-- ---- closing marks are held back, as they may be the last of the line

-- so many of them
abbrev pub most_marks : ℕ
most_marks = 32

-- a mark ends what the release of BSD may be
abbrev pub taken_after_mark : Macro → Macro
taken_after_mark macros.BsdRelease = macros.Words Roman
taken_after_mark m = m

abbrev pub holding : ℕ → Page → Page
holding b p =
    record p {
      scan = scans.Between;
      marks = p.marks ++ b ∷ [];
      call = record p.call { taker = taken_after_mark p.call.taker; some = true; listed = false };
    }

abbrev pub takes_marks : Macro → Bool
takes_marks (macros.Words font) = true
takes_marks macros.SectionName = true
takes_marks macros.Subsection = true
takes_marks macros.Parameter = true
takes_marks macros.ResultType = true
takes_marks macros.Variable = true
takes_marks macros.Configuration = true
takes_marks macros.Declaration = true
takes_marks m = is_prefix m

-- a closing mark that comes first is a word for some macros
abbrev pub is_text : Page → Bool
is_text p = not p.call.some && takes_marks p.call.taker

abbrev pub mark_as_word : Page → Offered
mark_as_word p =
    let q = with_scan scans.Between p in
    if is_prefix p.call.taker then prefix q else
    offered (with_call (record q.call { some = true }) q) (left (acts.Word Roman))

abbrev pub taken_by_same : Macro → Offered → Offered
taken_by_same m l = seen_with (with_call (record l.page.call { taker = m }) l.page) l

-- a mark comes first: the macro stands for text
unfoldable pub stands : Page → Offered
stands p = if begins_anew p.call.taker then taken_by_same p.call.taker (leaves p) else leaves p

unfoldable pub mark : ℕ → Page → Offered
mark b p =
    if is_pending p then stands p else
    if is_text p then mark_as_word p else
    if length p.marks == most_marks then offered p (left acts.Marks) else offered (holding b p) (left acts.Nothing)

-- ---- a word is whole

abbrev pub read_or_called : Option Macro → Bool → Page → Offered
read_or_called None quoted p = argument quoted p
read_or_called (Some m) quoted p = call m p

unfoldable pub unmarked : Bool → Page → Offered
unmarked quoted p =
    if not (is_none p.marks) then offered p (left acts.Marks)
    else read_or_called (called_by (quoted || p.call.plain) p.word) quoted p

abbrev pub marked_or : Option ℕ → Bool → Page → Offered
marked_or None quoted p = unmarked quoted p
marked_or (Some b) quoted p = mark b p

unfoldable pub parsed : Bool → Page → Offered
parsed quoted p = marked_or (closing_mark quoted p.word) quoted p

-- its last part, and what stands after all of it
abbrev pub after_long : Following → Seen
after_long followings.Nothing = left acts.LastMore
after_long followings.Parenthesis = three acts.LastMore (acts.Close (texts.Opening pairs.Parentheses)) acts.Join
after_long followings.Angle = two acts.LastMore (acts.Close (texts.Closing (code ">")))
after_long followings.Joint = two acts.LastMore acts.Join

-- after the first word of a heading others are read as they are on other lines
abbrev pub taken_after : Macro → Macro
taken_after macros.Section = macros.Words Roman
taken_after m = m

abbrev pub ends_long : Page → Offered
ends_long p =
    offered
    (record p {
      scan = scans.Between;
      call = record p.call {
        going = false;
        following = followings.Nothing;
        taker = taken_after p.call.taker;
      };
    })
    (after_long p.call.following)

-- the first word of a section's heading calls a macro
abbrev pub heading_calls : Bool → Page → Bool
heading_calls quoted p = is_heading p.call.taker && is_some (called_by quoted p.word)

abbrev pub given : Bool → Page → Offered
given quoted p =
    if p.call.going then ends_long p else
    if reads_options p && not (heading_calls quoted p) then option p else parsed quoted p

-- ---- words longer than what is kept of one

abbrev pub prefixed : Page → Page
prefixed p = record p { lay = record p.lay { partial = true }; call = record p.call { going = true } }

abbrev pub long_begins : Inside → Page → Offered
long_begins inside p =
    let m = argument true (prefixed p) in seen_with (with_scan (scans.Goes inside) m.page) m

abbrev pub long : Inside → Page → Offered
long inside p =
    if p.call.going then offered (with_scan (scans.Goes inside) p) (left acts.More) else
    if not (is_none p.marks) then offered p (left acts.Marks) else
    if is_enclosure_pending p then leaves p else long_begins inside p

abbrev pub goes_to : Inside → Scan
goes_to insides.Word = scans.Word
goes_to insides.Escape = scans.Escape
goes_to insides.Quoted = scans.Quoted
goes_to insides.QuotedEscape = scans.QuotedEscape
goes_to insides.Closing = scans.Closing
goes_to (insides.Named escape quoted) = scans.Named escape quoted

abbrev pub goes_on : Inside → Page → Offered
goes_on inside p = offered (record p { scan = goes_to inside; word = [] }) (left acts.Nothing)
