-- The bytes of a word are kept (mdoc(7), MACRO SYNTAX; groff(7), comments).
use Rattle.std.specs.Prelude.{ℕ, ◌+◌, ◌-◌, List, [], ◌∷◌, ◌++◌, length, Bool, true, false, not, ◌==◌, ◌&&◌}
use Rattle.std.specs.Prelude.{◌||◌, nat_lt, if◌then◌else◌, slice_index, codes, Option, None, Some}
use Prim.Native.Char.{code}
use Rattle.mdoc_layout.specs.declared.acts.Act.TheVariants as acts
use Rattle.mdoc_layout.specs.declared.page.Escape.{Escape}
use Rattle.mdoc_layout.specs.declared.page.Escape.TheVariants as escapes
use Rattle.mdoc_layout.specs.declared.macros.Macro.{Macro}
use Rattle.mdoc_layout.specs.declared.macros.Macro.TheVariants as macros
use Rattle.mdoc_layout.specs.declared.page.Inside.{Inside}
use Rattle.mdoc_layout.specs.declared.page.Inside.TheVariants as insides
use Rattle.mdoc_layout.specs.declared.page.Page.{Page}
use Rattle.mdoc_layout.specs.declared.page.Scan.{Scan}
use Rattle.mdoc_layout.specs.declared.page.Scan.TheVariants as scans
use Rattle.mdoc_layout.specs.declared.seen.Seen.{Seen}
use Rattle.mdoc_words.specs.Rules.{is_none, is_outside, is_synopsis, with_scan}
use Rattle.mdoc_words.specs.Escaping.{escape_then}
use Rattle.mdoc_words.specs.Options.{is_shown, reads_for}
use Rattle.mdoc_layout.specs.Seeing.{Offered, offered, left, taken}

abbrev pub ends_word : ℕ → Bool
ends_word b = (b == code " ") || (b == code "\t") || (b == code "\n")

abbrev pub turns : Scan → Seen → Page → Offered
turns scan seen p = offered (with_scan scan p) seen

-- ---- words

abbrev pub word_begins : Scan → Seen → Page → Offered
word_begins scan seen p = turns scan seen (record p { word = []; call = record p.call { width = 0 } })

abbrev pub widens : Page → Page
widens p =
    if nat_lt p.call.width 9999 then record p { call = record p.call { width = p.call.width + 1 } } else p

abbrev pub keeping : List ℕ → Page → Page
keeping bytes p = record p { word = p.word ++ bytes }

-- where a byte has no room: in a word, or after a backslash in it
abbrev pub within : Bool → Inside
within quoted = if quoted then insides.Quoted else insides.Word

abbrev pub within_escape : Bool → Inside
within_escape quoted = if quoted then insides.QuotedEscape else insides.Escape

abbrev pub names_page : Macro → Bool
names_page macros.Title = true
names_page m = false

-- what was read of a title becomes a string, after which the title goes on
abbrev pub is_titling : Page → Bool
is_titling p = names_page p.call.taker && not p.call.some

abbrev pub after_prefix : Page → Page
after_prefix p = record p { title = p.word; word = codes "\\*(%T" }

-- of another word that isn't printed a byte is only counted
unfoldable pub keep_unshown : ℕ → Page → Offered
keep_unshown b p =
    if is_titling p then offered (widens (keeping (b ∷ []) (after_prefix p))) (taken acts.TitlePrefix)
    else offered (widens p) (taken acts.Nothing)

-- thirty bytes of a word are kept; more go out in parts
abbrev pub keep : ℕ → Bool → Page → Offered
keep b quoted p =
    if nat_lt (length p.word) 30 then offered (widens (keeping (b ∷ []) p)) (taken acts.Nothing) else
    if is_shown p then turns (scans.Long (within quoted)) (left acts.Nothing) p else keep_unshown b p

abbrev pub in_word_of : Bool → Scan
in_word_of quoted = if quoted then scans.Quoted else scans.Word

-- `\&` takes no room
abbrev pub wider : ℕ → Page → Page
wider b p = if not (b == code "&") then widens p else p

abbrev pub keep_escape : ℕ → Bool → Page → Offered
keep_escape b quoted p =
    if nat_lt (length p.word) 30
    then turns (in_word_of quoted) (taken acts.Nothing)
    (wider b (keeping (b ∷ []) (keeping (code "\\" ∷ []) p))) else
    if is_shown p then turns (scans.Long (within_escape quoted)) (left acts.Nothing) p else
    turns (in_word_of quoted) (taken acts.Nothing) (wider b p)

abbrev pub is_title : ℕ → Bool
is_title b = (b == code "B") || (b == code "N") || (b == code "O") || (b == code "R") || (b == code "T")

abbrev pub ends_in_hyphen : List ℕ → Bool
ends_in_hyphen bs = nat_lt 0 (length bs) && (slice_index bs (length bs - 1) == code "-")

-- hyphens stay as they are in words that tables have, and in descriptions, titles and headings
abbrev pub looks_up : Macro → Bool
looks_up macros.Standard = true
looks_up macros.Describes = true
looks_up macros.SectionName = true
looks_up macros.Subsection = true
looks_up (macros.Part letter) = is_title letter
looks_up m = reads_for m

abbrev pub is_looked_up : Page → Bool
is_looked_up p = looks_up p.call.taker

abbrev pub has_dashes : Macro → Bool
has_dashes macros.Describes = true
has_dashes macros.SectionName = true
has_dashes macros.Subsection = true
has_dashes (macros.Part letter) = true
has_dashes m = false

-- but for the second of a dash in them
abbrev pub is_dash : Page → Bool
is_dash p = has_dashes p.call.taker && ends_in_hyphen p.word

-- another hyphen that doesn't begin its word is kept as an escape, since no line is broken after that
abbrev pub keep_byte : ℕ → Bool → Page → Offered
keep_byte b quoted p =
    if (b == code "-") && not (is_none p.word) && (not (is_looked_up p) || is_dash p)
    then keep_escape b quoted p else keep b quoted p

abbrev pub whole_for : Macro → Page → Bool
whole_for macros.Parameter p = not (is_outside p.place.parameters)
whole_for macros.Function p = is_synopsis p
whole_for m p = false

-- the words of a parameter stay together
abbrev pub is_whole : Page → Bool
is_whole p = whole_for p.call.taker p

-- a blank that stays with what it stands between
abbrev pub keep_blank : Page → Offered
keep_blank p =
    if nat_lt (length p.word) 30 then keep_escape (code "~") true p
    else turns (scans.Long insides.Quoted) (left acts.Nothing) p

abbrev pub in_word : ℕ → Page → Offered
in_word b p =
    if ends_word b then turns (scans.Given false) (left acts.Nothing) p else
    if b == code "\\" then turns scans.Escape (taken acts.Nothing) p else keep_byte b false p

abbrev pub in_quotes : ℕ → Page → Offered
in_quotes b p =
    if b == code "\"" then turns scans.Closing (taken acts.Nothing) p else
    if b == code "\n" then turns (scans.Given true) (left acts.Nothing) p else
    if b == code "\\" then turns scans.QuotedEscape (taken acts.Nothing) p else
    if (b == code " ") && is_whole p then keep_blank p else keep_byte b true p

-- two quotes within quotes are one
abbrev pub keep_quote : Page → Offered
keep_quote p =
    if not (nat_lt (length p.word) 30) && is_shown p
    then turns (scans.Long insides.Closing) (left acts.Nothing) p
    else keep (code "\"") true (with_scan scans.Quoted p)

abbrev pub closing : ℕ → Page → Offered
closing b p =
    if b == code "\"" then keep_quote p else turns (scans.Given true) (left acts.Nothing) p

-- ---- escapes and comments in words

abbrev pub comment : Bool → Page → Offered
comment quoted p =
    turns (if is_none p.word && not p.call.going then scans.Between else scans.Given quoted)
    (left acts.Nothing)
    (record p { call = record p.call { comment = true } })

-- a line goes on with the next: a word that was not begun may begin there
abbrev pub continued : Bool → Page → Offered
continued quoted p =
    turns (if not quoted && is_none p.word && not p.call.going then scans.Between else in_word_of quoted)
    (taken acts.Nothing) p

-- in what goes on of an escape of a word, or in the word
abbrev pub in_named : Option Escape → Bool → Scan
in_named None quoted = in_word_of quoted
in_named (Some escape) quoted = scans.Named escape quoted

-- an escape is kept, and its name or its argument may come
abbrev pub keep_begun : ℕ → Bool → Page → Offered
keep_begun b quoted p =
    let m = keep_escape b quoted p in
    if m.seen.takes then offered (with_scan (in_named (escape_then escapes.Begun b) quoted) m.page) m.seen else m

-- a line whose last byte is a backslash goes on with the next
abbrev pub in_escape : ℕ → Bool → Page → Offered
in_escape b quoted p =
    if b == code "\"" then comment quoted p else
    if b == code "\n" then continued quoted p else keep_begun b quoted p

-- what ends an escape that has not ended: what ends the word, a quote and a backslash
abbrev pub ends_escape : ℕ → Bool
ends_escape b = ends_word b || (b == code "\"") || (b == code "\\")

abbrev pub after_name : Bool → ℕ → Page → Offered
after_name quoted b p =
    let q = with_scan (in_word_of quoted) p in if quoted then in_quotes b q else in_word b q

-- in the name or the argument of an escape its bytes stay as they are
abbrev pub in_name_of : Escape → Bool → ℕ → Page → Offered
in_name_of escape quoted b p =
    let then_scan = in_named (escape_then escape b) quoted in
    if ends_escape b then after_name quoted b p else
    if nat_lt (length p.word) 30 then turns then_scan (taken acts.Nothing) (keeping (b ∷ []) p) else
    if is_shown p then turns (scans.Long (insides.Named escape quoted)) (left acts.Nothing) p
    else turns then_scan (taken acts.Nothing) p
