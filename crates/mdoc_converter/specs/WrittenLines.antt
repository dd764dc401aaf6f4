-- Lines as they are written: text lines, and lines of macros with their words.
use Rattle.std.specs.Prelude.{ℕ, List, [], ◌∷◌, ◌++◌, Bool, true, false, not, ◌==◌, ◌&&◌, ◌||◌, if◌then◌else◌}
use Rattle.std.specs.Prelude.{codes, Option, None, Some}
use Rattle.std.specs.Str.{bytes_eq}
use Prim.Native.Char.{code}
use Rattle.mdoc_layout.specs.declared.page.Escape.{Escape as Reached}
use Rattle.mdoc_layout.specs.declared.page.Escape.TheVariants as escapes
use Rattle.mdoc_layout.specs.declared.macros.Macro.{Macro}
use Rattle.mdoc_layout.specs.declared.macros.Macro.TheVariants as macros
use Rattle.mdoc_layout.specs.declared.page.Block.{Block}
use Rattle.mdoc_layout.specs.Blocks.{is_diagnosis}
use Rattle.mdoc_words.specs.Calls.{called_by, is_item}
use Rattle.mdoc_words.specs.Macros.{macro_of}
use Rattle.mdoc_words.specs.Meanings.{is_callable}
use Rattle.mdoc_layout.specs.Columns.{has_rows}
use Rattle.mdoc_words.specs.Escaping.{escape_then}
use Rattle.mdoc_words.specs.Keeping.{ends_escape, ends_word, is_title}
use Rattle.mdoc_layout.specs.Laying.{is_control}
use Rattle.mdoc_converter.specs.Lines.{calls_none}
use Rattle.mdoc_words.specs.Options.{is_heading}

-- ---- text lines

-- each byte of a list is such
abbrev pub each : (ℕ → Bool) → List ℕ → Bool
each test [] = true
each test (b ∷ bs) = test b && each test bs

abbrev pub begins_star : List ℕ → Bool
begins_star [] = false
begins_star (b ∷ bs) = b == code "*"

-- no string of mdoc's is named: nowhere a star stands after a backslash
abbrev pub names_no_string : List ℕ → Bool
names_no_string [] = true
names_no_string (b ∷ bs) = not ((b == code "\\") && begins_star bs) && names_no_string bs

abbrev pub is_text : ℕ → Bool
is_text b = not (b == code "\n")

-- what begins no other line, and isn't dropped at its beginning
abbrev pub begins_text : ℕ → Bool
begins_text b = not (is_control b) && not (ends_word b)

-- what a text line says; where it is a row, but for the tabs that end its cells, and blanks after them
abbrev pub row_said : Bool → Bool → List ℕ → List ℕ
row_said row after_tab [] = []
row_said row after_tab (b ∷ bs) =
    if (b == code "\t") && row then row_said row true bs else
    if (b == code " ") && after_tab then row_said row true bs else b ∷ row_said row false bs

-- ---- how a macro takes its words

-- as they are, but for their hyphens; as a description or a title, whose hyphens stay; as authors, among whom
-- are options; or as the first of a heading, as it is
pub data Way : Type 0 where
  Usual : Way
  Titled : Way
  Authors : Way
  Headed : Way

abbrev pub way_of_part : Bool → Way
way_of_part title = if title then Titled else Usual

abbrev pub way_of : Macro → Way
way_of macros.Describes = Titled
way_of macros.SectionName = Titled
way_of macros.Subsection = Titled
way_of (macros.Part letter) = way_of_part (is_title letter)
way_of macros.Author = Authors
way_of macros.Section = Headed
way_of m = Usual

-- what is said of a word: the options of `.An` are not printed
abbrev pub said_of : Way → List ℕ → List ℕ
said_of Authors word =
    if bytes_eq word (codes "-split") then [] else if bytes_eq word (codes "-nosplit") then [] else word
said_of way word = word

-- Whether a hyphen that is not the first letter of its word, after a hyphen or not, is kept as an escape,
-- since no line is broken after it. In titles it is so for one after another.
abbrev pub holds_hyphen : Way → Bool → Bool
holds_hyphen Titled following = following
holds_hyphen Headed following = false
holds_hyphen way following = true

-- ---- words of a macro's line, between quotes or not

-- a letter of a word: a byte, or an escape, which is a backslash and a byte
pub data Letter : Type 0 where
  Plain : ℕ → Letter
  Escape : ℕ → Letter

-- a byte of a word without quotes and escapes
abbrev pub is_plain : ℕ → Bool
is_plain b = not (ends_word b) && not (b == code "\"") && not (b == code "\\")

-- a byte between quotes
abbrev pub is_quotable : ℕ → Bool
is_quotable b = not (b == code "\n") && not (b == code "\\")

-- a byte after a backslash: it begins no comment, goes on with no further line, and names no string
abbrev pub is_escaped : ℕ → Bool
is_escaped b = not (b == code "\"") && not (b == code "\n") && not (b == code "*") && not (b == code "\\")

abbrev pub is_letter : Bool → Letter → Bool
is_letter quoted (Plain b) = if quoted then is_quotable b else is_plain b
is_letter quoted (Escape b) = is_escaped b

abbrev pub are_letters : Bool → List Letter → Bool
are_letters quoted [] = true
are_letters quoted (l ∷ ls) = is_letter quoted l && are_letters quoted ls

-- two quotes within quotes are one
abbrev pub bytes_of : Bool → Letter → List ℕ
bytes_of quoted (Plain b) = if quoted && (b == code "\"") then codes "\"\"" else b ∷ []
bytes_of quoted (Escape b) = code "\\" ∷ b ∷ []

abbrev pub written : Bool → List Letter → List ℕ
written quoted [] = []
written quoted (l ∷ ls) = bytes_of quoted l ++ written quoted ls

abbrev pub is_hyphen : Letter → Bool
is_hyphen (Plain b) = b == code "-"
is_hyphen (Escape b) = b == code "-"

abbrev pub is_held : Way → Bool → ℕ → Bool
is_held way following b = (b == code "-") && holds_hyphen way following

-- how far the escape after which a letter stands has been read beyond it; none where it has ended
abbrev pub reached_after : Option Reached → Letter → Option Reached
reached_after reached (Escape b) = escape_then escapes.Begun b
reached_after None (Plain b) = None
reached_after (Some reached) (Plain b) = if ends_escape b then None else escape_then reached b

-- whether a byte is of the name or the argument of that escape
abbrev pub is_named : Option Reached → ℕ → Bool
is_named None b = false
is_named (Some reached) b = not (ends_escape b)

-- a letter as it is kept, after a hyphen or not, where the blanks of its word stay together or not
abbrev pub kept_letter : Way → Bool → Option Reached → Bool → Letter → List ℕ
kept_letter way whole reached following (Plain b) =
    if is_named reached b then b ∷ [] else
    if (b == code " ") && whole then codes "\\~" else if is_held way following b then codes "\\-" else b ∷ []
kept_letter way whole reached following (Escape b) = code "\\" ∷ b ∷ []

-- the first letter of a word
abbrev pub kept_first : Bool → Letter → List ℕ
kept_first whole (Plain b) = if (b == code " ") && whole then codes "\\~" else b ∷ []
kept_first whole (Escape b) = code "\\" ∷ b ∷ []

abbrev pub kept_in : Way → Bool → Option Reached → Bool → List Letter → List ℕ
kept_in way whole reached following [] = []
kept_in way whole reached following (l ∷ ls) =
    kept_letter way whole reached following l ++ kept_in way whole (reached_after reached l) (is_hyphen l) ls

-- a word as it is kept, of any length
abbrev pub kept : Way → Bool → List Letter → List ℕ
kept way whole [] = []
kept way whole (l ∷ ls) = kept_first whole l ++ kept_in way whole (reached_after None l) (is_hyphen l) ls

-- ---- macros whose words are printed as they stand

-- Macros that print their words otherwise, or not at all, by the table of macros: names that tables have, and
-- the system's, which stands in the title; utilities and functions, of which a sentence is made; lines that
-- print nothing, or pass.
abbrev pub prints_otherwise : Macro → Bool
prints_otherwise macros.Att = true
prints_otherwise macros.Standard = true
prints_otherwise macros.Library = true
prints_otherwise macros.System = true
prints_otherwise macros.Exits = true
prints_otherwise macros.Returns = true
prints_otherwise macros.Keeps = true
prints_otherwise macros.KeepEnds = true
prints_otherwise macros.Silent = true
prints_otherwise macros.Table = true
prints_otherwise macros.TableEnds = true
prints_otherwise macros.Spaces = true
prints_otherwise macros.Defines = true
prints_otherwise m = false

-- macros whose words are read for what they ask: dates, titles, lists and displays, fonts and spacing
abbrev pub asks : Macro → Bool
asks macros.Date = true
asks macros.Title = true
asks macros.List = true
asks macros.Display = true
asks macros.FontBegins = true
asks macros.Spacing = true
asks m = false

-- a macro whose line has such words: any other than these, but for headings, whose first word is read
-- otherwise
abbrev pub heads_words : Macro → Bool
heads_words m = not (prints_otherwise m) && not (asks m) && not (is_heading m)

-- a macro that words call, and that prints its own as they stand
abbrev pub prints_words : Macro → Bool
prints_words m = is_callable m && not (prints_otherwise m)

-- ---- lines of macros

-- a word as it is written, or between quotes, by its letters
pub data Word : Type 0 where
  Bare : List Letter → Word
  Quoted : List Letter → Word

abbrev pub none_or : (Macro → Bool) → Option Macro → Bool
none_or test None = true
none_or test (Some m) = test m

-- the words of this macro's line call none: so do those of an item's head in a list of `-diag`
abbrev pub is_mute : Block → Macro → Bool
is_mute block m = calls_none m || (is_item m && is_diagnosis block.kind)

-- a word that calls no macro, where words may, or one that prints its words as they stand
abbrev pub is_word : Bool → Way → List Letter → Bool
is_word mute way [] = false
is_word mute way (l ∷ ls) =
    are_letters false (l ∷ ls) && none_or prints_words (called_by mute (kept way false (l ∷ ls)))

abbrev pub is_written : Bool → Way → Word → Bool
is_written mute way (Bare letters) = is_word mute way letters
is_written mute way (Quoted letters) = are_letters true letters

-- words after one that calls a macro are taken as that takes them
abbrev pub way_after : Way → Option Macro → Way
way_after way None = way
way_after way (Some m) = way_of m

abbrev pub way_then : Bool → Way → Word → Way
way_then mute way (Bare letters) = way_after way (called_by mute (kept way false letters))
way_then mute way (Quoted letters) = way

-- a word that calls a macro is not printed
abbrev pub unless_called : Way → Option Macro → List ℕ → List ℕ
unless_called way None word = said_of way word
unless_called way (Some m) word = []

abbrev pub are_written : Bool → Way → List Word → Bool
are_written mute way [] = true
are_written mute way (w ∷ ws) = is_written mute way w && are_written mute (way_then mute way w) ws

abbrev pub written_word : Word → List ℕ
written_word (Bare letters) = written false letters
written_word (Quoted letters) = codes "\"" ++ written true letters ++ codes "\""

abbrev pub after_each : List Word → List ℕ
after_each [] = []
after_each (w ∷ ws) = codes " " ++ written_word w ++ after_each ws

abbrev pub line_of : List ℕ → List Word → List ℕ
line_of name words = codes "." ++ name ++ after_each words ++ codes "\n"

-- the first word of a heading, which is printed as it is, or calls a macro
abbrev pub is_first : Word → Bool
is_first (Bare letters) = is_word false Headed letters
is_first (Quoted letters) = are_letters true letters

abbrev pub headed : Word → List ℕ
headed (Bare letters) =
    let word = kept Headed false letters in unless_called Headed (called_by false word) word
headed (Quoted letters) = kept Headed false letters

-- how the others are taken
abbrev pub way_headed : Word → Way
way_headed (Bare letters) = way_after Usual (called_by false (kept Headed false letters))
way_headed (Quoted letters) = Usual

-- what words say, where the blanks of these words between quotes stay together
abbrev pub printed_as : Bool → Way → List Bool → List Word → List ℕ
printed_as mute way wholes [] = []
printed_as mute way wholes (Bare letters ∷ ws) =
    let word = kept way false letters in
    unless_called way (called_by mute word) word ++ printed_as mute (way_then mute way (Bare letters)) wholes ws
printed_as mute way [] (Quoted letters ∷ ws) =
    said_of way (kept way false letters) ++ printed_as mute way [] ws
printed_as mute way (whole ∷ wholes) (Quoted letters ∷ ws) =
    said_of way (kept way whole letters) ++ printed_as mute way wholes ws

-- ---- lines whose words are read for what they ask

-- a list or a display
abbrev pub opens_block : Macro → Bool
opens_block macros.List = true
opens_block macros.Display = true
opens_block m = false

-- a byte of such a line, or an escape
abbrev pub is_asking : Letter → Bool
is_asking (Plain b) = not (b == code "\n") && not (b == code "\\")
is_asking (Escape b) = is_escaped b

abbrev pub are_asking : List Letter → Bool
are_asking [] = true
are_asking (l ∷ ls) = is_asking l && are_asking ls

abbrev pub begins_blank : List Letter → Bool
begins_blank [] = true
begins_blank (Plain b ∷ ls) = ends_word b
begins_blank (Escape b ∷ ls) = false

abbrev pub asking_line : List ℕ → List Letter → List ℕ
asking_line name rest = codes "." ++ name ++ written false rest ++ codes "\n"

-- ---- lines of a page

-- an empty line, a comment, by its bytes, a text line, by its first byte and the others, a heading, by its
-- first word and the others, a line of a macro, by its name and its words, or one that asks, by its name and
-- what stands after it
pub data Line : Type 0 where
  EmptyLine : Line
  CommentLine : List ℕ → Line
  TextLine : ℕ → List ℕ → Line
  HeadingLine : Word → List Word → Line
  MacroLine : List ℕ → List Word → Line
  AskingLine : List ℕ → List Letter → Line

abbrev pub heads_some : Option Macro → Bool
heads_some None = false
heads_some (Some m) = heads_words m

abbrev pub asks_some : Option Macro → Bool
asks_some None = false
asks_some (Some m) = asks m

abbrev pub mute_named : Block → Option Macro → Bool
mute_named block None = false
mute_named block (Some m) = is_mute block m

abbrev pub none_named : Option Macro → Bool
none_named None = false
none_named (Some m) = calls_none m

abbrev pub way_named : Option Macro → Way
way_named None = Usual
way_named (Some m) = way_of m

abbrev pub is_line : Line → Bool
is_line EmptyLine = true
is_line (CommentLine bs) = each is_text bs && names_no_string bs
is_line (TextLine b bs) = begins_text b && each is_text bs && names_no_string (b ∷ bs)
is_line (HeadingLine first words) = is_first first && are_written false (way_headed first) words
is_line (MacroLine name words) =
    heads_some (macro_of name) && each is_plain name
    && are_written (none_named (macro_of name)) (way_named (macro_of name)) words
is_line (AskingLine name rest) =
    asks_some (macro_of name) && each is_plain name && begins_blank rest && are_asking rest

abbrev pub are_lines : List Line → Bool
are_lines [] = true
are_lines (l ∷ ls) = is_line l && are_lines ls

abbrev pub written_line : Line → List ℕ
written_line EmptyLine = codes "\n"
written_line (CommentLine bs) = codes ".\\\"" ++ bs ++ codes "\n"
written_line (TextLine b bs) = b ∷ bs ++ codes "\n"
written_line (HeadingLine first words) = line_of (codes "Sh") (first ∷ words)
written_line (MacroLine name words) = line_of name words
written_line (AskingLine name rest) = asking_line name rest

abbrev pub written_lines : List Line → List ℕ
written_lines [] = []
written_lines (l ∷ ls) = written_line l ++ written_lines ls

-- what one says within this block, where the blanks of these words between quotes stay together
abbrev pub printed_line : List Bool → Block → Line → List ℕ
printed_line wholes block EmptyLine = []
printed_line wholes block (CommentLine bs) = []
printed_line wholes block (TextLine b bs) = row_said (has_rows block) false (b ∷ bs)
printed_line wholes block (HeadingLine first words) =
    headed first ++ printed_as false (way_headed first) wholes words
printed_line wholes block (MacroLine name words) =
    printed_as (mute_named block (macro_of name)) (way_named (macro_of name)) wholes words
printed_line wholes block (AskingLine name rest) = []
