-- What is said of the words of lines and of the enclosures that a line opened, in any state of the page.
use Rattle.std.specs.Prelude.{◌≡◌, ℕ, ◌+◌, List, [], ◌∷◌, ◌++◌, length, reverse, Bool, nat_lt, true, false}
use Rattle.std.specs.Prelude.{not, ◌&&◌, ◌||◌, if◌then◌else◌, codes, Option, None, Some}
use Rattle.mdoc_layout.specs.declared.acts.Act.TheVariants as acts
use Rattle.mdoc_layout.specs.declared.acts.Text.TheVariants as texts
use Rattle.mdoc_layout.specs.declared.macros.Macro.{Macro}
use Rattle.mdoc_layout.specs.declared.page.Page.{Page}
use Rattle.mdoc_layout.specs.declared.page.Scan.{Scan}
use Rattle.mdoc_layout.specs.declared.page.Scan.TheVariants as scans
use Rattle.mdoc_converter.specs.declared.pending.Pending.TheVariants.{Nothing}
use Rattle.mdoc_words.specs.Calls.{is_pending}
use Rattle.mdoc_words.specs.Macros.{macro_of}
use Rattle.mdoc_words.specs.Rules.{with_scan}
use Rattle.mdoc_layout.specs.Columns.{has_rows}
use Rattle.mdoc_layout.specs.Laying.{Laid, laid, then_laid}
use Rattle.mdoc_layout.specs.LayingOut.{lay_out}
use Rattle.mdoc_converter.specs.Lines.{ends_joined}
use Rattle.mdoc_converter.specs.Reading.{State, preceded, fed, heard_in}
use Rattle.mdoc_converter.specs.Saying.{parts_of, state_after, text_of, words_of}
use Rattle.mdoc_converter.specs.WrittenLines.{each, names_no_string, is_text, begins_text, is_plain}
use Rattle.mdoc_converter.specs.WrittenLines.{heads_words, is_mute, way_of, Word, are_written, is_first}
use Rattle.mdoc_converter.specs.WrittenLines.{headed, way_headed, line_of, printed_as, opens_block, row_said}
use Rattle.mdoc_converter.specs.WrittenLines.{Line, AskingLine, are_lines, written_line, written_lines}
use Rattle.mdoc_converter.specs.WrittenLines.{printed_line}

-- ---- words

-- a page that is read so
abbrev pub reads_at : Scan → State → State
reads_at scan s = record s { page = with_scan scan s.page; pending = Nothing }

-- what goes out of a line is what it says, and these are the words of it, once and in order
pub record Says (s : State) (line said : List ℕ) : Type 0 where
  pub text : (fed s line).bytes ≡ text_of (parts_of s line)
  pub words : words_of (parts_of s line) ≡ said

-- in any state a text line says its bytes, where it is a row but for what ends its cells
abbrev pub TextIsSaid : Type 0
TextIsSaid =
    (s : State) (b : ℕ) (bs : List ℕ) → begins_text b ≡ true → each is_text bs ≡ true
    → names_no_string (b ∷ bs) ≡ true →
    Says (reads_at scans.Start s) (b ∷ bs ++ codes "\n") (row_said (has_rows s.page.block) false (b ∷ bs))

-- In any state where no marks are held back, a line of a macro says those of its words that call no macro and
-- are no options, each once and in order, with words between quotes, whose blanks stay together or not. Where
-- the words call none, it says all.
abbrev pub WordsAreSaid : Type 0
WordsAreSaid =
    (s : State) (m : Macro) (name : List ℕ) (words : List Word) → s.page.marks ≡ [] →
    macro_of name ≡ Some m → heads_words m ≡ true → each is_plain name ≡ true
    → are_written (is_mute s.page.block m) (way_of m) words ≡ true →
    (wholes : List Bool) × Says (reads_at scans.Start s) (line_of name words)
    (printed_as (is_mute s.page.block m) (way_of m) wholes words)

-- and a heading, whose first word keeps its hyphens, or calls a macro
abbrev pub HeadingsAreSaid : Type 0
HeadingsAreSaid =
    (s : State) (first : Word) (words : List Word) → s.page.marks ≡ [] →
    is_first first ≡ true → are_written false (way_headed first) words ≡ true →
    (wholes : List Bool) ×
    Says (reads_at scans.Start s) (line_of (codes "Sh") (first ∷ words))
    (headed first ++ printed_as false (way_headed first) wholes words)

-- fewer than sixty-four lists and displays are open around the innermost where one of these lines begins
-- another
abbrev pub opens_some : Option Macro → Bool
opens_some None = false
opens_some (Some m) = opens_block m

abbrev pub begins_block : Line → Bool
begins_block (AskingLine name rest) = opens_some (macro_of name)
begins_block line = false

abbrev pub has_room : State → List Line → Bool
has_room s [] = true
has_room s (l ∷ ls) =
    (not (begins_block l) || nat_lt (length s.blocks) 64) && has_room (state_after s (written_line l)) ls

-- what they say, where the blanks of these words between quotes stay together
abbrev pub printed_lines : List (List Bool) → State → List Line → List ℕ
printed_lines wholes s [] = []
printed_lines [] s (l ∷ ls) =
    printed_line [] s.page.block l ++ printed_lines [] (state_after s (written_line l)) ls
printed_lines (whole ∷ wholes) s (l ∷ ls) =
    printed_line whole s.page.block l ++ printed_lines wholes (state_after s (written_line l)) ls

-- in any state where no marks are held back, lines that follow one another say what each of them says, in
-- order
abbrev pub LinesAreSaid : Type 0
LinesAreSaid =
    (s : State) (lines : List Line) → s.page.marks ≡ [] → are_lines lines ≡ true
    → has_room (reads_at scans.Start s) lines ≡ true →
    (wholes : List (List Bool)) × Says (reads_at scans.Start s) (written_lines lines)
    (printed_lines wholes (reads_at scans.Start s) lines)

-- ---- enclosures of a line

-- what closes one joins what is before, and what comes next joins it where `.Ns` ended the line
abbrev pub close : ℕ → Page → Laid
close c p =
    let l = lay_out (acts.Close (texts.Closing c)) p in
    if ends_joined p then then_laid l (λ q. lay_out acts.Join q) else l

-- what closes several, one after another
abbrev pub close_all : List ℕ → Page → Laid
close_all [] p = laid p []
close_all (c ∷ cs) p = then_laid (close c p) (λ q. close_all cs q)

abbrev pub with_closers : List ℕ → Page → Page
with_closers cs p = record p { closers = cs }

-- in any state at the end of a line, where what is pending was said: what closes its enclosures goes out, the
-- last of them first, and then the line ends as one that opened none
abbrev pub LastIsClosedFirst : Type 0
LastIsClosedFirst =
    (n b : ℕ) (s : State) → s.page.scan ≡ scans.Ends → is_pending s.page ≡ false →
    let cs = s.page.closers in
    let l = close_all (reverse cs) s.page in
    heard_in (n + length cs) b s ≡ preceded l.bytes (length cs)
    (heard_in n b (record s { page = with_closers [] l.page }))
