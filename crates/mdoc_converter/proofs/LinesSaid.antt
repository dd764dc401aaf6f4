-- Lines that follow one another say what each of them says.
use Rattle.std.proofs.Common.{◌≡◌, ℕ, Bool, length, List, [], ◌∷◌, ◌++◌, true, false, not, ◌&&◌, ◌||◌, ◌==◌, nat_lt, Option, None, Some, refl, sym, ◌∙◌, ap, subst, append_assoc, append-nil}
use Rattle.std.specs.Prelude.{codes}
use Prim.Native.Char.{code}
use Rattle.mdoc_layout.specs.declared.macros.Macro.{Macro}
use Rattle.mdoc_layout.specs.declared.page.Page.{Page}
use Rattle.mdoc_layout.specs.declared.page.Scan.TheVariants as scans
use Rattle.mdoc_converter.specs.declared.pending.Pending.{Pending}
use Rattle.mdoc_converter.specs.declared.pending.Pending.TheVariants.{Nothing}
use Rattle.mdoc_words.specs.Calls.{is_item}
use Rattle.mdoc_words.specs.Macros.{macro_of}
use Rattle.mdoc_words.specs.Rules.{with_scan}
use Rattle.mdoc_layout.specs.Blocks.{is_diagnosis}
use Rattle.mdoc_converter.specs.Lines.{calls_none}
use Rattle.mdoc_converter.specs.Reading.{State, fed}
use Rattle.mdoc_converter.specs.Saying.{parts_of, text_of, words_of}
use Rattle.mdoc_converter.specs.WordLaws.{begins_block, has_room, opens_some, printed_lines, reads_at, LinesAreSaid}
use Rattle.mdoc_converter.specs.WrittenLines.{Way, is_first, mute_named, none_named, way_headed, way_named, way_of, printed_as, begins_star, begins_text, each, is_plain, is_text, names_no_string, Word, are_written, after_each, Line, EmptyLine, CommentLine, TextLine, HeadingLine, MacroLine, AskingLine, asks_some, are_asking, begins_blank, written, Letter, heads_some, is_line, are_lines, written_line, written_lines, printed_line}
use Rattle.mdoc_converter.proofs.After.{after, after-pending, words-append, Fresh}
use Rattle.mdoc_converter.proofs.AskingLines.{asking_said, line_names}
use Rattle.mdoc_converter.proofs.Escapes.{and_left, and_right, both, line-text}
use Rattle.mdoc_converter.proofs.HeadingLines.{heading_line, heading_names}
use Rattle.mdoc_converter.proofs.MacroLines.{plain_names}
use Rattle.mdoc_converter.proofs.OtherLines.{Said, comment_said, empty_said}
use Rattle.mdoc_converter.proofs.QuotedLines.{each_names, mute_written, quoted_line}
use Rattle.mdoc_converter.proofs.TextSaid.{text_fresh, text_is_said}

-- ---- one line

-- so does a line of a macro, where the blanks of some words between quotes stay together
record SaidAs (s : State) (l : Line) : Type 0 where
  wholes : List Bool
  said : Said s (written_line l) (printed_line wholes s.page.block l)

-- words that are written for a macro are so where its words call none
in_block : (t mute : Bool) (way : Way) (ws : List Word) → are_written mute way ws ≡ true → are_written (mute || t) way ws ≡ true
in_block t true way ws all = all
in_block true false way ws all = mute_written false way way ws all
in_block false false way ws all = all

heads_some_said : (o : Option Macro) (name : List ℕ) (ws : List Word) (s : State) → s.page.marks ≡ [] → macro_of name ≡ o
    → heads_some o ≡ true → each is_plain name ≡ true → are_written (none_named o) (way_named o) ws ≡ true → SaidAs s (MacroLine name ws)
heads_some_said None name ws s none e h plain all = absurd (let no : false ≡ true = h in cc)
heads_some_said (Some m) name ws s none e h plain all =
    let block = s.page.block in
    let line = quoted_line name ws m s none e h plain (in_block (is_item m && is_diagnosis block.kind) (calls_none m) (way_of m) ws all) in
    record {
      wholes = line.wholes;
      said = record {
        words = line.words ∙ ap (λ (p : Option Macro). printed_as (mute_named block p) (way_named p) line.wholes ws) (sym e);
        fresh = line.fresh;
      };
    }

-- and a line that asks says none, where a list or a display that it begins has room
room_for : Line → State → Bool
room_for l s = not (begins_block l) || nat_lt (length s.blocks) 64

asks_some_said : (o : Option Macro) (name : List ℕ) (rest : List Letter) (s : State) → s.page.marks ≡ [] → macro_of name ≡ o → asks_some o ≡ true
    → (not (opens_some o) || nat_lt (length s.blocks) 64) ≡ true → each is_plain name ≡ true → begins_blank rest ≡ true → are_asking rest ≡ true
    → SaidAs s (AskingLine name rest)
asks_some_said None name rest s none e h room plain blank good = absurd (let no : false ≡ true = h in cc)
asks_some_said (Some m) name rest s none e h room plain blank good =
    record { wholes = []; said = asking_said name rest m s none h e room plain blank good }

-- what is_line says of it
record IsAsking (name : List ℕ) (rest : List Letter) : Type 0 where
  asks : asks_some (macro_of name) ≡ true
  plain : each is_plain name ≡ true
  blank : begins_blank rest ≡ true
  good : are_asking rest ≡ true

is_asking_line : (name : List ℕ) (rest : List Letter) → is_line (AskingLine name rest) ≡ true → IsAsking name rest
is_asking_line name rest h =
    let a = asks_some (macro_of name) in
    let b = each is_plain name in
    let c = begins_blank rest in
    let prefix = and_left (a && b && c) (are_asking rest) h in
    let first = and_left (a && b) c prefix in
    record { asks = and_left a b first; plain = and_right a b first; blank = and_right (a && b) c prefix; good = and_right (a && b && c) (are_asking rest) h }

line_said : (l : Line) (s : State) → s.page.marks ≡ [] → is_line l ≡ true → room_for l s ≡ true → SaidAs s l
unfolding room_for
line_said EmptyLine s none h room = record { wholes = []; said = empty_said s none }
line_said (CommentLine bs) s none h room =
    record { wholes = []; said = comment_said bs s none (and_left (each is_text bs) (names_no_string bs) h) }
line_said (TextLine b bs) s none h room =
    let prefix = and_left (begins_text b && each is_text bs) (names_no_string (b ∷ bs)) h in
    let first = and_left (begins_text b) (each is_text bs) prefix in
    let rest = and_right (begins_text b) (each is_text bs) prefix in
    record {
      wholes = [];
      said = record {
        words = (text_is_said s b bs first rest (and_right (begins_text b && each is_text bs) (names_no_string (b ∷ bs)) h)).words;
        fresh = text_fresh b bs s none first rest;
      };
    }
line_said (HeadingLine w ws) s none h room =
    let written = are_written false (way_headed w) ws in
    let line = heading_line w ws s none (and_left (is_first w) written h) (and_right (is_first w) written h) in
    record { wholes = line.wholes; said = record { words = line.words; fresh = line.fresh } }
line_said (MacroLine name ws) s none h room =
    let written = are_written (none_named (macro_of name)) (way_named (macro_of name)) ws in
    let prefix = and_left (heads_some (macro_of name) && each is_plain name) written h in
    heads_some_said (macro_of name) name ws s none refl (and_left (heads_some (macro_of name)) (each is_plain name) prefix)
    (and_right (heads_some (macro_of name)) (each is_plain name) prefix)
    (and_right (heads_some (macro_of name) && each is_plain name) written h)
line_said (AskingLine name rest) s none h room =
    let is = is_asking_line name rest h in
    asks_some_said (macro_of name) name rest s none refl is.asks room is.plain is.blank is.good

-- ---- the lines

begins_again : (s t : State) → Fresh t → t.pending ≡ Nothing → t ≡ reads_at scans.Start t
begins_again s t f none =
    ap (λ (x : Pending). record t { pending = x }) none
    ∙ ap (λ (p : Page). record t { page = p; pending = Nothing }) (ap (λ (sc : _). with_scan sc t.page) f.scan_is)

record AllSaid (s : State) (ls : List Line) : Type 0 where
  wholes : List (List Bool)
  words : words_of (parts_of (reads_at scans.Start s) (written_lines ls)) ≡ printed_lines wholes (reads_at scans.Start s) ls

lines_said : (ls : List Line) (s : State) → s.page.marks ≡ [] → are_lines ls ≡ true → has_room (reads_at scans.Start s) ls ≡ true → AllSaid s ls
unfolding room_for
lines_said [] s none h room = record { wholes = []; words = refl }
lines_said (l ∷ ls) s none h room =
    let start = reads_at scans.Start s in
    let t = after start (written_line l) in
    let one = line_said l s none (and_left (is_line l) (are_lines ls) h) (and_left (room_for l s) (has_room t ls) room) in
    let again = begins_again s t one.said.fresh (after-pending start (written_line l)) in
    let rest = lines_said ls t one.said.fresh.marks_are (and_right (is_line l) (are_lines ls) h)
    (subst (λ (u : State). has_room u ls ≡ true) again (and_right (room_for l s) (has_room t ls) room)) in
    record {
      wholes = one.wholes ∷ rest.wholes;
      words =
          words-append start (written_line l) (written_lines ls)
          ∙ ap (λ (zs : List ℕ). zs ++ words_of (parts_of t (written_lines ls))) one.said.words
          ∙ ap (λ (u : State). printed_line one.wholes s.page.block l ++ words_of (parts_of u (written_lines ls))) again
          ∙ ap (λ (zs : List ℕ). printed_line one.wholes s.page.block l ++ zs)
          (rest.words ∙ ap (λ (u : State). printed_lines rest.wholes u ls) (sym again));
    }

-- ---- no string is named in them

-- a line but for its end
abbrev body : Line → List ℕ
body EmptyLine = []
body (CommentLine bs) = codes ".\\\"" ++ bs
body (TextLine b bs) = b ∷ bs
body (HeadingLine w ws) = codes "." ++ codes "Sh" ++ after_each (w ∷ ws)
body (MacroLine name ws) = codes "." ++ name ++ after_each ws
body (AskingLine name rest) = codes "." ++ name ++ written false rest

body_written : (l : Line) → written_line l ≡ body l ++ codes "\n"
body_written EmptyLine = refl
body_written (CommentLine bs) = refl
body_written (TextLine b bs) = refl
body_written (HeadingLine w ws) = refl
body_written (MacroLine name ws) = refl
body_written (AskingLine name rest) = refl

body_names : (l : Line) → is_line l ≡ true → names_no_string (body l) ≡ true
body_names EmptyLine h = refl
body_names (CommentLine bs) h = and_right (each is_text bs) (names_no_string bs) h
body_names (TextLine b bs) h = and_right (begins_text b && each is_text bs) (names_no_string (b ∷ bs)) h
body_names (HeadingLine w ws) h =
    let written = are_written false (way_headed w) ws in
    heading_names w ws (and_left (is_first w) written h) (and_right (is_first w) written h)
body_names (MacroLine name ws) h =
    let way = way_named (macro_of name) in
    let mute = none_named (macro_of name) in
    plain_names name (after_each ws)
    (and_right (heads_some (macro_of name)) (each is_plain name)
    (and_left (heads_some (macro_of name) && each is_plain name) (are_written mute way ws) h))
    (each_names ws mute way (and_right (heads_some (macro_of name) && each is_plain name) (are_written mute way ws) h))
body_names (AskingLine name rest) h = let is = is_asking_line name rest h in line_names name rest is.plain is.good

joined_names : (bs rest : List ℕ) → names_no_string bs ≡ true → names_no_string rest ≡ true → names_no_string (bs ++ code "\n" ∷ rest) ≡ true
joined_names [] rest h e = e
joined_names (b ∷ []) rest h e =
    both (not ((b == code "\\") && false)) (names_no_string rest) (and_left (not ((b == code "\\") && false)) true h) e
joined_names (b ∷ c ∷ cs) rest h e =
    both (not ((b == code "\\") && begins_star (c ∷ cs))) (names_no_string (c ∷ cs ++ code "\n" ∷ rest))
    (and_left (not ((b == code "\\") && begins_star (c ∷ cs))) (names_no_string (c ∷ cs)) h)
    (joined_names (c ∷ cs) rest (and_right (not ((b == code "\\") && begins_star (c ∷ cs))) (names_no_string (c ∷ cs)) h) e)

-- some lines, up to the end of the last
abbrev all_but_end : Line → List Line → List ℕ
all_but_end l [] = body l
all_but_end l (k ∷ ks) = body l ++ code "\n" ∷ all_but_end k ks

all_written : (l : Line) (ls : List Line) → written_lines (l ∷ ls) ≡ all_but_end l ls ++ codes "\n"
all_written l [] = append-nil (written_line l) ∙ body_written l
all_written l (k ∷ ks) =
    ap (λ (xs : List ℕ). xs ++ written_lines (k ∷ ks)) (body_written l)
    ∙ append_assoc (body l) (codes "\n") (written_lines (k ∷ ks))
    ∙ ap (λ (xs : List ℕ). body l ++ code "\n" ∷ xs) (all_written k ks)
    ∙ sym (append_assoc (body l) (code "\n" ∷ all_but_end k ks) (codes "\n"))

all_names : (l : Line) (ls : List Line) → are_lines (l ∷ ls) ≡ true → names_no_string (all_but_end l ls) ≡ true
all_names l [] h = body_names l (and_left (is_line l) true h)
all_names l (k ∷ ks) h =
    joined_names (body l) (all_but_end k ks) (body_names l (and_left (is_line l) (are_lines (k ∷ ks)) h))
    (all_names k ks (and_right (is_line l) (are_lines (k ∷ ks)) h))

lines_text : (ls : List Line) (s : State) → are_lines ls ≡ true
    → (fed (reads_at scans.Start s) (written_lines ls)).bytes ≡ text_of (parts_of (reads_at scans.Start s) (written_lines ls))
lines_text [] s h = refl
lines_text (l ∷ ls) s h =
    let start = reads_at scans.Start s in
    subst (λ (xs : List ℕ). (fed start xs).bytes ≡ text_of (parts_of start xs)) (sym (all_written l ls))
    (line-text (all_but_end l ls) start refl (all_names l ls h))

pub lines_are_said : LinesAreSaid
lines_are_said s ls none h room =
    let all = lines_said ls s none h room in (all.wholes, record { text = lines_text ls s h; words = all.words })
