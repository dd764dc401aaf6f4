-- The lines that tell what is wrong with pages.
use Rattle.std.specs.Prelude.{ℕ, List, [], ◌++◌, length, Bool, ◌==◌, if◌then◌else◌, codes}
use Rattle.std.specs.Str.{bytes_eq}
use Rattle.filters_complaints.specs.Lines as lines
use Rattle.filters_complaints.specs.Names.{printable}
use Rattle.mdoc_command.specs.Telling.{AllReported}
use Rattle.mdoc_command.specs.Watching.{all_heard, finished, first_page}
use Rattle.mdoc_command.specs.declared.complaints.Parts.{Parts}
use Rattle.mdoc_command.specs.declared.telling.Complaint.{Complaint}
use Rattle.mdoc_command.specs.declared.telling.Kind.{Kind}
use Rattle.mdoc_command.specs.declared.telling.Kind.TheVariants.{Unknown, NotOpen, TooMany, Nested, Broken}
use Rattle.mdoc_command.specs.declared.telling.Kind.TheVariants.{NotEnded, Outside, NoKind, BadWord}
use Rattle.mdoc_command.specs.declared.telling.Kind.TheVariants.{NoSection, Empty, Words, Late, OpenQuote}
use Rattle.mdoc_command.specs.declared.telling.Kind.TheVariants.{Again, Excess, NoName, Nameless}

-- what is wrong, and the name of a macro
abbrev pub about : List ℕ → List ℕ → List ℕ
about what name = what ++ printable name

-- what was cut of a name stands as dots
abbrev pub unknown : List ℕ → Bool → List ℕ
unknown name cut = about (codes "unknown macro: ") name ++ (if cut then codes ".." else [])

-- with its word, where that is kept
abbrev pub about_word : List ℕ → List ℕ → List ℕ → List ℕ
about_word what name word = about what name ++ (if length word == 0 then [] else codes " " ++ printable word)

-- the first of two macros breaks the block of the second
abbrev pub breaks : List ℕ → List ℕ → List ℕ → List ℕ
breaks what by block = about what by ++ (codes " breaks " ++ printable block)

-- ---- what is wrong

abbrev pub outside_text : List ℕ → List ℕ
outside_text name = if bytes_eq name (codes "It") then codes "item outside list: " else codes "column outside column list: "

abbrev pub without_kind_text : List ℕ → List ℕ
without_kind_text name =
    if bytes_eq name (codes "Bl") then codes "missing list type: " else codes "missing display type: "

abbrev pub unknown_word_text : List ℕ → List ℕ
unknown_word_text name =
    if bytes_eq name (codes "St") then codes "unknown standard specifier: " else
    if bytes_eq name (codes "Lb") then codes "unknown library name: " else codes "unknown AT&T UNIX version: "

abbrev pub late_text : List ℕ → List ℕ
late_text name = if bytes_eq name (codes "Dt") then codes "late title macro: " else codes "late prologue macro: "

abbrev pub kind_text : Kind → List ℕ
kind_text (Unknown name cut) = unknown name cut
kind_text (NotOpen name) = about (codes "end of block that is not open: ") name
kind_text (TooMany name) = about (codes "more than 64 blocks open: ") name
kind_text (Nested by block) = breaks (codes "blocks badly nested: ") by block
kind_text (Broken by block) = breaks (codes "missing end of block: ") by block
kind_text (NotEnded name) = about (codes "missing end of block: ") name
kind_text (Outside name) = about (outside_text name) name
kind_text (NoKind name) = about (without_kind_text name) name
kind_text (BadWord name word) = about_word (unknown_word_text name) name word
kind_text (NoSection name word) = about_word (codes "missing section argument: ") name word
kind_text (Empty name) = about (codes "empty macro: ") name
kind_text (Words name) = about (codes "arguments that are not taken: ") name
kind_text (Late name) = about (late_text name) name
kind_text (OpenQuote name) = about (codes "unterminated quoted argument: ") name
kind_text (Again name) = about (codes "duplicate prologue macro: ") name
kind_text (Excess name word) = about_word (codes "excess arguments: ") name word
kind_text (NoName name) = about (codes "missing manual name: ") name
kind_text (Nameless name) = about (codes "NAME section without Nm before ") name

-- as it is written, up to the end of the line
abbrev pub rest_text : List ℕ → List ℕ → List ℕ → List ℕ → List ℕ
rest_text what first between second = what ++ (printable first ++ (between ++ (printable second ++ codes "\n")))

abbrev pub parts_text : Parts → List ℕ
parts_text parts = about parts.what.now parts.first ++ (parts.between.now ++ printable parts.second)

-- ---- lines

abbrev pub said_of : Complaint → List ℕ
said_of c = kind_text c.kind ++ codes "\n"

-- THE LINES of a program about the text of this name, of which this is reported
abbrev pub lines_of : List ℕ → List ℕ → AllReported → List ℕ
lines_of program name t = lines.lines_of (λ (c : Complaint). c.line) said_of program name t

-- What is reported of a whole page: of 64 blocks that are open at once, and 64 complaints.
abbrev pub reported_of : List ℕ → AllReported
reported_of page = (finished (all_heard page (first_page 64 64))).reported
