-- The words of a macro's line, and what is wrong with them (mdoc(7), MACRO OVERVIEW).
use Rattle.std.specs.Prelude.{ℕ, ◌+◌, List, [], length, Bool, true, false, not, ◌==◌, ◌&&◌, ◌||◌, nat_lt}
use Rattle.std.specs.Prelude.{if◌then◌else◌, codes, Option, None, Some, is_some}
use Rattle.std.specs.Str.{bytes_eq}
use Rattle.mdoc_layout.specs.Laying.{library_named, standard_named, version_named}
use Rattle.mdoc_command.specs.declared.telling.Kind.{Kind}
use Rattle.mdoc_command.specs.declared.telling.Kind.TheVariants as kinds
use Rattle.mdoc_command.specs.declared.wording.Options.{Options}
use Rattle.mdoc_command.specs.declared.wording.Options.TheVariants.{Next, Value, Columns, Excess}
use Rattle.mdoc_command.specs.declared.wording.Wording.{Wording}
use Rattle.mdoc_command.specs.Names.{has_value, is_display_kind, is_flag, is_list_kind, is_mark, needs_words}
use Rattle.mdoc_command.specs.Names.{takes_none}

-- no line of a macro
abbrev pub no_line : Wording
no_line = record { reading = false; line = 0; name = []; first = []; words = 0; kind = false; options = Next }

-- the line of a macro begins
abbrev pub line_of : List ℕ → ℕ → Wording
line_of name line =
    record { reading = true; line = line; name = name; first = []; words = 0; kind = false; options = Next }

-- two words are many
abbrev pub more : Wording → Wording
more w = if nat_lt w.words 2 then record w { words = w.words + 1 } else w

abbrev pub is_kind : List ℕ → List ℕ → Bool
is_kind name word =
    (bytes_eq name (codes "Bl") && is_list_kind word) || (bytes_eq name (codes "Bd") && is_display_kind word)

abbrev pub with_first : List ℕ → Wording → Wording
with_first word w = if w.words == 0 then record w { first = word } else w

abbrev pub wants_kind : List ℕ → Bool
wants_kind name = bytes_eq name (codes "Bl") || bytes_eq name (codes "Bd")

-- Options of a list or a display come before all that asks nothing; after `-column` come widths. Of a word
-- that asks nothing the first is kept, by its bytes where it has neither quotes nor escapes.
abbrev pub options_by : List ℕ → List ℕ → Options
options_by name word =
    if has_value name word then Value else
    if bytes_eq name (codes "Bl") && bytes_eq word (codes "-column") then Columns else
    if is_kind name word || is_flag name word then Next else Excess word

abbrev pub options_after : Options → List ℕ → List ℕ → Options
options_after Next name word = options_by name word
options_after Value name word = Next
options_after options name word = options

abbrev pub asking : List ℕ → Wording → Wording
asking word w = if wants_kind w.name then record w { options = options_after w.options w.name word } else w

-- marks are no words but where options are read, nor are comments
abbrev pub worded : List ℕ → Wording → Wording
worded word w = more (record (with_first word w) { kind = w.kind || is_kind w.name word })

abbrev pub taking : List ℕ → Wording → Wording
taking word w =
    if length word == 0 then w else
    let v = asking word w in if is_mark word then v else worded word v

-- a word with quotes or escapes
abbrev pub taking_other : Wording → Wording
taking_other w = more (asking [] w)

-- the line begins the section of the page's name
abbrev pub names_section : Wording → Bool
names_section w = bytes_eq w.name (codes "Sh") && bytes_eq w.first (codes "NAME") && w.words == 1

-- a word that a macro doesn't know
abbrev pub is_unknown : List ℕ → List ℕ → Bool
is_unknown name word =
    if bytes_eq name (codes "St") then not (is_some (standard_named word)) else
    if bytes_eq name (codes "Lb") then not (is_some (library_named word)) else
    if bytes_eq name (codes "At") then not (is_some (version_named word)) else false

-- what is wrong with the words of a line
abbrev pub words_fault : Wording → Option Kind
words_fault w =
    if bytes_eq w.name (codes "Xr") && w.words == 1 then Some (kinds.NoSection w.name w.first) else
    if takes_none w.name && nat_lt 0 w.words then Some (kinds.Words w.name) else
    if needs_words w.name && w.words == 0 then Some (kinds.Empty w.name) else
    if not (length w.first == 0) && is_unknown w.name w.first then Some (kinds.BadWord w.name w.first) else None

abbrev pub excess_or : Options → Wording → Option Kind
excess_or (Excess word) w = Some (kinds.Excess w.name word)
excess_or options w = words_fault w

abbrev pub fault : Wording → Option Kind
fault w = if wants_kind w.name && not w.kind then Some (kinds.NoKind w.name) else excess_or w.options w
