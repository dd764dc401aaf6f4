-- WHAT IS WRONG WITH A PAGE OF man(7): macros, requests, strings and escapes that nothing defines, ends of
-- blocks that are not open, blocks that are not ended, and a title that is missing or comes after other
-- macros.
use Rattle.std.specs.Prelude.{ℕ, ◌+◌, List, [], ◌∷◌, length, Bool, true, false, not, ◌==◌, ◌&&◌, ◌||◌, nat_lt}
use Rattle.std.specs.Prelude.{if◌then◌else◌, codes, Option, None, Some}
use Rattle.std.specs.List.{insert, remove}
use Rattle.std.specs.Str.{bytes_eq}
use Prim.Native.Char.{code}
use Rattle.nr_vectors.specs.Items.{Items}
use Rattle.filters_complaints.specs.Blocks.{place_of}
use Rattle.man_lint.specs.Calls.{no_call}
use Rattle.man_lint.specs.Escapes as escapes
use Rattle.man_lint.specs.Lines as lines
use Rattle.man_lint.specs.Names.{defines, heads, is_macro, is_request, is_string, leaves, names_first}
use Rattle.man_lint.specs.Names.{opener_of, opens, reads_macros, region_end}
use Rattle.man_lint.specs.OwnNames.{AllNames, given, has, no_names}
use Rattle.filters_complaints.specs.Complaints.{none_reported}
use Rattle.man_lint.specs.Reporting as reporting
use Rattle.man_lint.specs.Reporting.{AllReported}
use Rattle.filters_complaints.specs.declared.blocks.OpenBlock.{OpenBlock}
use Rattle.man_lint.specs.declared.calls.Call.{Call}
use Rattle.man_lint.specs.declared.escapes.Escaping.{Escaping}
use Rattle.man_lint.specs.declared.escapes.Found.{Found}
use Rattle.man_lint.specs.declared.escapes.Found.TheVariants as founds
use Rattle.man_lint.specs.declared.lines.Half.{Half}
use Rattle.man_lint.specs.declared.reporting.Kind.{Kind}
use Rattle.man_lint.specs.declared.reporting.Kind.TheVariants as kinds
use Rattle.man_lint.specs.declared.watching.Place.{Place}

-- `until` is the name of the line that ends a definition or what a preprocessor reads, and empty elsewhere
pub record Page : Type 0 where
  pub place : Place
  pub half : Half
  pub escaping : Escaping
  pub until : List ℕ
  pub names : AllNames
  pub blocks : Items OpenBlock
  pub reports : AllReported

abbrev pub first_place : Place
first_place = record { line = 1; begun = 0; titled = false; left = false }

abbrev pub first_page : ℕ → ℕ → ℕ → Page
first_page names blocks complaints = record {
  place = first_place;
  half = lines.first;
  escaping = escapes.none;
  until = [];
  names = no_names names;
  blocks = record { items = []; capacity = blocks };
  reports = none_reported complaints;
}

abbrev pub is_empty : List ℕ → Bool
is_empty name = length name == 0

abbrev pub reported : Kind → List ℕ → Page → Page
reported kind name p = record p { reports = reporting.reported kind name p.place.line p.reports }

-- what comes is not looked at any more
abbrev pub gone : Page → Page
gone p = record p { place = record p.place { left = true } }

-- ---- blocks

abbrev pub with_blocks : List OpenBlock → Page → Page
with_blocks blocks p = record p { blocks = record p.blocks { items = blocks } }

abbrev pub opened : List ℕ → Page → Page
opened name p =
    if length p.blocks.items == p.blocks.capacity then reported kinds.TooMany name p else
    with_blocks (insert p.blocks.items 0 (record { name = name; line = p.place.line; columns = false })) p

abbrev pub ended_at : Option ℕ → List ℕ → Page → Page
ended_at None name p = reported kinds.NotOpen name p
ended_at (Some place) name p = with_blocks (remove p.blocks.items place) p

abbrev pub ended : List ℕ → List ℕ → Page → Page
ended name opener p = ended_at (place_of opener p.blocks.items) name p

abbrev pub ended_by : Option (List ℕ) → List ℕ → Page → Page
ended_by None name p = p
ended_by (Some opener) name p = ended name opener p

-- headings end all blocks, and so does an end whose level is given
abbrev pub ends_all : Call → Bool
ends_all c = heads c.name || (bytes_eq c.name (codes "RE") && not (is_empty c.first))

unfoldable pub block_called : Call → Page → Page
block_called c p =
    if ends_all c then with_blocks [] p else
    if opens c.name then opened c.name p else ended_by (opener_of c.name) c.name p

-- ---- macros

-- the title comes first of all macros
abbrev pub with_title : Page → Page
with_title p =
    let late = nat_lt 0 p.place.begun && not p.place.titled in
    let q = if late then reported kinds.LateTitle (codes "TH") p else p in
    record q { place = record q.place { titled = true } }

abbrev pub with_macro : Page → Page
with_macro p = if p.place.begun == 0 then record p { place = record p.place { begun = p.place.line } } else p

-- a macro of man(7) but for those of preprocessors
abbrev pub other_called : Call → Page → Page
other_called c p = if bytes_eq c.name (codes "TH") then with_title p else block_called c (with_macro p)

abbrev pub macro_in : Option (List ℕ) → Call → Page → Page
macro_in (Some end) c p = record p { until = end }
macro_in None c p = other_called c p

unfoldable pub macro_called : Call → Page → Page
macro_called c p = macro_in (region_end c.name) c p

-- ---- requests

-- a file of macros gives names that are not known
unfoldable pub name_given : Call → Page → Page
name_given c p =
    if names_first c.name then record p { names = given c.first c.escaped p.names } else
    if bytes_eq c.name (codes "rn") then record p { names = given c.second false p.names } else
    if reads_macros c.name then record p { names = given c.first true p.names } else p

-- a name ends the lines of a definition, or two dots
abbrev pub defined_until : List ℕ → Page → Page
defined_until name p = record p { until = if is_empty name then codes "." else name }

-- after a condition it isn't known whether lines are ignored
abbrev pub ignored : Call → Page → Page
ignored c p = if c.conditional then gone p else defined_until c.first p

unfoldable pub requested : Call → Page → Page
requested c p =
    let q = name_given c p in
    if defines c.name then defined_until c.second q else
    if bytes_eq c.name (codes "ig") then ignored c q else q

-- ---- a line calls something: the names of the page come first, and no name is missed after a condition

abbrev pub unknown : Call → Page → Page
unknown c p = if not c.conditional && not p.names.others then reported kinds.NoMacro c.name p else p

unfoldable pub called : Call → Page → Page
called c p =
    if has c.name p.names.names.items then p else
    if leaves c.name then gone p else
    if is_macro c.name then macro_called c p else
    if is_request c.name then requested c p else unknown c p

-- in a definition names may be given too
abbrev pub in_definition : Call → Page → Page
in_definition c p =
    if not c.conditional && bytes_eq c.name p.until then record p { until = [] } else name_given c p

unfoldable pub acted : Call → Page → Page
acted c p = if is_empty p.until then called c p else in_definition c p

-- ---- a line ends

abbrev pub emptied : Page → Page
emptied p = record p { half = record p.half { call = no_call false }; escaping = escapes.none }

abbrev pub line_ended : Page → Page
line_ended p = emptied (if is_empty p.half.call.name then p else acted p.half.call p)

-- ---- an escape

abbrev pub string_judged : Page → Page
string_judged p =
    let name = p.escaping.name in
    if not (is_string name) && (not p.names.others && not (has name p.names.names.items))
    then reported kinds.NoString name p else p

abbrev pub judged : Found → ℕ → Page → Page
judged founds.Nothing b p = p
judged founds.Unknown b p = reported kinds.NoEscape (code "\\" ∷ b ∷ []) p
judged founds.String b p = string_judged p

-- ---- a byte comes

unfoldable pub taken : ℕ → Page → Page
taken b p =
    let q = record p { half = lines.taken b p.half } in
    if b == code "\n" then line_ended q else q

abbrev pub read_escape : ℕ → Page → Page
read_escape b p =
    let q = record p { escaping = escapes.taken b p.escaping } in
    if is_empty q.until then judged (escapes.found b p.escaping) b q else q

abbrev pub read_byte : Bool → ℕ → Page → Page
read_byte true b p = record p { half = lines.taken_escaped b p.half }
read_byte false b p = if b == code "\\" then p else taken b p

unfoldable pub byte_read : ℕ → Page → Page
byte_read b p = read_byte (escapes.is_begun p.escaping.escape) b (read_escape b p)

abbrev pub counted : ℕ → Page → Page
counted b p =
    if (b == code "\n") && nat_lt p.place.line 18446744073709551615
    then record p { place = record p.place { line = p.place.line + 1 } } else p

abbrev pub heard : ℕ → Page → Page
heard b p =
    if p.place.left then p else
    counted b (if lines.is_comment p.half.line then taken b p else byte_read b p)

abbrev pub all_heard : List ℕ → Page → Page
all_heard [] p = p
all_heard (b ∷ bs) p = all_heard bs (heard b p)

-- ---- the page ends

abbrev pub titled_at_end : Page → Page
titled_at_end p =
    if nat_lt 0 p.place.begun && not p.place.titled
    then record p { reports = reporting.reported kinds.NoTitle (codes "TH") p.place.begun p.reports } else p

abbrev pub not_ended : Page → Page
not_ended p = record p { reports = reporting.not_ended p.blocks.items p.reports }

abbrev pub closed : Page → Page
closed p = if p.place.left || not (is_empty p.until) then p else not_ended (titled_at_end p)

-- the last line ends, and what is open is reported at the lines where it was opened
unfoldable pub finished : Page → Page
finished p = closed (heard (code "\n") p)
