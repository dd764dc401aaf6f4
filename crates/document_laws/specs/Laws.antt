-- Laws of a whole document, whatever the page is.
use Prim.Native.Char.{code}
use Rattle.std.specs.Prelude.{◌≡◌, ◌≤◌, ℕ, ◌+◌, ◌*◌, ◌&&◌, ◌||◌, ◌==◌, nat_le, List, [], Bool, true, false}
use Rattle.std.specs.Prelude.{Option, Some}
use Rattle.std.specs.List.{All}
use Rattle.nr_units.specs.Source.{Supply}
use Rattle.nr_options.specs.Limits as limits
use Rattle.nr_machine.specs.Run.{moves_a_byte}
use Rattle.nr_laws.specs.Laws.{AtLeast, IsPrefixOf, is_settled}
use Rattle.nr_laws.specs.Printed.{is_of_row}
use Rattle.document_stages.specs.Pulling.{is_known, whole}
use Rattle.document_reader.specs.Page.{plain_of}
use Rattle.tbl_stage.specs.Staged.{has_all}
use Rattle.tbl_stage.specs.Text.{Bounds, first_in, most_of}
use Rattle.document_printing.specs.Document.{Setting, source_of, state_of}
use Rattle.document_printing.specs.Showing.{Shows}
use Rattle.document_printing.specs.declared.setup.PageEnd.{PageEnd}
use Rattle.document_printing.specs.declared.setup.PageEnd.TheVariants.{Done, Limit, NoRoom, ReadFault}
use Rattle.document_printing.specs.declared.showing.Spelling.{Spelling}
use Rattle.document_printing.specs.declared.showing.Spelling.TheVariants.{Bytes}

-- all was shown, or a limit stopped it
abbrev pub is_ended : PageEnd → Bool
is_ended Done = true
is_ended (Limit which at) = true
is_ended outcome = false

-- A page is shown over an output that is empty at first, and ends so after so many moves: all is shown or a
-- limit stops it, and this has gone out.
pub record Reaches (s : Setting) (spelling : Spelling) (source : Supply) (n : ℕ) (outcome : PageEnd) (out : List ℕ) : Type 0 where
  pub ended : is_ended outcome ≡ true
  pub shows : Shows s spelling source n outcome (Some []) (Some out)

-- the same setting under other limits
abbrev pub under : limits.Bounds → Setting → Setting
under b s = record s { limits = b }

-- Wider limits only lengthen what a reader gets.
abbrev pub WiderLimitsLengthen : Type 0
WiderLimitsLengthen =
    (s : Setting) (b : limits.Bounds) (spelling : Spelling) (source : Supply) (n n' : ℕ) (outcome outcome' : PageEnd)
    (out out' : List ℕ)
    → AtLeast s.limits b → Reaches s spelling source n outcome out
    → Reaches (under b s) spelling source n' outcome' out' → IsPrefixOf out out'

-- Where all was shown, it is the same.
abbrev pub DoneStays : Type 0
DoneStays =
    (s : Setting) (b : limits.Bounds) (spelling : Spelling) (source : Supply) (n n' : ℕ) (outcome' : PageEnd)
    (out out' : List ℕ)
    → AtLeast s.limits b → Reaches s spelling source n Done out
    → Reaches (under b s) spelling source n' outcome' out' → (n ≡ n') × (Done ≡ outcome') × (out ≡ out')

-- There is one document.
abbrev pub OneDocument : Type 0
OneDocument =
    (s : Setting) (spelling : Spelling) (source : Supply) (n n' : ℕ) (outcome outcome' : PageEnd) (out out' : List ℕ)
    → Reaches s spelling source n outcome out → Reaches s spelling source n' outcome' out'
    → (n ≡ n') × (outcome ≡ outcome') × (out ≡ out')

-- It takes so many moves at most: as are allowed, and as the bytes that were taken allow.
abbrev pub FewMoves : Type 0
FewMoves =
    (s : Setting) (spelling : Spelling) (source : Supply) (n : ℕ) (outcome : PageEnd) (out : List ℕ)
    → Reaches s spelling source n outcome out → (n ≤ s.limits.moves)
    × (n ≤ moves_a_byte s.limits * ((state_of s source n).coming.taken + 1))

-- Where bytes go out as they are, of the control bytes of ASCII only newline and backspace do.
abbrev pub NoControlGoesOut : Type 0
NoControlGoesOut =
    (s : Setting) (source : Supply) (n : ℕ) (outcome : PageEnd) (out : List ℕ)
    → Reaches s Bytes source n outcome out → All (λ byte. (is_of_row byte || byte == 8) ≡ true) out

-- ---- a page is read to its end

-- it was not: it broke off, or a table had no room
abbrev pub is_cut : PageEnd → Bool
is_cut NoRoom = true
is_cut ReadFault = true
is_cut outcome = false

-- the tables of a text have room, where they are set
abbrev pub has_room : Bool → Bounds → List ℕ → Bool
has_room true b text =
    is_known (whole text) 0 (nat_le (most_of b + 1) b.room) && has_all (most_of b) (first_in b) text
has_room false b text = true

-- A page that comes whole, and whose tables have room, is read to its end, unless a limit stops it or the
-- output fails.
abbrev pub RoomIsEnough : Type 0
RoomIsEnough =
    (s : Setting) (spelling : Spelling) (page : List ℕ) (n : ℕ) (outcome : PageEnd) (held new : Option (List ℕ))
    → has_room s.sets s.tables (plain_of s.stages s.characters page) ≡ true
    → Shows s spelling (source_of s (whole page)) n outcome held new → is_cut outcome ≡ false
