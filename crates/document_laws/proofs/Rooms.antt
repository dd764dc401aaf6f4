-- A page is read to its end where its tables have room.
use Rattle.std.specs.Prelude.{◌&&◌, nat_le}
use Rattle.std.proofs.Common.{◌≡◌, ℕ, ◌+◌, List, [], ◌++◌, length, Bool, true, false, Option, refl, ap}
use Rattle.nr_units.specs.Source.{Never, Supply}
use Rattle.nr_laws.proofs.SourceFaults.{faults_are_of_the_source}
use Rattle.document_stages.specs.Joined.{after_more}
use Rattle.document_stages.specs.Pulling.{all_of, is_known, pulled_from, whole}
use Rattle.document_reader.specs.Page.{plain_of}
use Rattle.tbl_stage.specs.Staged.{has_all, said}
use Rattle.tbl_stage.specs.Text.{Bounds, first_in, most_of}
use Rattle.document_printing.specs.Document.{Ran, Setting, read_fault, source_of, state_of, tables_of}
use Rattle.document_printing.specs.Showing.{Shows}
use Rattle.document_printing.specs.declared.setup.PageEnd.{PageEnd}
use Rattle.document_printing.specs.declared.setup.PageEnd.TheVariants.{Done, Limit, NoRoom, ReadFault, TooLong, WriteFault}
use Rattle.document_printing.specs.declared.showing.Spelling.{Spelling}
use Rattle.document_laws.specs.Laws.{RoomIsEnough, has_room, is_cut}

all_never : (fits : Bool) (xs : List ℕ) → fits ≡ true → (all_of fits xs).faults ≡ Never
all_never true xs h = refl
all_never false xs h = (let e : false ≡ true = h in cc)

pulled_never : (known : Bool) (text : List ℕ) (says : Bool → List ℕ → List ℕ) (fits : List ℕ → Bool)
    → (known && fits text) ≡ true → (pulled_from known false (whole text) says fits []).faults ≡ Never
pulled_never true text says fits h = all_never (fits text) ([] ++ says true text) h
pulled_never false text says fits h = (let e : false ≡ true = h in cc)

tables_never : (sets : Bool) (b : Bounds) (text : List ℕ) → has_room sets b text ≡ true → (tables_of sets b (whole text)).faults ≡ Never
tables_never true b text h =
    pulled_never (is_known (whole text) 0 (nat_le (most_of b + 1) b.room)) text (said (most_of b) (first_in b)) (has_all (most_of b) (first_in b)) h
tables_never false b text h = refl

source_never : (s : Setting) (page : List ℕ) → has_room s.sets s.tables (plain_of s.stages s.characters page) ≡ true
    → (source_of s (whole page)).faults ≡ Never
source_never s page h = ap (after_more (length s.macros)) (tables_never s.sets s.tables (plain_of s.stages s.characters page) h)

-- the machine does not stop there for want of a byte
reads_on : (s : Setting) (source : Supply) (n : ℕ) → source.faults ≡ Never → Ran s source n (read_fault s source n) → true ≡ false
reads_on s source n never ran =
    absurd (faults_are_of_the_source s.limits s.options source s.limits.moves n (state_of s source n).coming.taken never ran.ends)

pub room_is_enough : RoomIsEnough
room_is_enough s spelling page n NoRoom held new h shows = reads_on s (source_of s (whole page)) n (source_never s page h) shows.1.ran
room_is_enough s spelling page n ReadFault held new h shows = reads_on s (source_of s (whole page)) n (source_never s page h) shows.ran
room_is_enough s spelling page n Done held new h shows = refl
room_is_enough s spelling page n (Limit which at) held new h shows = refl
room_is_enough s spelling page n TooLong held new h shows = refl
room_is_enough s spelling page n WriteFault held new h shows = refl
