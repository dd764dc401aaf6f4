-- What a store holds, as its callers see it, and what each call makes of it.
use Rattle.std.specs.Prelude.{ℕ, ◌+◌, ◌*◌, nat_lt, nat_le, min, max, Bool, true, false, if◌then◌else◌, List, [], ◌∷◌, ◌++◌, map, length, drop, replicate, sum_by, ℤ, pos, ◌+ℤ◌, ◌-ℤ◌, unsigned_abs, Option, Some, None, Result, Ok, Err}
use Rattle.std.specs.Option.{option_map, option_and_then, unwrap_or}
use Rattle.std.specs.List.{flat_map}
use Rattle.nr_vectors.specs.Cell.{blank}
use Rattle.nr_vectors.specs.declared.cell.Cell.{Cell}
use Rattle.nr_units.specs.declared.number_text.Format.{Format}
use Rattle.nr_units.specs.declared.number_text.Format.TheVariants.{Arabic}
use Rattle.nr_symbol_tables.specs.Table.{Named, is_same, find, put, without}
use Rattle.nr_levels.specs.Gathering.{Gathered, none_gathered, gathered_len, bytes_in, with_byte, with_bytes, with_end}
use Rattle.nr_symbol_tables.specs.Word.{Word, word_weight, word_of}
use Rattle.nr_symbol_tables.specs.Trap.{planted, unplanted, changed}
use Rattle.nr_symbol_tables.specs.declared.trap.Trap.{Trap}
use Rattle.nr_store.specs.declared.element.Element.{Element}
use Rattle.nr_store.specs.declared.element.Element.TheVariants as elements
use Rattle.nr_store.specs.declared.element.Diversion.{Diversion}
use Rattle.nr_store.specs.declared.register.Register.{Register}
use Rattle.nr_store.specs.declared.request.Request.{Request}
use Rattle.nr_store.specs.declared.named.Meaning.{Meaning}
use Rattle.nr_store.specs.declared.named.Meaning.TheVariants as meanings
use Rattle.nr_store.specs.declared.shown.Shown.{Shown}
use Rattle.nr_store.specs.declared.shown.Shown.TheVariants as shows
use Rattle.nr_store.specs.declared.refusal.Refusal.{Refusal}
use Rattle.nr_store.specs.declared.refusal.Refusal.TheVariants as refusals
use Rattle.nr_store.specs.declared.refusal.StoredBytes.{StoredBytes}

-- what a name stands for: a request, or a text (CSTR 54, macros, strings, diversions: one name list)
pub data Means : Type 0 where
  Act : Request → Means
  Words : List Element → Means

-- a text that is being built, and the diversion that takes it, if one does
pub record Built : Type 0 where
  pub text : List Element
  pub diversion : Option Diversion

-- a text that is being read: what is left of it, the arguments that its end restores, what it is charged, and the mode
-- that is resumed after its end
pub record Reading (K : Type 0) : Type 0 where
  pub rest : List Element
  pub old : List (List ℕ)
  pub charge : ℕ
  pub resume : Option K

-- a level: a text that is being read, or the mode that is still to be resumed after one whose end was taken
pub data Level (K : Type 0) : Type 0 where
  Read : Reading K → Level K
  Mark : K → Level K

-- the text of a level: the name that holds it, if one does, and what it is charged where none does. A text is charged
-- once, however many levels read it: with the oldest of them, and nothing with the others
pub record Shared : Type 0 where
  pub name : Option (List ℕ)
  pub share : ℕ

-- all that is stored: what names stand for, in the order of the names; texts being built and levels, the newest first;
-- the text of each level whose end was not taken, the newest first;
-- the arguments in force, and those that are being read; registers, in the order of their names; traps in planting order;
-- hyphenation words, the latest first; what all may be charged, and how many levels there may be
pub record Stored (K : Type 0) : Type 0 where
  pub names : List (Named Means)
  pub building : List Built
  pub levels : List (Level K)
  pub texts : List Shared
  pub arguments : List (List ℕ)
  pub gathered : Gathered
  pub registers : List (Named Register)
  pub traps : List Trap
  pub words : List Word
  pub limit : ℕ
  pub deepest : ℕ

-- ---- the stored measure

-- what a text is charged under a name, or while it is built
abbrev pub weight : List Element → ℕ
weight text = 48 + length text

-- what a name is charged: nothing where it is a request's
abbrev pub weight_of : Means → ℕ
weight_of (Act request) = 0
weight_of (Words text) = weight text

-- what a level is charged: nothing once its end was taken
abbrev pub level_charge : {K : Type 0} → Level K → ℕ
level_charge (Read l) = l.charge
level_charge (Mark mode) = 0

-- what a text that is read is charged beside its names: nothing where a name holds it
abbrev pub loose : Option (List ℕ) → ℕ → ℕ
loose None share = share
loose (Some name) share = 0

abbrev pub text_charge : Shared → ℕ
text_charge t = loose t.name t.share

-- what is charged beside texts and levels
abbrev pub charge_beside : Gathered → List (Named Register) → List Trap → List Word → ℕ
charge_beside gathered registers traps words =
    gathered_len gathered + 48 * length registers + 48 * length traps + sum_by word_weight words

-- what all is charged
abbrev pub charge_of : {K : Type 0} → Stored K → ℕ
charge_of v =
    sum_by (λ (n : Named Means). weight_of n.value) v.names + sum_by (λ (b : Built). weight b.text) v.building
    + (sum_by level_charge v.levels + sum_by text_charge v.texts) + charge_beside v.gathered
    v.registers v.traps v.words

-- x, where v may be stored; else that it may not
abbrev pub afforded : {K X : Type 0} → Stored K → X → Result X StoredBytes
afforded v x = if nat_lt v.limit (charge_of v) then Err (record {}) else Ok x

-- x, where v may be; else why not
abbrev pub checked : {K X : Type 0} → Stored K → X → Result X Refusal
checked v x =
    if nat_lt v.limit (charge_of v) then Err refusals.Stored
    else (if nat_lt v.deepest (length v.levels) then Err refusals.Depth else Ok x)

-- nothing stored but the names of the requests
abbrev pub nothing : {K : Type 0} → List (Named Means) → ℕ → ℕ → Stored K
nothing names limit deepest = record {
  names = names;
  building = [];
  levels = [];
  texts = [];
  arguments = [];
  gathered = none_gathered;
  registers = [];
  traps = [];
  words = [];
  limit = limit;
  deepest = deepest;
}

-- ---- names

-- the text that a name stands for, if it is one
abbrev pub words : Option Means → Option (List Element)
words None = None
words (Some (Act request)) = None
words (Some (Words text)) = Some text

-- what a caller is emitted of a name
abbrev pub meaning_of : Option Means → Meaning
meaning_of None = meanings.Unknown
meaning_of (Some (Act request)) = meanings.Request request
meaning_of (Some (Words text)) = meanings.Text

-- whether this is the name
abbrev pub is_named : List ℕ → Option (List ℕ) → Bool
is_named name None = false
is_named name (Some n) = is_same n name

-- a text that is no longer held by this name
abbrev pub without_name : List ℕ → Option (List ℕ) → Option (List ℕ)
without_name name o = if is_named name o then None else o

-- a text that is held by the second name where it was by the first, and no longer by the second where it was
abbrev pub with_name : List ℕ → List ℕ → Option (List ℕ) → Option (List ℕ)
with_name from to o = if is_named from o then Some to else without_name to o

-- the texts of levels where their names change so
abbrev pub renamed_by : (Option (List ℕ) → Option (List ℕ)) → List Shared → List Shared
renamed_by f texts = map (λ (t : Shared). record t { name = f t.name }) texts

-- where nothing has this name; levels go on reading its text
abbrev pub removed : {K : Type 0} → List ℕ → Stored K → Stored K
removed name v = record v { names = without name v.names; texts = renamed_by (without_name name) v.texts }

-- where one name has what another had
abbrev pub moved : {K : Type 0} → Option Means → List ℕ → List ℕ → Stored K → Stored K
moved None from to v = v
moved (Some m) from to v =
    record v { names = put to m (without from v.names); texts = renamed_by (with_name from to) v.texts }

-- where one name has what another had, if that had anything and is another
abbrev pub renamed : {K : Type 0} → List ℕ → List ℕ → Stored K → Stored K
renamed from to v = if is_same from to then v else moved (find from v.names) from to v

-- ---- texts being built

-- with this text being built
abbrev pub begun : {K : Type 0} → List Element → Option Diversion → Stored K → Stored K
begun text diversion v = record v { building = record { text = text; diversion = diversion } ∷ v.building }

-- the text of a name; none is empty
abbrev pub text_of : {K : Type 0} → List ℕ → Stored K → List Element
text_of name v = unwrap_or (words (find name v.names)) []

-- a diversion that has taken no line
abbrev pub fresh : List ℕ → Diversion
fresh name = record { name = name; height = 0; width = 0; trap = None }

-- a change of the newest
abbrev pub on_newest : (Built → Built) → List Built → List Built
on_newest f [] = []
on_newest f (b ∷ bs) = f b ∷ bs

-- with these elements more
abbrev pub longer : List Element → Built → Built
longer xs b = record b { text = b.text ++ xs }

-- with these elements more in the newest text being built
abbrev pub added : {K : Type 0} → List Element → Stored K → Stored K
added xs v = record v { building = on_newest (longer xs) v.building }

-- a cell of no letter
abbrev pub blank_cell : Element
blank_cell = elements.Cell blank

-- a diverted line: blanks, cells, and its end
abbrev pub line_of : ℕ → List Cell → ℕ → List Element
line_of indent cells height =
    replicate indent blank_cell ++ (map elements.Cell cells ++ elements.LineEnd height ∷ [])

-- the greatest height and width that are reported
abbrev pub greatest : ℕ
greatest = 2147483647

-- a diversion that took a line of so many cells
abbrev pub taken : ℕ → ℕ → Diversion → Diversion
taken cells height d =
    record d { height = min greatest (d.height + height); width = min greatest (max d.width (24 * cells)) }

-- with a line more in the newest text being built
abbrev pub diverted : {K : Type 0} → ℕ → List Cell → ℕ → Stored K → Stored K
diverted indent cells height v = record v {
  building =
      on_newest (λ b. record {
        text = b.text ++ line_of indent cells height;
        diversion = option_map (taken (indent + length cells) height) b.diversion;
      }) v.building;
}

-- where a diverted line ends whose cells, so many, were added one by one
abbrev pub diverted_end : {K : Type 0} → ℕ → ℕ → Stored K → Stored K
diverted_end cells height v = record v {
  building =
      on_newest (λ b. record {
        text = b.text ++ elements.LineEnd height ∷ [];
        diversion = option_map (taken cells height) b.diversion;
      }) v.building;
}

-- where the newest text being built has this name
abbrev pub named_newest : {K : Type 0} → List Built → List ℕ → Stored K → Stored K
named_newest [] name v = v
named_newest (b ∷ bs) name v =
    record v {
      names = put name (Words b.text) v.names;
      building = bs;
      texts = renamed_by (without_name name) v.texts;
    }

abbrev pub defined : {K : Type 0} → List ℕ → Stored K → Stored K
defined name v = named_newest v.building name v

-- the first of two, if there is one
abbrev pub first_of : Option Diversion → Option Diversion → Option Diversion
first_of None rest = rest
first_of (Some d) rest = Some d

-- the diversion that was opened last
abbrev pub innermost : List Built → Option Diversion
innermost [] = None
innermost (b ∷ bs) = first_of b.diversion (innermost bs)

-- where the newest text being built has this trap, if it is a diversion's
abbrev pub trapped : {K : Type 0} → Option Trap → Stored K → Stored K
trapped trap v =
    record v {
      building = on_newest
          (λ b. record b { diversion = option_map (λ (d : Diversion). record d { trap = trap }) b.diversion })
          v.building;
    }

-- the diversion of the newest text being built
abbrev pub newest_diversion : List Built → Option Diversion
newest_diversion [] = None
newest_diversion (b ∷ bs) = b.diversion

-- where the newest text being built, if it is a diversion's, has that name
abbrev pub ended_by : {K : Type 0} → Option Diversion → Stored K → Stored K
ended_by None v = v
ended_by (Some d) v = defined d.name v

abbrev pub diversion_ended : {K : Type 0} → Stored K → Stored K
diversion_ended v = ended_by (newest_diversion v.building) v

-- ---- levels

-- with a level that reads this
abbrev pub reading : {K : Type 0} → List Element → List (List ℕ) → ℕ → Option K → Shared → Stored K → Stored K
reading text arguments charge resume shared v = record v {
  levels = Read (record { rest = text; old = v.arguments; charge = charge; resume = resume }) ∷ v.levels;
  texts = shared ∷ v.texts;
  arguments = arguments;
}

-- what a text is charged that levels read and no name holds
abbrev pub share : List Element → ℕ
share text = 16 + length text

-- whether a level reads the text of this name
abbrev pub is_read : List ℕ → List Shared → Bool
is_read name [] = false
is_read name (t ∷ ts) = if is_named name t.name then true else is_read name ts

-- the text of a name, for one level more
abbrev pub shared_by : List ℕ → List Element → List Shared → Shared
shared_by name text texts = record { name = Some name; share = if is_read name texts then 0 else share text }

-- a text that one level reads, which is charged for it
abbrev pub own_text : Shared
own_text = record { name = None; share = 0 }

-- with a level that reads the text of a name, where it has one, with no arguments
abbrev pub entered : {K : Type 0} → List ℕ → Option (List Element) → Option K → Stored K → Stored K
entered name None resume v = v
entered name (Some text) resume v = reading text [] 16 resume (shared_by name text v.texts) v

-- with a level that reads bytes, a text of its own: 16 for the level, and 16 and its length for the text; the arguments
-- stay in force
abbrev pub reading_bytes : {K : Type 0} → List ℕ → Stored K → Stored K
reading_bytes bytes v = reading (map elements.Byte bytes) v.arguments (32 + length bytes) None own_text v

-- with no arguments being read
abbrev pub ungathered : {K : Type 0} → Stored K → Stored K
ungathered v = record v { gathered = none_gathered }

-- with a byte more in the argument that is being read
abbrev pub gathering : {K : Type 0} → ℕ → Stored K → Stored K
gathering byte v = record v { gathered = with_byte byte v.gathered }

-- with these bytes more in it, one after another
abbrev pub gathering_all : {K : Type 0} → List ℕ → Stored K → Stored K
gathering_all bytes v = record v { gathered = with_bytes bytes v.gathered }

-- where the argument that is being read is read whole
abbrev pub gathered_whole : {K : Type 0} → Stored K → Stored K
gathered_whole v = record v { gathered = with_end v.gathered }

-- with a level that reads the text of a name, where it has one, with the arguments that were read
abbrev pub called : {K : Type 0} → List ℕ → Option (List Element) → Stored K → Stored K
called name None v = ungathered v
called name (Some text) v =
    ungathered (reading text v.gathered.kept (16 + bytes_in v.gathered.kept) None
    (shared_by name text v.texts) v)

-- what a look at a text shows
abbrev pub shown_of : {K : Type 0} → List Element → Shown K
shown_of [] = shows.End
shown_of (x ∷ xs) = shows.Item x

-- what a look at a level shows
abbrev pub shown_in : {K : Type 0} → Level K → Shown K
shown_in (Read l) = shown_of l.rest
shown_in (Mark mode) = shows.Resume mode

-- what comes next
abbrev pub shown : {K : Type 0} → List (Level K) → Shown K
shown [] = shows.Nothing
shown (l ∷ ls) = shown_in l

-- what stays of a level whose end is taken
abbrev pub mark_of : {K : Type 0} → Option K → List (Level K)
mark_of None = []
mark_of (Some mode) = Mark mode ∷ []

-- after what a text gives
abbrev pub left_of : {K : Type 0} → List Element → Reading K → List (Level K) → Stored K → Stored K
left_of [] l ls v = record v { levels = mark_of l.resume ++ ls; texts = drop 1 v.texts; arguments = l.old }
left_of (x ∷ xs) l ls v = record v { levels = Read (record l { rest = xs }) ∷ ls }

-- after what a level gives
abbrev pub left_in : {K : Type 0} → Level K → List (Level K) → Stored K → Stored K
left_in (Read l) ls v = left_of l.rest l ls v
left_in (Mark mode) ls v = record v { levels = ls }

-- after what comes next
abbrev pub left : {K : Type 0} → List (Level K) → Stored K → Stored K
left [] v = v
left (l ∷ ls) v = left_in l ls v

-- where the newest level goes, its text unread
abbrev pub dropped_in : {K : Type 0} → Level K → List (Level K) → Stored K → Stored K
dropped_in (Read l) ls v =
    record v { levels = mark_of l.resume ++ ls; texts = drop 1 v.texts; arguments = l.old }
dropped_in (Mark mode) ls v = record v { levels = ls }

abbrev pub dropped : {K : Type 0} → List (Level K) → Stored K → Stored K
dropped [] v = v
dropped (l ∷ ls) v = dropped_in l ls v

-- with no levels, and no arguments
abbrev pub emptied : {K : Type 0} → Stored K → Stored K
emptied v = record v { levels = []; texts = []; arguments = []; gathered = none_gathered }

-- ---- the spliced input

-- the mode that is resumed after an end
abbrev pub resumes : {K : Type 0} → Option K → List (Shown K)
resumes None = []
resumes (Some mode) = shows.Resume mode ∷ []

-- what a level gives: what is left of its text, its end, and the mode that is resumed
abbrev pub given : {K : Type 0} → Level K → List (Shown K)
given (Read l) = map shows.Item l.rest ++ (shows.End ∷ resumes l.resume)
given (Mark mode) = shows.Resume mode ∷ []

-- what all levels give
abbrev pub spliced : {K : Type 0} → List (Level K) → List (Shown K)
spliced levels = flat_map given levels

-- ---- registers

-- an undefined register
abbrev pub unset : Register
unset = record { value = pos 0; step = pos 0; format = Arabic 1 }

-- what a register is, defined or not (CSTR 54, number registers)
abbrev pub register_of : Option Register → Register
register_of r = unwrap_or r unset

-- whether a register holds this number
abbrev pub is_held : ℤ → Bool
is_held z = nat_le (unsigned_abs z) greatest

-- where a register is this
abbrev pub with_register : {K : Type 0} → List ℕ → Register → Stored K → Stored K
with_register name r v = record v { registers = put name r v.registers }

-- the register with this value, if it holds it
abbrev pub moved_to : ℤ → Register → Option Register
moved_to value r = if is_held value then Some (record r { value = value }) else None

-- the register with this value, if it holds it, and this step, if one is given
abbrev pub set_to : ℤ → Option ℤ → Register → Option Register
set_to value step r = moved_to value (record r { step = unwrap_or step r.step })

-- the register gone on by its step
abbrev pub raised : Register → Option Register
raised r = moved_to (r.value +ℤ r.step) r

-- the register gone back by its step
abbrev pub lowered : Register → Option Register
lowered r = moved_to (r.value -ℤ r.step) r

-- the register gone on by its step, or back
abbrev pub gone_on : Bool → Register → Option Register
gone_on up r = if up then raised r else lowered r

-- where a register is this, if it is anything
abbrev pub written : {K : Type 0} → Option Register → List ℕ → Stored K → Stored K
written None name v = v
written (Some r) name v = with_register name r v

-- where a register has this value, and this step if one is given; a number that it does not hold changes nothing
abbrev pub registered : {K : Type 0} → List ℕ → ℤ → Option ℤ → Stored K → Stored K
registered name value step v = written (set_to value step (register_of (find name v.registers))) name v

-- where a defined register goes on by its step, or back; a number that it does not hold changes nothing
abbrev pub stepped : {K : Type 0} → List ℕ → Bool → Stored K → Stored K
stepped name up v = written (option_and_then (gone_on up) (find name v.registers)) name v

-- where a register is written so
abbrev pub formatted : {K : Type 0} → List ℕ → Format → Stored K → Stored K
formatted name format v =
    with_register name (record (register_of (find name v.registers)) { format = format }) v

-- where a register is undefined
abbrev pub unregistered : {K : Type 0} → List ℕ → Stored K → Stored K
unregistered name v = record v { registers = without name v.registers }

-- ---- traps

-- where a trap is planted (CSTR 54, `.wh`)
abbrev pub trap_planted : {K : Type 0} → ℤ → List ℕ → Stored K → Stored K
trap_planted place name v = record v { traps = planted (record { place = place; name = name }) v.traps }

-- where the first trap for a macro is moved, or removed (CSTR 54, `.ch`)
abbrev pub trap_changed : {K : Type 0} → List ℕ → Option ℤ → Stored K → Stored K
trap_changed name place v = record v { traps = changed name place v.traps }

-- where the first trap at a place is removed (CSTR 54, `.wh`)
abbrev pub trap_removed : {K : Type 0} → ℤ → Stored K → Stored K
trap_removed place v = record v { traps = unplanted place v.traps }

-- ---- hyphenation words

-- where a word is given, with minus signs where it may be cut (CSTR 54, `.hw`); one above 64 bytes, minus signs counted,
-- is not taken
abbrev pub worded : {K : Type 0} → List ℕ → Stored K → Stored K
worded given v = if nat_lt 64 (length given) then v else record v { words = word_of given ∷ v.words }
