-- The options of a table (Tbl, "Options"; tbl(1), "Region options"): words, some with an argument, up to the semicolon.
use Rattle.std.specs.Prelude.{ℕ, ◌+◌, List, [], ◌∷◌, ◌++◌, length, codes, Bool, true, false, ◌==◌, ◌&&◌, ◌||◌, nat_eq, nat_le, if◌then◌else◌, Option, None, Some}
use Rattle.std.specs.Cmp.Lexicographic.{pointwise}
use Prim.Native.Char.{code}
use Rattle.nr_units.specs.Name.{is_full}
use Rattle.tbl_reader.specs.declared.complaint.Kind.{Kind}
use Rattle.tbl_reader.specs.declared.complaint.Kind.TheVariants.{BadArgument, UnknownOption}
use Rattle.tbl_reader.specs.declared.options.Options.{Options}
use Rattle.tbl_reader.specs.declared.options.OptionsRead.{OptionsRead}
use Rattle.tbl_reader.specs.declared.options.Choice.{Choice}
use Rattle.tbl_reader.specs.declared.options.Choice.TheVariants as choices
use Rattle.tbl_table.specs.declared.table.Frame.{Frame}
use Rattle.tbl_table.specs.declared.table.Frame.TheVariants.{Open, Single, All, Double}

abbrev pub is_word : List ℕ → List ℕ → Bool
is_word word text = pointwise nat_eq word text

abbrev pub small : ℕ → ℕ
small b = if nat_le (code "A") b && nat_le b (code "Z") then b + 32 else b

abbrev pub is_letter : ℕ → Bool
is_letter b = (nat_le (code "A") b && nat_le b (code "Z")) || (nat_le (code "a") b && nat_le b (code "z"))

-- without effect here
abbrev pub is_passed : List ℕ → Bool
is_passed word =
    is_word word (codes "linesize") || is_word word (codes "delim") || is_word word (codes "nowarn")

abbrev pub frame_of : List ℕ → Choice
frame_of word =
    if is_word word (codes "box") || is_word word (codes "frame") then choices.Frame Single else
    if is_word word (codes "allbox") then choices.Frame All else
    if is_word word (codes "doublebox") || is_word word (codes "doubleframe") then choices.Frame Double else
    if is_passed word then choices.Passed else choices.Unknown

-- the option of a word in small letters
abbrev pub choice_of : List ℕ → Choice
choice_of word =
    if is_word word (codes "center") || is_word word (codes "centre") then choices.Center else
    if is_word word (codes "expand") then choices.Expand else
    if is_word word (codes "tab") then choices.Tab else
    if is_word word (codes "decimalpoint") then choices.Point else
    if is_word word (codes "nospaces") then choices.NoSpaces else
    if is_word word (codes "nokeep") then choices.NoKeep else
    if is_word word (codes "nofit") then choices.NoFit else frame_of word

-- fields are separated by tabs, and the fraction of a number stands after a point
abbrev pub no_options : Options
no_options =
    record {
      center = false;
      expand = false;
      frame = Open;
      tab = code "\t";
      point = code ".";
      nospaces = false;
      nokeep = false;
      nofit = false;
      wrong = None;
    }

-- what is wrong first stays
abbrev pub blamed_in : Option Kind → Kind → Options → Options
blamed_in (Some first) kind o = o
blamed_in None kind o = record o { wrong = Some kind }

abbrev pub blaming : Kind → Options → Options
blaming kind o = blamed_in o.wrong kind o

abbrev pub tab_with : List ℕ → Option ℕ → Options → Options
tab_with word (Some b) o = record o { tab = b }
tab_with word None o = blaming (BadArgument word) o

abbrev pub point_with : List ℕ → Option ℕ → Options → Options
point_with word (Some b) o = record o { point = b }
point_with word None o = blaming (BadArgument word) o

-- a box is in each of the others
abbrev pub framed : Frame → Frame → Frame
framed All Single = All
framed Double Single = Double
framed frame other = other

-- with an option of this name and its argument, if that is one byte
abbrev pub options_with : Choice → List ℕ → Option ℕ → Options → Options
options_with choices.Center word argument o = record o { center = true }
options_with choices.Expand word argument o = record o { expand = true }
options_with (choices.Frame frame) word argument o = record o { frame = framed o.frame frame }
options_with choices.Tab word argument o = tab_with word argument o
options_with choices.Point word argument o = point_with word argument o
options_with choices.NoSpaces word argument o = record o { nospaces = true }
options_with choices.NoKeep word argument o = record o { nokeep = true }
options_with choices.NoFit word argument o = record o { nofit = true }
options_with choices.Passed word argument o = o
options_with choices.Unknown word argument o = blaming (UnknownOption word) o

abbrev pub first_options : OptionsRead
first_options = record {
  options = no_options;
  word = [];
  spaced = false;
  inside = false;
  argument = None;
  more = false;
}

abbrev pub only_argument : OptionsRead → Option ℕ
only_argument r = if r.more then None else r.argument

-- the word has ended, if there is one
abbrev pub word_ended : OptionsRead → OptionsRead
word_ended r =
    record first_options {
      options = if length r.word == 0 then r.options
          else options_with (choice_of r.word) r.word (only_argument r) r.options;
    }

abbrev pub with_letter : ℕ → OptionsRead → OptionsRead
with_letter b r = if is_full r.word then r else record r { word = r.word ++ small b ∷ [] }

-- after a blank it begins another word
abbrev pub letter : ℕ → OptionsRead → OptionsRead
letter b r = with_letter b (if r.spaced then word_ended r else r)

abbrev pub argument_with : Option ℕ → ℕ → OptionsRead → OptionsRead
argument_with None b r = record r { argument = Some b }
argument_with (Some a) b r = record r { more = true }

abbrev pub in_argument : ℕ → OptionsRead → OptionsRead
in_argument b r = if b == code ")" then word_ended r else argument_with r.argument b r

-- with one byte more
abbrev pub options_read : ℕ → OptionsRead → OptionsRead
options_read b r =
    if r.inside then in_argument b r else
    if is_letter b then letter b r else
    if b == code "(" then record r { inside = true } else
    if (b == code " ") || (b == code "\t") then record r { spaced = true } else word_ended r

-- with many
abbrev pub all_options : List ℕ → OptionsRead → OptionsRead
all_options [] r = r
all_options (b ∷ bs) r = all_options bs (options_read b r)

-- what options say
abbrev pub options_of : List ℕ → Options
options_of text = (word_ended (all_options text first_options)).options
