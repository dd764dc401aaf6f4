-- Names and what they stand for; control characters; hyphenation words. (CSTR 54, sections 7, 10 and 13; groff manual, `.cp`.)
use Rattle.std.specs.Prelude.{ℕ, zero, suc, ◌==◌, if◌then◌else◌, List, [], length, Option, None, Some, unwrap_or}
use Rattle.nr_store.specs.Store.{Stored, removed, renamed, worded}
use Rattle.nr_settings.specs.Arguments.{name_in, after_name, word_in, after_word}
use Rattle.nr_settings.specs.Characters as characters
use Rattle.nr_reading.specs.Setting.{defining, with_control, with_no_break, with_long_names}
use Rattle.nr_input.specs.declared.splicing.Definition.{Definition}
use Rattle.nr_input.specs.declared.splicing.Definition.TheVariants.{De, Am, Ig}
use Rattle.nr_input.specs.Acting.{on_half}
use Rattle.nr_input.specs.Splicing.{base, keeps}
use Rattle.nr_formatter.specs.declared.formatter.Formatter.{Formatter}
use Rattle.nr_formatter.specs.Access.{line, long, spacing}
use Rattle.nr_formatter.specs.Places.{to_read}

-- ---- the names of the request's line

abbrev pub first_name : Formatter → Option (List ℕ)
first_name f = name_in (long f) (line f)

abbrev pub second_name : Formatter → Option (List ℕ)
second_name f = name_in (long f) (after_name (long f) (line f))

-- ---- definitions

-- The lines that follow, up to the ending, are those of a name, anew or after the old ones, or are dropped.
abbrev pub with_lines : Definition → List ℕ → Option (List ℕ) → Formatter → Formatter
with_lines d name ending f = record f {
  store = base d name f.store;
  reader = on_half (defining name (unwrap_or ending []) (keeps d)) f.reader;
}

-- Without a name nothing is defined.
abbrev pub defined_as : Definition → Option (List ℕ) → Formatter → Formatter
defined_as d None f = f
defined_as d (Some name) f = with_lines d name (second_name f) f

-- `.de xx yy`, `.am xx yy`
abbrev pub named_definition : Definition → Formatter → Formatter
named_definition d f = to_read (defined_as d (first_name f) f)

abbrev pub de : Formatter → Formatter
de f = named_definition De f

abbrev pub am : Formatter → Formatter
am f = named_definition Am f

-- `.ig yy`
abbrev pub ig : Formatter → Formatter
ig f = to_read (with_lines Ig [] (first_name f) f)

-- ---- names

-- `.rm xx`
abbrev pub without_name : Option (List ℕ) → Formatter → Formatter
without_name None f = f
without_name (Some name) f = record f { store = removed name f.store }

abbrev pub rm : Formatter → Formatter
rm f = to_read (without_name (first_name f) f)

-- `.rn xx yy`: without two names nothing is renamed
abbrev pub with_renamed : Option (List ℕ) → Option (List ℕ) → Formatter → Formatter
with_renamed None to f = f
with_renamed (Some from) None f = f
with_renamed (Some from) (Some to) f = record f { store = renamed from to f.store }

abbrev pub rn : Formatter → Formatter
rn f = to_read (with_renamed (first_name f) (second_name f) f)

-- ---- characters, and names of more bytes

-- `.cc c`, `.c2 c`, `.cp N`
abbrev pub cc : Formatter → Formatter
cc f = to_read (record f { reader = on_half (with_control (characters.cc (line f))) f.reader })

abbrev pub c2 : Formatter → Formatter
c2 f = to_read (record f { reader = on_half (with_no_break (characters.c2 (line f))) f.reader })

abbrev pub cp : Formatter → Formatter
cp f = to_read (record f { reader = on_half (with_long_names (characters.cp (line f) (spacing f))) f.reader })

-- ---- hyphenation words

-- the words of a line are stored, at most so many
abbrev pub with_words : {K : Type 0} → ℕ → List ℕ → Stored K → Stored K
with_words zero line v = v
with_words (suc most) line v =
    if length (word_in line) == 0 then v else with_words most (after_word line) (worded (word_in line) v)

-- `.hw w ..`: all words of its line
abbrev pub hw : Formatter → Formatter
hw f = to_read (record f { store = with_words (length (line f)) (line f) f.store })
