-- The line that reports a bad word.
use Prim.Native.Char.{code}
use Rattle.std.specs.Prelude.{ℕ, ◌+◌, List, ◌++◌, take, drop, slice_index, Bool, ◌==◌, ◌&&◌, nat_le, if◌then◌else◌, codes}
use Rattle.std.specs.List.{prefix_len}
use Rattle.program_options.specs.declared.usage.Case.{Case}
use Rattle.program_options.specs.declared.usage.Case.TheVariants.{LeftOut, Unknown, BadValue, NoValue, TooMany}

-- in UTF-8 the bytes 128 to 191 go on with a character
abbrev pub goes_on : ℕ → Bool
goes_on byte = nat_le 128 byte && nat_le byte 191

-- a word that begins with `--`, or else its first two characters, the first of which is one byte: `-` and the letter
abbrev pub option_text : List ℕ → List ℕ
option_text word =
    if slice_index word 1 == code "-" then word else take (2 + prefix_len goes_on (drop 2 word)) word

abbrev pub prefix_of : Case → List ℕ
prefix_of LeftOut = codes "nulbiko: option "
prefix_of Unknown = codes "nulbiko: unknown option "
prefix_of BadValue = codes "nulbiko: bad value in "
prefix_of NoValue = codes "nulbiko: no value after "
prefix_of TooMany = codes "nulbiko: too many options like "

abbrev pub word_text : Case → List ℕ → List ℕ
word_text LeftOut word = option_text word
word_text Unknown word = option_text word
word_text other word = word

abbrev pub end_of : Case → List ℕ
end_of LeftOut = codes " is not in this program\n"
end_of other = codes "\n"

-- the line that reports the word
abbrev pub usage_text : Case → List ℕ → List ℕ
usage_text case word = prefix_of case ++ word_text case word ++ end_of case
