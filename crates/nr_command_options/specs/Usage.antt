-- The line that reports a bad word.
use Rattle.std.specs.Prelude.{ℕ, ◌+◌, List, ◌++◌, take, drop, Bool, ◌&&◌, nat_le, codes}
use Rattle.std.specs.List.{prefix_len}
use Rattle.nr_command_options.specs.declared.usage.Case.TheVariants.{LeftOut, Unknown, BadValue, TooMany}
use Rattle.nr_command_options.specs.declared.usage.Case.{Case}

-- in UTF-8 the bytes 128 to 191 go on with a character
abbrev pub goes_on : ℕ → Bool
goes_on byte = nat_le 128 byte && nat_le byte 191

-- a word's first two characters, the first of which is one byte: `-` and the letter
abbrev pub option_text : List ℕ → List ℕ
option_text word = take (2 + prefix_len goes_on (drop 2 word)) word

-- the line that reports the word
abbrev pub usage_text : Case → List ℕ → List ℕ
usage_text LeftOut word = codes "nroff: option " ++ option_text word ++ codes " is not in this profile\n"
usage_text Unknown word = codes "nroff: unknown option " ++ option_text word ++ codes "\n"
usage_text BadValue word = codes "nroff: bad value in " ++ word ++ codes "\n"
usage_text TooMany word = codes "nroff: too many options like " ++ word ++ codes "\n"
