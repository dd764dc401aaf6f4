-- What goes out.
use Prim.Native.Char.{code}
use Rattle.std.specs.Prelude.{ℕ, List, [], ◌∷◌, ◌++◌, Bool, true, false, ◌&&◌, ◌||◌, nat_le, nat_lt}
use Rattle.std.specs.Prelude.{if◌then◌else◌, Option, None, Some, codes}
use Rattle.preconv_characters.specs.declared.target.Target.{Target}
use Rattle.utf8_characters.specs.Tables.{character_of}
use Rattle.preconv_characters.specs.declared.said.Said.{Said}
use Rattle.preconv_characters.specs.declared.said.Said.TheVariants.{Nothing, Byte, Kept, Native, Hang, Escape}
use Rattle.preconv_characters.specs.declared.said.Said.TheVariants.{Font, Quotes, Comment, Character, Struck}
use Rattle.preconv_characters.specs.declared.said.Said.TheVariants.{Marked, Arguments, QuotedArguments}
use Rattle.preconv_characters.specs.declared.target.Target.TheVariants.{Ascii, Bytes, Utf8}
use Rattle.preconv_characters.specs.Likeness.{likeness, marked_like, struck_like}
use Rattle.preconv_characters.specs.Targets.{byte_in_force, is_utf8, itself}

-- the nine arguments of a macro: where they are replaced, or once a definition was read; as they are, or each
-- between quotes
abbrev pub arguments : Bool → Bool → List ℕ
arguments false false = codes "\\$1 \\$2 \\$3 \\$4 \\$5 \\$6 \\$7 \\$8 \\$9"
arguments true false = codes "\\\\$1 \\\\$2 \\\\$3 \\\\$4 \\\\$5 \\\\$6 \\\\$7 \\\\$8 \\\\$9"
arguments false true =
    codes "\"\\$1\" \"\\$2\" \"\\$3\" \"\\$4\" \"\\$5\" \"\\$6\" \"\\$7\" \"\\$8\" \"\\$9\""
arguments true true =
    codes "\"\\\\$1\" \"\\\\$2\" \"\\\\$3\" \"\\\\$4\" \"\\\\$5\" \"\\\\$6\" \"\\\\$7\" \"\\\\$8\" \"\\\\$9\""

abbrev pub is_some : Option ℕ → Bool
is_some None = false
is_some (Some x) = true

abbrev pub has_byte : Target → ℕ → Bool
has_byte Ascii b = false
has_byte (Bytes table) b = is_some (character_of table b)
has_byte Utf8 b = nat_le 128 b

-- A byte may go out if it is one of ASCII, or one that the table in force has, or a part of a character in
-- UTF-8.
abbrev pub may_go_out : Target → ℕ → Bool
may_go_out table b = nat_lt b 127 || has_byte table b

-- the byte that goes out for one
abbrev pub sent : Target → ℕ → ℕ
sent table b = if may_go_out table b then b else code "?"

abbrev pub all_sent : Target → List ℕ → List ℕ
all_sent table [] = []
all_sent table (b ∷ bs) = sent table b ∷ all_sent table bs

-- a byte, or else what was kept
abbrev pub byte_or_kept : Option ℕ → List ℕ → List ℕ
byte_or_kept None kept = kept
byte_or_kept (Some b) kept = b ∷ []

-- a character that the language knows by this name
abbrev pub native : Target → List ℕ → ℕ → List ℕ
native target name c =
    if nat_le 128 c && is_utf8 target then itself c else byte_or_kept (byte_in_force target c) name

-- what is said; characters of the table in force are bytes
abbrev pub text_of : Target → Said → List ℕ
text_of table Nothing = []
text_of table (Byte b) = b ∷ []
text_of table (Kept name) = name
text_of table (Native name c) = native table name c
text_of table (Hang number) = codes ".ti " ++ number ++ codes "\n\\&"
text_of table (Escape b) = code "\\" ∷ b ∷ []
text_of table (Font letter) = code "\\" ∷ code "f" ∷ letter ∷ []
text_of table Quotes = codes "\"\""
text_of table (Comment true) = codes ".\\\""
text_of table (Comment false) = codes "\\\""
text_of table (Character c) = likeness table c
text_of table (Struck c) = struck_like table c
text_of table (Marked m) = marked_like table m
text_of table (Arguments doubled) = arguments doubled false
text_of table (QuotedArguments doubled) = arguments doubled true

-- the bytes that go out for it
abbrev pub bytes_of : Target → Said → List ℕ
bytes_of table said = all_sent table (text_of table said)
