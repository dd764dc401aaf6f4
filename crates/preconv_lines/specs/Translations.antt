-- Translations of bytes to bytes by `.tr` (the groff manual, Character Translations).
use Rattle.std.specs.Prelude.{ℕ, List, nat_lt, if◌then◌else◌, replicate, slice_index, slice_set}

-- for each byte of ASCII what it becomes: none is translated at first
unfoldable pub no_translations : List ℕ
no_translations = replicate 128 0

-- what a byte becomes, 0 if it stays
abbrev pub translated : ℕ → List ℕ → ℕ
translated b translations = if nat_lt b 128 then slice_index translations b else 0

-- one byte becomes another from here on
abbrev pub with_pair : ℕ → ℕ → List ℕ → List ℕ
with_pair a b translations = if nat_lt a 128 then slice_set translations a b else translations
