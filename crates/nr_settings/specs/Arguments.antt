-- The arguments of a request's line. Blanks are spaces and tabs.
use Prim.Native.Char.{code}
use Rattle.std.specs.Prelude.{ℕ, ◌+◌, ◌-◌, Bool, not, ◌&&◌, ◌||◌, List, [], ◌∷◌, length, take, drop, min, ◌==◌, nat_lt, Option, Some, None, slice_get, if◌then◌else◌}
use Rattle.std.specs.List.{prefix_len}

abbrev pub is_blank : ℕ → Bool
is_blank b = b == code " " || b == code "\t"

-- what stands after the first blanks
abbrev pub after_blanks : List ℕ → List ℕ
after_blanks text = drop (prefix_len is_blank text) text

-- Of a text that begins with an argument, the length of that argument. A word goes to a blank;
abbrev pub word_len : List ℕ → ℕ
word_len text = prefix_len (λ b. not (is_blank b)) text

-- a number to a blank outside parentheses, so many being open; a `)` without `(` closes none.
abbrev pub depth_after : ℕ → ℕ → ℕ
depth_after depth b = if b == code "(" then depth + 1 else if b == code ")" then depth - 1 else depth

abbrev pub number_len : ℕ → List ℕ → ℕ
number_len depth [] = 0
number_len depth (b ∷ bs) = if is_blank b && depth == 0 then 0 else 1 + number_len (depth_after depth b) bs

-- A name has bytes that are no blanks and no control bytes: two at most, or with long names as many as there are.
abbrev pub is_name_byte : ℕ → Bool
is_name_byte b = nat_lt (code " ") b && not (b == 127)

abbrev pub name_len : Bool → List ℕ → ℕ
name_len long text = if long then prefix_len is_name_byte text else min 2 (prefix_len is_name_byte text)

-- the bytes of a name, which are 1 to 32
abbrev pub name_of : List ℕ → Option (List ℕ)
name_of bytes = if length bytes == 0 || nat_lt 32 (length bytes) then None else Some bytes

-- The next argument, and what stands after it. An empty word or number is none.
abbrev pub word_in : List ℕ → List ℕ
word_in line = take (word_len (after_blanks line)) (after_blanks line)

abbrev pub after_word : List ℕ → List ℕ
after_word line = drop (word_len (after_blanks line)) (after_blanks line)

abbrev pub number_in : List ℕ → List ℕ
number_in line = take (number_len 0 (after_blanks line)) (after_blanks line)

abbrev pub after_number : List ℕ → List ℕ
after_number line = drop (number_len 0 (after_blanks line)) (after_blanks line)

abbrev pub name_in : Bool → List ℕ → Option (List ℕ)
name_in long line = name_of (take (name_len long (after_blanks line)) (after_blanks line))

abbrev pub after_name : Bool → List ℕ → List ℕ
after_name long line = drop (name_len long (after_blanks line)) (after_blanks line)

-- the first byte that is no blank
abbrev pub byte_in : List ℕ → Option ℕ
byte_in line = slice_get (after_blanks line) 0
