-- The words of a request's line (CSTR 54, request lines and arguments): between blanks or in quotes, up to a comment.
use Rattle.std.specs.Prelude.{ℕ, ◌+◌, ◌-◌, ◌*◌, ◌≤◌, min, Bool, true, false, not, ◌==◌, ◌&&◌, ◌||◌, nat_le, List, [], ◌∷◌, length, drop, take, slice_range, Option, None, Some, if◌then◌else◌}
use Rattle.std.specs.List.{prefix_len}
use Prim.Native.Char.{code}
use Rattle.tbl_blocks.specs.declared.arguments.Argument.{Argument}

abbrev pub is_blank : ℕ → Bool
is_blank b = (b == code " ") || (b == code "\t")

abbrev pub blanks_len : List ℕ → ℕ
blanks_len text = prefix_len is_blank text

abbrev pub spaces_len : List ℕ → ℕ
spaces_len text = prefix_len (λ b. b == code " ") text

-- ---- a request's name

abbrev pub ends_name : ℕ → Bool
ends_name b = (b == code " ") || (b == code "\t") || (b == code "\\") || (b == code "\"")

abbrev pub request_len : List ℕ → ℕ
request_len text = prefix_len (λ b. not (ends_name b)) text

-- ---- arguments

abbrev pub ends_argument : ℕ → Bool → Bool
ends_argument b quoted = if quoted then b == code "\"" else is_blank b

abbrev pub stops : ℕ → Bool → Bool → Bool
stops b quoted escaped = not escaped && ends_argument b quoted

abbrev pub escapes : ℕ → Bool → Bool
escapes b escaped = not escaped && (b == code "\\")

-- up to a blank, or in quotes to the next one; what follows a backslash ends none
abbrev pub argument_len : Bool → Bool → List ℕ → ℕ
argument_len quoted escaped [] = 0
argument_len quoted escaped (b ∷ bs) =
    if stops b quoted escaped then 0 else 1 + argument_len quoted (escapes b escaped) bs

abbrev pub begins_with : ℕ → List ℕ → Bool
begins_with byte [] = false
begins_with byte (b ∷ bs) = b == byte

-- nothing is left, or a comment
abbrev pub is_end : List ℕ → Bool
is_end [] = true
is_end (b ∷ bs) = (b == code "\\") && begins_with (code "\"") bs

abbrev pub quote_len : List ℕ → ℕ
quote_len text = if begins_with (code "\"") text then 1 else 0

abbrev pub bare_len : List ℕ → ℕ
bare_len text = quote_len text + argument_len (quote_len text == 1) false (drop (quote_len text) text)

-- one whose first byte is at a place
abbrev pub argument_at : List ℕ → ℕ → Argument
argument_at text place = record {
  start = place + quote_len text;
  «end» = place + bare_len text;
  next = place + min (length text) (bare_len text + quote_len text);
}

abbrev pub argument : List ℕ → Option Argument
argument text =
    if is_end (drop (blanks_len text) text) then None
    else Some (argument_at (drop (blanks_len text) text) (blanks_len text))

abbrev pub IsWithin : Argument → ℕ → Type 0
IsWithin a len = (a.start ≤ a.«end») × (a.«end» ≤ a.next) × (a.next ≤ len)

abbrev pub text_of : List ℕ → Option Argument → List ℕ
text_of text None = []
text_of text (Some a) = slice_range text a.start a.«end»

abbrev pub first_argument : List ℕ → List ℕ
first_argument text = text_of text (argument text)

-- ---- numbers

abbrev pub is_digit : ℕ → Bool
is_digit b = nat_le (code "0") b && nat_le b (code "9")

abbrev pub digits_len : List ℕ → ℕ
digits_len text = prefix_len is_digit text

-- 65535 at most
abbrev pub value_of : ℕ → List ℕ → ℕ
value_of number [] = number
value_of number (d ∷ ds) = value_of (min (number * 10 + (d - code "0")) 65535) ds

abbrev pub number_or : ℕ → List ℕ → ℕ
number_or other text = if digits_len text == 0 then other else value_of 0 (take (digits_len text) text)
