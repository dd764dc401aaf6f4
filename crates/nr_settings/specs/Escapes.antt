-- Which escapes there are, by the byte after the `\`, and how far each goes (CSTR 54, summary of escape sequences).
use Prim.Native.Char.{code}
use Rattle.std.specs.Prelude.{ℕ, ◌+◌, Bool, not, ◌&&◌, ◌||◌, List, [], ◌∷◌, length, take, drop, ◌==◌, nat_le, if◌then◌else◌, codes}
use Rattle.std.specs.List.{prefix_len, list_any}
use Rattle.nr_settings.specs.Registers.{is_digit}
use Rattle.nr_settings.specs.declared.escapes.Escape.{Escape}
use Rattle.nr_settings.specs.declared.escapes.Escape.TheVariants.{OneCell, Nothing, Comment, Argument, Named, Register, Pair, Bracket, Motion, Delimited, Size, Plain}

abbrev pub is_one_of : List ℕ → ℕ → Bool
is_one_of bytes b = list_any (λ x. b == x) bytes

-- \ and ' and a blank stand for themselves here, as 92, 39 and 32
abbrev pub escape_of : Bool → ℕ → Escape
escape_of long b =
    if is_one_of (code "\\" ∷ code "'" ∷ code " " ∷ codes "e0-.`") b then OneCell
    else if is_one_of (code "\n" ∷ codes "&|^!%cdurzpat{}") b then Nothing
    else if b == code "\"" then Comment
    else if b == code "$" then Argument
    else if is_one_of (codes "*fk") b then Named
    else if b == code "n" then Register
    else if b == code "(" then Pair
    else if long && b == code "[" then Bracket
    else if is_one_of (codes "hl") b then Motion
    else if is_one_of (codes "vxboLDw") b then Delimited
    else if b == code "s" then Size
    else Plain

-- the bytes before the first that is this one
abbrev pub len_before : ℕ → List ℕ → ℕ
len_before b text = prefix_len (λ x. not (x == b)) text

-- A name: one byte, or two after `(`, or with long names those up to a `]` after `[`.
abbrev pub escape_name_len : Bool → List ℕ → ℕ
escape_name_len long [] = 0
escape_name_len long (b ∷ bs) =
    if b == code "(" then 3
    else if long && b == code "[" then len_before (code "]") bs + 2
    else 1

-- what stands before a `]`; without one, nothing
abbrev pub bracketed : List ℕ → List ℕ
bracketed text =
    if len_before (code "]") text == length text then [] else take (len_before (code "]") text) text

-- a sign, if there is one
abbrev pub is_sign : ℕ → Bool
is_sign b = b == code "+" || b == code "-"

abbrev pub sign_len : List ℕ → ℕ
sign_len [] = 0
sign_len (b ∷ bs) = if is_sign b then 1 else 0

abbrev pub register_len : Bool → List ℕ → ℕ
register_len long text = sign_len text + escape_name_len long (drop (sign_len text) text)

-- a delimited argument: its first byte delimits
abbrev pub delimited_len : List ℕ → ℕ
delimited_len [] = 0
delimited_len (d ∷ bs) = len_before d bs + 2

abbrev pub delimited : List ℕ → List ℕ
delimited [] = []
delimited (d ∷ bs) = take (len_before d bs) bs

-- a size: a sign and a digit, or a digit, after which 1, 2 and 3 take another
abbrev pub digit_len : List ℕ → ℕ
digit_len [] = 0
digit_len (b ∷ bs) = if is_digit b then 1 else 0

abbrev pub size_len : List ℕ → ℕ
size_len [] = 0
size_len (b ∷ bs) = if is_sign b || (nat_le (code "1") b && nat_le b (code "3")) then 1 + digit_len bs
    else digit_len (b ∷ bs)
