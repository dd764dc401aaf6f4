-- The names that are known: of requests, of the macros of man(7), and of its strings.
use Rattle.std.specs.Prelude.{ℕ, List, [], ◌∷◌, ◌++◌, length, Bool, true, false, ◌==◌, ◌||◌, nat_lt}
use Rattle.std.specs.Prelude.{if◌then◌else◌, codes, Option, None, Some}
use Rattle.std.specs.Str.{bytes_eq}
use Prim.Native.Char.{code}
use Rattle.nr_units.specs.Name.{is_full}
use Rattle.man_lint.specs.declared.names.TheConstants.{DEFINING, ESCAPES, LEAVING, MACROS, NAMING, REQUESTS}
use Rattle.man_lint.specs.declared.names.TheConstants.{STRINGS}

-- a name keeps the first 32 bytes
abbrev pub grown : List ℕ → ℕ → List ℕ
grown name b = if is_full name then name else name ++ b ∷ []

-- a word is one of the names of a text, each of which a blank ends; so much is read of one
unfoldable pub is_among : List ℕ → List ℕ → List ℕ → Bool
is_among name [] word = false
is_among name (b ∷ bs) word =
    if b == code " " then (if bytes_eq name word then true else is_among [] bs word) else is_among (grown name b) bs word

abbrev pub is_listed : List ℕ → List ℕ → Bool
is_listed names word = is_among [] names word

-- a request of nroff or groff
unfoldable pub is_request : List ℕ → Bool
is_request name = is_listed REQUESTS name

-- a macro of man(7), or one of a preprocessor
unfoldable pub is_macro : List ℕ → Bool
is_macro name = is_listed MACROS name

-- a string of each page; the empty name names nothing that could be missed
unfoldable pub is_string : List ℕ → Bool
is_string name = (length name == 0) || is_listed STRINGS name

-- what comes after it can't be looked at: it reads another text, or changes how the page is read, or the page
-- is one of mdoc(7)
unfoldable pub leaves : List ℕ → Bool
leaves name = is_listed LEAVING name

-- its first word is a name that it gives something
unfoldable pub names_first : List ℕ → Bool
names_first name = is_listed NAMING name

-- it reads a file of macros, which may give any name
unfoldable pub reads_macros : List ℕ → Bool
reads_macros name = bytes_eq name (codes "mso") || bytes_eq name (codes "msoquiet")

-- lines of a definition follow
unfoldable pub defines : List ℕ → Bool
defines name = is_listed DEFINING name

-- a condition follows, and then what it calls
unfoldable pub is_condition : List ℕ → Bool
is_condition name =
    bytes_eq name (codes "if") || (bytes_eq name (codes "ie") || (bytes_eq name (codes "el") || bytes_eq name (codes "while")))

-- what a preprocessor reads begins with one macro and ends with another
unfoldable pub region_end : List ℕ → Option (List ℕ)
region_end name =
    if bytes_eq name (codes "TS") then Some (codes "TE") else
    if bytes_eq name (codes "EQ") then Some (codes "EN") else
    if bytes_eq name (codes "PS") then Some (codes "PE") else None

-- blocks: what is moved right, links to pages and to people, and examples
unfoldable pub opens : List ℕ → Bool
opens name =
    bytes_eq name (codes "RS") || (bytes_eq name (codes "UR") || (bytes_eq name (codes "MT") || bytes_eq name (codes "EX")))

unfoldable pub opener_of : List ℕ → Option (List ℕ)
opener_of name =
    if bytes_eq name (codes "RE") then Some (codes "RS") else
    if bytes_eq name (codes "UE") then Some (codes "UR") else
    if bytes_eq name (codes "ME") then Some (codes "MT") else
    if bytes_eq name (codes "EE") then Some (codes "EX") else None

unfoldable pub heads : List ℕ → Bool
heads name = bytes_eq name (codes "SH") || bytes_eq name (codes "SS")

abbrev pub is_in : List ℕ → ℕ → Bool
is_in [] b = false
is_in (other ∷ others) b = if other == b then true else is_in others b

-- what may stand after a backslash; control characters are of no account
unfoldable pub is_escape : ℕ → Bool
is_escape b = nat_lt b (code " ") || is_in ESCAPES b
