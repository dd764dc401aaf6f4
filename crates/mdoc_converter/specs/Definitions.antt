-- Macros that a page defines: their names are kept, and their lines pass (groff(7), de).
use Rattle.std.specs.Prelude.{ℕ, ◌+◌, List, [], ◌∷◌, ◌++◌, length, Bool, false, not, ◌==◌, ◌&&◌, ◌||◌, nat_lt}
use Rattle.std.specs.Prelude.{nat_le, if◌then◌else◌, slice_index}
use Prim.Native.Char.{code}
use Rattle.nr_units.specs.Name.{is_full}
use Rattle.mdoc_layout.specs.declared.acts.Act.TheVariants as acts
use Rattle.mdoc_layout.specs.declared.page.Dots.TheVariants as dots
use Rattle.mdoc_layout.specs.declared.page.Page.{Page}
use Rattle.mdoc_layout.specs.declared.page.Scan.TheVariants as scans
use Rattle.mdoc_words.specs.Keeping.{turns}
use Rattle.mdoc_layout.specs.Seeing.{Offered, offered, taken}

-- a name stands at this place of names, two bytes after one another
abbrev pub is_at : List ℕ → ℕ → ℕ → ℕ → Bool
is_at names at first second =
    nat_lt (at + 1) (length names) && (slice_index names at == first)
    && (slice_index names (at + 1) == second)

-- one of four is this one
abbrev pub has_name : List ℕ → ℕ → ℕ → Bool
has_name names first second =
    is_at names 0 first second || is_at names 2 first second || is_at names 4 first second
    || is_at names 6 first second

-- names of requests begin otherwise
abbrev pub is_capital : ℕ → Bool
is_capital first = nat_le (code "A") first && nat_le first (code "Z")

abbrev pub is_own_name : List ℕ → List ℕ → Bool
is_own_name own (first ∷ second ∷ []) = has_name own first second
is_own_name own name = false

-- the page has defined the macro whose name is the word
abbrev pub is_own : Page → Bool
is_own p = is_own_name p.own p.word

-- four names at most, each once
abbrev pub with_name : List ℕ → Page → Page
with_name (first ∷ second ∷ []) p =
    if is_capital first && nat_lt (length p.own) 8 && not (has_name p.own first second)
    then record p { own = (p.own ++ first ∷ []) ++ second ∷ [] } else p
with_name name p = p

abbrev pub keep_own : Page → Page
keep_own p = with_name p.word p

-- the words of the line that begins a definition: names are among them
abbrev pub in_definition : ℕ → Page → Offered
in_definition b p =
    if (b == code " ") || (b == code "\t")
    then offered (record (keep_own p) { word = [] }) (taken (acts.Byte b)) else
    if b == code "\n" then turns (scans.Ignored dots.Start) (taken (acts.Byte b)) (keep_own p) else
    offered (if is_full p.word then p else record p { word = p.word ++ b ∷ [] }) (taken (acts.Byte b))
