-- Whether a page needs a table of its own, and which that is.
use Prim.Native.Char.{code}
use Rattle.std.specs.Prelude.{◌≡◌, ℕ, ◌+◌, ◌<◌, List, [], ◌∷◌, length, take, get_or, Bool, true, false, ◌==◌}
use Rattle.std.specs.Prelude.{◌&&◌, ◌||◌, not, nat_le, nat_lt, if◌then◌else◌, is_some, Option, None, Some}
use Rattle.utf8_characters.specs.declared.table.FixedTable as fixed
use Rattle.utf8_characters.specs.declared.table.FixedTable.TheVariants.{English}
use Rattle.utf8_characters.specs.Tables.{byte_of}
use Rattle.preconv_characters.specs.Composed.{lacks_letter}
use Rattle.utf8_own_characters.specs.declared.cluster.Cluster.{Cluster}
use Rattle.utf8_own_characters.specs.declared.counting.Count.{Count}
use Rattle.utf8_own_characters.specs.Choosing.{IsFewest, chosen, nothing}
use Rattle.utf8_own_characters.specs.Cluster.{is_same, single}
use Rattle.utf8_own_characters.specs.Ranking.{ranked}
use Rattle.utf8_own_characters.specs.Table.{Characters}

abbrev pub before_bracket : List ℕ → List ℕ
before_bracket [] = []
before_bracket (b ∷ bs) = if b == code "]" then [] else b ∷ before_bracket bs

-- by its number
abbrev pub begins_number : List ℕ → Bool
begins_number [] = false
begins_number (b ∷ bs) = b == code "u"

-- After a backslash a character is named by its number (`[u0159]`), or a letter that the table of a page of
-- ASCII lacks (`(vs`, `[*a]`, `[n ah]`), in 32 bytes at most, as preconv reads names.
abbrev pub names_beyond : List ℕ → Bool
names_beyond [] = false
names_beyond (b ∷ bs) =
    if b == code "(" then lacks_letter English (take 2 bs) else
    if b == code "[" then begins_number bs || lacks_letter English (before_bracket (take 32 bs)) else false

-- there are characters beyond ASCII, or names of such
abbrev pub is_beyond_ascii : List ℕ → Bool
is_beyond_ascii [] = false
is_beyond_ascii (b ∷ bs) = nat_le 128 b || ((b == code "\\") && names_beyond bs) || is_beyond_ascii bs

-- what is looked at of a page: its first 512 KiB
abbrev pub prefix_of : List ℕ → List ℕ
prefix_of page = take 524288 page

-- that says whether it may
abbrev pub may_need_own : List ℕ → Bool
may_need_own page = is_beyond_ascii (prefix_of page)

-- ---- bytes that are passed over at once

-- a byte of ASCII that doesn't begin a name in parentheses or brackets with the next
abbrev pub is_plain : ℕ → ℕ → Bool
is_plain b following =
    nat_lt b 128 && (not (b == code "\\") || (not (following == code "(") && not (following == code "[")))

-- each of the first n bytes
abbrev pub AllPlain : ℕ → List ℕ → Type 0
AllPlain n bytes = (k : ℕ) → k < n → is_plain (get_or bytes k 0) (get_or bytes (k + 1) 0) ≡ true

-- a fixed table has characters without marks
abbrev pub has : fixed.FixedTable → Cluster → Bool
has table c = is_same c (single c.letter) && is_some (byte_of table c.letter)

abbrev pub has_all : fixed.FixedTable → List Count → Bool
has_all table [] = true
has_all table (x ∷ xs) = has table x.cluster && has_all table xs

-- the fixed table that a page takes, if it takes one, lacks one of these
abbrev pub lacks : Option fixed.FixedTable → List Count → Bool
lacks None xs = false
lacks (Some table) xs = not (has_all table xs)

-- the first ones that have room, in as few pairs as can be
pub record IsMadeOf (xs : List Count) (t : Characters) : Type 0 where
  pub narrow : t.narrow ≡ (chosen nothing xs).narrow
  pub wide : t.wide ≡ (chosen nothing xs).wide
  pub halves : IsFewest t.halves (length t.wide)

-- THE TABLE of what was counted: the most frequent come first, and are in it where they have room
abbrev pub IsTableOf : List Count → Characters → Type 0
IsTableOf xs t = IsMadeOf (ranked xs) t
