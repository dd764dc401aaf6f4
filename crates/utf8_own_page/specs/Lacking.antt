-- The characters that a page's own table has no room for, and those that a fixed one shows by their numbers,
-- and how they are reported.
use Rattle.std.specs.Prelude.{◌≡◌, ℕ, ◌-◌, ◌/◌, ◌%◌, List, [], ◌∷◌, ◌++◌, length, take, flat_map, get_or}
use Rattle.std.specs.Prelude.{codes, decimal, Bool, ◌==◌, ◌||◌, nat_le, if◌then◌else◌}
use Rattle.std.specs.List.{concat}
use Rattle.std.specs.Str.{bytes_eq}
use Rattle.preconv_characters.specs.Likeness.{likeness}
use Rattle.preconv_characters.specs.declared.target.Target.{Target}
use Rattle.utf8_own_characters.specs.declared.cluster.Cluster.{Cluster}
use Rattle.utf8_own_characters.specs.declared.counting.Count.{Count}
use Rattle.utf8_own_characters.specs.Choosing.{Choice, chosen, is_in, nothing}

-- those that were counted, and are not in a table
abbrev pub lacking : Choice → List Count → List Cluster
lacking k [] = []
lacking k (x ∷ xs) = if is_in k x.cluster then lacking k xs else x.cluster ∷ lacking k xs

-- THOSE THAT A PAGE'S TABLE LACKS: the first ones that have room are in it
abbrev pub left_of : List Count → List Cluster
left_of xs = lacking (chosen nothing xs) xs

-- ---- how they are reported

-- a digit of base 16
abbrev pub digit : ℕ → ℕ
digit n = get_or (codes "0123456789ABCDEF") (n % 16) 0

-- `U+540D`, with four digits or as many as it has
abbrev pub number_of : ℕ → List ℕ
number_of c =
    codes "U+"
    ++ (if nat_le 1048576 c then digit (c / 1048576) ∷ [] else [])
    ++ (if nat_le 65536 c then digit (c / 65536) ∷ [] else [])
    ++ digit (c / 4096) ∷ digit (c / 256) ∷ digit (c / 16) ∷ digit c ∷ []

-- a mark after its letter; NUL stands where there is none
abbrev pub mark_of : ℕ → List ℕ
mark_of m = if m == 0 then [] else codes "+" ++ number_of m

-- `U+0065+U+0323`
abbrev pub name_of : Cluster → List ℕ
name_of c = number_of c.letter ++ mark_of c.first_mark ++ mark_of c.second_mark ++ mark_of c.third_mark

abbrev pub more_of : ℕ → List ℕ
more_of n = if n == 0 then [] else concat (codes " and " ∷ decimal n ∷ codes " more" ∷ [])

-- THE FIRST EIGHT are named, and it is reported how many more there are
abbrev pub names_of : List Cluster → List ℕ
names_of cs = flat_map (λ c. codes " " ++ name_of c) (take 8 cs) ++ more_of (length cs - 8)

-- ---- those that a fixed table shows by their numbers

-- what a character looks like is `<U+540D>`
abbrev pub is_numbered : Target → ℕ → Bool
is_numbered target c = bytes_eq (likeness target c) (codes "<" ++ (number_of c ++ codes ">"))

-- so it is of a letter, or of one of its marks
abbrev pub has_number : Target → Cluster → Bool
has_number target c =
    is_numbered target c.letter || is_numbered target c.first_mark || is_numbered target c.second_mark
    || is_numbered target c.third_mark

-- THOSE OF WHICH A TABLE HAS NEITHER A BYTE NOR A LIKENESS
abbrev pub numbered : Target → List Count → List Cluster
numbered target [] = []
numbered target (x ∷ xs) =
    if has_number target x.cluster then x.cluster ∷ numbered target xs else numbered target xs
