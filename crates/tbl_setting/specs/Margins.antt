-- What paragraphs of a manual page are indented (man(7)): by `.RS`, each so far; by the tag of `.TP` or `.IP`; by `.in`. What a tag says
-- stays for the next one.
use Rattle.std.specs.Prelude.{ℕ, ◌-◌, List, [], ◌∷◌, length, take, Option, None, Some, nat_lt, ◌==◌, if◌then◌else◌}
use Prim.Native.Char.{code}
use Rattle.nr_vectors.specs.Items.{Items}
use Rattle.tbl_setting.specs.declared.margins.Margins.{Margins}
use Rattle.tbl_setting.specs.Arguments.{number_of}
use Rattle.tbl_table.specs.Held.{none_of}
use Rattle.tbl_table.specs.Lists.{added}
use Rattle.tbl_table.specs.Sums.{sum}
use Rattle.tbl_table.specs.Table.{room_for}

-- 16 of `.RS` are followed; a section, `.RS` and a tag indent by 7 where they don't say it
abbrev pub first_margins : Margins
first_margins = record { rests = room_for 16; tag = 0; more = 0; last = 7 }

-- none is open, in the same room
abbrev pub no_margins : Margins → Margins
no_margins m = record { rests = none_of m.rests; tag = 0; more = 0; last = 7 }

abbrev pub sum_from : ℕ → List ℕ → ℕ
sum_from n [] = n
sum_from n (m ∷ ms) = sum_from (sum n m) ms

abbrev pub parts : Margins → ℕ
parts m = sum_from 0 m.rests.items

abbrev pub margin : Margins → ℕ
margin m = sum (sum (parts m) m.tag) m.more

abbrev pub or_number : Option ℕ → ℕ → ℕ
or_number None other = other
or_number (Some n) other = n

abbrev pub with_tag : Option ℕ → Margins → Margins
with_tag said m = record m { tag = or_number said m.last; last = or_number said m.last }

abbrev pub without_tag : Margins → Margins
without_tag m = record m { tag = 0 }

abbrev pub rest_of : Option ℕ → Margins → ℕ
rest_of said m = or_number said (if nat_lt 0 m.tag then m.tag else 7)

abbrev pub deeper : Option ℕ → Margins → Margins
deeper said m = record m { rests = added (rest_of said m) m.rests; tag = 0 }

abbrev pub but_last : Items ℕ → Items ℕ
but_last rests = record rests { items = take (length rests.items - 1) rests.items }

abbrev pub back : Margins → Margins
back m = record m { rests = but_last m.rests; tag = 0 }

-- `.in` counts where it has a plus sign
abbrev pub more_in : List ℕ → ℕ
more_in [] = 0
more_in (b ∷ bs) = if b == code "+" then or_number (number_of bs) 0 else 0

abbrev pub moved : List ℕ → Margins → Margins
moved text m = record m { more = more_in text }
