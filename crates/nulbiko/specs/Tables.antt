-- The tables of characters, by the numbers that programs in C give them.
use Rattle.std.specs.Prelude.{ℕ, ◌==◌, if◌then◌else◌, Option, None, Some}
use Rattle.utf8_characters.specs.declared.table.FixedTable.{FixedTable}
use Rattle.utf8_characters.specs.declared.table.FixedTable.TheVariants.{English, Latin, Cyrillic, Greek}
use Rattle.utf8_characters.specs.declared.table.FixedTable.TheVariants.{Latin1}

-- the table of a number; 0 is that of none
abbrev pub table_numbered : ℕ → Option FixedTable
table_numbered n =
    if n == 1 then Some English else if n == 2 then Some Latin else if n == 3 then Some Cyrillic else
    if n == 4 then Some Greek else if n == 5 then Some Latin1 else None

-- what is reported where there was no memory to choose one
abbrev pub unchosen : ℕ
unchosen = 7

abbrev pub number_of : FixedTable → ℕ
number_of English = 1
number_of Latin = 2
number_of Cyrillic = 3
number_of Greek = 4
number_of Latin1 = 5
