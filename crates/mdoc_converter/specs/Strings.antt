-- Strings that mdoc names (mdoc(7), Predefined Strings): `\*(xx` and `\*[xx]`.
use Rattle.std.specs.Prelude.{ℕ, List, Bool, true, false, ◌==◌, ◌&&◌, if◌then◌else◌, slice_index, Option}
use Rattle.std.specs.Prelude.{None, Some}
use Prim.Native.Char.{code}
use Rattle.mdoc_layout.specs.declared.page.RowPart.{RowPart}
use Rattle.mdoc_layout.specs.declared.page.RowPart.TheVariants as rows
use Rattle.mdoc_layout.specs.declared.page.Scan.{Scan}
use Rattle.mdoc_layout.specs.declared.page.Scan.TheVariants as scans
use Rattle.mdoc_converter.specs.declared.strings.TheConstants.{STRINGS}
use Rattle.mdoc_converter.specs.declared.strings.Next.{Next}
use Rattle.mdoc_converter.specs.declared.strings.Next.TheVariants.{Waits, Says, Breaks}
use Rattle.mdoc_converter.specs.declared.pending.Pending.{Pending}
use Rattle.mdoc_converter.specs.declared.pending.Pending.TheVariants as pendings
use Rattle.mdoc_words.specs.Macros.{looked_up}

-- what a string stands for
unfoldable pub string_named : ℕ → ℕ → Option (List ℕ)
string_named a b = looked_up STRINGS a b

abbrev pub says : Option (List ℕ) → Next
says None = Breaks
says (Some text) = Says (slice_index text 0) (slice_index text 1) (slice_index text 2) (slice_index text 3)

abbrev pub named : ℕ → ℕ → Next
named a b = says (string_named a b)

abbrev pub row_takes_strings : RowPart → Bool
row_takes_strings rows.Control = false
row_takes_strings rows.Escape = false
row_takes_strings rows.Comment = false
row_takes_strings rows.Name = false
row_takes_strings row = true

-- not in lines that pass, nor before a macro's name has ended
abbrev pub takes_strings : Scan → Bool
takes_strings (scans.Asleep prefix lines) = false
takes_strings scans.Passes = false
takes_strings scans.Comment = false
takes_strings scans.Control = false
takes_strings scans.ControlEscape = false
takes_strings scans.Name = false
takes_strings scans.Rest = false
takes_strings scans.Dropped = false
takes_strings scans.Defines = false
takes_strings (scans.Ignored d) = false
takes_strings (scans.Table row) = row_takes_strings row
takes_strings scan = true

-- names of one letter
abbrev pub named_by_one : ℕ → Next
named_by_one b =
    if b == code "q" then Says (code "\\") (code "(") (code "d") (code "q") else
    if b == code "R" then Says (code "\\") (code "(") (code "r") (code "g") else Breaks

abbrev pub after_star : ℕ → Next
after_star b =
    if b == code "(" then Waits pendings.Open else
    if b == code "[" then Waits pendings.Bracket else named_by_one b

-- what a byte does to what was read of an escape, or begins
abbrev pub offered_by : Pending → ℕ → Bool → Next
offered_by pendings.Nothing b takes = if takes && (b == code "\\") then Waits pendings.Backslash else Breaks
offered_by pendings.Backslash b takes = if b == code "*" then Waits pendings.Star else Breaks
offered_by pendings.Star b takes = after_star b
offered_by pendings.Open b takes = Waits (pendings.Pair b)
offered_by (pendings.Pair a) b takes = named a b
offered_by pendings.Bracket b takes = Waits (pendings.One b)
offered_by (pendings.One a) b takes = if b == code "]" then named_by_one a else Waits (pendings.Two a b)
offered_by (pendings.Two a c) b takes = if b == code "]" then named a c else Breaks
