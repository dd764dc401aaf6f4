-- What frames and rules are drawn with: the characters of a table that has all of them, else ASCII.
use Rattle.std.specs.Prelude.{ℕ, Option, None, Some}
use Prim.Native.Char.{code}
use Rattle.utf8_characters.specs.declared.table.FixedTable.{FixedTable}
use Rattle.utf8_characters.specs.Tables.{byte_of}
use Rattle.tbl_table.specs.declared.signs.Joints.{Joints}
use Rattle.tbl_table.specs.declared.signs.Signs.{Signs}
use Rattle.tbl_table.specs.Signs.{ascii}

abbrev pub joints_of : Option ℕ → Option ℕ → Option ℕ → Option Joints
joints_of None c e = None
joints_of (Some b) None e = None
joints_of (Some b) (Some c) None = None
joints_of (Some b) (Some c) (Some e) = Some (record { begins = b; crosses = c; ends = e })

abbrev pub joints_in : FixedTable → ℕ → ℕ → ℕ → Option Joints
joints_in table begins crosses ends =
    joints_of (byte_of table begins) (byte_of table crosses) (byte_of table ends)

abbrev pub boxes_of : Option ℕ → Option ℕ → Option Joints → Option Joints → Option Joints → Option Signs
boxes_of None bar top middle bottom = None
boxes_of (Some r) None top middle bottom = None
boxes_of (Some r) (Some b) None middle bottom = None
boxes_of (Some r) (Some b) (Some t) None bottom = None
boxes_of (Some r) (Some b) (Some t) (Some m) None = None
boxes_of (Some r) (Some b) (Some t) (Some m) (Some l) =
    Some (record { rule = r; bar = b; top = t; middle = m; bottom = l })

abbrev pub boxes_in : FixedTable → Option Signs
boxes_in table =
    boxes_of (byte_of table (code "─")) (byte_of table (code "│"))
    (joints_in table (code "┌") (code "┬") (code "┐"))
    (joints_in table (code "├") (code "┼") (code "┤"))
    (joints_in table (code "└") (code "┴") (code "┘"))

abbrev pub or_ascii : Option Signs → Signs
or_ascii None = ascii
or_ascii (Some signs) = signs

abbrev pub signs_of : Option FixedTable → Signs
signs_of None = ascii
signs_of (Some table) = or_ascii (boxes_in table)
