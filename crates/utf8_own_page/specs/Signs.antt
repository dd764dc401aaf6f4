-- What frames are drawn with in a page's own table.
use Prim.Native.Char.{code}
use Rattle.std.specs.Prelude.{ℕ, Option, Some}
use Rattle.tbl_table.specs.declared.signs.Joints.{Joints}
use Rattle.tbl_table.specs.declared.signs.Signs.{Signs}
use Rattle.utf8_own_characters.specs.Cluster.{single}
use Rattle.utf8_own_characters.specs.Table as own
use Rattle.utf8_own_characters.specs.Table.{Characters}
use Rattle.utf8_own_characters.specs.declared.table.Code.{Code}
use Rattle.utf8_own_characters.specs.declared.table.Code.TheVariants.{One}

-- the byte of a character of one column, or that of ASCII
abbrev pub one_byte : Option Code → ℕ → ℕ
one_byte (Some (One byte)) ascii = byte
one_byte other ascii = ascii

abbrev pub byte_for : Characters → ℕ → ℕ → ℕ
byte_for t c ascii = one_byte (own.code t (single c)) ascii

-- where bars meet a rule
abbrev pub joints_for : Characters → ℕ → ℕ → ℕ → Joints
joints_for t begins crosses ends = record {
  begins = byte_for t begins (code "+");
  crosses = byte_for t crosses (code "+");
  ends = byte_for t ends (code "+");
}

-- `─│┌┬┐├┼┤└┴┘`
abbrev pub signs_for : Characters → Signs
signs_for t = record {
  rule = byte_for t (code "─") (code "-");
  bar = byte_for t (code "│") (code "|");
  top = joints_for t (code "┌") (code "┬") (code "┐");
  middle = joints_for t (code "├") (code "┼") (code "┤");
  bottom = joints_for t (code "└") (code "┴") (code "┘");
}
