-- Registers in widths (tbl(1), "Column modifiers", w): those that the page sets to a number that shows, the line's length and its indent. They
-- stand for their numbers.
use Rattle.std.specs.Prelude.{ℕ, ◌+◌, ◌-◌, ◌*◌, min, Bool, true, false, ◌==◌, ◌&&◌, ◌||◌, not, nat_le, nat_lt, List, [], ◌∷◌, ◌++◌, length, take, Option, None, Some, ℤ, pos, negsuc, codes, decimal, if◌then◌else◌}
use Rattle.std.specs.Str.{bytes_eq}
use Prim.Native.Char.{code}
use Rattle.nr_units.specs.LongestPrefix.{read_of}
use Rattle.nr_units.specs.declared.expression.Ctx.{Ctx}
use Rattle.nr_units.specs.declared.expression.Read.{Read}
use Rattle.nr_units.specs.declared.units.Scale.{Scale}
use Rattle.nr_units.specs.declared.units.Scale.TheVariants as scales
use Rattle.nr_vectors.specs.Items.{Items}
use Rattle.tbl_columns.specs.declared.grid.Grid.{Grid}
use Rattle.tbl_columns.specs.declared.registers.Expression.{Expression}
use Rattle.tbl_columns.specs.declared.registers.Register.{Register}
use Rattle.tbl_table.specs.Lists.{added}

-- ---- names: one byte, two after a parenthesis, or those up to a bracket that closes

abbrev pub name_len : List ℕ → ℕ
name_len [] = 0
name_len (b ∷ bs) = if b == code "]" then 0 else name_len bs + 1

abbrev pub register_name : List ℕ → List ℕ
register_name [] = []
register_name (b ∷ bs) =
    if (b == code "(") && nat_le 2 (length bs) then take 2 bs else
    if b == code "[" then take (name_len bs) bs else b ∷ []

abbrev pub register_len : List ℕ → ℕ
register_len [] = 0
register_len (b ∷ bs) =
    if (b == code "(") && nat_le 2 (length bs) then 3 else
    if b == code "[" then name_len bs + 2 else 1

-- ---- numbers

abbrev pub list_eq : List ℕ → List ℕ → Bool
list_eq xs ys = bytes_eq xs ys

abbrev pub number_among : List ℕ → List Register → Option ℕ
number_among name [] = None
number_among name (r ∷ rs) = if list_eq r.name name then Some r.number else number_among name rs

-- 24 units are a cell
abbrev pub units : ℕ → ℕ
units cells = min (cells * 24) 18446744073709551615

abbrev pub number_of : Grid → List ℕ → Option ℕ
number_of g name =
    if list_eq name (codes ".l") then Some (units g.room.line) else
    if list_eq name (codes ".i") then Some (units g.room.indent) else number_among name g.registers.items

-- ---- expressions: what is filled in so far, whether all of it is known, and how many bytes to come belong to a register

pub record Filling : Type 0 where
  pub text : List ℕ
  pub whole : Bool
  pub more : ℕ

-- what a buffer holds of it
abbrev pub written : Expression → Filling
written e = record { text = take e.len e.bytes; whole = e.whole; more = 0 }

abbrev pub nothing_filled : Filling
nothing_filled = record { text = []; whole = true; more = 0 }

-- so many bytes to come belong to a register
abbrev pub waiting : ℕ → Filling → Filling
waiting more f = record f { more = more }

-- 128 bytes at most
abbrev pub with_byte : ℕ → Filling → Filling
with_byte b f = record f {
  text = if nat_lt (length f.text) 128 then f.text ++ b ∷ [] else f.text;
  whole = f.whole && nat_lt (length f.text) 128;
}

abbrev pub with_bytes : List ℕ → Filling → Filling
with_bytes [] f = f
with_bytes (b ∷ bs) f = with_bytes bs (with_byte b f)

abbrev pub with_number : Option ℕ → Filling → Filling
with_number None f = record f { whole = false }
with_number (Some n) f = with_bytes (decimal n) f

-- after a backslash
abbrev pub with_register : Grid → List ℕ → Filling → Filling
with_register g [] f = record f { whole = false; more = 0 }
with_register g (b ∷ bs) f =
    if b == code "n" then waiting (register_len bs + 1) (with_number (number_of g (register_name bs)) f)
    else record f { whole = false; more = 0 }

abbrev pub filled_from : Grid → List ℕ → Filling → Filling
filled_from g [] f = f
filled_from g (b ∷ bs) f =
    if nat_lt 0 f.more then filled_from g bs (record f { more = f.more - 1 }) else
    if b == code "\\" then filled_from g bs (with_register g bs f) else filled_from g bs (with_byte b f)

abbrev pub filled_in : Grid → List ℕ → Filling
filled_in g text = filled_from g text nothing_filled

-- 40 units are a line
abbrev pub context : Scale → Ctx
context scale = record { v = pos 40; here = pos 0; default = scale }

abbrev pub whole_value : Read → List ℕ → Option ℤ
whole_value r text = if r.used == length text then r.value else None

abbrev pub value_of : List ℕ → Scale → Option ℤ
value_of text scale = whole_value (read_of (context scale) text) text

abbrev pub has_escape : List ℕ → Bool
has_escape [] = false
has_escape (b ∷ bs) = (b == code "\\") || has_escape bs

abbrev pub number_in : Grid → List ℕ → Scale → Option ℤ
number_in g text scale =
    if not (has_escape text) then value_of text scale else
    if (filled_in g text).whole then value_of (filled_in g text).text scale else None

-- ---- a register is set: to a number of 1,000,000 at most; below zero it is not known

abbrev pub counted : ℤ → Option ℕ
counted (pos n) = Some (min n 1000000)
counted (negsuc n) = None

abbrev pub is_known : List ℕ → List Register → Bool
is_known name [] = false
is_known name (r ∷ rs) = list_eq r.name name || is_known name rs

abbrev pub replaced : Register → List Register → List Register
replaced r [] = []
replaced r (q ∷ qs) = if list_eq q.name r.name then r ∷ qs else q ∷ replaced r qs

abbrev pub put_register : Register → Grid → Grid
put_register r g = record g {
  registers = if is_known r.name g.registers.items
      then record g.registers { items = replaced r g.registers.items } else added r g.registers;
}

abbrev pub set_in : List ℕ → Option ℕ → Grid → Grid
set_in name None g = g
set_in name (Some n) g = put_register (record { name = name; number = n }) g

abbrev pub set_to : List ℕ → Option ℤ → Grid → Grid
set_to name None g = g
set_to name (Some value) g = set_in name (counted value) g

-- a name has 32 bytes at most
abbrev pub register_set : List ℕ → List ℕ → Grid → Grid
register_set name text g =
    if (length name == 0) || nat_lt 32 (length name) then g else set_to name (number_in g text scales.Unit) g
