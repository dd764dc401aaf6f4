-- Where a number is aligned (tbl(1), "n"): at its first \&, else at its last point before a digit, else after its last digit.
use Rattle.std.specs.Prelude.{ℕ, ◌+◌, ◌-◌, Bool, ◌==◌, ◌&&◌, nat_le, nat_lt, if◌then◌else◌, Option, None, Some}
use Prim.Native.Char.{code}
use Rattle.tbl_reader.specs.declared.numbers.Marks.{Marks}

abbrev pub is_digit : ℕ → Bool
is_digit b = nat_le (code "0") b && nat_le b (code "9")

abbrev pub first_marks : Marks
first_marks = record { mark = None; point = None; digit = None; last = 0; solid = 0 }

-- the place of the byte before
abbrev pub before : ℕ → Option ℕ
before place = if place == 0 then None else Some (place - 1)

-- one more, of so many at most
abbrev pub one_more : ℕ → ℕ → ℕ
one_more n most = if nat_lt n most then n + 1 else most

-- the first counts
abbrev pub mark_with : Option ℕ → Bool → ℕ → Option ℕ
mark_with None is place = if is then before place else None
mark_with (Some first) is place = Some first

-- with one byte more, which stands at this place
abbrev pub marks_with : ℕ → ℕ → ℕ → Marks → Marks
marks_with b place point m = record {
  mark = mark_with m.mark ((m.last == code "\\") && (b == code "&")) place;
  point = if is_digit b && (m.last == point) then before place else m.point;
  digit = if is_digit b then Some (place + 1) else m.digit;
  last = b;
  solid = if b == code " " then m.solid else place + 1;
}

abbrev pub else_at : Option ℕ → Option ℕ → Option ℕ
else_at (Some place) other = Some place
else_at None other = other

-- how many bytes stand before the place where the number is aligned
abbrev pub prefix : Marks → Option ℕ
prefix m = else_at m.mark (else_at m.point m.digit)
