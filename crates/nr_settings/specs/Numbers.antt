-- Numbers in the arguments of requests (CSTR 54, numerical parameter input).
use Prim.Native.Char.{code}
use Rattle.std.specs.Prelude.{ℕ, Bool, false, List, [], ◌∷◌, ◌==◌, Option, Some, None, ℤ, pos, negsuc, neg_ℤ, ◌+ℤ◌, int_lt, if◌then◌else◌}
use Rattle.std.specs.Option.{option_map}
use Rattle.std.specs.Ordering.{int_eq}
use Rattle.nr_units.specs.LongestPrefix.{read_of}
use Rattle.nr_units.specs.declared.units.Scale.{Scale}
use Rattle.nr_units.specs.declared.units.Scale.TheVariants.{Unit as OneUnit}
use Rattle.nr_units.specs.declared.expression.Ctx.{Ctx}
use Rattle.nr_settings.specs.Arguments.{number_in}
use Rattle.nr_settings.specs.declared.numbers.Change.{Change}
use Rattle.nr_settings.specs.declared.numbers.Change.TheVariants.{To, By}

-- what a number is read against: its scale where it has no letter, the vertical space and the present place
abbrev pub context : Scale → ℕ → ℤ → Ctx
context scale v here = record { v = pos v; here = here; default = scale }

-- The value of an argument is that of its longest prefix that is an expression; the rest is dropped. With no such
-- front, or an invalid one, it counts as absent.
abbrev pub value_of : Scale → ℕ → ℤ → List ℕ → Option ℤ
value_of scale v here argument = (read_of (context scale v here) argument).value

-- A signed request: a first `+` or `-` adds the value of the rest to the old value, or takes it away.
abbrev pub change_of : Scale → ℕ → ℤ → List ℕ → Option Change
change_of scale v here [] = None
change_of scale v here (b ∷ bs) =
    if b == code "+" then option_map By (value_of scale v here bs)
    else if b == code "-" then option_map (λ n. By (neg_ℤ n)) (value_of scale v here bs)
    else option_map To (value_of scale v here (b ∷ bs))

abbrev pub applied : Change → ℤ → ℤ
applied (To n) old = n
applied (By n) old = old +ℤ n

-- the number of a condition (CSTR 54, conditional acceptance of input): true above 0
abbrev pub is_above_zero : Option ℤ → Bool
is_above_zero None = false
is_above_zero (Some n) = int_lt (pos 0) n

abbrev pub is_true_number : ℕ → List ℕ → Bool
is_true_number v argument = is_above_zero (value_of OneUnit v (pos 0) argument)

-- the value of a line's first number
abbrev pub first_value : Scale → ℕ → ℤ → List ℕ → Option ℤ
first_value scale v here line = value_of scale v here (number_in line)

-- what a line's first number says in a signed request
abbrev pub first_change : Scale → ℕ → ℤ → List ℕ → Option Change
first_change scale v here line = change_of scale v here (number_in line)

-- the number of lines that a request counts: N, none below 1, one where N is absent
abbrev pub line_count : Option ℤ → ℕ
line_count None = 1
line_count (Some (pos n)) = n
line_count (Some (negsuc n)) = 0

abbrev pub counted_lines : List ℕ → ℕ → ℕ
counted_lines line v = line_count (first_value OneUnit v (pos 0) line)

-- whether a number is there, and 0
abbrev pub is_zero : Option ℤ → Bool
is_zero None = false
is_zero (Some n) = int_eq n (pos 0)
