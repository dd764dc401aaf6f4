-- A letter with its marks.
use Rattle.std.specs.Prelude.{ℕ, Bool, true, false, ◌==◌, ◌&&◌, nat_lt, Option, Some, None, if◌then◌else◌}
use Rattle.unicode_width.specs.Width.{char_width}
use Rattle.utf8_own_characters.specs.declared.cluster.Cluster.{Cluster}

-- a character without marks
abbrev pub single : ℕ → Cluster
single c = record { letter = c; first_mark = 0; second_mark = 0; third_mark = 0 }

abbrev pub blank : Cluster
blank = single 32

abbrev pub is_same : Cluster → Cluster → Bool
is_same a b =
    (a.letter == b.letter) && (a.first_mark == b.first_mark) && (a.second_mark == b.second_mark) && (a.third_mark == b.third_mark)

abbrev pub has_marks : Cluster → Bool
has_marks c = if c.first_mark == 0 then false else true

-- a character of ASCII, which has no marks
abbrev pub is_ascii : Cluster → Bool
is_ascii c = nat_lt c.letter 128 && is_same c (single c.letter)

abbrev pub is_two : Option ℕ → Bool
is_two None = false
is_two (Some n) = n == 2

abbrev pub is_zero : Option ℕ → Bool
is_zero None = false
is_zero (Some n) = n == 0

-- marks take no column
abbrev pub is_mark : ℕ → Bool
is_mark c = is_zero (char_width false c)

-- a cluster is as wide as its letter: it takes two columns, or one
abbrev pub is_wide : Cluster → Bool
is_wide c = is_two (char_width false c.letter)

abbrev pub columns : Cluster → ℕ
columns c = if is_wide c then 2 else 1
