-- What frames and rules are drawn with (Lesk, "Global options"; tbl(1), "Region options"): a byte for a rule, one for a bar, and one for each
-- way in which they meet.
use Rattle.std.specs.Prelude.{ℕ, Bool, true, false}
use Prim.Native.Char.{code}
use Rattle.tbl_table.specs.declared.signs.Joints.{Joints}
use Rattle.tbl_table.specs.declared.signs.Signs.{Signs}

abbrev pub alike : ℕ → Joints
alike b = record { begins = b; crosses = b; ends = b }

-- in ASCII
abbrev pub ascii : Signs
ascii = record {
  rule = code "-";
  bar = code "|";
  top = alike (code "+");
  middle = alike (code "+");
  bottom = alike (code "+");
}

-- where bars go up or down, or both
abbrev pub joints : Signs → Bool → Bool → Joints
joints s false true = s.top
joints s true false = s.bottom
joints s true true = s.middle
joints s false false = s.middle

-- and a rule to the left or to the right, or both; where it goes to neither, a bar
abbrev pub joint_in : Signs → Joints → Bool → Bool → ℕ
joint_in s j false false = s.bar
joint_in s j false true = j.begins
joint_in s j true false = j.ends
joint_in s j true true = j.crosses

abbrev pub joint : Signs → Bool → Bool → Bool → Bool → ℕ
joint s up down left right = joint_in s (joints s up down) left right
