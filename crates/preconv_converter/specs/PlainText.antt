-- Text that goes out as it is.
use Prim.Native.Char.{code}
use Rattle.std.specs.Prelude.{ℕ, List, [], ◌∷◌, Bool, true, not, ◌==◌, ◌&&◌}
use Rattle.preconv_lines.specs.Lines.{is_control}
use Rattle.preconv_lines.specs.Offering.{may_pass}

-- a byte of ASCII that is neither DEL, a carriage return nor a backslash, and at the beginning of a line no
-- control character
abbrev pub goes_on : Bool → ℕ → Bool
goes_on starts b = may_pass b && not (b == code "\\") && not (starts && is_control b)

-- from the beginning of a line, or from the midst of one
abbrev pub is_plain_from : Bool → List ℕ → Bool
is_plain_from starts [] = true
is_plain_from starts (b ∷ bs) = goes_on starts b && is_plain_from (b == code "\n") bs

-- lines of ASCII text without backslashes and control lines
abbrev pub is_plain_text : List ℕ → Bool
is_plain_text text = is_plain_from true text
