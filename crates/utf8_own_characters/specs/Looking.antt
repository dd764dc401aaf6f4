-- What a page prints, at a first look.
use Rattle.std.specs.Prelude.{◌≡◌, ℕ, ◌%◌, ◌≤◌, List, [], ◌∷◌, length, get_or, Bool, true, false, not, ◌==◌, ◌&&◌, ◌||◌}
use Rattle.std.specs.Prelude.{nat_le, nat_lt, if◌then◌else◌, Option, None, Some}
use Rattle.unicode_width.specs.Width.{char_width}
use Rattle.utf8_own_characters.specs.declared.cluster.Cluster.{Cluster}
use Rattle.utf8_own_characters.specs.declared.counting.Count.{Count}
use Rattle.utf8_own_characters.specs.declared.listening.Listener.{Listener}
use Rattle.utf8_own_characters.specs.Cluster.{is_ascii, single}
use Rattle.utf8_own_characters.specs.Counting.{counted_within}
use Rattle.utf8_own_characters.specs.Decoding.{character_of, none, with_six}
use Rattle.utf8_own_characters.specs.Listening.{begins_three, is_within, plain_after, takes_marks}

-- a blank, or a hyphen that shows only where a line ends
abbrev pub is_gap : ℕ → Bool
is_gap c =
    (c == 0xA0) || (c == 0xAD) || is_within 0x2000 0x200A c || (c == 0x2028) || (c == 0x2029) || (c == 0x202F) || (c == 0x205F)

abbrev pub is_some_width : Option ℕ → Bool
is_some_width None = false
is_some_width (Some n) = nat_lt 0 n

abbrev pub takes_columns : ℕ → Bool
takes_columns c = is_some_width (char_width false c)

-- it is beyond ASCII, and shows something
abbrev pub takes_place : Cluster → Bool
takes_place c = not (is_ascii c) && (takes_columns c.letter && not (is_gap c.letter))

abbrev pub noted : ℕ → List Count → Option Cluster → List Count
noted room xs None = xs
noted room xs (Some c) = if takes_place c then counted_within room xs c else xs

-- how often each of these came that takes a place, in the order in which they came first
abbrev pub seen : ℕ → List Count → List Cluster → List Count
seen room xs [] = xs
seen room xs (c ∷ cs) = seen room (noted room xs (Some c)) cs

-- ---- bytes of ASCII that are looked at one after another

-- what is half read after one
abbrev pub after_byte : ℕ → Bool → Listener
after_byte b is_plain = record { part = none; held = if takes_marks b is_plain then Some (single b) else None; is_plain = plain_after b is_plain }

-- ---- letters that are looked at one after another

-- the number of a character of three bytes
abbrev pub code_of : ℕ → ℕ → ℕ → ℕ
code_of a b c = with_six (record { bits = with_six (record { bits = a % 16; left = 2 }) b; left = 1 }) c

-- a letter beyond signs that show nothing, no mark of byte order, that takes columns
abbrev pub is_placed : ℕ → Bool
is_placed c = nat_le 0x2070 c && not (c == 0xFEFF) && takes_columns c

-- three bytes are such a letter
pub record IsPlaced (a b c letter : ℕ) : Type 0 where
  pub is_character : character_of (code_of a b c) ≡ Some letter
  pub placed : is_placed letter ≡ true

-- and a text begins with it
pub record BeginsPlaced (bytes : List ℕ) (letter : ℕ) : Type 0 where
  pub long : 3 ≤ length bytes
  pub three : begins_three bytes ≡ true
  pub is_character : character_of (code_of (get_or bytes 0 0) (get_or bytes 1 0) (get_or bytes 2 0)) ≡ Some letter
  pub placed : is_placed letter ≡ true
