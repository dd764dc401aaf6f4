-- The clusters of a text in which escapes stand.
use Prim.Native.Char.{code}
use Rattle.std.specs.Prelude.{ℕ, ◌%◌, get_or, List, [], ◌∷◌, ◌++◌, Bool, true, false, not, ◌==◌, ◌&&◌, ◌||◌, nat_le, nat_lt, if◌then◌else◌, Option, None, Some}
use Rattle.utf8_own_characters.specs.declared.cluster.Cluster.{Cluster}
use Rattle.utf8_own_characters.specs.declared.listening.Listener.{Listener}
use Rattle.utf8_own_characters.specs.declared.listening.Listened.{Listened}
use Rattle.utf8_own_characters.specs.Cluster.{single, is_mark}
use Rattle.utf8_own_characters.specs.Decoding.{none, decoded}
use Rattle.utf8_own_characters.specs.Joining.{with_mark}
use Rattle.utf8_own_characters.specs.Reading.{list_of}

abbrev pub is_within : ℕ → ℕ → ℕ → Bool
is_within first last c = nat_le first c && nat_le c last

-- signs that show nothing and take no column: joiners, directions, marks of byte order
abbrev pub is_unseen : ℕ → Bool
is_unseen c = is_within 0x200B 0x200F c || is_within 0x202A 0x202E c || is_within 0x2060 0x206F c || (c == 0xFEFF)

abbrev pub is_letter_or_digit : ℕ → Bool
is_letter_or_digit c = is_within (code "A") (code "Z") c || is_within (code "a") (code "z") c || is_within (code "0") (code "9") c

-- marks come on a letter or digit of ASCII that is no part of an escape, and on all beyond ASCII
abbrev pub takes_marks : ℕ → Bool → Bool
takes_marks c is_plain = if nat_lt c 128 then is_plain && is_letter_or_digit c else true

-- a word in which a backslash stood may end in an escape's name
abbrev pub plain_after : ℕ → Bool → Bool
plain_after c is_plain =
    if c == code "\\" then false else
    if nat_le c (code " ") then true else is_plain || nat_le 128 c

abbrev pub first : Listener
first = record { part = none; held = None; is_plain = true }

abbrev pub going : Listener → Option Cluster → Listened
going l held = record { listener = record l { held = held }; done = None; byte = None }

-- a mark that stands on no letter is dropped
abbrev pub marked_on : Option Cluster → ℕ → Option Cluster
marked_on None m = None
marked_on (Some c) m = Some (with_mark c m)

abbrev pub hear_mark : Listener → ℕ → Listened
hear_mark l m = going l (marked_on l.held m)

abbrev pub hear_letter : Listener → ℕ → Listened
hear_letter l c = record {
  listener = record {
    part = l.part;
    held = if takes_marks c l.is_plain then Some (single c) else None;
    is_plain = plain_after c l.is_plain;
  };
  done = l.held;
  byte = if takes_marks c l.is_plain then None else Some (c % 128);
}

abbrev pub hear : Listener → ℕ → Listened
hear l c = if is_unseen c then going l l.held else if is_mark c then hear_mark l c else hear_letter l c

abbrev pub heard : Listener → Option ℕ → Listened
heard l None = going l l.held
heard l (Some c) = hear l c

abbrev pub read : Listener → ℕ → Listened
read l b = heard (record l { part = (decoded l.part b).part }) (decoded l.part b).character

-- ---- a character of two bytes, and a letter of three

-- the first begins a character of two, and the other goes it on
abbrev pub is_two : ℕ → ℕ → Bool
is_two a b = is_within 0xC0 0xDF a && is_within 0x80 0xBF b

abbrev pub begins_two : List ℕ → Bool
begins_two bytes = is_two (get_or bytes 0 0) (get_or bytes 1 0)

-- the first begins a character of three, and the others go one on
abbrev pub is_three : ℕ → ℕ → ℕ → Bool
is_three a b c = is_within 0xE0 0xEF a && is_within 0x80 0xBF b && is_within 0x80 0xBF c

abbrev pub begins_three : List ℕ → Bool
begins_three bytes = is_three (get_or bytes 0 0) (get_or bytes 1 0) (get_or bytes 2 0)

-- ---- a whole text

abbrev pub after : Listener → List ℕ → Listener
after l [] = l
after l (b ∷ bs) = after (read l b).listener bs

-- the clusters that end in it
abbrev pub done_in : Listener → List ℕ → List Cluster
done_in l [] = []
done_in l (b ∷ bs) = list_of (read l b).done ++ done_in (read l b).listener bs

-- its clusters on which marks may come
abbrev pub clusters_in : Listener → List ℕ → List Cluster
clusters_in l bytes = done_in l bytes ++ list_of (after l bytes).held
