-- Of three bytes that are a letter comes the letter: what was held is done, and it is held.
use lib.Utf8.{scalar}
use Prim.Native.Char as char
use Rattle.std.proofs.Common.{◌≡◌, ℕ, ◌+◌, ◌*◌, ◌%◌, ◌≤◌, List, length, get_or, Bool, true, false, ◌&&◌, ◌||◌, ◌==◌, nat_le, nat_lt, if◌then◌else◌, None, Some, refl, sym, ◌∙◌, ap, arith}
use Rattle.std.proofs.lemmas.Bool.Decides.{nat_tests}
use Rattle.utf8_own_characters.specs.declared.decoding.Part.{Part}
use Rattle.utf8_own_characters.specs.declared.decoding.Decoded.{Decoded}
use Rattle.utf8_own_characters.specs.declared.listening.Listener.{Listener}
use Rattle.utf8_own_characters.specs.declared.listening.Listened.{Listened}
use Rattle.utf8_own_characters.specs.Cluster.{is_mark, single}
use Rattle.utf8_own_characters.specs.Decoding.{none}
use Rattle.utf8_own_characters.specs.Listening.{going, hear, hear_letter, hear_mark, heard, is_three, is_unseen, is_within, plain_after, read, takes_marks}
use Rattle.utf8_own_characters.proofs.Tests.{and_first, and_second}
use Rattle.utf8_own_characters.proofs.TextsRead.{lead_three, tail}
use Rattle.utf8_own_stage.specs.Letters.{Begins, IsLetter, held}

low_of : (first end b : ℕ) → is_within first end b ≡ true → first ≤ b
low_of first end b e = grind (arith, nat_tests)

high_of : (first end b : ℕ) → is_within first end b ≡ true → b ≤ end
high_of first end b e = grind (arith, nat_tests)

-- this is half read
part_read : ℕ → ℕ → Listener → Listener
part_read bits left l = record l { part = record { bits = bits; left = left } }

first_read : (l : Listener) (a : ℕ) → is_within 0xE0 0xEF a ≡ true → read l a ≡ going (part_read (a % 16) 2 l) l.held
unfolding part_read
first_read l a e =
    let low = low_of 0xE0 0xEF a e in
    let high = high_of 0xE0 0xEF a e in
    ap (λ (d : Decoded). heard (record l { part = d.part }) d.character) (lead_three l.part a low (omega (arith, high)))

second_read : (l : Listener) (bits b : ℕ) → is_within 0x80 0xBF b ≡ true
    → read (part_read bits 2 l) b ≡ going (part_read (bits % 65536 * 64 + b % 64) 1 l) l.held
unfolding part_read
second_read l bits b e =
    let low = low_of 0x80 0xBF b e in
    let high = high_of 0x80 0xBF b e in
    ap (λ (d : Decoded). heard (record l { part = d.part }) d.character) (tail (record { bits = bits; left = 2 }) b low (omega (arith, high)))

-- ---- a letter beyond ASCII

not_backslash : (c : ℕ) → 128 ≤ c → (c == char.code "\\") ≡ false
not_backslash c beyond = grind (arith, nat_tests)

not_low : (c : ℕ) → 128 ≤ c → nat_le c (char.code " ") ≡ false
not_low c beyond = grind (arith, nat_tests)

not_ascii : (c : ℕ) → 128 ≤ c → nat_lt c 128 ≡ false
not_ascii c beyond = grind (arith, nat_tests)

is_beyond : (c : ℕ) → 128 ≤ c → nat_le 128 c ≡ true
is_beyond c beyond = grind (arith, nat_tests)

or_is : (p x : Bool) → x ≡ true → p || x ≡ true
or_is true x e = refl
or_is false x e = e

marks_come : (c : ℕ) (p : Bool) → 128 ≤ c → takes_marks c p ≡ true
marks_come c p beyond = rw (not_ascii c beyond) refl

plain_then : (c : ℕ) (p : Bool) → 128 ≤ c → plain_after c p ≡ true
plain_then c p beyond = rw (not_backslash c beyond) (rw (not_low c beyond) (or_is p (nat_le 128 c) (is_beyond c beyond)))

-- by whether marks come on it, and whether it is plain
held_by : (l : Listener) (c : ℕ) (x y : Bool) → l.part ≡ none → x ≡ true → y ≡ true → ◌≡◌ {A = Listened}
    (record { listener = record { part = l.part; held = if x then Some (single c) else None; is_plain = y }; done = l.held; byte = if x then None else Some (c % 128) })
    (held l c)
held_by l c true true e p q = ap (λ (z : Part). record { listener = record { part = z; held = Some (single c); is_plain = true }; done = l.held; byte = None }) e
held_by l c true false e p q = absurd (let no : false ≡ true = q in cc)
held_by l c false y e p q = absurd (let no : false ≡ true = p in cc)

letter_heard : (l : Listener) (c : ℕ) → l.part ≡ none → 128 ≤ c → hear_letter l c ≡ held l c
letter_heard l c e beyond = held_by l c (takes_marks c l.is_plain) (plain_after c l.is_plain) e (marks_come c l.is_plain beyond) (plain_then c l.is_plain beyond)

heard_as : (l : Listener) (c : ℕ) (x y : Bool) → x ≡ false → y ≡ false → (if x then going l l.held else (if y then hear_mark l c else hear_letter l c)) ≡ hear_letter l c
heard_as l c true y p q = absurd (let no : true ≡ false = p in cc)
heard_as l c false true p q = absurd (let no : true ≡ false = q in cc)
heard_as l c false false p q = refl

letter_comes : (l : Listener) (code c : ℕ) → l.part ≡ none → IsLetter code c → hear l code ≡ held l code
letter_comes l code c e is = heard_as l code (is_unseen code) (is_mark code) is.seen is.unmarked ∙ letter_heard l code e is.beyond

third_read : (l : Listener) (bits b code c : ℕ) → is_within 0x80 0xBF b ≡ true → bits % 65536 * 64 + b % 64 ≡ code → IsLetter code c
    → read (part_read bits 1 l) b ≡ held l code
unfolding part_read
third_read l bits b code c e same is =
    let low = low_of 0x80 0xBF b e in
    let high = high_of 0x80 0xBF b e in
    ap (λ (d : Decoded). heard (record l { part = d.part }) d.character) (tail (record { bits = bits; left = 1 }) b low (omega (arith, high)))
    ∙ ap (λ (n : ℕ). heard (record l { part = none }) (if scalar n then Some n else None)) same
    ∙ ap (λ (x : Bool). heard (record l { part = none }) (if x then Some code else None)) is.scalar
    ∙ letter_comes (record l { part = none }) code c refl is

number : (a b d code : ℕ) → code ≡ (a % 16) * 4096 + (b % 64) * 64 + d % 64 → ((a % 16) % 65536 * 64 + b % 64) % 65536 * 64 + d % 64 ≡ code
number a b d code e = omega (arith, e)

three_read : (l : Listener) (a b d code c : ℕ) → is_three a b d ≡ true → code ≡ (a % 16) * 4096 + (b % 64) * 64 + d % 64 → IsLetter code c
    → read (read (read l a).listener b).listener d ≡ held l c
unfolding part_read
three_read l a b d code c three e is =
    let both = and_first (is_within 0xE0 0xEF a && is_within 0x80 0xBF b) (is_within 0x80 0xBF d) three in
    ap (λ (x : Listened). read (read x.listener b).listener d) (first_read l a (and_first (is_within 0xE0 0xEF a) (is_within 0x80 0xBF b) both))
    ∙ ap (λ (x : Listened). read x.listener d) (second_read l (a % 16) b (and_second (is_within 0xE0 0xEF a) (is_within 0x80 0xBF b) both))
    ∙ third_read l ((a % 16) % 65536 * 64 + b % 64) d code c (and_second (is_within 0xE0 0xEF a && is_within 0x80 0xBF b) (is_within 0x80 0xBF d) three) (number a b d code e) is
    ∙ ap (held l) (sym is.same)

pub begins : (bs : List ℕ) (code c : ℕ) → 3 ≤ length bs → is_three (get_or bs 0 0) (get_or bs 1 0) (get_or bs 2 0) ≡ true
    → code ≡ (get_or bs 0 0 % 16) * 4096 + (get_or bs 1 0 % 64) * 64 + get_or bs 2 0 % 64 → IsLetter code c → Begins bs c
begins bs code c long three e is =
    let same = is.same in
    let beyond = is.beyond in
    record {
      long = long;
      three = three;
      beyond = omega (arith, same, beyond);
      letter = λ l. three_read l (get_or bs 0 0) (get_or bs 1 0) (get_or bs 2 0) code c three e is;
    }
