-- Bytes of ASCII that are looked at one after another: what ends with one that is not the first takes no place.
use Rattle.std.proofs.Common.{◌≡◌, ℕ, ◌+◌, ◌%◌, ◌<◌, List, [], ◌∷◌, ◌++◌, length, take, get_or, Bool, true, false, nat_le, nat_lt, if◌then◌else◌, Option, None, Some, refl, sym, ◌∙◌, ap, arith}
use Rattle.std.proofs.lemmas.Bool.Decides.{nat_tests}
use Rattle.std.proofs.lemmas.List.{take_more}
use Rattle.unicode_width.specs.Width.{alone, char_width}
use Rattle.utf8_own_characters.specs.declared.cluster.Cluster.{Cluster}
use Rattle.utf8_own_characters.specs.declared.counting.Count.{Count}
use Rattle.utf8_own_characters.specs.declared.decoding.Decoded.{Decoded}
use Rattle.utf8_own_characters.specs.declared.listening.Listener.{Listener}
use Rattle.utf8_own_characters.specs.declared.listening.Listened.{Listened}
use Rattle.utf8_own_characters.specs.Cluster.{is_mark, is_zero, single}
use Rattle.utf8_own_characters.specs.Decoding.{more, going, none}
use Rattle.utf8_own_characters.specs.Listening as listening
use Rattle.utf8_own_characters.specs.Listening.{after, done_in, hear, hear_letter, hear_mark, heard, is_unseen, read, takes_marks}
use Rattle.utf8_own_characters.specs.Looking.{after_byte, noted, seen}
use Rattle.utf8_own_characters.specs.Reading.{list_of}
use Rattle.utf8_own_characters.proofs.Letters.{after-append, done-append, prefix_one, seen-append, seen_one}
use Rattle.utf8_own_characters.proofs.Tests.{lt_so, same_is}

-- ---- what comes of one

low_test : (c : ℕ) → c < 128 → nat_le 0xA0 c ≡ false
low_test c l = grind (arith, nat_tests)

not_unseen : (c : ℕ) → c < 128 → is_unseen c ≡ false
not_unseen c l = grind (arith, nat_tests)

zero_by : (x y z : Bool) (w : ℕ) → z ≡ false → is_zero (if x then (if y then Some 1 else None) else (if z then Some w else None)) ≡ false
zero_by true true z w e = refl
zero_by true false z w e = refl
zero_by false y false w e = refl
zero_by false y true w e = absurd (let no : true ≡ false = e in cc)

no_mark : (c : ℕ) → c < 128 → is_mark c ≡ false
unfolding char_width
no_mark c l = zero_by (nat_lt c 0x7F) (nat_le 0x20 c) (nat_le 0xA0 c) (alone false c).0 (low_test c l)

letter_heard : (l : Listener) (c : ℕ) → c < 128 → hear l c ≡ hear_letter l c
letter_heard l c p =
    ap (λ (x : Bool). if x then listening.going l l.held else (if is_mark c then hear_mark l c else hear_letter l c)) (not_unseen c p)
    ∙ ap (λ (x : Bool). if x then hear_mark l c else hear_letter l c) (no_mark c p)

byte_read : (l : Listener) (b : ℕ) → b < 128 → read l b ≡ hear_letter (record l { part = none }) b
byte_read l b h =
    ap (λ (x : Bool). let d : Decoded = (if x then record { part = none; character = Some b } else
    (if nat_lt b 192 then more l.part b else (if nat_lt b 224 then going (b % 32) 1 else (if nat_lt b 240 then going (b % 16) 2 else
    (if nat_lt b 248 then going (b % 8) 3 else going 0 0))))) in heard (record l { part = d.part }) d.character) (lt_so b 128 h)
    ∙ letter_heard (record l { part = none }) b h

-- ---- it takes no place

none_noted : (room : ℕ) (xs : List Count) (b : ℕ) (x : Bool) → b < 128 → noted room xs (if x then Some (single b) else None) ≡ xs
none_noted room xs b true low = rw (lt_so b 128 low, same_is b b refl) refl
none_noted room xs b false low = refl

-- ---- the first, and one more

pub first_heard : (l : Listener) (bs : List ℕ) → 0 < length bs → get_or bs 0 0 < 128 → after l (take 1 bs) ≡ after_byte (get_or bs 0 0) l.is_plain
first_heard l bs some low = ap (after l) (prefix_one bs some) ∙ ap (λ (x : Listened). x.listener) (byte_read l (get_or bs 0 0) low)

pub first_seen : (room : ℕ) (l : Listener) (bs : List ℕ) (xs ys : List Count) → 0 < length bs → get_or bs 0 0 < 128
    → ys ≡ noted room xs l.held → ys ≡ seen room xs (done_in l (take 1 bs))
first_seen room l bs xs ys some low counted =
    counted
    ∙ seen_one room xs l.held
    ∙ ap (λ (x : Listened). seen room xs (list_of x.done ++ [])) (sym (byte_read l (get_or bs 0 0) low))
    ∙ ap (λ (zs : List ℕ). seen room xs (done_in l zs)) (sym (prefix_one bs some))

pub more_heard : (l : Listener) (bs : List ℕ) (n b : ℕ) (p : Bool) → n < length bs → get_or bs n 0 < 128 → after l (take n bs) ≡ after_byte b p
    → after l (take (n + 1) bs) ≡ after_byte (get_or bs n 0) (after_byte b p).is_plain
more_heard l bs n b p inside low so =
    let one : List ℕ = get_or bs n 0 ∷ [] in
    ap (after l) (take_more bs n 0 inside)
    ∙ after-append l (take n bs) one
    ∙ ap (λ (m : Listener). after m one) so
    ∙ ap (λ (x : Listened). x.listener) (byte_read (after_byte b p) (get_or bs n 0) low)

pub more_seen : (room : ℕ) (l : Listener) (bs : List ℕ) (n b : ℕ) (p : Bool) (xs ys : List Count) → n < length bs → get_or bs n 0 < 128 → b < 128
    → after l (take n bs) ≡ after_byte b p → ys ≡ seen room xs (done_in l (take n bs)) → ys ≡ seen room xs (done_in l (take (n + 1) bs))
more_seen room l bs n b p xs ys inside low before so saw =
    let one : List ℕ = get_or bs n 0 ∷ [] in
    let held = (after_byte b p).held in
    saw
    ∙ sym (none_noted room (seen room xs (done_in l (take n bs))) b (takes_marks b p) before)
    ∙ seen_one room (seen room xs (done_in l (take n bs))) held
    ∙ sym (seen-append room xs (done_in l (take n bs)) (list_of held ++ []))
    ∙ ap (λ (x : Listened). seen room xs (done_in l (take n bs) ++ (list_of x.done ++ []))) (sym (byte_read (after_byte b p) (get_or bs n 0) low))
    ∙ ap (λ (m : Listener). seen room xs (done_in l (take n bs) ++ done_in m one)) (sym so)
    ∙ ap (seen room xs) (sym (done-append l (take n bs) one) ∙ ap (done_in l) (sym (take_more bs n 0 inside)))
