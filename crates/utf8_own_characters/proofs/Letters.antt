-- A character of two bytes or three is read at once: with those before its last byte nothing ends.
use Rattle.std.proofs.Common.{◌≡◌, ℕ, ◌%◌, ◌≤◌, ◌<◌, List, [], ◌∷◌, ◌++◌, ◌+◌, length, take, drop, get_or, Bool, true, false, ◌&&◌, nat_le, nat_lt, if◌then◌else◌, Option, None, Some, refl, sym, ◌∙◌, ap, append-nil, append_assoc, arith}
use Rattle.std.proofs.lemmas.Bool.Decides.{nat_tests}
use Rattle.std.proofs.lemmas.List.{drop-drop, take-append-drop, take-take}
use Rattle.utf8_own_characters.specs.declared.decoding.Part.{Part}
use Rattle.utf8_own_characters.specs.declared.decoding.Decoded.{Decoded}
use Rattle.utf8_own_characters.specs.declared.listening.Listener.{Listener}
use Rattle.utf8_own_characters.specs.declared.listening.Listened.{Listened}
use Rattle.utf8_own_characters.specs.Decoding.{character_of, decoded, none, with_six}
use Rattle.utf8_own_characters.specs.Listening.{after, done_in, going, hear, heard, is_three, is_two, is_within, read}
use Rattle.utf8_own_characters.specs.Looking.{code_of, noted, seen}
use Rattle.utf8_own_characters.specs.Reading.{list_of}
use Rattle.utf8_own_characters.specs.declared.cluster.Cluster.{Cluster}
use Rattle.utf8_own_characters.specs.declared.counting.Count.{Count}
use Rattle.utf8_own_characters.proofs.Tests.{and_first, and_second}
use Rattle.utf8_own_characters.proofs.TextsRead.{lead_three, lead_two, tail}

-- ---- what comes of bytes

low_of : (first end b : ℕ) → is_within first end b ≡ true → first ≤ b
low_of first end b e = grind (arith, nat_tests)

high_of : (first end b : ℕ) → is_within first end b ≡ true → b ≤ end
high_of first end b e = grind (arith, nat_tests)

-- nothing, and the part is this
quiet : Part → Listener → Listened
quiet p l = going (record l { part = p }) l.held

first_quiet : (l : Listener) (a : ℕ) → is_within 0xE0 0xEF a ≡ true → read l a ≡ quiet (record { bits = a % 16; left = 2 }) l
unfolding quiet
first_quiet l a e =
    let low = low_of 0xE0 0xEF a e in
    let high = high_of 0xE0 0xEF a e in
    ap (λ (d : Decoded). heard (record l { part = d.part }) d.character) (lead_three l.part a low (omega (arith, high)))

second_quiet : (l : Listener) (bits b : ℕ) → l.part ≡ record { bits = bits; left = 2 } → is_within 0x80 0xBF b ≡ true
    → read l b ≡ quiet (record { bits = with_six (record { bits = bits; left = 2 }) b; left = 1 }) l
unfolding quiet
second_quiet l bits b is e =
    let low = low_of 0x80 0xBF b e in
    let high = high_of 0x80 0xBF b e in
    ap (λ (d : Decoded). heard (record l { part = d.part }) d.character)
    (ap (λ (p : Part). decoded p b) is ∙ tail (record { bits = bits; left = 2 }) b low (omega (arith, high)))

pair_quiet : (l : Listener) (a b : ℕ) → is_two a b ≡ true → read l a ≡ going (record l { part = record { bits = a % 32; left = 1 } }) l.held
pair_quiet l a b two =
    let first = and_first (is_within 0xC0 0xDF a) (is_within 0x80 0xBF b) two in
    let low = low_of 0xC0 0xDF a first in
    let high = high_of 0xC0 0xDF a first in
    ap (λ (d : Decoded). heard (record l { part = d.part }) d.character) (lead_two l.part a low (omega (arith, high)))

-- with the first two bytes of a letter nothing ends
pub record NothingEnds (l : Listener) (a b : ℕ) : Type 0 where
  pub one : Listener
  pub two : Listener
  pub first : read l a ≡ going one one.held
  pub second : read one b ≡ going two two.held

pub three_quiet : (l : Listener) (a b c : ℕ) → is_three a b c ≡ true → NothingEnds l a b
unfolding quiet
three_quiet l a b c three =
    let both = and_first (is_within 0xE0 0xEF a && is_within 0x80 0xBF b) (is_within 0x80 0xBF c) three in
    let u : Listener = record l { part = record { bits = a % 16; left = 2 } } in
    record {
      one = u;
      two = record u { part = record { bits = with_six u.part b; left = 1 } };
      first = first_quiet l a (and_first (is_within 0xE0 0xEF a) (is_within 0x80 0xBF b) both);
      second = second_quiet u (a % 16) b refl (and_second (is_within 0xE0 0xEF a) (is_within 0x80 0xBF b) both);
    }

-- a letter is heard with its last byte
pub three_heard : (l : Listener) (a b c letter : ℕ) → is_three a b c ≡ true → character_of (code_of a b c) ≡ Some letter
    → read (read (read l a).listener b).listener c ≡ hear (record l { part = none }) letter
unfolding quiet
three_heard l a b c letter three is =
    let A = is_within 0xE0 0xEF a in
    let B = is_within 0x80 0xBF b in
    let C = is_within 0x80 0xBF c in
    let both = and_first (A && B) C three in
    let low = low_of 0x80 0xBF c (and_second (A && B) C three) in
    let high = high_of 0x80 0xBF c (and_second (A && B) C three) in
    let u : Listener = record l { part = record { bits = a % 16; left = 2 } } in
    let p : Part = record { bits = with_six (record { bits = a % 16; left = 2 }) b; left = 1 } in
    let v : Listener = record u { part = p } in
    ap (λ (x : Listened). read (read x.listener b).listener c) (first_quiet l a (and_first A B both))
    ∙ ap (λ (x : Listened). read x.listener c) (second_quiet u (a % 16) b refl (and_second A B both))
    ∙ ap (λ (d : Decoded). heard (record v { part = d.part }) d.character) (tail p c low (omega (arith, high)))
    ∙ ap (λ (o : Option ℕ). heard (record v { part = none }) o) is

-- ---- so with a letter that ends which ends with its last byte

pub three_done : (l : Listener) (a b c : ℕ) → is_three a b c ≡ true
    → done_in l (a ∷ b ∷ c ∷ []) ≡ list_of (read (read (read l a).listener b).listener c).done ++ []
three_done l a b c three =
    let q = three_quiet l a b c three in
    ap (λ (x : Listened). list_of x.done ++ done_in x.listener (b ∷ c ∷ [])) q.first
    ∙ ap (λ (x : Listened). list_of x.done ++ (list_of (read x.listener c).done ++ [])) q.second
    ∙ ap (λ (x : Listened). list_of (read x.listener c).done ++ []) (sym q.second)
    ∙ ap (λ (x : Listened). list_of (read (read x.listener b).listener c).done ++ []) (sym q.first)

two_done : (l : Listener) (a b : ℕ) → is_two a b ≡ true → done_in l (a ∷ b ∷ []) ≡ list_of (read (read l a).listener b).done ++ []
two_done l a b two =
    let q = pair_quiet l a b two in
    ap (λ (x : Listened). list_of x.done ++ done_in x.listener (b ∷ [])) q
    ∙ ap (λ (x : Listened). list_of (read x.listener b).done ++ []) (sym q)

pub seen_one : (room : ℕ) (xs : List Count) (done : Option Cluster) → noted room xs done ≡ seen room xs (list_of done ++ [])
seen_one room xs None = refl
seen_one room xs (Some c) = refl

pub prefix_three : (bs : List ℕ) → 3 ≤ length bs → take 3 bs ≡ get_or bs 0 0 ∷ get_or bs 1 0 ∷ get_or bs 2 0 ∷ []
prefix_three [] l = absurd (omega arith)
prefix_three (a ∷ []) l = absurd (omega arith)
prefix_three (a ∷ b ∷ []) l = absurd (omega arith)
prefix_three (a ∷ b ∷ c ∷ bs) l = refl

pub prefix_two : (bs : List ℕ) → 2 ≤ length bs → take 2 bs ≡ get_or bs 0 0 ∷ get_or bs 1 0 ∷ []
prefix_two [] l = absurd (omega arith)
prefix_two (a ∷ []) l = absurd (omega arith)
prefix_two (a ∷ b ∷ bs) l = refl

pub prefix_one : (bs : List ℕ) → 1 ≤ length bs → take 1 bs ≡ get_or bs 0 0 ∷ []
prefix_one [] l = absurd (omega arith)
prefix_one (a ∷ bs) l = refl

pub pair_noted : (room : ℕ) (xs : List Count) (l : Listener) (bs : List ℕ) (x : Listened) → 2 ≤ length bs
    → is_two (get_or bs 0 0) (get_or bs 1 0) ≡ true → x ≡ read (read l (get_or bs 0 0)).listener (get_or bs 1 0)
    → noted room xs x.done ≡ seen room xs (done_in l (take 2 bs))
pair_noted room xs l bs x long two is =
    let a = get_or bs 0 0 in
    let b = get_or bs 1 0 in
    ap (λ (y : Listened). noted room xs y.done) is
    ∙ seen_one room xs (read (read l a).listener b).done
    ∙ ap (seen room xs) (sym (two_done l a b two) ∙ ap (done_in l) (sym (prefix_two bs long)))

pub byte_noted : (room : ℕ) (xs : List Count) (l : Listener) (bs : List ℕ) (x : Listened) → 1 ≤ length bs
    → x ≡ read l (get_or bs 0 0) → noted room xs x.done ≡ seen room xs (done_in l (take 1 bs))
byte_noted room xs l bs x some is =
    ap (λ (y : Listened). noted room xs y.done) is
    ∙ seen_one room xs (read l (get_or bs 0 0)).done
    ∙ ap (λ (zs : List ℕ). seen room xs (done_in l zs)) (sym (prefix_one bs some))

-- ---- more of a text was looked at: of what is left after n bytes, the first j of k

pub after-append : (l : Listener) (xs ys : List ℕ) → after l (xs ++ ys) ≡ after (after l xs) ys
after-append l [] ys = refl
after-append l (x ∷ xs) ys = after-append (read l x).listener xs ys

pub done-append : (l : Listener) (xs ys : List ℕ) → done_in l (xs ++ ys) ≡ done_in l xs ++ done_in (after l xs) ys
done-append l [] ys = refl
done-append l (x ∷ xs) ys =
    ap (λ (z : List Cluster). list_of (read l x).done ++ z) (done-append (read l x).listener xs ys)
    ∙ sym (append_assoc (list_of (read l x).done) (done_in (read l x).listener xs) (done_in (after (read l x).listener xs) ys))

pub seen-append : (room : ℕ) (counts : List Count) (cs ds : List Cluster) → seen room counts (cs ++ ds) ≡ seen room (seen room counts cs) ds
seen-append room counts [] ds = refl
seen-append room counts (c ∷ cs) ds = seen-append room (noted room counts (Some c)) cs ds

-- what was looked at, and what is left then
pub parted : (bs : List ℕ) (n k j : ℕ) → j ≤ k → take j (take k (drop n bs)) ++ drop (n + j) bs ≡ drop n bs
parted bs n k j few =
    ap (λ (zs : List ℕ). zs ++ drop (n + j) bs) (take-take j k (drop n bs) few)
    ∙ ap (λ (zs : List ℕ). take j (drop n bs) ++ zs) (sym (drop-drop j n bs))
    ∙ take-append-drop j (drop n bs)

pub more_after : (l m : Listener) (bs : List ℕ) (n k j : ℕ) → j ≤ k → m ≡ after l (take j (take k (drop n bs)))
    → after m (drop (n + j) bs) ≡ after l (drop n bs)
more_after l m bs n k j few listened =
    ap (λ (z : Listener). after z (drop (n + j) bs)) listened
    ∙ sym (after-append l (take j (take k (drop n bs))) (drop (n + j) bs))
    ∙ ap (after l) (parted bs n k j few)

pub more_seen : (room : ℕ) (l m : Listener) (bs : List ℕ) (n k j : ℕ) (xs ys : List Count) → j ≤ k → m ≡ after l (take j (take k (drop n bs)))
    → ys ≡ seen room xs (done_in l (take j (take k (drop n bs))))
    → seen room ys (done_in m (drop (n + j) bs)) ≡ seen room xs (done_in l (drop n bs))
more_seen room l m bs n k j xs ys few listened saw =
    let zs = take j (take k (drop n bs)) in
    let rest = drop (n + j) bs in
    ap (λ (z : Listener). seen room ys (done_in z rest)) listened
    ∙ ap (λ (z : List Count). seen room z (done_in (after l zs) rest)) saw
    ∙ sym (seen-append room xs (done_in l zs) (done_in (after l zs) rest))
    ∙ ap (seen room xs) (sym (done-append l zs rest) ∙ ap (done_in l) (parted bs n k j few))
