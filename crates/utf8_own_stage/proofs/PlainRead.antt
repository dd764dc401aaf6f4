-- What comes of a character of ASCII that is printed as it comes: what was held, and it, unless it is held.
use Prim.Native.Char as char
use Rattle.std.proofs.Common.{◌≡◌, ℕ, ◌%◌, ◌<◌, [], ◌∷◌, ◌++◌, Bool, true, false, not, ◌&&◌, ◌||◌, ◌==◌, nat_le, nat_lt, if◌then◌else◌, Option, None, Some, refl, ◌∙◌, ap, arith}
use Rattle.std.proofs.lemmas.Bool.{ltb-true}
use Rattle.std.proofs.lemmas.Bool.Decides.{nat_tests}
use Rattle.ucd_breaks.specs.LineBreak.{line_break}
use Rattle.unicode_width.specs.Width.{alone, char_width}
use Rattle.utf8_own_characters.specs.declared.cluster.Cluster.{Cluster}
use Rattle.utf8_own_characters.specs.declared.decoding.Decoded.{Decoded}
use Rattle.utf8_own_characters.specs.declared.listening.Listener.{Listener}
use Rattle.utf8_own_characters.specs.declared.listening.Listened.{Listened}
use Rattle.utf8_own_characters.specs.declared.table.Code.TheVariants.{One}
use Rattle.utf8_own_characters.specs.Breaking.{is_east_asian, is_korean, may_begin, may_break, may_end}
use Rattle.utf8_own_characters.specs.Cluster.{is_ascii, is_mark, is_same, is_two, is_wide, is_zero, single}
use Rattle.utf8_own_characters.specs.Decoding.{more, going, none}
use Rattle.utf8_own_characters.specs.Listening as listening
use Rattle.utf8_own_characters.specs.Listening.{hear, hear_letter, hear_mark, heard, is_unseen, plain_after, read, takes_marks}
use Rattle.utf8_own_characters.specs.Table.{Characters, code_at, place_of}
use Rattle.utf8_own_characters.proofs.Tests.{and_first, and_second, and_true, lt_so, not_true}
use Rattle.utf8_own_stage.specs.declared.points.Place.{Place}
use Rattle.utf8_own_stage.specs.declared.points.Point.TheVariants.{Nothing, Cut}
use Rattle.utf8_own_stage.specs.declared.points.Waiting.TheVariants as waiting
use Rattle.utf8_own_stage.specs.Coding.{coded, coded_by, put_at, said_cluster}
use Rattle.utf8_own_stage.specs.Letters.{is_quiet}
use Rattle.utf8_own_stage.specs.Plain.{held_of, holds_plain, is_plain, is_plain_cluster, is_ready_for, unheld}
use Rattle.utf8_own_stage.specs.Points.{newline, passed, read_as, text_of}
use Rattle.utf8_own_stage.proofs.Quiet.{quiet_passed, quiet_put}
use Rattle.utf8_own_stage.proofs.ReadAs.{ascii_read}

-- ---- the parts of a test

low : (b : ℕ) → is_plain b ≡ true → nat_lt b 128 ≡ true
low b e = and_first (nat_lt b 128) (not (b == newline)) (and_first (nat_lt b 128 && not (b == newline)) (not (b == char.code "\\")) e)

no_line : (b : ℕ) → is_plain b ≡ true → (b == newline) ≡ false
no_line b e = not_true (b == newline) (and_second (nat_lt b 128) (not (b == newline)) (and_first (nat_lt b 128 && not (b == newline)) (not (b == char.code "\\")) e))

no_slash : (b : ℕ) → is_plain b ≡ true → (b == char.code "\\") ≡ false
no_slash b e = not_true (b == char.code "\\") (and_second (nat_lt b 128 && not (b == newline)) (not (b == char.code "\\")) e)

quiet_so : (h : Option Cluster) (p : Place) → is_ready_for h p ≡ true → is_quiet p ≡ true
quiet_so h p e = and_first (is_quiet p) (nat_lt p.before 128) (and_first (is_quiet p && nat_lt p.before 128) (holds_plain h) e)

before_so : (h : Option Cluster) (p : Place) → is_ready_for h p ≡ true → nat_lt p.before 128 ≡ true
before_so h p e = and_second (is_quiet p) (nat_lt p.before 128) (and_first (is_quiet p && nat_lt p.before 128) (holds_plain h) e)

-- ---- between two of them no line is cut

two_by : (x y z : Bool) (w : ℕ) → z ≡ false → is_two (if x then (if y then Some 1 else None) else (if z then Some w else None)) ≡ false
two_by true true z w e = refl
two_by true false z w e = refl
two_by false y false w e = refl
two_by false y true w e = absurd (let no : true ≡ false = e in cc)

low_test : (c : ℕ) → c < 128 → nat_le 0xA0 c ≡ false
low_test c l = grind (arith, nat_tests)

low_narrow : (c : ℕ) → c < 128 → is_wide (single c) ≡ false
unfolding char_width
low_narrow c l = two_by (nat_lt c 0x7F) (nat_le 0x20 c) (nat_le 0xA0 c) (alone false c).0 (low_test c l)

no_break : (a b : ℕ) → nat_lt a 128 ≡ true → nat_lt b 128 ≡ true → may_break a b ≡ false
no_break a b p q =
    ap (λ (x : Bool). ((x && not (is_korean (line_break a))) || is_east_asian b) && may_end (line_break a) && may_begin (line_break b)) (low_narrow a (ltb-true a 128 p))
    ∙ ap (λ (x : Bool). (x && not (is_korean (line_break b))) && may_end (line_break a) && may_begin (line_break b)) (low_narrow b (ltb-true b 128 q))

pub plain_put : (p : Place) (b : ℕ) → is_ready_for None p ≡ true → is_plain b ≡ true → put_at p b (b ∷ []) ≡ b ∷ []
plain_put p b ready plain =
    quiet_put p b (b ∷ []) (quiet_so None p ready) (no_line b plain) (no_slash b plain)
    ∙ ap (λ (x : Bool). text_of waiting.Nothing (if x then Cut else Nothing) ++ (b ∷ [])) (no_break p.before b (before_so None p ready) (low b plain))

pub plain_passed : (p : Place) (b : ℕ) → is_ready_for None p ≡ true → is_plain b ≡ true → passed p b ≡ record p { before = b }
plain_passed p b ready plain = quiet_passed p b (quiet_so None p ready) (no_line b plain) (no_slash b plain)

pub same_byte : (b : ℕ) → is_plain b ≡ true → b % 128 ≡ b
same_byte b plain = let few = ltb-true b 128 (low b plain) in omega (arith, few)

-- ---- what is held

ascii_so : (c : Cluster) → is_plain_cluster c ≡ true → is_ascii c ≡ true
ascii_so c e = and_first (is_ascii c) (not (c.letter == newline)) (and_first (is_ascii c && not (c.letter == newline)) (not (c.letter == char.code "\\")) e)

plain_by : (x y z w : Bool) → x && y && z && w ≡ true → x && z && w ≡ true
plain_by true true true true e = refl
plain_by true true true false e = e
plain_by true true false w e = e
plain_by true false z w e = absurd (let no : false ≡ true = e in cc)
plain_by false y z w e = e

plain_letter : (c : Cluster) → is_plain_cluster c ≡ true → is_plain c.letter ≡ true
plain_letter c e = plain_by (nat_lt c.letter 128) (is_same c (single c.letter)) (not (c.letter == newline)) (not (c.letter == char.code "\\")) e

pub cluster_plain : (c : Cluster) (p : Place) → is_ready_for (Some c) p ≡ true → is_plain c.letter ≡ true
cluster_plain c p e = plain_letter c (and_second (is_quiet p && nat_lt p.before 128) (is_plain_cluster c) e)

pub cluster_coded : (t : Characters) (c : Cluster) (p : Place) → is_ready_for (Some c) p ≡ true → coded t c ≡ c.letter ∷ []
cluster_coded t c p e =
    ap (λ (x : Bool). coded_by (if x then Some (One c.letter) else code_at t (place_of t.narrow c) (place_of t.wide c)) c.letter)
    (ascii_so c (and_second (is_quiet p && nat_lt p.before 128) (is_plain_cluster c) e))

pub cluster_read : (c : Cluster) (p : Place) → is_ready_for (Some c) p ≡ true → read_as c ≡ c.letter
cluster_read c p e = ascii_read c (ascii_so c (and_second (is_quiet p && nat_lt p.before 128) (is_plain_cluster c) e))

pub cluster_said : (t : Characters) (c : Cluster) (p : Place) → is_ready_for (Some c) p ≡ true → said_cluster t p (Some c) ≡ put_at p c.letter (c.letter ∷ [])
cluster_said t c p e =
    ap (λ (n : ℕ). put_at p n (coded t c)) (cluster_read c p e)
    ∙ ap (put_at p c.letter) (cluster_coded t c p e)

pub none_ready : (h : Option Cluster) (p : Place) → is_ready_for h p ≡ true → is_ready_for None p ≡ true
none_ready h p e = and_true (is_quiet p && nat_lt p.before 128) true (and_first (is_quiet p && nat_lt p.before 128) (holds_plain h) e) refl

-- ---- what comes of one

not_unseen : (c : ℕ) → c < 128 → is_unseen c ≡ false
not_unseen c l = grind (arith, nat_tests)

zero_by : (x y z : Bool) (w : ℕ) → z ≡ false → is_zero (if x then (if y then Some 1 else None) else (if z then Some w else None)) ≡ false
zero_by true true z w e = refl
zero_by true false z w e = refl
zero_by false y false w e = refl
zero_by false y true w e = absurd (let no : true ≡ false = e in cc)

no_mark : (c : ℕ) → c < 128 → is_mark c ≡ false
unfolding char_width
no_mark c l = zero_by (nat_lt c 0x7F) (nat_le 0x20 c) (nat_le 0xA0 c) (alone false c).0 (low_test c l)

letter_heard : (l : Listener) (c : ℕ) → c < 128 → hear l c ≡ hear_letter l c
letter_heard l c p =
    ap (λ (x : Bool). if x then listening.going l l.held else (if is_mark c then hear_mark l c else hear_letter l c)) (not_unseen c p)
    ∙ ap (λ (x : Bool). if x then hear_mark l c else hear_letter l c) (no_mark c p)

alone_read : (l : Listener) (b : ℕ) → b < 128 → read l b ≡ hear (record l { part = none }) b
alone_read l b h =
    ap (λ (x : Bool). let d : Decoded = (if x then record { part = none; character = Some b } else
    (if nat_lt b 192 then more l.part b else (if nat_lt b 224 then going (b % 32) 1 else (if nat_lt b 240 then going (b % 16) 2 else
    (if nat_lt b 248 then going (b % 8) 3 else going 0 0))))) in heard (record l { part = d.part }) d.character) (lt_so b 128 h)

abbrev pub comes : Listener → ℕ → Listened
comes l b = record {
  listener = record { part = none; held = held_of b (takes_marks b l.is_plain); is_plain = plain_after b l.is_plain };
  done = l.held;
  byte = unheld b (takes_marks b l.is_plain);
}

pub plain_read : (l : Listener) (b : ℕ) → is_plain b ≡ true → read l b ≡ comes l b
plain_read l b plain =
    let few = ltb-true b 128 (low b plain) in
    alone_read l b few
    ∙ letter_heard (record l { part = none }) b few
    ∙ ap (λ (n : ℕ). record {
      listener = record { part = none; held = held_of b (takes_marks b l.is_plain); is_plain = plain_after b l.is_plain };
      done = l.held;
      byte = if takes_marks b l.is_plain then None else Some n;
    }) (same_byte b plain)
