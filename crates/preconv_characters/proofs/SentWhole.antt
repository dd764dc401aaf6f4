-- A character that goes out itself, and one that goes out as the byte of a table, may go out as it is.
use Prim.Native.Char.{code}
use Rattle.std.proofs.Common.{◌≡◌, ℕ, ◌+◌, ◌/◌, ◌%◌, ◌≤◌, [], ◌∷◌, Bool, true, false, nat_lt, nat_le, ◌==◌, ◌||◌, if◌then◌else◌, Option, None, Some, codes, refl, sym, ◌∙◌, ap, arith}
use Rattle.std.proofs.lemmas.Bool.{le-leb}
use Rattle.std.proofs.lemmas.Bool.Decides.{nat_tests}
use Rattle.std.proofs.Math.Utf8.{scalar}
use Rattle.std.specs.Char.{encode_utf8}
use Rattle.utf8_characters.specs.Tables.{character_of}
use Rattle.utf8_characters.proofs.Laws.{character_back}
use Rattle.preconv_characters.specs.declared.target.Target.{Target}
use Rattle.preconv_characters.specs.declared.target.Target.TheVariants.{Ascii, Bytes, Utf8}
use Rattle.preconv_characters.specs.Likeness.{ascii_like, beyond_like, byte_or, cut, likeness}
use Rattle.preconv_characters.specs.Saying.{all_sent, is_some, may_go_out, sent}
use Rattle.preconv_characters.specs.Targets.{byte_in_force, is_utf8, itself, shown}

pub sent_is : (e : Target) (b : ℕ) → may_go_out e b ≡ true → sent e b ≡ b
sent_is e b p = ap (λ (x : Bool). if x then b else code "?") p

or_true : (x y : Bool) → y ≡ true → x || y ≡ true
or_true true y p = refl
or_true false y p = p

beyond : (c : ℕ) → 128 ≤ c → nat_lt c 128 ≡ false
beyond c l = grind (arith, nat_tests)

-- ---- in UTF-8

goes : (b : ℕ) → 128 ≤ b → may_go_out Utf8 b ≡ true
goes b l = or_true (nat_lt b 127) (nat_le 128 b) (le-leb 128 b l)

high : (b : ℕ) → 128 ≤ b → sent Utf8 b ≡ b
high b l = sent_is Utf8 b (goes b l)

shown_goes : (x : Bool) (c : ℕ) → 128 ≤ c → may_go_out Utf8 (if x then c else code "?") ≡ true
shown_goes true c l = goes c l
shown_goes false c l = refl

sent_by : (x y z : Bool) (d : ℕ) → may_go_out Utf8 d ≡ true
    → all_sent Utf8 (if x then d ∷ [] else (if y then (192 + d / 64) ∷ (128 + d % 64) ∷ [] else
    (if z then (224 + d / 4096) ∷ (128 + (d / 64) % 64) ∷ (128 + d % 64) ∷ [] else
    (240 + d / 262144) ∷ (128 + (d / 4096) % 64) ∷ (128 + (d / 64) % 64) ∷ (128 + d % 64) ∷ [])))
    ≡ (if x then d ∷ [] else (if y then (192 + d / 64) ∷ (128 + d % 64) ∷ [] else
    (if z then (224 + d / 4096) ∷ (128 + (d / 64) % 64) ∷ (128 + d % 64) ∷ [] else
    (240 + d / 262144) ∷ (128 + (d / 4096) % 64) ∷ (128 + (d / 64) % 64) ∷ (128 + d % 64) ∷ [])))
sent_by true y z d go = ap (λ (n : ℕ). n ∷ []) (sent_is Utf8 d go)
sent_by false true z d go = rw (high (192 + d / 64) (omega arith), high (128 + d % 64) (omega arith)) refl
sent_by false false true d go = rw (high (224 + d / 4096) (omega arith), high (128 + (d / 64) % 64) (omega arith), high (128 + d % 64) (omega arith)) refl
sent_by false false false d go =
    rw (high (240 + d / 262144) (omega arith), high (128 + (d / 4096) % 64) (omega arith), high (128 + (d / 64) % 64) (omega arith), high (128 + d % 64) (omega arith)) refl

itself_goes : (c : ℕ) → 128 ≤ c → all_sent Utf8 (itself c) ≡ itself c
unfolding encode_utf8
itself_goes c l = sent_by (nat_lt (shown c) 128) (nat_lt (shown c) 2048) (nat_lt (shown c) 65536) (shown c) (shown_goes (scalar c) c l)

like_itself : (c : ℕ) → 128 ≤ c → (c == cut) ≡ false → likeness Utf8 c ≡ itself c
like_itself c l e =
    ap (λ (x : Bool). if x then ascii_like c else (if c == cut then codes "\\(zb" else itself c)) (beyond c l)
    ∙ ap (λ (x : Bool). if x then codes "\\(zb" else itself c) e

pub itself-sent : (t : Target) (c : ℕ) → 128 ≤ c → (c == cut) ≡ false → is_utf8 t ≡ true → itself c ≡ all_sent t (likeness t c)
itself-sent Ascii c l e u = absurd (let no : false ≡ true = u in cc)
itself-sent (Bytes table) c l e u = absurd (let no : false ≡ true = u in cc)
itself-sent Utf8 c l e u = sym (ap (all_sent Utf8) (like_itself c l e) ∙ itself_goes c l)

-- ---- a byte of a table

known : (o : Option ℕ) (c : ℕ) → o ≡ Some c → is_some o ≡ true
known (Some d) c e = refl
known None c e = absurd (let no : None ≡ Some c = e in cc)

like_byte : (t : Target) (c b : ℕ) → 128 ≤ c → (c == cut) ≡ false → is_utf8 t ≡ false → byte_in_force t c ≡ Some b → likeness t c ≡ b ∷ []
like_byte t c b l e u p =
    ap (λ (x : Bool). if x then ascii_like c else (if c == cut then codes "\\(zb" else (if is_utf8 t then itself c else byte_or (byte_in_force t c) (beyond_like c)))) (beyond c l)
    ∙ ap (λ (x : Bool). if x then codes "\\(zb" else (if is_utf8 t then itself c else byte_or (byte_in_force t c) (beyond_like c))) e
    ∙ ap (λ (x : Bool). if x then itself c else byte_or (byte_in_force t c) (beyond_like c)) u
    ∙ ap (λ (o : Option ℕ). byte_or o (beyond_like c)) p

byte_goes : (t : Target) (c b : ℕ) → byte_in_force t c ≡ Some b → may_go_out t b ≡ true
byte_goes Ascii c b p = absurd (let no : None ≡ Some b = p in cc)
byte_goes Utf8 c b p = absurd (let no : None ≡ Some b = p in cc)
byte_goes (Bytes table) c b p = or_true (nat_lt b 127) (is_some (character_of table b)) (known (character_of table b) c (character_back table c b p))

pub byte-sent : (t : Target) (c b : ℕ) → 128 ≤ c → (c == cut) ≡ false → is_utf8 t ≡ false → byte_in_force t c ≡ Some b → b ∷ [] ≡ all_sent t (likeness t c)
byte-sent t c b l e u p = sym (ap (all_sent t) (like_byte t c b l e u p) ∙ ap (λ (n : ℕ). n ∷ []) (sent_is t b (byte_goes t c b p)))
