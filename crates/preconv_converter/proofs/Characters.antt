-- A text in UTF-8 is read as its characters.
use Prim.Native.Char.{code}
use Rattle.std.proofs.Common.{◌≡◌, ℕ, ◌+◌, ◌*◌, ◌/◌, ◌%◌, ◌<◌, ◌≤◌, List, [], ◌∷◌, Bool, true, false, nat_lt, nat_le, ◌==◌, ◌&&◌, if◌then◌else◌, inl, inr, refl, sym, ◌∙◌, ap, append-nil, arith}
use Rattle.std.proofs.lemmas.Bool.{lt-ltb, ltb-true, ltb-false, le-ltb, le-leb, eqb-true}
use Rattle.std.proofs.lemmas.Bool.Decides.{nat_tests}
use Rattle.std.proofs.Math.Utf8.{scalar, scalars, scalar_cases}
use Rattle.std.specs.Prelude.{⊤, encode_utf8_all}
use Rattle.std.specs.Char.{encode_utf8}
use Rattle.preconv_lines.specs.declared.half.Coming.TheVariants.{Byte, Wide}
use Rattle.preconv_lines.specs.declared.half.Dots.{Dots}
use Rattle.preconv_lines.specs.declared.half.Line.{Line}
use Rattle.preconv_lines.specs.declared.half.Line.TheVariants as lines
use Rattle.preconv_converter.specs.declared.reader.Reader.{Reader}
use Rattle.preconv_converter.specs.declared.reader.Pending.TheVariants.{Nothing, One, Two, Three}
use Rattle.preconv_characters.specs.Numbers.{is_within}
use Rattle.preconv_characters.specs.Saying.{sent}
use Rattle.preconv_lines.specs.Lines.{after_ignored, one_dot_more, no_dot, line_passed, passing}
use Rattle.preconv_lines.specs.Offering.{is_raw}
use Rattle.preconv_converter.specs.Reading.{Emitted, is_lead, is_tail, is_second, low_six, emitted, preceded}
use Rattle.preconv_converter.specs.Reading.{then_emitted, with_half, pending_with, heard, stray, fresh, apart}
use Rattle.preconv_converter.specs.Reading.{whole, heard_byte, read, fed}
use Rattle.preconv_converter.specs.Characters.{coming_of, read_character, read_characters}
use Rattle.preconv_converter.proofs.Reading.{emitted-eq, preceded-none, fed-append}
use Rattle.preconv_converter.proofs.Plain.{and-first, and-second, none_heard, nothing_pending}
use Rattle.preconv_converter.proofs.Steps.{heard-stays}

-- ---- bytes of UTF-8

within : (first last b : ℕ) → first ≤ b → b ≤ last → is_within first last b ≡ true
within first last b p q = ap (λ (x : Bool). x && nat_le b last) (le-leb first b p) ∙ le-leb b last q

if-true : (x : Bool) {y z : Bool} → (x ≡ true → y ≡ true) → z ≡ true → (if x then y else z) ≡ true
if-true true p q = p refl
if-true false p q = q

second : (a b : ℕ) → 128 ≤ b → b < 192 → (a ≡ 224 → 160 ≤ b) → (a ≡ 237 → b < 160) → (a ≡ 240 → 144 ≤ b) → (a ≡ 244 → b < 144) → is_second a b ≡ true
second a b low high f g h k =
    if-true (a == 224) (λ e. within 160 191 b (f (eqb-true a 224 e)) (omega (arith, high)))
    (if-true (a == 237) (λ e. within 128 159 b low (let l = g (eqb-true a 237 e) in omega (arith, l)))
    (if-true (a == 240) (λ e. within 144 191 b (h (eqb-true a 240 e)) (omega (arith, high)))
    (if-true (a == 244) (λ e. within 128 143 b low (let l = k (eqb-true a 244 e) in omega (arith, l)))
    (within 128 191 b low (omega (arith, high))))))

tail : (b : ℕ) → 128 ≤ b → b < 192 → is_tail b ≡ true
tail b low high = within 128 191 b low (omega (arith, high))

-- ---- one after the other

pub cooked_read : (b : ℕ) (r : Reader) → is_raw r.half.line ≡ false → read b r ≡ heard_byte b r
cooked_read b r cooked = ap (λ (x : Bool). if x then emitted (with_half (passing b r.half) r) (sent r.table b ∷ []) 1 else heard_byte b r) cooked

fresh_read : (b : ℕ) (r : Reader) → is_raw r.half.line ≡ false → r.pending ≡ Nothing → read b r ≡ fresh b r
fresh_read b r cooked none = cooked_read b r cooked ∙ nothing_pending b r none

pub silent : (b : ℕ) (r p : Reader) (bs : List ℕ) → read b r ≡ emitted p [] 0 → fed r (b ∷ bs) ≡ fed p bs
silent b r p bs e = ap (λ (t : Emitted). then_emitted t (λ s. fed s bs)) e ∙ preceded-none (fed p bs)

no_more : (n : ℕ) → n + 0 ≡ n
no_more n = omega arith

pub last : (b : ℕ) (r : Reader) (t : Emitted) → read b r ≡ t → fed r (b ∷ []) ≡ t
last b r t e = ap (λ (u : Emitted). then_emitted u (λ s. emitted s [] 0)) e ∙ emitted-eq _ _ _ _ _ _ refl (append-nil t.bytes) (no_more t.steps)

pub lead : (a : ℕ) (r : Reader) → 194 ≤ a → a ≤ 244 → is_raw r.half.line ≡ false → r.pending ≡ Nothing → read a r ≡ emitted (pending_with (One a) r) [] 0
lead a r low high cooked none =
    fresh_read a r cooked none
    ∙ ap (λ (x : Bool). if x then heard (Byte a) r else (if is_lead a then emitted (pending_with (One a) r) [] 0 else stray a r)) (le-ltb a 127 (omega (arith, low)))
    ∙ ap (λ (x : Bool). if x then emitted (pending_with (One a) r) [] 0 else stray a r) (within 194 244 a low high)

-- a character is whole
offered : (k c : ℕ) (r : Reader) → r.pending ≡ Nothing → k ≡ c → 127 ≤ c → heard (Wide k) (pending_with Nothing r) ≡ heard (coming_of c) r
offered k c r none e l =
    ap (λ (s : Reader). heard (Wide k) s) (none_heard r.pending r none refl)
    ∙ ap (λ (n : ℕ). heard (Wide n) r) e
    ∙ ap (λ (x : Bool). heard (if x then Byte c else Wide c) r) (sym (le-ltb c 127 l))

one_by : (x y : Bool) (c : ℕ) (r : Reader) → y ≡ false
    → (if x then heard (Byte c) r else (if y then emitted (pending_with (One c) r) [] 0 else stray c r)) ≡ heard (if x then Byte c else Wide c) r
one_by true y c r p = refl
one_by false true c r p = absurd (let no : true ≡ false = p in cc)
one_by false false c r p = refl

no_lead : (c : ℕ) → c < 128 → is_lead c ≡ false
no_lead c l = grind (arith, nat_tests)

one : (c : ℕ) (r : Reader) → c < 128 → is_raw r.half.line ≡ false → r.pending ≡ Nothing → fed r (c ∷ []) ≡ heard (coming_of c) r
one c r l cooked none = last c r (heard (coming_of c) r) (fresh_read c r cooked none ∙ one_by (nat_lt c 127) (is_lead c) c r (no_lead c l))

two_code : (c : ℕ) → 128 ≤ c → c < 2048 → ((192 + c / 64) % 32) * 64 + (128 + c % 64) % 64 ≡ c
two_code c low high = omega arith

two : (c : ℕ) (r : Reader) → 128 ≤ c → c < 2048 → is_raw r.half.line ≡ false → r.pending ≡ Nothing
    → fed r ((192 + c / 64) ∷ (128 + c % 64) ∷ []) ≡ heard (coming_of c) r
two c r low high cooked none =
    let a = 192 + c / 64 in
    let b = 128 + c % 64 in
    let s = pending_with (One a) r in
    silent a r s (b ∷ []) (lead a r (omega arith) (omega arith) cooked none)
    ∙ last b s (heard (coming_of c) r)
    (cooked_read b s cooked
    ∙ ap (λ (x : Bool). if x then (if nat_lt a 224 then whole ((a % 32) * 64 + low_six b) s else emitted (pending_with (Two a b) s) [] 0) else apart b s)
    (second a b (omega arith) (omega arith) (λ e. absurd (omega (arith, e))) (λ e. absurd (omega (arith, e))) (λ e. absurd (omega (arith, e))) (λ e. absurd (omega (arith, e))))
    ∙ ap (λ (x : Bool). if x then whole ((a % 32) * 64 + low_six b) s else emitted (pending_with (Two a b) s) [] 0) (lt-ltb a 224 (omega arith))
    ∙ offered ((a % 32) * 64 + low_six b) c r none (two_code c low high) (omega (arith, low)))

three_code : (c : ℕ) → 2048 ≤ c → c < 65536 → ((224 + c / 4096) % 16) * 4096 + ((128 + (c / 64) % 64) % 64) * 64 + (128 + c % 64) % 64 ≡ c
three_code c low high = omega arith

three : (c : ℕ) (r : Reader) → 2048 ≤ c → c < 65536 → scalar c ≡ true → is_raw r.half.line ≡ false → r.pending ≡ Nothing
    → fed r ((224 + c / 4096) ∷ (128 + (c / 64) % 64) ∷ (128 + c % 64) ∷ []) ≡ heard (coming_of c) r
three c r low high is cooked none =
    let a = 224 + c / 4096 in
    let b = 128 + (c / 64) % 64 in
    let d = 128 + c % 64 in
    let s = pending_with (One a) r in
    let u = pending_with (Two a b) r in
    let cut : a ≡ 237 → b < 160 = λ e. elim (scalar_cases c is) [ inl l ↦ omega (arith, e, l) | inr l ↦ (let l0 = l.0 in absurd (omega (arith, e, l0))) ] in
    silent a r s (b ∷ d ∷ []) (lead a r (omega arith) (omega arith) cooked none)
    ∙ silent b s u (d ∷ [])
    (cooked_read b s cooked
    ∙ ap (λ (x : Bool). if x then (if nat_lt a 224 then whole ((a % 32) * 64 + low_six b) s else emitted (pending_with (Two a b) s) [] 0) else apart b s)
    (second a b (omega arith) (omega arith) (λ e. omega (arith, e)) cut (λ e. absurd (omega (arith, e))) (λ e. absurd (omega (arith, e))))
    ∙ ap (λ (x : Bool). if x then whole ((a % 32) * 64 + low_six b) s else emitted (pending_with (Two a b) s) [] 0) (le-ltb a 224 (omega arith)))
    ∙ last d u (heard (coming_of c) r)
    (cooked_read d u cooked
    ∙ ap (λ (x : Bool). if x then (if nat_lt a 240 then whole ((a % 16) * 4096 + low_six b * 64 + low_six d) u else emitted (pending_with (Three a b d) u) [] 0) else apart d u)
    (tail d (omega arith) (omega arith))
    ∙ ap (λ (x : Bool). if x then whole ((a % 16) * 4096 + low_six b * 64 + low_six d) u else emitted (pending_with (Three a b d) u) [] 0) (lt-ltb a 240 (omega arith))
    ∙ offered ((a % 16) * 4096 + low_six b * 64 + low_six d) c r none (three_code c low high) (omega (arith, low)))

four_code : (c : ℕ) → 65536 ≤ c → c < 1114112
    → ((240 + c / 262144) % 8) * 262144 + ((128 + (c / 4096) % 64) % 64) * 4096 + ((128 + (c / 64) % 64) % 64) * 64 + (128 + c % 64) % 64 ≡ c
four_code c low high = omega arith

four : (c : ℕ) (r : Reader) → 65536 ≤ c → c < 1114112 → is_raw r.half.line ≡ false → r.pending ≡ Nothing
    → fed r ((240 + c / 262144) ∷ (128 + (c / 4096) % 64) ∷ (128 + (c / 64) % 64) ∷ (128 + c % 64) ∷ []) ≡ heard (coming_of c) r
four c r low high cooked none =
    let a = 240 + c / 262144 in
    let b = 128 + (c / 4096) % 64 in
    let d = 128 + (c / 64) % 64 in
    let f = 128 + c % 64 in
    let s = pending_with (One a) r in
    let u = pending_with (Two a b) r in
    let v = pending_with (Three a b d) r in
    let whole_code = (a % 8) * 262144 + low_six b * 4096 + low_six d * 64 + low_six f in
    silent a r s (b ∷ d ∷ f ∷ []) (lead a r (omega arith) (omega arith) cooked none)
    ∙ silent b s u (d ∷ f ∷ [])
    (cooked_read b s cooked
    ∙ ap (λ (x : Bool). if x then (if nat_lt a 224 then whole ((a % 32) * 64 + low_six b) s else emitted (pending_with (Two a b) s) [] 0) else apart b s)
    (second a b (omega arith) (omega arith) (λ e. absurd (omega (arith, e))) (λ e. absurd (omega (arith, e))) (λ e. omega (arith, e)) (λ e. omega (arith, e)))
    ∙ ap (λ (x : Bool). if x then whole ((a % 32) * 64 + low_six b) s else emitted (pending_with (Two a b) s) [] 0) (le-ltb a 224 (omega arith)))
    ∙ silent d u v (f ∷ [])
    (cooked_read d u cooked
    ∙ ap (λ (x : Bool). if x then (if nat_lt a 240 then whole ((a % 16) * 4096 + low_six b * 64 + low_six d) u else emitted (pending_with (Three a b d) u) [] 0) else apart d u)
    (tail d (omega arith) (omega arith))
    ∙ ap (λ (x : Bool). if x then whole ((a % 16) * 4096 + low_six b * 64 + low_six d) u else emitted (pending_with (Three a b d) u) [] 0) (le-ltb a 240 (omega arith)))
    ∙ last f v (heard (coming_of c) r)
    (cooked_read f v cooked
    ∙ ap (λ (x : Bool). if x then whole whole_code v else apart f v) (tail f (omega arith) (omega arith))
    ∙ offered whole_code c r none (four_code c low high) (omega (arith, low)))

-- ---- a character

below : (c : ℕ) → scalar c ≡ true → c < 1114112
below c is = elim (scalar_cases c is) [ inl l ↦ omega (arith, l) | inr l ↦ l.1 ]

heard_by : (x y z : Bool) (c : ℕ) (r : Reader) → nat_lt c 128 ≡ x → nat_lt c 2048 ≡ y → nat_lt c 65536 ≡ z → scalar c ≡ true
    → is_raw r.half.line ≡ false → r.pending ≡ Nothing
    → fed r (if x then c ∷ [] else (if y then (192 + c / 64) ∷ (128 + c % 64) ∷ [] else
    (if z then (224 + c / 4096) ∷ (128 + (c / 64) % 64) ∷ (128 + c % 64) ∷ [] else
    (240 + c / 262144) ∷ (128 + (c / 4096) % 64) ∷ (128 + (c / 64) % 64) ∷ (128 + c % 64) ∷ []))) ≡ heard (coming_of c) r
heard_by true y z c r p q s is cooked none = one c r (ltb-true c 128 p) cooked none
heard_by false true z c r p q s is cooked none = two c r (ltb-false c 128 p) (ltb-true c 2048 q) cooked none
heard_by false false true c r p q s is cooked none = three c r (ltb-false c 2048 q) (ltb-true c 65536 s) is cooked none
heard_by false false false c r p q s is cooked none = four c r (ltb-false c 65536 s) (below c is) cooked none

pub cooked_character : (c : ℕ) (r : Reader) → scalar c ≡ true → is_raw r.half.line ≡ false → r.pending ≡ Nothing → fed r (encode_utf8 c) ≡ heard (coming_of c) r
unfolding encode_utf8
cooked_character c r is cooked none = heard_by (nat_lt c 128) (nat_lt c 2048) (nat_lt c 65536) c r refl refl refl is cooked none

-- ---- in comments and ignored lines nothing becomes pending

raw_read : (b : ℕ) (r : Reader) → is_raw r.half.line ≡ true → read b r ≡ emitted (with_half (passing b r.half) r) (sent r.table b ∷ []) 1
raw_read b r raw = ap (λ (x : Bool). if x then emitted (with_half (passing b r.half) r) (sent r.table b ∷ []) 1 else heard_byte b r) raw

no_newline : (b : ℕ) → 128 ≤ b → (b == code "\n") ≡ false
no_newline b l = grind (arith, nat_tests)

either_raw : (x : Bool) (d e : Dots) → is_raw (if x then lines.Ignored d else lines.Ignored e) ≡ true
either_raw true d e = refl
either_raw false d e = refl

raw_stays : (line : Line) (b : ℕ) → is_raw line ≡ true → 128 ≤ b → is_raw (line_passed line b) ≡ true
raw_stays lines.Comment b p l = ap (λ (x : Bool). is_raw (if x then lines.Start else lines.Comment)) (no_newline b l)
raw_stays (lines.Ignored d) b p l =
    ap (λ (x : Bool). is_raw (if x then after_ignored d else (if b == code "." then lines.Ignored (one_dot_more d) else lines.Ignored (no_dot d)))) (no_newline b l)
    ∙ either_raw (b == code ".") (one_dot_more d) (no_dot d)
raw_stays line b p l = absurd (let no : false ≡ true = p in cc)

high : List ℕ → Type 0
high [] = ⊤
high (b ∷ bs) = (128 ≤ b) × high bs

raw_pending : (bs : List ℕ) (r : Reader) → is_raw r.half.line ≡ true → high bs → (fed r bs).reader.pending ≡ r.pending
unfolding high
raw_pending [] r raw h = refl
raw_pending (b ∷ bs) r raw h =
    ap (λ (t : Emitted). (then_emitted t (λ s. fed s bs)).reader.pending) (raw_read b r raw)
    ∙ raw_pending bs (with_half (passing b r.half) r) (raw_stays r.half.line b raw h.0) h.1

raw_by : (x y z : Bool) (c : ℕ) (r : Reader) → is_raw r.half.line ≡ true
    → (fed r (if x then c ∷ [] else (if y then (192 + c / 64) ∷ (128 + c % 64) ∷ [] else
    (if z then (224 + c / 4096) ∷ (128 + (c / 64) % 64) ∷ (128 + c % 64) ∷ [] else
    (240 + c / 262144) ∷ (128 + (c / 4096) % 64) ∷ (128 + (c / 64) % 64) ∷ (128 + c % 64) ∷ [])))).reader.pending ≡ r.pending
unfolding high
raw_by true y z c r raw = ap (λ (t : Emitted). (then_emitted t (λ s. emitted s [] 0)).reader.pending) (raw_read c r raw)
raw_by false true z c r raw = raw_pending ((192 + c / 64) ∷ (128 + c % 64) ∷ []) r raw (omega arith, (omega arith, tt))
raw_by false false true c r raw =
    raw_pending ((224 + c / 4096) ∷ (128 + (c / 64) % 64) ∷ (128 + c % 64) ∷ []) r raw (omega arith, (omega arith, (omega arith, tt)))
raw_by false false false c r raw =
    raw_pending ((240 + c / 262144) ∷ (128 + (c / 4096) % 64) ∷ (128 + (c / 64) % 64) ∷ (128 + c % 64) ∷ []) r raw (omega arith, (omega arith, (omega arith, (omega arith, tt))))

raw_character : (c : ℕ) (r : Reader) → is_raw r.half.line ≡ true → (fed r (encode_utf8 c)).reader.pending ≡ r.pending
unfolding encode_utf8
raw_character c r raw = raw_by (nat_lt c 128) (nat_lt c 2048) (nat_lt c 65536) c r raw

-- ---- each character, and all

character_by : (x : Bool) (c : ℕ) (r : Reader) → is_raw r.half.line ≡ x → scalar c ≡ true → r.pending ≡ Nothing
    → fed r (encode_utf8 c) ≡ (if x then fed r (encode_utf8 c) else heard (coming_of c) r)
character_by true c r e is none = refl
character_by false c r e is none = cooked_character c r is e none

pending_by : (x : Bool) (c : ℕ) (r : Reader) → is_raw r.half.line ≡ x → (if x then fed r (encode_utf8 c) else heard (coming_of c) r).reader.pending ≡ r.pending
pending_by true c r e = raw_character c r e
pending_by false c r e = heard-stays (coming_of c) r

pub fed-characters : (cs : List ℕ) (r : Reader) → scalars cs ≡ true → r.pending ≡ Nothing → fed r (encode_utf8_all cs) ≡ read_characters r cs
fed-characters [] r is none = refl
fed-characters (c ∷ cs) r is none =
    let t = read_character c r in
    fed-append r (encode_utf8 c) (encode_utf8_all cs)
    ∙ ap (λ (u : Emitted). then_emitted u (λ s. fed s (encode_utf8_all cs))) (character_by (is_raw r.half.line) c r refl (and-first (scalar c) (scalars cs) is) none)
    ∙ ap (preceded t.bytes t.steps) (fed-characters cs t.reader (and-second (scalar c) (scalars cs) is) (pending_by (is_raw r.half.line) c r refl ∙ none))
