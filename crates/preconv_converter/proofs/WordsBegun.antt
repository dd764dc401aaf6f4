-- A word begins with a byte that goes out as it is: it is offered three times.
use Prim.Native.Char.{code}
use Rattle.std.proofs.Common.{◌≡◌, ℕ, ◌+◌, [], ◌∷◌, Bool, true, false, not, ◌==◌, ◌&&◌, nat_lt, nat_le, if◌then◌else◌, refl, sym, ◌∙◌, ap, arith}
use Rattle.std.proofs.lemmas.Bool.Decides.{nat_tests}
use Rattle.preconv_characters.specs.declared.said.Said.TheVariants as says
use Rattle.preconv_characters.specs.declared.words.Words.{Words}
use Rattle.preconv_characters.specs.declared.words.Emitted.{Emitted as WordsEmitted}
use Rattle.preconv_characters.specs.declared.words.Place.{Place}
use Rattle.preconv_characters.specs.declared.words.Place.TheVariants.{Between, Begun}
use Rattle.preconv_characters.specs.declared.words.Class.{Class}
use Rattle.preconv_characters.specs.declared.words.Class.TheVariants.{Space, Quote, Other}
use Rattle.preconv_lines.specs.declared.half.Half.{Half}
use Rattle.preconv_lines.specs.declared.half.Line.{Line}
use Rattle.preconv_lines.specs.declared.half.Line.TheVariants as lines
use Rattle.preconv_characters.specs.declared.marks.Mark.{Mark}
use Rattle.preconv_lines.specs.declared.half.Coming.TheVariants as comings
use Rattle.preconv_converter.specs.declared.reader.Reader.{Reader}
use Rattle.preconv_converter.specs.declared.reader.Pending.TheVariants.{Nothing, One}
use Rattle.preconv_lines.specs.Half.{Offered, taken, left, is_plain, is_open}
use Rattle.preconv_characters.specs.Marks.{mark_of, is_closer}
use Rattle.preconv_lines.specs.Hyphens.{placed, gone_by, saying, hyphen, turns_hyphens, line_after}
use Rattle.preconv_characters.specs.Words.{begins_word, is_ninth, class_of, offered_at, begun, font_said}
use Rattle.preconv_characters.specs.Words.{inside}
use Rattle.preconv_characters.specs.Saying.{bytes_of, sent}
use Rattle.preconv_lines.specs.Escapes.{in_escape}
use Rattle.preconv_lines.specs.Lines.{as_offered, among_words, word_moved, in_words, passing}
use Rattle.preconv_lines.specs.Offering.{offer, plain_byte, beginning, is_raw}
use Rattle.preconv_converter.specs.Reading.{emitted, preceded, heard, heard_in, heard_byte, with_half}
use Rattle.preconv_converter.specs.Reading.{pending_with, read, is_lead, stray}
use Rattle.preconv_converter.specs.Runs.{goes_on_text, is_between, begins_word_with, after_word}
use Rattle.preconv_converter.proofs.Plain.{and-first, and-second, is_not, stays, nothing_pending}
use Rattle.preconv_converter.proofs.AtOnce.{placed_as, placed_open, placed_twice, is_ascii, no_return}
use Rattle.preconv_converter.proofs.AtOnce.{no_closer, no_backslash, no_hyphen, no_newline}
use Rattle.preconv_characters.proofs.SentWhole.{sent_is}
use Rattle.preconv_converter.proofs.Sent.{ascii-goes}

-- ---- a byte among words

at : Words → Half → Half
at w h = record h { line = lines.Words w }

moved_by : (m : Bool) (x : Mark) (w v : Words) (h : Half) → record (placed_as m x (record h { line = lines.Words w })) { line = lines.Words v } ≡ record (placed_as m x h) { line = lines.Words v }
moved_by true x w v h = refl
moved_by false x w v h = refl

moved : (x : Bool) (b : ℕ) (w v : Words) (h : Half) → x ≡ false
    → record (if x then line_after (record h { line = lines.Words w }) else placed (mark_of b) (record h { line = lines.Words w })) { line = lines.Words v }
    ≡ record (placed (mark_of b) h) { line = lines.Words v }
moved true b w v h e = absurd (let no : true ≡ false = e in cc)
moved false b w v h e = moved_by h.manual (mark_of b) w v h

-- it is neither a space nor a quote
class_is : (b : ℕ) → (b == code " ") ≡ false → (b == code "\"") ≡ false → class_of b ≡ Other
class_is b e f =
    ap (λ (x : Bool). if x then Space else (if b == code "\"" then Quote else Other)) e
    ∙ ap (λ (x : Bool). if x then Quote else Other) f

other_offered : (b : ℕ) (w : Words) (h : Half) → goes_on_text b ≡ true → class_of b ≡ Other → is_open h ≡ true
    → offer (comings.Byte b) (at w h) ≡ as_offered (offered_at w.place Other (says.Byte b) w) (gone_by b (at w h))
unfolding at
other_offered b w h text class free =
    let k = record h { line = lines.Words w } in
    let plain = and-first (is_plain h.escape) (not h.translating) free in
    let still = stays b k (no_return b text) (is_not h.translating (and-second (is_plain h.escape) (not h.translating) free)) in
    ap (λ (x : Bool). if x then plain_byte b k else in_escape b k) plain
    ∙ ap (λ (x : Bool). if x && true then beginning k else in_words w b k) (no_backslash b text)
    ∙ ap (λ (x : Bool). if x then word_moved w b k else
    (if (b == code "-") && turns_hyphens k && not (begins_word w) then hyphen (lines.Words w) k else
    (if not (b == code "\n") then among_words w (class_of b) (says.Byte b) (gone_by b k) else
    (if is_ninth w then left (says.Byte (code "\"")) (record k { line = lines.Request }) else saying b lines.Start k)))) still
    ∙ ap (λ (x : Bool). if x && turns_hyphens k && not (begins_word w) then hyphen (lines.Words w) k else
    if not (b == code "\n") then among_words w (class_of b) (says.Byte b) (gone_by b k) else
    if is_ninth w then left (says.Byte (code "\"")) (record k { line = lines.Request }) else saying b lines.Start k) (no_hyphen b text)
    ∙ ap (λ (x : Bool). if not x then among_words w (class_of b) (says.Byte b) (gone_by b k) else
    if is_ninth w then left (says.Byte (code "\"")) (record k { line = lines.Request }) else saying b lines.Start k) (no_newline b text)
    ∙ ap (λ (y : Class). as_offered (offered_at w.place y (says.Byte b) w) (gone_by b k)) class

-- ---- it is offered three times

begun_words : Words → Words
begun_words w = record { fonts = w.fonts; count = w.count + 1; second = not w.second; place = Begun }

few_begun : (w : Words) → nat_lt w.count 8 ≡ true → begun w ≡ record { words = begun_words w; said = says.Nothing; takes = false }
unfolding begun_words
few_begun w few =
    let not_nine : nat_le 9 w.count ≡ false = grind (arith, nat_tests) in
    let not_eight : (w.count == 8) ≡ false = grind (arith, nat_tests) in
    let more : Words = record { fonts = w.fonts; count = w.count + 1; second = not w.second; place = Begun } in
    let nine : Words = record { fonts = w.fonts; count = 9; second = not w.second; place = Begun } in
    ap (λ (x : Bool). if x then record { words = nine; said = font_said w; takes = false }
    else record { words = more; said = if w.count == 8 then says.Byte (code "\"") else says.Nothing; takes = false }) not_nine
    ∙ ap (λ (x : Bool). record { words = more; said = if x then says.Byte (code "\"") else says.Nothing; takes = false }) not_eight

first_offered : (b : ℕ) (w : Words) (h : Half) → goes_on_text b ≡ true → class_of b ≡ Other → is_open h ≡ true → w.place ≡ Between → nat_lt w.count 8 ≡ true
    → offer (comings.Byte b) (at w h) ≡ left says.Nothing (at (begun_words w) (placed (mark_of b) h))
unfolding at
first_offered b w h text class free between few =
    let k = record h { line = lines.Words w } in
    other_offered b w h text class free
    ∙ ap (λ (p : Place). as_offered (offered_at p Other (says.Byte b) w) (gone_by b k)) between
    ∙ ap (λ (t : WordsEmitted). as_offered t (gone_by b k)) (few_begun w few)
    ∙ ap (left says.Nothing) (moved (b == code "\n") b w (begun_words w) h (no_newline b text))

second_offered : (b : ℕ) (w : Words) (h : Half) → goes_on_text b ≡ true → class_of b ≡ Other → is_open h ≡ true
    → offer (comings.Byte b) (at (begun_words w) h) ≡ left says.Nothing (at (inside w) (placed (mark_of b) h))
unfolding at begun_words
second_offered b w h text class free =
    let v : Words = record { fonts = w.fonts; count = w.count + 1; second = not w.second; place = Begun } in
    other_offered b v h text class free
    ∙ ap (left says.Nothing) (moved (b == code "\n") b v (inside w) h (no_newline b text))

third_offered : (b : ℕ) (w : Words) (h : Half) → goes_on_text b ≡ true → class_of b ≡ Other → is_open h ≡ true
    → offer (comings.Byte b) (at (inside w) h) ≡ taken (says.Byte b) (at (inside w) (placed (mark_of b) h))
unfolding at
third_offered b w h text class free =
    other_offered b (inside w) h text class free
    ∙ ap (taken (says.Byte b)) (moved (b == code "\n") b (inside w) (inside w) h (no_newline b text))

-- ---- so it is read

thrice : (m : Mark) (h : Half) → is_closer m ≡ false → placed m (placed m (placed m h)) ≡ placed m h
thrice m h last = placed_twice m m (placed m h) last ∙ placed_twice m m h last

word_heard : (b : ℕ) (w : Words) (r : Reader) → is_open r.half ≡ true → r.half.line ≡ lines.Words w → goes_on_text b ≡ true → class_of b ≡ Other
    → w.place ≡ Between → nat_lt w.count 8 ≡ true → heard (comings.Byte b) r ≡ emitted (with_half (after_word w b r.half) r) (b ∷ []) 3
unfolding heard at
word_heard b w r free line text class between few =
    let c = comings.Byte b in
    let e = r.table in
    let m = mark_of b in
    let h = r.half in
    let p = placed m h in
    let q = placed m p in
    let open_p = placed_open m h ∙ free in
    let open_q = placed_open m p ∙ open_p in
    let there : h ≡ record h { line = lines.Words w } = ap (λ (l : Line). record h { line = l }) line in
    let one = ap (offer c) there ∙ first_offered b w h text class free between few in
    ap (λ (n : Offered). preceded (bytes_of e n.said) 1 (if n.takes then emitted (with_half n.half r) [] 0 else heard_in 5 c (with_half n.half r))) one
    ∙ ap (λ (n : Offered). preceded [] 1 (preceded (bytes_of e n.said) 1 (if n.takes then emitted (with_half n.half r) [] 0 else heard_in 4 c (with_half n.half r)))) (second_offered b w p text class open_p)
    ∙ ap (λ (n : Offered). preceded [] 1 (preceded [] 1 (preceded (bytes_of e n.said) 1 (if n.takes then emitted (with_half n.half r) [] 0 else heard_in 3 c (with_half n.half r))))) (third_offered b w q text class open_q)
    ∙ ap (λ (k : Half). emitted (with_half (record k { line = lines.Words (inside w) }) r) (sent e b ∷ []) 3) (thrice m h (no_closer b text))
    ∙ ap (λ (x : Bool). emitted (with_half (record (if x then line_after h else placed m h) { line = lines.Words (inside w) }) r) (sent e b ∷ []) 3) (sym (no_newline b text))
    ∙ ap (λ (x : ℕ). emitted (with_half (after_word w b h) r) (x ∷ []) 3) (sent_is e b (ascii-goes e b (is_ascii b text)))

between_is : (place : Place) → is_between place ≡ true → place ≡ Between
between_is Between p = refl
between_is place p = absurd (let no : false ≡ true = p in cc)

pub word_read : (b : ℕ) (w : Words) (r : Reader) → r.pending ≡ Nothing → is_open r.half ≡ true → r.half.line ≡ lines.Words w → begins_word_with w b ≡ true
    → read b r ≡ emitted (with_half (after_word w b r.half) r) (b ∷ []) 3
word_read b w r none free line p =
    let text = goes_on_text b in
    let space = not (b == code " ") in
    let quote = not (b == code "\"") in
    let between = is_between w.place in
    let four = and-first (text && space && quote && between) (nat_lt w.count 8) p in
    let three = and-first (text && space && quote) between four in
    let two = and-first (text && space) quote three in
    let is = and-first text space two in
    let class = class_is b (is_not (b == code " ") (and-second text space two)) (is_not (b == code "\"") (and-second (text && space) quote three)) in
    ap (λ (x : Bool). if x then emitted (with_half (passing b r.half) r) (sent r.table b ∷ []) 1 else heard_byte b r) (ap is_raw line)
    ∙ nothing_pending b r none
    ∙ ap (λ (x : Bool). if x then heard (comings.Byte b) r else (if is_lead b then emitted (pending_with (One b) r) [] 0 else stray b r)) (is_ascii b is)
    ∙ word_heard b w r free line is class (between_is w.place (and-second (text && space && quote) between four)) (and-second (text && space && quote && between) (nat_lt w.count 8) p)
