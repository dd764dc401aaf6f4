-- Bytes that go out as they are, in one step.
use Prim.Native.Char.{code}
use Rattle.std.proofs.Common.{◌≡◌, ℕ, suc, ◌+◌, ◌-◌, ◌<◌, ◌≤◌, List, [], ◌∷◌, ◌++◌, length, take, drop, get_or, Bool, true, false, not, ◌==◌, ◌&&◌, ◌||◌, nat_lt, if◌then◌else◌, refl, sym, ◌∙◌, ap, subst, add-one, arith}
use Rattle.std.proofs.Math.Seq.{take-suc, take-add}
use Rattle.std.proofs.lemmas.Bool.Decides.{nat_tests}
use Rattle.std.proofs.lemmas.List.{take-take}
use Rattle.preconv_lines.specs.declared.half.Half.{Half}
use Rattle.preconv_lines.specs.declared.half.Line.{Line}
use Rattle.preconv_lines.specs.declared.half.Line.TheVariants as lines
use Rattle.preconv_lines.specs.declared.half.Coming.TheVariants as comings
use Rattle.preconv_characters.specs.declared.said.Said.{Said}
use Rattle.preconv_characters.specs.declared.said.Said.TheVariants as says
use Rattle.preconv_characters.specs.declared.words.Words.{Words}
use Rattle.preconv_characters.specs.declared.words.Emitted.{Emitted as WordsEmitted}
use Rattle.preconv_characters.specs.declared.words.Fonts.{Fonts}
use Rattle.preconv_characters.specs.declared.words.Fonts.TheVariants.{One, Same, Turn, Tag}
use Rattle.preconv_characters.specs.declared.words.Place.{Place}
use Rattle.preconv_characters.specs.declared.words.Place.TheVariants.{Between, Inside, Quoted}
use Rattle.preconv_characters.specs.declared.words.Class.{Class}
use Rattle.preconv_characters.specs.declared.words.Class.TheVariants.{Space, Quote, Other}
use Rattle.preconv_converter.specs.declared.reader.Reader.{Reader}
use Rattle.preconv_converter.specs.declared.reader.Pending.{Pending}
use Rattle.preconv_converter.specs.declared.reader.Pending.TheVariants as pendings
use Rattle.preconv_lines.specs.Half.{Offered, taken, left, is_plain, is_open, is_read}
use Rattle.preconv_lines.specs.Translations.{translated}
use Rattle.preconv_characters.specs.Marks.{mark_of, followed}
use Rattle.preconv_lines.specs.Hyphens.{gone_by, saying, hyphen, turns_hyphens, carriage_return, is_moved}
use Rattle.preconv_lines.specs.Hyphens.{moved, closes, newline_held, in_text, line_after}
use Rattle.preconv_characters.specs.Words.{goes_on_at, goes_on_with, goes_on_with_space, spaced_at}
use Rattle.preconv_characters.specs.Words.{after_space, begins_word, is_ninth, class_of, words_at, blank_by}
use Rattle.preconv_characters.specs.Words.{offered_at, is_as_is as word_as_is, taken_as_is as word_taken}
use Rattle.preconv_characters.specs.Saying.{bytes_of, sent}
use Rattle.preconv_lines.specs.Escapes.{in_escape}
use Rattle.preconv_lines.specs.Lines.{is_control, control, as_offered, among_words, follows_tag, begins_apart}
use Rattle.preconv_lines.specs.Lines.{breaking, at_start, after_fonts, word_moved, in_words, in_rest}
use Rattle.preconv_lines.specs.Lines.{in_line_at, in_line, takes_escape, passing}
use Rattle.preconv_lines.specs.Offering.{offer, plain_byte, beginning, is_raw, may_pass, is_text_as_is}
use Rattle.preconv_lines.specs.Offering.{is_as_is_at, is_as_is, line_taken, taken_as_is}
use Rattle.preconv_converter.specs.Reading.{Emitted, emitted, preceded, then_emitted, heard, heard_in}
use Rattle.preconv_converter.specs.Reading.{with_half, pending_with, strays, fresh, heard_after, heard_byte}
use Rattle.preconv_converter.specs.Reading.{read, fed, is_lead, stray}
use Rattle.preconv_converter.specs.Passing.{Passes}
use Rattle.preconv_converter.proofs.Reading.{preceded-none, fed-append}
use Rattle.preconv_characters.proofs.SentWhole.{sent_is}
use Rattle.preconv_converter.proofs.Sent.{ascii-goes}

pub and-first : (x y : Bool) → (x && y) ≡ true → x ≡ true
and-first true y h = refl
and-first false y h = h

pub and-second : (x y : Bool) → (x && y) ≡ true → y ≡ true
and-second true y h = h
and-second false y h = absurd (let no : false ≡ true = h in cc)

-- ---- in a line

pub is_not : (x : Bool) → not x ≡ true → x ≡ false
is_not false h = refl
is_not true h = absurd (let no : false ≡ true = h in cc)

not_both : (x y : Bool) → (not x || not y) ≡ true → (x && y) ≡ false
not_both false y p = refl
not_both true y p = is_not y p

-- it is neither dropped nor translated
pub not_moved_by : (x y z : Bool) → x ≡ false → y ≡ false → (x || (y && z)) ≡ false
not_moved_by true y z p q = absurd (let no : true ≡ false = p in cc)
not_moved_by false true z p q = absurd (let no : true ≡ false = q in cc)
not_moved_by false false z p q = refl

pub stays : (b : ℕ) (h : Half) → (b == carriage_return) ≡ false → h.translating ≡ false → is_moved b h ≡ false
stays b h p q = not_moved_by (b == carriage_return) h.translating (not (translated b h.translations == 0)) p q

-- a byte goes out as it is, and the line goes on so
goes : ℕ → Line → Half → Offered
goes b line h = taken (says.Byte b) (record (gone_by b h) { line = line })

text_by : (x y z : Bool) (b : ℕ) (h : Half) (m n : Offered) → y ≡ false → (not z || not x) ≡ true
    → (if x then (if z then n else saying b lines.Start h) else (if y then m else saying b lines.Text h)) ≡ goes b (if x then lines.Start else lines.Text) h
unfolding goes
text_by true y true b h m n p q = absurd (let no : false ≡ true = q in cc)
text_by true y false b h m n p q = refl
text_by false y z b h m n p q = ap (λ (w : Bool). if w then m else saying b lines.Text h) p

text_offered : (b : ℕ) (h : Half) → is_moved b h ≡ false → is_text_as_is b h ≡ true → in_text b h ≡ goes b (if b == code "\n" then lines.Start else lines.Text) h
text_offered b h still p =
    let whole = not (turns_hyphens h) || not (b == code "-") in
    let free = not (closes h) || not (b == code "\n") in
    ap (λ (x : Bool). if x then moved b h else
    (if b == code "\n" then (if closes h then newline_held h else saying b lines.Start h) else
    (if turns_hyphens h && (b == code "-") then hyphen lines.Text h else saying b lines.Text h))) still
    ∙ text_by (b == code "\n") (turns_hyphens h && (b == code "-")) (closes h) b h (hyphen lines.Text h) (newline_held h)
    (not_both (turns_hyphens h) (b == code "-") (and-first whole free p)) (and-second whole free p)

start_by : (x y z : Bool) (b : ℕ) (h : Half) (m n : Offered) → y ≡ false → z ≡ false → in_text b h ≡ goes b (if x then lines.Start else lines.Text) h
    → (if y then m else (if z then n else (if x then saying b lines.Start h else in_text b h))) ≡ goes b (if x then lines.Start else lines.Text) h
unfolding goes
start_by x true z b h m n p r q = absurd (let no : true ≡ false = p in cc)
start_by x false true b h m n p r q = absurd (let no : true ≡ false = r in cc)
start_by true false false b h m n p r q = refl
start_by false false false b h m n p r q = q

start_offered : (b : ℕ) (h : Half) → is_moved b h ≡ false
    → (not (is_control b) && is_text_as_is b h && not (follows_tag h && begins_apart b)) ≡ true
    → at_start b h ≡ goes b (if b == code "\n" then lines.Start else lines.Text) h
start_offered b h still p =
    let plain = not (is_control b) in
    let whole = is_text_as_is b h in
    let preceded = follows_tag h && begins_apart b in
    let two = and-first (plain && whole) (not preceded) p in
    start_by (b == code "\n") (is_control b) preceded b h (control false b h) (breaking b h)
    (is_not (is_control b) (and-first plain whole two)) (is_not preceded (and-second (plain && whole) (not preceded) p)) (text_offered b h still (and-second plain whole two))

fonts_offered : (b : ℕ) (h : Half) → is_moved b h ≡ false → (not (b == code " ") && is_text_as_is b h) ≡ true
    → after_fonts b h ≡ goes b (if b == code "\n" then lines.Start else lines.Text) h
fonts_offered b h still p =
    let blank = not (b == code " ") in
    let whole = is_text_as_is b h in
    ap (λ (x : Bool). if x && not (is_read h.table) then left (says.Escape (code "&")) (record h { line = lines.Text }) else in_text b h)
    (is_not (b == code " ") (and-first blank whole p))
    ∙ text_offered b h still (and-second blank whole p)

-- ---- among words

words_emitted : (place : Place) (class : Class) (said : Said) (w : Words) → goes_on_at place class ≡ true
    → offered_at place class said w ≡ record { words = words_at place w; said = said; takes = true }
words_emitted Inside Other said w p = refl
words_emitted Quoted Other said w p = refl
words_emitted Quoted Space said w p = refl
words_emitted place class said w p = absurd (let no : false ≡ true = p in cc)

blank_kept : (fonts : Fonts) (said : Said) → blank_by fonts false said ≡ said
blank_kept One said = refl
blank_kept (Same a) said = refl
blank_kept (Turn a b) said = refl
blank_kept Tag said = refl

-- up to the eighth word
space_emitted : (place : Place) (said : Said) (w : Words) → spaced_at place ≡ true → is_ninth w ≡ false
    → offered_at place Space said w ≡ record { words = words_at (after_space place) w; said = said; takes = true }
space_emitted Between said w p q =
    ap (λ (x : Bool). record { words = words_at Between w; said = blank_by w.fonts x said; takes = true }) q
    ∙ ap (λ (s : Said). record { words = words_at Between w; said = s; takes = true }) (blank_kept w.fonts said)
space_emitted Inside said w p q =
    ap (λ (x : Bool). record { words = words_at Between w; said = blank_by w.fonts x said; takes = true }) q
    ∙ ap (λ (s : Said). record { words = words_at Between w; said = s; takes = true }) (blank_kept w.fonts said)
space_emitted Quoted said w p q = refl
space_emitted place said w p q = absurd (let no : false ≡ true = p in cc)

pub quoted_space : (place : Place) → goes_on_at place Space ≡ true → after_space place ≡ place
quoted_space Quoted p = refl
quoted_space place p = absurd (let no : false ≡ true = p in cc)

space_by : (ninth : Bool) (said : Said) (w : Words) → is_ninth w ≡ ninth → (if ninth then goes_on_at w.place Space else spaced_at w.place) ≡ true
    → offered_at w.place Space said w ≡ record { words = words_at (after_space w.place) w; said = said; takes = true }
space_by true said w e p =
    words_emitted w.place Space said w p
    ∙ ap (λ (q : Place). record { words = words_at q w; said = said; takes = true }) (sym (quoted_space w.place p))
space_by false said w e p = space_emitted w.place said w p e

WordEmitted : Bool → ℕ → Words → Type 0
WordEmitted s b w = offered_at w.place (class_of b) (says.Byte b) w ≡ record { words = if s then words_at (after_space w.place) w else w; said = says.Byte b; takes = true }

word_by : (s : Bool) (b : ℕ) (w : Words) → (b == code " ") ≡ s → (if s then goes_on_with_space w else not (b == code "-") && goes_on_with (class_of b) w) ≡ true
    → WordEmitted s b w
unfolding WordEmitted
word_by true b w e p =
    ap (λ (x : Bool). offered_at w.place (if x then Space else (if b == code "\"" then Quote else Other)) (says.Byte b) w) e
    ∙ space_by (is_ninth w) (says.Byte b) w refl p
word_by false b w e p = words_emitted w.place (class_of b) (says.Byte b) w (and-second (not (b == code "-")) (goes_on_with (class_of b) w) p)

no_hyphen_by : (n s : Bool) (b : ℕ) (w : Words) → (b == code "\n") ≡ n → (b == code " ") ≡ s
    → (if n then not (is_ninth w) else if s then goes_on_with_space w else not (b == code "-") && goes_on_with (class_of b) w) ≡ true → (b == code "-") ≡ false
no_hyphen_by true s b w e f p = grind (arith, nat_tests)
no_hyphen_by false true b w e f p = grind (arith, nat_tests)
no_hyphen_by false false b w e f p = is_not (b == code "-") (and-first (not (b == code "-")) (goes_on_with (class_of b) w) p)

words_by : (n : Bool) (b : ℕ) (w : Words) (h : Half) → (b == code "\n") ≡ n
    → (if n then not (is_ninth w) else if b == code " " then goes_on_with_space w else not (b == code "-") && goes_on_with (class_of b) w) ≡ true
    → (if not n then among_words w (class_of b) (says.Byte b) (gone_by b h) else if is_ninth w then left (says.Byte (code "\"")) (record h { line = lines.Request }) else saying b lines.Start h)
    ≡ goes b (if n then lines.Start else lines.Words (word_taken b w)) h
unfolding goes WordEmitted
words_by true b w h e p =
    ap (λ (x : Bool). if x then left (says.Byte (code "\"")) (record h { line = lines.Request }) else saying b lines.Start h) (is_not (is_ninth w) p)
words_by false b w h e p =
    ap (λ (t : WordsEmitted). as_offered t (gone_by b h)) (word_by (b == code " ") b w refl p)

words_offered : (w : Words) (b : ℕ) (h : Half) → is_moved b h ≡ false → word_as_is b w ≡ true → in_words w b h ≡ goes b (line_taken (lines.Words w) b) h
words_offered w b h still p =
    ap (λ (x : Bool). if x then word_moved w b h else
    (if (b == code "-") && turns_hyphens h && not (begins_word w) then hyphen (lines.Words w) h else
    (if not (b == code "\n") then among_words w (class_of b) (says.Byte b) (gone_by b h) else
    (if is_ninth w then left (says.Byte (code "\"")) (record h { line = lines.Request }) else saying b lines.Start h)))) still
    ∙ ap (λ (x : Bool). if x && turns_hyphens h && not (begins_word w) then hyphen (lines.Words w) h else
    if not (b == code "\n") then among_words w (class_of b) (says.Byte b) (gone_by b h) else
    if is_ninth w then left (says.Byte (code "\"")) (record h { line = lines.Request }) else saying b lines.Start h)
    (no_hyphen_by (b == code "\n") (b == code " ") b w refl refl p)
    ∙ words_by (b == code "\n") b w h refl p

-- ---- by where the line is read

rest_offered : (l : Line) (b : ℕ) (h : Half) → h.line ≡ l → (b == carriage_return) ≡ false → in_rest b h ≡ goes b (if b == code "\n" then lines.Start else l) h
unfolding goes
rest_offered l b h e back =
    ap (λ (x : Bool). if x then taken says.Nothing h else saying b (if b == code "\n" then lines.Start else h.line) h) back
    ∙ ap (λ (m : Line). saying b (if b == code "\n" then lines.Start else m) h) e

line_offered : (line : Line) (b : ℕ) (h : Half) → h.line ≡ line → (b == carriage_return) ≡ false → is_moved b h ≡ false → is_as_is_at line b h ≡ true
    → in_line_at line b h ≡ goes b (line_taken line b) h
line_offered lines.Request b h e back still p = rest_offered lines.Request b h e back
line_offered lines.Stored b h e back still p = rest_offered lines.Stored b h e back
line_offered lines.Fonts b h e back still p = fonts_offered b h still p
line_offered lines.Text b h e back still p = text_offered b h still p
line_offered lines.Start b h e back still p = start_offered b h still p
line_offered (lines.Words words) b h e back still p = words_offered words b h still p
line_offered line b h e back still p = absurd (let no : false ≡ true = p in cc)

-- ---- what is half read then

gone_as : Bool → Bool → ℕ → Half → Half
gone_as x m b h = if x then line_after h else (if m then record h { before = followed (mark_of b) h.before } else h)

gone_line : (x m : Bool) (b : ℕ) (h : Half) (l : Line) → record (gone_as x m b h) { line = l } ≡ gone_as x m b (record h { line = l })
unfolding gone_as
gone_line true m b h l = refl
gone_line false true b h l = refl
gone_line false false b h l = refl

goes_is : (b : ℕ) (h : Half) → goes b (line_taken h.line b) h ≡ taken (says.Byte b) (taken_as_is b h)
unfolding goes gone_as
goes_is b h = ap (taken (says.Byte b)) (gone_line (b == code "\n") h.manual b h (line_taken h.line b))

-- ---- so it is read

pub as_is_offers : (b : ℕ) (h : Half) → is_as_is b h ≡ true → offer (comings.Byte b) h ≡ taken (says.Byte b) (taken_as_is b h)
as_is_offers b h p =
    let passes = may_pass b in
    let back = not (b == code "\\") in
    let free = is_open h in
    let at = is_as_is_at h.line b h in
    let plain = is_plain h.escape in
    let three = and-first (passes && back && free) at p in
    let both = and-first (passes && back) free three in
    let clear = and-second (passes && back) free three in
    let no_return = is_not (b == carriage_return) (and-second (nat_lt b 127) (not (b == carriage_return)) (and-first passes back both)) in
    let still = stays b h no_return (is_not h.translating (and-second plain (not h.translating) clear)) in
    ap (λ (x : Bool). if x then plain_byte b h else in_escape b h) (and-first plain (not h.translating) clear)
    ∙ ap (λ (x : Bool). if x && takes_escape h.line then beginning h else in_line b h)
    (is_not (b == code "\\") (and-second passes back both))
    ∙ line_offered h.line b h refl no_return still (and-second (passes && back && free) at p)
    ∙ goes_is b h

pub as_is_ascii : (b : ℕ) (h : Half) → is_as_is b h ≡ true → nat_lt b 127 ≡ true
as_is_ascii b h p =
    let passes = may_pass b in
    let back = not (b == code "\\") in
    let free = is_open h in
    and-first (nat_lt b 127) (not (b == carriage_return))
    (and-first passes back (and-first (passes && back) free (and-first (passes && back && free) (is_as_is_at h.line b h) p)))

pub heard_byte_taken : (b : ℕ) (r : Reader) (h : Half) → nat_lt b 127 ≡ true → offer (comings.Byte b) r.half ≡ taken (says.Byte b) h
    → heard (comings.Byte b) r ≡ emitted (with_half h r) (b ∷ []) 1
unfolding heard
heard_byte_taken b r h ascii e =
    ap (λ (m : Offered). preceded (bytes_of r.table m.said) 1 (if m.takes then emitted (with_half m.half r) [] 0 else heard_in 5 (comings.Byte b) (with_half m.half r))) e
    ∙ ap (λ (x : ℕ). emitted (with_half h r) (x ∷ []) 1) (sent_is r.table b (ascii-goes r.table b ascii))

-- where nothing is pending, nothing is heard of it
pub none_heard : (p : Pending) (r : Reader) → p ≡ pendings.Nothing → r.pending ≡ p → pending_with pendings.Nothing r ≡ r
none_heard p r e is = ap (λ (q : Pending). pending_with q r) (sym (is ∙ e))

pub nothing_pending : (b : ℕ) (r : Reader) → r.pending ≡ pendings.Nothing → heard_byte b r ≡ fresh b r
nothing_pending b r e =
    let same : pending_with pendings.Nothing r ≡ r = none_heard r.pending r e refl in
    ap (λ (p : Pending). heard_after p b r) e
    ∙ ap (λ (p : Pending). then_emitted (strays p (pending_with pendings.Nothing r)) (λ s. fresh b s)) e
    ∙ ap (λ (s : Reader). preceded [] 0 (fresh b s)) same
    ∙ preceded-none (fresh b r)

pub read_as_is : (b : ℕ) (r : Reader) → r.pending ≡ pendings.Nothing → is_raw r.half.line ≡ false → is_as_is b r.half ≡ true
    → read b r ≡ emitted (with_half (taken_as_is b r.half) r) (b ∷ []) 1
read_as_is b r none cooked p =
    let ascii = as_is_ascii b r.half p in
    ap (λ (x : Bool). if x then emitted (with_half (passing b r.half) r) (sent r.table b ∷ []) 1 else heard_byte b r) cooked
    ∙ nothing_pending b r none
    ∙ ap (λ (x : Bool). if x then heard (comings.Byte b) r else (if is_lead b then emitted (pending_with (pendings.One b) r) [] 0 else stray b r)) ascii
    ∙ heard_byte_taken b r (taken_as_is b r.half) ascii (as_is_offers b r.half p)

-- however often it was offered before
pub heard_as_is : (n b : ℕ) (r : Reader) → 0 < n → is_as_is b r.half ≡ true → heard_in n (comings.Byte b) r ≡ emitted (with_half (taken_as_is b r.half) r) (b ∷ []) 1
heard_as_is n b r some p =
    let c = comings.Byte b in
    let k = n - 1 in
    let e : n ≡ suc k = omega arith in
    ap (λ (m : ℕ). heard_in m c r) e
    ∙ ap (λ (m : Offered). preceded (bytes_of r.table m.said) 1 (if m.takes then emitted (with_half m.half r) [] 0 else heard_in k c (with_half m.half r))) (as_is_offers b r.half p)
    ∙ ap (λ (x : ℕ). emitted (with_half (taken_as_is b r.half) r) (x ∷ []) 1) (sent_is r.table b (ascii-goes r.table b (as_is_ascii b r.half p)))

pub Passes-more : (r s t : Reader) (bs : List ℕ) (i : ℕ) → Passes i bs r s → i < length bs
    → read (get_or bs i 0) s ≡ emitted t (get_or bs i 0 ∷ []) 1 → Passes (i + 1) bs r t
Passes-more r s t bs i before l next =
    let xs = take i bs in
    let b = get_or bs i 0 in
    let prefix : take (i + 1) bs ≡ xs ++ b ∷ [] = rw add-one (take-suc bs i 0 l) in
    let one : fed s (b ∷ []) ≡ emitted t (b ∷ []) 1 = ap (λ (u : Emitted). then_emitted u (λ v. emitted v [] 0)) next in
    let both : fed r (xs ++ b ∷ []) ≡ emitted t (xs ++ b ∷ []) (i + 1) =
    fed-append r xs (b ∷ []) ∙ ap (λ (u : Emitted). then_emitted u (λ v. fed v (b ∷ []))) before ∙ ap (preceded xs i) one in
    rw prefix both

-- first some, then of the first k that are left
pub Passes-both : (n m k : ℕ) (bs : List ℕ) (r s t : Reader) → m ≤ k → Passes n bs r s → Passes m (take k (drop n bs)) s t → Passes (n + m) bs r t
Passes-both n m k bs r s t l before next =
    let xs = take n bs in
    let ys = take m (drop n bs) in
    let P : List ℕ → Type 0 = λ zs. fed s zs ≡ emitted t zs m in
    let more : fed s ys ≡ emitted t ys m = subst P (take-take m k (drop n bs) l) next in
    let whole : take (n + m) bs ≡ xs ++ ys = take-add n m bs in
    let both : fed r (xs ++ ys) ≡ emitted t (xs ++ ys) (n + m) =
    fed-append r xs ys ∙ ap (λ (u : Emitted). then_emitted u (λ v. fed v ys)) before ∙ ap (preceded xs n) more in
    rw whole both
