-- Lines of text and of requests go out piece by piece.
use Prim.Native.Char.{code}
use Rattle.std.proofs.Common.{◌≡◌, ℕ, suc, ◌+◌, ◌<◌, List, [], ◌∷◌, ◌++◌, length, take, Bool, true, false, not, ◌==◌, ◌&&◌, ◌||◌, nat_lt, if◌then◌else◌, refl, sym, ◌∙◌, ap, subst, append_assoc, append-nil, arith, length-append}
use Rattle.std.specs.Prelude.{codes}
use Rattle.std.proofs.lemmas.Bool.Decides.{nat_tests}
use Rattle.nr_units.specs.Name.{is_full}
use Rattle.preconv_characters.specs.declared.target.Target.{Target}
use Rattle.preconv_characters.specs.declared.said.Said.TheVariants as says
use Rattle.preconv_lines.specs.declared.half.Half.{Half}
use Rattle.preconv_lines.specs.declared.half.Line.TheVariants as lines
use Rattle.preconv_characters.specs.declared.marks.Mark.{Mark}
use Rattle.preconv_lines.specs.declared.half.Coming.TheVariants as comings
use Rattle.preconv_characters.specs.declared.beginnings.Opens.{Opens}
use Rattle.preconv_characters.specs.declared.beginnings.Opens.TheVariants as opens
use Rattle.preconv_characters.specs.declared.words.Words.{Words}
use Rattle.preconv_characters.specs.declared.words.Place.TheVariants as places
use Rattle.preconv_characters.specs.declared.words.Fonts.{Fonts}
use Rattle.preconv_characters.specs.declared.words.Fonts.TheVariants as fonts
use Rattle.preconv_characters.specs.Words.{first_words}
use Rattle.preconv_lines.specs.Half.{taken, left}
use Rattle.preconv_characters.specs.Marks.{mark_of}
use Rattle.preconv_lines.specs.Hyphens.{placed, saying, in_text as text_offered, line_after}
use Rattle.preconv_characters.specs.Saying.{all_sent}
use Rattle.preconv_characters.specs.Beginnings.{opened, said_name, is_alone}
use Rattle.preconv_lines.specs.Conditions.{is_gap}
use Rattle.preconv_lines.specs.Lines.{is_control, ends_name, control as control_offered, naming, named_line}
use Rattle.preconv_lines.specs.Lines.{follows_tag, begins_apart, breaking, at_start, opening}
use Rattle.preconv_lines.specs.Offering.{offer, beginning}
use Rattle.preconv_converter.specs.Reading.{Emitted, emitted, preceded, then_emitted, fed, finished}
use Rattle.preconv_converter.specs.Reading.{first_reader}
use Rattle.preconv_converter.specs.Pieces.{Piece, Same, all_were, all_become}
use Rattle.preconv_converter.specs.WrittenLines.{is_sign, all_are, begins_text, is_text, each, is_letter}
use Rattle.preconv_converter.specs.WrittenLines.{passes, is_name, begins_blank, is_word, are_words}
use Rattle.preconv_converter.specs.WrittenLines.{written_word, written_words, takes_words, is_line, are_lines}
use Rattle.preconv_converter.specs.WrittenLines.{written_line, written_lines}
use Rattle.preconv_converter.specs.WordLaws.{LinesGoOut, PagesGoOut}
use Rattle.preconv_converter.specs.WrittenLines as written
use Rattle.preconv_converter.proofs.AtOnce.{placed_as}
use Rattle.preconv_converter.proofs.Plain.{and-first, and-second, is_not}
use Rattle.preconv_converter.proofs.Reading.{fed-append}
use Rattle.preconv_characters.proofs.SentWhole.{sent_is}
use Rattle.preconv_converter.proofs.Sent.{ascii-goes}
use Rattle.preconv_converter.proofs.Controls.{no_blank}
use Rattle.preconv_converter.specs.Runs.{goes_on_comment}
use Rattle.preconv_converter.proofs.CommentsGo.{sames, sames_become, sames_were, comment_reads}
use Rattle.preconv_converter.proofs.SignsGo.{text_line}
use Rattle.preconv_converter.proofs.WordsGo.{between, ends, blank_hears, newline_hears as words_end}
use Rattle.preconv_converter.proofs.WordSigns.{word_reads, words_read}
use Rattle.preconv_converter.proofs.Spots.{open_half, name_half, Among, Spot, Starts, Flows, Rests, Stores}
use Rattle.preconv_converter.proofs.Spots.{Closes, Controls, Names, half_of, held, begins, in_rest, at, Hears}
use Rattle.preconv_converter.proofs.Spots.{hears_taken, hears_left, Reads, reads_byte, reads_both, reads_none}
use Rattle.preconv_converter.proofs.Spots.{named, reads_exact, all_become-append, all_were-append}
use Rattle.preconv_converter.proofs.TextGoes.{IsText, text_is, same_byte, saying_is, same_takes, empty_hears}
use Rattle.preconv_converter.proofs.TextGoes.{line_hears}

-- ---- an empty line

empty_line : (t : Target) (p : Spot) → begins p ≡ true → Reads begins t p (codes "\n")
empty_line t p there =
    reads_byte begins begins t p (code "\n") [] refl (line_hears begins 5 t (code "\n") (λ h. empty_hears 4 t h) (λ h. empty_hears 3 t h) p there) (λ q k. reads_none begins t q k)

-- ---- a control character

pub in_control : Spot → Bool
in_control (Controls h) = true
in_control p = false

control_by : (x : Bool) (m : Mark) (h : Half) → record (placed_as x m (record (open_half lines.Start h) { name = []; conditional = false })) { line = lines.Control } ≡ name_half lines.Control [] (placed_as x m h)
control_by true m h = refl
control_by false m h = refl

control_is : (b : ℕ) → is_control b ≡ true → IsText b
control_is b e = record { ascii = grind (arith, nat_tests); newline = grind (arith, nat_tests); return = grind (arith, nat_tests); backslash = grind (arith, nat_tests) }

control_hears : (n : ℕ) (t : Target) (b : ℕ) (h : Half) → is_control b ≡ true → Hears in_control (suc n) t (Starts h) b
unfolding in_control
control_hears n t b h e =
    let is = control_is b e in
    let k : Half = record (open_half lines.Start h) { name = []; conditional = false } in
    hears_taken in_control n t (Starts h) b
    (same_takes in_control t b (Controls (placed (mark_of b) h)) _ refl is.ascii
    (ap (λ (x : Bool). if x && true then beginning (open_half lines.Start h) else at_start b (open_half lines.Start h)) is.backslash
    ∙ ap (λ (x : Bool). if x then control_offered false b (open_half lines.Start h) else if follows_tag h && begins_apart b then breaking b (open_half lines.Start h) else if b == code "\n" then saying b lines.Start (open_half lines.Start h) else text_offered b (open_half lines.Start h)) e
    ∙ ap (λ (x : Bool). taken (says.Byte b) (record (if x then line_after k else placed (mark_of b) k) { line = lines.Control })) is.newline
    ∙ ap (taken (says.Byte b)) (control_by h.manual (mark_of b) h)) refl)

-- ---- a name

record IsLetter (b : ℕ) : Type 0 where
  text : IsText b
  goes_on : ends_name b ≡ false
  gap : is_gap b ≡ false

letter_is : (b : ℕ) → is_letter b ≡ true → IsLetter b
letter_is b p =
    let goes = is_not (ends_name b) (and-second (is_text b) (not (ends_name b)) p) in
    record { text = text_is b (and-first (is_text b) (not (ends_name b)) p); goes_on = goes; gap = no_gap b goes }
  where
    no_gap : (b : ℕ) → ends_name b ≡ false → is_gap b ≡ false
    no_gap b e = grind (arith, nat_tests)

first_offered : (b : ℕ) (h : Half) → IsLetter b → (x : Bool) → ((b == code ".") && h.defining) ≡ x → offer (comings.Byte b) (name_half lines.Control [] h) ≡ taken says.Nothing (name_half lines.Name (b ∷ []) h)
first_offered b h is true e =
    let same : b ≡ code "." = same_byte b (code ".") (and-first (b == code ".") h.defining e) in
    rw (is.text.backslash, e, same) refl
first_offered b h is false e = rw (is.goes_on, is.text.backslash, e, is.gap) refl

next_offered : (b : ℕ) (name : List ℕ) (h : Half) → IsLetter b → is_full name ≡ false → offer (comings.Byte b) (name_half lines.Name name h) ≡ taken says.Nothing (name_half lines.Name (name ++ b ∷ []) h)
next_offered b name h is room = rw (is.goes_on, is.text.backslash, room) refl

no_full : (name bs : List ℕ) → length name + suc (length bs) < 32 → is_full name ≡ false
no_full name bs l = grind (arith, nat_tests)

less_room : (name bs : List ℕ) (b : ℕ) → length name + suc (length bs) < 32 → length (name ++ b ∷ []) + length bs < 32
less_room name bs b l = let e = length-append name (b ∷ []) in omega (arith, e)

add_one : (n : ℕ) → 1 + n ≡ suc n
add_one n = omega arith

name_read : (t : Target) (bs : List ℕ) → each is_letter bs ≡ true → (name : List ℕ) (h : Half) → length name + length bs < 32 → fed (at t (Names name h)) bs ≡ emitted (at t (Names (name ++ bs) h)) [] (length bs)
name_read t [] all name h l = ap (λ (xs : List ℕ). emitted (at t (Names xs h)) [] 0) (sym (append-nil name))
name_read t (b ∷ bs) all name h l =
    let is = letter_is b (and-first (is_letter b) (each is_letter bs) all) in
    let one = named t (Names name h) (Names (name ++ b ∷ []) h) b is.text.ascii (next_offered b name h is (no_full name bs l)) in
    fed-append (at t (Names name h)) (b ∷ []) bs
    ∙ ap (λ (u : Emitted). then_emitted u (λ s. fed s bs)) one
    ∙ ap (preceded [] 1) (name_read t bs (and-second (is_letter b) (each is_letter bs) all) (name ++ b ∷ []) h (less_room name bs b l))
    ∙ ap (λ (xs : List ℕ). emitted (at t (Names xs h)) [] (1 + length bs)) (append_assoc name (b ∷ []) bs)
    ∙ ap (λ (n : ℕ). emitted (at t (Names (name ++ b ∷ bs) h)) [] n) (add_one (length bs))

-- ---- what goes out of a name

letters_sent : (t : Target) (bs : List ℕ) → each is_letter bs ≡ true → all_sent t bs ≡ bs
letters_sent t [] all = refl
letters_sent t (b ∷ bs) all =
    let is = letter_is b (and-first (is_letter b) (each is_letter bs) all) in
    ap (λ (x : ℕ). x ∷ all_sent t bs) (sent_is t b (ascii-goes t b is.text.ascii))
    ∙ ap (λ (xs : List ℕ). b ∷ xs) (letters_sent t bs (and-second (is_letter b) (each is_letter bs) all))

-- ---- the rest of a line

stores : Bool → Half → Spot
stores x h = if x then Stores h else Rests h

is_stored : Opens → Bool
is_stored opens.Stored = true
is_stored o = false

opened_half : Opens → ℕ → List ℕ → Half → Half
opened_half o c name h = record (opening o c (name_half lines.Name name h)) { name = [] }

short_name : (x : Bool) (name : List ℕ) (o : Half) → not x ≡ true → left (says.Kept (if x then take 2 name else name)) o ≡ left (says.Kept name) o
short_name false name o p = refl
short_name true name o p = absurd (let no : false ≡ true = p in cc)

opened_left : (o : Opens) (c : ℕ) (name : List ℕ) (h : Half) → (c == code "\\") ≡ false → passes o (length name) ≡ true
    → left (said_name o name c) (opened_half o c name h) ≡ left (says.Kept name) (half_of (stores (is_stored o) (opened_half o c name h)))
unfolding stores is_stored opened_half
opened_left opens.Rest c name h back p = ap (λ (xs : List ℕ). left (says.Kept xs) (opened_half opens.Rest c name h)) (no_blank (is_alone name) name c back)
opened_left opens.End c name h back p = refl
opened_left opens.Title c name h back p = refl
opened_left opens.Plain c name h back p = refl
opened_left opens.Tagged c name h back p = refl
opened_left opens.Table c name h back p = refl
opened_left opens.TableEnd c name h back p = refl
opened_left opens.Stored c name h back p = refl
opened_left opens.Definition c name h back p = short_name (length name == 3) name _ p
opened_left o c name h back p = absurd (let no : false ≡ true = p in cc)

ended_offered : (c : ℕ) (name : List ℕ) (h : Half) → ends_name c ≡ true → (c == code "\\") ≡ false
    → offer (comings.Byte c) (name_half lines.Name name h) ≡ left (said_name (opened name) name c) (opened_half (opened name) c name h)
unfolding opened_half
ended_offered c name h ends back =
    ap (λ (x : Bool). if x && false then beginning (name_half lines.Name name h) else (if ends_name c || is_full name then named_line c (name_half lines.Name name h) else naming (name ++ c ∷ []) lines.Name (name_half lines.Name name h))) back
    ∙ ap (λ (x : Bool). if x || is_full name then named_line c (name_half lines.Name name h) else naming (name ++ c ∷ []) lines.Name (name_half lines.Name name h)) ends

rest_offered_at : (x : Bool) (b : ℕ) (h : Half) → IsText b → offer (comings.Byte b) (half_of (stores x h)) ≡ saying b (half_of (stores x h)).line (half_of (stores x h))
unfolding stores
rest_offered_at true b h is = rw (is.return, is.newline, is.backslash) refl
rest_offered_at false b h is = rw (is.return, is.newline, is.backslash) refl

rest_byte_at : (x : Bool) (n : ℕ) (t : Target) (b : ℕ) (h : Half) → IsText b → Hears in_rest (suc n) t (stores x h) b
unfolding stores
rest_byte_at true n t b h is = hears_taken in_rest n t (Stores h) b (same_takes in_rest t b (Stores (placed (mark_of b) h)) _ refl is.ascii (rest_offered_at true b h is ∙ saying_is b lines.Stored lines.Stored h is.newline) refl)
rest_byte_at false n t b h is = hears_taken in_rest n t (Rests h) b (same_takes in_rest t b (Rests (placed (mark_of b) h)) _ refl is.ascii (rest_offered_at false b h is ∙ saying_is b lines.Request lines.Request h is.newline) refl)

rest_newline_at : (x : Bool) (n : ℕ) (t : Target) (h : Half) → Hears begins (suc n) t (stores x h) (code "\n")
unfolding stores
rest_newline_at true n t h = hears_taken begins n t (Stores h) (code "\n") (same_takes begins t (code "\n") (Starts (line_after h)) _ refl refl refl refl)
rest_newline_at false n t h = hears_taken begins n t (Rests h) (code "\n") (same_takes begins t (code "\n") (Starts (line_after h)) _ refl refl refl refl)

stores_none : (x : Bool) (h : Half) → held (stores x h) ≡ []
unfolding stores
stores_none true h = refl
stores_none false h = refl

-- the name goes out, and then what ended it
opened_hears : (P : Spot → Bool) (n : ℕ) (t : Target) (c : ℕ) (name : List ℕ) (h : Half) → ends_name c ≡ true → (c == code "\\") ≡ false
    → each is_letter name ≡ true → passes (opened name) (length name) ≡ true → ((x : Bool) (k : Half) → Hears P n t (stores x k) c) → Hears P (suc n) t (Names name h) c
opened_hears P n t c name h ends back all known more =
    let o = opened name in
    let x = is_stored o in
    let k = opened_half o c name h in
    hears_left P n t (Names name h) (stores x k) c (says.Kept name) (sames name)
    (ended_offered c name h ends back ∙ opened_left o c name h back known) (letters_sent t name all ∙ sym (sames_become t name))
    (sym (ap (λ (xs : List ℕ). all_were (sames name) ++ xs) (stores_none x k) ∙ append-nil (all_were (sames name)) ∙ sames_were name)) (more x k)

rest_byte : (t : Target) (b : ℕ) → IsText b → (p : Spot) → in_rest p ≡ true → Hears in_rest 6 t p b
unfolding stores
rest_byte t b is (Stores h) there = rest_byte_at true 5 t b h is
rest_byte t b is (Rests h) there = rest_byte_at false 5 t b h is
rest_byte t b is p there = absurd (let no : false ≡ true = there in cc)

rest_newline : (t : Target) (p : Spot) → in_rest p ≡ true → Hears begins 6 t p (code "\n")
unfolding stores
rest_newline t (Stores h) there = rest_newline_at true 5 t h
rest_newline t (Rests h) there = rest_newline_at false 5 t h
rest_newline t p there = absurd (let no : false ≡ true = there in cc)

rest_reads : (t : Target) (bs : List ℕ) → each is_text bs ≡ true → (p : Spot) → in_rest p ≡ true → Reads begins t p (bs ++ codes "\n")
rest_reads t [] all p there = reads_byte begins begins t p (code "\n") [] refl (rest_newline t p there) (λ q k. reads_none begins t q k)
rest_reads t (b ∷ bs) all p there =
    let is = text_is b (and-first (is_text b) (each is_text bs) all) in
    reads_byte begins in_rest t p b (bs ++ codes "\n") is.ascii (rest_byte t b is p there) (λ q k. rest_reads t bs (and-second (is_text b) (each is_text bs) all) q k)

name_rest : (t : Target) (name rest : List ℕ) (h : Half) → each is_letter name ≡ true → passes (opened name) (length name) ≡ true → begins_blank rest ≡ true → each is_text rest ≡ true
    → Reads begins t (Names name h) (rest ++ codes "\n")
name_rest t name [] h all known blank texts =
    reads_byte begins begins t (Names name h) (code "\n") [] refl (opened_hears begins 5 t (code "\n") name h refl refl all known (λ x k. rest_newline_at x 4 t k)) (λ q k. reads_none begins t q k)
name_rest t name (b ∷ bs) h all known blank texts =
    let is = text_is b (and-first (is_text b) (each is_text bs) texts) in
    let ends : ends_name b ≡ true = subst (λ (c : ℕ). ends_name c ≡ true) (sym (same_byte b (code " ") blank)) refl in
    reads_byte begins in_rest t (Names name h) b (bs ++ codes "\n") is.ascii (opened_hears in_rest 5 t b name h ends is.backslash all known (λ x k. rest_byte_at x 4 t b k is))
    (λ q k. rest_reads t bs (and-second (is_text b) (each is_text bs) texts) q k)

-- ---- words after the name

fonts_of : Opens → Fonts
fonts_of (opens.Words f) = f
fonts_of o = fonts.Tag

words_left : (o : Opens) (c : ℕ) (name : List ℕ) (h : Half) → takes_words o ≡ true
    → left (said_name o name c) (opened_half o c name h) ≡ left (says.Kept name) (half_of (Flows (Among places.Between (first_words (fonts_of o))) (opened_half o c name h)))
unfolding fonts_of opened_half
words_left (opens.Words f) c name h p = refl
words_left opens.Paragraph c name h p = refl
words_left opens.Address c name h p = refl
words_left o c name h p = absurd (let no : false ≡ true = p in cc)

words_opened : (P : Spot → Bool) (n : ℕ) (t : Target) (c : ℕ) (name : List ℕ) (h : Half) → ends_name c ≡ true → (c == code "\\") ≡ false
    → each is_letter name ≡ true → takes_words (opened name) ≡ true → ((w : Words) (k : Half) → Hears P n t (Flows (Among places.Between w) k) c) → Hears P (suc n) t (Names name h) c
words_opened P n t c name h ends back all known more =
    let o = opened name in
    let k = opened_half o c name h in
    hears_left P n t (Names name h) (Flows (Among places.Between (first_words (fonts_of o))) k) c (says.Kept name) (sames name)
    (ended_offered c name h ends back ∙ words_left o c name h known) (letters_sent t name all ∙ sym (sames_become t name))
    (sym (append-nil (all_were (sames name)) ∙ sames_were name)) (more (first_words (fonts_of o)) k)

name_words : (t : Target) (name : List ℕ) (ws : List written.Word) (h : Half) → each is_letter name ≡ true → takes_words (opened name) ≡ true → are_words ws ≡ true
    → Reads begins t (Names name h) (written_words ws)
name_words t name [] h all known words =
    reads_byte begins begins t (Names name h) (code "\n") [] refl (words_opened begins 5 t (code "\n") name h refl refl all known (λ w k. words_end 3 t places.Between w k)) (λ q k. reads_none begins t q k)
name_words t name (w ∷ ws) h all known words =
    reads_byte begins between t (Names name h) (code " ") (written_word w (written_words ws)) refl
    (words_opened between 5 t (code " ") name h refl refl all known (λ v k. blank_hears 4 t places.Between v k refl))
    (λ q k. word_reads t w (written_words ws) (and-first (is_word w) (are_words ws) words) (λ r l. words_read t ws (and-second (is_word w) (are_words ws) words) r l) q k)

-- ---- lines

below_full : (n : ℕ) → nat_lt (suc n) 32 ≡ true → 1 + n < 32
below_full n p = grind (arith, nat_tests)

whole_name : (t : Target) (b : ℕ) (bs : List ℕ) (h : Half) → is_name (b ∷ bs) ≡ true → fed (at t (Controls h)) (b ∷ bs) ≡ emitted (at t (Names (b ∷ bs) h)) [] (1 + length bs)
whole_name t b bs h p =
    let all = and-first (each is_letter (b ∷ bs)) (nat_lt (length (b ∷ bs)) 32) p in
    let is = letter_is b (and-first (is_letter b) (each is_letter bs) all) in
    fed-append (at t (Controls h)) (b ∷ []) bs
    ∙ ap (λ (u : Emitted). then_emitted u (λ s. fed s bs)) (named t (Controls h) (Names (b ∷ []) h) b is.text.ascii (first_offered b h is ((b == code ".") && h.defining) refl))
    ∙ ap (preceded [] 1) (name_read t bs (and-second (is_letter b) (each is_letter bs) all) (b ∷ []) h (below_full (length bs) (and-second (each is_letter (b ∷ bs)) (nat_lt (length (b ∷ bs)) 32) p)))

control_line : (P : Spot → Bool) (t : Target) (b : ℕ) (bs : List ℕ) → is_control b ≡ true → ((h : Half) → Reads P t (Controls h) bs) → (p : Spot) → begins p ≡ true → Reads P t p (b ∷ bs)
unfolding in_control
control_line P t b bs e more p there =
    reads_byte P in_control t p b bs (control_is b e).ascii (line_hears in_control 5 t b (λ h. control_hears 5 t b h e) (λ h. control_hears 4 t b h e) p there) rest
  where
    rest : (q : Spot) → in_control q ≡ true → Reads P t q bs
    rest (Controls h) k = more h
    rest q k = absurd (let no : false ≡ true = k in cc)

alone : (t : Target) (h : Half) → Reads begins t (Controls h) (codes "\n")
unfolding stores
alone t h =
    reads_byte begins begins t (Controls h) (code "\n") [] refl
    (hears_left begins 5 t (Controls h) (Rests (record h { name = []; conditional = false })) (code "\n") (says.Kept []) [] refl refl refl (rest_newline_at false 4 t (record h { name = []; conditional = false })))
    (λ q k. reads_none begins t q k)

request : (t : Target) (b : ℕ) (bs rest : List ℕ) (h : Half) → is_name (b ∷ bs) ≡ true → passes (opened (b ∷ bs)) (length (b ∷ bs)) ≡ true → begins_blank rest ≡ true → each is_text rest ≡ true
    → Reads begins t (Controls h) ((b ∷ bs) ++ (rest ++ codes "\n"))
request t b bs rest h name known blank texts =
    reads_exact begins t (Controls h) (Names (b ∷ bs) h) (b ∷ bs) (rest ++ codes "\n") (1 + length bs) (whole_name t b bs h name) refl
    (name_rest t (b ∷ bs) rest h (and-first (each is_letter (b ∷ bs)) (nat_lt (length (b ∷ bs)) 32) name) known blank texts)

font_line : (t : Target) (b : ℕ) (bs : List ℕ) (ws : List written.Word) (h : Half) → is_name (b ∷ bs) ≡ true → takes_words (opened (b ∷ bs)) ≡ true → are_words ws ≡ true
    → Reads begins t (Controls h) ((b ∷ bs) ++ written_words ws)
font_line t b bs ws h name known words =
    reads_exact begins t (Controls h) (Names (b ∷ bs) h) (b ∷ bs) (written_words ws) (1 + length bs) (whole_name t b bs h name) refl
    (name_words t (b ∷ bs) ws h (and-first (each is_letter (b ∷ bs)) (nat_lt (length (b ∷ bs)) 32) name) known words)

line_reads : (t : Target) (l : written.Line) → is_line l ≡ true → (p : Spot) → begins p ≡ true → Reads begins t p (written_line l)
line_reads t written.EmptyLine is p there = empty_line t p there
line_reads t (written.CommentLine control bs) is p there =
    control_line begins t control (code "\\" ∷ code "\"" ∷ (bs ++ codes "\n")) (and-first (is_control control) (each goes_on_comment bs) is)
    (λ h. comment_reads t bs h (and-second (is_control control) (each goes_on_comment bs) is)) p there
line_reads t (written.TextLine s ss) is p there =
    let sign = is_sign s in
    let first = begins_text s in
    let two = and-first (sign && first) (all_are is_sign ss) is in
    text_line t s ss (and-first sign first two) (and-second sign first two) (and-second (sign && first) (all_are is_sign ss) is) p there
line_reads t (written.ControlLine control) is p there = control_line begins t control (codes "\n") is (λ h. alone t h) p there
line_reads t (written.RequestLine control b bs rest) is p there =
    let c = is_control control in
    let name = is_name (b ∷ bs) in
    let known = passes (opened (b ∷ bs)) (length (b ∷ bs)) in
    let last = begins_blank rest && each is_text rest in
    let three = and-first (c && name && known) last is in
    let two = and-first (c && name) known three in
    let end = and-second (c && name && known) last is in
    control_line begins t control ((b ∷ bs) ++ (rest ++ codes "\n")) (and-first c name two)
    (λ h. request t b bs rest h (and-second c name two) (and-second (c && name) known three) (and-first (begins_blank rest) (each is_text rest) end) (and-second (begins_blank rest) (each is_text rest) end)) p there
line_reads t (written.WordsLine control b bs ws) is p there =
    let c = is_control control in
    let name = is_name (b ∷ bs) in
    let known = takes_words (opened (b ∷ bs)) in
    let three = and-first (c && name && known) (are_words ws) is in
    let two = and-first (c && name) known three in
    control_line begins t control ((b ∷ bs) ++ written_words ws) (and-first c name two)
    (λ h. font_line t b bs ws h (and-second c name two) (and-second (c && name) known three) (and-second (c && name && known) (are_words ws) is)) p there

lines_read : (t : Target) (ls : List written.Line) → are_lines ls ≡ true → (p : Spot) → begins p ≡ true → Reads begins t p (written_lines ls)
lines_read t [] all p there = reads_none begins t p there
lines_read t (l ∷ ls) all p there =
    reads_both begins begins t p (written_line l) (written_lines ls) (line_reads t l (and-first (is_line l) (are_lines ls) all) p there) (λ q k. lines_read t ls (and-second (is_line l) (are_lines ls) all) q k)

-- ---- a page

last : Spot → List Piece
last (Closes h) = Same (code "\n") ∷ []
last p = []

left_out : (t : Target) (p : Spot) → begins p ≡ true → finished (at t p) ≡ all_become t (last p)
unfolding last
left_out t (Starts h) there = refl
left_out t (Closes h) there = refl
left_out t p there = absurd (let no : false ≡ true = there in cc)

left_were : (p : Spot) → begins p ≡ true → held p ≡ all_were (last p)
unfolding last
left_were (Starts h) there = refl
left_were (Closes h) there = refl
left_were p there = absurd (let no : false ≡ true = there in cc)

pub lines_go_out : LinesGoOut
lines_go_out r ls all =
    let t = r.table in
    let p = Starts r.half in
    let page = written_lines ls in
    let k = lines_read t ls all p refl in
    record {
      pieces = k.pieces ++ last k.next;
      came =
          k.all
          ∙ ap (λ (xs : List ℕ). all_were k.pieces ++ xs) (left_were k.next k.there)
          ∙ sym (all_were-append k.pieces (last k.next));
      goes =
          ap (λ (u : Emitted). u.bytes ++ finished u.reader) k.read
          ∙ ap (λ (xs : List ℕ). all_become t k.pieces ++ xs) (left_out t k.next k.there)
          ∙ sym (all_become-append t k.pieces (last k.next));
    }

pub pages_go_out : PagesGoOut
pages_go_out t ls all = lines_go_out (first_reader t) ls all
