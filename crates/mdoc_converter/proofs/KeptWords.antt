-- The bytes of a word are kept, between quotes or not; where they have no room, what was kept goes out first.
use Rattle.std.proofs.Common.{◌≡◌, ℕ, ◌≤◌, ◌<◌, ◌+◌, List, [], ◌∷◌, ◌++◌, length, Bool, true, false, not, ◌&&◌, ◌||◌, ◌==◌, nat_lt, if◌then◌else◌, Option, None, Some, refl, sym, ◌∙◌, ap, subst, append-nil, arith}
use Rattle.std.proofs.lemmas.Bool.Decides.{nat_tests}
use Rattle.std.specs.Prelude.{codes}
use Prim.Native.Char.{code}
use Rattle.mdoc_layout.specs.declared.acts.Act.TheVariants as acts
use Rattle.mdoc_layout.specs.declared.page.Escape.{Escape as Reached}
use Rattle.mdoc_layout.specs.declared.page.Escape.TheVariants as escapes
use Rattle.mdoc_layout.specs.declared.page.Inside.{Inside}
use Rattle.mdoc_layout.specs.declared.page.Inside.TheVariants as insides
use Rattle.mdoc_layout.specs.declared.page.Page.{Page}
use Rattle.mdoc_layout.specs.declared.page.Scan.{Scan}
use Rattle.mdoc_layout.specs.declared.page.Scan.TheVariants as scans
use Rattle.mdoc_words.specs.Rules.{is_none, with_scan}
use Rattle.mdoc_words.specs.Words.{goes_to}
use Rattle.mdoc_words.specs.Escaping.{escape_then}
use Rattle.mdoc_words.specs.Keeping.{comment, continued, ends_escape, ends_in_hyphen, has_dashes, in_named, in_word_of, is_whole, keep, keep_begun, keep_blank, keep_byte, keep_escape, keep_quote, looks_up, turns, within, within_escape}
use Rattle.mdoc_words.specs.Options.{is_shown}
use Rattle.mdoc_converter.specs.Reading.{State}
use Rattle.mdoc_converter.specs.Scanning.{offer, offer_at}
use Rattle.mdoc_layout.specs.Seeing.{Offered, offered, left, taken}
use Rattle.mdoc_converter.specs.WrittenLines.{Way, reached_after, holds_hyphen, Plain, is_escaped, is_held, is_letter, kept_first, kept_letter}
use Rattle.mdoc_converter.proofs.Escapes.{and_left, and_right, same_byte}
use Rattle.mdoc_converter.proofs.LongWords.{Flushed, flushed}
use Rattle.mdoc_converter.proofs.Offering.{with_page, Takes, then_takes, takes_with}
use Rattle.mdoc_converter.proofs.Stepping.{In, Manner, in_as}
use Rattle.mdoc_converter.proofs.Together.{same_whole}
use Rattle.mdoc_converter.proofs.Ways.{plain_hyphen}
use Rattle.mdoc_converter.proofs.WholeWords.{and_false}
use Rattle.mdoc_converter.proofs.WordRoom.{after_offered, full_begun, full_escape, full_named, full_plain, Kept, kept_begun, kept_escape, kept_named, kept_plain, named_offered, no_comment, no_end, no_escape, no_newline, no_room, not_ending, quotable_slash, room, scan_same, shown}

-- ---- a byte is kept

-- in a few steps it is taken, and these bytes are kept of it, after those of the word, or alone where those went out
pub record Grown (going : Bool) (head : Manner) (b : ℕ) (s : State) (scan : Scan) (word marks piece : List ℕ) : Type 0 where
  pub out : Bool
  pub next : State
  pub steps : ℕ
  pub some : 1 ≤ steps
  pub few : steps ≤ 6
  pub takes : Takes b s next steps (if out then marks ++ word else [])
  pub at : In (out || going) head next scan (if out then piece else word ++ piece) (if out then [] else marks)
  pub whole : is_whole next.page ≡ is_whole s.page
  pub long : out ≡ true → 30 ≤ length word

taken_as : (b : ℕ) (s t : State) (k : ℕ) (xs ys : List ℕ) → xs ≡ ys → Takes b s t k xs → Takes b s t k ys
taken_as b s t k xs ys e p = subst (λ (zs : List ℕ). Takes b s t k zs) e p

six : (k : ℕ) → k ≤ 5 → k + 1 ≤ 6
six k l = omega arith

never_out : (n : ℕ) → false ≡ true → 30 ≤ n
never_out n e = absurd (let no : false ≡ true = e in cc)

grown_by : (t : Bool) (going : Bool) (inside : Inside) (head : Manner) (b : ℕ) (s : State) (scan from : Scan) (word marks piece : List ℕ)
    → nat_lt (length word) 30 ≡ t → In going head s from word marks → (going ≡ true → marks ≡ [])
    → (length word < 30 → Kept going head b s scan (word ++ piece) marks)
    → (30 ≤ length word → offer b s.page ≡ offered (with_scan (scans.Long inside) s.page) (left acts.Nothing))
    → ((f : Flushed head b s inside 5 (marks ++ word)) → Kept true head b f.next scan piece [])
    → Grown going head b s scan word marks piece
grown_by true going inside head b s scan from word marks piece e at none fits full then_kept =
    let one = fits (grind (arith, nat_tests)) in
    record {
      out = false;
      next = one.next;
      steps = 1;
      some = omega arith;
      few = omega arith;
      takes = one.takes;
      at = one.at;
      whole = one.whole;
      long = never_out (length word);
    }
grown_by false going inside head b s scan from word marks piece e at none fits full then_kept =
    let long : 30 ≤ length word = grind (arith, nat_tests) in
    let f = flushed going inside head b s from word marks at none long (full long) in
    let one = then_kept f in
    record {
      out = true;
      next = one.next;
      steps = f.steps + 1;
      some = omega arith;
      few = six f.steps f.few;
      takes =
          taken_as b s one.next (f.steps + 1) ((marks ++ word) ++ []) (marks ++ word) (append-nil (marks ++ word))
          (then_takes b s f.next one.next f.steps 1 (marks ++ word) [] f.leads one.takes);
      at = one.at;
      whole = one.whole ∙ f.whole;
      long = λ h. long;
    }

-- ---- what it is offered to

in_rest : Bool → Bool → ℕ → Page → Offered
in_rest quoted blank b p = if blank then keep_blank p else keep_byte b quoted p

rest_by : Bool → Bool → Bool → ℕ → Page → Offered
rest_by quote newline slash b p =
    if quote then turns scans.Closing (taken acts.Nothing) p else
    if newline then turns (scans.Given true) (left acts.Nothing) p else
    if slash then turns scans.QuotedEscape (taken acts.Nothing) p else in_rest true ((b == code " ") && is_whole p) b p

-- a byte of a word is kept as it is, or as an escape
plain_offered : (quoted going whole : Bool) (head : Manner) (b : ℕ) (s : State) (word marks : List ℕ) → In going head s (in_word_of quoted) word marks
    → (quoted && is_whole s.page) ≡ whole → is_letter quoted (Plain b) ≡ true → (quoted && (b == code "\"")) ≡ false
    → offer b s.page ≡ in_rest quoted ((b == code " ") && whole) b s.page
unfolding offer in_rest rest_by
plain_offered false going whole head b s word marks at together h quote =
    let p = s.page in
    ap (λ (sc : Scan). offer_at sc b p) at.scan_is
    ∙ ap (λ (t : Bool). if t then offered (with_scan (scans.Given false) p) (left acts.Nothing) else if b == code "\\" then offered (with_scan scans.Escape p) (taken acts.Nothing) else keep_byte b false p) (not_ending b h)
    ∙ ap (λ (t : Bool). if t then offered (with_scan scans.Escape p) (taken acts.Nothing) else keep_byte b false p) (no_escape b h)
    ∙ ap (λ (t : Bool). in_rest false t b p) (sym (and_false (b == code " ") false refl))
    ∙ ap (λ (t : Bool). in_rest false ((b == code " ") && t) b p) together
plain_offered true going whole head b s word marks at together h quote =
    let p = s.page in
    ap (λ (sc : Scan). offer_at sc b p) at.scan_is
    ∙ ap (λ (t : Bool). rest_by t (b == code "\n") (b == code "\\") b p) quote
    ∙ ap (λ (t : Bool). rest_by false t (b == code "\\") b p) (no_end b h)
    ∙ ap (λ (t : Bool). rest_by false false t b p) (quotable_slash b h)
    ∙ ap (λ (t : Bool). in_rest true ((b == code " ") && t) b p) together

-- whether a hyphen after these bytes of a word is kept as an escape
is_kept_so : Way → List ℕ → Bool
is_kept_so way word = holds_hyphen way (ends_in_hyphen word)

byte_rest : Bool → Bool → ℕ → Page → Offered
byte_rest quoted escape b p = if escape then keep_escape b quoted p else keep b quoted p

byte_offered : (quoted going : Bool) (head : Manner) (b : ℕ) (s : State) (scan : Scan) (word marks : List ℕ) (u v : Bool) → In going head s scan word marks
    → is_none word ≡ u → is_kept_so head.way word ≡ v
    → keep_byte b quoted s.page ≡ byte_rest quoted ((b == code "-") && not u && v) b s.page
unfolding byte_rest is_kept_so
byte_offered quoted going head b s scan word marks u v at none so =
    let p = s.page in
    let m = p.call.taker in
    ap (λ (w : List ℕ). byte_rest quoted ((b == code "-") && not (is_none w) && (not (looks_up m) || (has_dashes m && ends_in_hyphen w))) b p) at.word_is
    ∙ ap (λ (t : Bool). byte_rest quoted ((b == code "-") && not t && (not (looks_up m) || (has_dashes m && ends_in_hyphen word))) b p) none
    ∙ ap (λ (t : Bool). byte_rest quoted ((b == code "-") && not u && t) b p)
    (plain_hyphen head.plain m (ends_in_hyphen word) at.fits ∙ ap (λ (way : Way). holds_hyphen way (ends_in_hyphen word)) at.way ∙ so)

escape_offered : (quoted going : Bool) (head : Manner) (b : ℕ) (s : State) (word marks : List ℕ) → In going head s (goes_to (within_escape quoted)) word marks
    → (b == code "\"") ≡ false → (b == code "\n") ≡ false → offer b s.page ≡ keep_begun b quoted s.page
unfolding offer
escape_offered false going head b s word marks at quote newline =
    let p = s.page in
    ap (λ (sc : Scan). offer_at sc b p) at.scan_is
    ∙ ap (λ (t : Bool). if t then comment false p else if b == code "\n" then continued false p else keep_begun b false p) quote
    ∙ ap (λ (t : Bool). if t then continued false p else keep_begun b false p) newline
escape_offered true going head b s word marks at quote newline =
    let p = s.page in
    ap (λ (sc : Scan). offer_at sc b p) at.scan_is
    ∙ ap (λ (t : Bool). if t then comment true p else if b == code "\n" then continued true p else keep_begun b true p) quote
    ∙ ap (λ (t : Bool). if t then continued true p else keep_begun b true p) newline

-- ---- by what it is

goes_within : (quoted : Bool) → goes_to (within quoted) ≡ in_word_of quoted
goes_within true = refl
goes_within false = refl

within_at : (quoted : Bool) (head : Manner) (s : State) → In true head s (goes_to (within quoted)) [] [] → In true head s (in_word_of quoted) [] []
within_at quoted head s at = subst (λ (sc : Scan). In true head s sc [] []) (goes_within quoted) at

plain_scan : (quoted going : Bool) (head : Manner) (b : ℕ) (s : State) (word marks : List ℕ) → In going head s (in_word_of quoted) word marks
    → offer b s.page ≡ keep b quoted s.page → offer b s.page ≡ keep b quoted (with_scan (in_word_of quoted) s.page)
plain_scan quoted going head b s word marks at e = e ∙ ap (λ (p : Page). keep b quoted p) (scan_same s.page (in_word_of quoted) at.scan_is)

-- a byte that is kept as it is, where it would be so as the first of a word
grown_plain : (quoted going : Bool) (head : Manner) (b : ℕ) (s : State) (word marks : List ℕ) → In going head s (in_word_of quoted) word marks
    → (going ≡ true → marks ≡ []) → offer b s.page ≡ keep b quoted s.page
    → ((t : State) → In true head t (in_word_of quoted) [] [] → is_whole t.page ≡ is_whole s.page → offer b t.page ≡ keep b quoted t.page)
    → Grown going head b s (in_word_of quoted) word marks (b ∷ [])
grown_plain quoted going head b s word marks at none e again =
    grown_by (nat_lt (length word) 30) going (within quoted) head b s (in_word_of quoted) (in_word_of quoted) word marks (b ∷ []) refl at none
    (λ l. kept_plain going quoted head b b s (in_word_of quoted) word marks at l (plain_scan quoted going head b s word marks at e))
    (λ l. full_plain going quoted head b b s (in_word_of quoted) word marks at l (plain_scan quoted going head b s word marks at e))
    (λ f.
    let t = within_at quoted head f.next f.at in
    kept_plain true quoted head b b f.next (in_word_of quoted) [] [] t (omega arith)
    (plain_scan quoted true head b f.next [] [] t (again f.next t f.whole)))

-- a byte that is kept after a backslash
grown_slashed : (quoted going : Bool) (head : Manner) (b : ℕ) (s : State) (scan here : Scan) (word marks : List ℕ) → In going head s scan word marks
    → (going ≡ true → marks ≡ []) → (length word < 30 → Kept going head b s here (word ++ code "\\" ∷ b ∷ []) marks)
    → (30 ≤ length word → offer b s.page ≡ offered (with_scan (scans.Long (within_escape quoted)) s.page) (left acts.Nothing))
    → (b == code "\"") ≡ false → (b == code "\n") ≡ false → in_named (escape_then escapes.Begun b) quoted ≡ here
    → Grown going head b s here word marks (code "\\" ∷ b ∷ [])
grown_slashed quoted going head b s scan here word marks at none fits full quote newline e =
    grown_by (nat_lt (length word) 30) going (within_escape quoted) head b s here scan word marks (code "\\" ∷ b ∷ []) refl at none fits full
    (λ f.
    subst (λ (sc : Scan). Kept true head b f.next sc (code "\\" ∷ b ∷ []) []) e
    (kept_begun true quoted head b b f.next (goes_to (within_escape quoted)) [] [] f.at (omega arith)
    (escape_offered quoted true head b f.next [] [] f.at quote newline)))

-- a hyphen that is kept as an escape
grown_escape : (quoted going : Bool) (head : Manner) (b : ℕ) (s : State) (scan : Scan) (word marks : List ℕ) → In going head s scan word marks
    → (going ≡ true → marks ≡ []) → offer b s.page ≡ keep_escape b quoted s.page → code "-" ≡ b
    → Grown going head b s (in_word_of quoted) word marks (code "\\" ∷ b ∷ [])
grown_escape quoted going head b s scan word marks at none e is =
    grown_slashed quoted going head b s scan (in_word_of quoted) word marks at none
    (λ l. kept_escape going quoted head b b s scan word marks at l e)
    (λ l. full_escape going quoted head b b s scan word marks at l e)
    (ap (λ (k : ℕ). k == code "\"") (sym is)) (ap (λ (k : ℕ). k == code "\n") (sym is))
    (ap (λ (k : ℕ). in_named (escape_then escapes.Begun k) quoted) (sym is))

-- a blank that stays with others, between quotes
blank_offered : (going : Bool) (head : Manner) (b : ℕ) (s : State) (word marks : List ℕ) → In going head s scans.Quoted word marks → is_whole s.page ≡ true
    → b ≡ code " " → offer b s.page ≡ keep_blank s.page
unfolding offer in_rest rest_by
blank_offered going head b s word marks at whole e =
    let p = s.page in
    ap (λ (k : ℕ). offer k p) e ∙ ap (λ (sc : Scan). offer_at sc (code " ") p) at.scan_is
    ∙ ap (λ (t : Bool). in_rest true t (code " ") p) whole

blank_rest : Page → Offered
blank_rest p = turns (scans.Long insides.Quoted) (left acts.Nothing) p

blank_room : (going : Bool) (head : Manner) (b : ℕ) (s : State) (word marks : List ℕ) → In going head s scans.Quoted word marks → length word < 30
    → offer b s.page ≡ keep_blank s.page → offer b s.page ≡ keep_escape (code "~") true s.page
unfolding blank_rest
blank_room going head b s word marks at l e =
    let p = s.page in
    e ∙ ap (λ (t : Bool). if t then keep_escape (code "~") true p else blank_rest p) (ap (λ (w : List ℕ). nat_lt (length w) 30) at.word_is ∙ room word l)

blank_full : (going : Bool) (head : Manner) (b : ℕ) (s : State) (word marks : List ℕ) → In going head s scans.Quoted word marks → 30 ≤ length word
    → offer b s.page ≡ keep_blank s.page → offer b s.page ≡ offered (with_scan (scans.Long insides.Quoted) s.page) (left acts.Nothing)
unfolding blank_rest
blank_full going head b s word marks at l e =
    let p = s.page in
    e ∙ ap (λ (t : Bool). if t then keep_escape (code "~") true p else blank_rest p) (ap (λ (w : List ℕ). nat_lt (length w) 30) at.word_is ∙ no_room word l)

grown_blank : (going : Bool) (head : Manner) (b : ℕ) (s : State) (word marks : List ℕ) → In going head s scans.Quoted word marks
    → (going ≡ true → marks ≡ []) → is_whole s.page ≡ true → b ≡ code " " → Grown going head b s scans.Quoted word marks (codes "\\~")
grown_blank going head b s word marks at none whole e =
    let here = blank_offered going head b s word marks at whole e in
    grown_by (nat_lt (length word) 30) going insides.Quoted head b s scans.Quoted scans.Quoted word marks (codes "\\~") refl at none
    (λ l. kept_escape going true head b (code "~") s scans.Quoted word marks at l (blank_room going head b s word marks at l here))
    (λ l. blank_full going head b s word marks at l here)
    (λ f.
    kept_escape true true head b (code "~") f.next scans.Quoted [] [] f.at (omega arith)
    (blank_room true head b f.next [] [] f.at (omega arith) (blank_offered true head b f.next [] [] f.at (f.whole ∙ whole) e)))

-- a quote between quotes, after a quote
quote_offered : (going : Bool) (head : Manner) (s : State) (word marks : List ℕ) → In going head s scans.Closing word marks
    → offer (code "\"") s.page ≡ keep_quote s.page
unfolding offer
quote_offered going head s word marks at = ap (λ (sc : Scan). offer_at sc (code "\"") s.page) at.scan_is

quote_rest : Bool → Page → Offered
quote_rest full p = if full then turns (scans.Long insides.Closing) (left acts.Nothing) p else keep (code "\"") true (with_scan scans.Quoted p)

quote_room : (going : Bool) (head : Manner) (s : State) (word marks : List ℕ) → In going head s scans.Closing word marks → length word < 30
    → offer (code "\"") s.page ≡ keep (code "\"") true (with_scan scans.Quoted s.page)
unfolding quote_rest
quote_room going head s word marks at l =
    let p = s.page in
    quote_offered going head s word marks at
    ∙ ap (λ (t : Bool). quote_rest (not t && is_shown p) p) (ap (λ (w : List ℕ). nat_lt (length w) 30) at.word_is ∙ room word l)

quote_full : (going : Bool) (head : Manner) (s : State) (word marks : List ℕ) → In going head s scans.Closing word marks → 30 ≤ length word
    → offer (code "\"") s.page ≡ offered (with_scan (scans.Long insides.Closing) s.page) (left acts.Nothing)
unfolding quote_rest
quote_full going head s word marks at l =
    let p = s.page in
    quote_offered going head s word marks at
    ∙ ap (λ (t : Bool). quote_rest (not t && is_shown p) p) (ap (λ (w : List ℕ). nat_lt (length w) 30) at.word_is ∙ no_room word l)
    ∙ ap (λ (t : Bool). quote_rest t p) (shown going head s scans.Closing word marks at)

pub grown_quote : (going : Bool) (head : Manner) (s : State) (word marks : List ℕ) → In going head s scans.Closing word marks
    → (going ≡ true → marks ≡ []) → Grown going head (code "\"") s scans.Quoted word marks (codes "\"")
grown_quote going head s word marks at none =
    grown_by (nat_lt (length word) 30) going insides.Closing head (code "\"") s scans.Quoted scans.Closing word marks (codes "\"") refl at none
    (λ l. kept_plain going true head (code "\"") (code "\"") s scans.Closing word marks at l (quote_room going head s word marks at l))
    (λ l. quote_full going head s word marks at l)
    (λ f.
    kept_plain true true head (code "\"") (code "\"") f.next scans.Closing [] [] f.at (omega arith)
    (quote_room true head f.next [] [] f.at (omega arith)))

-- after a backslash
pub grown_escaped : (quoted going : Bool) (head : Manner) (b : ℕ) (s : State) (word marks : List ℕ) → In going head s (goes_to (within_escape quoted)) word marks
    → (going ≡ true → marks ≡ []) → is_escaped b ≡ true
    → Grown going head b s (in_named (escape_then escapes.Begun b) quoted) word marks (code "\\" ∷ b ∷ [])
grown_escaped quoted going head b s word marks at none h =
    let scan = goes_to (within_escape quoted) in
    let e = escape_offered quoted going head b s word marks at (no_comment b h) (no_newline b h) in
    grown_slashed quoted going head b s scan (in_named (escape_then escapes.Begun b) quoted) word marks at none
    (λ l. kept_begun going quoted head b b s scan word marks at l e)
    (λ l. full_begun going quoted head b b s scan word marks at l e)
    (no_comment b h) (no_newline b h) refl

-- in the name or the argument of an escape
grown_named : (quoted going : Bool) (head : Manner) (reached : Reached) (b : ℕ) (s : State) (word marks : List ℕ) → In going head s (scans.Named reached quoted) word marks
    → (going ≡ true → marks ≡ []) → ends_escape b ≡ false → Grown going head b s (in_named (escape_then reached b) quoted) word marks (b ∷ [])
grown_named quoted going head reached b s word marks at none h =
    let here = in_named (escape_then reached b) quoted in
    let scan = scans.Named reached quoted in
    let e = named_offered quoted reached b s.page false at.scan_is h in
    grown_by (nat_lt (length word) 30) going (insides.Named reached quoted) head b s here scan word marks (b ∷ []) refl at none
    (λ l. kept_named going quoted head reached b s scan word marks at l e)
    (λ l. full_named going quoted head reached b s scan word marks at l e)
    (λ f. kept_named true quoted head reached b f.next scan [] [] f.at (omega arith) (named_offered quoted reached b f.next.page false f.at.scan_is h))

-- what ends it is offered as in the word
grown_after : (quoted going : Bool) (head : Manner) (reached : Reached) (b : ℕ) (s : State) (word marks piece : List ℕ) → In going head s (scans.Named reached quoted) word marks
    → ends_escape b ≡ true
    → ((t : State) → In going head t (in_word_of quoted) word marks → is_whole t.page ≡ is_whole s.page → Grown going head b t (in_word_of quoted) word marks piece)
    → Grown going head b s (in_word_of quoted) word marks piece
grown_after quoted going head reached b s word marks piece at h then_grown =
    let here = in_word_of quoted in
    let p = with_scan here s.page in
    let same = same_whole s.page p refl refl in
    let g = then_grown (with_page p s)
    (in_as going head s p (scans.Named reached quoted) here word word marks at refl at.word_is refl refl refl refl refl refl refl) same in
    record {
      out = g.out;
      next = g.next;
      steps = g.steps;
      some = g.some;
      few = g.few;
      takes =
          takes_with b s g.next here g.steps _ (named_offered quoted reached b s.page true at.scan_is h ∙ after_offered quoted b s.page) g.some g.takes;
      at = g.at;
      whole = g.whole ∙ same;
      long = g.long;
    }

no_first : (t v : Bool) → (t && not true && v) ≡ false
no_first true v = refl
no_first false v = refl

held_is : (t v : Bool) → (t && not false && v) ≡ (t && v)
held_is true v = refl
held_is false v = refl

-- a byte as it is: a blank that stays with others, a hyphen that is kept as an escape, or another
grown_as : (t y : Bool) (quoted going whole : Bool) (head : Manner) (b : ℕ) (s : State) (word marks : List ℕ) (u v : Bool) → In going head s (in_word_of quoted) word marks
    → (going ≡ true → marks ≡ []) → (quoted && is_whole s.page) ≡ whole → is_letter quoted (Plain b) ≡ true → (quoted && (b == code "\"")) ≡ false
    → is_none word ≡ u → is_kept_so head.way word ≡ v → ((b == code " ") && whole) ≡ t → ((b == code "-") && not u && v) ≡ y
    → Grown going head b s (in_word_of quoted) word marks (if t then codes "\\~" else if y then codes "\\-" else b ∷ [])
unfolding in_rest byte_rest
grown_as true y true going whole head b s word marks u v at none together h quote is_first so blank hyphen =
    grown_blank going head b s word marks at none (together ∙ and_right (b == code " ") whole blank)
    (sym (same_byte b (code " ") (and_left (b == code " ") whole blank)))
grown_as true y false going whole head b s word marks u v at none together h quote is_first so blank hyphen =
    absurd (let no : false ≡ true = together ∙ and_right (b == code " ") whole blank in cc)
grown_as false true quoted going whole head b s word marks u v at none together h quote is_first so blank hyphen =
    let is = same_byte b (code "-") (and_left (b == code "-") (not u) (and_left ((b == code "-") && not u) v hyphen)) in
    subst (λ (k : ℕ). Grown going head b s (in_word_of quoted) word marks (code "\\" ∷ k ∷ [])) (sym is)
    (grown_escape quoted going head b s (in_word_of quoted) word marks at none
    (plain_offered quoted going whole head b s word marks at together h quote ∙ ap (λ (t : Bool). in_rest quoted t b s.page) blank
    ∙ byte_offered quoted going head b s (in_word_of quoted) word marks u v at is_first so
    ∙ ap (λ (t : Bool). byte_rest quoted t b s.page) hyphen)
    is)
grown_as false false quoted going whole head b s word marks u v at none together h quote is_first so blank hyphen =
    grown_plain quoted going head b s word marks at none
    (plain_offered quoted going whole head b s word marks at together h quote ∙ ap (λ (t : Bool). in_rest quoted t b s.page) blank
    ∙ byte_offered quoted going head b s (in_word_of quoted) word marks u v at is_first so
    ∙ ap (λ (t : Bool). byte_rest quoted t b s.page) hyphen)
    (λ t at2 same.
    plain_offered quoted true whole head b t [] [] at2 (ap (λ (x : Bool). quoted && x) same ∙ together) h quote
    ∙ ap (λ (x : Bool). in_rest quoted x b t.page) blank
    ∙ byte_offered quoted true head b t (in_word_of quoted) [] [] true (is_kept_so head.way []) at2 refl refl
    ∙ ap (λ (x : Bool). byte_rest quoted x b t.page) (no_first (b == code "-") (is_kept_so head.way [])))

-- after others
grown_in : (following quoted going whole : Bool) (head : Manner) (b : ℕ) (s : State) (word marks : List ℕ) → In going head s (in_word_of quoted) word marks
    → (going ≡ true → marks ≡ []) → (quoted && is_whole s.page) ≡ whole → is_letter quoted (Plain b) ≡ true → (quoted && (b == code "\"")) ≡ false
    → is_none word ≡ false → ends_in_hyphen word ≡ following → Grown going head b s (in_word_of quoted) word marks (kept_letter head.way whole None following (Plain b))
unfolding is_kept_so
grown_in following quoted going whole head b s word marks at none together h quote some hyphen =
    let v = holds_hyphen head.way following in
    grown_as ((b == code " ") && whole) (is_held head.way following b) quoted going whole head b s word marks false v at none together h quote some
    (ap (holds_hyphen head.way) hyphen) refl (held_is (b == code "-") v)

grown_within : (t : Bool) (reached : Reached) (following quoted going whole : Bool) (head : Manner) (b : ℕ) (s : State) (word marks : List ℕ)
    → In going head s (scans.Named reached quoted) word marks → (going ≡ true → marks ≡ []) → (quoted && is_whole s.page) ≡ whole
    → is_letter quoted (Plain b) ≡ true → (quoted && (b == code "\"")) ≡ false → is_none word ≡ false → ends_in_hyphen word ≡ following → ends_escape b ≡ t
    → Grown going head b s (in_named (if t then None else escape_then reached b) quoted) word marks
    (if not t then b ∷ [] else kept_letter head.way whole None following (Plain b))
grown_within true reached following quoted going whole head b s word marks at none together h quote some hyphen e =
    grown_after quoted going head reached b s word marks (kept_letter head.way whole None following (Plain b)) at e
    (λ t inner same.
    grown_in following quoted going whole head b t word marks inner none (ap (λ (x : Bool). quoted && x) same ∙ together) h quote some hyphen)
grown_within false reached following quoted going whole head b s word marks at none together h quote some hyphen e =
    grown_named quoted going head reached b s word marks at none e

pub grown_following : (reached : Option Reached) (following quoted going whole : Bool) (head : Manner) (b : ℕ) (s : State) (word marks : List ℕ)
    → In going head s (in_named reached quoted) word marks → (going ≡ true → marks ≡ []) → (quoted && is_whole s.page) ≡ whole
    → is_letter quoted (Plain b) ≡ true → (quoted && (b == code "\"")) ≡ false → is_none word ≡ false → ends_in_hyphen word ≡ following
    → Grown going head b s (in_named (reached_after reached (Plain b)) quoted) word marks (kept_letter head.way whole reached following (Plain b))
grown_following None following quoted going whole head b s word marks at none together h quote some hyphen =
    grown_in following quoted going whole head b s word marks at none together h quote some hyphen
grown_following (Some reached) following quoted going whole head b s word marks at none together h quote some hyphen =
    grown_within (ends_escape b) reached following quoted going whole head b s word marks at none together h quote some hyphen refl

-- as the first
pub grown_first : (quoted going whole : Bool) (head : Manner) (b : ℕ) (s : State) (word marks : List ℕ) → In going head s (in_word_of quoted) word marks
    → (going ≡ true → marks ≡ []) → (quoted && is_whole s.page) ≡ whole → is_letter quoted (Plain b) ≡ true → (quoted && (b == code "\"")) ≡ false
    → is_none word ≡ true → Grown going head b s (in_word_of quoted) word marks (kept_first whole (Plain b))
grown_first quoted going whole head b s word marks at none together h quote first =
    grown_as ((b == code " ") && whole) false quoted going whole head b s word marks true (is_kept_so head.way word) at none together h quote first refl refl
    (no_first (b == code "-") (is_kept_so head.way word))
