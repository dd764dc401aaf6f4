-- A byte of a word is kept where it has room; where it has none, what was kept is to go out first.
use Rattle.std.proofs.Common.{◌≡◌, ℕ, ◌≤◌, ◌<◌, ◌+◌, List, [], ◌∷◌, ◌++◌, length, Bool, true, false, not, ◌&&◌, ◌||◌, ◌==◌, nat_lt, if◌then◌else◌, refl, ◌∙◌, ap, append_assoc, arith}
use Rattle.std.proofs.lemmas.Bool.Decides.{nat_tests}
use Prim.Native.Char.{code}
use Rattle.mdoc_layout.specs.declared.acts.Act.TheVariants as acts
use Rattle.mdoc_layout.specs.declared.page.Escape.{Escape as Reached}
use Rattle.mdoc_layout.specs.declared.page.Escape.TheVariants as escapes
use Rattle.mdoc_layout.specs.declared.macros.Macro.{Macro}
use Rattle.mdoc_layout.specs.declared.page.Inside.TheVariants as insides
use Rattle.mdoc_layout.specs.declared.page.Page.{Page}
use Rattle.mdoc_layout.specs.declared.page.Scan.{Scan}
use Rattle.mdoc_layout.specs.declared.page.Scan.TheVariants as scans
use Rattle.mdoc_words.specs.Rules.{with_scan}
use Rattle.mdoc_words.specs.Escaping.{escape_then}
use Rattle.mdoc_words.specs.Keeping.{after_name, ends_escape, ends_word, in_named, in_word_of, is_whole, keep, keep_begun, keep_escape, keep_unshown, keeping, turns, whole_for, widens, wider, within, within_escape}
use Rattle.mdoc_layout.specs.LayingOut.{lay_out}
use Rattle.mdoc_words.specs.Options.{is_heading, is_shown, reads_for}
use Rattle.mdoc_converter.specs.Reading.{State, said}
use Rattle.mdoc_converter.specs.Scanning.{offer, offer_at}
use Rattle.mdoc_layout.specs.Seeing.{Offered, offered, left, taken}
use Rattle.mdoc_converter.specs.WrittenLines.{is_escaped, is_plain, is_quotable}
use Rattle.mdoc_converter.proofs.Escapes.{and_left, and_right, is_not}
use Rattle.mdoc_converter.proofs.Given.{plain_reads}
use Rattle.mdoc_converter.proofs.Offering.{with_page, Takes, takes_by}
use Rattle.mdoc_converter.proofs.Outcomes.{takes_as}
use Rattle.mdoc_converter.proofs.Stepping.{In, Manner, in_as}
use Rattle.mdoc_converter.proofs.Together.{same_whole, whole_kept}

-- ---- what a byte is not

pub not_ending : (b : ℕ) → is_plain b ≡ true → ends_word b ≡ false
not_ending b h = is_not (ends_word b) (and_left (not (ends_word b)) (not (b == code "\"")) (and_left (not (ends_word b) && not (b == code "\"")) (not (b == code "\\")) h))

pub no_quote : (b : ℕ) → is_plain b ≡ true → (b == code "\"") ≡ false
no_quote b h = is_not (b == code "\"") (and_right (not (ends_word b)) (not (b == code "\"")) (and_left (not (ends_word b) && not (b == code "\"")) (not (b == code "\\")) h))

pub no_escape : (b : ℕ) → is_plain b ≡ true → (b == code "\\") ≡ false
no_escape b h = is_not (b == code "\\") (and_right (not (ends_word b) && not (b == code "\"")) (not (b == code "\\")) h)

pub no_end : (b : ℕ) → is_quotable b ≡ true → (b == code "\n") ≡ false
no_end b h = is_not (b == code "\n") (and_left (not (b == code "\n")) (not (b == code "\\")) h)

pub quotable_slash : (b : ℕ) → is_quotable b ≡ true → (b == code "\\") ≡ false
quotable_slash b h = is_not (b == code "\\") (and_right (not (b == code "\n")) (not (b == code "\\")) h)

pub no_comment : (b : ℕ) → is_escaped b ≡ true → (b == code "\"") ≡ false
no_comment b h =
    is_not (b == code "\"")
    (and_left (not (b == code "\"")) (not (b == code "\n"))
    (and_left (not (b == code "\"") && not (b == code "\n")) (not (b == code "*"))
    (and_left (not (b == code "\"") && not (b == code "\n") && not (b == code "*")) (not (b == code "\\")) h)))

pub no_newline : (b : ℕ) → is_escaped b ≡ true → (b == code "\n") ≡ false
no_newline b h =
    is_not (b == code "\n")
    (and_right (not (b == code "\"")) (not (b == code "\n"))
    (and_left (not (b == code "\"") && not (b == code "\n")) (not (b == code "*"))
    (and_left (not (b == code "\"") && not (b == code "\n") && not (b == code "*")) (not (b == code "\\")) h)))

-- ---- pages that are the same but for the word

-- a page that is wider by one, or not
unfoldable pub widened : Bool → Page → Page
widened t p = if t then record p { call = record p.call { width = p.call.width + 1 } } else p

widened_in : (t : Bool) (going : Bool) (head : Manner) (s : State) (p : Page) (scan : Scan) (word marks : List ℕ) → In going head (with_page p s) scan word marks
    → In going head (with_page (widened t p) s) scan word marks
unfolding widened
widened_in true going head s p scan word marks at =
    in_as going head (with_page p s) (record p { call = record p.call { width = p.call.width + 1 } }) scan scan word word marks at
    at.scan_is at.word_is refl refl refl refl refl refl refl
widened_in false going head s p scan word marks at = at

whole_widened : (t : Bool) (p q : Page) → q.call.taker ≡ p.call.taker → q.place ≡ p.place → is_whole (widened t q) ≡ is_whole p
unfolding widened
whole_widened true p q e f =
    whole_kept q.call.taker p (record q { call = record q.call { width = q.call.width + 1 } }) f ∙ ap (λ (m : Macro). whole_for m p) e
whole_widened false p q e f = whole_kept q.call.taker p q f ∙ ap (λ (m : Macro). whole_for m p) e

wider_is : (scan : Scan) (t u : Bool) (p : Page) → with_scan scan (if t then widened u p else p) ≡ widened (t && u) (with_scan scan p)
unfolding widened
wider_is scan true true p = refl
wider_is scan true false p = refl
wider_is scan false u p = refl

pub scan_same : (p : Page) (scan : Scan) → p.scan ≡ scan → p ≡ with_scan scan p
scan_same p scan e = ap (λ (sc : Scan). with_scan sc p) e

pub room : (word : List ℕ) → length word < 30 → nat_lt (length word) 30 ≡ true
room word l = grind (arith, nat_tests)

pub no_room : (word : List ℕ) → 30 ≤ length word → nat_lt (length word) 30 ≡ false
no_room word l = grind (arith, nat_tests)

pub one_enough : 1 ≤ 16
one_enough = omega arith

-- ---- a byte has room

-- it is taken, and the line is read further so
pub record Kept (going : Bool) (head : Manner) (b : ℕ) (s : State) (scan : Scan) (word marks : List ℕ) : Type 0 where
  pub next : State
  pub takes : Takes b s next 1 []
  pub at : In going head next scan word marks
  pub whole : is_whole next.page ≡ is_whole s.page

keep_rest : ℕ → Bool → Page → Offered
keep_rest c quoted p = if is_shown p then turns (scans.Long (within quoted)) (left acts.Nothing) p else keep_unshown c p

pub kept_plain : (going quoted : Bool) (head : Manner) (b c : ℕ) (s : State) (scan : Scan) (word marks : List ℕ) → In going head s scan word marks → length word < 30
    → offer b s.page ≡ keep c quoted (with_scan (in_word_of quoted) s.page) → Kept going head b s (in_word_of quoted) (word ++ c ∷ []) marks
unfolding said lay_out widened keep_rest
kept_plain going quoted head b c s scan word marks at l e =
    let p = with_scan (in_word_of quoted) s.page in
    let q = keeping (c ∷ []) p in
    let wide = nat_lt p.call.width 9999 in
    record {
      next = with_page (widened wide q) s;
      takes =
          takes_by b s (widened wide q) (widened wide q) acts.Nothing acts.Nothing acts.Nothing []
          (e
          ∙ ap (λ (t : Bool). if t then offered (widens q) (taken acts.Nothing) else keep_rest c quoted p)
          (ap (λ (w : List ℕ). nat_lt (length w) 30) at.word_is ∙ room word l))
          refl refl;
      at =
          widened_in wide going head s q (in_word_of quoted) (word ++ c ∷ []) marks
          (in_as going head s q scan (in_word_of quoted) word (word ++ c ∷ []) marks at refl (ap (λ (xs : List ℕ). xs ++ c ∷ []) at.word_is)
          refl refl refl refl refl refl refl);
      whole = whole_widened wide s.page q refl refl;
    }

escape_rest : ℕ → Bool → Page → Offered
escape_rest c quoted p =
    if is_shown p then turns (scans.Long (within_escape quoted)) (left acts.Nothing) p
    else turns (in_word_of quoted) (taken acts.Nothing) (wider c p)

kept_slashed : (going : Bool) (head : Manner) (b c : ℕ) (s : State) (scan here : Scan) (word marks : List ℕ) → In going head s scan word marks
    → offer b s.page ≡ offered (with_scan here (wider c (keeping (c ∷ []) (keeping (code "\\" ∷ []) s.page)))) (taken acts.Nothing)
    → Kept going head b s here (word ++ code "\\" ∷ c ∷ []) marks
unfolding said lay_out widened
kept_slashed going head b c s scan here word marks at e =
    let p = s.page in
    let bytes = code "\\" ∷ c ∷ [] in
    let q = with_scan here (keeping bytes p) in
    let wide = not (c == code "&") && nat_lt p.call.width 9999 in
    record {
      next = with_page (widened wide q) s;
      takes =
          takes_by b s (widened wide q) (widened wide q) acts.Nothing acts.Nothing acts.Nothing []
          (e
          ∙ ap (λ (ws : List ℕ). offered (with_scan here (wider c (record p { word = ws }))) (taken acts.Nothing)) (append_assoc p.word (code "\\" ∷ []) (c ∷ []))
          ∙ ap (λ (v : Page). offered v (taken acts.Nothing)) (wider_is here (not (c == code "&")) (nat_lt p.call.width 9999) (keeping bytes p)))
          refl refl;
      at =
          widened_in wide going head s q here (word ++ bytes) marks
          (in_as going head s q scan here word (word ++ bytes) marks at refl (ap (λ (xs : List ℕ). xs ++ bytes) at.word_is)
          refl refl refl refl refl refl refl);
      whole = whole_widened wide s.page q refl refl;
    }

pub kept_escape : (going quoted : Bool) (head : Manner) (b c : ℕ) (s : State) (scan : Scan) (word marks : List ℕ) → In going head s scan word marks → length word < 30
    → offer b s.page ≡ keep_escape c quoted s.page → Kept going head b s (in_word_of quoted) (word ++ code "\\" ∷ c ∷ []) marks
unfolding escape_rest
kept_escape going quoted head b c s scan word marks at l e =
    let p = s.page in
    let r = keeping (c ∷ []) (keeping (code "\\" ∷ []) p) in
    kept_slashed going head b c s scan (in_word_of quoted) word marks at
    (e
    ∙ ap (λ (t : Bool). if t then offered (with_scan (in_word_of quoted) (wider c r)) (taken acts.Nothing) else escape_rest c quoted p)
    (ap (λ (w : List ℕ). nat_lt (length w) 30) at.word_is ∙ room word l))

-- its name and its argument may come
unfoldable pub begun_rest : ℕ → Bool → Offered → Offered
begun_rest c quoted m = if m.seen.takes then offered (with_scan (in_named (escape_then escapes.Begun c) quoted) m.page) m.seen else m

pub kept_begun : (going quoted : Bool) (head : Manner) (b c : ℕ) (s : State) (scan : Scan) (word marks : List ℕ) → In going head s scan word marks → length word < 30
    → offer b s.page ≡ keep_begun c quoted s.page
    → Kept going head b s (in_named (escape_then escapes.Begun c) quoted) (word ++ code "\\" ∷ c ∷ []) marks
unfolding escape_rest begun_rest
kept_begun going quoted head b c s scan word marks at l e =
    let p = s.page in
    let r = keeping (c ∷ []) (keeping (code "\\" ∷ []) p) in
    kept_slashed going head b c s scan (in_named (escape_then escapes.Begun c) quoted) word marks at
    (e
    ∙ ap (λ (t : Bool). begun_rest c quoted (if t then offered (with_scan (in_word_of quoted) (wider c r)) (taken acts.Nothing) else escape_rest c quoted p))
    (ap (λ (w : List ℕ). nat_lt (length w) 30) at.word_is ∙ room word l))

-- a byte of its name or its argument
unfoldable pub named_rest : Bool → Reached → Bool → ℕ → Page → Offered
named_rest t reached quoted b p =
    let here = in_named (escape_then reached b) quoted in
    if t then turns here (taken acts.Nothing) (keeping (b ∷ []) p) else
    if is_shown p then turns (scans.Long (insides.Named reached quoted)) (left acts.Nothing) p else turns here (taken acts.Nothing) p

pub kept_named : (going quoted : Bool) (head : Manner) (reached : Reached) (b : ℕ) (s : State) (scan : Scan) (word marks : List ℕ) → In going head s scan word marks → length word < 30
    → offer b s.page ≡ named_rest (nat_lt (length s.page.word) 30) reached quoted b s.page
    → Kept going head b s (in_named (escape_then reached b) quoted) (word ++ b ∷ []) marks
unfolding said lay_out named_rest
kept_named going quoted head reached b s scan word marks at l e =
    let p = s.page in
    let here = in_named (escape_then reached b) quoted in
    let q = with_scan here (keeping (b ∷ []) p) in
    record {
      next = with_page q s;
      takes =
          takes_by b s q q acts.Nothing acts.Nothing acts.Nothing []
          (e
          ∙ ap (λ (t : Bool). named_rest t reached quoted b p)
          (ap (λ (w : List ℕ). nat_lt (length w) 30) at.word_is ∙ room word l))
          refl refl;
      at =
          in_as going head s q scan here word (word ++ b ∷ []) marks at refl (ap (λ (xs : List ℕ). xs ++ b ∷ []) at.word_is)
          refl refl refl refl refl refl refl;
      whole = same_whole p q refl refl;
    }

-- ---- a byte has no room

or_true : (t : Bool) → (t || true) ≡ true
or_true true = refl
or_true false = refl

shown_by : (plain : Bool) (m : Macro) → takes_as plain m ≡ true → (not (reads_for m) || is_heading m) ≡ true
shown_by true m h = ap (λ (t : Bool). not t || is_heading m) (plain_reads m h)
shown_by false m h = ap (λ (t : Bool). not (reads_for m) || t) h ∙ or_true (not (reads_for m))

pub shown : (going : Bool) (head : Manner) (s : State) (scan : Scan) (word marks : List ℕ) → In going head s scan word marks → is_shown s.page ≡ true
shown going head s scan word marks at =
    shown_by head.plain s.page.call.taker at.fits

pub full_plain : (going quoted : Bool) (head : Manner) (b c : ℕ) (s : State) (scan : Scan) (word marks : List ℕ) → In going head s scan word marks → 30 ≤ length word
    → offer b s.page ≡ keep c quoted (with_scan (in_word_of quoted) s.page)
    → offer b s.page ≡ offered (with_scan (scans.Long (within quoted)) s.page) (left acts.Nothing)
unfolding keep_rest
full_plain going quoted head b c s scan word marks at l e =
    let p = with_scan (in_word_of quoted) s.page in
    e
    ∙ ap (λ (t : Bool). if t then offered (widens (keeping (c ∷ []) p)) (taken acts.Nothing) else keep_rest c quoted p)
    (ap (λ (w : List ℕ). nat_lt (length w) 30) at.word_is ∙ no_room word l)
    ∙ ap (λ (t : Bool). if t then turns (scans.Long (within quoted)) (left acts.Nothing) p else keep_unshown c p)
    (shown going head s scan word marks at)

pub full_escape : (going quoted : Bool) (head : Manner) (b c : ℕ) (s : State) (scan : Scan) (word marks : List ℕ) → In going head s scan word marks → 30 ≤ length word
    → offer b s.page ≡ keep_escape c quoted s.page
    → offer b s.page ≡ offered (with_scan (scans.Long (within_escape quoted)) s.page) (left acts.Nothing)
unfolding escape_rest
full_escape going quoted head b c s scan word marks at l e =
    let p = s.page in
    let r = keeping (c ∷ []) (keeping (code "\\" ∷ []) p) in
    e
    ∙ ap (λ (t : Bool). if t then offered (with_scan (in_word_of quoted) (wider c r)) (taken acts.Nothing) else escape_rest c quoted p)
    (ap (λ (w : List ℕ). nat_lt (length w) 30) at.word_is ∙ no_room word l)
    ∙ ap (λ (t : Bool). if t then turns (scans.Long (within_escape quoted)) (left acts.Nothing) p else turns (in_word_of quoted) (taken acts.Nothing) (wider c p))
    (shown going head s scan word marks at)

pub full_begun : (going quoted : Bool) (head : Manner) (b c : ℕ) (s : State) (scan : Scan) (word marks : List ℕ) → In going head s scan word marks → 30 ≤ length word
    → offer b s.page ≡ keep_begun c quoted s.page
    → offer b s.page ≡ offered (with_scan (scans.Long (within_escape quoted)) s.page) (left acts.Nothing)
unfolding escape_rest begun_rest
full_begun going quoted head b c s scan word marks at l e =
    let p = s.page in
    let r = keeping (c ∷ []) (keeping (code "\\" ∷ []) p) in
    e
    ∙ ap (λ (t : Bool). begun_rest c quoted (if t then offered (with_scan (in_word_of quoted) (wider c r)) (taken acts.Nothing) else escape_rest c quoted p))
    (ap (λ (w : List ℕ). nat_lt (length w) 30) at.word_is ∙ no_room word l)
    ∙ ap (λ (t : Bool). begun_rest c quoted (if t then turns (scans.Long (within_escape quoted)) (left acts.Nothing) p else turns (in_word_of quoted) (taken acts.Nothing) (wider c p)))
    (shown going head s scan word marks at)

pub full_named : (going quoted : Bool) (head : Manner) (reached : Reached) (b : ℕ) (s : State) (scan : Scan) (word marks : List ℕ) → In going head s scan word marks → 30 ≤ length word
    → offer b s.page ≡ named_rest (nat_lt (length s.page.word) 30) reached quoted b s.page
    → offer b s.page ≡ offered (with_scan (scans.Long (insides.Named reached quoted)) s.page) (left acts.Nothing)
unfolding named_rest
full_named going quoted head reached b s scan word marks at l e =
    let p = s.page in
    let here = in_named (escape_then reached b) quoted in
    e
    ∙ ap (λ (t : Bool). named_rest t reached quoted b p) (ap (λ (w : List ℕ). nat_lt (length w) 30) at.word_is ∙ no_room word l)
    ∙ ap (λ (t : Bool). if t then turns (scans.Long (insides.Named reached quoted)) (left acts.Nothing) p else turns here (taken acts.Nothing) p)
    (shown going head s scan word marks at)

-- ---- in an escape

-- its name or its argument is read
pub named_offered : (quoted : Bool) (reached : Reached) (b : ℕ) (p : Page) (t : Bool) → p.scan ≡ scans.Named reached quoted → ends_escape b ≡ t
    → offer b p ≡ (if t then after_name quoted b p else named_rest (nat_lt (length p.word) 30) reached quoted b p)
unfolding offer named_rest
named_offered quoted reached b p t at e =
    ap (λ (sc : Scan). offer_at sc b p) at
    ∙ ap (λ (u : Bool). if u then after_name quoted b p else named_rest (nat_lt (length p.word) 30) reached quoted b p) e

-- what ends it is offered as in the word
pub after_offered : (quoted : Bool) (b : ℕ) (p : Page) → after_name quoted b p ≡ offer b (with_scan (in_word_of quoted) p)
unfolding offer
after_offered true b p = refl
after_offered false b p = refl
