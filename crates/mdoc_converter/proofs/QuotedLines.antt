-- A line of a macro says those of its words that call no macro.
use Rattle.std.proofs.Common.{◌≡◌, ℕ, ◌≤◌, ◌+◌, List, [], ◌∷◌, ◌++◌, length, Bool, true, false, not, ◌&&◌, ◌==◌, if◌then◌else◌, Option, None, Some, refl, sym, ◌∙◌, ap, subst, append_assoc, append-nil, arith}
use Rattle.std.specs.Prelude.{codes}
use Prim.Native.Char.{code}
use Rattle.mdoc_layout.specs.declared.acts.Act.TheVariants as acts
use Rattle.mdoc_layout.specs.declared.acts.Text.TheVariants as texts
use Rattle.mdoc_layout.specs.declared.page.Escape.{Escape as Reached}
use Rattle.mdoc_layout.specs.declared.macros.Macro.{Macro}
use Rattle.mdoc_layout.specs.declared.macros.Macro.TheVariants as macros
use Rattle.mdoc_layout.specs.declared.macros.Pair.TheVariants as pairs
use Rattle.mdoc_layout.specs.declared.page.Following.TheVariants as followings
use Rattle.mdoc_layout.specs.declared.page.Page.{Page}
use Rattle.mdoc_layout.specs.declared.page.Scan.{Scan}
use Rattle.mdoc_layout.specs.declared.page.Scan.TheVariants as scans
use Rattle.mdoc_words.specs.Calls.{callable, called_by, is_enclosure_pending}
use Rattle.mdoc_words.specs.Macros.{macro_of}
use Rattle.mdoc_words.specs.Rules.{is_none, with_scan}
use Rattle.mdoc_words.specs.Taking.{argument, taken_word}
use Rattle.mdoc_words.specs.Words.{after_long, closing_mark, ends_long, heading_calls, marked_or, parsed, read_or_called, taken_after, unmarked}
use Rattle.mdoc_words.specs.Keeping.{in_named, keep_quote}
use Rattle.mdoc_layout.specs.LayingOut.{lay_out}
use Rattle.mdoc_words.specs.Options.{option, reads_for}
use Rattle.mdoc_converter.specs.Reading.{State, said}
use Rattle.mdoc_converter.specs.Saying.{parts_of, words_of}
use Rattle.mdoc_converter.specs.Scanning.{offer, offer_at, offer_whole, offer_whole_at}
use Rattle.mdoc_layout.specs.Seeing.{Offered, offered, left}
use Rattle.mdoc_converter.specs.WordLaws.{reads_at, WordsAreSaid}
use Rattle.mdoc_converter.specs.WrittenLines.{Way, is_mute, said_of, unless_called, way_of, way_then, each, names_no_string, are_letters, is_plain, is_word, kept, written, heads_words, Word, Bare, Quoted, are_written, after_each, line_of, printed_as, none_or, prints_words}
use Rattle.mdoc_converter.proofs.Endings.{ends_quiet, heads_end}
use Rattle.mdoc_converter.proofs.Escapes.{and_left, and_right, both, line-text}
use Rattle.mdoc_converter.proofs.Given.{Whole, whole_of, whole_after, whole_within, plain_reads}
use Rattle.mdoc_converter.proofs.After.{after, after-append, next-state, Fresh}
use Rattle.mdoc_converter.proofs.LongWords.{argument_by, argument_is, said_long}
use Rattle.mdoc_converter.proofs.MacroLines.{head_of, blank_taken, over, five, sixteen, thirteen, one_enough, two_enough, regrouped, of_kept, Said, given, given_at, given_leads, reads_name, name_begun, name_more, name_more_state, macro_step, short_name, letters_names, plain_names, control_taken, word_letters, word_prints}
use Rattle.mdoc_converter.proofs.MarksHeld.{one_at_most, two_at_most}
use Rattle.mdoc_converter.proofs.Offering.{with_page, Leads, then_takes, leads_by}
use Rattle.mdoc_converter.proofs.Outcomes.{is_quiet, of_word, never, takes_plain, Keeps, Out, out, same_page}
use Rattle.mdoc_converter.proofs.ReadWords.{Read, read_bare, read_quoted}
use Rattle.mdoc_converter.proofs.Stepping.{At, In, Head, Manner, plainly, in_as, out_step, leaves_step, marks_step}
use Rattle.mdoc_converter.proofs.Taken.{taken_out}
use Rattle.mdoc_converter.proofs.TextSaid.{next-words}
use Rattle.mdoc_converter.proofs.Ways.{opened_usual}
use Rattle.mdoc_converter.proofs.WholeWords.{after_head, called_nothing, given_whole, is_none-nil, some_kept}

-- ---- a word between quotes is given

marked_none : (w : List ℕ) → closing_mark true w ≡ None
marked_none [] = refl
marked_none (a ∷ []) = refl
marked_none (a ∷ b ∷ rest) = refl

callable_none : (o : Option Macro) → callable true o ≡ None
callable_none None = refl
callable_none (Some m) = refl

pub called_none : (w : List ℕ) → called_by true w ≡ None
called_none w = callable_none (macro_of w)

unmarked_by : Bool → Page → Offered
unmarked_by none p = if not none then offered p (left acts.Marks) else argument true p

unmarked_is : (p : Page) → unmarked true p ≡ unmarked_by (is_none p.marks) p
unfolding unmarked unmarked_by
unmarked_is p = ap (λ (o : Option Macro). if not (is_none p.marks) then offered p (left acts.Marks) else read_or_called o true p) (called_none p.word)

given_offered : (head : Head) (b : ℕ) (s : State) (word marks : List ℕ) → At head s (scans.Given true) word marks → offer b s.page ≡ unmarked_by (is_none s.page.marks) s.page
unfolding offer offer_whole parsed
given_offered head b s word marks at =
    let p = s.page in
    ap (λ (sc : Scan). offer_at sc b p) at.scan_is ∙ ap (λ (sc : Scan). offer_whole_at sc b p) at.scan_is
    ∙ ap (λ (t : Bool). if t then ends_long p else if reads_for p.call.taker && not (heading_calls true p) then option p else parsed true p) at.going
    ∙ ap (λ (t : Bool). if t && not (heading_calls true p) then option p else parsed true p) (plain_reads p.call.taker at.fits)
    ∙ ap (λ (o : Option ℕ). marked_or o true p) (marked_none p.word) ∙ unmarked_is p

taken_said : (p : Page) → takes_plain p.call.taker ≡ true → Out (argument_by false p) (with_scan scans.Between p) (said_of (way_of p.call.taker) p.word)
unfolding argument_by
taken_said p f =
    let q = with_scan scans.Between p in
    let o = taken_out q f in
    record {
      x = o.x;
      y = o.y;
      z = o.z;
      seen = o.seen;
      quiet_x = o.quiet_x;
      quiet_y = o.quiet_y;
      quiet_z = o.quiet_z;
      words = o.words;
      keeps = some_kept q (taken_word q).page o.keeps;
    }

said_whole : (head : Head) (b : ℕ) (s : State) (word : List ℕ) → At head s (scans.Given true) word []
    → offer b s.page ≡ argument_by false s.page → Whole head b s 1 (said_of head.way word)
unfolding argument_by
said_whole head b s word at e =
    let p = s.page in
    let xs = said_of (way_of p.call.taker) p.word in
    whole_of head b s 1 1 xs p.word [] (said_of head.way word) one_at_most
    (out_step head b s (argument_by false p) (with_scan scans.Between p) xs [] e (taken_said p at.fits)
    at.marks_are at.few at.going at.comment at.line at.way (λ h. refl))
    (append-nil xs ∙ ap (λ (w : Way). said_of w p.word) at.way ∙ ap (said_of head.way) at.word_is)

clear_offered : (head : Head) (b : ℕ) (s : State) (word : List ℕ) (t : Bool) → At head s (scans.Given true) word [] → (is_enclosure_pending s.page && true) ≡ t
    → offer b s.page ≡ argument_by t s.page
unfolding unmarked_by
clear_offered head b s word t at e =
    let p = s.page in
    given_offered head b s word [] at ∙ ap (λ (xs : List ℕ). unmarked_by (is_none xs) p) at.marks_are ∙ argument_is p
    ∙ ap (λ (u : Bool). argument_by u p) e

clear_whole : (t : Bool) (head : Head) (b : ℕ) (s : State) (word : List ℕ) → At head s (scans.Given true) word [] → (is_enclosure_pending s.page && true) ≡ t
    → Whole head b s 2 (said_of head.way word)
unfolding argument_by
clear_whole true head b s word at e =
    let first = leaves_step head b s (scans.Given true) word [] at (opened_usual s.page (and_left (is_enclosure_pending s.page) true e))
    (clear_offered head b s word true at e) in
    let t = first.step.next in
    whole_after head b s t 1 [] (said_of head.way word) (said_of head.way word) first.step.leads
    (said_whole head b t word first.step.at
    (clear_offered head b t word false first.step.at (ap (λ (u : Bool). u && true) first.no_enclosure)))
    refl
clear_whole false head b s word at e =
    whole_within head b s 1 2 (said_of head.way word) two_at_most (said_whole head b s word at (clear_offered head b s word false at e))

quoted_by : (t : Bool) (head : Head) (b : ℕ) (s : State) (word marks : List ℕ) → At head s (scans.Given true) word marks → is_none s.page.marks ≡ t
    → Whole head b s 3 (marks ++ said_of head.way word)
unfolding unmarked_by
quoted_by true head b s word marks at none =
    let no_marks : marks ≡ [] = sym at.marks_are ∙ is_none-nil s.page.marks none in
    let clear : At head s (scans.Given true) word [] = subst (λ (xs : List ℕ). At head s (scans.Given true) word xs) no_marks at in
    subst (λ (xs : List ℕ). Whole head b s 3 (xs ++ said_of head.way word)) (sym no_marks)
    (whole_within head b s 2 3 (said_of head.way word) (omega arith) (clear_whole (is_enclosure_pending s.page && true) head b s word clear refl))
quoted_by false head b s word marks at none =
    let first = marks_step head b s (scans.Given true) word marks at
    (given_offered head b s word marks at ∙ ap (λ (t : Bool). unmarked_by t s.page) none) in
    whole_after head b s first.next 2 marks (said_of head.way word) (marks ++ said_of head.way word) first.leads
    (clear_whole (is_enclosure_pending first.next.page && true) head b first.next word first.at refl) refl

quoted_whole : (head : Head) (b : ℕ) (s : State) (word marks : List ℕ) → At head s (scans.Given true) word marks → Whole head b s 3 (marks ++ said_of head.way word)
quoted_whole head b s word marks at = quoted_by (is_none s.page.marks) head b s word marks at refl

-- ---- after its last quote

unfoldable pub given_quoted : State → State
given_quoted s = with_page (with_scan (scans.Given true) s.page) s

pub quoted_at : (going : Bool) (head : Manner) (s : State) (word marks : List ℕ) → In going head s scans.Closing word marks
    → In going head (given_quoted s) (scans.Given true) word marks
unfolding given_quoted
quoted_at going head s word marks at =
    in_as going head s (with_scan (scans.Given true) s.page) scans.Closing (scans.Given true) word word marks at refl at.word_is refl refl refl refl refl refl refl

closing_offered : (going : Bool) (head : Manner) (b : ℕ) (s : State) (word marks : List ℕ) → In going head s scans.Closing word marks → (b == code "\"") ≡ false
    → offer b s.page ≡ offered (with_scan (scans.Given true) s.page) (left acts.Nothing)
unfolding offer
closing_offered going head b s word marks at e =
    let p = s.page in
    ap (λ (sc : Scan). offer_at sc b p) at.scan_is
    ∙ ap (λ (t : Bool). if t then keep_quote p else offered (with_scan (scans.Given true) p) (left acts.Nothing)) e

pub quoted_leads : (going : Bool) (head : Manner) (b : ℕ) (s : State) (word marks : List ℕ) → In going head s scans.Closing word marks → (b == code "\"") ≡ false
    → Leads b s (given_quoted s) 1 []
unfolding said lay_out given_quoted
quoted_leads going head b s word marks at e =
    let q = with_scan (scans.Given true) s.page in
    leads_by b s q q acts.Nothing acts.Nothing acts.Nothing [] (closing_offered going head b s word marks at e) refl refl

-- ---- the last part of a long word is given

long_offered : (quoted : Bool) (head : Manner) (b : ℕ) (s : State) (word : List ℕ) → In true head s (scans.Given quoted) word [] → offer b s.page ≡ ends_long s.page
unfolding offer offer_whole
long_offered quoted head b s word at =
    let p = s.page in
    ap (λ (sc : Scan). offer_at sc b p) at.scan_is ∙ ap (λ (sc : Scan). offer_whole_at sc b p) at.scan_is
    ∙ ap (λ (t : Bool). if t then ends_long p else if reads_for p.call.taker && not (heading_calls quoted p) then option p else parsed quoted p) at.going

after_out : (k : _) (p q : Page) → Keeps q p → Out (offered p (after_long k)) q q.word
unfolding is_quiet of_word
after_out followings.Nothing p q keeps = out p q acts.LastMore acts.Nothing acts.Nothing q.word refl refl refl (append-nil q.word) keeps
after_out followings.Parenthesis p q keeps =
    out p q acts.LastMore (acts.Close (texts.Opening pairs.Parentheses)) acts.Join q.word refl refl refl (append-nil q.word) keeps
after_out followings.Angle p q keeps =
    out p q acts.LastMore (acts.Close (texts.Closing (code ">"))) acts.Nothing q.word refl refl refl (append-nil q.word) keeps
after_out followings.Joint p q keeps = out p q acts.LastMore acts.Join acts.Nothing q.word refl refl refl (append-nil q.word) keeps

after_plain : (m : Macro) → takes_plain m ≡ true → takes_plain (taken_after m) ≡ true
unfolding takes_plain
after_plain macros.Section h = refl
after_plain m h = h

after_way : (m : Macro) → takes_plain m ≡ true → way_of (taken_after m) ≡ way_of m
unfolding takes_plain
after_way macros.Section h = never h
after_way m h = refl

-- the macro that takes the words after it takes them so
pub long_whole : (quoted : Bool) (head : Manner) (after : Head) (b : ℕ) (s : State) (word : List ℕ) → In true head s (scans.Given quoted) word []
    → head.line ≡ after.line → takes_plain (taken_after s.page.call.taker) ≡ true → way_of (taken_after s.page.call.taker) ≡ after.way
    → Whole after b s 3 word
long_whole quoted head after b s word at line fits way =
    let p = s.page in
    let q = record p { scan = scans.Between; call = record p.call { going = false; following = followings.Nothing; taker = taken_after p.call.taker } } in
    whole_of after b s 1 3 q.word q.word [] word (omega arith)
    (out_step after b s (ends_long p) q q.word [] (long_offered quoted head b s word at) (after_out p.call.following q q (same_page q fits))
    at.marks_are at.few refl at.comment (at.line ∙ line) way (λ h. refl))
    (append-nil q.word ∙ at.word_is)

plain_whole : (quoted : Bool) (head : Head) (b : ℕ) (s : State) (word : List ℕ) → In true (plainly head) s (scans.Given quoted) word []
    → Whole head b s 3 word
plain_whole quoted head b s word at =
    let m = s.page.call.taker in
    long_whole quoted (plainly head) head b s word at refl (after_plain m at.fits) (after_way m at.fits ∙ at.way)

-- no macro has so long a name
pub long_calls : (mute : Bool) (word : List ℕ) → 30 ≤ length word → called_by mute word ≡ None
long_calls mute [] l = absurd (omega arith)
long_calls mute (a ∷ []) l = absurd (omega arith)
long_calls mute (a ∷ b ∷ []) l = absurd (omega arith)
long_calls mute (a ∷ b ∷ c ∷ []) l = absurd (omega arith)
long_calls mute (a ∷ b ∷ c ∷ d ∷ rest) l = refl

-- ---- what ends a word

-- these bytes of words are said where a blank comes, and where the line ends
pub record Following (head : Head) (s : State) (all : List ℕ) : Type 0 where
  blank : Said head s all
  newline : words_of (parts_of s (codes "\n")) ≡ all
  fresh : Fresh (after s (codes "\n"))

pub after_of : (head : Head) (s g : State) (all : List ℕ) → Leads (code " ") s g 1 [] → Leads (code "\n") s g 1 []
    → Whole head (code " ") g 3 all → Whole head (code "\n") g 3 all → ends_quiet head.line.macro ≡ true → Following head s all
after_of head s g all blank newline w v h =
    let t = w.step.next in
    let u = v.step.next in
    let e = over head u v.word v.marks v.step.at h in
    let takes = then_takes (code " ") s g t 1 (w.steps + 1) [] (w.xs ++ []) blank
    (then_takes (code " ") g t t w.steps 1 w.xs [] w.step.leads (blank_taken head t w.word w.marks w.step.at)) in
    let ends = then_takes (code "\n") s g e.next 1 (v.steps + e.steps) [] (v.xs ++ v.marks) newline
    (then_takes (code "\n") g u e.next v.steps e.steps v.xs v.marks v.step.leads e.takes) in
    record {
      blank = record {
        next = t;
        xs = w.xs;
        word = w.word;
        marks = w.marks;
        said = λ rest.
            next-words (code " ") rest s t (1 + (w.steps + 1)) ([] ++ (w.xs ++ [])) _ (five w.steps w.few) takes refl
            ∙ ap (λ (zs : List ℕ). zs ++ words_of (parts_of t rest)) (append-nil w.xs);
        state = next-state (code " ") [] s t (1 + (w.steps + 1)) ([] ++ (w.xs ++ [])) (five w.steps w.few) takes;
        at = w.step.at;
        total = w.total;
      };
      newline =
          next-words (code "\n") [] s e.next (1 + (v.steps + e.steps)) ([] ++ (v.xs ++ v.marks)) [] (sixteen v.steps e.steps v.few e.few) ends refl
          ∙ append-nil (v.xs ++ v.marks) ∙ v.total;
      fresh =
          subst Fresh (sym (next-state (code "\n") [] s e.next (1 + (v.steps + e.steps)) ([] ++ (v.xs ++ v.marks)) (sixteen v.steps e.steps v.few e.few) ends))
          e.fresh;
    }

after_bare : (reached : Option Reached) (head : Head) (s : State) (word marks : List ℕ) → At head s (in_named reached false) word marks
    → ends_quiet head.line.macro ≡ true → none_or prints_words (called_by head.line.mute word) ≡ true
    → Following (after_head head (called_by head.line.mute word)) s (marks ++ of_kept head.line.mute head.way word)
unfolding of_kept
after_bare reached head s word marks at h f =
    let inside = given_at false (plainly head) s (in_named reached false) word marks at in
    after_of (after_head head (called_by head.line.mute word)) s (given s) (marks ++ of_kept head.line.mute head.way word)
    (given_leads reached false (plainly head) (code " ") s word marks at refl) (given_leads reached false (plainly head) (code "\n") s word marks at refl)
    (given_whole head (code " ") (given s) word marks inside f) (given_whole head (code "\n") (given s) word marks inside f) h

after_bare_long : (reached : Option Reached) (head : Head) (s : State) (word : List ℕ) → In true (plainly head) s (in_named reached false) word [] → ends_quiet head.line.macro ≡ true
    → Following (after_head head None) s word
after_bare_long reached head s word at h =
    let inside = given_at true (plainly head) s (in_named reached false) word [] at in
    after_of (after_head head None) s (given s) word
    (given_leads reached true (plainly head) (code " ") s word [] at refl) (given_leads reached true (plainly head) (code "\n") s word [] at refl)
    (called_nothing head (code " ") (given s) 3 word (plain_whole false head (code " ") (given s) word inside))
    (called_nothing head (code "\n") (given s) 3 word (plain_whole false head (code "\n") (given s) word inside)) h

after_quoted : (head : Head) (s : State) (word marks : List ℕ) → At head s scans.Closing word marks → ends_quiet head.line.macro ≡ true
    → Following head s (marks ++ said_of head.way word)
after_quoted head s word marks at h =
    let inside = quoted_at false (plainly head) s word marks at in
    after_of head s (given_quoted s) (marks ++ said_of head.way word)
    (quoted_leads false (plainly head) (code " ") s word marks at refl) (quoted_leads false (plainly head) (code "\n") s word marks at refl)
    (quoted_whole head (code " ") (given_quoted s) word marks inside)
    (quoted_whole head (code "\n") (given_quoted s) word marks inside) h

after_quoted_long : (head : Head) (s : State) (word : List ℕ) → In true (plainly head) s scans.Closing word [] → ends_quiet head.line.macro ≡ true → Following head s word
after_quoted_long head s word at h =
    let inside = quoted_at true (plainly head) s word [] at in
    after_of head s (given_quoted s) word
    (quoted_leads true (plainly head) (code " ") s word [] at refl) (quoted_leads true (plainly head) (code "\n") s word [] at refl)
    (plain_whole true head (code " ") (given_quoted s) word inside) (plain_whole true head (code "\n") (given_quoted s) word inside) h

-- ---- a word was read

-- what was said of it, and what is where it ends
record Ends (head : Head) (next : State) (xs marks said : List ℕ) : Type 0 where
  ys : List ℕ
  following : Following head next ys
  total : xs ++ ys ≡ marks ++ said

all_said : (xs held word marks all said : List ℕ) → xs ++ (held ++ word) ≡ marks ++ all → held ≡ [] → all ≡ said → xs ++ word ≡ marks ++ said
all_said xs held word marks all said e f g =
    ap (λ (hs : List ℕ). xs ++ (hs ++ word)) (sym f) ∙ e ∙ ap (λ (zs : List ℕ). marks ++ zs) g

none_said : (xs held word marks : List ℕ) → xs ≡ [] → held ≡ marks → xs ++ (held ++ word) ≡ marks ++ word
none_said xs held word marks e f = ap (λ (zs : List ℕ). zs ++ (held ++ word)) e ∙ ap (λ (hs : List ℕ). hs ++ word) f

going_at : (t : Bool) (going : Bool) (head : Manner) (s : State) (scan : Scan) (word marks : List ℕ) → going ≡ t → In going head s scan word marks
    → In t head s scan word marks
going_at t going head s scan word marks e at = subst (λ (g : Bool). In g head s scan word marks) e at

bare_by : (t : Bool) (reached : Option Reached) (head : Head) (s : State) (bs marks word : List ℕ) (first hyphen : Bool)
    (r : Read (plainly head) false false s (in_named reached false) bs marks word first hyphen) → r.going ≡ t → ends_quiet head.line.macro ≡ true
    → none_or prints_words (called_by head.line.mute word) ≡ true
    → Ends (after_head head (called_by head.line.mute word)) r.next r.xs marks (of_kept head.line.mute head.way word)
unfolding of_kept
bare_by true reached head s bs marks word first hyphen r e h f =
    let here = in_named reached false in
    let long = r.long e in
    let none = r.clear e in
    let at = subst (λ (hs : List ℕ). In true (plainly head) r.next here r.word hs) none (going_at true r.going (plainly head) r.next here r.word r.held e r.at) in
    record {
      ys = r.word;
      following = subst (λ (o : _). Following (after_head head o) r.next r.word) (sym (long_calls head.line.mute word long)) (after_bare_long reached head r.next r.word at h);
      total =
          all_said r.xs r.held r.word marks word (of_kept head.line.mute head.way word) r.total none
          (sym (said_long head.way word long) ∙ ap (λ (o : _). unless_called head.way o word) (sym (long_calls head.line.mute word long)));
    }
bare_by false reached head s bs marks word first hyphen r e h f =
    let here = in_named reached false in
    let at = subst (λ (w : List ℕ). In false (plainly head) r.next here w r.held) (r.same e) (going_at false r.going (plainly head) r.next here r.word r.held e r.at) in
    record {
      ys = r.held ++ of_kept head.line.mute head.way word;
      following = after_bare reached head r.next word r.held at h f;
      total = none_said r.xs r.held (of_kept head.line.mute head.way word) marks (r.silent e) (r.same_marks e);
    }

quoted_end : (t : Bool) (head : Head) (whole : Bool) (s : State) (bs marks word : List ℕ) (first hyphen : Bool)
    (r : Read (plainly head) true whole s scans.Closing bs marks word first hyphen) → r.going ≡ t → ends_quiet head.line.macro ≡ true
    → Ends head r.next r.xs marks (said_of head.way word)
quoted_end true head whole s bs marks word first hyphen r e h =
    let none = r.clear e in
    let at = subst (λ (hs : List ℕ). In true (plainly head) r.next scans.Closing r.word hs) none (going_at true r.going (plainly head) r.next scans.Closing r.word r.held e r.at) in
    record {
      ys = r.word;
      following = after_quoted_long head r.next r.word at h;
      total = all_said r.xs r.held r.word marks word (said_of head.way word) r.total none (sym (said_long head.way word (r.long e)));
    }
quoted_end false head whole s bs marks word first hyphen r e h =
    let at = subst (λ (w : List ℕ). In false (plainly head) r.next scans.Closing w r.held) (r.same e) (going_at false r.going (plainly head) r.next scans.Closing r.word r.held e r.at) in
    record {
      ys = r.held ++ said_of head.way word;
      following = after_quoted head r.next word r.held at h;
      total = none_said r.xs r.held (said_of head.way word) marks (r.silent e) (r.same_marks e);
    }

-- ---- the words of a line

pub record Line (s : State) (bs all : List ℕ) (mute : Bool) (way : Way) (ws : List Word) : Type 0 where
  pub wholes : List Bool
  pub words : words_of (parts_of s bs) ≡ all ++ printed_as mute way wholes ws
  pub fresh : Fresh (after s bs)

regroup : (us xs ys vs : List ℕ) → us ++ (xs ++ (ys ++ vs)) ≡ us ++ ((xs ++ ys) ++ vs)
regroup us xs ys vs = ap (λ (zs : List ℕ). us ++ zs) (sym (append_assoc xs ys vs))

-- a word is read after a blank, and the others after it
then_word : (head : Head) (s : State) (all bs xs ys us vs : List ℕ) (ws : List Word) (one : Said head s all) (next : State)
    → ((rest : List ℕ) → words_of (parts_of one.next (bs ++ rest)) ≡ xs ++ words_of (parts_of next rest))
    → words_of (parts_of next (after_each ws ++ codes "\n")) ≡ ys ++ vs → xs ++ ys ≡ one.marks ++ us
    → words_of (parts_of s (code " " ∷ ((bs ++ after_each ws) ++ codes "\n"))) ≡ all ++ (us ++ vs)
then_word head s all bs xs ys us vs ws one next heard rest total =
    one.said ((bs ++ after_each ws) ++ codes "\n")
    ∙ ap (λ (zs : List ℕ). one.xs ++ words_of (parts_of one.next zs)) (append_assoc bs (after_each ws) (codes "\n"))
    ∙ ap (λ (zs : List ℕ). one.xs ++ zs) (heard (after_each ws ++ codes "\n") ∙ ap (λ (zs : List ℕ). xs ++ zs) rest)
    ∙ regroup one.xs xs ys vs ∙ ap (λ (zs : List ℕ). one.xs ++ (zs ++ vs)) total
    ∙ regrouped one.xs one.marks all us vs one.total

then_fresh : (head : Head) (s : State) (all bs : List ℕ) (ws : List Word) (one : Said head s all) (next : State) → after one.next bs ≡ next
    → Fresh (after next (after_each ws ++ codes "\n")) → Fresh (after s (code " " ∷ ((bs ++ after_each ws) ++ codes "\n")))
then_fresh head s all bs ws one next state rest =
    let following = after_each ws ++ codes "\n" in
    subst Fresh
    (sym (ap (λ (t : State). after t ((bs ++ after_each ws) ++ codes "\n")) one.state
    ∙ ap (λ (xs : List ℕ). after one.next xs) (append_assoc bs (after_each ws) (codes "\n"))
    ∙ after-append one.next bs following ∙ ap (λ (t : State). after t following) state))
    rest

pub in_words : (ws : List Word) (head : Head) (s : State) (all : List ℕ) → Following head s all → ends_quiet head.line.macro ≡ true → are_written head.line.mute head.way ws ≡ true
    → Line s (after_each ws ++ codes "\n") all head.line.mute head.way ws
unfolding of_kept
in_words [] head s all following h good = record { wholes = []; words = following.newline ∙ sym (append-nil all); fresh = following.fresh }
in_words (Bare [] ∷ ws) head s all following h good = absurd (let no : false ≡ true = and_left false (are_written head.line.mute (way_then head.line.mute head.way (Bare [])) ws) good in cc)
in_words (Bare (l ∷ ls) ∷ ws) head s all following h good =
    let way = head.way in
    let word = kept way false (l ∷ ls) in
    let mute = head.line.mute in
    let then_way = way_then mute way (Bare (l ∷ ls)) in
    let one = following.blank in
    let here = and_left (is_word mute way (l ∷ ls)) (are_written mute then_way ws) good in
    let spelled = read_bare l ls (plainly head) one.next one.word one.marks one.at (word_letters mute way l ls here) in
    let r = spelled.spelled.read in
    let e = bare_by r.going spelled.reached head one.next (written false (l ∷ ls)) one.marks word _ _ r refl h (word_prints mute way l ls here) in
    let rest = in_words ws (after_head head (called_by mute word)) r.next e.ys e.following h
    (and_right (is_word mute way (l ∷ ls)) (are_written mute then_way ws) good) in
    record {
      wholes = rest.wholes;
      words =
          then_word head s all (written false (l ∷ ls)) r.xs e.ys (of_kept mute way word) (printed_as mute then_way rest.wholes ws) ws one r.next r.said rest.words e.total;
      fresh = then_fresh head s all (written false (l ∷ ls)) ws one r.next r.state rest.fresh;
    }
in_words (Quoted ls ∷ ws) head s all following h good =
    let way = head.way in
    let one = following.blank in
    let q = read_quoted ls (plainly head) one.next one.word one.marks one.at (and_left (are_letters true ls) (are_written head.line.mute way ws) good) in
    let r = q.spelled.read in
    let word = kept way q.whole ls in
    let bytes = code "\"" ∷ written true ls ++ codes "\"" in
    let e = quoted_end r.going head q.whole one.next bytes one.marks word _ _ r refl h in
    let rest = in_words ws head r.next e.ys e.following h (and_right (are_letters true ls) (are_written head.line.mute way ws) good) in
    record {
      wholes = q.whole ∷ rest.wholes;
      words = then_word head s all bytes r.xs e.ys (said_of way word) (printed_as head.line.mute way rest.wholes ws) ws one r.next r.said rest.words e.total;
      fresh = then_fresh head s all bytes ws one r.next r.state rest.fresh;
    }

-- ---- the whole line

name_after : (m : Macro) (name : List ℕ) (s : State) → s.page.marks ≡ [] → macro_of name ≡ Some m → heads_words m ≡ true
    → Following (head_of m (is_mute s.page.block m)) (reads_name name s) []
name_after m name s marks f h =
    let one = macro_step (code " ") m name s marks refl f h in
    let two = macro_step (code "\n") m name s marks refl f h in
    let e = over (head_of m (is_mute s.page.block m)) two.next name [] two.at (heads_end m h) in
    let takes = then_takes (code " ") (reads_name name s) one.next one.next 1 1 [] [] one.leads (blank_taken (head_of m (is_mute s.page.block m)) one.next name [] one.at) in
    record {
      blank = record {
        next = one.next;
        xs = [];
        word = name;
        marks = [];
        said = λ rest. next-words (code " ") rest (reads_name name s) one.next (1 + 1) ([] ++ []) _ two_enough takes refl;
        state = next-state (code " ") [] (reads_name name s) one.next (1 + 1) ([] ++ []) two_enough takes;
        at = one.at;
        total = refl;
      };
      newline =
          next-words (code "\n") [] (reads_name name s) e.next (1 + e.steps) ([] ++ []) [] (thirteen e.steps e.few)
          (then_takes (code "\n") (reads_name name s) two.next e.next 1 e.steps [] [] two.leads e.takes) refl;
      fresh =
          subst Fresh
          (sym (next-state (code "\n") [] (reads_name name s) e.next (1 + e.steps) ([] ++ []) (thirteen e.steps e.few)
          (then_takes (code "\n") (reads_name name s) two.next e.next 1 e.steps [] [] two.leads e.takes)))
          e.fresh;
    }

pub quoted_line : (name : List ℕ) (ws : List Word) (m : Macro) (s : State) → s.page.marks ≡ [] → macro_of name ≡ Some m → heads_words m ≡ true
    → each is_plain name ≡ true → are_written (is_mute s.page.block m) (way_of m) ws ≡ true
    → Line (reads_at scans.Start s) (line_of name ws) [] (is_mute s.page.block m) (way_of m) ws
quoted_line [] ws m s marks f h plain all = absurd (let no : None ≡ Some m = f in cc)
quoted_line (b ∷ bs) ws m s marks f h plain all =
    let rest = after_each ws ++ codes "\n" in
    let short = short_name (b ∷ bs) m f in
    let line = in_words ws (head_of m (is_mute s.page.block m)) (reads_name (b ∷ bs) s) [] (name_after m (b ∷ bs) s marks f h) (heads_end m h) all in
    record {
      wholes = line.wholes;
      words =
          next-words (code ".") ((b ∷ bs ++ after_each ws) ++ codes "\n") (reads_at scans.Start s) (reads_at scans.Control s) 1 [] _ one_enough (control_taken s) refl
          ∙ ap (λ (xs : List ℕ). words_of (parts_of (reads_at scans.Control s) xs)) (append_assoc (b ∷ bs) (after_each ws) (codes "\n"))
          ∙ next-words b (bs ++ rest) (reads_at scans.Control s) (reads_name (b ∷ []) s) 1 [] _ one_enough
          (name_begun b s (and_left (is_plain b) (each is_plain bs) plain)) refl
          ∙ name_more bs (b ∷ []) s rest (and_right (is_plain b) (each is_plain bs) plain) (omega arith)
          ∙ line.words;
      fresh =
          subst Fresh
          (sym (next-state (code ".") ((b ∷ bs ++ after_each ws) ++ codes "\n") (reads_at scans.Start s) (reads_at scans.Control s) 1 [] one_enough (control_taken s)
          ∙ ap (λ (xs : List ℕ). after (reads_at scans.Control s) xs) (append_assoc (b ∷ bs) (after_each ws) (codes "\n"))
          ∙ next-state b (bs ++ rest) (reads_at scans.Control s) (reads_name (b ∷ []) s) 1 [] one_enough
          (name_begun b s (and_left (is_plain b) (each is_plain bs) plain))
          ∙ name_more_state bs (b ∷ []) s rest (and_right (is_plain b) (each is_plain bs) plain) (omega arith)))
          line.fresh;
    }

-- ---- no string is named in it

pub each_names : (ws : List Word) (mute : Bool) (way : Way) → are_written mute way ws ≡ true → names_no_string (after_each ws) ≡ true
each_names [] mute way all = refl
each_names (Bare [] ∷ ws) mute way all = absurd (let no : false ≡ true = and_left false (are_written mute (way_then mute way (Bare [])) ws) all in cc)
each_names (Bare (l ∷ ls) ∷ ws) mute way all =
    let then_way = way_then mute way (Bare (l ∷ ls)) in
    letters_names false (l ∷ ls) (after_each ws) (word_letters mute way l ls (and_left (is_word mute way (l ∷ ls)) (are_written mute then_way ws) all))
    (each_names ws mute then_way (and_right (is_word mute way (l ∷ ls)) (are_written mute then_way ws) all))
each_names (Quoted ls ∷ ws) mute way all =
    subst (λ (xs : List ℕ). names_no_string xs ≡ true) (sym (append_assoc (written true ls) (codes "\"") (after_each ws)))
    (letters_names true ls (code "\"" ∷ after_each ws) (and_left (are_letters true ls) (are_written mute way ws) all)
    (each_names ws mute way (and_right (are_letters true ls) (are_written mute way ws) all)))

-- words that may be written where they call macros may be so where they call none
pub mute_written : (mute : Bool) (way way2 : Way) (ws : List Word) → are_written mute way ws ≡ true → are_written true way2 ws ≡ true
mute_written mute way way2 [] all = refl
mute_written mute way way2 (Bare [] ∷ ws) all = absurd (let no : false ≡ true = and_left false (are_written mute (way_then mute way (Bare [])) ws) all in cc)
mute_written mute way way2 (Bare (l ∷ ls) ∷ ws) all =
    let then_way = way_then mute way (Bare (l ∷ ls)) in
    let then_way2 = way_then true way2 (Bare (l ∷ ls)) in
    let here = and_left (is_word mute way (l ∷ ls)) (are_written mute then_way ws) all in
    both (is_word true way2 (l ∷ ls)) (are_written true then_way2 ws)
    (both (are_letters false (l ∷ ls)) (none_or prints_words (called_by true (kept way2 false (l ∷ ls)))) (word_letters mute way l ls here)
    (ap (none_or prints_words) (called_none (kept way2 false (l ∷ ls)))))
    (mute_written mute then_way then_way2 ws (and_right (is_word mute way (l ∷ ls)) (are_written mute then_way ws) all))
mute_written mute way way2 (Quoted ls ∷ ws) all =
    both (are_letters true ls) (are_written true way2 ws) (and_left (are_letters true ls) (are_written mute way ws) all)
    (mute_written mute way way2 ws (and_right (are_letters true ls) (are_written mute way ws) all))

pub words_are_said : WordsAreSaid
words_are_said s m name ws marks f h plain all =
    let line = quoted_line name ws m s marks f h plain all in (
      line.wholes,
      record {
        text = line-text (code "." ∷ name ++ after_each ws) (reads_at scans.Start s) refl (plain_names name (after_each ws) plain (each_names ws (is_mute s.page.block m) (way_of m) all));
        words = line.words;
      },
    )
