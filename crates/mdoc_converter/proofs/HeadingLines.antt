-- A heading says its words.
use Rattle.std.proofs.Common.{◌≡◌, ℕ, ◌≤◌, ◌+◌, List, [], ◌∷◌, ◌++◌, Bool, true, false, not, ◌&&◌, if◌then◌else◌, Option, None, Some, is_some, refl, sym, ◌∙◌, ap, subst, append_assoc, append-nil, arith}
use Rattle.std.specs.Prelude.{codes}
use Prim.Native.Char.{code}
use Rattle.mdoc_layout.specs.declared.acts.Act.TheVariants as acts
use Rattle.mdoc_layout.specs.declared.acts.Request.TheVariants as requests
use Rattle.mdoc_layout.specs.declared.acts.Stack.TheVariants.{Empties}
use Rattle.mdoc_layout.specs.declared.macros.Font.TheVariants.{Roman}
use Rattle.mdoc_layout.specs.declared.page.Escape.{Escape as Reached}
use Rattle.mdoc_layout.specs.declared.macros.Macro.{Macro}
use Rattle.mdoc_layout.specs.declared.macros.Macro.TheVariants as macros
use Rattle.mdoc_layout.specs.declared.page.Page.{Page}
use Rattle.mdoc_layout.specs.declared.page.Scan.{Scan}
use Rattle.mdoc_layout.specs.declared.page.Scan.TheVariants as scans
use Rattle.mdoc_layout.specs.declared.seen.Seen.{Seen}
use Rattle.mdoc_words.specs.Calls.{called_by, calls, encloses_address, is_pending}
use Rattle.mdoc_words.specs.Macros.{letters_macro}
use Rattle.mdoc_words.specs.Meanings.{is_pending_from}
use Rattle.mdoc_words.specs.Rules.{is_none, with_scan}
use Rattle.mdoc_words.specs.Words.{closing_mark, ends_long, heading_calls, marked_or, parsed, read_or_called, taken_after}
use Rattle.mdoc_words.specs.Keeping.{in_named, is_whole, whole_for}
use Rattle.mdoc_layout.specs.LayingOut.{lay_out}
use Rattle.mdoc_converter.specs.Lines.{begins, in_section, is_page}
use Rattle.mdoc_words.specs.Options.{enters, is_heading, option, option_for, option_word, reads_for}
use Rattle.mdoc_converter.specs.Reading.{State, said, stacked}
use Rattle.mdoc_converter.specs.Saying.{parts_of, words_of}
use Rattle.mdoc_converter.specs.Scanning.{offer, offer_at, offer_whole, offer_whole_at}
use Rattle.mdoc_layout.specs.Seeing.{Offered, offered, left, two, three, with_stack}
use Rattle.mdoc_converter.specs.WordLaws.{reads_at, HeadingsAreSaid}
use Rattle.mdoc_converter.specs.WrittenLines.{Way, Usual, Headed, way_of, way_after, way_headed, unless_called, none_or, prints_words, names_no_string, Letter, kept, written, Word, Bare, Quoted, is_first, headed, are_written, after_each, line_of, printed_as, written_word}
use Rattle.mdoc_converter.proofs.After.{after, after-append, next-state, Fresh}
use Rattle.mdoc_converter.proofs.Escapes.{line-text}
use Rattle.mdoc_converter.proofs.Given.{Whole, whole_of, whole_within}
use Rattle.mdoc_converter.proofs.LongWords.{the_heading}
use Rattle.mdoc_converter.proofs.MacroLines.{beginning, control_taken, given, given_at, given_leads, letters_names, macro_offered, name_begun, name_taken, one_enough, reads_name, two_enough, word_letters, word_prints}
use Rattle.mdoc_converter.proofs.Offering.{with_page, Leads, Takes, then_takes, leads_with, takes_by}
use Rattle.mdoc_converter.proofs.Outcomes.{Lined, lined_as, takes_plain, Keeps}
use Rattle.mdoc_converter.proofs.QuotedLines.{called_none, each_names, given_quoted, long_calls, long_whole, quoted_at, quoted_leads, Following, after_of, in_words, Line}
use Rattle.mdoc_converter.proofs.ReadWords.{Read, between_by, between_offered, read_bare, read_quoted}
use Rattle.mdoc_converter.proofs.Stepping.{Head, In, Manner, out_step}
use Rattle.mdoc_converter.proofs.Taken.{said_in}
use Rattle.mdoc_converter.proofs.TextSaid.{next-words}
use Rattle.mdoc_converter.proofs.WholeWords.{call_by, call_is, calls_whole, prints_plain, unmarked_by, unmarked_is}

-- ---- the heading begins

-- its first word is read so, and the others so
abbrev heads : Manner
heads = record { line = lined_as macros.Section false; way = Headed; plain = false }

abbrev after_heads : Way → Head
after_heads way = record { line = lined_as macros.Section false; way = way }

record Begun (s : State) : Type 0 where
  next : State
  leads : Leads (code " ") (reads_name (codes "Sh") s) next 1 []
  at : In false heads next scans.Between (codes "Sh") []

section_seen : Bool → Bool → Seen
section_seen titled alone =
    if titled then with_stack Empties (if alone then left acts.Section else two (acts.Request requests.Distance) acts.Section)
    else with_stack Empties (three acts.Title acts.TitleEnds acts.Section)

heading : State → Page
heading s = in_section (record s.page { scan = scans.Between; word = codes "Sh"; closers = []; call = (beginning macros.Section (codes "Sh") s).call })

section_offered : (t u : Bool) (s : State) → s.page.place.titled ≡ t → is_page s.page.block.kind ≡ u
    → offer (code " ") (reads_name (codes "Sh") s).page ≡ offered (heading s) (section_seen t u)
unfolding begins beginning heading section_seen letters_macro
section_offered t u s e f =
    macro_offered (code " ") macros.Section (codes "Sh") s refl refl
    ∙ ap (λ (v : Bool). offered (heading s) (section_seen v (is_page s.page.block.kind))) e
    ∙ ap (λ (v : Bool). offered (heading s) (section_seen t v)) f

nothing_few : 0 ≤ 8
nothing_few = omega arith

begun_by : (t u : Bool) (s : State) → s.page.marks ≡ [] → s.page.place.titled ≡ t → is_page s.page.block.kind ≡ u → Begun s
unfolding said lay_out heading section_seen beginning reads_name
begun_by true true s none e f =
    let p = heading s in
    record {
      next = stacked Empties s.page.block (with_page (said (three acts.Section acts.Nothing acts.Nothing) p).page (reads_name (codes "Sh") s));
      leads = leads_with (code " ") (reads_name (codes "Sh") s) p _ Empties acts.Section acts.Nothing acts.Nothing [] (section_offered true true s e f) refl refl;
      at = record {
        scan_is = refl;
        word_is = refl;
        marks_are = none;
        few = nothing_few;
        going = refl;
        comment = refl;
        line = refl;
        fits = refl;
        way = refl;
        free = λ h. refl;
      };
    }
begun_by true false s none e f =
    let p = heading s in
    record {
      next = stacked Empties s.page.block (with_page (said (three (acts.Request requests.Distance) acts.Section acts.Nothing) p).page (reads_name (codes "Sh") s));
      leads = leads_with (code " ") (reads_name (codes "Sh") s) p _ Empties (acts.Request requests.Distance) acts.Section acts.Nothing [] (section_offered true false s e f) refl refl;
      at = record {
        scan_is = refl;
        word_is = refl;
        marks_are = none;
        few = nothing_few;
        going = refl;
        comment = refl;
        line = refl;
        fits = refl;
        way = refl;
        free = λ h. refl;
      };
    }
begun_by false u s none e f =
    let p = heading s in
    record {
      next = stacked Empties s.page.block (with_page (said (three acts.Title acts.TitleEnds acts.Section) p).page (reads_name (codes "Sh") s));
      leads = leads_with (code " ") (reads_name (codes "Sh") s) p _ Empties acts.Title acts.TitleEnds acts.Section [] (section_offered false u s e f) refl refl;
      at = record {
        scan_is = refl;
        word_is = refl;
        marks_are = none;
        few = nothing_few;
        going = refl;
        comment = refl;
        line = refl;
        fits = refl;
        way = refl;
        free = λ h. refl;
      };
    }

blank_taken : (s : State) (word : List ℕ) → In false heads s scans.Between word [] → Takes (code " ") s s 1 []
unfolding said lay_out between_by
blank_taken s word at =
    takes_by (code " ") s s.page s.page acts.Nothing acts.Nothing acts.Nothing [] (between_offered heads (code " ") s word [] at) refl refl

-- ---- its first word is whole

-- after it others are read as they are on lines of other macros
after_first : Page → Page
after_first p =
    let q = enters (with_scan scans.Between p) in record q { call = record q.call { taker = macros.Words Roman; some = true } }

given_by : Macro → Page → Offered
given_by m p =
    let o = option_for m (with_scan scans.Between p) in offered (record o.page { call = record o.page.call { some = true } }) o.seen

first_offered : (quoted : Bool) (b : ℕ) (s : State) (word : List ℕ) (o : Option Macro) → In false heads s (scans.Given quoted) word []
    → called_by quoted word ≡ o → offer b s.page ≡ (if not (is_some o) then given_by macros.Section s.page else parsed quoted s.page)
unfolding offer offer_whole option_word given_by
first_offered quoted b s word o at e =
    let p = s.page in
    ap (λ (sc : Scan). offer_at sc b p) at.scan_is ∙ ap (λ (sc : Scan). offer_whole_at sc b p) at.scan_is
    ∙ ap (λ (t : Bool). if t then ends_long p else if reads_for p.call.taker && not (heading_calls quoted p) then option p else parsed quoted p) at.going
    ∙ ap (λ (m : Macro). if reads_for m && not (is_heading m && is_some (called_by quoted p.word)) then given_by m p else parsed quoted p)
    (the_heading p.call.taker at.fits)
    ∙ ap (λ (w : List ℕ). if not (is_some (called_by quoted w)) then given_by macros.Section p else parsed quoted p) at.word_is
    ∙ ap (λ (x : Option Macro). if not (is_some x) then given_by macros.Section p else parsed quoted p) e

heading_offered : (quoted : Bool) (b : ℕ) (s : State) (word : List ℕ) → In false heads s (scans.Given quoted) word [] → called_by quoted word ≡ None
    → offer b s.page ≡ offered (after_first s.page) (three (acts.Word Roman) acts.Nothing acts.Nothing)
unfolding after_first given_by
heading_offered quoted b s word at e = first_offered quoted b s word None at e

-- a word that calls a macro is no mark
no_mark : (word : List ℕ) (m : Macro) → called_by false word ≡ Some m → closing_mark false word ≡ None
no_mark [] m e = refl
no_mark (a ∷ []) m e = absurd (let no : None ≡ Some m = e in cc)
no_mark (a ∷ b ∷ rest) m e = refl

no_pending : (p : Page) → p.call.taker ≡ macros.Section → is_pending p ≡ false
no_pending p e = ap (λ (m : Macro). is_pending_from m p.call.some (not (is_none p.name))) e

call_offered : (b : ℕ) (s : State) (word : List ℕ) (m : Macro) → In false heads s (scans.Given false) word [] → called_by false word ≡ Some m
    → offer b s.page ≡ calls m s.page
unfolding parsed unmarked_by call_by
call_offered b s word m at e =
    let p = s.page in
    first_offered false b s word (Some m) at e
    ∙ ap (λ (w : List ℕ). marked_or (closing_mark false w) false p) at.word_is
    ∙ ap (λ (o : Option ℕ). marked_or o false p) (no_mark word m e) ∙ unmarked_is p
    ∙ ap (λ (xs : List ℕ). unmarked_by (is_none xs) (called_by p.call.plain p.word) p) at.marks_are
    ∙ ap (λ (w : List ℕ). read_or_called (called_by p.call.plain w) false p) at.word_is
    ∙ ap (λ (l : Lined). read_or_called (called_by l.mute word) false p) at.line
    ∙ ap (λ (o : Option Macro). read_or_called o false p) e
    ∙ call_is m p ∙ ap (λ (t : Bool). call_by t (encloses_address m p) m p) (no_pending p (the_heading p.call.taker at.fits))

short_whole : (quoted : Bool) (b : ℕ) (s : State) (word : List ℕ) → In false heads s (scans.Given quoted) word [] → called_by quoted word ≡ None
    → Whole (after_heads Usual) b s 3 word
unfolding after_first takes_plain
short_whole quoted b s word at e =
    let p = s.page in
    let q = record p { scan = scans.Between; call = record p.call { taker = macros.Words Roman } } in
    let keeps : Keeps q (after_first p) =
    record { scan = refl; word = refl; marks = refl; few = λ l. l; going = refl; comment = refl; line = refl; fits = refl; way = refl } in
    let head = after_heads Usual in
    whole_of head b s 1 3 q.word q.word [] word (omega arith)
    (out_step head b s (offered (after_first p) (three (acts.Word Roman) acts.Nothing acts.Nothing)) q q.word [] (heading_offered quoted b s word at e)
    (said_in Roman (after_first p) q keeps) at.marks_are at.few at.going at.comment at.line refl (λ h. refl))
    (append-nil q.word ∙ at.word_is)

last_whole : (quoted : Bool) (b : ℕ) (s : State) (word : List ℕ) → In true heads s (scans.Given quoted) word [] → Whole (after_heads Usual) b s 3 word
unfolding takes_plain
last_whole quoted b s word at =
    let is = the_heading s.page.call.taker at.fits in
    long_whole quoted heads (after_heads Usual) b s word at refl (ap (λ (m : Macro). takes_plain (taken_after m)) is) (ap (λ (m : Macro). way_of (taken_after m)) is)

-- by what it calls
given_first : (o : Option Macro) (b : ℕ) (s : State) (word : List ℕ) → In false heads s (scans.Given false) word [] → called_by false word ≡ o
    → none_or prints_words o ≡ true → Whole (after_heads (way_after Usual o)) b s 3 (unless_called Headed o word)
given_first None b s word at e f = short_whole false b s word at e
given_first (Some m) b s word at e f =
    whole_within (after_heads (way_of m)) b s 1 3 [] (omega arith)
    (calls_whole heads (after_heads (way_of m)) m b s word at refl refl (prints_plain m f) (call_offered b s word m at e))

bare_after : (reached : Option Reached) (s : State) (word : List ℕ) → In false heads s (in_named reached false) word [] → none_or prints_words (called_by false word) ≡ true
    → Following (after_heads (way_after Usual (called_by false word))) s (unless_called Headed (called_by false word) word)
bare_after reached s word at f =
    let o = called_by false word in
    let inside = given_at false heads s (in_named reached false) word [] at in
    after_of (after_heads (way_after Usual o)) s (given s) (unless_called Headed o word)
    (given_leads reached false heads (code " ") s word [] at refl) (given_leads reached false heads (code "\n") s word [] at refl)
    (given_first o (code " ") (given s) word inside refl f) (given_first o (code "\n") (given s) word inside refl f) refl

long_after : (reached : Option Reached) (s : State) (word : List ℕ) → In true heads s (in_named reached false) word [] → Following (after_heads Usual) s word
long_after reached s word at =
    let inside = given_at true heads s (in_named reached false) word [] at in
    after_of (after_heads Usual) s (given s) word
    (given_leads reached true heads (code " ") s word [] at refl) (given_leads reached true heads (code "\n") s word [] at refl)
    (last_whole false (code " ") (given s) word inside) (last_whole false (code "\n") (given s) word inside) refl

quoted_whole : (going : Bool) (b : ℕ) (s : State) (word : List ℕ) → In going heads s (scans.Given true) word [] → Whole (after_heads Usual) b s 3 word
quoted_whole true b s word at = last_whole true b s word at
quoted_whole false b s word at = short_whole true b s word at (called_none word)

quoted_after : (going : Bool) (s : State) (word : List ℕ) → In going heads s scans.Closing word [] → Following (after_heads Usual) s word
quoted_after going s word at =
    let inside = quoted_at going heads s word [] at in
    after_of (after_heads Usual) s (given_quoted s) word
    (quoted_leads going heads (code " ") s word [] at refl) (quoted_leads going heads (code "\n") s word [] at refl)
    (quoted_whole going (code " ") (given_quoted s) word inside) (quoted_whole going (code "\n") (given_quoted s) word inside) refl

-- no marks are held back
none_held : (going : Bool) (held : List ℕ) → (going ≡ true → held ≡ []) → (going ≡ false → held ≡ []) → held ≡ []
none_held true held f g = f refl
none_held false held f g = g refl

clear_at : (going : Bool) (s : State) (scan : Scan) (word held : List ℕ) → held ≡ [] → In going heads s scan word held → In going heads s scan word []
clear_at going s scan word held e at = subst (λ (hs : List ℕ). In going heads s scan word hs) e at

going_at : (t : Bool) (going : Bool) (s : State) (scan : Scan) (word held : List ℕ) → going ≡ t → In going heads s scan word held → In t heads s scan word held
going_at t going s scan word held e at = subst (λ (g : Bool). In g heads s scan word held) e at

-- what is said of it
record First (way : Way) (s : State) (bs all : List ℕ) : Type 0 where
  next : State
  xs : List ℕ
  ys : List ℕ
  said : (rest : List ℕ) → words_of (parts_of s (bs ++ rest)) ≡ xs ++ words_of (parts_of next rest)
  state : after s bs ≡ next
  following : Following (after_heads way) next ys
  total : xs ++ ys ≡ all

first_total : (xs held word all : List ℕ) → xs ++ (held ++ word) ≡ all → held ≡ [] → xs ++ word ≡ all
first_total xs held word all e f = ap (λ (hs : List ℕ). xs ++ (hs ++ word)) (sym f) ∙ e

first_bare : (t : Bool) (reached : Option Reached) (s : State) (bs all : List ℕ) (first hyphen : Bool) (r : Read heads false false s (in_named reached false) bs [] all first hyphen) → r.going ≡ t
    → none_or prints_words (called_by false all) ≡ true
    → First (way_after Usual (called_by false all)) s bs (unless_called Headed (called_by false all) all)
first_bare true reached s bs all first hyphen r e f =
    let here = in_named reached false in
    let none = none_held r.going r.held r.clear r.same_marks in
    let at = clear_at true r.next here r.word r.held none (going_at true r.going r.next here r.word r.held e r.at) in
    let long : First Usual s bs all = record {
      next = r.next;
      xs = r.xs;
      ys = r.word;
      said = r.said;
      state = r.state;
      following = long_after reached r.next r.word at;
      total = first_total r.xs r.held r.word all r.total none;
    } in
    subst (λ (o : Option Macro). First (way_after Usual o) s bs (unless_called Headed o all)) (sym (long_calls false all (r.long e))) long
first_bare false reached s bs all first hyphen r e f =
    let here = in_named reached false in
    let none = none_held r.going r.held r.clear r.same_marks in
    let short = clear_at false r.next here r.word r.held none (going_at false r.going r.next here r.word r.held e r.at) in
    let at = subst (λ (w : List ℕ). In false heads r.next here w []) (r.same e) short in
    let ys = unless_called Headed (called_by false all) all in
    record {
      next = r.next;
      xs = r.xs;
      ys = ys;
      said = r.said;
      state = r.state;
      following = bare_after reached r.next all at f;
      total = ap (λ (zs : List ℕ). zs ++ ys) (r.silent e);
    }

no_whole : (p : Page) → p.call.taker ≡ macros.Section → is_whole p ≡ false
no_whole p e = ap (λ (m : Macro). whole_for m p) e

first_quoted : (s : State) (bs : List ℕ) (ls : List Letter) (whole first hyphen : Bool) → Read heads true whole s scans.Closing bs [] (kept Headed whole ls) first hyphen
    → First Usual s bs (kept Headed false ls)
first_quoted s bs ls whole first hyphen r =
    let none = none_held r.going r.held r.clear r.same_marks in
    let apart : whole ≡ false = sym r.together ∙ no_whole r.next.page (the_heading r.next.page.call.taker r.at.fits) in
    record {
      next = r.next;
      xs = r.xs;
      ys = r.word;
      said = r.said;
      state = r.state;
      following = quoted_after r.going r.next r.word (clear_at r.going r.next scans.Closing r.word r.held none r.at);
      total = first_total r.xs r.held r.word (kept Headed whole ls) r.total none ∙ ap (λ (t : Bool). kept Headed t ls) apart;
    }

first_word : (w : Word) (s : State) (word : List ℕ) → In false heads s scans.Between word [] → is_first w ≡ true
    → First (way_headed w) s (written_word w) (headed w)
first_word (Bare []) s word at h = absurd (let no : false ≡ true = h in cc)
first_word (Bare (l ∷ ls)) s word at h =
    let all = read_bare l ls heads s word [] at (word_letters false Headed l ls h) in
    let spelled = all.spelled in
    first_bare spelled.read.going all.reached s (written false (l ∷ ls)) (kept Headed false (l ∷ ls)) spelled.first spelled.hyphen spelled.read refl (word_prints false Headed l ls h)
first_word (Quoted ls) s word at h =
    let q = read_quoted ls heads s word [] at h in
    first_quoted s (code "\"" ∷ written true ls ++ codes "\"") ls q.whole q.spelled.first q.spelled.hyphen q.spelled.read

-- ---- the whole line

pub heading_line : (w : Word) (ws : List Word) (s : State) → s.page.marks ≡ [] → is_first w ≡ true → are_written false (way_headed w) ws ≡ true
    → Line (reads_at scans.Start s) (line_of (codes "Sh") (w ∷ ws)) (headed w) false (way_headed w) ws
heading_line w ws s none h all =
    let start = reads_at scans.Start s in
    let line = begun_by s.page.place.titled (is_page s.page.block.kind) s none refl refl in
    let first = first_word w line.next (codes "Sh") line.at h in
    let rest = in_words ws (after_heads (way_headed w)) first.next first.ys first.following refl all in
    let following = after_each ws ++ codes "\n" in
    let bytes = written_word w in
    let words = (bytes ++ after_each ws) ++ codes "\n" in
    let takes = then_takes (code " ") (reads_name (codes "Sh") s) line.next line.next 1 1 [] [] line.leads (blank_taken line.next (codes "Sh") line.at) in
    let begins = name_begun (code "S") s refl in
    let goes_on = name_taken (code "h") (codes "S") s refl (omega arith) in
    record {
      wholes = rest.wholes;
      words =
          next-words (code ".") (codes "Sh " ++ words) start (reads_at scans.Control s) 1 [] _ one_enough (control_taken s) refl
          ∙ next-words (code "S") (codes "h " ++ words) (reads_at scans.Control s) (reads_name (codes "S") s) 1 [] _ one_enough begins refl
          ∙ next-words (code "h") (codes " " ++ words) (reads_name (codes "S") s) (reads_name (codes "Sh") s) 1 [] _ one_enough goes_on refl
          ∙ next-words (code " ") words (reads_name (codes "Sh") s) line.next (1 + 1) ([] ++ []) _ two_enough takes refl
          ∙ ap (λ (xs : List ℕ). words_of (parts_of line.next xs)) (append_assoc bytes (after_each ws) (codes "\n"))
          ∙ first.said following ∙ ap (λ (zs : List ℕ). first.xs ++ zs) rest.words
          ∙ sym (append_assoc first.xs first.ys (printed_as false (way_headed w) rest.wholes ws))
          ∙ ap (λ (zs : List ℕ). zs ++ printed_as false (way_headed w) rest.wholes ws) first.total;
      fresh =
          subst Fresh
          (sym (next-state (code ".") (codes "Sh " ++ words) start (reads_at scans.Control s) 1 [] one_enough (control_taken s)
          ∙ next-state (code "S") (codes "h " ++ words) (reads_at scans.Control s) (reads_name (codes "S") s) 1 [] one_enough begins
          ∙ next-state (code "h") (codes " " ++ words) (reads_name (codes "S") s) (reads_name (codes "Sh") s) 1 [] one_enough goes_on
          ∙ next-state (code " ") words (reads_name (codes "Sh") s) line.next (1 + 1) ([] ++ []) two_enough takes
          ∙ ap (λ (xs : List ℕ). after line.next xs) (append_assoc bytes (after_each ws) (codes "\n"))
          ∙ after-append line.next bytes following ∙ ap (λ (t : State). after t following) first.state))
          rest.fresh;
    }

pub heading_names : (w : Word) (ws : List Word) → is_first w ≡ true → are_written false (way_headed w) ws ≡ true
    → names_no_string (codes "." ++ codes "Sh" ++ after_each (w ∷ ws)) ≡ true
heading_names (Bare []) ws h all = absurd (let no : false ≡ true = h in cc)
heading_names (Bare (l ∷ ls)) ws h all =
    letters_names false (l ∷ ls) (after_each ws) (word_letters false Headed l ls h) (each_names ws false (way_headed (Bare (l ∷ ls))) all)
heading_names (Quoted ls) ws h all =
    subst (λ (xs : List ℕ). names_no_string xs ≡ true) (sym (append_assoc (written true ls) (codes "\"") (after_each ws)))
    (letters_names true ls (code "\"" ∷ after_each ws) h (each_names ws false Usual all))

pub headings_are_said : HeadingsAreSaid
headings_are_said s w ws none h all =
    let line = heading_line w ws s none h all in (
      line.wholes,
      record {
        text = line-text (codes "." ++ codes "Sh" ++ after_each (w ∷ ws)) (reads_at scans.Start s) refl (heading_names w ws h all);
        words = line.words;
      },
    )
