-- What becomes of a word that is whole: it calls a macro, or it is said, or held back as a closing mark.
use Rattle.std.proofs.Common.{◌≡◌, ℕ, ◌≤◌, ◌-◌, List, [], ◌∷◌, ◌++◌, length, length-append, take, Bool, true, false, not, ◌&&◌, ◌==◌, if◌then◌else◌, Option, None, Some, refl, sym, ◌∙◌, ap, subst, append-nil, arith}
use Rattle.std.proofs.lemmas.Bool.Decides.{nat_tests}
use Rattle.std.proofs.lemmas.List.{length-take}
use Rattle.mdoc_layout.specs.declared.acts.Act.TheVariants as acts
use Rattle.mdoc_layout.specs.declared.acts.Text.TheVariants as texts
use Rattle.mdoc_layout.specs.declared.macros.Font.TheVariants.{Roman}
use Rattle.mdoc_layout.specs.declared.macros.Macro.{Macro}
use Rattle.mdoc_layout.specs.declared.macros.Macro.TheVariants as macros
use Rattle.mdoc_layout.specs.declared.macros.Pair.TheVariants as pairs
use Rattle.mdoc_layout.specs.declared.page.Lay.{Lay}
use Rattle.mdoc_layout.specs.declared.page.Page.{Page}
use Rattle.mdoc_layout.specs.declared.page.Scan.TheVariants as scans
use Rattle.mdoc_layout.specs.declared.seen.Seen.{Seen}
use Rattle.mdoc_words.specs.Calls.{call, called, called_by, calls, encloses_address, ends_cell, is_enclosure_pending, is_pending, joining, leaves, opens_address, taking}
use Rattle.mdoc_words.specs.Meanings.{is_callable, joins_next}
use Rattle.mdoc_words.specs.Rules.{is_none, seen_with, with_scan}
use Rattle.mdoc_words.specs.Taking.{argument, is_bar, is_opening, is_prefix, some_taken, taken_word}
use Rattle.mdoc_words.specs.Words.{closing_mark, marked_or, parsed, read_or_called, unmarked}
use Rattle.mdoc_layout.specs.Laying.{put_closing, was_put, with_lay}
use Rattle.mdoc_layout.specs.LayingOut.{lay_out}
use Rattle.mdoc_words.specs.Options.{is_heading, reads_for}
use Rattle.mdoc_converter.specs.Reading.{State, said}
use Rattle.mdoc_converter.specs.Scanning.{offer}
use Rattle.mdoc_layout.specs.Seeing.{Offered, offered, left, two, three}
use Rattle.mdoc_layout.specs.Texts.{closer}
use Rattle.mdoc_converter.specs.WrittenLines.{asks, heads_words, none_or, prints_otherwise, prints_words, said_of, unless_called, Way, Usual, way_after, way_of}
use Rattle.mdoc_converter.proofs.Escapes.{and_left, and_right, is_not}
use Rattle.mdoc_converter.proofs.Given.{Whole, whole_of, whole_after, whole_within, given_offered}
use Rattle.mdoc_converter.proofs.MarksHeld.{the_mark, one_at_most, two_at_most, mark_whole}
use Rattle.mdoc_converter.proofs.Offering.{with_page, leads_by}
use Rattle.mdoc_converter.proofs.Outcomes.{is_quiet, of_word, never, Lays, Lined, quiet-page, takes_plain, Keeps, Out, out, out_when, same_page, leaves_out}
use Rattle.mdoc_converter.proofs.Stepping.{At, Head, In, Left, Manner, plainly, out_step, no_more_step, left_step, leaves_step, marks_step}
use Rattle.mdoc_converter.proofs.Taken.{called_out, taken_out, said_in}
use Rattle.mdoc_converter.proofs.Ways.{pending_usual, opened_usual, said_bar, said_one, said_opening}

-- ---- words that are no marks

unfoldable pub unmarked_by : Bool → Option Macro → Page → Offered
unmarked_by none called p = if not none then offered p (left acts.Marks) else read_or_called called false p

pub unmarked_is : (p : Page) → unmarked false p ≡ unmarked_by (is_none p.marks) (called_by p.call.plain p.word) p
unfolding unmarked unmarked_by
unmarked_is p = refl

unmarked_offered : (head : Head) (b : ℕ) (s : State) (word marks : List ℕ) → At head s (scans.Given false) word marks
    → closing_mark false word ≡ None → offer b s.page ≡ unmarked_by (is_none s.page.marks) (called_by s.page.call.plain s.page.word) s.page
unfolding parsed
unmarked_offered head b s word marks at e =
    given_offered head b s word marks at
    ∙ ap (λ (w : List ℕ). marked_or (closing_mark false w) false s.page) at.word_is
    ∙ ap (λ (o : Option ℕ). marked_or o false s.page) e ∙ unmarked_is s.page

clear_offered : (head : Head) (b : ℕ) (s : State) (word : List ℕ) (o : Option Macro) → At head s (scans.Given false) word []
    → closing_mark false word ≡ None → called_by head.line.mute word ≡ o → offer b s.page ≡ read_or_called o false s.page
unfolding unmarked_by
clear_offered head b s word o at e f =
    let p = s.page in
    unmarked_offered head b s word [] at e
    ∙ ap (λ (xs : List ℕ). unmarked_by (is_none xs) (called_by p.call.plain p.word) p) at.marks_are
    ∙ ap (λ (w : List ℕ). read_or_called (called_by p.call.plain w) false p) at.word_is
    ∙ ap (λ (l : Lined). read_or_called (called_by l.mute word) false p) at.line
    ∙ ap (λ (c : Option Macro). read_or_called c false p) f

-- ---- macros that are called

callable_reads : (m : Macro) → is_callable m ≡ true → reads_for m ≡ false
callable_reads macros.Date h = never h
callable_reads macros.Title h = never h
callable_reads macros.List h = never h
callable_reads macros.Display h = never h
callable_reads macros.FontBegins h = never h
callable_reads macros.Spacing h = never h
callable_reads macros.Exits h = never h
callable_reads macros.Returns h = never h
callable_reads macros.Section h = never h
callable_reads m h = refl

both_not : (a b : Bool) → a ≡ false → b ≡ false → (not a && not b) ≡ true
both_not a b p q = ap (λ (t : Bool). not t && not b) p ∙ ap not q

pub prints_plain : (m : Macro) → prints_words m ≡ true → takes_plain m ≡ true
unfolding takes_plain
prints_plain m h =
    both_not (prints_otherwise m) (reads_for m) (is_not (prints_otherwise m) (and_right (is_callable m) (not (prints_otherwise m)) h))
    (callable_reads m (and_left (is_callable m) (not (prints_otherwise m)) h))

heads_reads : (m : Macro) → heads_words m ≡ true → reads_for m ≡ false
heads_reads macros.Date h = never h
heads_reads macros.Title h = never h
heads_reads macros.List h = never h
heads_reads macros.Display h = never h
heads_reads macros.FontBegins h = never h
heads_reads macros.Spacing h = never h
heads_reads macros.Exits h = never h
heads_reads macros.Returns h = never h
heads_reads macros.Section h = never h
heads_reads m h = refl

pub heads_plain : (m : Macro) → heads_words m ≡ true → takes_plain m ≡ true
unfolding takes_plain
heads_plain m h =
    both_not (prints_otherwise m) (reads_for m)
    (is_not (prints_otherwise m)
    (and_left (not (prints_otherwise m)) (not (asks m)) (and_left (not (prints_otherwise m) && not (asks m)) (not (is_heading m)) h)))
    (heads_reads m h)

none_left : (xs ys : List ℕ) → xs ++ ys ≡ [] → xs ≡ []
none_left [] ys e = refl
none_left (x ∷ xs) ys e = absurd (let no : x ∷ (xs ++ ys) ≡ [] = e in cc)

none_right : (xs ys : List ℕ) → xs ++ ys ≡ [] → ys ≡ []
none_right [] ys e = e
none_right (x ∷ xs) ys e = absurd (let no : x ∷ (xs ++ ys) ≡ [] = e in cc)

joined_words : (xs ys zs : List ℕ) → xs ++ (ys ++ (zs ++ [])) ≡ [] → xs ++ ([] ++ (zs ++ [])) ≡ []
joined_words xs ys zs e =
    let rest = none_right xs (ys ++ (zs ++ [])) e in
    ap (λ (us : List ℕ). us ++ ([] ++ (zs ++ []))) (none_left xs (ys ++ (zs ++ [])) e) ∙ none_right ys (zs ++ []) rest

joined_out : (t : Bool) (m : Offered) (p : Page) → Out m p [] → Out (joining t m) p []
unfolding is_quiet of_word
joined_out true m p o = record {
  x = o.x;
  y = acts.Join;
  z = o.z;
  seen = ap (λ (seen : Seen). record seen { second = acts.Join }) o.seen;
  quiet_x = o.quiet_x;
  quiet_y = refl;
  quiet_z = o.quiet_z;
  words = joined_words (of_word o.x p.word) (of_word o.y p.word) (of_word o.z p.word) o.words;
  keeps = o.keeps;
}
joined_out false m p o = o

joined_page : (t : Bool) (m : Offered) → (joining t m).page ≡ m.page
joined_page true m = refl
joined_page false m = refl

unfoldable pub call_by : Bool → Bool → Macro → Page → Offered
call_by pending address m p =
    if not pending then calls m p else if address then opens_address p else joining (joins_next p.call.taker) (leaves p)

pub call_is : (m : Macro) (p : Page) → call m p ≡ call_by (is_pending p) (encloses_address m p) m p
unfolding call call_by
call_is m p = refl

-- the page that a macro is called on
calling : Macro → Page → Page
calling m p = taking m p

calls_by : Bool → Macro → Page → Offered
calls_by ends m p = if ends then offered (calling m p) (two acts.Closers acts.Cell) else called m (calling m p)

calls_is : (m : Macro) (p : Page) → calls m p ≡ calls_by (ends_cell m p) m p
unfolding calls_by calling
calls_is m p = refl

-- how the words after a word are taken
abbrev pub after_head : Head → Option Macro → Head
after_head head o = record { line = head.line; way = way_after head.way o }

-- a word that calls nothing
pub called_nothing : (head : Head) (b : ℕ) (s : State) (k : ℕ) (all : List ℕ) → Whole head b s k all → Whole (after_head head None) b s k all
called_nothing head b s k all w = record {
  steps = w.steps;
  few = w.few;
  xs = w.xs;
  word = w.word;
  marks = w.marks;
  step = record {
    next = w.step.next;
    leads = w.step.leads;
    at = record {
      scan_is = w.step.at.scan_is;
      word_is = w.step.at.word_is;
      marks_are = w.step.at.marks_are;
      few = w.step.at.few;
      going = w.step.at.going;
      comment = w.step.at.comment;
      line = w.step.at.line;
      fits = w.step.at.fits;
      way = w.step.at.way;
      free = w.step.at.free;
    };
  };
  total = w.total;
}

-- ---- what begins a cell ends what the one before opened

closing_lays : (cs : List ℕ) (p : Page) → Lays p (put_closing cs p).page
closing_lays [] p = (p.lay, refl)
closing_lays (c ∷ cs) p = let l = closing_lays cs p in (_, ap was_put l.1)

-- its page then
record Celled (q : Page) : Type 0 where
  lay : Lay
  is : (said (two acts.Closers acts.Cell) q).page ≡ with_lay lay (record q { closers = [] })

celled : (q : Page) → Celled q
unfolding said lay_out is_quiet
celled q =
    let p = record q { closers = [] } in
    let l = closing_lays q.closers p in
    let c = quiet-page acts.Cell (put_closing q.closers p).page refl in
    record { lay = c.0; is = c.1 ∙ ap (with_lay c.0) l.1 }

cell_whole : (head : Manner) (following : Head) (m : Macro) (b : ℕ) (s : State) (word : List ℕ) → In false head s (scans.Given false) word []
    → head.line ≡ following.line → way_of m ≡ following.way → takes_plain m ≡ true → offer b s.page ≡ offered (calling m s.page) (two acts.Closers acts.Cell)
    → Whole following b s 1 []
unfolding calling
cell_whole head following m b s word at line way f e =
    let q = calling m s.page in
    let c = celled q in
    let r = with_lay c.lay (record q { closers = [] }) in
    whole_of following b s 1 1 [] s.page.word [] [] one_at_most
    (record {
      next = with_page r s;
      leads = leads_by b s q r acts.Closers acts.Cell acts.Nothing [] e c.is refl;
      at = record {
        scan_is = refl;
        word_is = refl;
        marks_are = at.marks_are;
        few = omega arith;
        going = at.going;
        comment = at.comment;
        line = at.line ∙ line;
        fits = f;
        way = way;
        free = λ h. refl;
      };
    })
    refl

called_in : (t : Bool) (head : Manner) (following : Head) (m : Macro) (b : ℕ) (s : State) (word : List ℕ) → In false head s (scans.Given false) word []
    → head.line ≡ following.line → way_of m ≡ following.way → takes_plain m ≡ true → offer b s.page ≡ calls_by t m s.page → Whole following b s 1 []
unfolding calling calls_by
called_in true head following m b s word at line way f e = cell_whole head following m b s word at line way f e
called_in false head following m b s word at line way f e =
    whole_of following b s 1 1 [] s.page.word [] [] one_at_most
    (out_step following b s (called m (calling m s.page)) (calling m s.page) [] [] e (called_out m (calling m s.page) f)
    at.marks_are at.few at.going at.comment (at.line ∙ line) way (λ h. refl))
    refl

pub calls_whole : (head : Manner) (following : Head) (m : Macro) (b : ℕ) (s : State) (word : List ℕ) → In false head s (scans.Given false) word []
    → head.line ≡ following.line → way_of m ≡ following.way → takes_plain m ≡ true → offer b s.page ≡ calls m s.page → Whole following b s 1 []
calls_whole head following m b s word at line way f e =
    called_in (ends_cell m s.page) head following m b s word at line way f (e ∙ calls_is m s.page)

-- what opens an address of mail
address_few : (cs : List ℕ) (c : ℕ) → length cs ≤ 8 → length (take (length cs - 1) cs ++ c ∷ []) ≤ 8
address_few cs c l = rw (length-append (take (length cs - 1) cs) (c ∷ []), length-take (length cs - 1) cs) (omega arith)

address_out : (p : Page) → way_of p.call.taker ≡ Usual → Out (opens_address p) p []
unfolding is_quiet of_word takes_plain
address_out p u =
    out _ p (acts.Text (texts.Opening pairs.Signs)) acts.Join acts.Nothing [] refl refl refl refl
    (record {
      scan = refl;
      word = refl;
      marks = refl;
      few = address_few p.closers (closer pairs.Signs);
      going = refl;
      comment = refl;
      line = refl;
      fits = refl;
      way = sym u;
    })

-- what is pending is said first
pending_step : (t : Bool) (head : Head) (m : Macro) (b : ℕ) (s : State) (word : List ℕ) → At head s (scans.Given false) word []
    → is_pending s.page ≡ true → offer b s.page ≡ call_by true t m s.page → Left head b s (scans.Given false) word []
unfolding call_by
pending_step true head m b s word at pending e =
    let p = s.page in
    let closers = take (length p.closers - 1) p.closers ++ closer pairs.Signs ∷ [] in
    no_more_step head b s (opens_address p) (record p { closers = closers }) (scans.Given false) word [] at e (address_out p (pending_usual p pending)) refl
pending_step false head m b s word at pending e =
    let p = s.page in
    let flag = joins_next p.call.taker in
    left_step head b s (joining flag (leaves p)) (scans.Given false) word [] at e
    (joined_out flag (leaves p) p (leaves_out p at.fits (pending_usual p pending))) (joined_page flag (leaves p))

called_whole : (t : Bool) (head : Head) (m : Macro) (b : ℕ) (s : State) (word : List ℕ) → At head s (scans.Given false) word [] → takes_plain m ≡ true
    → closing_mark false word ≡ None → called_by head.line.mute word ≡ Some m → is_pending s.page ≡ t
    → Whole (after_head head (Some m)) b s 2 []
unfolding call_by
called_whole true head m b s word at f e g pending =
    let p = s.page in
    let first = pending_step (encloses_address m p) head m b s word at pending
    (clear_offered head b s word (Some m) at e g ∙ call_is m p ∙ ap (λ (t : Bool). call_by t (encloses_address m p) m p) pending) in
    let t = first.step.next in
    whole_after (after_head head (Some m)) b s t 1 [] [] [] first.step.leads
    (calls_whole (plainly head) (after_head head (Some m)) m b t word first.step.at refl refl f
    (clear_offered head b t word (Some m) first.step.at e g ∙ call_is m t.page ∙ ap (λ (t2 : Bool). call_by t2 (encloses_address m t.page) m t.page) first.not_pending))
    refl
called_whole false head m b s word at f e g pending =
    whole_within (after_head head (Some m)) b s 1 2 [] two_at_most
    (calls_whole (plainly head) (after_head head (Some m)) m b s word at refl refl f (clear_offered head b s word (Some m) at e g ∙ call_is m s.page ∙ ap (λ (t : Bool). call_by t (encloses_address m s.page) m s.page) pending))

-- ---- words that a macro takes

argument_by : Bool → Bool → Page → Offered
argument_by first second p =
    let q = with_scan scans.Between p in
    if first then leaves p else
    if second then leaves p else
    if is_bar p.word then offered q (left (acts.Word Roman)) else
    if is_opening p.word && not (is_prefix p.call.taker)
    then offered q (three (acts.Word Roman) acts.Join acts.Nothing) else
    seen_with (some_taken (taken_word q).page) (taken_word q)

argument_is : (p : Page) → argument false p ≡ argument_by (is_bar p.word && is_pending p) (is_enclosure_pending p && not (is_opening p.word)) p
unfolding argument argument_by
argument_is p = refl

pub some_kept : (q p : Page) → Keeps q p → Keeps q (some_taken p)
some_kept q p i = record {
  scan = i.scan;
  word = i.word;
  marks = i.marks;
  few = i.few;
  going = i.going;
  comment = i.comment;
  line = i.line;
  fits = i.fits;
  way = i.way;
}

out_same : (m : Offered) (q : Page) (xs ys : List ℕ) → xs ≡ ys → Out m q xs → Out m q ys
out_same m q xs ys e o = subst (λ (zs : List ℕ). Out m q zs) e o

argument_out : (p : Page) → takes_plain p.call.taker ≡ true → Out (argument_by false false p) (with_scan scans.Between p) (said_of (way_of p.call.taker) p.word)
unfolding argument_by is_quiet of_word
argument_out p f =
    let q = with_scan scans.Between p in
    let way = way_of p.call.taker in
    let o = taken_out q f in
    out_when (is_bar p.word) _ _ q (said_of way p.word)
    (λ h. out_same _ q p.word (said_of way p.word) (said_bar way p.word h) (said_in Roman q q (same_page q f)))
    (out_when (is_opening p.word && not (is_prefix p.call.taker)) _ _ q (said_of way p.word)
    (λ h. out_same _ q p.word (said_of way p.word) (said_opening way p.word (and_left (is_opening p.word) (not (is_prefix p.call.taker)) h))
    (out q q (acts.Word Roman) acts.Join acts.Nothing q.word refl refl refl (append-nil q.word) (same_page q f)))
    (record {
      x = o.x;
      y = o.y;
      z = o.z;
      seen = o.seen;
      quiet_x = o.quiet_x;
      quiet_y = o.quiet_y;
      quiet_z = o.quiet_z;
      words = o.words;
      keeps = some_kept q (taken_word q).page o.keeps;
    }))

said_whole : (head : Head) (b : ℕ) (s : State) (word : List ℕ) → At head s (scans.Given false) word []
    → offer b s.page ≡ argument_by false false s.page → Whole head b s 1 (said_of head.way word)
said_whole head b s word at e =
    let p = s.page in
    let xs = said_of (way_of p.call.taker) p.word in
    whole_of head b s 1 1 xs p.word [] (said_of head.way word) one_at_most
    (out_step head b s (argument_by false false p) (with_scan scans.Between p) xs [] e (argument_out p at.fits)
    at.marks_are at.few at.going at.comment at.line at.way (λ h. refl))
    (append-nil xs ∙ ap (λ (w : Way). said_of w p.word) at.way ∙ ap (said_of head.way) at.word_is)

pub and_false : (a b : Bool) → b ≡ false → (a && b) ≡ false
and_false true b e = e
and_false false b e = refl

argument_offered : (head : Head) (b : ℕ) (s : State) (word : List ℕ) (t u : Bool) → At head s (scans.Given false) word []
    → closing_mark false word ≡ None → called_by head.line.mute word ≡ None
    → (is_bar s.page.word && is_pending s.page) ≡ t → (is_enclosure_pending s.page && not (is_opening s.page.word)) ≡ u → offer b s.page ≡ argument_by t u s.page
argument_offered head b s word t u at e f g h =
    let p = s.page in
    clear_offered head b s word None at e f ∙ argument_is p
    ∙ ap (λ (x : Bool). argument_by x (is_enclosure_pending p && not (is_opening p.word)) p) g ∙ ap (λ (x : Bool). argument_by t x p) h

-- what is pending comes first
pending_whole : (head : Head) (b : ℕ) (s : State) (word : List ℕ) → At head s (scans.Given false) word []
    → closing_mark false word ≡ None → called_by head.line.mute word ≡ None → way_of s.page.call.taker ≡ Usual → offer b s.page ≡ leaves s.page
    → Whole head b s 2 (said_of head.way word)
pending_whole head b s word at e f u g =
    let first = leaves_step head b s (scans.Given false) word [] at u g in
    let t = first.step.next in
    whole_after head b s t 1 [] (said_of head.way word) (said_of head.way word) first.step.leads
    (said_whole head b t word first.step.at
    (argument_offered head b t word false false first.step.at e f
    (and_false (is_bar t.page.word) (is_pending t.page) first.not_pending)
    (ap (λ (x : Bool). x && not (is_opening t.page.word)) first.no_enclosure)))
    refl

argument_whole : (t u : Bool) (head : Head) (b : ℕ) (s : State) (word : List ℕ) → At head s (scans.Given false) word []
    → closing_mark false word ≡ None → called_by head.line.mute word ≡ None
    → (is_bar s.page.word && is_pending s.page) ≡ t → (is_enclosure_pending s.page && not (is_opening s.page.word)) ≡ u
    → Whole head b s 2 (said_of head.way word)
unfolding argument_by
argument_whole true u head b s word at e f g h =
    pending_whole head b s word at e f (pending_usual s.page (and_right (is_bar s.page.word) (is_pending s.page) g)) (argument_offered head b s word true u at e f g h)
argument_whole false true head b s word at e f g h =
    pending_whole head b s word at e f (opened_usual s.page (and_left (is_enclosure_pending s.page) (not (is_opening s.page.word)) h)) (argument_offered head b s word false true at e f g h)
argument_whole false false head b s word at e f g h =
    whole_within head b s 1 2 (said_of head.way word) two_at_most (said_whole head b s word at (argument_offered head b s word false false at e f g h))

clear_whole : (o : Option Macro) (head : Head) (b : ℕ) (s : State) (word : List ℕ) → At head s (scans.Given false) word []
    → closing_mark false word ≡ None → called_by head.line.mute word ≡ o → none_or prints_words o ≡ true
    → Whole (after_head head o) b s 2 (unless_called head.way o word)
clear_whole None head b s word at e f g =
    called_nothing head b s 2 (said_of head.way word)
    (argument_whole (is_bar s.page.word && is_pending s.page) (is_enclosure_pending s.page && not (is_opening s.page.word)) head b s word at e f refl refl)
clear_whole (Some m) head b s word at e f g = called_whole (is_pending s.page) head m b s word at (prints_plain m g) e f refl

whole_same : (head : Head) (b : ℕ) (s : State) (k : ℕ) (xs ys : List ℕ) → xs ≡ ys → Whole head b s k xs → Whole head b s k ys
whole_same head b s k xs ys e w = subst (λ (zs : List ℕ). Whole head b s k zs) e w

pub is_none-nil : (xs : List ℕ) → is_none xs ≡ true → xs ≡ []
is_none-nil [] e = refl
is_none-nil (x ∷ xs) e = absurd (let no : (length (x ∷ xs) == 0) ≡ true = e in grind (arith, nat_tests))

unmarked_whole : (t : Bool) (head : Head) (b : ℕ) (s : State) (word marks : List ℕ) → At head s (scans.Given false) word marks
    → closing_mark false word ≡ None → none_or prints_words (called_by head.line.mute word) ≡ true → is_none s.page.marks ≡ t
    → Whole (after_head head (called_by head.line.mute word)) b s 3 (marks ++ unless_called head.way (called_by head.line.mute word) word)
unfolding unmarked_by
unmarked_whole true head b s word marks at e f none =
    let o = called_by head.line.mute word in
    let all = unless_called head.way o word in
    let following = after_head head o in
    let no_marks : marks ≡ [] = sym at.marks_are ∙ is_none-nil s.page.marks none in
    let clear : At head s (scans.Given false) word [] = subst (λ (xs : List ℕ). At head s (scans.Given false) word xs) no_marks at in
    whole_same following b s 3 all (marks ++ all) (ap (λ (xs : List ℕ). xs ++ all) (sym no_marks))
    (whole_within following b s 2 3 all (omega arith) (clear_whole o head b s word clear e refl f))
unmarked_whole false head b s word marks at e f none =
    let p = s.page in
    let first = marks_step head b s (scans.Given false) word marks at
    (unmarked_offered head b s word marks at e ∙ ap (λ (t : Bool). unmarked_by t (called_by p.call.plain p.word) p) none) in
    let o = called_by head.line.mute word in
    let all = unless_called head.way o word in
    whole_after (after_head head o) b s first.next 2 marks all (marks ++ all) first.leads
    (clear_whole o head b first.next word first.at e refl f) refl

-- a mark calls nothing
mark_whole_as : (head : Head) (b : ℕ) (s : State) (word marks : List ℕ) (c : ℕ) → word ≡ c ∷ [] → Whole head b s 3 (marks ++ word)
    → Whole (after_head head (called_by head.line.mute word)) b s 3 (marks ++ unless_called head.way (called_by head.line.mute word) word)
mark_whole_as head b s word marks c e w =
    subst (λ (xs : List ℕ). Whole (after_head head (called_by head.line.mute xs)) b s 3 (marks ++ unless_called head.way (called_by head.line.mute xs) xs)) (sym e)
    (called_nothing head b s 3 (marks ++ said_of head.way (c ∷ []))
    (whole_same head b s 3 (marks ++ word) (marks ++ said_of head.way (c ∷ []))
    (ap (λ (xs : List ℕ). marks ++ xs) (e ∙ said_one head.way c)) w))

whole_by : (o : Option ℕ) (head : Head) (b : ℕ) (s : State) (word marks : List ℕ) → At head s (scans.Given false) word marks
    → none_or prints_words (called_by head.line.mute word) ≡ true → closing_mark false word ≡ o
    → Whole (after_head head (called_by head.line.mute word)) b s 3 (marks ++ unless_called head.way (called_by head.line.mute word) word)
whole_by None head b s word marks at f e = unmarked_whole (is_none s.page.marks) head b s word marks at e f refl
whole_by (Some c) head b s word marks at f e =
    mark_whole_as head b s word marks c (the_mark word c e) (mark_whole (is_pending s.page) head b c s word marks at e refl)

pub given_whole : (head : Head) (b : ℕ) (s : State) (word marks : List ℕ) → At head s (scans.Given false) word marks
    → none_or prints_words (called_by head.line.mute word) ≡ true
    → Whole (after_head head (called_by head.line.mute word)) b s 3 (marks ++ unless_called head.way (called_by head.line.mute word) word)
given_whole head b s word marks at f = whole_by (closing_mark false word) head b s word marks at f refl
