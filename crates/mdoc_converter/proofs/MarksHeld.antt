-- A word that is a closing mark is held back, or said where it comes first.
use Rattle.std.proofs.Common.{◌≡◌, ℕ, ◌≤◌, List, [], ◌∷◌, ◌++◌, length, Bool, true, false, not, ◌&&◌, ◌==◌, if◌then◌else◌, Option, None, Some, refl, sym, ◌∙◌, ap, append-nil, arith}
use Rattle.mdoc_layout.specs.declared.acts.Act.TheVariants as acts
use Rattle.mdoc_layout.specs.declared.macros.Font.TheVariants.{Roman}
use Rattle.mdoc_layout.specs.declared.macros.Macro.{Macro}
use Rattle.mdoc_layout.specs.declared.macros.Macro.TheVariants as macros
use Rattle.mdoc_layout.specs.declared.page.Page.{Page}
use Rattle.mdoc_layout.specs.declared.page.Scan.{Scan}
use Rattle.mdoc_layout.specs.declared.page.Scan.TheVariants as scans
use Rattle.mdoc_words.specs.Calls.{is_enclosure_pending, is_pending, leaves}
use Rattle.mdoc_words.specs.Meanings.{begins_anew, is_opened_by, is_pending_from}
use Rattle.mdoc_words.specs.Rules.{prefix, with_call, with_scan}
use Rattle.mdoc_words.specs.Taking.{is_prefix}
use Rattle.mdoc_words.specs.Words.{closing_mark, holding, is_closing, is_text, mark, mark_as_word, marked_or, most_marks, parsed, stands, taken_after_mark, taken_by_same, takes_marks}
use Rattle.mdoc_layout.specs.Laying.{with_lay}
use Rattle.mdoc_layout.specs.LayingOut.{lay_out}
use Rattle.mdoc_converter.specs.Reading.{State, said}
use Rattle.mdoc_converter.specs.Scanning.{offer}
use Rattle.mdoc_layout.specs.Seeing.{Offered, offered, left}
use Rattle.mdoc_converter.specs.WrittenLines.{Usual, way_of}
use Rattle.mdoc_converter.proofs.Escapes.{and_left, is_not}
use Rattle.mdoc_converter.proofs.Given.{Whole, whole_of, whole_after, whole_within, given_offered}
use Rattle.mdoc_converter.proofs.Offering.{with_page, leads_by}
use Rattle.mdoc_converter.proofs.Outcomes.{is_quiet, of_word, never, takes_as, takes_plain, Out, out, leaves_out}
use Rattle.mdoc_converter.proofs.Stepping.{At, Head, Left, plainly, out_lays, out_step, out_next, step_at, leaves_step, marks_step, true_is_false}
use Rattle.mdoc_converter.proofs.Taken.{prefix_out}
use Rattle.mdoc_converter.proofs.Ways.{pending_usual, prefix_usual}

-- ---- closing marks

pub mark_offered : (head : Head) (b c : ℕ) (s : State) (word marks : List ℕ) → At head s (scans.Given false) word marks
    → closing_mark false word ≡ Some c → offer b s.page ≡ mark c s.page
unfolding parsed
mark_offered head b c s word marks at e =
    given_offered head b s word marks at
    ∙ ap (λ (w : List ℕ). marked_or (closing_mark false w) false s.page) at.word_is
    ∙ ap (λ (o : Option ℕ). marked_or o false s.page) e

pub the_mark_by : (t : Bool) (b c : ℕ) → (if t then Some b else None) ≡ Some c → b ∷ [] ≡ c ∷ []
the_mark_by true b c e = cc
the_mark_by false b c e = absurd (let no : None ≡ Some c = e in cc)

pub the_mark : (word : List ℕ) (c : ℕ) → closing_mark false word ≡ Some c → word ≡ c ∷ []
the_mark [] c e = absurd (let no : None ≡ Some c = e in cc)
the_mark (b ∷ []) c e = the_mark_by (is_closing b) b c e
the_mark (a ∷ b ∷ rest) c e = absurd (let no : None ≡ Some c = e in cc)

pub mark_by : Bool → Bool → Bool → ℕ → Page → Offered
mark_by pending text full c p =
    if pending then stands p else if text then mark_as_word p else if full then offered p (left acts.Marks) else offered (holding c p) (left acts.Nothing)

pub mark_is : (c : ℕ) (p : Page) → mark c p ≡ mark_by (is_pending p) (is_text p) (length p.marks == most_marks) c p
unfolding mark mark_by
mark_is c p = refl

pub not_some : (s t : Bool) → (not s && t) ≡ true → s ≡ false
not_some s t h = is_not s (and_left (not s) t h)

-- a word that is a mark
mark_as_by : Bool → Page → Offered
mark_as_by t q =
    if t then prefix q else offered (with_call (record q.call { some = true }) q) (left (acts.Word Roman))

mark_out_by : (t : Bool) (p : Page) → takes_plain p.call.taker ≡ true → is_prefix p.call.taker ≡ t
    → Out (mark_as_by t (with_scan scans.Between p)) (with_scan scans.Between p) p.word
unfolding is_quiet of_word mark_as_by
mark_out_by true p f e = prefix_out (with_scan scans.Between p) f (prefix_usual p.call.taker e)
mark_out_by false p f e =
    let q = with_scan scans.Between p in
    out (with_call (record q.call { some = true }) q) q (acts.Word Roman) acts.Nothing acts.Nothing q.word refl refl refl (append-nil q.word)
    (record { scan = refl; word = refl; marks = refl; few = λ l. l; going = refl; comment = refl; line = refl; fits = f; way = refl })

pub mark_out : (p : Page) → takes_plain p.call.taker ≡ true → Out (mark_as_word p) (with_scan scans.Between p) p.word
unfolding mark_as_by
mark_out p f = mark_out_by (is_prefix p.call.taker) p f refl

pub one_at_most : 1 ≤ 1
one_at_most = omega arith

pub two_at_most : 1 ≤ 2
two_at_most = omega arith

after_mark_fits : (plain : Bool) (m : Macro) → takes_as plain m ≡ true → takes_as plain (taken_after_mark m) ≡ true
unfolding takes_plain
after_mark_fits true macros.BsdRelease h = refl
after_mark_fits false macros.BsdRelease h = never h
after_mark_fits plain m h = h

after_mark_way : (m : Macro) → way_of (taken_after_mark m) ≡ way_of m
after_mark_way macros.BsdRelease = refl
after_mark_way m = refl

pub held_whole : (head : Head) (b c : ℕ) (s : State) (word marks : List ℕ) → At head s (scans.Given false) word marks
    → offer b s.page ≡ offered (holding c s.page) (left acts.Nothing) → word ≡ c ∷ [] → Whole head b s 1 (marks ++ word)
unfolding said lay_out
held_whole head b c s word marks at e same =
    whole_of head b s 1 1 [] word (marks ++ c ∷ []) (marks ++ word) one_at_most
    (record {
      next = with_page (holding c s.page) s;
      leads = leads_by b s (holding c s.page) (holding c s.page) acts.Nothing acts.Nothing acts.Nothing [] e refl refl;
      at = record {
        scan_is = refl;
        word_is = at.word_is;
        marks_are = ap (λ (xs : List ℕ). xs ++ c ∷ []) at.marks_are;
        few = at.few;
        going = at.going;
        comment = at.comment;
        line = at.line;
        fits = after_mark_fits (plainly head).plain s.page.call.taker at.fits;
        way = after_mark_way s.page.call.taker ∙ at.way;
        free = λ h. never (sym h);
      };
    })
    (ap (λ (xs : List ℕ). marks ++ xs) (sym same))

pub clear_mark : (head : Head) (b c : ℕ) (s : State) (word marks : List ℕ) → At head s (scans.Given false) word marks
    → closing_mark false word ≡ Some c → is_pending s.page ≡ false → is_text s.page ≡ false → offer b s.page ≡ mark_by false false (length s.page.marks == most_marks) c s.page
clear_mark head b c s word marks at e pending text =
    mark_offered head b c s word marks at e ∙ mark_is c s.page
    ∙ ap (λ (t : Bool). mark_by t (is_text s.page) (length s.page.marks == most_marks) c s.page) pending
    ∙ ap (λ (t : Bool). mark_by false t (length s.page.marks == most_marks) c s.page) text

-- marks are full: they are said first
pub full_whole : (t : Bool) (head : Head) (b c : ℕ) (s : State) (word marks : List ℕ) → At head s (scans.Given false) word marks
    → closing_mark false word ≡ Some c → is_pending s.page ≡ false → is_text s.page ≡ false → (length s.page.marks == most_marks) ≡ t → Whole head b s 2 (marks ++ word)
unfolding mark_by marks_step
full_whole true head b c s word marks at e pending text full =
    let first = marks_step head b s (scans.Given false) word marks at
    (clear_mark head b c s word marks at e pending text ∙ ap (λ (t : Bool). mark_by false false t c s.page) full) in
    whole_after head b s first.next 1 marks ([] ++ word) (marks ++ word) first.leads
    (held_whole head b c first.next word [] first.at (clear_mark head b c first.next word [] first.at e pending text) (the_mark word c e))
    refl
full_whole false head b c s word marks at e pending text full =
    whole_within head b s 1 2 (marks ++ word) two_at_most
    (held_whole head b c s word marks at
    (clear_mark head b c s word marks at e pending text ∙ ap (λ (t : Bool). mark_by false false t c s.page) full)
    (the_mark word c e))

pub text_whole : (t : Bool) (head : Head) (b c : ℕ) (s : State) (word marks : List ℕ) → At head s (scans.Given false) word marks
    → closing_mark false word ≡ Some c → is_pending s.page ≡ false → is_text s.page ≡ t → Whole head b s 2 (marks ++ word)
unfolding mark_by
text_whole true head b c s word marks at e pending text =
    let p = s.page in
    let none : marks ≡ [] = at.free (not_some p.call.some (takes_marks p.call.taker) text) in
    whole_of head b s 1 2 p.word p.word marks (marks ++ word) two_at_most
    (out_step head b s (mark_as_word p) (with_scan scans.Between p) p.word marks
    (mark_offered head b c s word marks at e ∙ mark_is c p
    ∙ ap (λ (t : Bool). mark_by t (is_text p) (length p.marks == most_marks) c p) pending ∙ ap (λ (t : Bool). mark_by false t (length p.marks == most_marks) c p) text)
    (mark_out p at.fits) at.marks_are at.few at.going at.comment at.line at.way (λ h. none))
    (ap (λ (xs : List ℕ). p.word ++ xs) none ∙ append-nil p.word ∙ at.word_is ∙ ap (λ (xs : List ℕ). xs ++ word) (sym none))
text_whole false head b c s word marks at e pending text = full_whole (length s.page.marks == most_marks) head b c s word marks at e pending text refl

-- ---- a mark comes first

stands_by : Bool → Page → Offered
stands_by anew p = if anew then taken_by_same p.call.taker (leaves p) else leaves p

stands_is : (p : Page) → stands p ≡ stands_by (begins_anew p.call.taker) p
unfolding stands stands_by
stands_is p = refl

-- what begins anew took a word
anew_pending : (m : Macro) (named : Bool) → begins_anew m ≡ true → is_pending_from m true named ≡ false
anew_pending macros.Flag named h = refl
anew_pending macros.Argument named h = refl
anew_pending macros.Path named h = refl
anew_pending macros.Mail named h = refl
anew_pending macros.Name named h = refl
anew_pending (macros.Stands system) named h = refl
anew_pending m named h = never h

anew_opened : (m : Macro) → begins_anew m ≡ true → is_opened_by m ≡ false
anew_opened macros.Flag h = refl
anew_opened macros.Argument h = refl
anew_opened macros.Path h = refl
anew_opened macros.Mail h = refl
anew_opened macros.Name h = refl
anew_opened (macros.Stands system) h = refl
anew_opened m h = never h

anew_out : (p : Page) → takes_plain p.call.taker ≡ true → way_of p.call.taker ≡ Usual → Out (taken_by_same p.call.taker (leaves p)) p []
anew_out p f u =
    let o = leaves_out p f u in
    record {
      x = o.x;
      y = o.y;
      z = o.z;
      seen = o.seen;
      quiet_x = o.quiet_x;
      quiet_y = o.quiet_y;
      quiet_z = o.quiet_z;
      words = o.words;
      keeps = record {
        scan = o.keeps.scan;
        word = o.keeps.word;
        marks = o.keeps.marks;
        few = o.keeps.few;
        going = o.keeps.going;
        comment = o.keeps.comment;
        line = o.keeps.line;
        fits = f;
        way = refl;
      };
    }

anew_not_pending : (l : _) (m : Macro) (p : Page) → begins_anew m ≡ true → is_pending (with_lay l (taken_by_same m (leaves p)).page) ≡ false
unfolding leaves
anew_not_pending l m p h = anew_pending m _ h

anew_no_enclosure : (l : _) (m : Macro) (p : Page) → begins_anew m ≡ true → is_enclosure_pending (with_lay l (taken_by_same m (leaves p)).page) ≡ false
unfolding leaves
anew_no_enclosure l m p h = ap (λ (t : Bool). t && false) (anew_opened m h)

anew_some : (m : Macro) (p : Page) → (taken_by_same m (leaves p)).page.call.some ≡ true
unfolding leaves
anew_some m p = refl

anew_step : (head : Head) (b : ℕ) (s : State) (scan : Scan) (word marks : List ℕ) → At head s scan word marks
    → way_of s.page.call.taker ≡ Usual → begins_anew s.page.call.taker ≡ true → offer b s.page ≡ taken_by_same s.page.call.taker (leaves s.page) → Left head b s scan word marks
unfolding out_next step_at out_step
anew_step head b s scan word marks at u h e =
    let p = s.page in
    let m = taken_by_same p.call.taker (leaves p) in
    let o = anew_out p at.fits u in
    let l = (out_lays m p [] o).0 in
    record {
      step =
          step_at head b s 1 [] p.scan scan p.word word marks at.scan_is at.word_is
          (out_step head b s m p [] marks e o at.marks_are at.few at.going at.comment at.line at.way
          (λ g. true_is_false m.page.call.some (anew_some p.call.taker p) g));
      not_pending = anew_not_pending l p.call.taker p h;
      no_enclosure = anew_no_enclosure l p.call.taker p h;
      some = anew_some p.call.taker p;
    }

stands_step : (t : Bool) (head : Head) (b : ℕ) (s : State) (scan : Scan) (word marks : List ℕ) → At head s scan word marks
    → way_of s.page.call.taker ≡ Usual → begins_anew s.page.call.taker ≡ t → offer b s.page ≡ stands s.page → Left head b s scan word marks
unfolding stands_by
stands_step true head b s scan word marks at u h e =
    anew_step head b s scan word marks at u h (e ∙ stands_is s.page ∙ ap (λ (t : Bool). stands_by t s.page) h)
stands_step false head b s scan word marks at u h e =
    leaves_step head b s scan word marks at u (e ∙ stands_is s.page ∙ ap (λ (t : Bool). stands_by t s.page) h)

pub mark_whole : (t : Bool) (head : Head) (b c : ℕ) (s : State) (word marks : List ℕ) → At head s (scans.Given false) word marks
    → closing_mark false word ≡ Some c → is_pending s.page ≡ t → Whole head b s 3 (marks ++ word)
unfolding mark_by
mark_whole true head b c s word marks at e pending =
    let p = s.page in
    let first = stands_step (begins_anew s.page.call.taker) head b s (scans.Given false) word marks at (pending_usual p pending) refl
    (mark_offered head b c s word marks at e ∙ mark_is c p ∙ ap (λ (t : Bool). mark_by t (is_text p) (length p.marks == most_marks) c p) pending) in
    let t = first.step.next in
    whole_after head b s t 2 [] (marks ++ word) (marks ++ word) first.step.leads
    (text_whole (is_text t.page) head b c t word marks first.step.at e first.not_pending refl)
    refl
mark_whole false head b c s word marks at e pending =
    whole_within head b s 2 3 (marks ++ word) (omega arith) (text_whole (is_text s.page) head b c s word marks at e pending refl)
