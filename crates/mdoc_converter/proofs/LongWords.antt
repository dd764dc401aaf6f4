-- A word is longer than what is kept of one: its prefix goes out, and further parts of it.
use Rattle.std.proofs.Common.{◌≡◌, ℕ, ◌≤◌, ◌+◌, List, [], ◌++◌, length, Bool, true, false, not, ◌&&◌, if◌then◌else◌, refl, sym, ◌∙◌, ap, subst, append-nil, arith}
use Rattle.std.proofs.lemmas.Slice.Eq.{bytes_eq-Decides}
use Rattle.std.specs.Prelude.{codes}
use Rattle.std.specs.Str.{bytes_eq}
use Rattle.mdoc_layout.specs.declared.acts.Act.TheVariants as acts
use Rattle.mdoc_layout.specs.declared.macros.Font.TheVariants.{Roman}
use Rattle.mdoc_layout.specs.declared.macros.Macro.{Macro}
use Rattle.mdoc_layout.specs.declared.macros.Macro.TheVariants as macros
use Rattle.mdoc_layout.specs.declared.page.Inside.{Inside}
use Rattle.mdoc_layout.specs.declared.page.Page.{Page}
use Rattle.mdoc_layout.specs.declared.page.Scan.{Scan}
use Rattle.mdoc_layout.specs.declared.page.Scan.TheVariants as scans
use Rattle.mdoc_words.specs.Calls.{is_enclosure_pending, leaves}
use Rattle.mdoc_words.specs.Meanings.{is_opened_by, taken_by}
use Rattle.mdoc_words.specs.Rules.{is_none, seen_with, with_scan}
use Rattle.mdoc_words.specs.Taking.{argument, some_taken, taken_word}
use Rattle.mdoc_words.specs.Words.{goes_on, goes_to, long_begins, prefixed}
use Rattle.mdoc_words.specs.Keeping.{is_whole, whole_for}
use Rattle.mdoc_layout.specs.Laying.{was_put, with_lay, without_marks}
use Rattle.mdoc_layout.specs.LayingOut.{lay_out}
use Rattle.mdoc_converter.specs.Reading.{State, said}
use Rattle.mdoc_converter.specs.Scanning.{offer, offer_at, offer_whole, offer_whole_at}
use Rattle.mdoc_layout.specs.Seeing.{Offered, offered, left}
use Rattle.mdoc_words.specs.Options.{is_heading}
use Rattle.mdoc_converter.specs.WrittenLines.{Way, Usual, Titled, Authors, Headed, said_of, way_of}
use Rattle.mdoc_converter.proofs.Escapes.{and_left}
use Rattle.mdoc_converter.proofs.Offering.{with_page, Leads, then_leads, leads_by}
use Rattle.mdoc_converter.proofs.Outcomes.{never, Lined, takes_plain, Out, leaves_out}
use Rattle.mdoc_converter.proofs.Stepping.{At, In, Head, Manner, plainly, in_as, out_in, out_leads, out_next, out_lays, no_more_enclosed}
use Rattle.mdoc_converter.proofs.Taken.{taken_out}
use Rattle.mdoc_converter.proofs.Together.{same_whole, taken_whole}
use Rattle.mdoc_converter.proofs.Ways.{opened_usual}
use Rattle.mdoc_converter.proofs.WholeWords.{is_none-nil}

-- in so many steps all that was kept of the word went out, which goes on
pub record Flushed (head : Manner) (b : ℕ) (s : State) (inside : Inside) (k : ℕ) (all : List ℕ) : Type 0 where
  pub next : State
  pub steps : ℕ
  pub few : steps ≤ k
  pub leads : Leads b s next steps all
  pub at : In true head next (goes_to inside) [] []
  pub whole : is_whole next.page ≡ is_whole s.page

one_more : (i k : ℕ) → i ≤ k → 1 + i ≤ 1 + k
one_more i k l = omega arith

flushed_after : (head : Manner) (b : ℕ) (s t : State) (inside : Inside) (k : ℕ) (xs ys : List ℕ) → Leads b s t 1 xs
    → is_whole t.page ≡ is_whole s.page → Flushed head b t inside k ys → Flushed head b s inside (1 + k) (xs ++ ys)
flushed_after head b s t inside k xs ys leads whole f = record {
  next = f.next;
  steps = 1 + f.steps;
  few = one_more f.steps k f.few;
  leads = then_leads b s t f.next 1 f.steps xs ys leads f.leads;
  at = f.at;
  whole = f.whole ∙ whole;
}

flushed_as : (head : Manner) (b : ℕ) (s : State) (inside : Inside) (k : ℕ) (xs ys : List ℕ) → xs ≡ ys → Flushed head b s inside k xs → Flushed head b s inside k ys
flushed_as head b s inside k xs ys e f = subst (λ (zs : List ℕ). Flushed head b s inside k zs) e f

flushed_within : (head : Manner) (b : ℕ) (s : State) (inside : Inside) (j k : ℕ) (all : List ℕ) → j ≤ k → Flushed head b s inside j all
    → Flushed head b s inside k all
flushed_within head b s inside j k all l f =
    record { next = f.next; steps = f.steps; few = (let few = f.few in omega arith); leads = f.leads; at = f.at; whole = f.whole }

-- ---- its prefix went out

goes_offered : (inside : Inside) (head : Manner) (b : ℕ) (s : State) (word : List ℕ) → In true head s (scans.Goes inside) word []
    → offer b s.page ≡ goes_on inside s.page
unfolding offer offer_whole
goes_offered inside head b s word at =
    ap (λ (sc : Scan). offer_at sc b s.page) at.scan_is ∙ ap (λ (sc : Scan). offer_whole_at sc b s.page) at.scan_is

went : (inside : Inside) (head : Manner) (b : ℕ) (s : State) (word : List ℕ) → In true head s (scans.Goes inside) word [] → Flushed head b s inside 1 []
unfolding said lay_out
went inside head b s word at =
    let q = record s.page { scan = goes_to inside; word = [] } in
    record {
      next = with_page q s;
      steps = 1;
      few = omega arith;
      leads = leads_by b s q q acts.Nothing acts.Nothing acts.Nothing [] (goes_offered inside head b s word at) refl refl;
      at = in_as true head s q (scans.Goes inside) (goes_to inside) word [] [] at refl refl refl refl refl refl refl refl refl;
      whole = same_whole s.page q refl refl;
    }

-- ---- a word has no room

long_rest : Inside → Page → Offered
long_rest inside p =
    if not (is_none p.marks) then offered p (left acts.Marks) else if is_enclosure_pending p then leaves p else long_begins inside p

long_by : Inside → Bool → Page → Offered
long_by inside going p = if going then offered (with_scan (scans.Goes inside) p) (left acts.More) else long_rest inside p

long_offered : (going : Bool) (inside : Inside) (head : Manner) (b : ℕ) (s : State) (word marks : List ℕ) → In going head s (scans.Long inside) word marks
    → offer b s.page ≡ long_by inside going s.page
unfolding offer offer_whole long_by long_rest
long_offered going inside head b s word marks at =
    let p = s.page in
    ap (λ (sc : Scan). offer_at sc b p) at.scan_is ∙ ap (λ (sc : Scan). offer_whole_at sc b p) at.scan_is
    ∙ ap (λ (t : Bool). long_by inside t p) at.going

-- a further part
more : (inside : Inside) (head : Manner) (b : ℕ) (s : State) (word : List ℕ) → In true head s (scans.Long inside) word [] → Flushed head b s inside 2 word
unfolding said lay_out long_by
more inside head b s word at =
    let p = with_scan (scans.Goes inside) s.page in
    let t = with_page (was_put p) s in
    flushed_as head b s inside 2 (word ++ []) word (append-nil word)
    (flushed_after head b s t inside 1 word []
    (leads_by b s p (was_put p) acts.More acts.Nothing acts.Nothing word (long_offered true inside head b s word [] at) refl
    (append-nil s.page.word ∙ at.word_is))
    (same_whole s.page t.page refl refl)
    (went inside head b t word
    (in_as true head s (was_put p) (scans.Long inside) (scans.Goes inside) word word [] at refl at.word_is refl refl refl refl refl refl refl)))

-- ---- the prefix

unfoldable pub argument_by : Bool → Page → Offered
argument_by pending p =
    let q = with_scan scans.Between p in
    if pending then leaves p else seen_with (some_taken (taken_word q).page) (taken_word q)

pub argument_is : (p : Page) → argument true p ≡ argument_by (is_enclosure_pending p && true) p
unfolding argument argument_by
argument_is p = refl

begun_by : Inside → Bool → Page → Offered
begun_by inside pending p = let m = argument_by pending (prefixed p) in seen_with (with_scan (scans.Goes inside) m.page) m

begins_is : (inside : Inside) (p : Page) → is_enclosure_pending p ≡ false → long_begins inside p ≡ begun_by inside false p
unfolding begun_by
begins_is inside p e =
    ap (λ (m : Offered). seen_with (with_scan (scans.Goes inside) m.page) m)
    (argument_is (prefixed p) ∙ ap (λ (t : Bool). argument_by (t && true) (prefixed p)) e)

-- the page with its prefix read
heads : Inside → Page → Page
heads inside p = with_scan (scans.Goes inside) (prefixed p)

begun_out : (inside : Inside) (p : Page) → takes_plain p.call.taker ≡ true
    → Out (begun_by inside false p) (heads inside p) (said_of (way_of p.call.taker) p.word)
unfolding begun_by argument_by heads
begun_out inside p f =
    let q = with_scan scans.Between (prefixed p) in
    let o = taken_out q f in
    record {
      x = o.x;
      y = o.y;
      z = o.z;
      seen = o.seen;
      quiet_x = o.quiet_x;
      quiet_y = o.quiet_y;
      quiet_z = o.quiet_z;
      words = o.words;
      keeps = record {
        scan = refl;
        word = o.keeps.word;
        marks = o.keeps.marks;
        few = o.keeps.few;
        going = o.keeps.going;
        comment = o.keeps.comment;
        line = o.keeps.line;
        fits = o.keeps.fits;
        way = o.keeps.way;
      };
    }

begun_whole : (inside : Inside) (l : _) (p : Page) → is_whole (with_lay l (begun_by inside false p).page) ≡ is_whole p
unfolding begun_by argument_by
begun_whole inside l p =
    let q = with_scan scans.Between (prefixed p) in
    let r = (taken_word q).page in
    same_whole r (with_lay l (with_scan (scans.Goes inside) (some_taken r))) refl refl ∙ taken_whole q ∙ same_whole p q refl refl

-- authors have no option of so many bytes
not_option : (word option : List ℕ) → 30 ≤ length word → length option ≤ 29 → (t : Bool) → bytes_eq word option ≡ t → bytes_eq word option ≡ false
not_option word option l m true e =
    let same : length word ≡ length option = ap length ((bytes_eq-Decides word option).0 e) in absurd (omega arith)
not_option word option l m false e = e

pub said_long : (way : Way) (word : List ℕ) → 30 ≤ length word → said_of way word ≡ word
said_long Usual word l = refl
said_long Titled word l = refl
said_long Headed word l = refl
said_long Authors word l =
    ap (λ (t : Bool). if t then [] else if bytes_eq word (codes "-nosplit") then [] else word)
    (not_option word (codes "-split") l (omega arith) (bytes_eq word (codes "-split")) refl)
    ∙ ap (λ (t : Bool). if t then [] else word) (not_option word (codes "-nosplit") l (omega arith) (bytes_eq word (codes "-nosplit")) refl)

in_word_as : (going : Bool) (head : Manner) (s : State) (scan : Scan) (word word2 marks : List ℕ) → word ≡ word2 → In going head s scan word marks
    → In going head s scan word2 marks
in_word_as going head s scan word word2 marks e at = subst (λ (w : List ℕ). In going head s scan w marks) e at

begun : (inside : Inside) (head : Head) (b : ℕ) (s : State) (word : List ℕ) → At head s (scans.Long inside) word [] → 30 ≤ length word
    → offer b s.page ≡ long_begins inside s.page → is_enclosure_pending s.page ≡ false → Flushed (plainly head) b s inside 2 word
unfolding heads out_next
begun inside head b s word at l e pending =
    let p = s.page in
    let m = begun_by inside false p in
    let q = heads inside p in
    let xs = said_of (way_of p.call.taker) p.word in
    let o = begun_out inside p at.fits in
    let t = out_next m q xs o s in
    let all : xs ≡ word =
    ap (said_of (way_of p.call.taker)) at.word_is ∙ said_long (way_of p.call.taker) word l in
    flushed_as (plainly head) b s inside 2 (xs ++ []) word (append-nil xs ∙ all)
    (flushed_after (plainly head) b s t inside 1 xs []
    (out_leads b s m q xs o (e ∙ begins_is inside p pending))
    (begun_whole inside (out_lays m q xs o).0 p)
    (went inside (plainly head) b t word
    (in_word_as true (plainly head) t (scans.Goes inside) p.word word [] at.word_is
    (out_in true head s m q xs [] o at.marks_are at.few refl at.comment at.line at.way (λ h. refl)))))

-- of the first word of a heading
pub the_heading : (m : Macro) → is_heading m ≡ true → m ≡ macros.Section
the_heading macros.Section h = refl
the_heading m h = never h

heading_page : Inside → Page → Page
heading_page inside p = with_scan (scans.Goes inside) (some_taken (with_scan scans.Between (prefixed p)))

heading_begins : (inside : Inside) (p : Page) → p.call.taker ≡ macros.Section
    → begun_by inside false p ≡ offered (heading_page inside p) (left (acts.Word Roman))
unfolding begun_by argument_by heading_page taken_word
heading_begins inside p e =
    let q = with_scan scans.Between (prefixed p) in
    let shape = λ (m : Offered). offered (with_scan (scans.Goes inside) (some_taken m.page)) m.seen in
    ap (λ (m : Macro). shape (taken_by m q)) e

heading_pending : (p : Page) → p.call.taker ≡ macros.Section → is_enclosure_pending p ≡ false
heading_pending p e = ap (λ (m : Macro). is_opened_by m && not p.call.some) e

begun_heading : (inside : Inside) (head : Manner) (b : ℕ) (s : State) (word : List ℕ) → In false head s (scans.Long inside) word []
    → offer b s.page ≡ long_begins inside s.page → s.page.call.taker ≡ macros.Section → Flushed head b s inside 2 word
unfolding said lay_out heading_page
begun_heading inside head b s word at e is =
    let p = s.page in
    let q = heading_page inside p in
    let t = (said (left (acts.Word Roman)) q).page in
    flushed_as head b s inside 2 (word ++ []) word (append-nil word)
    (flushed_after head b s (with_page t s) inside 1 word []
    (leads_by b s q t (acts.Word Roman) acts.Nothing acts.Nothing word (e ∙ begins_is inside p (heading_pending p is) ∙ heading_begins inside p is) refl
    (append-nil p.word ∙ at.word_is))
    (same_whole p t refl refl)
    (went inside head b (with_page t s) word (record {
      scan_is = refl;
      word_is = at.word_is;
      marks_are = at.marks_are;
      few = at.few;
      going = refl;
      comment = at.comment;
      line = at.line;
      fits = at.fits;
      way = at.way;
      free = λ h. refl;
    })))

-- ---- what comes before it

opened_apart : (m : Macro) (p : Page) → is_opened_by m ≡ true → false ≡ whole_for m p
opened_apart macros.Parameter p h = never h
opened_apart macros.Function p h = never h
opened_apart m p h = refl

left_whole : (l : _) (p : Page) → is_enclosure_pending p ≡ true → is_whole (with_lay l (leaves p).page) ≡ is_whole p
unfolding leaves
left_whole l p h = opened_apart p.call.taker p (and_left (is_opened_by p.call.taker) (not p.call.some) h)

clear_offered : (inside : Inside) (head : Manner) (b : ℕ) (s : State) (word : List ℕ) (t : Bool) → In false head s (scans.Long inside) word []
    → is_enclosure_pending s.page ≡ t → offer b s.page ≡ (if t then leaves s.page else long_begins inside s.page)
unfolding long_by long_rest
clear_offered inside head b s word t at e =
    let p = s.page in
    long_offered false inside head b s word [] at
    ∙ ap (λ (xs : List ℕ). if not (is_none xs) then offered p (left acts.Marks) else if is_enclosure_pending p then leaves p else long_begins inside p) at.marks_are
    ∙ ap (λ (u : Bool). if u then leaves p else long_begins inside p) e

clear_plain : (t : Bool) (inside : Inside) (head : Head) (b : ℕ) (s : State) (word : List ℕ) → At head s (scans.Long inside) word [] → 30 ≤ length word
    → is_enclosure_pending s.page ≡ t → Flushed (plainly head) b s inside 3 word
unfolding out_next
clear_plain true inside head b s word at l pending =
    let p = s.page in
    let o = leaves_out p at.fits (opened_usual p pending) in
    let t = out_next (leaves p) p [] o s in
    let l2 = (out_lays (leaves p) p [] o).0 in
    let inner : At head t (scans.Long inside) word [] = record {
      scan_is = o.keeps.scan ∙ at.scan_is;
      word_is = o.keeps.word ∙ at.word_is;
      marks_are = o.keeps.marks ∙ at.marks_are;
      few = o.keeps.few at.few;
      going = o.keeps.going ∙ at.going;
      comment = o.keeps.comment ∙ at.comment;
      line = o.keeps.line ∙ at.line;
      fits = o.keeps.fits;
      way = o.keeps.way ∙ at.way;
      free = λ h. refl;
    } in
    flushed_after (plainly head) b s t inside 2 [] word
    (out_leads b s (leaves p) p [] o (clear_offered inside (plainly head) b s word true at pending))
    (left_whole l2 p pending)
    (begun inside head b t word inner l (clear_offered inside (plainly head) b t word false inner (no_more_enclosed l2 p)) (no_more_enclosed l2 p))
clear_plain false inside head b s word at l pending =
    flushed_within (plainly head) b s inside 2 3 word (omega arith) (begun inside head b s word at l (clear_offered inside (plainly head) b s word false at pending) pending)

clear_by : (plain : Bool) (line : Lined) (way : Way) (inside : Inside) (b : ℕ) (s : State) (word : List ℕ)
    → In false (record { line = line; way = way; plain = plain }) s (scans.Long inside) word [] → 30 ≤ length word
    → Flushed (record { line = line; way = way; plain = plain }) b s inside 3 word
clear_by true line way inside b s word at l = clear_plain (is_enclosure_pending s.page) inside (record { line = line; way = way }) b s word at l refl
clear_by false line way inside b s word at l =
    let head : Manner = record { line = line; way = way; plain = false } in
    let is = the_heading s.page.call.taker at.fits in
    flushed_within head b s inside 2 3 word (omega arith)
    (begun_heading inside head b s word at (clear_offered inside head b s word false at (heading_pending s.page is)) is)

clear : (inside : Inside) (head : Manner) (b : ℕ) (s : State) (word : List ℕ) → In false head s (scans.Long inside) word [] → 30 ≤ length word
    → Flushed head b s inside 3 word
clear inside head b s word at l = clear_by head.plain head.line head.way inside b s word at l

first_by : (t : Bool) (inside : Inside) (head : Manner) (b : ℕ) (s : State) (word marks : List ℕ) → In false head s (scans.Long inside) word marks → 30 ≤ length word
    → is_none s.page.marks ≡ t → Flushed head b s inside 4 (marks ++ word)
unfolding said lay_out long_by long_rest
first_by true inside head b s word marks at l none =
    let no_marks : marks ≡ [] = sym at.marks_are ∙ is_none-nil s.page.marks none in
    let alone : In false head s (scans.Long inside) word [] = subst (λ (xs : List ℕ). In false head s (scans.Long inside) word xs) no_marks at in
    flushed_as head b s inside 4 word (marks ++ word) (ap (λ (xs : List ℕ). xs ++ word) (sym no_marks))
    (flushed_within head b s inside 3 4 word (omega arith) (clear inside head b s word alone l))
first_by false inside head b s word marks at l none =
    let p = s.page in
    let q = without_marks (was_put p) in
    let t = with_page q s in
    flushed_after head b s t inside 3 marks word
    (leads_by b s p q acts.Marks acts.Nothing acts.Nothing marks
    (long_offered false inside head b s word marks at
    ∙ ap (λ (t : Bool). if not t then offered p (left acts.Marks) else if is_enclosure_pending p then leaves p else long_begins inside p) none)
    refl (append-nil p.marks ∙ at.marks_are))
    (same_whole p q refl refl)
    (clear inside head b t word
    (record {
      scan_is = at.scan_is;
      word_is = at.word_is;
      marks_are = refl;
      few = at.few;
      going = at.going;
      comment = at.comment;
      line = at.line;
      fits = at.fits;
      way = at.way;
      free = λ h. refl;
    }) l)

no_marks_then : (inside : Inside) (head : Manner) (b : ℕ) (s : State) (word marks : List ℕ) → marks ≡ [] → Flushed head b s inside 4 word
    → Flushed head b s inside 4 (marks ++ word)
no_marks_then inside head b s word marks e f = flushed_as head b s inside 4 word (marks ++ word) (ap (λ (xs : List ℕ). xs ++ word) (sym e)) f

flushed_by : (going : Bool) (inside : Inside) (head : Manner) (b : ℕ) (s : State) (word marks : List ℕ) → In going head s (scans.Long inside) word marks
    → (going ≡ true → marks ≡ []) → 30 ≤ length word → Flushed head b s inside 4 (marks ++ word)
flushed_by true inside head b s word marks at none l =
    no_marks_then inside head b s word marks (none refl)
    (flushed_within head b s inside 2 4 word (omega arith)
    (more inside head b s word (subst (λ (xs : List ℕ). In true head s (scans.Long inside) word xs) (none refl) at)))
flushed_by false inside head b s word marks at none l = first_by (is_none s.page.marks) inside head b s word marks at l refl

-- what was kept goes out, the marks before it first
pub flushed : (going : Bool) (inside : Inside) (head : Manner) (b : ℕ) (s : State) (scan : Scan) (word marks : List ℕ) → In going head s scan word marks
    → (going ≡ true → marks ≡ []) → 30 ≤ length word → offer b s.page ≡ offered (with_scan (scans.Long inside) s.page) (left acts.Nothing)
    → Flushed head b s inside 5 (marks ++ word)
unfolding said lay_out
flushed going inside head b s scan word marks at none l e =
    let p = with_scan (scans.Long inside) s.page in
    let t = with_page p s in
    flushed_after head b s t inside 4 [] (marks ++ word)
    (leads_by b s p p acts.Nothing acts.Nothing acts.Nothing [] e refl refl)
    (same_whole s.page p refl refl)
    (flushed_by going inside head b t word marks
    (in_as going head s p scan (scans.Long inside) word word marks at refl at.word_is refl refl refl refl refl refl refl) none l)
