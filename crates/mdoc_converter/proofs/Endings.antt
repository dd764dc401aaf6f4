-- The end of a macro's line says what is pending, what closes enclosures, and the marks that were held back.
use Rattle.std.proofs.Common.{◌≡◌, ℕ, zero, suc, ◌≤◌, ◌+◌, ◌-◌, List, [], ◌++◌, length, take, Bool, true, false, not, ◌&&◌, ◌==◌, if◌then◌else◌, refl, sym, ◌∙◌, ap, append-nil, arith}
use Rattle.std.proofs.lemmas.Bool.Decides.{nat_tests}
use Rattle.std.proofs.lemmas.List.{length-take}
use Rattle.std.specs.Prelude.{slice_index}
use Rattle.mdoc_layout.specs.declared.acts.Act.{Act}
use Rattle.mdoc_layout.specs.declared.acts.Act.TheVariants as acts
use Rattle.mdoc_layout.specs.declared.acts.Request.TheVariants as requests
use Rattle.mdoc_layout.specs.declared.acts.Sized.TheVariants as sizes
use Rattle.mdoc_layout.specs.declared.acts.Text.TheVariants as texts
use Rattle.mdoc_layout.specs.declared.macros.Macro.{Macro}
use Rattle.mdoc_layout.specs.declared.macros.Macro.TheVariants as macros
use Rattle.mdoc_layout.specs.declared.page.Block.{Block}
use Rattle.mdoc_layout.specs.declared.page.Kind.{Kind}
use Rattle.mdoc_layout.specs.declared.page.Kind.TheVariants as kinds
use Rattle.mdoc_layout.specs.declared.page.Page.{Page}
use Rattle.mdoc_layout.specs.declared.page.Scan.{Scan}
use Rattle.mdoc_layout.specs.declared.page.Scan.TheVariants as scans
use Rattle.mdoc_layout.specs.Blocks.{is_tagged, item_ends_of, tag_ends, tag_ends_of, tag_width}
use Rattle.mdoc_words.specs.Calls.{is_pending, leaves}
use Rattle.mdoc_words.specs.Rules.{is_none, with_scan}
use Rattle.mdoc_layout.specs.Laying.{is_middle, with_lay}
use Rattle.mdoc_layout.specs.LayingOut.{lay_out}
use Rattle.mdoc_converter.specs.Lines.{closes_last, end_of, ended_seen, ends, ends_joined, last_act, line_ends}
use Rattle.mdoc_layout.specs.Seeing.{Offered, and_taken, left, none, offered, three, two}
use Rattle.mdoc_converter.specs.Reading.{State, said}
use Rattle.mdoc_converter.specs.Saying.{part_of}
use Rattle.mdoc_converter.specs.Scanning.{offer, offer_at, offer_whole, offer_whole_at}
use Rattle.mdoc_converter.specs.WrittenLines.{heads_words}
use Rattle.mdoc_converter.proofs.After.{Fresh}
use Rattle.mdoc_converter.proofs.Offering.{with_page, Leads, Takes, then_takes, takes_by}
use Rattle.mdoc_converter.proofs.Outcomes.{is_quiet, of_word, never, Lined, Lays, quiet-page, takes_plain, Keeps, Out, out, out_seen_if}
use Rattle.mdoc_converter.proofs.Stepping.{At, Head, Stepped, leaves_step, marks_step, out_step, out_next, step_at}
use Rattle.mdoc_converter.proofs.Ways.{pending_usual}
use Rattle.mdoc_converter.proofs.WholeWords.{is_none-nil}

-- ---- the end is offered

ends_offered : (head : Head) (b : ℕ) (s : State) (word marks : List ℕ) → At head s scans.Ends word marks → offer b s.page ≡ ends s.page
unfolding offer offer_whole
ends_offered head b s word marks at =
    ap (λ (sc : Scan). offer_at sc b s.page) at.scan_is ∙ ap (λ (sc : Scan). offer_whole_at sc b s.page) at.scan_is

ends_by : Bool → Bool → Bool → Page → Offered
ends_by pending no_closers no_marks p =
    if pending then leaves p else if not no_closers then closes_last p else if not no_marks then offered p (left acts.Marks) else line_ends p

ends_is : (p : Page) → ends p ≡ ends_by (is_pending p) (is_none p.closers) (is_none p.marks) p
unfolding ends_by
ends_is p = refl

offered_by : (head : Head) (b : ℕ) (s : State) (word marks : List ℕ) (pending no_closers no_marks : Bool) → At head s scans.Ends word marks
    → is_pending s.page ≡ pending → is_none s.page.closers ≡ no_closers → is_none s.page.marks ≡ no_marks
    → offer b s.page ≡ ends_by pending no_closers no_marks s.page
offered_by head b s word marks pending no_closers no_marks at e f g =
    let p = s.page in
    ends_offered head b s word marks at ∙ ends_is p ∙ ap (λ (t : Bool). ends_by t (is_none p.closers) (is_none p.marks) p) e
    ∙ ap (λ (t : Bool). ends_by pending t (is_none p.marks) p) f ∙ ap (λ (t : Bool). ends_by pending no_closers t p) g

-- in so many steps the line is over, and these bytes of words were said
pub record Ended (b : ℕ) (s : State) (k : ℕ) (xs : List ℕ) : Type 0 where
  pub next : State
  pub steps : ℕ
  pub few : steps ≤ k
  pub takes : Takes b s next steps xs
  pub fresh : Fresh next

ended_after : (b : ℕ) (s t : State) (j k : ℕ) (xs ys : List ℕ) → Leads b s t j xs → Ended b t k ys → Ended b s (j + k) (xs ++ ys)
ended_after b s t j k xs ys p e = record {
  next = e.next;
  steps = j + e.steps;
  few = (let few = e.few in omega arith);
  takes = then_takes b s t e.next j e.steps xs ys p e.takes;
  fresh = e.fresh;
}

pub ended_within : (b : ℕ) (s : State) (j k : ℕ) (xs ys : List ℕ) → j ≤ k → xs ≡ ys → Ended b s j xs → Ended b s k ys
ended_within b s j k xs ys l e w = record {
  next = w.next;
  steps = w.steps;
  few = (let few = w.few in omega arith);
  takes = record { words = λ n. w.takes.words n ∙ e; state = w.takes.state };
  fresh = w.fresh;
}

-- ---- the line is over

line_over : Offered → Offered
line_over m = offered (with_scan scans.Start m.page) (ended_seen m.page (and_taken m.seen))

line_ends_is : (p : Page) → line_ends p ≡ line_over (end_of p.call.line p)
unfolding line_ends line_over
line_ends_is p = refl

-- acts that leave all of the page but how text is laid out
unfoldable pub is_laid : Act → Bool
is_laid acts.Quiet = true
is_laid acts.Ends = true
is_laid (acts.TagEnds n) = true
is_laid (acts.HangEnds n) = true
is_laid acts.HeadEnds = true
is_laid act = is_quiet act

end_laid : (t : Bool) (l : _) (p : Page) → Lays p (if t then with_lay l p else p)
end_laid true l p = (l, refl)
end_laid false l p = (p.lay, refl)

laid_page : (act : Act) (p : Page) → is_laid act ≡ true → Lays p (lay_out act p).page
unfolding is_laid lay_out
laid_page acts.Quiet p h = (_, refl)
laid_page acts.Ends p h = end_laid (is_middle p.lay.at) _ p
laid_page (acts.TagEnds n) p h = (_, refl)
laid_page (acts.HangEnds n) p h = (_, refl)
laid_page acts.HeadEnds p h = (_, refl)
laid_page act p h = quiet-page act p h

pub three_laid : (x y z : Act) (p : Page) → is_laid x ≡ true → is_laid y ≡ true → is_laid z ≡ true → Lays p (said (three x y z) p).page
unfolding said
three_laid x y z p i j k =
    let q = (lay_out x p).page in
    let r = (lay_out y q).page in
    let a = laid_page x p i in
    let b = laid_page y q j in
    let c = laid_page z r k in
    (c.0, c.1 ∙ ap (with_lay c.0) (b.1 ∙ ap (with_lay b.0) a.1))

-- what a macro says where its line ends: nothing of words
record Silent (m : Offered) (p : Page) : Type 0 where
  x : Act
  y : Act
  offered_is : m ≡ offered p (three x y acts.Nothing)
  no_x : (q : Page) → (part_of x q).word ≡ []
  no_y : (q : Page) → (part_of y q).word ≡ []
  laid_x : is_laid x ≡ true
  laid_y : is_laid y ≡ true

silent_none : (p : Page) → Silent (none p) p
unfolding is_laid is_quiet
silent_none p = record { x = acts.Nothing; y = acts.Nothing; offered_is = refl; no_x = λ q. refl; no_y = λ q. refl; laid_x = refl; laid_y = refl }

silent_item : (kind : Kind) (p : Page) → Silent (offered p (item_ends_of kind)) p
unfolding is_laid is_quiet
silent_item kinds.Overhang p = record { x = acts.Request requests.Break; y = acts.Nothing; offered_is = refl; no_x = λ q. refl; no_y = λ q. refl; laid_x = refl; laid_y = refl }
silent_item kinds.Diagnosis p = record { x = acts.HeadEnds; y = acts.Nothing; offered_is = refl; no_x = λ q. refl; no_y = λ q. refl; laid_x = refl; laid_y = refl }
silent_item kind p = record { x = acts.Nothing; y = acts.Nothing; offered_is = refl; no_x = λ q. refl; no_y = λ q. refl; laid_x = refl; laid_y = refl }

silent_outer : (t : Bool) (n : ℕ) (p : Page)
    → Silent (offered p (if t then two (acts.Request requests.IndentEnds) (acts.Sized sizes.Inner n) else left (acts.Request requests.IndentEnds))) p
unfolding is_laid is_quiet
silent_outer true n p =
    record { x = acts.Request requests.IndentEnds; y = acts.Sized sizes.Inner n; offered_is = refl; no_x = λ q. refl; no_y = λ q. refl; laid_x = refl; laid_y = refl }
silent_outer false n p =
    record { x = acts.Request requests.IndentEnds; y = acts.Nothing; offered_is = refl; no_x = λ q. refl; no_y = λ q. refl; laid_x = refl; laid_y = refl }

silent_part : (t : Bool) (p : Page) → Silent (offered p (left (if t then acts.Fresh else acts.Close texts.Empty))) p
unfolding is_laid is_quiet
silent_part true p = record { x = acts.Fresh; y = acts.Nothing; offered_is = refl; no_x = λ q. refl; no_y = λ q. refl; laid_x = refl; laid_y = refl }
silent_part false p = record { x = acts.Close texts.Empty; y = acts.Nothing; offered_is = refl; no_x = λ q. refl; no_y = λ q. refl; laid_x = refl; laid_y = refl }

silent_by : (t : Bool) (n : ℕ) (x : Act) (p : Page) → ((q : Page) → (part_of x q).word ≡ []) → is_laid x ≡ true
    → Silent (offered p (if t then two x (acts.Sized sizes.Inner n) else left x)) p
unfolding is_laid is_quiet
silent_by true n x p silent i =
    record { x = x; y = acts.Sized sizes.Inner n; offered_is = refl; no_x = silent; no_y = λ q. refl; laid_x = i; laid_y = refl }
silent_by false n x p silent i = record { x = x; y = acts.Nothing; offered_is = refl; no_x = silent; no_y = λ q. refl; laid_x = i; laid_y = refl }

-- what begins a line that says nothing of its words at its end
abbrev pub ends_quiet : Macro → Bool
ends_quiet macros.Section = true
ends_quiet m = heads_words m

pub heads_end : (m : Macro) → heads_words m ≡ true → ends_quiet m ≡ true
heads_end macros.Section h = never h
heads_end m h = h

silent_end : (m : Macro) (p : Page) → ends_quiet m ≡ true → Silent (end_of m p) p
unfolding end_of is_laid is_quiet
silent_end macros.Section p h = record { x = acts.Quiet; y = acts.Nothing; offered_is = refl; no_x = λ q. refl; no_y = λ q. refl; laid_x = refl; laid_y = refl }
silent_end macros.System p h = never h
silent_end macros.List p h = never h
silent_end macros.Display p h = never h
silent_end macros.ListEnds p h = silent_by (is_tagged p.block) (tag_width p.block) (acts.Request requests.Distance) p (λ q. refl) refl
silent_end macros.DisplayEnds p h = silent_by (is_tagged p.block) (tag_width p.block) acts.Nothing p (λ q. refl) refl
silent_end (macros.Part letter) p h = silent_part p.place.reference p
silent_end macros.Exits p h = never h
silent_end macros.Returns p h = never h
silent_end macros.Spacing p h = never h
silent_end macros.Subsection p h = record { x = acts.Quiet; y = acts.Nothing; offered_is = refl; no_x = λ q. refl; no_y = λ q. refl; laid_x = refl; laid_y = refl }
silent_end macros.Item p h = silent_item p.block.kind p
silent_end macros.Declaration p h =
    record { x = acts.Request requests.Break; y = acts.Nothing; offered_is = refl; no_x = λ q. refl; no_y = λ q. refl; laid_x = refl; laid_y = refl }
silent_end macros.Line p h = silent_outer (is_tagged p.block) (tag_width p.block) p
silent_end macros.LiteralLine p h = silent_outer (is_tagged p.block) (tag_width p.block) p
silent_end m p h = silent_none p

line_over_silent : (p : Page) (x y : Act)
    → line_over (offered p (three x y acts.Nothing)) ≡ offered (with_scan scans.Start p) (and_taken (three x y (last_act p)))
unfolding line_over
line_over_silent p x y = refl

tag_word : (kind : Kind) (k : Block) (q : Page) → (part_of (tag_ends_of kind k) q).word ≡ []
tag_word kinds.Tag k q = refl
tag_word kinds.Hang k q = refl
tag_word kind k q = refl

last_word_by : (t : Bool) (p q : Page) → (part_of (if t then tag_ends p else acts.Ends) q).word ++ [] ≡ []
last_word_by true p q = ap (λ (xs : List ℕ). xs ++ []) (tag_word p.block.kind p.block q)
last_word_by false p q = refl

pub last_word : (p q : Page) → (part_of (last_act p) q).word ++ [] ≡ []
last_word p q = last_word_by (p.lay.tag && (p.place.depth == 0)) p q

no_words : (xs ys zs : List ℕ) → xs ≡ [] → ys ≡ [] → zs ++ [] ≡ [] → xs ++ (ys ++ (zs ++ [])) ≡ []
no_words xs ys zs e f g = ap (λ (us : List ℕ). us ++ (ys ++ (zs ++ []))) e ∙ ap (λ (us : List ℕ). us ++ (zs ++ [])) f ∙ g

tag_laid : (kind : Kind) (k : Block) → is_laid (tag_ends_of kind k) ≡ true
unfolding is_laid is_quiet
tag_laid kinds.Tag k = refl
tag_laid kinds.Hang k = refl
tag_laid kind k = refl

last_laid_by : (t : Bool) (p : Page) → is_laid (if t then tag_ends p else acts.Ends) ≡ true
unfolding is_laid
last_laid_by true p = tag_laid p.block.kind p.block
last_laid_by false p = refl

pub last_laid : (p : Page) → is_laid (last_act p) ≡ true
last_laid p = last_laid_by (p.lay.tag && (p.place.depth == 0)) p

over_fresh : (x y : Act) (s : State) (p : Page) → is_laid x ≡ true → is_laid y ≡ true → p.marks ≡ []
    → Fresh (with_page (said (three x y (last_act p)) (with_scan scans.Start p)).page s)
over_fresh x y s p i j none =
    let l = three_laid x y (last_act p) (with_scan scans.Start p) i j (last_laid p) in
    record { scan_is = ap (λ (r : Page). r.scan) l.1; marks_are = ap (λ (r : Page). r.marks) l.1 ∙ none }

over_ended : (head : Head) (b : ℕ) (s : State) (word marks : List ℕ) → At head s scans.Ends word marks → ends_quiet head.line.macro ≡ true
    → s.page.marks ≡ [] → offer b s.page ≡ line_ends s.page → Ended b s 1 []
over_ended head b s word marks at h none e =
    let p = s.page in
    let q = with_scan scans.Start p in
    let end = silent_end head.line.macro p h in
    let seen = three end.x end.y (last_act p) in
    record {
      next = with_page (said seen q).page s;
      steps = 1;
      few = omega arith;
      takes =
          takes_by b s q (said seen q).page end.x end.y (last_act p) []
          (e ∙ line_ends_is p ∙ ap (λ (l : Lined). line_over (end_of l.macro p)) at.line ∙ ap line_over end.offered_is ∙ line_over_silent p end.x end.y)
          refl (no_words (part_of end.x q).word _ _ (end.no_x q) (end.no_y _) (last_word p _));
      fresh = over_fresh end.x end.y s p end.laid_x end.laid_y none;
    }

-- ---- marks

marked_ended : (t : Bool) (head : Head) (b : ℕ) (s : State) (word marks : List ℕ) → At head s scans.Ends word marks → ends_quiet head.line.macro ≡ true
    → is_pending s.page ≡ false → is_none s.page.closers ≡ true → is_none s.page.marks ≡ t → Ended b s 2 marks
unfolding ends_by marks_step
marked_ended true head b s word marks at h pending closers none =
    ended_within b s 1 2 [] marks (omega arith) (sym (is_none-nil s.page.marks none) ∙ at.marks_are)
    (over_ended head b s word marks at h (is_none-nil s.page.marks none) (offered_by head b s word marks false true true at pending closers none))
marked_ended false head b s word marks at h pending closers none =
    let first = marks_step head b s scans.Ends word marks at (offered_by head b s word marks false true false at pending closers none) in
    ended_within b s (1 + 1) 2 (marks ++ []) marks (omega arith) (append-nil marks)
    (ended_after b s first.next 1 1 marks [] first.leads
    (over_ended head b first.next word [] first.at h first.at.marks_are (offered_by head b first.next word [] false true true first.at pending closers refl)))

-- ---- enclosures that the line opened

fewer : (cs : List ℕ) (k : ℕ) → length cs ≤ 8 → length (take k cs) ≤ 8
fewer cs k l = rw (length-take k cs) (omega arith)

one_fewer : (cs : List ℕ) (n : ℕ) → length cs ≤ suc n → length (take (length cs - 1) cs) ≤ n
one_fewer cs n l = rw (length-take (length cs - 1) cs) (omega arith)

closes_out : (p : Page) → takes_plain p.call.taker ≡ true → Out (closes_last p) p []
unfolding closes_last is_quiet of_word
closes_out p f =
    let close = acts.Close (texts.Closing (slice_index p.closers (length p.closers - 1))) in
    let q = record p { closers = take (length p.closers - 1) p.closers } in
    let keeps : Keeps p q =
    record { scan = refl; word = refl; marks = refl; few = fewer p.closers (length p.closers - 1); going = refl; comment = refl; line = refl; fits = f; way = refl } in
    out_seen_if (ends_joined p) (two close acts.Join) (left close) q p []
    (out q p close acts.Join acts.Nothing [] refl refl refl refl keeps)
    (out q p close acts.Nothing acts.Nothing [] refl refl refl refl keeps)

record Closed (head : Head) (b : ℕ) (s : State) (n : ℕ) (word marks : List ℕ) : Type 0 where
  step : Stepped head b s 1 [] scans.Ends word marks
  not_pending : is_pending step.next.page ≡ false
  fewer_then : length step.next.page.closers ≤ n

closed_step : (head : Head) (b : ℕ) (s : State) (n : ℕ) (word marks : List ℕ) → At head s scans.Ends word marks
    → offer b s.page ≡ closes_last s.page → is_pending s.page ≡ false → length s.page.closers ≤ suc n → Closed head b s n word marks
unfolding closes_last out_next out_step step_at
closed_step head b s n word marks at e pending l =
    let p = s.page in
    record {
      step =
          step_at head b s 1 [] p.scan scans.Ends p.word word marks at.scan_is at.word_is
          (out_step head b s (closes_last p) p [] marks e (closes_out p at.fits) at.marks_are at.few at.going at.comment at.line at.way at.free);
      not_pending = pending;
      fewer_then = one_fewer p.closers n l;
    }

closed_ended : (n : ℕ) (t : Bool) (head : Head) (b : ℕ) (s : State) (word marks : List ℕ) → At head s scans.Ends word marks → ends_quiet head.line.macro ≡ true
    → is_pending s.page ≡ false → length s.page.closers ≤ n → is_none s.page.closers ≡ t → Ended b s (n + 2) marks
unfolding ends_by
closed_ended n true head b s word marks at h pending l none =
    ended_within b s 2 (n + 2) marks marks (omega arith) refl (marked_ended (is_none s.page.marks) head b s word marks at h pending none refl)
closed_ended zero false head b s word marks at h pending l none =
    absurd (let no : (length s.page.closers == 0) ≡ false = none in grind (arith, nat_tests))
closed_ended (suc n) false head b s word marks at h pending l none =
    let one = closed_step head b s n word marks at (offered_by head b s word marks false false (is_none s.page.marks) at pending none refl) pending l in
    let t = one.step.next in
    ended_within b s (1 + (n + 2)) (suc n + 2) marks marks (omega arith) refl
    (ended_after b s t 1 (n + 2) [] marks one.step.leads
    (closed_ended n (is_none t.page.closers) head b t word marks one.step.at h one.not_pending one.fewer_then refl))

-- ---- what is pending comes first

pending_ended : (t : Bool) (head : Head) (b : ℕ) (s : State) (word marks : List ℕ) → At head s scans.Ends word marks → ends_quiet head.line.macro ≡ true
    → is_pending s.page ≡ t → Ended b s 11 marks
unfolding ends_by
pending_ended true head b s word marks at h pending =
    let first = leaves_step head b s scans.Ends word marks at (pending_usual s.page pending)
    (offered_by head b s word marks true (is_none s.page.closers) (is_none s.page.marks) at pending refl refl) in
    let t = first.step.next in
    ended_within b s (1 + 10) 11 marks marks (omega arith) refl
    (ended_after b s t 1 10 [] marks first.step.leads
    (closed_ended 8 (is_none t.page.closers) head b t word marks first.step.at h first.not_pending first.step.at.few refl))
pending_ended false head b s word marks at h pending =
    ended_within b s 10 11 marks marks (omega arith) refl
    (closed_ended 8 (is_none s.page.closers) head b s word marks at h pending at.few refl)

pub line_ended : (head : Head) (b : ℕ) (s : State) (word marks : List ℕ) → At head s scans.Ends word marks → ends_quiet head.line.macro ≡ true → Ended b s 11 marks
line_ended head b s word marks at h = pending_ended (is_pending s.page) head b s word marks at h refl
