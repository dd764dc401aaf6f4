-- One step where a line of a macro is read: what is said, and how it is read further.
use Rattle.std.proofs.Common.{◌≡◌, ℕ, ◌≤◌, List, [], ◌++◌, length, Bool, true, false, refl, sym, ◌∙◌, ap, subst, append-nil}
use Rattle.mdoc_layout.specs.declared.acts.Act.TheVariants as acts
use Rattle.mdoc_layout.specs.declared.page.Lay.{Lay}
use Rattle.mdoc_layout.specs.declared.page.Page.{Page}
use Rattle.mdoc_layout.specs.declared.page.Scan.{Scan}
use Rattle.mdoc_words.specs.Calls.{is_enclosure_pending, is_pending, leaves, pending}
use Rattle.mdoc_words.specs.Rules.{takes_no_more}
use Rattle.mdoc_layout.specs.Laying.{with_lay, was_put, without_marks}
use Rattle.mdoc_layout.specs.LayingOut.{lay_out}
use Rattle.mdoc_converter.specs.Reading.{State, said}
use Rattle.mdoc_converter.specs.Scanning.{offer}
use Rattle.mdoc_layout.specs.Seeing.{Offered, offered, left, three}
use Rattle.mdoc_converter.specs.WrittenLines.{Way, Usual, way_of}
use Rattle.mdoc_converter.proofs.Offering.{with_page, Leads, leads_by}
use Rattle.mdoc_converter.proofs.Outcomes.{of_word, never, Lined, line_in, Lays, three-page, three-words, takes_as, Out, leaves_out}

-- ---- where a line of a macro is read

-- the macro that it begins with, and how words are taken
pub record Head : Type 0 where
  pub line : Lined
  pub way : Way

-- the same, and whether its words are read as such, or the first of a heading
pub record Manner : Type 0 where
  pub line : Lined
  pub way : Way
  pub plain : Bool

abbrev pub plainly : Head → Manner
plainly head = record { line = head.line; way = head.way; plain = true }

-- so, with this word, or its last part where more than one goes out, and with these marks held back
pub record In (goes : Bool) (m : Manner) (s : State) (scan : Scan) (word marks : List ℕ) : Type 0 where
  pub scan_is : s.page.scan ≡ scan
  pub word_is : s.page.word ≡ word
  pub marks_are : s.page.marks ≡ marks
  pub few : length s.page.closers ≤ 8
  pub going : s.page.call.going ≡ goes
  pub comment : s.page.call.comment ≡ false
  pub line : line_in s.page ≡ m.line
  pub fits : takes_as m.plain s.page.call.taker ≡ true
  pub way : way_of s.page.call.taker ≡ m.way
  pub free : s.page.call.some ≡ false → marks ≡ []

abbrev pub At : Head → State → Scan → List ℕ → List ℕ → Type 0
At m s scan word marks = In false (plainly m) s scan word marks

-- so it is read where a page is the same in all that counts
pub in_as : (going : Bool) (head : Manner) (s : State) (p : Page) (scan scan2 : Scan) (word word2 marks : List ℕ) → In going head s scan word marks
    → p.scan ≡ scan2 → p.word ≡ word2 → p.marks ≡ s.page.marks → p.closers ≡ s.page.closers → p.call.going ≡ s.page.call.going
    → p.call.comment ≡ s.page.call.comment → line_in p ≡ line_in s.page → p.call.taker ≡ s.page.call.taker → p.call.some ≡ s.page.call.some
    → In going head (with_page p s) scan2 word2 marks
in_as going head s p scan scan2 word word2 marks at a b c d e f g h i = record {
  scan_is = a;
  word_is = b;
  marks_are = c ∙ at.marks_are;
  few = subst (λ (cs : List ℕ). length cs ≤ 8) (sym d) at.few;
  going = e ∙ at.going;
  comment = f ∙ at.comment;
  line = g ∙ at.line;
  fits = ap (takes_as head.plain) h ∙ at.fits;
  way = ap way_of h ∙ at.way;
  free = λ k. at.free (sym i ∙ k);
}

-- in so many steps it is read further so, and these bytes of words are said
pub record Stepped (m : Head) (b : ℕ) (s : State) (k : ℕ) (xs : List ℕ) (scan : Scan) (word marks : List ℕ) : Type 0 where
  pub next : State
  pub leads : Leads b s next k xs
  pub at : At m next scan word marks

-- ---- one step

pub out_words : (m : Offered) (q : Page) (xs : List ℕ) (o : Out m q xs)
    → of_word o.x m.page.word ++ (of_word o.y m.page.word ++ (of_word o.z m.page.word ++ [])) ≡ xs
out_words m q xs o =
    ap (λ (w : List ℕ). of_word o.x w ++ (of_word o.y w ++ (of_word o.z w ++ []))) o.keeps.word ∙ o.words

pub out_lays : (m : Offered) (q : Page) (xs : List ℕ) (o : Out m q xs) → Lays m.page (said (three o.x o.y o.z) m.page).page
out_lays m q xs o = three-page o.x o.y o.z m.page o.quiet_x o.quiet_y o.quiet_z

unfoldable pub out_next : (m : Offered) (q : Page) (xs : List ℕ) → Out m q xs → State → State
out_next m q xs o s = with_page (with_lay (out_lays m q xs o).0 m.page) s

pub out_leads : (b : ℕ) (s : State) (m : Offered) (q : Page) (xs : List ℕ) (o : Out m q xs) → offer b s.page ≡ m → Leads b s (out_next m q xs o s) 1 xs
unfolding out_next
out_leads b s m q xs o e =
    leads_by b s m.page (with_lay (out_lays m q xs o).0 m.page) o.x o.y o.z xs (e ∙ ap (offered m.page) o.seen) (out_lays m q xs o).1
    (three-words o.x o.y o.z m.page o.quiet_x o.quiet_y o.quiet_z ∙ out_words m q xs o)

-- where a word is read then, or the line is read between words
pub out_in : (going : Bool) (head : Head) (s : State) (m : Offered) (q : Page) (xs marks : List ℕ) (o : Out m q xs)
    → q.marks ≡ marks → length q.closers ≤ 8 → q.call.going ≡ going → q.call.comment ≡ false → line_in q ≡ head.line → way_of q.call.taker ≡ head.way
    → (m.page.call.some ≡ false → marks ≡ []) → In going (plainly head) (out_next m q xs o s) q.scan q.word marks
unfolding out_next
out_in going head s m q xs marks o marks_are few going_is comment line_is way_is free = record {
  scan_is = o.keeps.scan;
  word_is = o.keeps.word;
  marks_are = o.keeps.marks ∙ marks_are;
  few = o.keeps.few few;
  going = o.keeps.going ∙ going_is;
  comment = o.keeps.comment ∙ comment;
  line = o.keeps.line ∙ line_is;
  fits = o.keeps.fits;
  way = o.keeps.way ∙ way_is;
  free = free;
}

-- by what is said, with a page before it
unfoldable pub out_step : (head : Head) (b : ℕ) (s : State) (m : Offered) (q : Page) (xs marks : List ℕ) → offer b s.page ≡ m → Out m q xs
    → q.marks ≡ marks → length q.closers ≤ 8 → q.call.going ≡ false → q.call.comment ≡ false → line_in q ≡ head.line → way_of q.call.taker ≡ head.way
    → (m.page.call.some ≡ false → marks ≡ []) → Stepped head b s 1 xs q.scan q.word marks
out_step head b s m q xs marks e o marks_are few going comment line_is way_is free = record {
  next = out_next m q xs o s;
  leads = out_leads b s m q xs o e;
  at = out_in false head s m q xs marks o marks_are few going comment line_is way_is free;
}

-- what was pending was said: no macro takes words then
pub record Left (m : Head) (b : ℕ) (s : State) (scan : Scan) (word marks : List ℕ) : Type 0 where
  pub step : Stepped m b s 1 [] scan word marks
  pub not_pending : is_pending step.next.page ≡ false
  pub no_enclosure : is_enclosure_pending step.next.page ≡ false
  pub some : step.next.page.call.some ≡ true

no_more_pending : (l : Lay) (p : Page) → is_pending (with_lay l (takes_no_more p)) ≡ false
no_more_pending l p = refl

none_enclosed : (l : Lay) (p : Page) → is_enclosure_pending (with_lay l (takes_no_more p)) ≡ false
none_enclosed l p = refl

pub no_more_enclosed : (l : Lay) (p : Page) → is_enclosure_pending (with_lay l (leaves p).page) ≡ false
unfolding leaves
no_more_enclosed l p = refl

leaves_page : (p : Page) → (leaves p).page ≡ takes_no_more (pending p).page
unfolding leaves
leaves_page p = refl

pub true_is_false : {A : Type 0} (t : Bool) → t ≡ true → t ≡ false → A
true_is_false t p q = never (sym q ∙ p)

unfoldable pub step_at : (m : Head) (b : ℕ) (s : State) (k : ℕ) (xs : List ℕ) (scan scan2 : Scan) (word word2 marks : List ℕ) → scan ≡ scan2 → word ≡ word2
    → Stepped m b s k xs scan word marks → Stepped m b s k xs scan2 word2 marks
step_at m b s k xs scan scan2 word word2 marks p q step = record {
  next = step.next;
  leads = step.leads;
  at = record {
    scan_is = step.at.scan_is ∙ p;
    word_is = step.at.word_is ∙ q;
    marks_are = step.at.marks_are;
    few = step.at.few;
    going = step.at.going;
    comment = step.at.comment;
    line = step.at.line;
    fits = step.at.fits;
    way = step.at.way;
    free = step.at.free;
  };
}

-- no more is taken
pub no_more_step : (head : Head) (b : ℕ) (s : State) (m : Offered) (q : Page) (scan : Scan) (word marks : List ℕ) → At head s scan word marks
    → offer b s.page ≡ m → Out m s.page [] → m.page ≡ takes_no_more q → Left head b s scan word marks
unfolding out_next step_at out_step
no_more_step head b s m q scan word marks at e o same =
    let l = (out_lays m s.page [] o).0 in
    let then_some : m.page.call.some ≡ true = ap (λ (p : Page). p.call.some) same in
    record {
      step =
          step_at head b s 1 [] s.page.scan scan s.page.word word marks at.scan_is at.word_is
          (out_step head b s m s.page [] marks e o at.marks_are at.few at.going at.comment at.line at.way
          (λ h. true_is_false m.page.call.some then_some h));
      not_pending = ap (λ (p : Page). is_pending (with_lay l p)) same ∙ no_more_pending l q;
      no_enclosure = ap (λ (p : Page). is_enclosure_pending (with_lay l p)) same ∙ none_enclosed l q;
      some = then_some;
    }

pub left_step : (head : Head) (b : ℕ) (s : State) (m : Offered) (scan : Scan) (word marks : List ℕ) → At head s scan word marks
    → offer b s.page ≡ m → Out m s.page [] → m.page ≡ (leaves s.page).page → Left head b s scan word marks
left_step head b s m scan word marks at e o same =
    no_more_step head b s m (pending s.page).page scan word marks at e o (same ∙ leaves_page s.page)

pub leaves_step : (head : Head) (b : ℕ) (s : State) (scan : Scan) (word marks : List ℕ) → At head s scan word marks
    → way_of s.page.call.taker ≡ Usual → offer b s.page ≡ leaves s.page → Left head b s scan word marks
leaves_step head b s scan word marks at u e = left_step head b s (leaves s.page) scan word marks at e (leaves_out s.page at.fits u) refl

-- marks that were held back are said
unfoldable pub marks_step : (head : Head) (b : ℕ) (s : State) (scan : Scan) (word marks : List ℕ) → At head s scan word marks
    → offer b s.page ≡ offered s.page (left acts.Marks) → Stepped head b s 1 marks scan word []
unfolding said lay_out
marks_step head b s scan word marks at e = record {
  next = with_page (without_marks (was_put s.page)) s;
  leads =
      leads_by b s s.page (without_marks (was_put s.page)) acts.Marks acts.Nothing acts.Nothing marks e refl
      (append-nil s.page.marks ∙ at.marks_are);
  at = record {
    scan_is = at.scan_is;
    word_is = at.word_is;
    marks_are = refl;
    few = at.few;
    going = at.going;
    comment = at.comment;
    line = at.line;
    fits = at.fits;
    way = at.way;
    free = λ h. refl;
  };
}
