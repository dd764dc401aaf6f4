-- How plain text is read.
use Rattle.std.specs.Prelude.{◌==◌, ◌&&◌, ◌||◌, not, nat_le}
use Rattle.std.proofs.lemmas.Bool.{eqb-true, leb-true}
use Rattle.std.proofs.Common.{◌≡◌, ℕ, ◌-◌, ◌≤◌, Bool, true, false, if◌then◌else◌, List, [], ◌∷◌, ◌++◌, refl, ap, sym, subst, ◌∙◌}
use Rattle.nr_reading.specs.declared.event.Event.TheVariants as events
use Rattle.nr_reading.specs.declared.mode.PendingAct.{PendingAct}
use Rattle.nr_reading.specs.declared.mode.PendingAct.TheVariants as pending_acts
use Rattle.nr_reading.specs.declared.mode.Mode.{Mode}
use Rattle.nr_reading.specs.declared.mode.Mode.TheVariants as modes
use Rattle.nr_reading.specs.Half.{taken_in_directly}
use Rattle.nr_reading.specs.Mode.{first_signs}
use Rattle.nr_reading.specs.Step.{Step as ReadStep, go, tell, leave}
use Rattle.nr_reading.specs.declared.mode.Escape.TheVariants as escapes
use Rattle.nr_reading.specs.Text.{start_byte, start_control, one_blank_more}
use Rattle.nr_reading.specs.declared.mode.Reading.{Reading}
use Rattle.nr_input.specs.Acting.{after_lead}
use Rattle.nr_input.specs.Moving.{taken_in_at}
use Rattle.nr_formatter.specs.declared.tasks.Task.TheVariants as tasks
use Rattle.nr_formatter.specs.declared.tasks.Step.TheVariants as steps
use Rattle.nr_machine.specs.State.{State}
use Rattle.nr_machine.specs.Machine.{step, situation_of, with_situation}
use Rattle.nr_laws.specs.PlainText.{is_ink, squeezed, is_plain_byte, is_sign, is_plain_from}
use Rattle.nr_laws.proofs.PlainPages.{squeezed-append, if-true, if-false, lines_ink}
use Rattle.nr_laws.proofs.PlainStates.{calm, Owes, Nothing, Blanks, InLead, InText, HearsByte, HearsLead, HearsLeading, HearsEmpty, HearsEnd, HearsOver, OrderlyIn, Keeps, keeps}
use Rattle.nr_laws.proofs.PlainLines.{collected_ink}
use Rattle.nr_laws.specs.FilledText.{is_filled_from, text_of}
use Rattle.nr_laws.proofs.FilledPages.{rows_shown}
use Rattle.nr_laws.proofs.FilledPieces.{rows_after, added-newline}
use Rattle.nr_laws.proofs.FilledStates.{never_here}
use Rattle.nr_formatter.specs.Access.{collected}
use Rattle.nr_machine.specs.Printing.{text}

-- ---- plain bytes

both-left : (a b : Bool) → (a && b) ≡ true → a ≡ true
both-left true b is = refl
both-left false b is = cc

both-right : (a b : Bool) → (a && b) ≡ true → b ≡ true
both-right true b is = is
both-right false b is = absurd (let e : false ≡ true = is in cc)

neither-left : (a b : Bool) → not (a || b) ≡ true → a ≡ false
neither-left true b is = absurd (let e : false ≡ true = is in cc)
neither-left false b is = refl

neither-right : (a b : Bool) → not (a || b) ≡ true → b ≡ false
neither-right true b is = absurd (let e : false ≡ true = is in cc)
neither-right false true is = absurd (let e : false ≡ true = is in cc)
neither-right false false is = refl

is_false : (a : Bool) → not a ≡ true → a ≡ false
is_false true is = absurd (let e : false ≡ true = is in cc)
is_false false is = refl

-- a plain byte that is no newline
record Prints (b : ℕ) : Type 0 where
  least : 32 ≤ b
  most : b ≤ 126
  no_escape : (b == 92) ≡ false

prints_by : (b : ℕ) (newline : Bool) → newline ≡ false → (newline || (nat_le 32 b && nat_le b 126 && not (b == 92))) ≡ true → Prints b
prints_by b true never is = absurd (let e : true ≡ false = never in cc)
prints_by b false never is = record {
  least = leb-true 32 b (both-left (nat_le 32 b) (nat_le b 126) (both-left (nat_le 32 b && nat_le b 126) (not (b == 92)) is));
  most = leb-true b 126 (both-right (nat_le 32 b) (nat_le b 126) (both-left (nat_le 32 b && nat_le b 126) (not (b == 92)) is));
  no_escape = is_false (b == 92) (both-right (nat_le 32 b && nat_le b 126) (not (b == 92)) is);
}

prints : (b : ℕ) → (b == 10) ≡ false → is_plain_byte b ≡ true → Prints b
prints b other is = prints_by b (b == 10) other is

-- ---- ink of a byte that is read

not_ink : (b : ℕ) (bs : List ℕ) → is_ink b ≡ false → squeezed bs ≡ squeezed (b ∷ bs)
not_ink b bs is = sym (if-false (is_ink b) (b ∷ squeezed bs) (squeezed bs) is)

newline_ink : (b : ℕ) → (b == 10) ≡ true → is_ink b ≡ false
newline_ink b is = ap is_ink (eqb-true b 10 is)

blank_ink : (b : ℕ) → (b == 32) ≡ true → is_ink b ≡ false
blank_ink b is = ap is_ink (eqb-true b 32 is)

-- ---- a move that reads, by what comes of the item

abbrev reads : ReadStep → State → State
reads st s = with_situation (taken_in_at (taken_in_directly st s.formatter.reader.half) (situation_of s)) s

-- what is emitted and what is to come changes
abbrev rest : State → List ℕ → List ℕ
rest s z = squeezed (text s.pages) ++ (lines_ink s.faces s.lines ++ (collected_ink s.faces (collected s.formatter) ++ z))

-- what follows a byte
after_byte : (begins : Bool) (b : ℕ) (bs : List ℕ) (x : Bool) → (b == 10) ≡ x → is_plain_from begins (b ∷ bs) ≡ true → is_plain_from x bs ≡ true
after_byte begins b bs x is plain =
    subst (λ y. is_plain_from y bs ≡ true) is
    (both-right (not (begins && is_sign b)) (is_plain_from (b == 10) bs) (both-right (is_plain_byte b) (not (begins && is_sign b) && is_plain_from (b == 10) bs) plain))

byte_of : (begins : Bool) (b : ℕ) (bs : List ℕ) → is_plain_from begins (b ∷ bs) ≡ true → is_plain_byte b ≡ true
byte_of begins b bs plain = both-left (is_plain_byte b) (not (begins && is_sign b) && is_plain_from (b == 10) bs) plain

no_sign : (b : ℕ) (bs : List ℕ) → is_plain_from true (b ∷ bs) ≡ true → not (is_sign b) ≡ true
no_sign b bs plain = both-left (not (is_sign b)) (is_plain_from (b == 10) bs) (both-right (is_plain_byte b) (not (is_sign b) && is_plain_from (b == 10) bs) plain)

-- of filled text, what a line begins with
first_of_line : (b : ℕ) (bs : List ℕ) → is_filled_from true (b ∷ bs) ≡ true → not (b == 10 || b == 32) ≡ true
first_of_line b bs filled = both-left (not (b == 10 || b == 32)) (is_filled_from (b == 10) bs) filled

after_first : (b : ℕ) (bs : List ℕ) → is_filled_from true (b ∷ bs) ≡ true → is_filled_from (b == 10) bs ≡ true
after_first b bs filled = both-right (not (b == 10 || b == 32)) (is_filled_from (b == 10) bs) filled

-- the output, where these bytes are emitted or to come
abbrev ahead : State → List ℕ → List ℕ
ahead s bs = text s.pages ++ text_of s.faces (rows_shown s.lines ++ rows_after (collected s.formatter) bs)

-- with this to come, the input is read next
abbrev reading : Mode → PendingAct → List ℕ → Bool → State → State
reading m d bs i s = calm m d events.Nothing tasks.Read steps.NotYet bs i s

-- a text line's beginning, where it is no newline
abbrev start_text : ℕ → Reading → ReadStep
start_text b r =
    if b == 92 then go (record r { escape = escapes.Begun })
    else (if b == 32 then tell events.Leading (record r { mode = modes.Leading 1 }) else tell (events.Byte b) (record r { mode = modes.Text; continued = false }))

-- a line that begins with no sign, in the middle of no word
unsigned : (b : ℕ) (bs : List ℕ) (r : Reading) → is_plain_from true (b ∷ bs) ≡ true
    → start_byte b first_signs (record r { continued = false }) ≡ (if b == 10 then tell events.Empty (record r { continued = false }) else start_text b (record r { continued = false }))
unsigned b bs r plain =
    let q = record r { continued = false } in
    let afterwards = if b == 10 then tell events.Empty q else start_text b q in
    if-false (b == 46) (start_control false q) (if b == 39 then start_control true q else afterwards) (neither-left (b == 46) (b == 39) (no_sign b bs plain))
    ∙ if-false (b == 39) (start_control true q) afterwards (neither-right (b == 46) (b == 39) (no_sign b bs plain))

-- after blanks, where it is no newline
abbrev lead_text : ℕ → ℕ → Reading → ReadStep
lead_text b n r =
    if b == 32 then go (record r { mode = modes.Leading (one_blank_more n) })
    else (if b == 92 then go (record r { escape = escapes.Begun }) else leave (record r { mode = modes.Text; pending_act = pending_acts.Lead n }))

module _ (s : State) (o : OrderlyIn tasks.Read steps.NotYet s) where
  -- ---- in the midst of a text line

  text_byte_by : (b : ℕ) (bs : List ℕ) (i newline : Bool) → is_plain_from false (b ∷ bs) ≡ true → (b == 10) ≡ newline
      → Keeps (reading modes.Text pending_acts.Look (b ∷ bs) i s) (step (reading modes.Text pending_acts.Look (b ∷ bs) i s))
  unfolding step
  text_byte_by b bs i true plain is =
      let c = reading modes.Text pending_acts.Look (b ∷ bs) i s in
      let r = c.formatter.reader.half.reading in
      let leads : step c ≡ reads (tell events.EndLine (record r { mode = modes.Start; continued = false })) c =
      ap (λ st. reads st c) (if-true (b == 10) (tell events.EndLine (record r { mode = modes.Start; continued = false })) (if b == 92 then go (record r { escape = escapes.Begun }) else tell (events.Byte b) r) is) in
      keeps c (step c) (reads (tell events.EndLine (record r { mode = modes.Start; continued = false })) c) modes.Start pending_acts.Look events.EndLine tasks.Read steps.NotYet bs (not (b == 10))
      leads refl (HearsEnd (after_byte false b bs true is plain)) o (ap (rest s) (not_ink b bs (newline_ink b is)))
      (λ r p. record {
        reads = record { goes = refl; bytes = subst (λ x. is_filled_from x bs ≡ true) is r.bytes; inside = λ begins. ap not is };
        prints = p;
        same = ap (λ n. ahead s (n ∷ bs)) (sym (eqb-true b 10 is));
      })
  text_byte_by b bs i false plain is =
      let c = reading modes.Text pending_acts.Look (b ∷ bs) i s in
      let r = c.formatter.reader.half.reading in
      let p = prints b is (byte_of false b bs plain) in
      let leads : step c ≡ reads (tell (events.Byte b) r) c =
      ap (λ st. reads st c) (if-false (b == 10) (tell events.EndLine (record r { mode = modes.Start; continued = false })) (if b == 92 then go (record r { escape = escapes.Begun }) else tell (events.Byte b) r) is
      ∙ if-false (b == 92) (go (record r { escape = escapes.Begun })) (tell (events.Byte b) r) p.no_escape) in
      keeps c (step c) (reads (tell (events.Byte b) r) c) modes.Text pending_acts.Look (events.Byte b) tasks.Read steps.NotYet bs (not (b == 10))
      leads refl (HearsByte b p.least p.most (after_byte false b bs false is plain)) o (ap (rest s) (sym (squeezed-append (b ∷ []) bs)))
      (λ r f. record { reads = record { goes = refl; bytes = subst (λ x. is_filled_from x bs ≡ true) is r.bytes; inside = λ begins. never_here begins }; prints = f; same = refl })

  pub text_reads : {d : PendingAct} (bs : List ℕ) (i : Bool) → Owes d → is_plain_from false bs ≡ true → Keeps (reading modes.Text d bs i s) (step (reading modes.Text d bs i s))
  unfolding step
  text_reads (b ∷ bs) i Nothing plain = text_byte_by b bs i (b == 10) plain refl
  text_reads [] true Nothing plain =
      let c = reading modes.Text pending_acts.Look [] true s in
      keeps c (step c) (step c) modes.Start pending_acts.Look events.EndLine tasks.Read steps.NotYet [] false refl refl (HearsEnd refl) o refl
      (λ r p. record { reads = record { goes = refl; bytes = refl; inside = λ begins. refl }; prints = p; same = ap (λ rows. text s.pages ++ text_of s.faces (rows_shown s.lines ++ rows)) (added-newline (collected s.formatter)) })
  text_reads [] false Nothing plain =
      let c = reading modes.Text pending_acts.Look [] false s in
      keeps c (step c) (step c) modes.Start pending_acts.Look events.EndLine tasks.Read steps.NotYet [] false refl refl (HearsEnd refl) o refl
      (λ r p. record { reads = record { goes = refl; bytes = refl; inside = λ begins. refl }; prints = p; same = ap (λ rows. text s.pages ++ text_of s.faces (rows_shown s.lines ++ rows)) (added-newline (collected s.formatter)) })
  text_reads bs i (Blanks n) plain =
      let c = reading modes.Text (pending_acts.Lead n) bs i s in
      keeps c (step c) (step c) modes.Text (after_lead n) events.Lead tasks.Read steps.NotYet bs i refl refl (HearsLead (owes_by (nat_le n 1) (n - 1)) plain) o refl
      (λ r p. never_here r.goes)
    where
      owes_by : (x : Bool) (k : ℕ) → Owes (if x then pending_acts.Look else pending_acts.Lead k)
      owes_by true k = Nothing
      owes_by false k = Blanks k

  -- ---- at the beginning of a line

  start_byte_by : (b : ℕ) (bs : List ℕ) (i newline x : Bool) → is_plain_from true (b ∷ bs) ≡ true → (b == 10) ≡ newline → (b == 32) ≡ x
      → Keeps (reading modes.Start pending_acts.Look (b ∷ bs) i s) (step (reading modes.Start pending_acts.Look (b ∷ bs) i s))
  unfolding step
  start_byte_by b bs i true x plain is is_x =
      let c = reading modes.Start pending_acts.Look (b ∷ bs) i s in
      let r = c.formatter.reader.half.reading in
      let leads : step c ≡ reads (tell events.Empty r) c = ap (λ st. reads st c) (unsigned b bs r plain ∙ if-true (b == 10) (tell events.Empty r) (start_text b r) is) in
      keeps c (step c) (reads (tell events.Empty r) c) modes.Start pending_acts.Look events.Empty tasks.Read steps.NotYet bs (not (b == 10))
      leads refl (HearsEmpty (after_byte true b bs true is plain)) o (ap (rest s) (not_ink b bs (newline_ink b is)))
      (λ f p. never_here (sym (neither-left (b == 10) (b == 32) (first_of_line b bs f.bytes)) ∙ is))
  start_byte_by b bs i false true plain is is_x =
      let c = reading modes.Start pending_acts.Look (b ∷ bs) i s in
      let r = c.formatter.reader.half.reading in
      let p = prints b is (byte_of true b bs plain) in
      let blanks = tell events.Leading (record r { mode = modes.Leading 1 }) in
      let leads : step c ≡ reads blanks c =
      ap (λ st. reads st c) (unsigned b bs r plain ∙ if-false (b == 10) (tell events.Empty r) (start_text b r) is
      ∙ if-false (b == 92) (go (record r { escape = escapes.Begun })) (if b == 32 then blanks else tell (events.Byte b) (record r { mode = modes.Text; continued = false })) p.no_escape
      ∙ if-true (b == 32) blanks (tell (events.Byte b) (record r { mode = modes.Text; continued = false })) is_x) in
      keeps c (step c) (reads blanks c) (modes.Leading 1) pending_acts.Look events.Leading tasks.Read steps.NotYet bs (not (b == 10))
      leads refl (HearsLeading (after_byte true b bs false is plain)) o (ap (rest s) (not_ink b bs (blank_ink b is_x)))
      (λ f p. never_here (sym (neither-right (b == 10) (b == 32) (first_of_line b bs f.bytes)) ∙ is_x))
  start_byte_by b bs i false false plain is is_x =
      let c = reading modes.Start pending_acts.Look (b ∷ bs) i s in
      let r = c.formatter.reader.half.reading in
      let p = prints b is (byte_of true b bs plain) in
      let blanks = tell events.Leading (record r { mode = modes.Leading 1 }) in
      let said = tell (events.Byte b) (record r { mode = modes.Text; continued = false }) in
      let leads : step c ≡ reads said c =
      ap (λ st. reads st c) (unsigned b bs r plain ∙ if-false (b == 10) (tell events.Empty r) (start_text b r) is
      ∙ if-false (b == 92) (go (record r { escape = escapes.Begun })) (if b == 32 then blanks else said) p.no_escape ∙ if-false (b == 32) blanks said is_x) in
      keeps c (step c) (reads said c) modes.Text pending_acts.Look (events.Byte b) tasks.Read steps.NotYet bs (not (b == 10))
      leads refl (HearsByte b p.least p.most (after_byte true b bs false is plain)) o (ap (rest s) (sym (squeezed-append (b ∷ []) bs)))
      (λ q f. record { reads = record { goes = refl; bytes = subst (λ x. is_filled_from x bs ≡ true) is (after_first b bs q.bytes); inside = λ begins. never_here begins }; prints = f; same = refl })

  pub start_reads : (bs : List ℕ) (i : Bool) → is_plain_from true bs ≡ true → Keeps (reading modes.Start pending_acts.Look bs i s) (step (reading modes.Start pending_acts.Look bs i s))
  unfolding step
  start_reads (b ∷ bs) i plain = start_byte_by b bs i (b == 10) (b == 32) plain refl refl
  start_reads [] true plain =
      let c = reading modes.Start pending_acts.Look [] true s in
      keeps c (step c) (step c) modes.Start pending_acts.Look events.Empty tasks.Read steps.NotYet [] false refl refl (HearsEmpty refl) o refl (λ r p. never_here (sym (r.inside refl)))
  start_reads [] false plain =
      let c = reading modes.Start pending_acts.Look [] false s in
      keeps c (step c) (step c) modes.Start pending_acts.Look events.Over tasks.Read steps.NotYet [] false refl refl HearsOver o refl
      (λ r p. record { reads = record { goes = refl; bytes = refl; inside = λ begins. refl }; prints = p; same = refl })

  -- ---- after blanks at a line's beginning

  lead_byte_by : (n b : ℕ) (bs : List ℕ) (i newline x : Bool) → is_plain_from false (b ∷ bs) ≡ true → (b == 10) ≡ newline → (b == 32) ≡ x
      → Keeps (reading (modes.Leading n) pending_acts.Look (b ∷ bs) i s) (step (reading (modes.Leading n) pending_acts.Look (b ∷ bs) i s))
  unfolding step
  lead_byte_by n b bs i true x plain is is_x =
      let c = reading (modes.Leading n) pending_acts.Look (b ∷ bs) i s in
      let r = c.formatter.reader.half.reading in
      let empty = tell events.Empty (record r { mode = modes.Start }) in
      let leads : step c ≡ reads empty c = ap (λ st. reads st c) (if-true (b == 10) empty (lead_text b n r) is) in
      keeps c (step c) (reads empty c) modes.Start pending_acts.Look events.Empty tasks.Read steps.NotYet bs (not (b == 10))
      leads refl (HearsEmpty (after_byte false b bs true is plain)) o (ap (rest s) (not_ink b bs (newline_ink b is))) (λ f p. never_here f.goes)
  lead_byte_by n b bs i false true plain is is_x =
      let c = reading (modes.Leading n) pending_acts.Look (b ∷ bs) i s in
      let r = c.formatter.reader.half.reading in
      let empty = tell events.Empty (record r { mode = modes.Start }) in
      let more = go (record r { mode = modes.Leading (one_blank_more n) }) in
      let afterwards = leave (record r { mode = modes.Text; pending_act = pending_acts.Lead n }) in
      let leads : step c ≡ reads more c =
      ap (λ st. reads st c) (if-false (b == 10) empty (lead_text b n r) is ∙ if-true (b == 32) more (if b == 92 then go (record r { escape = escapes.Begun }) else afterwards) is_x) in
      keeps c (step c) (reads more c) (modes.Leading (one_blank_more n)) pending_acts.Look events.Nothing tasks.Read steps.NotYet bs (not (b == 10))
      leads refl (InLead (one_blank_more n) (after_byte false b bs false is plain)) o (ap (rest s) (not_ink b bs (blank_ink b is_x))) (λ f p. never_here f.goes)
  lead_byte_by n b bs i false false plain is is_x =
      let c = reading (modes.Leading n) pending_acts.Look (b ∷ bs) i s in
      let r = c.formatter.reader.half.reading in
      let p = prints b is (byte_of false b bs plain) in
      let empty = tell events.Empty (record r { mode = modes.Start }) in
      let more = go (record r { mode = modes.Leading (one_blank_more n) }) in
      let afterwards = leave (record r { mode = modes.Text; pending_act = pending_acts.Lead n }) in
      let leads : step c ≡ reads afterwards c =
      ap (λ st. reads st c) (if-false (b == 10) empty (lead_text b n r) is ∙ if-false (b == 32) more (if b == 92 then go (record r { escape = escapes.Begun }) else afterwards) is_x
      ∙ if-false (b == 92) (go (record r { escape = escapes.Begun })) afterwards p.no_escape) in
      keeps c (step c) (reads afterwards c) modes.Text (pending_acts.Lead n) events.Nothing tasks.Read steps.NotYet (b ∷ bs) i
      leads refl (InText (Blanks n) plain) o refl (λ f q. never_here f.goes)

  pub lead_reads : (n : ℕ) (bs : List ℕ) (i : Bool) → is_plain_from false bs ≡ true → Keeps (reading (modes.Leading n) pending_acts.Look bs i s) (step (reading (modes.Leading n) pending_acts.Look bs i s))
  unfolding step
  lead_reads n (b ∷ bs) i plain = lead_byte_by n b bs i (b == 10) (b == 32) plain refl refl
  lead_reads n [] true plain =
      let c = reading (modes.Leading n) pending_acts.Look [] true s in
      keeps c (step c) (step c) modes.Start pending_acts.Look events.Empty tasks.Read steps.NotYet [] false refl refl (HearsEmpty refl) o refl (λ f p. never_here f.goes)
  lead_reads n [] false plain =
      let c = reading (modes.Leading n) pending_acts.Look [] false s in
      keeps c (step c) (step c) modes.Start pending_acts.Look events.Empty tasks.Read steps.NotYet [] false refl refl (HearsEmpty refl) o refl (λ f p. never_here f.goes)
