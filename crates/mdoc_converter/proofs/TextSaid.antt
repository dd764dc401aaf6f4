-- A text line says its bytes, and a row those of its cells.
use Rattle.std.proofs.Common.{◌≡◌, ℕ, ◌+◌, ◌==◌, ◌≤◌, List, [], ◌∷◌, ◌++◌, Bool, true, false, not, ◌&&◌, ◌||◌, if◌then◌else◌, refl, sym, ◌∙◌, ap, subst, arith}
use Rattle.std.specs.Prelude.{codes}
use Prim.Native.Char.{code}
use Rattle.mdoc_layout.specs.declared.acts.Act.{Act}
use Rattle.mdoc_layout.specs.declared.acts.Act.TheVariants as acts
use Rattle.mdoc_layout.specs.declared.page.Escape.{Escape}
use Rattle.mdoc_layout.specs.declared.page.Before.{Before}
use Rattle.mdoc_layout.specs.declared.page.Before.TheVariants as befores
use Rattle.mdoc_layout.specs.declared.page.Page.{Page}
use Rattle.mdoc_layout.specs.declared.page.Scan.{Scan}
use Rattle.mdoc_layout.specs.declared.page.Scan.TheVariants as scans
use Rattle.mdoc_words.specs.Rules.{with_scan}
use Rattle.mdoc_words.specs.Keeping.{ends_word}
use Rattle.mdoc_layout.specs.Columns.{has_rows}
use Rattle.mdoc_layout.specs.Laying.{is_control, is_middle, with_lay}
use Rattle.mdoc_layout.specs.LayingOut.{lay_out}
use Rattle.mdoc_converter.specs.Reading.{State, said, heard}
use Rattle.mdoc_converter.specs.Saying.{part_of, parts_at, parts_of, words_of}
use Rattle.mdoc_converter.specs.Scanning.{before_next, after_hyphen, after_text, first_before, hyphen_in_text, is_letter, offer}
use Rattle.mdoc_layout.specs.Seeing.{offered, left, taken}
use Rattle.mdoc_converter.specs.WordLaws.{reads_at, TextIsSaid}
use Rattle.mdoc_converter.specs.WrittenLines.{begins_text, each, is_text, row_said}
use Rattle.mdoc_converter.proofs.After.{after, next-state, Fresh}
use Rattle.mdoc_converter.proofs.Escapes.{and_left, and_right, is_not, line-text, same_byte}
use Rattle.mdoc_converter.proofs.Offering.{with_page, Leads, Takes, then_takes, leads_by, takes_by, takes-words, takes-state}
use Rattle.mdoc_converter.proofs.Outcomes.{Lays}
use Rattle.mdoc_converter.proofs.Saying.{words_of-append}

-- ---- what many bytes say, from what the first says

pub next-words : (b : ℕ) (bs : List ℕ) (s t : State) (k : ℕ) (xs ys : List ℕ) → k ≤ 16 → Takes b s t k xs
    → words_of (parts_of t bs) ≡ ys → words_of (parts_of s (b ∷ bs)) ≡ xs ++ ys
next-words b bs s t k xs ys l p q =
    words_of-append (parts_at b s) (parts_of (heard b s).state bs)
    ∙ ap (λ (zs : List ℕ). zs ++ words_of (parts_of (heard b s).state bs)) (takes-words b s t k xs l p)
    ∙ ap (λ (u : State). xs ++ words_of (parts_of u bs)) (takes-state b s t k xs l p)
    ∙ ap (λ (zs : List ℕ). xs ++ zs) q

-- ---- one byte in a text line

newline_offered : (before : Before) (p : Page) → offer (code "\n") (with_scan (scans.Text before) p) ≡ offered (with_scan scans.Start p) (taken acts.Ends)
unfolding offer
newline_offered before p = refl

ended : Page → Page
ended p = (lay_out acts.Ends (with_scan scans.Start p)).page

ended_page : (p : Page) → (said (taken acts.Ends) (with_scan scans.Start p)).page ≡ ended p
unfolding said lay_out ended
ended_page p = refl

newline_taken : (before : Before) (s : State) → Takes (code "\n") (reads_at (scans.Text before) s) (with_page (ended s.page) (reads_at scans.Start s)) 1 []
unfolding said
newline_taken before s =
    takes_by (code "\n") (reads_at (scans.Text before) s) (with_scan scans.Start s.page) (ended s.page)
    acts.Ends acts.Nothing acts.Nothing [] (newline_offered before s.page) (ended_page s.page) refl

byte_offered : (before : Before) (b : ℕ) (p : Page) → (b == code "\n") ≡ false → (b == code "-") ≡ false → ((b == code "\t") && has_rows p.block) ≡ false
    → offer b (with_scan (scans.Text before) p) ≡ offered (with_scan (scans.Text (before_next before b)) p) (taken (acts.Byte b))
unfolding offer
byte_offered before b p e f g = rw (e, f, g) refl

byte_taken : (before : Before) (b : ℕ) (s : State) → (b == code "\n") ≡ false → (b == code "-") ≡ false
    → ((b == code "\t") && has_rows s.page.block) ≡ false → Takes b (reads_at (scans.Text before) s) (reads_at (scans.Text (before_next before b)) s) 1 (b ∷ [])
unfolding said lay_out
byte_taken before b s e f g =
    takes_by b (reads_at (scans.Text before) s) (with_scan (scans.Text (before_next before b)) s.page) (with_scan (scans.Text (before_next before b)) s.page)
    (acts.Byte b) acts.Nothing acts.Nothing (b ∷ []) (byte_offered before b s.page e f g) refl refl

hyphen_offered : (before : Before) (p : Page) → offer (code "-") (with_scan (scans.Text before) p) ≡ hyphen_in_text before (with_scan (scans.Text before) p)
unfolding offer
hyphen_offered before p = refl

held_back : (s : State) → Takes (code "-") (reads_at (scans.Text befores.Letter) s) (reads_at scans.Hyphen s) 1 []
unfolding said lay_out
held_back s =
    takes_by (code "-") (reads_at (scans.Text befores.Letter) s) (with_scan scans.Hyphen s.page) (with_scan scans.Hyphen s.page)
    acts.Nothing acts.Nothing acts.Nothing [] (hyphen_offered befores.Letter s.page) refl refl

-- a hyphen of an escape
in_escape : (escape : Escape) (s : State)
    → Takes (code "-") (reads_at (scans.Text (befores.Within escape)) s) (reads_at (scans.Text (before_next (befores.Within escape) (code "-"))) s) 1 (codes "-")
unfolding said lay_out
in_escape escape s =
    let p = with_scan (scans.Text (before_next (befores.Within escape) (code "-"))) s.page in
    takes_by (code "-") (reads_at (scans.Text (befores.Within escape)) s) p p
    (acts.Byte (code "-")) acts.Nothing acts.Nothing (codes "-") (hyphen_offered (befores.Within escape) s.page) refl refl

after_other : (s : State) → Takes (code "-") (reads_at (scans.Text befores.Other) s) (reads_at (scans.Text befores.Other) s) 1 (codes "-")
unfolding said lay_out
after_other s =
    takes_by (code "-") (reads_at (scans.Text befores.Other) s) (with_scan (scans.Text befores.Other) s.page) (with_scan (scans.Text befores.Other) s.page)
    acts.Hyphen acts.Nothing acts.Nothing (codes "-") (hyphen_offered befores.Other s.page) refl refl

-- ---- after a hyphen that was held back

after_offered : (b : ℕ) (p : Page) → offer b (with_scan scans.Hyphen p) ≡ after_hyphen b (with_scan scans.Hyphen p)
unfolding offer
after_offered b p = refl

hyphen_or : Bool → Act
hyphen_or t = if t then acts.Byte (code "-") else acts.Hyphen

hyphen_word : (t : Bool) (p : Page) → (part_of (hyphen_or t) p).word ++ [] ≡ codes "-"
unfolding hyphen_or
hyphen_word true p = refl
hyphen_word false p = refl

hyphen_page : (t : Bool) (p : Page) → (lay_out (hyphen_or t) p).page ≡ p
unfolding hyphen_or lay_out
hyphen_page true p = refl
hyphen_page false p = refl

hyphen_leads : (b : ℕ) (s : State) → Leads b (reads_at scans.Hyphen s) (reads_at (scans.Text befores.Other) s) 1 (codes "-")
unfolding said hyphen_or lay_out
hyphen_leads b s =
    let p = with_scan (scans.Text befores.Other) s.page in
    leads_by b (reads_at scans.Hyphen s) p p (hyphen_or (is_letter b)) acts.Nothing acts.Nothing (codes "-")
    (after_offered b s.page) (hyphen_page (is_letter b) p) (hyphen_word (is_letter b) p)

ended_lays : (t : Bool) (l : _) (p : Page) → Lays p (if t then with_lay l p else p)
ended_lays true l p = (l, refl)
ended_lays false l p = (p.lay, refl)

-- the line ended
ended_fresh : (s : State) → s.page.marks ≡ [] → Fresh (with_page (ended s.page) (reads_at scans.Start s))
unfolding ended lay_out
ended_fresh s none =
    let l = ended_lays (is_middle s.page.lay.at) _ (with_scan scans.Start s.page) in
    record { scan_is = ap (λ (r : Page). r.scan) l.1; marks_are = ap (λ (r : Page). r.marks) l.1 ∙ none }

-- ---- text begins

begun_lays : (b : ℕ) (p : Page) → Lays p (lay_out (acts.Begin b) p).page
unfolding lay_out
begun_lays b p = (_, refl)

begun : ℕ → State → Page
begun b s =
    let p = after_text s.page in with_lay (begun_lays b (with_scan (scans.Text (first_before b)) p)).0 p

begun_page : (b : ℕ) (p : Page) → (said (taken (acts.Begin b)) p).page ≡ (lay_out (acts.Begin b) p).page
unfolding said lay_out
begun_page b p = refl

-- ---- cells of a row

cell_lays : (p : Page) → Lays p (lay_out acts.Cell p).page
unfolding lay_out
cell_lays p = (_, refl)

celled : State → Page
celled s = with_lay (cell_lays (with_scan scans.Cell s.page)).0 s.page

cell_page : (p : Page) → (said (taken acts.Cell) p).page ≡ (lay_out acts.Cell p).page
unfolding said lay_out
cell_page p = refl

tab_offered : (before : Before) (p : Page) → has_rows p.block ≡ true → offer (code "\t") (with_scan (scans.Text before) p) ≡ offered (with_scan scans.Cell p) (taken acts.Cell)
unfolding offer
tab_offered before p r = rw r refl

tab_taken : (before : Before) (s : State) → has_rows s.page.block ≡ true
    → Takes (code "\t") (reads_at (scans.Text before) s) (reads_at scans.Cell (with_page (celled s) s)) 1 []
unfolding said celled
tab_taken before s r =
    let p = with_scan scans.Cell s.page in
    takes_by (code "\t") (reads_at (scans.Text before) s) p (with_scan scans.Cell (celled s))
    acts.Cell acts.Nothing acts.Nothing [] (tab_offered before s.page r) (cell_page p ∙ (cell_lays p).1) refl

empty_offered : (p : Page) → offer (code "\t") (with_scan scans.Cell p) ≡ offered (with_scan scans.Cell p) (taken acts.Cell)
unfolding offer
empty_offered p = refl

-- a cell without text
empty_taken : (s : State) → Takes (code "\t") (reads_at scans.Cell s) (reads_at scans.Cell (with_page (celled s) s)) 1 []
unfolding said celled
empty_taken s =
    let p = with_scan scans.Cell s.page in
    takes_by (code "\t") (reads_at scans.Cell s) p (with_scan scans.Cell (celled s))
    acts.Cell acts.Nothing acts.Nothing [] (empty_offered s.page) (cell_page p ∙ (cell_lays p).1) refl

blank_offered : (p : Page) → offer (code " ") (with_scan scans.Cell p) ≡ offered (with_scan scans.Cell p) (taken acts.Nothing)
unfolding offer
blank_offered p = refl

blank_taken : (s : State) → Takes (code " ") (reads_at scans.Cell s) (reads_at scans.Cell s) 1 []
unfolding said lay_out
blank_taken s =
    let p = with_scan scans.Cell s.page in
    takes_by (code " ") (reads_at scans.Cell s) p p acts.Nothing acts.Nothing acts.Nothing [] (blank_offered s.page) refl refl

end_offered : (p : Page) → offer (code "\n") (with_scan scans.Cell p) ≡ offered (with_scan scans.Start p) (taken acts.Ends)
unfolding offer
end_offered p = refl

end_taken : (s : State) → Takes (code "\n") (reads_at scans.Cell s) (with_page (ended s.page) (reads_at scans.Start s)) 1 []
unfolding said
end_taken s =
    takes_by (code "\n") (reads_at scans.Cell s) (with_scan scans.Start s.page) (ended s.page)
    acts.Ends acts.Nothing acts.Nothing [] (end_offered s.page) (ended_page s.page) refl

cell_offered : (b : ℕ) (s : State) → (b == code "\n") ≡ false → (b == code "\t") ≡ false → (b == code " ") ≡ false
    → offer b (reads_at scans.Cell s).page ≡ offered (with_scan (scans.Text (first_before b)) (after_text s.page)) (taken (acts.Begin b))
unfolding offer
cell_offered b s e f g = rw (e, f, g) refl

cell_taken : (b : ℕ) (s : State) → (b == code "\n") ≡ false → (b == code "\t") ≡ false → (b == code " ") ≡ false
    → Takes b (reads_at scans.Cell s) (reads_at (scans.Text (first_before b)) (with_page (begun b s) s)) 1 (b ∷ [])
unfolding begun said
cell_taken b s e f g =
    let p = with_scan (scans.Text (first_before b)) (after_text s.page) in
    takes_by b (reads_at scans.Cell s) p (with_scan (scans.Text (first_before b)) (begun b s))
    (acts.Begin b) acts.Nothing acts.Nothing (b ∷ []) (cell_offered b s e f g) (begun_page b p ∙ (begun_lays b p).1) refl

-- ---- all bytes of the line, which is a row or not

record Rest (row : Bool) (bs : List ℕ) : Type 0 where
  text : (before : Before) (s : State) → has_rows s.page.block ≡ row → words_of (parts_of (reads_at (scans.Text before) s) (bs ++ codes "\n")) ≡ row_said row false bs
  hyphen : (s : State) → has_rows s.page.block ≡ row → words_of (parts_of (reads_at scans.Hyphen s) (bs ++ codes "\n")) ≡ code "-" ∷ row_said row false bs
  cell : (s : State) → has_rows s.page.block ≡ row → row ≡ true → words_of (parts_of (reads_at scans.Cell s) (bs ++ codes "\n")) ≡ row_said row true bs
  text_fresh : (before : Before) (s : State) → has_rows s.page.block ≡ row → s.page.marks ≡ [] → Fresh (after (reads_at (scans.Text before) s) (bs ++ codes "\n"))
  hyphen_fresh : (s : State) → has_rows s.page.block ≡ row → s.page.marks ≡ [] → Fresh (after (reads_at scans.Hyphen s) (bs ++ codes "\n"))
  cell_fresh : (s : State) → has_rows s.page.block ≡ row → row ≡ true → s.page.marks ≡ [] → Fresh (after (reads_at scans.Cell s) (bs ++ codes "\n"))

-- a byte of the line is taken, after a tab and blanks or not, and what comes after it is said as it comes
record Taken (row after_tab : Bool) (scan : Scan) (b : ℕ) (s : State) : Type 0 where
  next : State
  xs : List ℕ
  takes : Takes b (reads_at scan s) next 1 xs
  rest : (bs : List ℕ) → Rest row bs → xs ++ words_of (parts_of next (bs ++ codes "\n")) ≡ row_said row after_tab (b ∷ bs)
  fresh : (bs : List ℕ) → Rest row bs → s.page.marks ≡ [] → Fresh (after next (bs ++ codes "\n"))

taken_hyphen : (row : Bool) (before : Before) (s : State) → has_rows s.page.block ≡ row → Taken row false (scans.Text before) (code "-") s
taken_hyphen row befores.Letter s r = record { next = reads_at scans.Hyphen s; xs = []; takes = held_back s; rest = λ bs rest. rest.hyphen s r; fresh = λ bs rest none. rest.hyphen_fresh s r none }
taken_hyphen row (befores.Within escape) s r =
    let next = before_next (befores.Within escape) (code "-") in
    record { next = reads_at (scans.Text next) s; xs = codes "-"; takes = in_escape escape s; rest = λ bs rest. ap (λ (zs : List ℕ). code "-" ∷ zs) (rest.text next s r); fresh = λ bs rest none. rest.text_fresh next s r none }
taken_hyphen row befores.Other s r =
    record { next = reads_at (scans.Text befores.Other) s; xs = codes "-"; takes = after_other s; rest = λ bs rest. ap (λ (zs : List ℕ). code "-" ∷ zs) (rest.text befores.Other s r); fresh = λ bs rest none. rest.text_fresh befores.Other s r none }

-- what is said of a byte and of what comes after it, by whether it ends a cell, or is dropped
said_by : Bool → Bool → Bool → ℕ → List ℕ → List ℕ
said_by tab blank row b bs =
    if tab then row_said row true bs else if blank then row_said row true bs else b ∷ row_said row false bs

said_is : (row after_tab : Bool) (b : ℕ) (bs : List ℕ) → row_said row after_tab (b ∷ bs) ≡ said_by ((b == code "\t") && row) ((b == code " ") && after_tab) row b bs
unfolding said_by
said_is row after_tab b bs = refl

tab_said : (row after_tab : Bool) (b : ℕ) (bs : List ℕ) → ((b == code "\t") && row) ≡ true → row_said row true bs ≡ row_said row after_tab (b ∷ bs)
unfolding said_by
tab_said row after_tab b bs e =
    sym (said_is row after_tab b bs ∙ ap (λ (t : Bool). said_by t ((b == code " ") && after_tab) row b bs) e)

blank_said : (row after_tab : Bool) (b : ℕ) (bs : List ℕ) → ((b == code "\t") && row) ≡ false → ((b == code " ") && after_tab) ≡ true
    → row_said row true bs ≡ row_said row after_tab (b ∷ bs)
unfolding said_by
blank_said row after_tab b bs e f =
    sym (said_is row after_tab b bs ∙ ap (λ (t : Bool). said_by t ((b == code " ") && after_tab) row b bs) e
    ∙ ap (λ (t : Bool). said_by false t row b bs) f)

byte_said : (row after_tab : Bool) (b : ℕ) (bs : List ℕ) → ((b == code "\t") && row) ≡ false → ((b == code " ") && after_tab) ≡ false
    → b ∷ row_said row false bs ≡ row_said row after_tab (b ∷ bs)
unfolding said_by
byte_said row after_tab b bs e f =
    sym (said_is row after_tab b bs ∙ ap (λ (t : Bool). said_by t ((b == code " ") && after_tab) row b bs) e
    ∙ ap (λ (t : Bool). said_by false t row b bs) f)

and_false : (t : Bool) → (t && false) ≡ false
and_false true = refl
and_false false = refl

taken_by : (t row : Bool) (b : ℕ) (before : Before) (s : State) → has_rows s.page.block ≡ row → (b == code "\n") ≡ false → ((b == code "\t") && row) ≡ false
    → (b == code "-") ≡ t → Taken row false (scans.Text before) b s
taken_by true row b before s r e g f =
    subst (λ (k : ℕ). Taken row false (scans.Text before) k s) (same_byte b (code "-") f) (taken_hyphen row before s r)
taken_by false row b before s r e g f =
    record {
      next = reads_at (scans.Text (before_next before b)) s;
      xs = b ∷ [];
      takes = byte_taken before b s e f (ap (λ (t : Bool). (b == code "\t") && t) r ∙ g);
      rest = λ bs rest. ap (λ (zs : List ℕ). b ∷ zs) (rest.text (before_next before b) s r) ∙ byte_said row false b bs g (and_false (b == code " "));
      fresh = λ bs rest none. rest.text_fresh (before_next before b) s r none;
    }

taken_tab : (row : Bool) (before : Before) (s : State) → has_rows s.page.block ≡ row → row ≡ true → Taken row false (scans.Text before) (code "\t") s
unfolding celled
taken_tab row before s r e =
    record {
      next = reads_at scans.Cell (with_page (celled s) s);
      xs = [];
      takes = tab_taken before s (r ∙ e);
      rest = λ bs rest. rest.cell (with_page (celled s) s) r e ∙ tab_said row false (code "\t") bs e;
      fresh = λ bs rest none. rest.cell_fresh (with_page (celled s) s) r e none;
    }

taken_in : (t row : Bool) (b : ℕ) (before : Before) (s : State) → has_rows s.page.block ≡ row → (b == code "\n") ≡ false → ((b == code "\t") && row) ≡ t
    → Taken row false (scans.Text before) b s
taken_in true row b before s r e g =
    subst (λ (k : ℕ). Taken row false (scans.Text before) k s) (same_byte b (code "\t") (and_left (b == code "\t") row g))
    (taken_tab row before s r (and_right (b == code "\t") row g))
taken_in false row b before s r e g = taken_by (b == code "-") row b before s r e g refl

cell_tab : (row : Bool) (s : State) → has_rows s.page.block ≡ row → row ≡ true → Taken row true scans.Cell (code "\t") s
unfolding celled
cell_tab row s r e =
    record {
      next = reads_at scans.Cell (with_page (celled s) s);
      xs = [];
      takes = empty_taken s;
      rest = λ bs rest. rest.cell (with_page (celled s) s) r e ∙ tab_said row true (code "\t") bs e;
      fresh = λ bs rest none. rest.cell_fresh (with_page (celled s) s) r e none;
    }

cell_blank : (row : Bool) (s : State) → has_rows s.page.block ≡ row → row ≡ true → Taken row true scans.Cell (code " ") s
cell_blank row s r e =
    record {
      next = reads_at scans.Cell s;
      xs = [];
      takes = blank_taken s;
      rest = λ bs rest. rest.cell s r e ∙ blank_said row true (code " ") bs refl refl;
      fresh = λ bs rest none. rest.cell_fresh s r e none;
    }

cell_by : (t u row : Bool) (b : ℕ) (s : State) → has_rows s.page.block ≡ row → row ≡ true → (b == code "\n") ≡ false → (b == code "\t") ≡ t → (b == code " ") ≡ u
    → Taken row true scans.Cell b s
unfolding begun
cell_by true u row b s r e n f g = subst (λ (k : ℕ). Taken row true scans.Cell k s) (same_byte b (code "\t") f) (cell_tab row s r e)
cell_by false true row b s r e n f g = subst (λ (k : ℕ). Taken row true scans.Cell k s) (same_byte b (code " ") g) (cell_blank row s r e)
cell_by false false row b s r e n f g =
    record {
      next = reads_at (scans.Text (first_before b)) (with_page (begun b s) s);
      xs = b ∷ [];
      takes = cell_taken b s n f g;
      rest = λ bs rest.
          ap (λ (zs : List ℕ). b ∷ zs) (rest.text (first_before b) (with_page (begun b s) s) r)
          ∙ byte_said row true b bs (ap (λ (t : Bool). t && row) f) (ap (λ (t : Bool). t && true) g);
      fresh = λ bs rest none. rest.text_fresh (first_before b) (with_page (begun b s) s) r none;
    }

one_of : (k : ℕ) → 1 ≤ 16
one_of k = omega arith

two_of : (k : ℕ) → 1 + 1 ≤ 16
two_of k = omega arith

-- what a byte and those after it say, by what is said of it
said_from : (row after_tab : Bool) (scan : Scan) (b : ℕ) (bs : List ℕ) (s : State) → Taken row after_tab scan b s → Rest row bs
    → words_of (parts_of (reads_at scan s) (b ∷ bs ++ codes "\n")) ≡ row_said row after_tab (b ∷ bs)
said_from row after_tab scan b bs s one later =
    next-words b (bs ++ codes "\n") (reads_at scan s) one.next 1 one.xs _ (one_of 0) one.takes refl ∙ one.rest bs later

fresh_from : (row after_tab : Bool) (scan : Scan) (b : ℕ) (bs : List ℕ) (s : State) → Taken row after_tab scan b s → Rest row bs → s.page.marks ≡ []
    → Fresh (after (reads_at scan s) (b ∷ bs ++ codes "\n"))
fresh_from row after_tab scan b bs s one later none =
    subst Fresh (sym (next-state b (bs ++ codes "\n") (reads_at scan s) one.next 1 one.xs (one_of 0) one.takes)) (one.fresh bs later none)

all_said : (row : Bool) (bs : List ℕ) → each is_text bs ≡ true → Rest row bs
all_said row [] h = record {
  text = λ before s r.
      next-words (code "\n") [] (reads_at (scans.Text before) s) _ 1 [] [] (one_of 0) (newline_taken before s) refl;
  hyphen = λ s r.
      next-words (code "\n") [] (reads_at scans.Hyphen s) _ (1 + 1) (codes "-" ++ []) [] (two_of 0)
      (then_takes (code "\n") _ _ _ 1 1 (codes "-") [] (hyphen_leads (code "\n") s) (newline_taken befores.Other s)) refl;
  cell = λ s r e. next-words (code "\n") [] (reads_at scans.Cell s) _ 1 [] [] (one_of 0) (end_taken s) refl;
  text_fresh = λ before s r none.
      subst Fresh (sym (next-state (code "\n") [] (reads_at (scans.Text before) s) _ 1 [] (one_of 0) (newline_taken before s)))
      (ended_fresh s none);
  hyphen_fresh = λ s r none.
      subst Fresh
      (sym (next-state (code "\n") [] (reads_at scans.Hyphen s) _ (1 + 1) (codes "-" ++ []) (two_of 0)
      (then_takes (code "\n") _ _ _ 1 1 (codes "-") [] (hyphen_leads (code "\n") s) (newline_taken befores.Other s))))
      (ended_fresh s none);
  cell_fresh = λ s r e none.
      subst Fresh (sym (next-state (code "\n") [] (reads_at scans.Cell s) _ 1 [] (one_of 0) (end_taken s))) (ended_fresh s none);
}
all_said row (b ∷ bs) h =
    let later = all_said row bs (and_right (is_text b) (each is_text bs) h) in
    let other = is_not (b == code "\n") (and_left (is_text b) (each is_text bs) h) in
    record {
      text = λ before s r.
          said_from row false (scans.Text before) b bs s (taken_in ((b == code "\t") && row) row b before s r other refl) later;
      hyphen = λ s r.
          let one = taken_in ((b == code "\t") && row) row b befores.Other s r other refl in
          next-words b (bs ++ codes "\n") (reads_at scans.Hyphen s) one.next (1 + 1) (codes "-" ++ one.xs) _ (two_of 0)
          (then_takes b _ _ _ 1 1 (codes "-") one.xs (hyphen_leads b s) one.takes) refl
          ∙ ap (λ (zs : List ℕ). code "-" ∷ zs) (one.rest bs later);
      cell = λ s r e.
          said_from row true scans.Cell b bs s (cell_by (b == code "\t") (b == code " ") row b s r e other refl refl) later;
      text_fresh = λ before s r none.
          fresh_from row false (scans.Text before) b bs s (taken_in ((b == code "\t") && row) row b before s r other refl) later none;
      hyphen_fresh = λ s r none.
          let one = taken_in ((b == code "\t") && row) row b befores.Other s r other refl in
          subst Fresh
          (sym (next-state b (bs ++ codes "\n") (reads_at scans.Hyphen s) one.next (1 + 1) (codes "-" ++ one.xs) (two_of 0)
          (then_takes b _ _ _ 1 1 (codes "-") one.xs (hyphen_leads b s) one.takes)))
          (one.fresh bs later none);
      cell_fresh = λ s r e none.
          fresh_from row true scans.Cell b bs s (cell_by (b == code "\t") (b == code " ") row b s r e other refl refl) later none;
    }

-- ---- the first byte

start_offered : (b : ℕ) (s : State) → is_control b ≡ false → (b == code "\n") ≡ false → has_rows s.page.block ≡ false → (b == code " ") ≡ false
    → (b == code "\t") ≡ false
    → offer b (reads_at scans.Start s).page ≡ offered (with_scan (scans.Text (first_before b)) (after_text s.page)) (taken (acts.Begin b))
unfolding offer
start_offered b s c e r f g = rw (c, e, r, f, g) refl

row_offered : (b : ℕ) (s : State) → is_control b ≡ false → (b == code "\n") ≡ false → has_rows s.page.block ≡ true
    → offer b (reads_at scans.Start s).page ≡ offered (with_scan scans.Cell s.page) (left acts.Row)
unfolding offer
row_offered b s c e r = rw (c, e, r) refl

row_page : (p : Page) → (said (left acts.Row) p).page ≡ (lay_out acts.Row p).page
unfolding said lay_out
row_page p = refl

row_lays : (p : Page) → Lays p (lay_out acts.Row p).page
unfolding lay_out
row_lays p = (_, refl)

rowed : State → Page
rowed s = with_lay (row_lays (with_scan scans.Cell s.page)).0 s.page

row_leads : (b : ℕ) (s : State) → is_control b ≡ false → (b == code "\n") ≡ false → has_rows s.page.block ≡ true
    → Leads b (reads_at scans.Start s) (reads_at scans.Cell (with_page (rowed s) s)) 1 []
unfolding said rowed
row_leads b s c e r =
    let p = with_scan scans.Cell s.page in
    leads_by b (reads_at scans.Start s) p (with_scan scans.Cell (rowed s))
    acts.Row acts.Nothing acts.Nothing [] (row_offered b s c e r) (row_page p ∙ (row_lays p).1) refl

-- the line begins, as a row or not
record Started (b : ℕ) (s : State) : Type 0 where
  page : Page
  steps : ℕ
  few : steps ≤ 16
  takes : Takes b (reads_at scans.Start s) (reads_at (scans.Text (first_before b)) (with_page page s)) steps (b ∷ [])
  marks : page.marks ≡ s.page.marks
  block : page.block ≡ s.page.block

line_starts : (row : Bool) (b : ℕ) (s : State) → is_control b ≡ false → (b == code "\n") ≡ false → (b == code " ") ≡ false → (b == code "\t") ≡ false
    → has_rows s.page.block ≡ row → Started b s
unfolding begun said rowed
line_starts true b s c e f g r =
    let t = with_page (rowed s) s in
    record {
      page = begun b t;
      steps = 1 + 1;
      few = two_of 0;
      takes = then_takes b _ _ _ 1 1 [] (b ∷ []) (row_leads b s c e r) (cell_taken b t e g f);
      marks = refl;
      block = refl;
    }
line_starts false b s c e f g r =
    let p = with_scan (scans.Text (first_before b)) (after_text s.page) in
    record {
      page = begun b s;
      steps = 1;
      few = one_of 0;
      takes =
          takes_by b (reads_at scans.Start s) p (with_scan (scans.Text (first_before b)) (begun b s))
          (acts.Begin b) acts.Nothing acts.Nothing (b ∷ []) (start_offered b s c e r f g) (begun_page b p ∙ (begun_lays b p).1) refl;
      marks = refl;
      block = refl;
    }

pub or_left : (a b : Bool) → not (a || b) ≡ true → a ≡ false
or_left true b h = absurd (let no : false ≡ true = h in cc)
or_left false b h = refl

pub or_right : (a b : Bool) → not (a || b) ≡ true → b ≡ false
or_right true b h = absurd (let no : false ≡ true = h in cc)
or_right false b h = is_not b h

-- of what a text line begins with
record Begins (b : ℕ) : Type 0 where
  control : is_control b ≡ false
  newline : (b == code "\n") ≡ false
  blank : (b == code " ") ≡ false
  tab : (b == code "\t") ≡ false

is_begun : (b : ℕ) → begins_text b ≡ true → Begins b
is_begun b first =
    let no_end = and_right (not (is_control b)) (not (ends_word b)) first in
    let blank_or = (b == code " ") || (b == code "\t") in
    let no_blank : not blank_or ≡ true = ap not (or_left blank_or (b == code "\n") no_end) in
    record {
      control = is_not (is_control b) (and_left (not (is_control b)) (not (ends_word b)) first);
      newline = or_right blank_or (b == code "\n") no_end;
      blank = or_left (b == code " ") (b == code "\t") no_blank;
      tab = or_right (b == code " ") (b == code "\t") no_blank;
    }

begins_line : (b : ℕ) (s : State) → Begins b → Started b s
begins_line b s f = line_starts (has_rows s.page.block) b s f.control f.newline f.blank f.tab refl

pub text_is_said : TextIsSaid
text_is_said s b bs first rest strings =
    let row = has_rows s.page.block in
    let is = is_begun b first in
    let one = begins_line b s is in
    let later = all_said row bs rest in
    record {
      text = line-text (b ∷ bs) (reads_at scans.Start s) refl strings;
      words =
          next-words b (bs ++ codes "\n") (reads_at scans.Start s) _ one.steps (b ∷ []) _ one.few one.takes
          (later.text (first_before b) (with_page one.page s) (ap has_rows one.block))
          ∙ byte_said row false b bs (ap (λ (t : Bool). t && row) is.tab) (and_false (b == code " "));
    }

pub text_fresh : (b : ℕ) (bs : List ℕ) (s : State) → s.page.marks ≡ [] → begins_text b ≡ true → each is_text bs ≡ true
    → Fresh (after (reads_at scans.Start s) (b ∷ bs ++ codes "\n"))
text_fresh b bs s none first rest =
    let one = begins_line b s (is_begun b first) in
    let later = all_said (has_rows s.page.block) bs rest in
    subst Fresh (sym (next-state b (bs ++ codes "\n") (reads_at scans.Start s) _ one.steps (b ∷ []) one.few one.takes))
    (later.text_fresh (first_before b) (with_page one.page s) (ap has_rows one.block) (one.marks ∙ none))
