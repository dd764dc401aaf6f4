-- The bytes of a line whose words are read for what they ask are not said.
use Rattle.std.proofs.Common.{◌≡◌, ℕ, ◌≤◌, ◌+◌, [], ◌∷◌, length, Bool, true, false, not, nat_lt, ◌&&◌, ◌||◌, ◌==◌, if◌then◌else◌, Option, None, Some, refl, ◌∙◌, ap, arith}
use Prim.Native.Char.{code}
use Rattle.mdoc_layout.specs.declared.acts.Act.TheVariants as acts
use Rattle.mdoc_layout.specs.declared.page.Escape.{Escape as Reached}
use Rattle.mdoc_layout.specs.declared.macros.Macro.{Macro}
use Rattle.mdoc_layout.specs.declared.macros.Macro.TheVariants as macros
use Rattle.mdoc_layout.specs.declared.page.Inside.TheVariants as insides
use Rattle.mdoc_layout.specs.declared.page.Page.{Page}
use Rattle.mdoc_layout.specs.declared.page.Scan.{Scan}
use Rattle.mdoc_layout.specs.declared.page.Scan.TheVariants as scans
use Rattle.mdoc_words.specs.Calls.{has_cells, is_item, is_pending, leaves, tab}
use Rattle.mdoc_words.specs.Rules.{is_none, takes_no_more, with_scan}
use Rattle.mdoc_words.specs.Escaping.{escape_then}
use Rattle.mdoc_words.specs.Keeping.{after_name, comment, continued, ends_escape, ends_word, in_named, in_word_of, keep, keep_begun, keep_blank, keep_byte, keep_quote, keeping, turns, whole_for}
use Rattle.mdoc_layout.specs.Columns.{is_column}
use Rattle.mdoc_words.specs.Options.{is_heading, reads_for}
use Rattle.mdoc_converter.specs.Reading.{State}
use Rattle.mdoc_converter.specs.Scanning.{offer, offer_at}
use Rattle.mdoc_layout.specs.Seeing.{Offered, offered, left, two, taken, and_taken}
use Rattle.mdoc_converter.specs.WrittenLines.{asks}
use Rattle.mdoc_converter.proofs.AskedWords.{Asking, asking_as, Leading, Taking, left_leads, taken_takes, cell_takes, given_step, kept, kept_byte, asks_shown, asks_whole}
use Rattle.mdoc_converter.proofs.ReadWords.{between_by}
use Rattle.mdoc_converter.proofs.Offering.{with_page, Takes, then_takes, takes_with}
use Rattle.mdoc_converter.proofs.Outcomes.{never}
use Rattle.mdoc_converter.proofs.WordRoom.{after_offered, named_offered, named_rest}

-- ---- between bytes

-- where such a line is read between bytes
unfoldable pub is_inside : Scan → Bool
is_inside scans.Between = true
is_inside scans.Word = true
is_inside scans.Quoted = true
is_inside scans.Closing = true
is_inside (scans.Named reached quoted) = true
is_inside scan = false

-- a byte is taken in a few steps, and the line is read further so
pub record Heard (m : Macro) (b : ℕ) (s : State) (k : ℕ) : Type 0 where
  pub next : State
  pub steps : ℕ
  pub some : 1 ≤ steps
  pub few : steps ≤ k
  pub takes : Takes b s next steps []
  pub scan : Scan
  pub at : Asking m next.page scan
  pub inside : is_inside scan ≡ true

heard_of : (m : Macro) (b : ℕ) (s : State) (k : ℕ) (scan : Scan) → 1 ≤ k → is_inside scan ≡ true → Taking m b s 1 scan → Heard m b s k
heard_of m b s k scan l i t = record { next = t.next; steps = 1; some = omega arith; few = l; takes = t.takes; scan = scan; at = t.at; inside = i }

pub heard_after : (m : Macro) (b : ℕ) (s : State) (k : ℕ) (scan : Scan) (one : Leading m b s 1 scan) → Heard m b one.next k → Heard m b s (1 + k)
heard_after m b s k scan one h = record {
  next = h.next;
  steps = 1 + h.steps;
  some = omega arith;
  few = (let few = h.few in omega arith);
  takes = then_takes b s one.next h.next 1 h.steps [] [] one.leads h.takes;
  scan = h.scan;
  at = h.at;
  inside = h.inside;
}

heard_within : (m : Macro) (b : ℕ) (s : State) (j k : ℕ) → j ≤ k → Heard m b s j → Heard m b s k
heard_within m b s j k l h =
    record { next = h.next; steps = h.steps; some = h.some; few = (let few = h.few in omega arith); takes = h.takes; scan = h.scan; at = h.at; inside = h.inside }

-- ---- one byte that is no newline and no backslash

-- in a word
pub word_offered : (b : ℕ) (p : Page) (t : Bool) → p.scan ≡ scans.Word → ends_word b ≡ t → (b == code "\\") ≡ false
    → offer b p ≡ (if t then offered (with_scan (scans.Given false) p) (left acts.Nothing) else keep_byte b false p)
unfolding offer
word_offered b p t e f g =
    ap (λ (sc : Scan). offer_at sc b p) e
    ∙ ap (λ (u : Bool). if u then offered (with_scan (scans.Given false) p) (left acts.Nothing) else if b == code "\\" then offered (with_scan scans.Escape p) (taken acts.Nothing) else keep_byte b false p) f
    ∙ ap (λ (u : Bool). if t then offered (with_scan (scans.Given false) p) (left acts.Nothing) else if u then offered (with_scan scans.Escape p) (taken acts.Nothing) else keep_byte b false p) g

pub between_offered : (m : Macro) (b : ℕ) (p : Page) → Asking m p scans.Between
    → offer b p ≡ between_by false (b == code " ") (b == code "\t") (b == code "\n") (b == code "\"") p
unfolding offer between_by
between_offered m b p at =
    ap (λ (sc : Scan). offer_at sc b p) at.scan_is
    ∙ ap (λ (t : Bool). between_by t (b == code " ") (b == code "\t") (b == code "\n") (b == code "\"") p) at.comment

begun : Scan → Page → Page
begun scan p = with_scan scan (record p { word = []; call = record p.call { width = 0 } })

begun_asking : (m : Macro) (scan from : Scan) (p : Page) → Asking m p from → Asking m (begun scan p) scan
unfolding begun
begun_asking m scan from p at = asking_as m scan p _ refl refl refl refl refl refl refl at

-- a word begins with it
word_heard : (m : Macro) (b : ℕ) (s : State) → asks m ≡ true → Asking m s.page scans.Word → ends_word b ≡ false → (b == code "\\") ≡ false → Heard m b s 1
unfolding is_inside
word_heard m b s h at e f =
    heard_of m b s 1 scans.Word (omega arith) refl
    (kept_byte m b false s s.page scans.Word h (word_offered b s.page false at.scan_is e f) at)

-- a tab ends no cell there
tab_by : Bool → Page → Offered
tab_by cells p =
    if not cells then offered p (taken acts.Cell) else
    if is_pending p then leaves p else
    if not (is_none p.marks) then offered p (two acts.Closers acts.Marks) else
    offered (takes_no_more p) (and_taken (two acts.Closers acts.Cell))

tab_is : (p : Page) → tab p ≡ tab_by (has_cells p) p
unfolding tab_by
tab_is p = refl

asks_no_item : (m : Macro) → asks m ≡ true → is_item m ≡ false
asks_no_item macros.Item h = never h
asks_no_item m h = refl

tab_asking : (m : Macro) (p : Page) → asks m ≡ true → Asking m p scans.Between → tab p ≡ offered p (taken acts.Cell)
unfolding tab_by
tab_asking m p h at =
    tab_is p ∙ ap (λ (k : Macro). tab_by (is_item k && is_column p.block.kind) p) at.line
    ∙ ap (λ (t : Bool). tab_by (t && is_column p.block.kind) p) (asks_no_item m h)

none_ends : (t u v : Bool) → t ≡ false → u ≡ false → v ≡ false → (t || u || v) ≡ false
none_ends t u v e f g = cc

pub between_heard : (t u q : Bool) (m : Macro) (b : ℕ) (s : State) → asks m ≡ true → Asking m s.page scans.Between
    → (b == code " ") ≡ t → (b == code "\t") ≡ u → (b == code "\n") ≡ false → (b == code "\"") ≡ q → (b == code "\\") ≡ false → Heard m b s 2
unfolding is_inside between_by begun
between_heard true u q m b s h at e f g i j =
    let p = s.page in
    heard_of m b s 2 scans.Between (omega arith) refl
    (taken_takes m b s p scans.Between
    (between_offered m b p at ∙ ap (λ (t : Bool). between_by false t (b == code "\t") (b == code "\n") (b == code "\"") p) e) at)
between_heard false true q m b s h at e f g i j =
    let p = s.page in
    heard_of m b s 2 scans.Between (omega arith) refl
    (cell_takes m b s p scans.Between
    (between_offered m b p at ∙ ap (λ (t : Bool). between_by false t (b == code "\t") (b == code "\n") (b == code "\"") p) e
    ∙ ap (λ (t : Bool). between_by false false t (b == code "\n") (b == code "\"") p) f ∙ tab_asking m p h at) at)
between_heard false false true m b s h at e f g i j =
    let p = s.page in
    heard_of m b s 2 scans.Quoted (omega arith) refl
    (taken_takes m b s (begun scans.Quoted p) scans.Quoted
    (between_offered m b p at ∙ ap (λ (t : Bool). between_by false t (b == code "\t") (b == code "\n") (b == code "\"") p) e
    ∙ ap (λ (t : Bool). between_by false false t (b == code "\n") (b == code "\"") p) f
    ∙ ap (λ (t : Bool). between_by false false false t (b == code "\"") p) g
    ∙ ap (λ (t : Bool). between_by false false false false t p) i)
    (begun_asking m scans.Quoted scans.Between p at))
between_heard false false false m b s h at e f g i j =
    let p = s.page in
    let one = left_leads m b s (begun scans.Word p) scans.Word
    (between_offered m b p at ∙ ap (λ (t : Bool). between_by false t (b == code "\t") (b == code "\n") (b == code "\"") p) e
    ∙ ap (λ (t : Bool). between_by false false t (b == code "\n") (b == code "\"") p) f
    ∙ ap (λ (t : Bool). between_by false false false t (b == code "\"") p) g
    ∙ ap (λ (t : Bool). between_by false false false false t p) i)
    (begun_asking m scans.Word scans.Between p at) in
    heard_after m b s 1 scans.Word one (word_heard m b one.next h one.at (none_ends (b == code " ") (b == code "\t") (b == code "\n") e f g) j)

-- a word that is whole is read for what it asks, and the byte after it is offered again
given_heard : (quoted : Bool) (m : Macro) (b : ℕ) (s : State) → asks m ≡ true → Asking m s.page (scans.Given quoted)
    → (b == code "\n") ≡ false → (b == code "\\") ≡ false → Heard m b s 3
given_heard quoted m b s h at e f =
    let one = given_step m quoted b s h at in
    heard_after m b s 2 scans.Between one
    (between_heard (b == code " ") (b == code "\t") (b == code "\"") m b one.next h one.at refl refl e refl f)

pub given_asking : (m : Macro) (quoted : Bool) (from : Scan) (p : Page) → Asking m p from → Asking m (with_scan (scans.Given quoted) p) (scans.Given quoted)
given_asking m quoted from p at = asking_as m (scans.Given quoted) p _ refl refl refl refl refl refl refl at

word_byte : (t : Bool) (m : Macro) (b : ℕ) (s : State) → asks m ≡ true → Asking m s.page scans.Word → ends_word b ≡ t
    → (b == code "\n") ≡ false → (b == code "\\") ≡ false → Heard m b s 4
word_byte true m b s h at e f g =
    let p = s.page in
    let one = left_leads m b s (with_scan (scans.Given false) p) (scans.Given false) (word_offered b p true at.scan_is e g) (given_asking m false scans.Word p at) in
    heard_after m b s 3 (scans.Given false) one (given_heard false m b one.next h one.at f g)
word_byte false m b s h at e f g = heard_within m b s 1 4 (omega arith) (word_heard m b s h at e g)

unfoldable pub quoted_rest : ℕ → Page → Offered
quoted_rest b p = if (b == code " ") && whole_for p.call.taker p then keep_blank p else keep_byte b true p

and_no : (a b : Bool) → b ≡ false → (a && b) ≡ false
and_no true b e = e
and_no false b e = refl

quoted_byte : (t : Bool) (m : Macro) (b : ℕ) (s : State) → asks m ≡ true → Asking m s.page scans.Quoted → (b == code "\"") ≡ t
    → (b == code "\n") ≡ false → (b == code "\\") ≡ false → Heard m b s 4
unfolding offer is_inside quoted_rest
quoted_byte true m b s h at e f g =
    let p = s.page in
    heard_of m b s 4 scans.Closing (omega arith) refl
    (taken_takes m b s (with_scan scans.Closing p) scans.Closing
    (ap (λ (sc : Scan). offer_at sc b p) at.scan_is
    ∙ ap (λ (t : Bool). if t then offered (with_scan scans.Closing p) (taken acts.Nothing) else if b == code "\n" then offered (with_scan (scans.Given true) p) (left acts.Nothing) else if b == code "\\" then offered (with_scan scans.QuotedEscape p) (taken acts.Nothing) else quoted_rest b p) e)
    (asking_as m scans.Closing p _ refl refl refl refl refl refl refl at))
quoted_byte false m b s h at e f g =
    let p = s.page in
    heard_of m b s 4 scans.Quoted (omega arith) refl
    (kept_byte m b true s p scans.Quoted h
    (ap (λ (sc : Scan). offer_at sc b p) at.scan_is
    ∙ ap (λ (t : Bool). if t then offered (with_scan scans.Closing p) (taken acts.Nothing) else if b == code "\n" then offered (with_scan (scans.Given true) p) (left acts.Nothing) else if b == code "\\" then offered (with_scan scans.QuotedEscape p) (taken acts.Nothing) else quoted_rest b p) e
    ∙ ap (λ (t : Bool). if t then offered (with_scan (scans.Given true) p) (left acts.Nothing) else if b == code "\\" then offered (with_scan scans.QuotedEscape p) (taken acts.Nothing) else quoted_rest b p) f
    ∙ ap (λ (t : Bool). if t then offered (with_scan scans.QuotedEscape p) (taken acts.Nothing) else quoted_rest b p) g
    ∙ ap (λ (k : Macro). if (b == code " ") && whole_for k p then keep_blank p else keep_byte b true p) at.taker
    ∙ ap (λ (t : Bool). if t then keep_blank p else keep_byte b true p)
    (and_no (b == code " ") (whole_for m p) (asks_whole m p h)))
    at)

quote_rest : Bool → Page → Offered
quote_rest full p =
    if full then offered (with_scan (scans.Long insides.Closing) p) (left acts.Nothing) else keep (code "\"") true (with_scan scans.Quoted p)

closing_byte : (t : Bool) (m : Macro) (b : ℕ) (s : State) → asks m ≡ true → Asking m s.page scans.Closing → (b == code "\"") ≡ t
    → (b == code "\n") ≡ false → (b == code "\\") ≡ false → Heard m b s 4
unfolding offer is_inside quote_rest
closing_byte true m b s h at e f g =
    let p = s.page in
    let q = with_scan scans.Quoted p in
    heard_of m b s 4 scans.Quoted (omega arith) refl
    (kept m b (code "\"") true s q scans.Quoted h
    (ap (λ (sc : Scan). offer_at sc b p) at.scan_is
    ∙ ap (λ (t : Bool). if t then keep_quote p else offered (with_scan (scans.Given true) p) (left acts.Nothing)) e
    ∙ ap (λ (k : Macro). quote_rest (not (nat_lt (length p.word) 30) && (not (reads_for k) || is_heading k)) p) at.taker
    ∙ ap (λ (t : Bool). quote_rest t p) (and_no (not (nat_lt (length p.word) 30)) (not (reads_for m) || is_heading m) (asks_shown m h)))
    (asking_as m scans.Quoted p _ refl refl refl refl refl refl refl at))
closing_byte false m b s h at e f g =
    let p = s.page in
    let one = left_leads m b s (with_scan (scans.Given true) p) (scans.Given true)
    (ap (λ (sc : Scan). offer_at sc b p) at.scan_is
    ∙ ap (λ (t : Bool). if t then keep_quote p else offered (with_scan (scans.Given true) p) (left acts.Nothing)) e)
    (given_asking m true scans.Closing p at) in
    heard_after m b s 3 (scans.Given true) one (given_heard true m b one.next h one.at f g)

-- in the name or the argument of an escape
named_taken : (t : Bool) (reached : Reached) (quoted : Bool) (m : Macro) (b : ℕ) (s : State) → asks m ≡ true → Asking m s.page (scans.Named reached quoted)
    → offer b s.page ≡ named_rest (nat_lt (length s.page.word) 30) reached quoted b s.page → nat_lt (length s.page.word) 30 ≡ t
    → Taking m b s 1 (in_named (escape_then reached b) quoted)
unfolding named_rest
named_taken true reached quoted m b s h at e room =
    let p = s.page in
    let here = in_named (escape_then reached b) quoted in
    taken_takes m b s (with_scan here (keeping (b ∷ []) p)) here (e ∙ ap (λ (t : Bool). named_rest t reached quoted b p) room)
    (asking_as m here p _ refl refl refl refl refl refl refl at)
named_taken false reached quoted m b s h at e room =
    let p = s.page in
    let here = in_named (escape_then reached b) quoted in
    taken_takes m b s (with_scan here p) here
    (e ∙ ap (λ (t : Bool). named_rest t reached quoted b p) room
    ∙ ap (λ (k : Macro). if not (reads_for k) || is_heading k then turns (scans.Long (insides.Named reached quoted)) (left acts.Nothing) p else turns here (taken acts.Nothing) p) at.taker
    ∙ ap (λ (t : Bool). if t then turns (scans.Long (insides.Named reached quoted)) (left acts.Nothing) p else turns here (taken acts.Nothing) p) (asks_shown m h))
    (asking_as m here p _ refl refl refl refl refl refl refl at)

pub inside_named : (o : Option Reached) (quoted : Bool) → is_inside (in_named o quoted) ≡ true
unfolding is_inside
inside_named None true = refl
inside_named None false = refl
inside_named (Some reached) quoted = refl

word_or_quoted : (quoted : Bool) (m : Macro) (b : ℕ) (s : State) → asks m ≡ true → Asking m s.page (in_word_of quoted)
    → (b == code "\n") ≡ false → (b == code "\\") ≡ false → Heard m b s 4
word_or_quoted true m b s h at f g = quoted_byte (b == code "\"") m b s h at refl f g
word_or_quoted false m b s h at f g = word_byte (ends_word b) m b s h at refl f g

named_byte : (t : Bool) (reached : Reached) (quoted : Bool) (m : Macro) (b : ℕ) (s : State) → asks m ≡ true → Asking m s.page (scans.Named reached quoted)
    → ends_escape b ≡ t → (b == code "\n") ≡ false → (b == code "\\") ≡ false → Heard m b s 4
named_byte true reached quoted m b s h at e f g =
    let here = in_word_of quoted in
    let p = with_scan here s.page in
    let w = word_or_quoted quoted m b (with_page p s) h (asking_as m here s.page p refl refl refl refl refl refl refl at) f g in
    record {
      next = w.next;
      steps = w.steps;
      some = w.some;
      few = w.few;
      takes = takes_with b s w.next here w.steps [] (named_offered quoted reached b s.page true at.scan_is e ∙ after_offered quoted b s.page) w.some w.takes;
      scan = w.scan;
      at = w.at;
      inside = w.inside;
    }
named_byte false reached quoted m b s h at e f g =
    heard_of m b s 4 (in_named (escape_then reached b) quoted) (omega arith) (inside_named (escape_then reached b) quoted)
    (named_taken (nat_lt (length s.page.word) 30) reached quoted m b s h at (named_offered quoted reached b s.page false at.scan_is e) refl)

pub byte_heard : (scan : Scan) (m : Macro) (b : ℕ) (s : State) → asks m ≡ true → Asking m s.page scan → is_inside scan ≡ true
    → (b == code "\n") ≡ false → (b == code "\\") ≡ false → Heard m b s 4
unfolding is_inside
byte_heard scans.Between m b s h at i f g =
    heard_within m b s 2 4 (omega arith) (between_heard (b == code " ") (b == code "\t") (b == code "\"") m b s h at refl refl f refl g)
byte_heard scans.Word m b s h at i f g = word_byte (ends_word b) m b s h at refl f g
byte_heard scans.Quoted m b s h at i f g = quoted_byte (b == code "\"") m b s h at refl f g
byte_heard scans.Closing m b s h at i f g = closing_byte (b == code "\"") m b s h at refl f g
byte_heard (scans.Named reached quoted) m b s h at i f g = named_byte (ends_escape b) reached quoted m b s h at refl f g
byte_heard scan m b s h at i f g = never i

-- ---- an escape

unfoldable pub escape_of : Bool → Scan
escape_of quoted = if quoted then scans.QuotedEscape else scans.Escape

-- its backslash is taken in a few steps
pub record Slash (m : Macro) (s : State) (k : ℕ) : Type 0 where
  pub next : State
  pub steps : ℕ
  pub few : steps ≤ k
  pub takes : Takes (code "\\") s next steps []
  pub quoted : Bool
  pub at : Asking m next.page (escape_of quoted)

slash_after : (m : Macro) (s : State) (k : ℕ) (scan : Scan) (one : Leading m (code "\\") s 1 scan) → Slash m one.next k → Slash m s (1 + k)
slash_after m s k scan one h = record {
  next = h.next;
  steps = 1 + h.steps;
  few = (let few = h.few in omega arith);
  takes = then_takes (code "\\") s one.next h.next 1 h.steps [] [] one.leads h.takes;
  quoted = h.quoted;
  at = h.at;
}

slash_within : (m : Macro) (s : State) (j k : ℕ) → j ≤ k → Slash m s j → Slash m s k
slash_within m s j k l h =
    record { next = h.next; steps = h.steps; few = (let few = h.few in omega arith); takes = h.takes; quoted = h.quoted; at = h.at }

word_slash : (m : Macro) (s : State) → Asking m s.page scans.Word → Slash m s 1
unfolding offer escape_of
word_slash m s at =
    let p = s.page in
    let t = taken_takes m (code "\\") s (with_scan scans.Escape p) scans.Escape (ap (λ (sc : Scan). offer_at sc (code "\\") p) at.scan_is)
    (asking_as m scans.Escape p _ refl refl refl refl refl refl refl at) in
    record { next = t.next; steps = 1; few = omega arith; takes = t.takes; quoted = false; at = t.at }

between_slash : (m : Macro) (s : State) → Asking m s.page scans.Between → Slash m s 2
unfolding between_by begun
between_slash m s at =
    let p = s.page in
    let one = left_leads m (code "\\") s (begun scans.Word p) scans.Word (between_offered m (code "\\") p at) (begun_asking m scans.Word scans.Between p at) in
    slash_after m s 1 scans.Word one (word_slash m one.next one.at)

named_slash : (reached : Reached) (quoted : Bool) (m : Macro) (s : State) → Asking m s.page (scans.Named reached quoted) → Slash m s 1
unfolding offer escape_of
named_slash reached true m s at =
    let p = s.page in
    let t = taken_takes m (code "\\") s (with_scan scans.QuotedEscape p) scans.QuotedEscape (ap (λ (sc : Scan). offer_at sc (code "\\") p) at.scan_is)
    (asking_as m scans.QuotedEscape p _ refl refl refl refl refl refl refl at) in
    record { next = t.next; steps = 1; few = omega arith; takes = t.takes; quoted = true; at = t.at }
named_slash reached false m s at =
    let p = s.page in
    let t = taken_takes m (code "\\") s (with_scan scans.Escape p) scans.Escape (ap (λ (sc : Scan). offer_at sc (code "\\") p) at.scan_is)
    (asking_as m scans.Escape p _ refl refl refl refl refl refl refl at) in
    record { next = t.next; steps = 1; few = omega arith; takes = t.takes; quoted = false; at = t.at }

pub slash_heard : (scan : Scan) (m : Macro) (s : State) → asks m ≡ true → Asking m s.page scan → is_inside scan ≡ true → Slash m s 4
unfolding offer is_inside escape_of quoted_rest
slash_heard scans.Between m s h at i = slash_within m s 2 4 (omega arith) (between_slash m s at)
slash_heard scans.Word m s h at i = slash_within m s 1 4 (omega arith) (word_slash m s at)
slash_heard scans.Quoted m s h at i =
    let p = s.page in
    let t = taken_takes m (code "\\") s (with_scan scans.QuotedEscape p) scans.QuotedEscape (ap (λ (sc : Scan). offer_at sc (code "\\") p) at.scan_is)
    (asking_as m scans.QuotedEscape p _ refl refl refl refl refl refl refl at) in
    record { next = t.next; steps = 1; few = omega arith; takes = t.takes; quoted = true; at = t.at }
slash_heard scans.Closing m s h at i =
    let p = s.page in
    let one = left_leads m (code "\\") s (with_scan (scans.Given true) p) (scans.Given true) (ap (λ (sc : Scan). offer_at sc (code "\\") p) at.scan_is)
    (given_asking m true scans.Closing p at) in
    let two = given_step m true (code "\\") one.next h one.at in
    slash_after m s 3 (scans.Given true) one (slash_after m one.next 2 scans.Between two (between_slash m two.next two.at))
slash_heard (scans.Named reached quoted) m s h at i = slash_within m s 1 4 (omega arith) (named_slash reached quoted m s at)
slash_heard scan m s h at i = never i

pub escape_offered : (quoted : Bool) (b : ℕ) (p : Page) → p.scan ≡ escape_of quoted → (b == code "\"") ≡ false → (b == code "\n") ≡ false → offer b p ≡ keep_begun b quoted p
unfolding offer escape_of
escape_offered true b p e f g =
    ap (λ (sc : Scan). offer_at sc b p) e
    ∙ ap (λ (t : Bool). if t then comment true p else if b == code "\n" then continued true p else keep_begun b true p) f
    ∙ ap (λ (t : Bool). if t then continued true p else keep_begun b true p) g
escape_offered false b p e f g =
    ap (λ (sc : Scan). offer_at sc b p) e
    ∙ ap (λ (t : Bool). if t then comment false p else if b == code "\n" then continued false p else keep_begun b false p) f
    ∙ ap (λ (t : Bool). if t then continued false p else keep_begun b false p) g
