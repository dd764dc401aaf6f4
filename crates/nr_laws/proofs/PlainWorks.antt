-- What is under way in plain text goes on, and no ink is lost.
use Rattle.std.specs.Prelude.{◌&&◌, not, nat_lt, is_none}
use Rattle.std.proofs.lemmas.Bool.{ltb-true, ltb-false}
use Rattle.std.proofs.Common.{◌≡◌, ℕ, Bool, true, false, if◌then◌else◌, List, [], ◌∷◌, ◌++◌, length, drop, Option, None, Some, refl, ap, sym, subst, ◌∙◌, append-nil}
use Rattle.nr_vectors.specs.Cell.{trimmed}
use Rattle.nr_vectors.specs.declared.cell.Cell.{Cell}
use Rattle.nr_settings.specs.declared.filling.Align.{Align}
use Rattle.nr_settings.specs.declared.filling.Align.TheVariants.{Left, Spread}
use Rattle.nr_settings.specs.declared.indents.Margins.{Margins}
use Rattle.nr_fill.specs.Cutting.{fits}
use Rattle.nr_fill.specs.Piece.{Piece, Word, Collected, is_nil, word_pieces, end_word, may_hyphenate}
use Rattle.nr_fill.specs.Setting.{cut_of, set_line, afterwards}
use Rattle.nr_page.specs.Grid.{Placed}
use Rattle.nr_reading.specs.declared.event.Event.TheVariants as events
use Rattle.nr_reading.specs.declared.mode.PendingAct.{PendingAct}
use Rattle.nr_reading.specs.declared.mode.Mode.{Mode}
use Rattle.nr_formatter.specs.declared.formatter.Formatter.{Formatter}
use Rattle.nr_formatter.specs.declared.lines.Going.{Going}
use Rattle.nr_formatter.specs.declared.paper.PageState.{PageState}
use Rattle.nr_formatter.specs.declared.paper.PageState.TheVariants as states
use Rattle.nr_formatter.specs.declared.paper.Outlet.TheVariants as outlets
use Rattle.nr_formatter.specs.declared.tasks.Step.{Step}
use Rattle.nr_formatter.specs.declared.tasks.Task.{Task}
use Rattle.nr_formatter.specs.declared.tasks.Then.{Then}
use Rattle.nr_formatter.specs.declared.tasks.Then.TheVariants as thens
use Rattle.nr_formatter.specs.Access.{collected}
use Rattle.nr_formatter.specs.Lines as lines
use Rattle.nr_formatter.specs.Pages.{task_begun, task_ended, is_unbegun, begins_page as begins_by, begins_first_page}
use Rattle.nr_formatter.specs.Places.{is_open, page_outlet}
use Rattle.nr_machine.specs.State.{State, plainly}
use Rattle.nr_machine.specs.Machine.{begin_page, put_line_to, put_line, put_or, break_out}
use Rattle.nr_machine.specs.Printing.{text}
use Rattle.nr_laws.specs.PlainText.{squeezed}
use Rattle.nr_laws.proofs.PlainPages.{lines_ink, if-true, if-false}
use Rattle.nr_laws.proofs.PlainLines.{end_word-ink, end_word-clean}
use Rattle.nr_laws.proofs.PlainHears.{no_field}
use Rattle.nr_laws.proofs.PlainFlows.{left, begun_by, begins_page, ends_page, places_line, IsNextRow}
use Rattle.nr_laws.specs.FilledText.{first_margins, text_of}
use Rattle.nr_laws.proofs.FilledLines.{rows_at, rows-next, rows-prefix}
use Rattle.nr_laws.proofs.FilledPages.{rows_shown}
use Rattle.nr_laws.proofs.FilledPieces.{core, pieces_after, rows_after, pieces-after, pieces_after-clean, still_begun, some_after}
use Rattle.nr_laws.proofs.FilledStates.{ReadsFilled, is_last_break, never_here}
use Rattle.nr_laws.proofs.PlainStates.{calm, Phase, Drained, Closed, OrderlyIn, Keeps, keeps}

pub by_bool : (b : Bool) → (P : Type 0) → (b ≡ true → P) → (b ≡ false → P) → P
by_bool true P first second = first refl
by_bool false P first second = second refl

module _ (m : Mode) (d : PendingAct) (k : Task) (p : Step) (bs : List ℕ) (i : Bool) (s : State) (o : OrderlyIn k p s)
    (begun : task_begun k ≡ k) (ended : task_ended k ≡ k) (closed : (ls : List Placed) (x : Bool) → Closed k ls x) (phase : Phase m d events.Nothing k p bs i) where
  abbrev at : State
  at = calm m d events.Nothing k p bs i s

  abbrev c : Collected
  c = collected s.formatter

  -- the line that goes out of what is full, and the line that a break puts
  abbrev full : Going
  full = lines.next_line true at.formatter

  abbrev going : Going
  going = lines.next_line (not (lines.fits_line c)) at.formatter

  -- ---- the next row of filled text

  other_way : (b : Bool) → (if b then Left else Spread) ≡ (if not b then Spread else Left)
  other_way true = refl
  other_way false = refl

  -- the first row of what is collected, and those of these pieces
  abbrev by_prefix : Align → Collected → List Piece → List (List Cell)
  by_prefix align x rest = set_line (record { align = align; offset = 0 }) x (cut_of x) ∷ rows_at (afterwards first_margins align x (cut_of x)).turn rest

  -- a full line, where it is as long as any
  next_full : is_nil c.pieces ≡ false → c.margins ≡ first_margins → lines.fits_line c ≡ false → rows_after c bs ≡ trimmed (lines.row_going full 0 at.formatter) ∷ rows_after (left m d k p bs i s o full) bs
  next_full some measure unfit =
      let fit : fits 65 (length c.pieces) c.pieces ≡ false = ap (λ (x : Margins). fits x.length (length c.pieces) c.pieces) (sym measure) ∙ unfit in
      let more = pieces_after (core c) bs in
      let clean = pieces_after-clean (core c) bs (record { pieces = tt; word = o.clean.word }) in
      ap (rows_at c.turn) (pieces-after c bs) ∙ rows-prefix c.turn c.pieces more some o.clean.pieces clean fit
      ∙ ap (λ (x : Margins). by_prefix Spread (record c { margins = x }) (drop (cut_of (record c { margins = x })) c.pieces ++ more)) (sym measure)
      ∙ ap (λ ps. trimmed (lines.row_going full 0 at.formatter) ∷ rows_at (left m d k p bs i s o full).turn ps) (sym (pieces-after (left m d k p bs i s o full) bs))

  -- the line of a break, with no word and nothing to come
  next_last : is_nil c.pieces ≡ false → c.margins ≡ first_margins → c.word ≡ None → rows_after c [] ≡ trimmed (lines.row_going going 0 at.formatter) ∷ rows_after (left m d k p bs i s o going) []
  next_last some measure none =
      let fit = fits 65 (length c.pieces) c.pieces in
      let row = trimmed (lines.row_going going 0 at.formatter) in
      let rest = left m d k p bs i s o going in
      ap (λ w. rows_at c.turn (c.pieces ++ word_pieces w)) none ∙ ap (rows_at c.turn) (append-nil c.pieces) ∙ rows-next c.turn c.pieces some
      ∙ ap (λ (a : Align). by_prefix a (record c { margins = first_margins }) (drop (cut_of (record c { margins = first_margins })) c.pieces)) (other_way fit)
      ∙ ap (λ (x : Margins). by_prefix (if not (fits x.length (length c.pieces) c.pieces) then Spread else Left) (record c { margins = x }) (drop (cut_of (record c { margins = x })) c.pieces)) (sym measure)
      ∙ ap (λ ps. row ∷ rows_at rest.turn ps) (sym (append-nil rest.pieces)) ∙ ap (λ w. row ∷ rows_at rest.turn (rest.pieces ++ word_pieces w)) (sym none)

  -- ---- a line goes out

  puts_by : (g : Going) → Drained p (left m d k p bs i s o g) → is_nil c.pieces ≡ false → IsNextRow m d k p bs i s o g → (st : PageState) → s.formatter.paper.state ≡ st
      → Keeps at (put_line_to (page_outlet st s.formatter.paper.place 2640) g at)
  puts_by g drained some next states.Unbegun is = begins_page m d k p bs i s o begun (ap is_open is) (closed [] false) phase (λ r. some)
  puts_by g drained some next states.Closed is = begins_page m d k p bs i s o begun (ap is_open is) (closed [] false) phase (λ r. some)
  puts_by g drained some next states.Open is =
      let room = nat_lt s.formatter.paper.place 2640 in
      by_bool room (Keeps at (put_line_to (if room then outlets.Room else outlets.Full) g at))
      (λ is_so. subst (λ out. Keeps at (put_line_to out g at)) (sym (if-true room outlets.Room outlets.Full is_so))
      (places_line m d k p bs i s o g (ltb-true s.formatter.paper.place 2640 is_so) drained (ap is_open is) (closed _ s.formatter.paper.ejecting) phase some next))
      (λ other. subst (λ out. Keeps at (put_line_to out g at)) (sym (if-false room outlets.Room outlets.Full other)) (ends_page m d k p bs i s o ended (closed [] false) phase (ap is_open is) (ltb-false s.formatter.paper.place 2640 other)))

  pub puts : (g : Going) → Drained p (left m d k p bs i s o g) → is_nil c.pieces ≡ false → IsNextRow m d k p bs i s o g → Keeps at (put_line g at)
  puts g drained some next = puts_by g drained some next s.formatter.paper.state refl

  pub flows_by : (done : Formatter → Formatter) (none fit : Bool) → is_nil c.pieces ≡ none → (lines.fits_line c && true) ≡ fit → Drained p (left m d k p bs i s o full) → Keeps at (plainly done at)
      → Keeps at (put_or (if none then None else (if fit then None else Some full)) done at)
  flows_by done true fit is too drained over = over
  flows_by done false true is too drained over = over
  flows_by done false false is too drained over = puts full drained is (λ r f. next_full is (f.measure (begun_by c.pieces (is_none c.word) is)) (unfit (lines.fits_line c) too))
    where
      unfit : (b : Bool) → (b && true) ≡ false → b ≡ false
      unfit true e = absurd (let x : true ≡ false = e in cc)
      unfit false e = refl

  -- ---- a break

  unbegun_shut : (st : PageState) (x : Bool) → (is_unbegun st && x) ≡ true → is_open st ≡ false
  unbegun_shut states.Unbegun x is = refl
  unbegun_shut states.Closed x is = refl
  unbegun_shut states.Open x is = (let e : false ≡ true = is in cc)

  nothing_left : (ps : List Piece) → is_nil ps ≡ true → ps ≡ []
  nothing_left [] is = refl
  nothing_left (x ∷ ps) is = (let e : false ≡ true = is in cc)

  -- the state with the word ended
  abbrev with_line : Collected → State
  with_line x = record at { formatter = record at.formatter { line = record at.formatter.line { collected = x } } }

  pointed : lines.pointed at.formatter ≡ c
  unfolding lines.pointed
  pointed = same (may_hyphenate c)
    where
      same : (b : Bool) → (if b then c else c) ≡ c
      same true = refl
      same false = refl

  -- with nothing to come, the word makes its pieces now or later
  word_rows : (xs : List ℕ) → xs ≡ [] → rows_after (end_word c) xs ≡ rows_after c xs
  word_rows xs none =
      subst (λ zs. rows_after (end_word c) zs ≡ rows_after c zs) (sym none) (ap (rows_at c.turn) (append-nil (c.pieces ++ word_pieces c.word)))

  word_ends : (ReadsFilled at → bs ≡ []) → Drained p (end_word c) → Keeps at (plainly lines.break_word_end at)
  word_ends last drained =
      let f = at.formatter in
      let leads : plainly lines.break_word_end at ≡ with_line (end_word c) =
      ap (λ (g : Formatter). record at { formatter = g }) (if-false (lines.reads_a_field f) (lines.field_ended f) (lines.word_ended f) (no_field c.word o.clean.word))
      ∙ ap (λ x. with_line (end_word x)) pointed in
      keeps at (plainly lines.break_word_end at) (with_line (end_word c)) m d events.Nothing k p bs i leads refl phase
      (record { clean = end_word-clean c o.clean; ascends = o.ascends; above = o.above; shut = o.shut; drained = drained; closed = o.closed })
      (ap (λ z. squeezed (text s.pages) ++ (lines_ink s.faces s.lines ++ (z ++ ([] ++ squeezed bs)))) (end_word-ink s.faces c))
      (λ r f. record {
        reads = record { goes = r.goes; bytes = r.bytes; inside = r.inside };
        prints = record {
          rows = f.rows;
          down = f.down;
          few = f.few;
          begun = λ is_so none. some_after c.pieces (word_pieces c.word) (f.begun is_so none);
          measure = λ begun. f.measure (still_begun c.pieces c.word begun);
        };
        same = ap (λ rows. text s.pages ++ text_of s.faces (rows_shown s.lines ++ rows)) (word_rows bs (last r));
      })

  -- of filled text a line is broken at the end alone
  abbrev pub IsLast : Then → Type 0
  IsLast t = ReadsFilled at → (is_last_break t ≡ true) × (bs ≡ [])

  not_first : (t : Then) (st : PageState) → is_last_break t ≡ true → (is_unbegun st && (begins_by t && true)) ≡ true → false ≡ true
  not_first thens.Finish states.Unbegun last is = is
  not_first thens.Finish states.Open last is = is
  not_first thens.Finish states.Closed last is = is
  not_first t st last is = last

  -- where no word is being read
  breaks_line : (t : Then) → c.word ≡ None → IsLast t → ((g : Going) → (is_nil c.pieces ≡ false) → Drained p (left m d k p bs i s o g)) → (c.pieces ≡ [] → Keeps at (plainly (lines.break_done t) at))
      → Keeps at (if begins_first_page t at.formatter then begin_page at else put_or (lines.break_line at.formatter) (lines.break_done t) at)
  breaks_line t none last drained done =
      let first = begins_first_page t at.formatter in
      let out = put_or (lines.break_line at.formatter) (lines.break_done t) at in
      by_bool first (Keeps at (if first then begin_page at else out))
      (λ is_so. subst (Keeps at) (sym (if-true first (begin_page at) out is_so)) (begins_page m d k p bs i s o begun (unbegun_shut s.formatter.paper.state (begins_by t && true) is_so) (closed [] false) phase (λ r. never_here (not_first t s.formatter.paper.state (last r).0 is_so))))
      (λ other. subst (Keeps at) (sym (if-false first (begin_page at) out other)) (line (is_nil c.pieces) refl))
    where
      line : (nil : Bool) → is_nil c.pieces ≡ nil → Keeps at (put_or (lines.break_line at.formatter) (lines.break_done t) at)
      line true is =
          subst (λ x. Keeps at (put_or x (lines.break_done t) at)) (sym (if-true (is_nil c.pieces) None (Some going) is)) (done (nothing_left c.pieces is))
      line false is =
          subst (λ x. Keeps at (put_or x (lines.break_done t) at)) (sym (if-false (is_nil c.pieces) None (Some going) is)) (puts going (drained going is) is (λ r f. subst (λ xs. rows_after c xs ≡ trimmed (lines.row_going going 0 at.formatter) ∷ rows_after (left m d k p bs i s o going) xs) (sym (last r).1) (next_last is (f.measure (begun_by c.pieces (is_none c.word) is)) none)))

  breaks_by : (t : Then) (w : Option Word) → c.word ≡ w → IsLast t → ((v : Word) → c.word ≡ Some v → Drained p (end_word c)) → ((g : Going) → (is_nil c.pieces ≡ false) → Drained p (left m d k p bs i s o g))
      → (c.word ≡ None → c.pieces ≡ [] → Keeps at (plainly (lines.break_done t) at)) → Keeps at (break_out t at)
  breaks_by t (Some v) is last word drained done =
      let some : not (is_none c.word) ≡ true = ap (λ x. not (is_none x)) is in
      subst (Keeps at) (sym (if-true (not (is_none c.word)) (plainly lines.break_word_end at) (if begins_first_page t at.formatter then begin_page at else put_or (lines.break_line at.formatter) (lines.break_done t) at) some))
      (word_ends (λ r. (last r).1) (word v is))
  breaks_by t None is last word drained done =
      let none : not (is_none c.word) ≡ false = ap (λ x. not (is_none x)) is in
      subst (Keeps at) (sym (if-false (not (is_none c.word)) (plainly lines.break_word_end at) (if begins_first_page t at.formatter then begin_page at else put_or (lines.break_line at.formatter) (lines.break_done t) at) none))
      (breaks_line t is last drained (done is))

  pub breaks : (t : Then) → IsLast t → ((v : Word) → c.word ≡ Some v → Drained p (end_word c)) → ((g : Going) → (is_nil c.pieces ≡ false) → Drained p (left m d k p bs i s o g))
      → (c.word ≡ None → c.pieces ≡ [] → Keeps at (plainly (lines.break_done t) at)) → Keeps at (break_out t at)
  breaks t last word drained done = breaks_by t c.word refl last word drained done
