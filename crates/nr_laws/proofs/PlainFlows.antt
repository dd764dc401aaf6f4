-- Lines of plain text go on pages, and pages begin and end: no ink is lost.
use Rattle.std.specs.Prelude.{◌/◌, ◌&&◌, min, is_none}
use Rattle.std.proofs.lemmas.Grind.{flat_map-append}
use Rattle.std.proofs.lemmas.List.{map-append}
use Rattle.std.proofs.Common.{◌≡◌, ℕ, ◌+◌, ◌-◌, ◌<◌, ◌≤◌, Bool, true, false, if◌then◌else◌, List, [], ◌∷◌, ◌++◌, refl, ap, sym, subst, ◌∙◌, append-nil, append_assoc, length-append, arith}
use Rattle.nr_vectors.specs.Cell.{trimmed}
use Rattle.nr_vectors.specs.declared.cell.Cell.{Cell}
use Rattle.nr_fill.specs.Piece.{Piece, Collected, begins_line, is_nil}
use Rattle.nr_page.specs.declared.faces.Faces.{Faces}
use Rattle.nr_page.specs.Grid.{Placed}
use Rattle.nr_page.specs.PageBytes.{page_bytes}
use Rattle.nr_settings.specs.Indents.{margins_of, first_indents}
use Rattle.nr_settings.specs.declared.indents.Indents.{Indents}
use Rattle.nr_reading.specs.declared.event.Event.TheVariants as events
use Rattle.nr_reading.specs.declared.mode.PendingAct.{PendingAct}
use Rattle.nr_reading.specs.declared.mode.Mode.{Mode}
use Rattle.nr_formatter.specs.declared.lines.Going.{Going}
use Rattle.nr_formatter.specs.declared.tasks.Step.{Step}
use Rattle.nr_formatter.specs.declared.tasks.Task.{Task}
use Rattle.nr_formatter.specs.Access.{collected, spacing}
use Rattle.nr_formatter.specs.Lines.{row_going, after_line, pieces_going, rest_after}
use Rattle.nr_formatter.specs.Pages.{task_begun, task_ended}
use Rattle.nr_formatter.specs.Places.{is_open}
use Rattle.nr_machine.specs.State.{State, Ended}
use Rattle.nr_machine.specs.Machine.{begin_page, end_page, page_of, place, offset}
use Rattle.nr_machine.specs.Printing.{bytes_of, text}
use Rattle.nr_laws.specs.FilledText.{first_margins, text_of}
use Rattle.nr_laws.specs.PlainText.{squeezed}
use Rattle.nr_laws.proofs.PlainPages.{Ascends, Above, above-more, ink, ink-trimmed, lines_ink, page-ink, squeezed-append, trimmed-twice, same_if}
use Rattle.nr_laws.proofs.PlainLines.{collected_ink, cut-ink, afterwards-clean}
use Rattle.nr_laws.proofs.FilledPages.{rows_shown, consecutive-afterwards, full-page}
use Rattle.nr_laws.proofs.FilledPieces.{rows_after}
use Rattle.nr_laws.proofs.FilledStates.{OnFilledPage, ReadsFilled, PrintsFilled, never_here}
use Rattle.nr_laws.proofs.PlainStates.{calm, Phase, Drained, Closed, OrderlyIn, Keeps, keeps}

-- ---- rows

ascends-afterwards : (k r : ℕ) (ls : List Placed) (cells : List Cell) → Ascends k ls → Above r ls → k ≤ r → Ascends k (ls ++ record { row = r; cells = cells } ∷ [])
ascends-afterwards k r [] cells up under h = (h, tt)
ascends-afterwards k r (l ∷ ls) cells up under h = (up.0, ascends-afterwards (l.row + 1) r ls cells up.1 under.1 (let x = under.0 in omega arith))

above-afterwards : (n r : ℕ) (ls : List Placed) (cells : List Cell) → Above n ls → r < n → Above n (ls ++ record { row = r; cells = cells } ∷ [])
above-afterwards n r [] cells under h = (h, tt)
above-afterwards n r (l ∷ ls) cells under h = (under.0, above-afterwards n r ls cells under.1 h)

lines_ink-afterwards : (faces : Faces) (ls : List Placed) (l : Placed) → lines_ink faces (ls ++ l ∷ []) ≡ lines_ink faces ls ++ ink faces l.cells
lines_ink-afterwards faces ls l = flat_map-append (λ (x : Placed). ink faces x.cells) ls (l ∷ []) ∙ ap (λ z. lines_ink faces ls ++ z) (append-nil (ink faces l.cells))

pub text-one : (pages : List Ended) (page : Ended) → text (pages ++ page ∷ []) ≡ text pages ++ bytes_of page
text-one pages page = flat_map-append bytes_of pages (page ∷ []) ∙ ap (λ z. text pages ++ z) (append-nil (bytes_of page))

rows_shown-afterwards : (ls : List Placed) (l : Placed) → rows_shown (ls ++ l ∷ []) ≡ rows_shown ls ++ l.cells ∷ []
rows_shown-afterwards ls l = map-append (λ (x : Placed). x.cells) ls (l ∷ [])

not_nil : (ls : List Placed) (l : Placed) → ls ++ l ∷ [] ≡ [] → false ≡ true
not_nil [] l none = ap is_nil none
not_nil (x ∷ ls) l none = ap is_nil none

pub begun_by : (ps : List Piece) (b : Bool) → is_nil ps ≡ false → (is_nil ps && b) ≡ false
begun_by [] b some = absurd (let e : true ≡ false = some in cc)
begun_by (p ∷ ps) b some = refl

module _ (m : Mode) (d : PendingAct) (k : Task) (p : Step) (bs : List ℕ) (i : Bool) (s : State) (o : OrderlyIn k p s) where
  -- what is under way
  abbrev at : State
  at = calm m d events.Nothing k p bs i s

  abbrev c : Collected
  c = collected s.formatter

  -- what is held besides the page
  abbrev held : List ℕ
  held = collected_ink s.faces c ++ ([] ++ squeezed bs)

  -- ---- a page begins

  abbrev begun : Task → State
  begun t = record (begin_page at) { formatter = record (begin_page at).formatter { task = t } }

  pub begins_page : task_begun k ≡ k → is_open s.formatter.paper.state ≡ false → Closed k [] false → Phase m d events.Nothing k p bs i → (ReadsFilled at → is_nil c.pieces ≡ false) → Keeps at (begin_page at)
  begins_page stays shut closed phase some =
      keeps at (begin_page at) (begun k) m d events.Nothing k p bs i (ap begun stays) refl phase
      (record { clean = o.clean; ascends = tt; above = tt; shut = λ never. refl; drained = o.drained; closed = closed })
      (ap (λ ls. squeezed (text s.pages) ++ (lines_ink s.faces ls ++ held)) (sym (o.shut shut)))
      (λ r f. record {
        reads = record { goes = r.goes; bytes = r.bytes; inside = r.inside };
        prints = record { rows = tt; down = λ is_so. refl; few = omega arith; begun = λ is_so none. some r; measure = f.measure };
        same = ap (λ ls. text s.pages ++ text_of s.faces (rows_shown ls ++ rows_after c bs)) (sym (o.shut shut));
      })

  -- ---- a page ends

  abbrev ended : Task → State
  ended t = record (end_page at) { formatter = record (end_page at).formatter { task = t } }

  pub ends_page : task_ended k ≡ k → Closed k [] false → Phase m d events.Nothing k p bs i → is_open s.formatter.paper.state ≡ true → 2640 ≤ s.formatter.paper.place → Keeps at (end_page at)
  ends_page stays closed phase is_open_now low =
      keeps at (end_page at) (ended k) m d events.Nothing k p bs i (ap ended stays) refl phase
      (record { clean = o.clean; ascends = tt; above = tt; shut = λ never. refl; drained = o.drained; closed = closed })
      (ap (λ z. squeezed z ++ ([] ++ held)) (text-one s.pages (page_of at))
      ∙ ap (λ z. z ++ ([] ++ held)) (squeezed-append (text s.pages) (bytes_of (page_of at)) ∙ ap (λ z. squeezed (text s.pages) ++ z) (page-ink s.faces (2640 / 40) s.lines o.ascends))
      ∙ append_assoc (squeezed (text s.pages)) (lines_ink s.faces s.lines) held)
      (λ r f. record {
        reads = record { goes = r.goes; bytes = r.bytes; inside = r.inside };
        prints = record { rows = tt; down = λ is_so. never_here is_so; few = omega arith; begun = λ is_so. never_here is_so; measure = f.measure };
        same =
            let down = f.down is_open_now in
            let few = f.few in
            let rest = rows_after c bs in
            ap (λ z. z ++ text_of s.faces rest) (text-one s.pages (page_of at)) ∙ append_assoc (text s.pages) (page_bytes s.faces 66 s.lines) (text_of s.faces rest)
            ∙ ap (λ z. text s.pages ++ z) (full-page s.faces s.lines rest f.rows (omega arith));
      })

  -- ---- a line is placed

  abbrev pub left : Going → Collected
  left g = rest_after g at.formatter

  -- the state after it, where the margins are these
  abbrev placed : Going → Indents → State
  placed g indents =
      let t = place (row_going g (offset at.formatter) at.formatter) (spacing at.formatter) (after_line g at.formatter) at in
      record t { formatter = record t.formatter { settings = record t.formatter.settings { indents = indents } } }

  -- of filled text, the row that is placed is the next of all
  abbrev pub IsNextRow : Going → Type 0
  IsNextRow g = ReadsFilled at → PrintsFilled at → rows_after c bs ≡ trimmed (row_going g (offset at.formatter) at.formatter) ∷ rows_after (left g) bs

  same_margins : (b : Bool) → c.margins ≡ first_margins → (if b then c.margins else first_margins) ≡ first_margins
  same_margins true same = same
  same_margins false same = refl

  pub places_line : (g : Going) → s.formatter.paper.place < 2640 → Drained p (left g) → is_open s.formatter.paper.state ≡ true → Closed k (placed g first_indents).lines s.formatter.paper.ejecting → Phase m d events.Nothing k p bs i
      → is_nil c.pieces ≡ false → IsNextRow g → Keeps at (place (row_going g (offset at.formatter) at.formatter) (spacing at.formatter) (after_line g at.formatter) at)
  places_line g above drained is_open_now closed phase some next =
      let n = pieces_going g c in
      let row = row_going g (offset at.formatter) at.formatter in
      let down = s.formatter.paper.place in
      let low : min (down + 40) 2147483647 / 40 - 1 ≡ down / 40 = omega arith in
      let lower : down / 40 < min (down + 40) 2147483647 / 40 = omega arith in
      let less : down / 40 ≤ min (down + 40) 2147483647 / 40 = omega arith in
      let line : List Placed = s.lines ++ record { row = down / 40; cells = trimmed row } ∷ [] in
      let lines_are : s.lines ++ record { row = min (down + 40) 2147483647 / 40 - 1; cells = trimmed row } ∷ [] ≡ line = ap (λ r. s.lines ++ record { row = r; cells = trimmed row } ∷ []) low in
      keeps at (place row (spacing at.formatter) (after_line g at.formatter) at) (placed g first_indents) m d events.Nothing k p bs i
      (ap (placed g) (same_if (begins_line (left g)) first_indents)) refl phase
      (record {
        clean = afterwards-clean (margins_of first_indents) (record { align = g.align; offset = 0 }) c n o.clean;
        ascends = subst (Ascends 0) (sym lines_are) (ascends-afterwards 0 (down / 40) s.lines (trimmed row) o.ascends o.above (omega arith));
        above = subst (Above (min (down + 40) 2147483647 / 40)) (sym lines_are)
            (above-afterwards (min (down + 40) 2147483647 / 40) (down / 40) s.lines (trimmed row) (above-more (down / 40) (min (down + 40) 2147483647 / 40) s.lines less o.above) lower);
        shut = λ no. absurd (let e : true ≡ false = sym is_open_now ∙ no in cc);
        drained = drained;
        closed = closed;
      })
      (ap (λ ls. squeezed (text s.pages) ++ (lines_ink s.faces ls ++ (collected_ink s.faces (left g) ++ ([] ++ squeezed bs)))) lines_are
      ∙ ap (λ z. squeezed (text s.pages) ++ (z ++ (collected_ink s.faces (left g) ++ ([] ++ squeezed bs)))) (lines_ink-afterwards s.faces s.lines (record { row = down / 40; cells = trimmed row }) ∙ ap (λ z. lines_ink s.faces s.lines ++ z) (ink-trimmed s.faces row))
      ∙ ap (λ z. squeezed (text s.pages) ++ z) (append_assoc (lines_ink s.faces s.lines) (ink s.faces row) (collected_ink s.faces (left g) ++ ([] ++ squeezed bs))
      ∙ ap (λ z. lines_ink s.faces s.lines ++ z) (sym (append_assoc (ink s.faces row) (collected_ink s.faces (left g)) ([] ++ squeezed bs))
      ∙ ap (λ z. z ++ ([] ++ squeezed bs)) (cut-ink s.faces (record { align = g.align; offset = 0 }) (margins_of first_indents) c n o.clean.pieces))))
      (λ r f. record {
        reads = record { goes = r.goes; bytes = r.bytes; inside = r.inside };
        prints =
            let at_place = f.down is_open_now in
            let long = length-append s.lines (record { row = down / 40; cells = trimmed row } ∷ []) in
            let filled : OnFilledPage (left g) line (min (down + 40) 2147483647) true = record {
              rows = consecutive-afterwards 0 (down / 40) s.lines (trimmed row) f.rows (trimmed-twice row) (omega arith);
              down = λ is_so. omega arith;
              few = omega arith;
              begun = λ is_so none. never_here (not_nil s.lines (record { row = down / 40; cells = trimmed row }) none);
              measure = λ begun. same_margins (begins_line (left g)) (f.measure (begun_by c.pieces (is_none c.word) some));
            } in
            subst (λ x. OnFilledPage (left g) (s.lines ++ record { row = min (down + 40) 2147483647 / 40 - 1; cells = trimmed row } ∷ []) (min (down + 40) 2147483647) x) (sym is_open_now)
            (subst (λ ls. OnFilledPage (left g) ls (min (down + 40) 2147483647) true) (sym lines_are) filled);
        same =
            let rest = rows_after (left g) bs in
            ap (λ ls. text s.pages ++ text_of s.faces (rows_shown ls ++ rest)) lines_are
            ∙ ap (λ rows. text s.pages ++ text_of s.faces rows) (ap (λ rows. rows ++ rest) (rows_shown-afterwards s.lines (record { row = down / 40; cells = trimmed row }))
            ∙ append_assoc (rows_shown s.lines) (trimmed row ∷ []) rest ∙ ap (λ rows. rows_shown s.lines ++ rows) (sym (next r f)));
      })
