-- Each move of plain text leads on, and no ink is lost.
use Rattle.std.specs.Prelude.{◌==◌, ◌&&◌, ◌/◌, nat_lt, min}
use Rattle.std.proofs.lemmas.Bool.{ltb-false}
use Rattle.std.proofs.Common.{◌≡◌, ℕ, ◌+◌, ◌-◌, ◌≤◌, Bool, true, false, if◌then◌else◌, List, [], ◌∷◌, ◌++◌, length, None, Some, refl, ap, ap₂, sym, subst, ◌∙◌, append-nil, append_assoc, arith}
use Rattle.nr_fill.specs.Piece.{Collected, is_nil, word_pieces}
use Rattle.nr_page.specs.Grid.{Placed}
use Rattle.nr_reading.specs.declared.event.Event.{Event}
use Rattle.nr_reading.specs.declared.event.Event.TheVariants as events
use Rattle.nr_reading.specs.declared.mode.PendingAct.{PendingAct}
use Rattle.nr_reading.specs.declared.mode.PendingAct.TheVariants as pending_acts
use Rattle.nr_reading.specs.declared.mode.Mode.{Mode}
use Rattle.nr_reading.specs.declared.mode.Mode.TheVariants as modes
use Rattle.nr_formatter.specs.declared.paper.PageState.{PageState}
use Rattle.nr_formatter.specs.declared.paper.PageState.TheVariants as states
use Rattle.nr_formatter.specs.declared.paper.Outlet.TheVariants as outlets
use Rattle.nr_formatter.specs.declared.tasks.After.TheVariants as afters
use Rattle.nr_formatter.specs.declared.tasks.Ejected.TheVariants as ejecteds
use Rattle.nr_formatter.specs.declared.tasks.Step.{Step}
use Rattle.nr_formatter.specs.declared.tasks.Step.TheVariants as steps
use Rattle.nr_formatter.specs.declared.tasks.Task.{Task}
use Rattle.nr_formatter.specs.declared.tasks.Task.TheVariants as tasks
use Rattle.nr_formatter.specs.declared.tasks.Then.TheVariants as thens
use Rattle.nr_formatter.specs.Access.{collected}
use Rattle.nr_formatter.specs.Lines as lines
use Rattle.nr_formatter.specs.Places.{is_open, page_outlet, to_read}
use Rattle.nr_formatter.specs.Spacing.{spaced}
use Rattle.nr_machine.specs.State.{State, plainly}
use Rattle.nr_machine.specs.Machine.{step, end_page, page_of, space_to}
use Rattle.nr_machine.specs.Printing.{bytes_of, text}
use Rattle.nr_laws.specs.FilledText.{text_of}
use Rattle.nr_laws.specs.PlainText.{squeezed, is_plain_from}
use Rattle.nr_laws.proofs.PlainPages.{above-more, lines_ink, if-true, if-false, squeezed-append, page-ink}
use Rattle.nr_laws.proofs.PlainLines.{collected_ink}
use Rattle.nr_laws.proofs.PlainReads.{text_reads, start_reads, lead_reads}
use Rattle.nr_laws.proofs.PlainHears.{byte_hears, lead_hears, leading_hears, empty_hears, end_hears, over_hears}
use Rattle.nr_laws.proofs.PlainFlows.{begins_page, ends_page, text-one}
use Rattle.nr_laws.proofs.PlainWorks.{by_bool, flows_by, breaks}
use Rattle.nr_laws.proofs.FilledLines.{rows_at}
use Rattle.nr_laws.proofs.FilledPages.{rows_shown, last-page}
use Rattle.nr_laws.proofs.FilledPieces.{rows_after}
use Rattle.nr_laws.proofs.FilledStates.{never_here}
use Rattle.nr_laws.proofs.PlainStates.{calm, Nothing, Phase, AtStart, InLead, InText, HearsByte, HearsLead, HearsLeading, HearsEmpty, HearsEnd, HearsOver, FlowsText, FlowsLine, Counts, CountsInput, BreaksEmpty, Spaces, BreaksLeading, Finishes, BreaksLast, Ejects, Halts, is_before_last, is_break, Drained, Closed, OrderlyIn, Fine, Keeps, keeps}

not_empty : (ls : List Placed) → (ls ≡ [] → false ≡ true) → 1 ≤ length ls
not_empty [] never = never_here (never refl)
not_empty (l ∷ ls) never = omega arith

module _ (s : State) where
  abbrev c : Collected
  c = collected s.formatter

  -- another task, all else as it was
  retasked : (k k' : Task) (p p' : Step) → OrderlyIn k p s → Drained p' c → Closed k' s.lines s.formatter.paper.ejecting → OrderlyIn k' p' s
  retasked k k' p p' o drained closed = record { clean = o.clean; ascends = o.ascends; above = o.above; shut = o.shut; drained = drained; closed = closed }

  -- ---- full lines go out

  flows_text : (bs : List ℕ) (i : Bool) → is_plain_from false bs ≡ true → (o : OrderlyIn (tasks.Flow afters.Text false) steps.NotYet s)
      → Keeps (calm modes.Text pending_acts.Look events.Nothing (tasks.Flow afters.Text false) steps.NotYet bs i s) (step (calm modes.Text pending_acts.Look events.Nothing (tasks.Flow afters.Text false) steps.NotYet bs i s))
  unfolding step
  flows_text bs i plain o =
      let k = tasks.Flow afters.Text false in
      let x = calm modes.Text pending_acts.Look events.Nothing k steps.NotYet bs i s in
      flows_by modes.Text pending_acts.Look k steps.NotYet bs i s o refl refl (λ ls y. tt) (FlowsText plain) (lines.flow_done afters.Text) (is_nil c.pieces) (lines.fits_line c && true) refl refl tt
      (keeps x (plainly (lines.flow_done afters.Text) x) (plainly (lines.flow_done afters.Text) x) modes.Text pending_acts.Look events.Nothing tasks.Read steps.NotYet bs i refl refl (InText Nothing plain) (retasked k tasks.Read steps.NotYet steps.NotYet o tt tt) refl
      (λ r f. record { reads = record { goes = refl; bytes = r.bytes; inside = r.inside }; prints = f; same = refl }))

  flows_line : (bs : List ℕ) (i : Bool) → is_plain_from true bs ≡ true → (o : OrderlyIn (tasks.Flow afters.Line false) steps.NotYet s)
      → Keeps (calm modes.Start pending_acts.Look events.Nothing (tasks.Flow afters.Line false) steps.NotYet bs i s) (step (calm modes.Start pending_acts.Look events.Nothing (tasks.Flow afters.Line false) steps.NotYet bs i s))
  unfolding step
  flows_line bs i plain o =
      let k = tasks.Flow afters.Line false in
      let x = calm modes.Start pending_acts.Look events.Nothing k steps.NotYet bs i s in
      flows_by modes.Start pending_acts.Look k steps.NotYet bs i s o refl refl (λ ls y. tt) (FlowsLine plain) (lines.flow_done afters.Line) (is_nil c.pieces) (lines.fits_line c && true) refl refl tt
      (keeps x (plainly (lines.flow_done afters.Line) x) (plainly (lines.flow_done afters.Line) x) modes.Start pending_acts.Look events.Nothing tasks.Count steps.NotYet bs i refl refl (Counts plain) (retasked k tasks.Count steps.NotYet steps.NotYet o tt tt) refl
      (λ r f. record { reads = record { goes = refl; bytes = r.bytes; inside = r.inside }; prints = f; same = refl }))

  counts : (bs : List ℕ) (i : Bool) → is_plain_from true bs ≡ true → (o : OrderlyIn tasks.Count steps.NotYet s)
      → Keeps (calm modes.Start pending_acts.Look events.Nothing tasks.Count steps.NotYet bs i s) (step (calm modes.Start pending_acts.Look events.Nothing tasks.Count steps.NotYet bs i s))
  unfolding step
  counts bs i plain o =
      let x = calm modes.Start pending_acts.Look events.Nothing tasks.Count steps.NotYet bs i s in
      keeps x (step x) (step x) modes.Start pending_acts.Look events.Nothing tasks.InputTrap steps.NotYet bs i refl refl (CountsInput plain) (retasked tasks.Count tasks.InputTrap steps.NotYet steps.NotYet o tt tt) refl
      (λ r f. record { reads = record { goes = refl; bytes = r.bytes; inside = r.inside }; prints = f; same = refl })

  counts_input : (bs : List ℕ) (i : Bool) → is_plain_from true bs ≡ true → (o : OrderlyIn tasks.InputTrap steps.NotYet s)
      → Keeps (calm modes.Start pending_acts.Look events.Nothing tasks.InputTrap steps.NotYet bs i s) (step (calm modes.Start pending_acts.Look events.Nothing tasks.InputTrap steps.NotYet bs i s))
  unfolding step
  counts_input bs i plain o =
      let x = calm modes.Start pending_acts.Look events.Nothing tasks.InputTrap steps.NotYet bs i s in
      keeps x (step x) (step x) modes.Start pending_acts.Look events.Nothing tasks.Read steps.NotYet bs i refl refl (AtStart plain) (retasked tasks.InputTrap tasks.Read steps.NotYet steps.NotYet o tt tt) refl
      (λ r f. record { reads = record { goes = refl; bytes = r.bytes; inside = r.inside }; prints = f; same = refl })

  -- ---- breaks

  breaks_empty : (bs : List ℕ) (i : Bool) → is_plain_from true bs ≡ true → (o : OrderlyIn (tasks.Break thens.Space) steps.NotYet s)
      → Keeps (calm modes.Start pending_acts.Look events.Nothing (tasks.Break thens.Space) steps.NotYet bs i s) (step (calm modes.Start pending_acts.Look events.Nothing (tasks.Break thens.Space) steps.NotYet bs i s))
  unfolding step
  breaks_empty bs i plain o =
      let k = tasks.Break thens.Space in
      let x = calm modes.Start pending_acts.Look events.Nothing k steps.NotYet bs i s in
      breaks modes.Start pending_acts.Look k steps.NotYet bs i s o refl refl (λ ls y. tt) (BreaksEmpty plain) thens.Space (λ r. never_here r.goes) (λ v is. tt) (λ g is. tt)
      (λ none nil. keeps x (plainly (lines.break_done thens.Space) x) (plainly (lines.break_done thens.Space) x) modes.Start pending_acts.Look events.Nothing (tasks.Space 40) steps.NotYet bs i refl refl (Spaces 40 plain) (retasked k (tasks.Space 40) steps.NotYet steps.NotYet o tt tt) refl (λ r f. never_here r.goes))

  breaks_leading : (bs : List ℕ) (i : Bool) → is_plain_from false bs ≡ true → (o : OrderlyIn (tasks.Break thens.Leading) steps.NotYet s)
      → Keeps (calm (modes.Leading 1) pending_acts.Look events.Nothing (tasks.Break thens.Leading) steps.NotYet bs i s) (step (calm (modes.Leading 1) pending_acts.Look events.Nothing (tasks.Break thens.Leading) steps.NotYet bs i s))
  unfolding step
  breaks_leading bs i plain o =
      let k = tasks.Break thens.Leading in
      let x = calm (modes.Leading 1) pending_acts.Look events.Nothing k steps.NotYet bs i s in
      breaks (modes.Leading 1) pending_acts.Look k steps.NotYet bs i s o refl refl (λ ls y. tt) (BreaksLeading plain) thens.Leading (λ r. never_here r.goes) (λ v is. tt) (λ g is. tt)
      (λ none nil. keeps x (plainly (lines.break_done thens.Leading) x) (plainly (lines.break_done thens.Leading) x) (modes.Leading 1) pending_acts.Look events.Nothing tasks.Read steps.NotYet bs i refl refl (InLead 1 plain) (retasked k tasks.Read steps.NotYet steps.NotYet o tt tt) refl (λ r f. never_here r.goes))

  breaks_last : (p : Step) → is_break p ≡ true → (o : OrderlyIn (tasks.Break thens.Finish) p s)
      → Keeps (calm modes.Start pending_acts.Look events.Nothing (tasks.Break thens.Finish) p [] false s) (step (calm modes.Start pending_acts.Look events.Nothing (tasks.Break thens.Finish) p [] false s))
  unfolding step
  breaks_last steps.FirstBreak is o =
      let k = tasks.Break thens.Finish in
      let x = calm modes.Start pending_acts.Look events.Nothing k steps.FirstBreak [] false s in
      breaks modes.Start pending_acts.Look k steps.FirstBreak [] false s o refl refl (λ ls y. tt) (BreaksLast steps.FirstBreak refl) thens.Finish (λ r. (refl, refl)) (λ v some. tt) (λ g some. tt)
      (λ none nil. keeps x (plainly (lines.break_done thens.Finish) x) (plainly (lines.break_done thens.Finish) x) modes.Start pending_acts.Look events.Nothing tasks.Finish steps.Macro [] false refl refl (Finishes steps.Macro refl) (retasked k tasks.Finish steps.FirstBreak steps.Macro o (nil, none) tt) refl
      (λ r f. record { reads = record { goes = refl; bytes = r.bytes; inside = r.inside }; prints = f; same = refl }))
  breaks_last steps.SecondBreak is o =
      let k = tasks.Break thens.Finish in
      let x = calm modes.Start pending_acts.Look events.Nothing k steps.SecondBreak [] false s in
      breaks modes.Start pending_acts.Look k steps.SecondBreak [] false s o refl refl (λ ls y. tt) (BreaksLast steps.SecondBreak refl) thens.Finish (λ r. (refl, refl))
      (λ v some. absurd (let e : None ≡ Some v = sym o.drained.1 ∙ some in cc)) (λ g some. absurd (let e : true ≡ false = ap is_nil (sym o.drained.0) ∙ some in cc))
      (λ none nil. keeps x (plainly (lines.break_done thens.Finish) x) (plainly (lines.break_done thens.Finish) x) modes.Start pending_acts.Look events.Nothing tasks.Finish steps.Diversions [] false refl refl (Finishes steps.Diversions refl) (retasked k tasks.Finish steps.SecondBreak steps.Diversions o (nil, none) tt) refl
      (λ r f. record { reads = record { goes = refl; bytes = r.bytes; inside = r.inside }; prints = f; same = refl }))
  breaks_last p is o = (let e : false ≡ true = is in cc)

  -- ---- space

  spaces_by : (n : ℕ) (bs : List ℕ) (i : Bool) → is_plain_from true bs ≡ true → (o : OrderlyIn (tasks.Space n) steps.NotYet s) → (st : PageState) → s.formatter.paper.state ≡ st
      → Keeps (calm modes.Start pending_acts.Look events.Nothing (tasks.Space n) steps.NotYet bs i s) (space_to (page_outlet st s.formatter.paper.place 2640) n (calm modes.Start pending_acts.Look events.Nothing (tasks.Space n) steps.NotYet bs i s))
  spaces_by n bs i plain o states.Unbegun is = begins_page modes.Start pending_acts.Look (tasks.Space n) steps.NotYet bs i s o refl (ap is_open is) tt (Spaces n plain) (λ r. never_here r.goes)
  spaces_by n bs i plain o states.Closed is = begins_page modes.Start pending_acts.Look (tasks.Space n) steps.NotYet bs i s o refl (ap is_open is) tt (Spaces n plain) (λ r. never_here r.goes)
  spaces_by n bs i plain o states.Open is =
      let x = calm modes.Start pending_acts.Look events.Nothing (tasks.Space n) steps.NotYet bs i s in
      let room = nat_lt s.formatter.paper.place 2640 in
      let down = s.formatter.paper.place in
      let lower : down / 40 ≤ (down + min n (2640 - down)) / 40 = omega arith in
      by_bool room (Keeps x (space_to (if room then outlets.Room else outlets.Full) n x))
      (λ is_so. subst (λ out. Keeps x (space_to out n x)) (sym (if-true room outlets.Room outlets.Full is_so))
      (keeps x (plainly (spaced n) x) (plainly (spaced n) x) modes.Start pending_acts.Look events.Nothing tasks.Read steps.NotYet bs i refl refl (AtStart plain)
      (record { clean = o.clean; ascends = o.ascends; above = above-more (down / 40) ((down + min n (2640 - down)) / 40) s.lines lower o.above; shut = o.shut; drained = tt; closed = tt }) refl (λ r f. never_here r.goes)))
      (λ other. subst (λ out. Keeps x (space_to out n x)) (sym (if-false room outlets.Room outlets.Full other))
      (ends_page modes.Start pending_acts.Look (tasks.Space n) steps.NotYet bs i s o refl tt (Spaces n plain) (ap is_open is) (ltb-false s.formatter.paper.place 2640 other)))

  spaces : (n : ℕ) (bs : List ℕ) (i : Bool) → is_plain_from true bs ≡ true → (o : OrderlyIn (tasks.Space n) steps.NotYet s)
      → Keeps (calm modes.Start pending_acts.Look events.Nothing (tasks.Space n) steps.NotYet bs i s) (step (calm modes.Start pending_acts.Look events.Nothing (tasks.Space n) steps.NotYet bs i s))
  unfolding step
  spaces n bs i plain o =
      let x = calm modes.Start pending_acts.Look events.Nothing (tasks.Space n) steps.NotYet bs i s in
      let out = space_to (page_outlet s.formatter.paper.state s.formatter.paper.place 2640) n x in
      by_bool (n == 0) (Keeps x (if n == 0 then plainly to_read x else out))
      (λ is_so. subst (Keeps x) (sym (if-true (n == 0) (plainly to_read x) out is_so))
      (keeps x (plainly to_read x) (plainly to_read x) modes.Start pending_acts.Look events.Nothing tasks.Read steps.NotYet bs i refl refl (AtStart plain) (retasked (tasks.Space n) tasks.Read steps.NotYet steps.NotYet o tt tt) refl (λ r f. never_here r.goes)))
      (λ other. subst (Keeps x) (sym (if-false (n == 0) (plainly to_read x) out other)) (spaces_by n bs i plain o s.formatter.paper.state refl))

  -- ---- the end

  finishes : (p : Step) → is_before_last p ≡ true → (o : OrderlyIn tasks.Finish p s)
      → Keeps (calm modes.Start pending_acts.Look events.Nothing tasks.Finish p [] false s) (step (calm modes.Start pending_acts.Look events.Nothing tasks.Finish p [] false s))
  unfolding step
  finishes steps.NotYet is o =
      let x = calm modes.Start pending_acts.Look events.Nothing tasks.Finish steps.NotYet [] false s in
      keeps x (step x) (step x) modes.Start pending_acts.Look events.Nothing (tasks.Break thens.Finish) steps.FirstBreak [] false refl refl (BreaksLast steps.FirstBreak refl) (retasked tasks.Finish (tasks.Break thens.Finish) steps.NotYet steps.FirstBreak o tt tt) refl
      (λ r f. record { reads = record { goes = refl; bytes = r.bytes; inside = r.inside }; prints = f; same = refl })
  finishes steps.FirstBreak is o =
      let x = calm modes.Start pending_acts.Look events.Nothing tasks.Finish steps.FirstBreak [] false s in
      keeps x (step x) (step x) modes.Start pending_acts.Look events.Nothing (tasks.Break thens.Finish) steps.FirstBreak [] false refl refl (BreaksLast steps.FirstBreak refl) (retasked tasks.Finish (tasks.Break thens.Finish) steps.FirstBreak steps.FirstBreak o tt tt) refl
      (λ r f. record { reads = record { goes = refl; bytes = r.bytes; inside = r.inside }; prints = f; same = refl })
  finishes steps.Macro is o =
      let x = calm modes.Start pending_acts.Look events.Nothing tasks.Finish steps.Macro [] false s in
      keeps x (step x) (step x) modes.Start pending_acts.Look events.Nothing tasks.Finish steps.SecondBreak [] false refl refl (Finishes steps.SecondBreak refl) (retasked tasks.Finish tasks.Finish steps.Macro steps.SecondBreak o o.drained tt) refl
      (λ r f. record { reads = record { goes = refl; bytes = r.bytes; inside = r.inside }; prints = f; same = refl })
  finishes steps.SecondBreak is o =
      let x = calm modes.Start pending_acts.Look events.Nothing tasks.Finish steps.SecondBreak [] false s in
      keeps x (step x) (step x) modes.Start pending_acts.Look events.Nothing (tasks.Break thens.Finish) steps.SecondBreak [] false refl refl (BreaksLast steps.SecondBreak refl) (retasked tasks.Finish (tasks.Break thens.Finish) steps.SecondBreak steps.SecondBreak o o.drained tt) refl
      (λ r f. record { reads = record { goes = refl; bytes = r.bytes; inside = r.inside }; prints = f; same = refl })
  finishes steps.Diversions is o =
      let x = calm modes.Start pending_acts.Look events.Nothing tasks.Finish steps.Diversions [] false s in
      keeps x (step x) (step x) modes.Start pending_acts.Look events.Nothing (tasks.Eject ejecteds.Finish) steps.LastPage [] false refl refl Ejects
      (record { clean = o.clean; ascends = o.ascends; above = o.above; shut = o.shut; drained = o.drained; closed = refl }) refl
      (λ r f. record { reads = record { goes = refl; bytes = r.bytes; inside = r.inside }; prints = f; same = refl })
  finishes steps.LastPage is o = (let e : false ≡ true = is in cc)

  ejects : (o : OrderlyIn (tasks.Eject ejecteds.Finish) steps.LastPage s)
      → Keeps (calm modes.Start pending_acts.Look events.Nothing (tasks.Eject ejecteds.Finish) steps.LastPage [] false s) (step (calm modes.Start pending_acts.Look events.Nothing (tasks.Eject ejecteds.Finish) steps.LastPage [] false s))
  unfolding step
  ejects o =
      let k = tasks.Eject ejecteds.Finish in
      let x = calm modes.Start pending_acts.Look events.Nothing k steps.LastPage [] false s in
      let open_page = is_open s.formatter.paper.state in
      let over = plainly (λ f. record f { task = tasks.Halted }) x in
      let held = collected_ink s.faces c ++ [] in
      by_bool open_page (Keeps x (step x))
      (λ is_so. keeps x (step x) (end_page x) modes.Start pending_acts.Look events.Nothing tasks.Halted steps.LastPage [] false
      (if-true (open_page && s.formatter.paper.ejecting) (end_page x) over (ap₂ (λ a b. a && b) is_so o.closed)) refl Halts
      (record { clean = o.clean; ascends = tt; above = tt; shut = λ never. refl; drained = o.drained; closed = refl })
      (ap (λ z. squeezed z ++ ([] ++ held)) (text-one s.pages (page_of x))
      ∙ ap (λ z. z ++ ([] ++ held)) (squeezed-append (text s.pages) (bytes_of (page_of x)) ∙ ap (λ z. squeezed (text s.pages) ++ z) (page-ink s.faces (2640 / 40) s.lines o.ascends))
      ∙ append_assoc (squeezed (text s.pages)) (lines_ink s.faces s.lines) held)
      (λ r f. record {
        reads = record { goes = refl; bytes = r.bytes; inside = r.inside };
        prints = record { rows = tt; down = λ is_so. never_here is_so; few = omega arith; begun = λ is_so. never_here is_so; measure = f.measure };
        same =
            let some = not_empty s.lines (λ none. sym (f.begun is_so none) ∙ ap is_nil o.drained.0) in
            let none : rows_after c [] ≡ [] = ap₂ (λ ps w. rows_at c.turn (ps ++ word_pieces w)) o.drained.0 o.drained.1 in
            let all = text (s.pages ++ page_of x ∷ []) in
            ap (λ rows. all ++ text_of s.faces rows) none ∙ append-nil all ∙ text-one s.pages (page_of x) ∙ ap (λ z. text s.pages ++ z) (last-page s.faces s.lines f.rows some f.few)
            ∙ ap (λ rows. text s.pages ++ text_of s.faces rows) (sym (ap (λ rows. rows_shown s.lines ++ rows) none ∙ append-nil (rows_shown s.lines)));
      }))
      (λ other. keeps x (step x) over modes.Start pending_acts.Look events.Nothing tasks.Halted steps.LastPage [] false
      (if-false (open_page && s.formatter.paper.ejecting) (end_page x) over (ap (λ a. a && s.formatter.paper.ejecting) other)) refl Halts
      (retasked k tasks.Halted steps.LastPage steps.LastPage o o.drained (o.shut other)) refl
      (λ r f. record { reads = record { goes = refl; bytes = r.bytes; inside = r.inside }; prints = f; same = refl }))

  -- ---- all of it

  moves : {m : Mode} {d : PendingAct} {e : Event} {k : Task} {p : Step} {bs : List ℕ} {i : Bool} → Phase m d e k p bs i → OrderlyIn k p s → Keeps (calm m d e k p bs i s) (step (calm m d e k p bs i s))
  unfolding step
  moves {bs = bs} {i = i} (AtStart plain) o = start_reads s o bs i plain
  moves {bs = bs} {i = i} (InLead n plain) o = lead_reads s o n bs i plain
  moves {bs = bs} {i = i} (InText owes plain) o = text_reads s o bs i owes plain
  moves {bs = bs} {i = i} (HearsByte b least most plain) o = byte_hears s o b bs i least most plain
  moves {d = d} {bs = bs} {i = i} (HearsLead owes plain) o = lead_hears s o d bs i owes plain
  moves {bs = bs} {i = i} (HearsLeading plain) o = leading_hears s o bs i plain
  moves {bs = bs} {i = i} (HearsEmpty plain) o = empty_hears s o bs i plain
  moves {bs = bs} {i = i} (HearsEnd plain) o = end_hears s o bs i plain
  moves HearsOver o = over_hears s o
  moves {bs = bs} {i = i} (FlowsText plain) o = flows_text bs i plain o
  moves {bs = bs} {i = i} (FlowsLine plain) o = flows_line bs i plain o
  moves {bs = bs} {i = i} (Counts plain) o = counts bs i plain o
  moves {bs = bs} {i = i} (CountsInput plain) o = counts_input bs i plain o
  moves {bs = bs} {i = i} (BreaksEmpty plain) o = breaks_empty bs i plain o
  moves {bs = bs} {i = i} (Spaces n plain) o = spaces n bs i plain o
  moves {bs = bs} {i = i} (BreaksLeading plain) o = breaks_leading bs i plain o
  moves (Finishes p is) o = finishes p is o
  moves (BreaksLast p is) o = breaks_last p is o
  moves Ejects o = ejects o
  moves Halts o =
      let x = calm modes.Start pending_acts.Look events.Nothing tasks.Halted steps.LastPage [] false s in
      keeps x x x modes.Start pending_acts.Look events.Nothing tasks.Halted steps.LastPage [] false refl refl Halts o refl
      (λ r f. record { reads = r; prints = f; same = refl })

-- a state that plain text leads to leads to another, and no ink is lost
pub fine-moves : (s : State) → Fine s → Keeps s (step s)
fine-moves s f = subst (λ (t : State). Keeps t (step t)) (sym f.is) (moves s f.phase f.orderly)
