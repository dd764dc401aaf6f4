-- Of plain text all goes out.
use Rattle.std.proofs.Common.{◌≡◌, ℕ, zero, suc, Bool, true, false, if◌then◌else◌, List, [], ◌∷◌, ◌++◌, Option, None, Some, ℤ, refl, ap, ap₂, sym, subst, ◌∙◌, append-nil, arith}
use Rattle.nr_units.specs.Source.{Supply}
use Rattle.nr_symbol_tables.specs.Table.{find}
use Rattle.nr_store.specs.declared.register.Register.{Register}
use Rattle.nr_store.specs.Store.{is_held, set_to, register_of, written}
use Rattle.nr_reading.specs.declared.event.Event.{Event}
use Rattle.nr_reading.specs.declared.event.Event.TheVariants as events
use Rattle.nr_reading.specs.declared.mode.PendingAct.{PendingAct}
use Rattle.nr_reading.specs.declared.mode.PendingAct.TheVariants as pending_acts
use Rattle.nr_reading.specs.declared.mode.Mode.{Mode}
use Rattle.nr_reading.specs.declared.mode.Mode.TheVariants as modes
use Rattle.nr_formatter.specs.declared.formatter.Formatter.{Formatter}
use Rattle.nr_formatter.specs.declared.built_in.BuiltInRegister.{BuiltInRegister}
use Rattle.nr_formatter.specs.declared.built_in.BuiltInRegister.TheVariants as given
use Rattle.nr_formatter.specs.declared.tasks.Step.{Step}
use Rattle.nr_formatter.specs.declared.tasks.Step.TheVariants as steps
use Rattle.nr_formatter.specs.declared.tasks.Task.{Task}
use Rattle.nr_formatter.specs.declared.tasks.Task.TheVariants as tasks
use Rattle.nr_formatter.specs.Access.{collected}
use Rattle.nr_formatter.specs.BuiltIn.{given_named}
use Rattle.nr_formatter.specs.Registers.{given_set, register_set_by}
use Rattle.nr_options.specs.declared.options.Options.{Options}
use Rattle.nr_machine.specs.State.{State, Choice, First, Register as SetsRegister, choices, start}
use Rattle.nr_machine.specs.Machine.{step, state_after, choose}
use Rattle.nr_machine.specs.Printing.{text}
use Rattle.nr_machine.specs.Run.{Reads, Works, Over, kind}
use Rattle.nr_machine.specs.declared.outcome.Outcome.TheVariants.{Done}
use Rattle.nr_laws.specs.Laws.{nothing_allowed}
use Rattle.nr_laws.specs.FilledText.{text_of, FilledTextIsRows}
use Rattle.nr_laws.specs.PlainText.{squeezed, is_plain, is_plain_from, PlainTextStays, TakesAll}
use Rattle.nr_laws.proofs.OutputLaws.{text_at, over_at}
use Rattle.nr_laws.proofs.PageLists.{printing, state_after-printing}
use Rattle.nr_fill.specs.Piece.{word_pieces}
use Rattle.nr_laws.proofs.FilledLines.{rows_at}
use Rattle.nr_laws.proofs.FilledPages.{rows_shown}
use Rattle.nr_laws.proofs.FilledPieces.{rows_after}
use Rattle.nr_laws.proofs.FilledStates.{Fills, output_of, never_here}
use Rattle.nr_laws.proofs.PlainLines.{pieces_ink, word_ink}
use Rattle.nr_laws.proofs.PlainPages.{lines_ink}
use Rattle.nr_laws.proofs.PlainMoves.{fine-moves}
use Rattle.nr_laws.proofs.PlainStates.{calm, Phase, AtStart, InLead, InText, Halts, OrderlyIn, Fine, whole}

-- ---- the options are chosen

-- before the input, with these choices left
abbrev choosing : List Choice → List ℕ → Bool → State → State
choosing cs bs i s = record (calm modes.Start pending_acts.Look events.Nothing tasks.Read steps.NotYet bs i s) { chosen = cs }

-- a state that plain text leads to, the options among it
data Good (s : State) : Type 0 where
  IsFine : Fine s → Good s
  IsChoosing : (c : Choice) (cs : List Choice) (bs : List ℕ) (i : Bool) → s ≡ choosing (c ∷ cs) bs i s → is_plain_from true bs ≡ true → OrderlyIn tasks.Read steps.NotYet s → Good s

good_of : (cs : List Choice) (bs : List ℕ) (i : Bool) (t : State) → is_plain_from true bs ≡ true → OrderlyIn tasks.Read steps.NotYet t → Good (choosing cs bs i t)
good_of [] bs i t plain o =
    IsFine (record { mode = modes.Start; pending_act = pending_acts.Look; event = events.Nothing; task = tasks.Read; stage = steps.NotYet; bytes = bs; inside = i; is = refl; phase = AtStart plain; orderly = o })
good_of (c ∷ cs) bs i t plain o = IsChoosing c cs bs i refl plain o

record Leads (s t : State) : Type 0 where
  good : Good t
  same : whole t ≡ whole s
  fills : Fills s t

module _ (cs : List Choice) (bs : List ℕ) (i : Bool) (s : State) (plain : is_plain_from true bs ≡ true) (o : OrderlyIn tasks.Read steps.NotYet s) (c : Choice) where
  abbrev at : State
  at = choosing (c ∷ cs) bs i s

  -- with this formatter then
  abbrev next : Formatter → State
  next f = record at { chosen = cs; formatter = f }

  -- it is as before, but for what does not matter
  like : (t u : State) → u ≡ choosing cs bs i t → OrderlyIn tasks.Read steps.NotYet t → whole (choosing cs bs i t) ≡ whole at → Fills at (choosing cs bs i t) → Leads at u
  like t u is orderly same fills = record { good = subst Good (sym is) (good_of cs bs i t plain orderly); same = ap whole is ∙ same; fills = subst (Fills at) (sym is) fills }

  unchanged : Leads at (next at.formatter)
  unchanged = like s (next at.formatter) refl o refl (λ r p. record { reads = r; prints = p; same = refl })

  leads_if : (b : Bool) (f g : Formatter) → Leads at (next f) → Leads at (next g) → Leads at (next (if b then f else g))
  leads_if true f g first second = first
  leads_if false f g first second = second

  numbered : (n : ℤ) → Leads at (next (record at.formatter { paper = record at.formatter.paper { number = n } }))
  numbered n = like (record s { formatter = record s.formatter { paper = record s.formatter.paper { number = n } } }) (next (record at.formatter { paper = record at.formatter.paper { number = n } })) refl o refl (λ r p. record { reads = r; prints = p; same = refl })

  given_leads : (r : BuiltInRegister) (n : ℤ) → Leads at (next (given_set r n at.formatter))
  given_leads given.Page n = numbered n
  given_leads given.Height n = like (record s { formatter = record s.formatter { given = record s.formatter.given { height = n } } }) (next (given_set given.Height n at.formatter)) refl o refl (λ r p. record { reads = r; prints = p; same = refl })
  given_leads given.Width n = like (record s { formatter = record s.formatter { given = record s.formatter.given { width = n } } }) (next (given_set given.Width n at.formatter)) refl o refl (λ r p. record { reads = r; prints = p; same = refl })
  given_leads r n = unchanged

  written_leads : (x : Option Register) (name : List ℕ) → Leads at (next (record at.formatter { store = written x name at.formatter.store }))
  written_leads None name = unchanged
  written_leads (Some x) name =
      like (record s { formatter = record s.formatter { store = written (Some x) name s.formatter.store } }) (next (record at.formatter { store = written (Some x) name at.formatter.store })) refl o refl (λ r p. record { reads = r; prints = p; same = refl })

  register_leads : (r : Option BuiltInRegister) (name : List ℕ) (n : ℤ) → Leads at (next (register_set_by r name n None at.formatter))
  register_leads None name n = written_leads (set_to n None (register_of (find name s.formatter.store.registers))) name
  register_leads (Some r) name n = leads_if (is_held n) (given_set r n at.formatter) at.formatter (given_leads r n) unchanged

  choice_leads : (x : Choice) → Leads at (next (choose x at.formatter))
  choice_leads (First n) = leads_if (is_held n) (record at.formatter { paper = record at.formatter.paper { number = n } }) at.formatter (numbered n) unchanged
  choice_leads (SetsRegister name n) = register_leads (given_named (name ∷ [])) (name ∷ []) n

  chooses : Leads at (step at)
  unfolding step
  chooses = choice_leads c

-- ---- runs

good_moves : (s : State) → Good s → Leads s (step s)
good_moves s (IsFine f) = let k = fine-moves s f in record { good = IsFine k.fine; same = k.same; fills = k.fills }
good_moves s (IsChoosing c cs bs i is plain o) = subst (λ (t : State). Leads t (step t)) (sym is) (chooses cs bs i s plain o c)

good_after : (n : ℕ) (s : State) → Good s → Leads s (state_after n s)
good_after zero s g = record { good = g; same = refl; fills = λ r p. record { reads = r; prints = p; same = refl } }
good_after (suc n) s g =
    let before = good_after n s g in
    let last = good_moves (state_after n s) before.good in
    record {
      good = last.good;
      same = last.same ∙ before.same;
      fills = λ r p. (let x = before.fills r p in let y = last.fills x.reads x.prints in record { reads = y.reads; prints = y.prints; same = y.same ∙ x.same });
    }

-- ---- where the run is over, all has gone out

reads_on : Reads ≡ Over → ⊥
reads_on e = cc

works_on : Works ≡ Over → ⊥
works_on e = cc

over_by : {m : Mode} {d : PendingAct} {e : Event} {k : Task} {p : Step} {bs : List ℕ} {i : Bool} (s : State) → Phase m d e k p bs i → OrderlyIn k p s → kind (calm m d e k p bs i s) ≡ Over
    → whole (calm m d e k p bs i s) ≡ squeezed (text s.pages)
over_by s Halts o over =
    ap (λ ls. squeezed (text s.pages) ++ (lines_ink s.faces ls ++ ((pieces_ink s.faces (collected s.formatter).pieces ++ word_ink s.faces (collected s.formatter).word) ++ []))) o.closed
    ∙ ap₂ (λ ps w. squeezed (text s.pages) ++ ((pieces_ink s.faces ps ++ word_ink s.faces w) ++ [])) o.drained.0 o.drained.1 ∙ append-nil (squeezed (text s.pages))
over_by s (AtStart plain) o over = absurd (reads_on over)
over_by s (InLead n plain) o over = absurd (reads_on over)
over_by s (InText owes plain) o over = absurd (reads_on over)
over_by s phase o over = absurd (works_on over)

over_good : (s : State) → Good s → kind s ≡ Over → whole s ≡ squeezed (text s.pages)
over_good s (IsFine f) over =
    ap whole f.is ∙ over_by s f.phase f.orderly (ap kind (sym f.is) ∙ over)
over_good s (IsChoosing c cs bs i is plain o) over = absurd (works_on (ap kind (sym is) ∙ over))

-- ---- the law

-- the options but for the page list
abbrev start_of : Options → Supply → State
start_of options supply = printing None (start nothing_allowed options supply)

begins_good : (options : Options) (supply : Supply) → is_plain supply.bytes ≡ true → Good (start_of options supply)
begins_good options supply plain =
    good_of (choices options) supply.bytes false (start_of options supply) plain
    (record { clean = record { pieces = tt; word = tt }; ascends = tt; above = tt; shut = λ shut. refl; drained = tt; closed = tt })

-- the states are the same but for a page list that takes all pages
list_apart : (options : Options) (supply : Supply) → TakesAll options.select → (n : ℕ)
    → state_after n (start nothing_allowed options supply) ≡ printing options.select (state_after n (start_of options supply))
list_apart options supply all n = state_after-printing None options.select all n (start nothing_allowed options supply)

pub plain_text_stays : PlainTextStays
plain_text_stays b options supply n out plain all a =
    let s = start_of options supply in
    let g = good_after n s (begins_good options supply plain) in
    let is = list_apart options supply all n in
    let over = ap kind (sym is) ∙ over_at b options supply n out a in
    let out_is = text_at b options supply n Done out a refl ∙ ap (λ (t : State). text t.pages) is in
    ap squeezed out_is ∙ sym (over_good (state_after n s) g.good over) ∙ g.same

-- ---- filled text

-- where the run is over, nothing more comes
output_by : {m : Mode} {d : PendingAct} {e : Event} {k : Task} {p : Step} {bs : List ℕ} {i : Bool} (s : State) → Phase m d e k p bs i → OrderlyIn k p s → kind (calm m d e k p bs i s) ≡ Over
    → output_of (calm m d e k p bs i s) ≡ text s.pages
output_by s Halts o over =
    let c = collected s.formatter in
    let none : rows_after c [] ≡ [] = ap₂ (λ ps w. rows_at c.turn (ps ++ word_pieces w)) o.drained.0 o.drained.1 in
    ap₂ (λ ls rows. text s.pages ++ text_of s.faces (rows_shown ls ++ rows)) o.closed none ∙ append-nil (text s.pages)
output_by s (AtStart plain) o over = absurd (reads_on over)
output_by s (InLead n plain) o over = absurd (reads_on over)
output_by s (InText owes plain) o over = absurd (reads_on over)
output_by s phase o over = absurd (works_on over)

output_over : (s : State) → Good s → kind s ≡ Over → output_of s ≡ text s.pages
output_over s (IsFine f) over = ap output_of f.is ∙ output_by s f.phase f.orderly (ap kind (sym f.is) ∙ over)
output_over s (IsChoosing c cs bs i is plain o) over = absurd (works_on (ap kind (sym is) ∙ over))

pub filled_text_is_rows : FilledTextIsRows
filled_text_is_rows b options supply n out plain filled all a =
    let s = start_of options supply in
    let g = good_after n s (begins_good options supply plain) in
    let is = list_apart options supply all n in
    let over = ap kind (sym is) ∙ over_at b options supply n out a in
    let out_is = text_at b options supply n Done out a refl ∙ ap (λ (t : State). text t.pages) is in
    let fills = g.fills (record { goes = refl; bytes = filled; inside = λ begins. refl })
    (record { rows = tt; down = λ is_so. refl; few = omega arith; begun = λ is_so. never_here is_so; measure = λ begun. never_here (sym begun) }) in
    out_is ∙ sym (output_over (state_after n s) g.good over) ∙ fills.same
