-- What a run over a whole text came to, said of that text.
use Rattle.std.proofs.Common.{◌≡◌, ℕ, List, [], ◌∷◌, ◌++◌, append-nil, Bool, true, false, Option, inl, inr, ap, subst, sym, ◌∙◌, refl}
use Rattle.std.proofs.lemmas.Grind.{flat_map-append}
use Rattle.nr_units.proofs.Prefixes.{AppendsPrefix-after}
use Rattle.nr_units.specs.Failures.{SinkFailures, put_counted_if}
use Rattle.nr_units.specs.Sink.{AppendsPrefix}
use Rattle.nr_units.specs.Source.{Supply}
use Rattle.nr_machine.specs.Machine.{step, state_after}
use Rattle.nr_machine.specs.Printing.{bytes_of, text}
use Rattle.nr_machine.specs.Run as run
use Rattle.nr_machine.specs.Run.{Answers}
use Rattle.nr_machine.specs.State.{Ended, State, start}
use Rattle.nr_machine.specs.declared.outcome.Measure.TheVariants as measures
use Rattle.nr_machine.specs.declared.outcome.Outcome as machine
use Rattle.nr_machine.specs.declared.outcome.Outcome.TheVariants as machines
use Rattle.document_stages.specs.Joined.{preceded}
use Rattle.document_printing.specs.declared.setup.PageEnd.{PageEnd}
use Rattle.document_printing.specs.Document.{GoesOut, Prints, Ran, Setting, TellsWrites, read_after, read_fault, state_of, tables_of, reported}

-- ---- what went out

text-one : (pages : List Ended) (page : Ended) → text (pages ++ page ∷ []) ≡ text pages ++ bytes_of page
text-one pages page = flat_map-append bytes_of pages (page ∷ []) ∙ ap (λ z. text pages ++ z) (append-nil (bytes_of page))

-- a prefix of what the next move makes of the pages
next_prefix : (s : State) (held new : Option (List ℕ)) → run.BreaksOff s held new → AppendsPrefix held new (text (step s).pages)
next_prefix s held new b =
    subst (λ (z : List ℕ). AppendsPrefix held new z) (sym (text-one s.pages b.page) ∙ sym (ap text b.ends))
    (AppendsPrefix-after held b.between new (text s.pages) (bytes_of b.page) b.ended b.prefix)

-- the moves that the formatter made
ran : (s : Setting) (source : Supply) (n : ℕ) (ended : machine.Outcome) (held new : Option (List ℕ))
    → Answers s.limits (start s.limits s.options source) n ended held new → Ran s source n ended
ran s source n ended held new a = record { runs = a.runs; allowed = a.allowed; ends = a.ends; bound = a.bound }

-- a read fault is reported after the bytes that were taken
taken_at : (most n at : ℕ) (s : State) → run.Ends most n s (machines.ReadFault at) → at ≡ s.coming.taken
taken_at most n at s ends =
    elim ends [
      | inl spent ↦ (let e : machines.ReadFault at ≡ machines.Limit measures.Moves s.coming.taken = spent.1 in cc)
      | inr stops ↦ stops.1.2
    ]

-- where the machine stopped at one, all pages until then went out
stopped : (s : Setting) (source : Supply) (n at : ℕ) (held new : Option (List ℕ))
    → Answers s.limits (start s.limits s.options source) n (machines.ReadFault at) held new
    → GoesOut s source n (read_fault s source n) held new
stopped s source n at held new a =
    let r = ran s source n (machines.ReadFault at) held new a in
    record {
      ran = subst (λ (k : ℕ). Ran s source n (machines.ReadFault k)) (taken_at s.limits.moves n at (state_of s source n) r.ends) r;
      out = a.writes;
    }

-- what the formatter answered is how the document ends
pub prints-of : (s : Setting) (source : Supply) (n : ℕ) (ended : machine.Outcome) (full : Bool) (held new : Option (List ℕ))
    → (full ≡ true → s.sets ≡ true) → Answers s.limits (start s.limits s.options source) n ended held new → Prints s source n (reported ended full) held new
prints-of s source n machines.Done full held new sets a = record { ran = ran s source n machines.Done held new a; out = a.writes }
prints-of s source n (machines.Limit which at) full held new sets a = record { ran = ran s source n (machines.Limit which at) held new a; out = a.writes }
prints-of s source n (machines.ReadFault at) true held new sets a = (sets refl, stopped s source n at held new a)
prints-of s source n (machines.ReadFault at) false held new sets a = stopped s source n at held new a
prints-of s source n machines.TooLong full held new sets a = record { ran = ran s source n machines.TooLong held new a; out = a.writes }
prints-of s source n machines.WriteFault full held new sets a = record {
  ran = ran s source n machines.WriteFault held new a;
  prefix = next_prefix (state_after n (start s.limits s.options source)) held new a.writes;
}

-- over macros and a text of the page whose tables are set, or not
pub prints-read : (s : Setting) (sets : Bool) (page : Supply) (n : ℕ) (ended : machine.Outcome) (full : Bool) (held new : Option (List ℕ))
    → s.sets ≡ sets → (full ≡ true → sets ≡ true)
    → Answers s.limits (start s.limits s.options (preceded s.macros (tables_of sets s.tables page))) n ended held new
    → Prints s (read_after s page) n (reported ended full) held new
prints-read s sets page n ended full held new is some a =
    subst (λ (b : Bool). Prints s (preceded s.macros (tables_of b s.tables page)) n (reported ended full) held new) (sym is)
    (prints-of s (preceded s.macros (tables_of sets s.tables page)) n ended full held new (λ e. is ∙ some e) a)

-- the same moves and the same outcome
pub prints-at : (s : Setting) (source : Supply) (n m : ℕ) (o p : PageEnd) (held new : Option (List ℕ))
    → n ≡ m → o ≡ p → Prints s source m p held new → Prints s source n o held new
prints-at s source n m o p held new moves outcome prints =
    subst (λ (x : PageEnd). Prints s source n x held new) (sym outcome)
    (subst (λ (x : ℕ). Prints s source x p held new) (sym moves) prints)

-- ---- faults of the output

tells : (ended : machine.Outcome) (full : Bool) (before after : SinkFailures) → after ≡ put_counted_if (run.is_write_fault ended) before
    → TellsWrites (reported ended full) before.puts after.puts
tells machines.Done full before after failed = ap (λ (f : SinkFailures). f.puts) failed
tells (machines.Limit which at) full before after failed = ap (λ (f : SinkFailures). f.puts) failed
tells (machines.ReadFault at) true before after failed = ap (λ (f : SinkFailures). f.puts) failed
tells (machines.ReadFault at) false before after failed = tt
tells machines.TooLong full before after failed = tt
tells machines.WriteFault full before after failed = ap (λ (f : SinkFailures). f.puts) failed

pub tells-of : (ended : machine.Outcome) (full : Bool) (o : PageEnd) (before after : SinkFailures) → o ≡ reported ended full
    → after ≡ put_counted_if (run.is_write_fault ended) before → TellsWrites o before.puts after.puts
tells-of ended full o before after is failed =
    subst (λ (x : PageEnd). TellsWrites x before.puts after.puts) (sym is) (tells ended full before after failed)
