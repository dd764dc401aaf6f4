-- Many moves, and a byte that was read and is heard: as a cell of the word, or as the blank after it.
use Prim.Native.Char.{code}
use Rattle.std.proofs.Common.{◌≡◌, ℕ, ◌+◌, Bool, true, false, [], ◌∷◌, Option, None, refl, sym, ap, ◌∙◌, subst, arith}
use Rattle.std.specs.Prelude.{if◌then◌else◌}
use Rattle.nr_fill.specs.Piece.{is_nil}
use Rattle.nr_fill.specs.Plain.{IsPlain}
use Rattle.nr_reading.specs.declared.event.Event.TheVariants as events
use Rattle.nr_reading.specs.Many.InText.{IsInText}
use Rattle.nr_reading.proofs.InText.{in_text}
use Rattle.nr_formatter.specs.Access.{collected}
use Rattle.nr_formatter.specs.Lines.{fits_line, flow_line, flow_done}
use Rattle.nr_formatter.specs.Many.Runs.{IsInLine, IsGap, gapped, gap_put, gap_flows, run_put}
use Rattle.nr_formatter.specs.declared.formatter.Formatter.{Formatter}
use Rattle.nr_formatter.specs.declared.lines.Going.{Going}
use Rattle.nr_formatter.specs.declared.tasks.After.TheVariants as afters
use Rattle.nr_formatter.specs.declared.tasks.Task.TheVariants as tasks
use Rattle.nr_formatter.proofs.PlainText.{EndsWord, ends_word, heard-gap, heard-plain}
use Rattle.nr_machine.specs.State.{State, plainly}
use Rattle.nr_machine.specs.Machine.{step, state_after, put_or}
use Rattle.nr_machine.specs.Measures.{IsWithin, passed}
use Rattle.nr_machine.specs.Run.{Goes, GoesBy, Runs, Works, kind}
use Rattle.nr_machine.proofs.Measured.{passed_none}
use Rattle.nr_machine.proofs.NextMoves.{step-hear, kind-hear, step-work, kind-work}
use Rattle.nr_machine.proofs.Standing.{state_after-add, runs-add}

-- n moves are made from s, and lead to t
pub record Glides (s : State) (n : ℕ) (t : State) : Type 0 where
  pub runs : Runs n s
  pub leads : state_after n s ≡ t

pub glides-add : (s : State) (n m : ℕ) (t u : State) → Glides s n t → Glides t m u → Glides s (n + m) u
glides-add s n m t u a b = record {
  runs = runs-add s n m a.runs (rw a.leads b.runs);
  leads = state_after-add s n m ∙ ap (state_after m) a.leads ∙ b.leads;
}

pub glides-one : (s t : State) → Goes s → step s ≡ t → Glides s 1 t
glides-one s t goes is = record {
  runs = λ k below. (let first : 0 ≡ k = omega arith in subst (λ j. Goes (state_after j s)) first goes);
  leads = is;
}

-- a move that only the formatter makes
pub glides-by : (g : Formatter → Formatter) (s : State) → kind s ≡ Works → step s ≡ plainly g s → IsWithin (plainly g s) → Glides s 1 (plainly g s)
glides-by g s works is within =
    glides-one s (plainly g s) (subst (λ k. GoesBy k s) (sym works) (ap passed is ∙ passed_none (plainly g s) within)) is

-- ---- a byte that was read

-- it is emitted
abbrev pub emitted : ℕ → State → State
emitted b t = record t { formatter = record t.formatter { event = events.Byte b } }

-- with this made of the formatter
abbrev pub made_of : (Formatter → Formatter) → State → State
made_of g t = record t { formatter = g t.formatter }

-- nothing goes out where nothing is full
none_flows : (f : Formatter) → EndsWord f → fits_line (gapped (collected f)) ≡ true → flow_line afters.Text false (gap_flows f) ≡ None
none_flows f ends fits = rw (ends.filling, fits) (either_way (is_nil (gapped (collected f)).pieces))
  where
    either_way : (b : Bool) → ◌≡◌ {A = Option Going} (if b then None else None) None
    either_way true = refl
    either_way false = refl

-- s is in front of the byte, t after it
module _ (s t : State) (b : ℕ) (chosen : t.chosen ≡ []) (line : IsInLine t.formatter) (goes : Goes s) (reads : step s ≡ emitted b t) where
  text : IsInText t.formatter.reader.half
  text = in_text t.formatter.reader.half line.half

  -- it is read and heard
  pub glides_heard : (u : State) → step (emitted b t) ≡ u → IsWithin u → Glides s 2 u
  glides_heard u is within =
      let hears = kind-hear (emitted b t) (events.Byte b) chosen line.springs refl (λ e. let wrong : ⊥ = cc in wrong) in
      let goes_on = subst (λ k. GoesBy k (emitted b t)) (sym hears) (ap passed is ∙ passed_none u within) in
      glides-add s 1 1 (emitted b t) u (glides-one s (emitted b t) goes reads) (glides-one (emitted b t) u goes_on is)

  step_plain : IsPlain b → step (emitted b t) ≡ made_of (run_put (b ∷ [])) t
  step_plain plain =
      step-hear (emitted b t) (events.Byte b) chosen line.springs refl
      ∙ ap (λ f. record t { formatter = f }) (heard-plain b (emitted b t).formatter plain text.mode line.begun)
      ∙ ap (λ e. record t { formatter = record (run_put (b ∷ []) t.formatter) { event = e } }) (sym line.event)

  -- a plain byte is a cell of the word
  pub glides_plain : IsPlain b → IsWithin (made_of (run_put (b ∷ [])) t) → Glides s 2 (made_of (run_put (b ∷ [])) t)
  glides_plain plain within = glides_heard (made_of (run_put (b ∷ [])) t) (step_plain plain) within

-- the same for a blank after a word
module _ (s t : State) (chosen : t.chosen ≡ []) (line : IsInLine t.formatter) (goes : Goes s) (reads : step s ≡ emitted (code " ") t) (gap : IsGap t.formatter) (within : IsWithin t) where
  -- what the blank makes of the line is within the limits
  pub within_gap : IsWithin (made_of gap_put t)
  within_gap = record {
    formatter = record { stored = within.formatter.stored; depth = within.formatter.depth; line = gap.within; burst = within.formatter.burst };
    page = within.page;
  }

  pub within_flows : IsWithin (made_of gap_flows t)
  within_flows = record {
    formatter = record { stored = within.formatter.stored; depth = within.formatter.depth; line = gap.within; burst = within.formatter.burst };
    page = within.page;
  }

  step_gap : step (emitted (code " ") t) ≡ made_of gap_flows t
  step_gap =
      step-hear (emitted (code " ") t) (events.Byte (code " ")) chosen line.springs refl
      ∙ ap (λ f. record t { formatter = f }) (heard-gap (emitted (code " ") t).formatter (ends_word (emitted (code " ") t).formatter gap.plain) (text s t (code " ") chosen line goes reads).mode)
      ∙ ap (λ e. record t { formatter = record (gap_flows t.formatter) { event = e } }) (sym line.event)

  -- the word ends
  pub glides_flows : Glides s 2 (made_of gap_flows t)
  glides_flows = glides_heard s t (code " ") chosen line goes reads (made_of gap_flows t) step_gap within_flows

  step_flowed : fits_line (gapped (collected t.formatter)) ≡ true → step (made_of gap_flows t) ≡ made_of gap_put t
  step_flowed fits =
      step-work (made_of gap_flows t) (tasks.Flow afters.Text false) chosen line.springs line.event refl
      ∙ ap (λ o. put_or o (flow_done afters.Text) (made_of gap_flows t)) (none_flows t.formatter (ends_word t.formatter gap.plain) fits)
      ∙ ap (λ k. record t { formatter = record (gap_put t.formatter) { task = k } }) (sym line.task)

  goes_flowed : fits_line (gapped (collected t.formatter)) ≡ true → Goes (made_of gap_flows t)
  goes_flowed fits =
      let works = kind-work (made_of gap_flows t) (tasks.Flow afters.Text false) chosen line.springs line.event refl in
      subst (λ k. GoesBy k (made_of gap_flows t)) (sym works) (ap passed (step_flowed fits) ∙ passed_none (made_of gap_put t) within_gap)

  -- and no line is full
  pub glides_gap : fits_line (gapped (collected t.formatter)) ≡ true → Glides s 3 (made_of gap_put t)
  glides_gap fits =
      glides-add s 2 1 (made_of gap_flows t) (made_of gap_put t) glides_flows (glides-one (made_of gap_flows t) (made_of gap_put t) (goes_flowed fits) (step_flowed fits))
