-- Stretches of items, taken in from a place on.
use Prim.Native.Char.{code}
use Rattle.std.specs.Prelude.{slice_get, ◌==◌, ◌||◌, not}
use Rattle.std.specs.Int.{from_bool}
use Rattle.std.proofs.lemmas.Bool.{ne_eqb, not-true, eqb-true}
use Rattle.std.proofs.lemmas.Option.{slice_get_past}
use Rattle.std.proofs.Common.{◌≡◌, ℕ, ◌+◌, ◌<◌, ◌≤◌, Bool, true, false, List, [], length, Some, inl, inr, ◌⊎◌, refl, sym, subst, ap, ◌∙◌, arith}
use Rattle.nr_reading.specs.declared.ask.Ask.{Ask}
use Rattle.nr_reading.specs.declared.event.Event.{Event}
use Rattle.nr_reading.specs.declared.event.Event.TheVariants as events
use Rattle.nr_reading.specs.declared.next_item.NextItem.{NextItem}
use Rattle.nr_reading.specs.declared.next_item.NextItem.TheVariants as next_items
use Rattle.nr_reading.specs.declared.half.Half.{Half}
use Rattle.nr_reading.specs.declared.half.Seen.{Seen}
use Rattle.nr_reading.specs.declared.mode.PendingAct.{PendingAct}
use Rattle.nr_reading.specs.declared.mode.PendingAct.TheVariants as pending_acts
use Rattle.nr_reading.specs.declared.mode.Escape.{Escape}
use Rattle.nr_reading.specs.declared.mode.Escape.TheVariants as escapes
use Rattle.nr_reading.specs.declared.mode.Mode.{Mode}
use Rattle.nr_reading.specs.declared.mode.Mode.TheVariants as modes
use Rattle.nr_reading.specs.declared.mode.Signs.{Signs}
use Rattle.nr_reading.specs.declared.notes.Notes.{Notes}
use Rattle.nr_reading.specs.declared.many.runs.Run.{Run}
use Rattle.nr_reading.specs.Half.{take_in, taken_in, reads_next, reads_next_at, reads_plainly}
use Rattle.nr_reading.specs.Many.Passing.{quiet}
use Rattle.nr_reading.specs.Delimited.{Texts}
use Rattle.nr_reading.specs.Many.Stretch.{LeadsOn, TakesInRest, drops_blank}
use Rattle.nr_reading.specs.Spelled.{is_blank}
use Rattle.nr_reading.specs.Many.Runs.{HasTakenIn, spot}
use Rattle.nr_reading.proofs.Asked.{half_at}
use Rattle.nr_reading.proofs.Moving.{taken_in_counted}
use Rattle.nr_reading.proofs.Paying.{pays_for}
use Rattle.nr_reading.proofs.Weighing.{at}

-- the next byte does this
abbrev pub TakesInByte : ℕ → Half → Half → Event → Bool → Type 0
TakesInByte b h k e takes = take_in (next_items.Byte b) h ≡ record { half = k; event = e; takes = takes }

-- where an item is read next, after no part of an escape, in this mode
pub standing : (m : Mode) (h : Half) → h.reading.mode ≡ m → reads_next h ≡ true → h ≡ half_at (at m escapes.Plain h.reading.continued h.reading.no_break) h.signs [] h.delimited h.notes
standing m h mode next = by h.reading.pending_act h.asks h.reading.escape h.reading.mode mode next
  where
    by : (x : PendingAct) (asks : List Ask) (e : Escape) (k : Mode) → k ≡ m → reads_next_at x asks e ≡ true
        → half_at (record { mode = k; escape = e; pending_act = x; continued = h.reading.continued; no_break = h.reading.no_break }) h.signs asks h.delimited h.notes
        ≡ half_at (at m escapes.Plain h.reading.continued h.reading.no_break) h.signs [] h.delimited h.notes
    by pending_acts.Look [] escapes.Plain k mode next = rw mode refl
    by x asks e k mode next = absurd (let wrong : false ≡ true = next in cc)

pub looks : (h : Half) → reads_next h ≡ true → h.reading.pending_act ≡ pending_acts.Look
looks h next = by h.reading.pending_act h.asks h.reading.escape next
  where
    by : (x : PendingAct) (asks : List Ask) (e : Escape) → reads_next_at x asks e ≡ true → x ≡ pending_acts.Look
    by pending_acts.Look asks e next = refl
    by x asks e next = absurd (let wrong : false ≡ true = next in cc)

pub nothing_taken_in : (fs : List NextItem) (h : Half) → HasTakenIn 0 fs h (quiet 0 h)
nothing_taken_in fs h = record { leads = refl; goes = λ k few. absurd (omega (arith, few)); within = omega arith; pays = omega arith; tells = refl }

-- ---- places of a stretch

module _ (fs : List NextItem) (from made : ℕ) where
  pub stays : (h : Half) → LeadsOn fs from made h from made h
  stays h = record { taken_in = λ k has. has }

  -- one byte more, which is taken or left, whatever it tells
  one_more : (to moves b : ℕ) (old mid new : Half) (e : Event) (takes : Bool) (more : ℕ) → LeadsOn fs from made old to moves mid → to < length fs → mid.reading.pending_act ≡ pending_acts.Look → slice_get fs to ≡ Some (next_items.Byte b) → TakesInByte b mid new e takes
      → more ≡ from_bool takes → (h : Half) → HasTakenIn made fs h (quiet from old) → HasTakenIn (moves + 1) fs h (record { taken = to + more; half = new; event = e })
  one_more to moves b old mid new e takes more leads within look some takes_in is h has =
      taken_in_counted moves to more b fs h mid new (record { event = e; takes = takes }) (leads.taken_in h has) within look some (sym takes_in)
      (pays_for (next_items.Byte b) mid new (record { event = e; takes = takes }) (sym takes_in) look) is

  pub taken_more : (to moves b : ℕ) (old mid new : Half) → LeadsOn fs from made old to moves mid → to < length fs → mid.reading.pending_act ≡ pending_acts.Look → slice_get fs to ≡ Some (next_items.Byte b) → TakesInByte b mid new events.Nothing true
      → LeadsOn fs from made old (to + 1) (moves + 1) new
  taken_more to moves b old mid new leads within look some takes_in = record { taken_in = one_more to moves b old mid new events.Nothing true 1 leads within look some takes_in refl }

  pub left_more : (to moves b : ℕ) (old mid new : Half) → LeadsOn fs from made old to moves mid → to < length fs → mid.reading.pending_act ≡ pending_acts.Look → slice_get fs to ≡ Some (next_items.Byte b) → TakesInByte b mid new events.Nothing false
      → LeadsOn fs from made old to (moves + 1) new
  left_more to moves b old mid new leads within look some takes_in =
      let none : to + 0 ≡ to = omega arith in
      subst (λ t. LeadsOn fs from made old t (moves + 1) new) none (record { taken_in = one_more to moves b old mid new events.Nothing false 0 leads within look some takes_in refl })

  -- the last byte tells something, or something is pending after it
  pub taken_last : (to moves b : ℕ) (old mid new : Half) (e : Event) → LeadsOn fs from made old to moves mid → to < length fs → mid.reading.pending_act ≡ pending_acts.Look → slice_get fs to ≡ Some (next_items.Byte b) → TakesInByte b mid new e true
      → moves < 65536 → (e ≡ events.Nothing → new.reading.pending_act ≡ pending_acts.Look → ⊥) → TakesInRest fs from made old (record { taken = to + 1; moves = moves + 1; event = e }) new
  taken_last to moves b old mid new e leads within look some takes_in few stops = record {
    taken_in = one_more to moves b old mid new e true 1 leads within look some takes_in refl;
    few = omega (arith, few);
    longest = λ silent pending_act. absurd (stops silent pending_act);
  }

  pub left_last : (to moves b : ℕ) (old mid new : Half) (e : Event) → LeadsOn fs from made old to moves mid → to < length fs → mid.reading.pending_act ≡ pending_acts.Look → slice_get fs to ≡ Some (next_items.Byte b) → TakesInByte b mid new e false
      → moves < 65536 → (e ≡ events.Nothing → new.reading.pending_act ≡ pending_acts.Look → ⊥) → TakesInRest fs from made old (record { taken = to; moves = moves + 1; event = e }) new
  left_last to moves b old mid new e leads within look some takes_in few stops =
      let none : to + 0 ≡ to = omega arith in
      subst (λ t. TakesInRest fs from made old (record { taken = t; moves = moves + 1; event = e }) new) none (record {
        taken_in = one_more to moves b old mid new e false 0 leads within look some takes_in refl;
        few = omega (arith, few);
        longest = λ silent pending_act. absurd (stops silent pending_act);
      })

  -- one place is led to from another
  pub leads_after : (to moves to' moves' : ℕ) (old mid new : Half) → LeadsOn fs from made old to moves mid → LeadsOn fs to moves mid to' moves' new → LeadsOn fs from made old to' moves' new
  leads_after to moves to' moves' old mid new leads more = record { taken_in = λ h has. more.taken_in h (leads.taken_in h has) }

  -- a byte that was taken in leads on, where it tells nothing
  pub leads_taken_in : (to moves more b : ℕ) (old mid now new : Half) (seen : Seen) → LeadsOn fs from made old to moves mid → now ≡ mid → to < length fs → mid.reading.pending_act ≡ pending_acts.Look → slice_get fs to ≡ Some (next_items.Byte b)
      → taken_in new seen ≡ take_in (next_items.Byte b) now → more ≡ from_bool seen.takes → seen.event ≡ events.Nothing → LeadsOn fs from made old (to + more) (moves + 1) new
  leads_taken_in to moves more b old mid now new seen leads same within look some takes_in is silent =
      let takes_in_mid = takes_in ∙ ap (take_in (next_items.Byte b)) same in
      record {
        taken_in = λ h has. subst (λ e. HasTakenIn (moves + 1) fs h (record { taken = to + more; half = new; event = e })) silent
            (taken_in_counted moves to more b fs h mid new seen (leads.taken_in h has) within look some takes_in_mid (pays_for (next_items.Byte b) mid new seen takes_in_mid look) is);
      }

  -- after a place that was led to the rest is taken in
  pub rest_after : (to moves : ℕ) (old mid new : Half) (run : Run) → LeadsOn fs from made old to moves mid → TakesInRest fs to moves mid run new → TakesInRest fs from made old run new
  rest_after to moves old mid new run leads rest = record { taken_in = λ h has. rest.taken_in h (leads.taken_in h has); few = rest.few; longest = rest.longest }

  -- nothing is left to meet
  pub ends_here : (to moves : ℕ) (old mid : Half) → LeadsOn fs from made old to moves mid → moves ≤ 65536 → length fs ≤ to → TakesInRest fs from made old (record { taken = to; moves = moves; event = events.Nothing }) mid
  ends_here to moves old mid leads few past = record {
    taken_in = leads.taken_in;
    few = few;
    longest = λ silent pending_act less byte some. let none = slice_get_past fs to past in let wrong = sym none ∙ some in absurd cc;
  }

pub taken_in_here : (fs : List NextItem) (h new : Half) (run : Run) → TakesInRest fs 0 0 h run new → HasTakenIn run.moves fs h (spot run new)
taken_in_here fs h new run rest = rest.taken_in h (nothing_taken_in fs h)

-- with nothing pending, and no part of an escape half read
pub looking_next : (h : Half) → h.reading.pending_act ≡ pending_acts.Look → reads_plainly h ≡ true → reads_next h ≡ true
looking_next h pending_act plain = rw pending_act plain

-- a byte of which a test holds is no other of which it doesn't
pub apart_from : (test : ℕ → Bool) (b c : ℕ) → test b ≡ true → test c ≡ false → (b == c) ≡ false
apart_from test b c is not = ne_eqb b c (λ e. absurd (let wrong : false ≡ true = sym not ∙ ap test (sym e) ∙ is in cc))

-- the same, counted otherwise
pub recount : (fs : List NextItem) (from made : ℕ) (to to' moves moves' : ℕ) (old new : Half) → LeadsOn fs from made old to moves new → to ≡ to' → moves ≡ moves' → LeadsOn fs from made old to' moves' new
recount fs from made to to' moves moves' old new leads place count = subst (λ m. LeadsOn fs from made old to' m new) count (subst (λ t. LeadsOn fs from made old t moves new) place leads)

-- ---- blanks

-- one literal blank or the other
blank_is : (b : ℕ) → is_blank b ≡ true → (b ≡ code " ") ⊎ (b ≡ code "\t")
blank_is b is = by (b == code " ") (b == code "\t") refl refl is
  where
    by : (x y : Bool) → (b == code " ") ≡ x → (b == code "\t") ≡ y → (x || y) ≡ true → (b ≡ code " ") ⊎ (b ≡ code "\t")
    by true y p q is = inl (eqb-true b (code " ") p)
    by false true p q is = inr (eqb-true b (code "\t") q)
    by false false p q is = absurd (let wrong : false ≡ true = is in cc)

module _ (c n : Bool) (s : Signs) (d : Texts) (o : Notes) where
  blank_dropped : (m : Mode) (b : ℕ) → drops_blank m o.condition ≡ true → is_blank b ≡ true → TakesInByte b (half_at (at m escapes.Plain c n) s [] d o) (half_at (at m escapes.Plain c n) s [] d o) events.Nothing true
  blank_dropped modes.RequestBlanks b drops is = elim (blank_is b is) [ inl e ↦ rw e refl | inr e ↦ rw e refl ]
  blank_dropped modes.MacroBlanks b drops is = elim (blank_is b is) [ inl e ↦ rw e refl | inr e ↦ rw e refl ]
  blank_dropped modes.StringBefore b drops is = elim (blank_is b is) [ inl e ↦ rw e refl | inr e ↦ rw e refl ]
  blank_dropped modes.StringBlanks b drops is = elim (blank_is b is) [ inl e ↦ rw e refl | inr e ↦ rw e refl ]
  blank_dropped modes.Accepted b drops is = elim (blank_is b is) [ inl e ↦ rw e refl | inr e ↦ rw e refl ]
  blank_dropped modes.Condition b drops is = let plain = not-true o.condition.negated drops in elim (blank_is b is) [ inl e ↦ rw (e, plain) refl | inr e ↦ rw (e, plain) refl ]
  blank_dropped m b drops is = absurd (let wrong : false ≡ true = drops in cc)

pub take_in-blank : (b : ℕ) (h : Half) → reads_next h ≡ true → drops_blank h.reading.mode h.notes.condition ≡ true → is_blank b ≡ true → TakesInByte b h h events.Nothing true
take_in-blank b h next drops is =
    subst (λ (k : Half). TakesInByte b k k events.Nothing true) (sym (standing h.reading.mode h refl next))
    (blank_dropped h.reading.continued h.reading.no_break h.signs h.delimited h.notes h.reading.mode b drops is)
