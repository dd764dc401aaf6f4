-- A move that is made leads to a state within all limits.
use Rattle.std.specs.Prelude.{nat_le, nat_lt, drop, is_some}
use Rattle.std.specs.Option.{option_and_then}
use Rattle.std.proofs.lemmas.Bool.{le-ltb, ltb-false, leb-false}
use Rattle.std.proofs.lemmas.List.Sums.{sum_by-cons, sum_by_push}
use Rattle.std.proofs.Common.{◌≡◌, ◌≢◌, ℕ, ◌+◌, ◌<◌, ◌≤◌, ◌==◌, Bool, true, false, if◌then◌else◌, List, [], ◌∷◌, ◌++◌, length, sum_by, Option, None, Some, Result, Ok, Err, refl, sym, subst, ap, ◌∙◌, arith}
use Rattle.nr_fill.specs.Piece.{line_cells}
use Rattle.nr_page.specs.Grid.{page_charge}
use Rattle.nr_symbol_tables.specs.Table.{Named as TheNamed, find, put}
use Rattle.nr_levels.specs.Gathering.{Gathered, gathered_len}
use Rattle.nr_store.specs.Store.{Stored, Level, Read, Mark, Reading, Shared, charge_of, level_charge, text_charge, mark_of, words, entered, called, ungathered, written, gone_on, shown, left, left_of, reading_bytes, register_of, Built, Means, Words, defined, named_newest, is_named, loose, renamed_by, without_name, weight, weight_of}
use Rattle.nr_store.specs.declared.element.Element.{Element}
use Rattle.nr_store.specs.declared.named.Meaning.{Meaning}
use Rattle.nr_store.specs.declared.named.Meaning.TheVariants as meanings
use Rattle.nr_store.specs.declared.register.Register.{Register}
use Rattle.nr_store.proofs.Besides.{put_length}
use Rattle.nr_store.proofs.Naming.{sum_of, put_sum, put_sum_new}
use Rattle.nr_levels.specs.Levels.{argument}
use Rattle.nr_reading.specs.Half.{TakenIn, take_in}
use Rattle.nr_reading.specs.declared.ask.Sign.TheVariants as signs
use Rattle.nr_reading.specs.declared.mode.PendingAct.{PendingAct}
use Rattle.nr_reading.specs.declared.mode.PendingAct.TheVariants as pending_acts
use Rattle.nr_input.specs.Acting.{act, name_in, after_meaning, meaning_in, register_text, expanded, idle}
use Rattle.nr_input.specs.Moving.{Situation, looks, look, taken_at, stays_at, acted_at, answer_at, move as input_move}
use Rattle.nr_input.specs.Moving as input
use Rattle.nr_input.specs.Place.{next_item}
use Rattle.nr_input.specs.Refusal.{answer, storing_by, splicing_answer}
use Rattle.nr_input.specs.declared.reader.Reader.{Reader}
use Rattle.nr_input.specs.declared.refusal.Refusal.{Refusal}
use Rattle.nr_input.specs.declared.emitted.Emitted.{Emitted}
use Rattle.nr_input.specs.declared.emitted.Emitted.TheVariants as tells
use Rattle.nr_formatter.specs.Access.{collected}
use Rattle.nr_formatter.specs.Limits as formatter
use Rattle.nr_formatter.specs.declared.formatter.Formatter.{Formatter}
use Rattle.nr_formatter.specs.declared.tasks.Resume.{Resume}
use Rattle.nr_machine.specs.State.{State}
use Rattle.nr_machine.specs.Machine.{step, emitted, situation_of, with_situation}
use Rattle.nr_machine.specs.Measures.{IsWithin, passed}
use Rattle.nr_machine.specs.Run.{Kind, Reads, Works, Over, kind, IsRefusal, PassesBy, Passes}
use Rattle.nr_machine.specs.declared.outcome.Measure.{Measure}
use Rattle.nr_machine.specs.declared.outcome.Measure.TheVariants as measures
use Rattle.nr_input.specs.declared.refusal.Refusal.TheVariants as refusals
use Rattle.nr_laws.proofs.SingleMoves.{AboveIsRefused, IsChargedOnce, charge_after, charge_under, names_text}
use Rattle.nr_laws.proofs.Over.{over-step}
use Rattle.nr_laws.proofs.ReadMoves.{reads-step}
use Rattle.nr_laws.proofs.RefusedMoves.{refused_is_above, text_answer, text_same}
use Rattle.nr_laws.proofs.Stopping.{ForLimit, answer_for_limit}

-- ---- within all limits no measure is passed

passed_none : (s : State) → IsWithin s → passed s ≡ None
passed_none s w = rw (
  le-ltb s.formatter.store.limit (charge_of s.formatter.store) w.formatter.stored,
  le-ltb s.formatter.store.deepest (length s.formatter.store.levels) w.formatter.depth,
  le-ltb s.formatter.line.limit (line_cells (collected s.formatter)) w.formatter.line,
  le-ltb s.page_limit (page_charge s.lines) w.page,
  le-ltb s.formatter.reader.most s.formatter.reader.burst w.formatter.burst,
)

-- what is stored and read fits
record Fits (v : Stored Resume) (r : Reader) : Type 0 where
  stored : charge_of v ≤ v.limit
  depth : length v.levels ≤ v.deepest
  burst : r.burst ≤ r.most

emitted_within : (t : Emitted Resume) (f : Formatter) → formatter.IsWithin f → formatter.IsWithin (emitted t f)
emitted_within (tells.Event e) f w = record { stored = w.stored; depth = w.depth; line = w.line; burst = w.burst }
emitted_within (tells.Resume k) f w = record { stored = w.stored; depth = w.depth; line = w.line; burst = w.burst }

situated : (m : input.Move Resume) (s : State) → IsWithin s → Fits m.situation.stored m.situation.reader → IsWithin (with_situation m s)
situated m s w fits = record {
  formatter = emitted_within m.emitted _ (record { stored = fits.stored; depth = fits.depth; line = w.formatter.line; burst = fits.burst });
  page = w.page;
}

-- ---- a look

fewer_texts : (ts : List Shared) → sum_by text_charge (drop 1 ts) ≤ sum_by text_charge ts
fewer_texts [] = omega arith
fewer_texts (t ∷ ts) = omega (arith, sum_by-cons text_charge t ts)

ended : (resume : Option Resume) (l : Reading Resume) (ls : List (Level Resume)) (v : Stored Resume) (r : Reader) → v.levels ≡ Read l ∷ ls → Fits v r
    → Fits (record v { levels = mark_of resume ++ ls; texts = drop 1 v.texts; arguments = l.old }) r
ended None l ls v r is fits =
    let charge = ap (λ (xs : List (Level Resume)). sum_by level_charge xs) is in
    let deep = ap (λ (xs : List (Level Resume)). length xs) is in
    let stored = fits.stored in
    let depth = fits.depth in
    record { stored = omega (arith, stored, charge, sum_by-cons level_charge (Read l) ls, fewer_texts v.texts); depth = omega (arith, depth, deep); burst = fits.burst }
ended (Some k) l ls v r is fits =
    let charge = ap (λ (xs : List (Level Resume)). sum_by level_charge xs) is in
    let deep = ap (λ (xs : List (Level Resume)). length xs) is in
    let stored = fits.stored in
    let depth = fits.depth in
    let mark : Level Resume = Mark k in
    record { stored = omega (arith, stored, charge, sum_by-cons level_charge (Read l) ls, sum_by-cons level_charge mark ls, fewer_texts v.texts); depth = omega (arith, depth, deep); burst = fits.burst }

text_left : (xs : List Element) (l : Reading Resume) (ls : List (Level Resume)) (v : Stored Resume) (r : Reader) → v.levels ≡ Read l ∷ ls → Fits v r → Fits (left_of xs l ls v) r
text_left [] l ls v r is fits = ended l.resume l ls v r is fits
text_left (x ∷ xs) l ls v r is fits =
    let charge = ap (λ (xs : List (Level Resume)). sum_by level_charge xs) is in
    let deep = ap (λ (xs : List (Level Resume)). length xs) is in
    let stored = fits.stored in
    let depth = fits.depth in
    let level : Level Resume = Read (record l { rest = xs }) in
    record { stored = omega (arith, stored, charge, sum_by-cons level_charge (Read l) ls, sum_by-cons level_charge level ls); depth = omega (arith, depth, deep); burst = fits.burst }

level_left : (ls : List (Level Resume)) (v : Stored Resume) (r : Reader) → v.levels ≡ ls → Fits v r → Fits (left ls v) r
level_left [] v r is fits = fits
level_left (Read l ∷ ls) v r is fits = text_left l.rest l ls v r is fits
level_left (Mark k ∷ ls) v r is fits =
    let charge = ap (λ (xs : List (Level Resume)). sum_by level_charge xs) is in
    let deep = ap (λ (xs : List (Level Resume)). length xs) is in
    let stored = fits.stored in
    let depth = fits.depth in
    record { stored = omega (arith, stored, charge, sum_by-cons level_charge (Mark k) ls); depth = omega (arith, depth, deep); burst = fits.burst }

past : (same : Bool) (burst most : ℕ) → burst ≤ most → (if same then burst else 0) ≤ most
past true burst most h = h
past false burst most h = omega arith

taken_in : (b : Bool) (m : TakenIn) (q : Situation Resume) → Fits q.stored q.reader → (let n = if b then taken_at m q else stays_at m q in Fits n.situation.stored n.situation.reader)
taken_in true m q fits =
    let there = level_left q.stored.levels q.stored q.reader refl fits in
    record { stored = there.stored; depth = there.depth; burst = past _ q.reader.burst q.reader.most fits.burst }
taken_in false m q fits = record { stored = fits.stored; depth = fits.depth; burst = fits.burst }

looked : (q : Situation Resume) → Fits q.stored q.reader → Fits (look q).situation.stored (look q).situation.reader
looked q fits = let m = take_in (next_item (shown q.stored.levels) q.coming) q.reader.half in taken_in m.takes m q fits

-- ---- what is pending

storing : (over : Bool) (v w : Stored Resume) (r s : Reader) → w.levels ≡ v.levels → w.deepest ≡ v.deepest → s.burst ≡ r.burst → s.most ≡ r.most → (over ≡ false → charge_of w ≤ w.limit)
    → storing_by (if over then Err (record {}) else Ok tt) ≡ Ok tt → Fits v r → Fits w s
storing true v w r s levels deepest burst most within ok fits = let wrong : ⊥ = cc in absurd wrong
storing false v w r s levels deepest burst most within ok fits =
    let deep = ap (λ (xs : List (Level Resume)). length xs) levels in
    let depth = fits.depth in
    let few = fits.burst in
    record { stored = within refl; depth = omega (arith, depth, deep, deepest); burst = omega (arith, few, burst, most) }

spliced_by : (charged deep full : Bool) (w : Stored Resume) (r : Reader) → (charged ≡ false → charge_of w ≤ w.limit) → (deep ≡ false → length w.levels ≤ w.deepest) → (full ≡ false → r.burst < r.most)
    → text_answer charged deep full ≡ Ok tt → Fits w (expanded r)
spliced_by true deep full w r x y z ok = let wrong : ⊥ = cc in absurd wrong
spliced_by false true full w r x y z ok = let wrong : ⊥ = cc in absurd wrong
spliced_by false false true w r x y z ok = let wrong : ⊥ = cc in absurd wrong
spliced_by false false false w r x y z ok = let few = z refl in record { stored = x refl; depth = y refl; burst = omega (arith, few) }

spliced : (w : Stored Resume) (r : Reader) → splicing_answer true w r ≡ Ok tt → Fits w (expanded r)
spliced w r ok =
    let charged = nat_lt w.limit (charge_of w) in
    let deep = nat_lt w.deepest (length w.levels) in
    spliced_by charged deep (nat_le r.most r.burst) w r (ltb-false w.limit (charge_of w)) (ltb-false w.deepest (length w.levels)) (leb-false r.most r.burst) (sym (text_same charged deep r) ∙ ok)

opened : (name : List ℕ) (text : Option (List Element)) (v : Stored Resume) (r : Reader) → Fits v r → splicing_answer (is_some text) (entered name text None v) r ≡ Ok tt
    → Fits (entered name text None v) (if is_some text then expanded r else idle r)
opened name None v r fits ok = record { stored = fits.stored; depth = fits.depth; burst = fits.burst }
opened name (Some text) v r fits ok = spliced (entered name (Some text) None v) r ok

without_arguments : (v : Stored Resume) (r s : Reader) → s.burst ≡ r.burst → s.most ≡ r.most → Fits v r → Fits (ungathered v) s
without_arguments v r s burst most fits =
    let stored = fits.stored in
    let few = fits.burst in
    record { stored = omega (arith, stored); depth = fits.depth; burst = omega (arith, few, burst, most) }

called_text : (name : List ℕ) (text : Option (List Element)) (v : Stored Resume) (r : Reader) → Fits v r → splicing_answer (is_some text) (called name text v) r ≡ Ok tt
    → Fits (called name text v) (if is_some text then expanded r else idle r)
called_text name None v r fits ok = without_arguments v r (idle r) refl refl fits
called_text name (Some text) v r fits ok = spliced (called name (Some text) v) r ok

set : (old : Option Register) (up : Bool) (name : List ℕ) (v : Stored Resume) (r s : Reader) → find name v.registers ≡ old → s.burst ≡ r.burst → s.most ≡ r.most → Fits v r
    → Fits (written (option_and_then (gone_on up) old) name v) s
set None up name v r s is burst most fits =
    let few = fits.burst in record { stored = fits.stored; depth = fits.depth; burst = omega (arith, few, burst, most) }
set (Some x) up name v r s is burst most fits = by (gone_on up x)
  where
    by : (y : Option Register) → Fits (written y name v) s
    by None = let few = fits.burst in record { stored = fits.stored; depth = fits.depth; burst = omega (arith, few, burst, most) }
    by (Some y) =
        let stored = fits.stored in
        let few = fits.burst in
        record { stored = omega (arith, stored, put_length name y x v.registers is); depth = fits.depth; burst = omega (arith, few, burst, most) }

ended_whole : (full : Bool) (g : Gathered) → gathered_len (if full then g else record { kept = g.kept ++ g.last ∷ []; last = [] }) ≤ gathered_len g
ended_whole true g = omega arith
ended_whole false g = omega (arith, sum_by_push (λ (bytes : List ℕ). length bytes) g.kept g.last)

meant : (m : Meaning) (v : Stored Resume) (r s : Reader) → s.burst ≡ r.burst → s.most ≡ r.most → Fits v r → Fits (after_meaning m v) s
meant meanings.Text v r s burst most fits = without_arguments v r s burst most fits
meant m v r s burst most fits = let few = fits.burst in record { stored = fits.stored; depth = fits.depth; burst = omega (arith, few, burst, most) }

still : (v : Stored Resume) (r s : Reader) → s.burst ≡ r.burst → s.most ≡ r.most → Fits v r → Fits v s
still v r s burst most fits = let few = fits.burst in record { stored = fits.stored; depth = fits.depth; burst = omega (arith, few, burst, most) }

-- ---- a definition takes its name

-- levels go on reading the text that gives way
head_loose : (same : Bool) (o : Option (List ℕ)) (share : ℕ) → loose (if same then None else o) share ≤ loose o share + (if same then share else 0)
head_loose true o share = omega arith
head_loose false o share = omega arith

loosened : (name : List ℕ) (ts : List Shared) → sum_by text_charge (renamed_by (without_name name) ts) ≤ sum_by text_charge ts + charge_after name ts
loosened name [] = omega arith
loosened name (t ∷ ts) =
    let u : Shared = record t { name = without_name name t.name } in
    omega (
      arith,
      loosened name ts,
      head_loose (is_named name t.name) t.name t.share,
      sum_by-cons text_charge t ts,
      sum_by-cons text_charge u (renamed_by (without_name name) ts),
      sum_by-cons (λ (x : Shared). if is_named name x.name then x.share else 0) t ts,
    )

put_charge : (old : Option Means) (name : List ℕ) (text : List Element) (ns : List (TheNamed Means)) → find name ns ≡ old
    → sum_of weight_of (put name (Words text) ns) + charge_under old ≡ weight_of (Words text) + sum_of weight_of ns
put_charge None name text ns is = omega (arith, put_sum_new weight_of name (Words text) ns is)
put_charge (Some m) name text ns is = put_sum weight_of name (Words text) m ns is

named_newest_fits : (bs : List Built) (name : List ℕ) (v : Stored Resume) (r s : Reader) → v.building ≡ bs → IsChargedOnce name v → s.burst ≡ r.burst → s.most ≡ r.most → Fits v r
    → Fits (named_newest bs name v) s
named_newest_fits [] name v r s is once burst most fits = let few = fits.burst in record { stored = fits.stored; depth = fits.depth; burst = omega (arith, few, burst, most) }
named_newest_fits (b ∷ bs) name v r s is once burst most fits =
    let stored = fits.stored in
    let few = fits.burst in
    let built = ap (λ (xs : List Built). sum_by (λ (x : Built). weight x.text) xs) is in
    let names = put_charge (find name v.names) name b.text v.names refl in
    record {
      stored = omega (arith, stored, once, built, names, sum_by-cons (λ (x : Built). weight x.text) b bs, loosened name v.texts);
      depth = fits.depth;
      burst = omega (arith, few, burst, most);
    }

naming_fits : (keeps : Bool) (name : List ℕ) (v : Stored Resume) (r s : Reader) → IsChargedOnce name v → s.burst ≡ r.burst → s.most ≡ r.most → Fits v r → Fits (if keeps then defined name v else v) s
naming_fits true name v r s once burst most fits = named_newest_fits v.building name v r s refl once burst most fits
naming_fits false name v r s once burst most fits = let few = fits.burst in record { stored = fits.stored; depth = fits.depth; burst = omega (arith, few, burst, most) }

-- ---- all that is pending

base_levels : (appends : Bool) (x y v : Stored Resume) → x.levels ≡ v.levels → y.levels ≡ v.levels → (if appends then x else y).levels ≡ v.levels
base_levels true x y v first second = first
base_levels false x y v first second = second

base_deepest : (appends : Bool) (x y v : Stored Resume) → x.deepest ≡ v.deepest → y.deepest ≡ v.deepest → (if appends then x else y).deepest ≡ v.deepest
base_deepest true x y v first second = first
base_deepest false x y v first second = second

acted : (d : PendingAct) (v : Stored Resume) (r : Reader) → (names_text d ≡ true → IsChargedOnce (name_in r) v) → answer d v r ≡ Ok tt → Fits v r → Fits (act d v r).stored (act d v r).reader
acted pending_acts.Begin v r is ok fits =
    let a = act pending_acts.Begin v r in
    let w = a.stored in
    storing (nat_lt w.limit (charge_of w)) v w r a.reader (base_levels r.half.notes.defining.appends _ _ v refl refl) (base_deepest r.half.notes.defining.appends _ _ v refl refl) refl refl (ltb-false w.limit (charge_of w)) ok fits
acted (pending_acts.Add b) v r is ok fits =
    let a = act (pending_acts.Add b) v r in let w = a.stored in storing (nat_lt w.limit (charge_of w)) v w r a.reader refl refl refl refl (ltb-false w.limit (charge_of w)) ok fits
acted (pending_acts.Release held n b) v r is ok fits =
    let a = act (pending_acts.Release held n b) v r in let w = a.stored in storing (nat_lt w.limit (charge_of w)) v w r a.reader refl refl refl refl (ltb-false w.limit (charge_of w)) ok fits
acted (pending_acts.Put b) v r is ok fits =
    let a = act (pending_acts.Put b) v r in let w = a.stored in storing (nat_lt w.limit (charge_of w)) v w r a.reader refl refl refl refl (ltb-false w.limit (charge_of w)) ok fits
acted pending_acts.Define v r is ok fits = naming_fits r.half.notes.defining.keeps (name_in r) v r (act pending_acts.Define v r).reader (is refl) refl refl fits
acted pending_acts.DefineAndCall v r is ok fits = naming_fits r.half.notes.defining.keeps (name_in r) v r (act pending_acts.DefineAndCall v r).reader (is refl) refl refl fits
acted pending_acts.CallEnding v r is ok fits = let name = r.half.notes.defining.ending in opened name (words (find name v.names)) v r fits ok
acted pending_acts.Splice v r is ok fits = let name = r.half.notes.asked in opened name (words (find name v.names)) v r fits ok
acted (pending_acts.Register signs.None) v r is ok fits = spliced (reading_bytes (register_text (register_of (find r.half.notes.asked v.registers))) v) r ok
acted (pending_acts.Register signs.Plus) v r is ok fits = set (find r.half.notes.asked v.registers) true r.half.notes.asked v r (act (pending_acts.Register signs.Plus) v r).reader refl refl refl fits
acted (pending_acts.Register signs.Minus) v r is ok fits = set (find r.half.notes.asked v.registers) false r.half.notes.asked v r (act (pending_acts.Register signs.Minus) v r).reader refl refl refl fits
acted (pending_acts.Argument n) v r is ok fits = spliced (reading_bytes (argument v.arguments n) v) r ok
acted pending_acts.EndArgument v r is ok fits =
    let stored = fits.stored in
    record { stored = omega (arith, stored, ended_whole (length v.gathered.kept == 9) v.gathered); depth = fits.depth; burst = fits.burst }
acted pending_acts.Call v r is ok fits = called_text (name_in r) (words (find (name_in r) v.names)) v r fits ok
acted pending_acts.Seek v r is ok fits = meant (meaning_in v r) v r (act pending_acts.Seek v r).reader refl refl fits
acted (pending_acts.Judge b) v r is ok fits = still v r (act (pending_acts.Judge b) v r).reader refl refl fits
acted (pending_acts.Lead n) v r is ok fits = still v r (act (pending_acts.Lead n) v r).reader refl refl fits
acted pending_acts.Look v r is ok fits = fits
acted pending_acts.Expanded v r is ok fits = let wrong : ⊥ = cc in absurd wrong

-- ---- a move that leads above a limit

-- a refusal for a limit names it
record Named (r : Refusal) : Type 0 where
  which : Measure
  is : IsRefusal which r

named : (r : Refusal) → ForLimit r → Named r
named refusals.Stored l = record { which = measures.Stored; is = refl }
named refusals.Depth l = record { which = measures.Depth; is = refl }
named refusals.Expansions l = record { which = measures.Expansions; is = refl }
named refusals.ReadFault l = elim l [ ]
named refusals.TooLong l = elim l [ ]

not_passed : (s : State) (m : Measure) → IsWithin s → passed s ≡ Some m → ⊥
not_passed s m within is = (let wrong : None ≡ Some m = sym (passed_none s within) ∙ is in cc)

module _ (s : State) (m : Measure) (within : IsWithin s) (refuses : s.formatter.reader.half.reading.pending_act ≢ pending_acts.Expanded) (reads : kind s ≡ Reads) (above : passed (step s) ≡ Some m) where
  fits : Fits s.formatter.store s.formatter.reader
  fits = record { stored = within.formatter.stored; depth = within.formatter.depth; burst = within.formatter.burst }

  leads : passed (with_situation (input_move (situation_of s)) s) ≡ Some m
  leads = ap passed (sym (reads-step s reads)) ∙ above

  refused : (r : Refusal) → looks (situation_of s) ≡ false → answer_at (situation_of s) ≡ Err r → Passes s m
  refused r looking is =
      let limit = named r (answer_for_limit (situation_of s) r is) in
      let refusal : input.Refuses (situation_of s) r = subst (λ b. input.RefusesBy b (situation_of s) r) (sym looking) is in
      let passes : Passes s limit.which = subst (λ k. PassesBy k s limit.which) (sym reads) (r, refusal, limit.is) in
      let same : Some limit.which ≡ Some m = sym (refused_is_above s limit.which within refuses passes) ∙ above in
      subst (λ w. Passes s w) (cc) passes

  answered : (x : Result (Unit {0}) Refusal) → looks (situation_of s) ≡ false → (names_text s.formatter.reader.half.reading.pending_act ≡ true → IsChargedOnce (name_in s.formatter.reader) s.formatter.store) → answer_at (situation_of s) ≡ x
      → passed (with_situation (acted_at (situation_of s)) s) ≡ Some m → Passes s m
  answered (Ok u) looking other is there =
      absurd (not_passed (with_situation (acted_at (situation_of s)) s) m
      (situated (acted_at (situation_of s)) s within (acted s.formatter.reader.half.reading.pending_act s.formatter.store s.formatter.reader other is fits)) there)
  answered (Err r) looking other is there = refused r looking is

  moved : (b : Bool) → looks (situation_of s) ≡ b → (names_text s.formatter.reader.half.reading.pending_act ≡ true → IsChargedOnce (name_in s.formatter.reader) s.formatter.store)
      → passed (with_situation (if b then look (situation_of s) else acted_at (situation_of s)) s) ≡ Some m → Passes s m
  moved true looking other there =
      absurd (not_passed (with_situation (look (situation_of s)) s) m (situated (look (situation_of s)) s within (looked (situation_of s) fits)) there)
  moved false looking other there = answered (answer_at (situation_of s)) looking other refl there

above_by : (k : Kind) (s : State) (m : Measure) → kind s ≡ k → IsWithin s → s.formatter.reader.half.reading.pending_act ≢ pending_acts.Expanded → (names_text s.formatter.reader.half.reading.pending_act ≡ true → IsChargedOnce (name_in s.formatter.reader) s.formatter.store)
    → passed (step s) ≡ Some m → Passes s m
above_by Reads s m is within refuses other above = moved s m within refuses is above (looks (situation_of s)) refl other (leads s m within refuses is above)
above_by Works s m is within refuses other above = subst (λ k. PassesBy k s m) (sym is) above
above_by Over s m is within refuses other above = absurd (not_passed s m within (ap passed (sym (over-step s is)) ∙ above))

pub above_is_refused : AboveIsRefused
above_is_refused s which within refuses other above = above_by (kind s) s which refl within refuses other above
