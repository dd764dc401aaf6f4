-- What a page says was set, and its end: what went out.
use Rattle.std.proofs.Common.{◌≡◌, ℕ, zero, suc, take, nat_lt, Bool, true, false, List, [], ◌∷◌, ◌++◌, Option, refl, sym, ap, subst, ◌∙◌, append-nil, arith, ◌⊎◌, inl, inr}
use Rattle.std.specs.Borrow.{MutBor}
use Rattle.std.specs.Io.KnownBytes.{Appends}
use Rattle.std.proofs.lemmas.Bool.Decides.{nat_tests}
use Rattle.nr_units.specs.Failures.{SinkFailures, put_counted_if}
use Rattle.nr_vectors.specs.Items.{Items}
use Rattle.nr_units.specs.Sink.{AppendsPrefix}
use Rattle.nr_units.specs.Source.{Supply}
use Rattle.tbl_reader.specs.declared.complaint.Complaint.{Complaint}
use Rattle.tbl_reader.specs.declared.running.ReadEnd.{ReadEnd}
use Rattle.tbl_reader.specs.declared.running.ReadEnd.TheVariants.{Done, ReadFault, TooLong, WriteFault}
use Rattle.tbl_reader.specs.Ending.{page_said}
use Rattle.tbl_reader.specs.Running as reading
use Rattle.tbl_reader.specs.Telling.{Piece, Tells}
use Rattle.tbl_setting.specs.declared.setting.Setting.{Setting}
use Rattle.tbl_setting.specs.Held.{emptied}
use Rattle.tbl_drawing.specs.Pens.{Bytes}
use Rattle.tbl_drawing.specs.Tapes.{Tape, Sends, SendsIn, Draws, failed_since}
use Rattle.tbl_drawing.proofs.Tapes.{draws_nothing, sends_then}
use Rattle.tbl_setting.specs.Running.{Puts, PutsPrefix, IsBroken, Ran, said_so_far}
use Rattle.tbl_setting.specs.Bounds.{Bounds, page_setting}
use Rattle.tbl_setting.specs.Setting.{EndsAs, IsSame, Keeps, Shown, Shows, first_tape, hears, set, set_bytes, strokes, wrongs}
use Rattle.tbl_setting.proofs.Pieces.{heard-said}

pub went_out : (f : Bool) (h now : Option (List ℕ)) (left out : List ℕ) → SendsIn false f h [] now left out → f ≡ false → left ≡ [] → Appends h now out
went_out true h now left out sends live empty = absurd (let no : true ≡ false = live in cc)
went_out false h now left out sends live empty =
    subst (Appends h now) (sym (sends.2 ∙ ap (λ l. sends.0 ++ l) empty ∙ append-nil sends.0)) sends.1

pub prefix_out : (f : Bool) (h now : Option (List ℕ)) (left out : List ℕ) → SendsIn false f h [] now left out → AppendsPrefix h now out
prefix_out true h now left out sends = sends
prefix_out false h now left out sends = (sends.0, left, sends.2, sends.1)

-- who has heard this since
abbrev pub said_to : List Piece → Shown → Shown
said_to ps s = record s { said = ps }

-- who had heard nothing, and had a table that holds nothing
pub record Starts {A : Type 0} (shows : A → Shown → Type 0) (old : A) (w : Bounds) (s : Shown) : Type 0 where
  pub shows_it : shows old (said_to [] s)
  pub setting : s.setting ≡ page_setting w
  pub nothing : s.wrong ≡ []

-- what one shows in the end who has heard this
shown : {A : Type 0} (shows : A → Shown → Type 0) (old new : A) (w : Bounds) (ps : List Piece) (s : Shown) (a : Tape) (table : MutBor Setting) (kept : MutBor (Items Complaint)) (missed : Bool)
    → Starts shows old w s
    → ((s : Shown) → shows new s → Shows a table kept missed s)
    → Tells shows hears ps old new
    → Shows a table kept missed (said_to ps s)
shown shows old new w ps s a table kept missed start is emitted =
    is _ (subst (shows new) (heard-said ps (said_to [] s)) (emitted (said_to [] s) start.shows_it))

-- what was drawn, and what waited and went then
sent : (w : Bounds) (ps : List Piece) (s : Shown) (a b : Tape) (table : MutBor Setting) (kept : MutBor (Items Complaint)) (missed : Bool)
    → s.setting ≡ page_setting w → Shows a table kept missed (said_to ps s) → Draws a b (Bytes [] ∷ []) → Sends (first_tape s.held s.failures) b (set_bytes w ps)
sent w ps s a b table kept missed at shows flushed =
    let drawn : Draws (first_tape s.held s.failures) a (strokes ps (page_setting w)) = subst (λ (t : Setting). Draws (first_tape s.held s.failures) a (strokes ps t)) at shows.draws in
    subst (Sends (first_tape s.held s.failures) b) (append-nil (set_bytes w ps)) (sends_then drawn.sends flushed.sends)

-- a run, and its end
module _ {A : Type 0} (shows : A → Shown → Type 0) (old new : A) (w : Bounds) (first last : Option Supply)
    (s : Shown) (a b : Tape) (table : MutBor Setting) (kept : MutBor (Items Complaint)) (missed : Bool)
    (start : Starts shows old w s)
    (is : (s : Shown) → shows new s → Shows a table kept missed s)
    (flushed : Draws a b (Bytes [] ∷ [])) where
  kept-wrong : (ps : List Piece) → Shows a table kept missed (said_to ps s) → Keeps (wrongs ps (page_setting w)) kept.now missed
  kept-wrong ps h =
      subst (λ (t : Setting). Keeps (wrongs ps t) kept.now missed) start.setting
      (subst (λ (l : List Complaint). Keeps (l ++ wrongs ps s.setting) kept.now missed) start.nothing h.keeps)

  parted : (ps : List Piece) → Shows a table kept missed (said_to ps s) → table.now.layout.uneven ≡ (set ps (page_setting w)).layout.uneven
  parted ps h = ap (λ (t : Setting). t.layout.uneven) (h.setting_now ∙ ap (set ps) start.setting)

  whole : (ps : List Piece) → Tells shows hears ps old new → b.failed ≡ false → b.pending ≡ [] → Puts (set_bytes w ps) ps (page_setting w) s.held b.held kept.now missed table.now.layout.uneven
  whole ps emitted live empty =
      let h = shown shows old new w ps s a table kept missed start is emitted in
      record { went_out = went_out b.failed s.held b.held b.pending (set_bytes w ps) (sent w ps s a b table kept missed start.setting h flushed).sends live empty; keeps = kept-wrong ps h; parts = parted ps h }

  part : (ps : List Piece) → Tells shows hears ps old new → PutsPrefix (set_bytes w ps) ps (page_setting w) s.held b.held kept.now missed table.now.layout.uneven
  part ps emitted =
      let h = shown shows old new w ps s a table kept missed start is emitted in
      record { went_out = prefix_out b.failed s.held b.held b.pending (set_bytes w ps) (sent w ps s a b table kept missed start.setting h flushed).sends; keeps = kept-wrong ps h; parts = parted ps h }

  either : {ps qs : List Piece} → Tells shows hears ps old new ⊎ Tells shows hears qs old new
      → PutsPrefix (set_bytes w ps) ps (page_setting w) s.held b.held kept.now missed table.now.layout.uneven ⊎ PutsPrefix (set_bytes w qs) qs (page_setting w) s.held b.held kept.now missed table.now.layout.uneven
  either (inl emitted) = inl (part _ emitted)
  either (inr emitted) = inr (part _ emitted)

  ran-whole : (o : ReadEnd) → reading.Ran shows hears w.limits first last old new o → b.failed ≡ false → b.pending ≡ [] → Ran w first last s.held b.held kept.now missed table.now.layout.uneven o
  ran-whole Done r live empty = record { bytes = r.bytes; came = r.came; ends = r.ends; puts = whole _ r.emitted live empty }
  ran-whole (ReadFault at) r live empty = record { bytes = r.bytes; came = r.came; count = r.count; puts = whole _ r.emitted live empty }
  ran-whole TooLong r live empty = record { bytes = r.bytes; came = r.came; count = r.count; puts = whole _ r.emitted live empty }
  ran-whole WriteFault r live empty = record { bytes = r.bytes; came = r.came; puts = either r.emitted }

  broken : (o : ReadEnd) → reading.Ran shows hears w.limits first last old new o → IsBroken w first last s.held b.held kept.now missed table.now.layout.uneven
  broken Done r = record { bytes = r.bytes; came = r.came; puts = inr (part _ r.emitted) }
  broken (ReadFault at) r = record { bytes = r.bytes; came = r.came; puts = inl (part _ r.emitted) }
  broken TooLong r = record { bytes = r.bytes; came = r.came; puts = inl (part _ r.emitted) }
  broken WriteFault r = record { bytes = r.bytes; came = r.came; puts = either r.emitted }

  ran-ends : (wanted o : ReadEnd) → reading.Ran shows hears w.limits first last old new wanted → EndsAs wanted o b → Ran w first last s.held b.held kept.now missed table.now.layout.uneven o
  ran-ends wanted o r (inl (same, live, empty)) =
      subst (λ x. Ran w first last s.held b.held kept.now missed table.now.layout.uneven x) (sym same) (ran-whole wanted r live empty)
  ran-ends wanted o r (inr (same, fails)) =
      subst (λ x. Ran w first last s.held b.held kept.now missed table.now.layout.uneven x) (sym same) (broken wanted r)

  -- what was lent stays what it is
  heard-it : (ps : List Piece) → Tells shows hears ps old new → (all : List Piece) × Shows a table kept missed (said_to all s)
  heard-it ps emitted = (ps, shown shows old new w ps s a table kept missed start is emitted)

  heard-some : (ps qs : List Piece) → Tells shows hears ps old new ⊎ Tells shows hears qs old new → (all : List Piece) × Shows a table kept missed (said_to all s)
  heard-some ps qs (inl emitted) = heard-it ps emitted
  heard-some ps qs (inr emitted) = heard-it qs emitted

  heard-all : (o : ReadEnd) → reading.Ran shows hears w.limits first last old new o → (all : List Piece) × Shows a table kept missed (said_to all s)
  heard-all Done r = heard-it (page_said w.limits r.bytes) r.emitted
  heard-all (ReadFault at) r = heard-it (said_so_far w.limits r.bytes) r.emitted
  heard-all TooLong r = heard-it (said_so_far w.limits r.bytes) r.emitted
  heard-all WriteFault r = heard-some (said_so_far w.limits r.bytes) (page_said w.limits r.bytes) r.emitted

-- a write fault is reported where the output failed
live_before : (f g : Bool) (h i : Option (List ℕ)) (v w xs : List ℕ) → SendsIn f g h v i w xs → g ≡ false → f ≡ false
live_before false g h i v w xs sends live = refl
live_before true true h i v w xs sends live = live
live_before true false h i v w xs sends live = absurd sends

faults-emitted : (wanted o : ReadEnd) (a b : Tape) → Draws a b (Bytes [] ∷ []) → a.failed ≡ reading.is_write_fault wanted → EndsAs wanted o b
    → b.failed ≡ reading.is_write_fault o
faults-emitted wanted o a b flushed is (inl (same, live, empty)) =
    live ∙ sym (live_before a.failed b.failed a.held b.held a.pending b.pending _ flushed.sends.sends live) ∙ is ∙ ap reading.is_write_fault (sym same)
faults-emitted wanted o a b flushed is (inr (same, fails)) = fails ∙ ap reading.is_write_fault (sym same)

faults-counted : (b : Bool) (c d : SinkFailures) (f : Bool) → d ≡ put_counted_if (failed_since false f) c → f ≡ b → d ≡ put_counted_if b c
faults-counted b c d true counted is = counted ∙ ap (λ (x : Bool). put_counted_if x c) is
faults-counted b c d false counted is = counted ∙ ap (λ (x : Bool). put_counted_if x c) is

-- what a run comes to, and what stays of what was lent
pub record RunsTo (w : Bounds) (first last : Option Supply) (s : Shown) (b : Tape) (table : MutBor Setting) (kept : MutBor (Items Complaint)) (missed : Bool) (o : ReadEnd) : Type 0 where
  pub ran : Ran w first last s.held b.held kept.now missed table.now.layout.uneven o
  pub failures : b.failures ≡ put_counted_if (reading.is_write_fault o) s.failures
  pub setting_same : table.ghost_name ≡ s.setting_name
  pub setting_room : emptied table.now ≡ emptied s.setting
  pub same : kept.ghost_name ≡ s.name
  pub room : kept.now.capacity ≡ s.capacity

pub runs_to : {A : Type 0} (shows : A → Shown → Type 0) (old new : A) (w : Bounds) (first last : Option Supply)
    (s : Shown) (a b : Tape) (table table' : MutBor Setting) (kept kept' : MutBor (Items Complaint)) (missed missed' : Bool) (wanted o : ReadEnd)
    → Starts shows old w s
    → ((s : Shown) → shows new s → Shows a table kept missed s)
    → Draws a b (Bytes [] ∷ []) → table' ≡ table → IsSame kept missed kept' missed'
    → reading.Ran shows hears w.limits first last old new wanted → a.failed ≡ reading.is_write_fault wanted → EndsAs wanted o b
    → RunsTo w first last s b table' kept' missed' o
runs_to shows old new w first last s a b table table' kept kept' missed missed' wanted o start is flushed here same ran failed ends =
    let h = (heard-all shows old new w first last s a b table kept missed start is flushed wanted ran).1 in
    let all : RunsTo w first last s b table kept missed o = record {
      failures = faults-counted (reading.is_write_fault o) s.failures b.failures b.failed
          (sends_then h.draws.sends flushed.sends).failures (faults-emitted wanted o a b flushed failed ends);
      ran = ran-ends shows old new w first last s a b table kept missed start is flushed wanted o ran ends;
      setting_same = h.setting_same;
      setting_room = h.setting_room;
      same = h.same;
      room = h.room;
    } in
    subst (λ t. RunsTo w first last s b t kept' missed' o) (sym here)
    (subst (λ m. RunsTo w first last s b table kept' m o) (sym same.1)
    (subst (λ k. RunsTo w first last s b table k missed o) (sym same.0) all))

take_none : (n : ℕ) (xs : List Complaint) → xs ≡ [] → take n xs ≡ []
take_none zero [] is = refl
take_none (suc n) [] is = refl
take_none n (x ∷ xs) is = cc

none_more : (n : ℕ) → nat_lt n 0 ≡ false
none_more n = grind (arith, nat_tests)

-- one who has heard nothing
abbrev pub lent : Tape → MutBor Setting → MutBor (Items Complaint) → Shown
lent out table kept = record {
  held = out.held;
  failures = out.failures;
  setting = table.now;
  wrong = [];
  said = [];
  setting_name = table.ghost_name;
  name = kept.ghost_name;
  capacity = kept.now.capacity;
}

pub begins : (out : Tape) (table : MutBor Setting) (kept : MutBor (Items Complaint)) (missed : Bool)
    → out ≡ first_tape out.held out.failures → kept.now.items ≡ [] → missed ≡ false → Shows out table kept missed (lent out table kept)
begins out table kept missed same empty none = record {
  draws = subst (λ t. Draws (first_tape out.held out.failures) t []) (sym same) (draws_nothing (first_tape out.held out.failures));
  setting_same = refl;
  setting_now = refl;
  setting_room = refl;
  same = refl;
  room = refl;
  keeps = record { first = empty ∙ sym (take_none kept.now.capacity [] refl); others = none ∙ sym (none_more kept.now.capacity) };
}
