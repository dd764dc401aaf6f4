-- Lines of the source that are at hand: the newline that ends one, and the text of the next after it.
use Prim.Native.Char.{code}
use Rattle.std.proofs.Common.{◌≡◌, ◌≢◌, ℕ, zero, suc, ◌+◌, ◌-◌, ◌*◌, ◌<◌, ◌≤◌, Bool, true, false, List, [], ◌∷◌, length, drop, Option, inl, inr, refl, sym, ap, ◌∙◌, subst, arith, length-drop}
use Rattle.std.specs.Prelude.{◌&&◌, is_none, not, slice_index}
use Rattle.std.specs.Option.{option_map}
use Rattle.std.proofs.lemmas.Bool.{and_parts}
use Rattle.std.proofs.lemmas.List.{get_or-drop}
use Rattle.nr_units.specs.Source.{Supply, skipped}
use Rattle.nr_fill.specs.Piece.{begins_line, text_cells}
use Rattle.nr_fill.specs.Plain.{IsPlain}
use Rattle.nr_reading.specs.Many.InText.{is_in_text}
use Rattle.nr_reading.specs.Many.Interpolations.{interpolates}
use Rattle.nr_reading.specs.Many.LineBeginnings.{IsBeforeLine, is_at_text as reads_text}
use Rattle.nr_reading.specs.declared.event.Event.{Event}
use Rattle.nr_reading.specs.declared.event.Event.TheVariants as events
use Rattle.nr_reading.specs.declared.mode.Mode.TheVariants as modes
use Rattle.nr_reading.proofs.InText.{ended_text, in_text}
use Rattle.fast_input.specs.AtHand.{ComeNext}
use Rattle.nr_input.specs.Place.{Coming, HoldsComing}
use Rattle.fast_input.specs.Fonts.{BeginsFont}
use Rattle.nr_formatter.specs.Access.{collected}
use Rattle.nr_formatter.specs.Many.LineBeginnings.{BeginsText, is_at_text, text_begun}
use Rattle.nr_formatter.specs.Many.LineEnds.{IsNewline, line_gapped, newline_flows, newline_put}
use Rattle.nr_formatter.specs.Lines.{fits_line}
use Rattle.nr_formatter.specs.Many.Runs.{is_in_line, reads_next}
use Rattle.nr_formatter.specs.declared.formatter.Formatter.{Formatter}
use Rattle.nr_formatter.specs.declared.tasks.After.TheVariants as afters
use Rattle.nr_formatter.specs.declared.tasks.Task.{Task}
use Rattle.nr_formatter.specs.declared.tasks.Task.TheVariants as tasks
use Rattle.nr_formatter.proofs.PlainText.{ends_word, in_line}
use Rattle.nr_machine.specs.Holding.{Shape, weight, worth}
use Rattle.fast_machine.specs.NextEscapes.{BeginsEscape}
use Rattle.fast_machine.specs.LineBeginnings.{begun_shape}
use Rattle.fast_machine.specs.Running.{HasNext, Longest, LongestWords, Makes, PutsText, Saves, taken_shape, unburst}
use Rattle.fast_machine.proofs.LineBeginnings.{makes_begun}
use Rattle.fast_machine.proofs.PlainGaps.{first_of}
use Rattle.fast_machine.proofs.PlainNewlines.{makes_newline, makes_newline_flows, saves_newline, saves_newline_flows}
use Rattle.fast_machine.proofs.TextAtHand.{begun-gap, first_left, holds_after, next_after, passed_on, puts_byte, puts_on, skipped_on, some_left}
use Rattle.fast_machine.proofs.Running.{makes-add, worth_same}

-- ---- the newline

module _ (bs : List ℕ) (f : Formatter) (some : 0 < length bs) (is_newline : slice_index bs 0 ≡ code "\n") (newline : IsNewline f) where
  -- it is so whatever was spliced before it
  newline_there : (e : Shape) → unburst e.formatter ≡ unburst f → IsNewline e.formatter
  newline_there e is =
      let here : IsNewline (unburst f) = record { line = newline.line; plain = newline.plain; joint = newline.joint; trap = newline.trap; underlined = newline.underlined; within = newline.within } in
      let there = subst IsNewline (sym is) here in
      record { line = there.line; plain = there.plain; joint = there.joint; trap = there.trap; underlined = there.underlined; within = there.within }

  -- it comes next
  newline_next : (e : Shape) (supply : Option Supply) → HasNext bs e supply → (c : Coming) → HoldsComing c e.place supply → ComeNext (code "\n" ∷ (first_of bs (code "\n") some is_newline).0) c
  newline_next e supply has c h = subst (λ xs. ComeNext xs c) (first_of bs (code "\n") some is_newline).1 (has.next c h)

  -- the line that is collected is full then
  puts_newline_flows : PutsText bs 1 2 f (newline_flows f)
  puts_newline_flows =
      puts_byte (code "\n") 2 bs f newline_flows some is_newline (omega arith) (omega arith) refl refl
      (λ e supply is has. makes_newline_flows (first_of bs (code "\n") some is_newline).0 e supply (option_map (skipped 1) supply) has.levels (newline_there e is) (newline_next e supply has)
      (λ c h. holds_after (code "\n") 1 c e.place supply has.unseen h))
      (λ e is. saves_newline_flows e (in_line e.formatter (newline_there e is).line))

  -- or it is not
  puts_newline : fits_line (line_gapped (collected f)) ≡ true → PutsText bs 1 5 f (newline_put f)
  puts_newline fits =
      puts_byte (code "\n") 5 bs f newline_put some is_newline (omega arith) (omega arith) refl refl
      (λ e supply is has. makes_newline (first_of bs (code "\n") some is_newline).0 e supply (option_map (skipped 1) supply) has.levels (newline_there e is) (newline_next e supply has)
      (λ c h. holds_after (code "\n") 1 c e.place supply has.unseen h) (ap (λ (x : Formatter). fits_line (line_gapped (collected x))) is ∙ fits))
      (λ e is. saves_newline e (in_line e.formatter (newline_there e is).line))

-- after some text comes such a newline
module _ (t m : ℕ) (bs : List ℕ) (f g : Formatter) (puts : PutsText bs t m f g) (below : t < length bs) (is_newline : slice_index bs t ≡ code "\n") (newline : IsNewline g) where
  -- the line that is collected is full then
  pub line_flows : (h : Formatter) → h ≡ newline_flows g → PutsText bs (t + 1) (m + 2) f h
  line_flows h is =
      puts_on t m 1 2 bs f g h puts (subst (λ (x : Formatter). PutsText (drop t bs) 1 2 g x) (sym is) (puts_newline_flows (drop t bs) g (some_left t bs below) (first_left t (code "\n") bs is_newline) newline))

  -- or it is not
  pub line_ends : (h : Formatter) → fits_line (line_gapped (collected g)) ≡ true → h ≡ newline_put g → PutsText bs (t + 1) (m + 5) f h
  line_ends h fits is =
      puts_on t m 1 5 bs f g h puts (subst (λ (x : Formatter). PutsText (drop t bs) 1 5 g x) (sym is) (puts_newline (drop t bs) g (some_left t bs below) (first_left t (code "\n") bs is_newline) newline fits))

-- after it a line begins
pub line_before : (g h : Formatter) → IsNewline g → h ≡ newline_put g → IsBeforeLine h.reader.half
line_before g h newline is =
    let line = in_line g newline.line in
    subst (λ (x : Formatter). IsBeforeLine x.reader.half) (sym is) (ended_text g.reader.half (in_text g.reader.half line.half))

-- and what is collected has begun
pub line_at_text : (g h : Formatter) → IsNewline g → h ≡ newline_put g → is_at_text h ≡ true
line_at_text g h newline is =
    let line = in_line g newline.line in
    let half = in_text g.reader.half line.half in
    let ends = ends_word g newline.plain in
    let here : is_at_text (newline_put g) ≡ true = rw (line.springs, line.event, line.task, half.escape, half.pending_act, half.asks, begun-gap (collected g) (collected g).word refl ends.word) refl in
    ap is_at_text is ∙ here

-- ---- the next line

-- what the first of two runs of moves saves, both save
saves_first : (saved m k : ℕ) (e f g : Shape) → f.formatter.store.limit ≡ e.formatter.store.limit → f.formatter.reader.most ≡ e.formatter.reader.most
    → Saves saved m e f → weight g + k + worth f * f.place.taken ≤ weight f + worth f * g.place.taken → Saves saved (m + k) e g
saves_first saved m k e f g limit most a b =
    let more : weight g + k + worth e * f.place.taken ≤ weight f + worth e * g.place.taken =
    subst (λ w. weight g + k + w * f.place.taken ≤ weight f + w * g.place.taken) (worth_same e f limit most) b in
    omega (arith, a, more)

-- text of a line from its beginning, after other text
module _ (t m n k : ℕ) (bs : List ℕ) (f g h : Formatter) (before : 0 < t) (a : PutsText bs t m f g) (at : is_at_text g ≡ true) (half : IsBeforeLine g.reader.half)
    (begins : BeginsText (drop t bs) g) (some : 0 < n) (b : PutsText (drop t bs) n k (text_begun g) h) where
  -- where the engine stands at the beginning of the line
  abbrev between : Shape → Shape
  between e = taken_shape bs t g e

  next_line : (e : Shape) (supply : Option Supply) → unburst e.formatter ≡ unburst f → HasNext bs e supply → HasNext (drop t bs) (between e) (option_map (skipped t) supply)
  next_line e supply is has =
      let levels : g.store.levels ≡ [] = ap (λ v. v.levels) (a.store ∙ sym (ap (λ (x : Formatter). x.store) is)) ∙ has.levels in
      next_after t bs e supply g a.prefix levels has

  -- the moves from there
  makes_line : (e : Shape) (supply : Option Supply) → unburst e.formatter ≡ unburst f → HasNext bs e supply
      → Makes k (between e) (taken_shape (drop t bs) n h (between e)) (option_map (skipped t) supply) (option_map (skipped n) (option_map (skipped t) supply))
  makes_line e supply is has =
      let next = next_line e supply is has in
      let here : HasNext (drop t bs) (begun_shape (between e)) (option_map (skipped t) supply) = record { levels = next.levels; unseen = next.unseen; next = next.next } in
      let begins_there : BeginsText (drop t bs) (between e).formatter = record { some = begins.some; plain = begins.plain; control = begins.control; room = begins.room } in
      makes_begun (drop t bs) (between e) (option_map (skipped t) supply) at half begins_there next k (taken_shape (drop t bs) n h (between e))
      (option_map (skipped n) (option_map (skipped t) supply)) (omega (arith, some, b.least)) (b.makes (begun_shape (between e)) (option_map (skipped t) supply) refl here some)
      (b.saves (begun_shape (between e)) (option_map (skipped t) supply) refl here some)

  pub puts_line : PutsText bs (t + n) (m + k) f h
  puts_line =
      let left : length (drop t bs) ≡ length bs - t = length-drop t bs in
      record {
        prefix = omega (arith, a.prefix, b.prefix, left);
        least = omega (arith, a.least, b.least);
        most = omega (arith, a.most, b.most);
        none = λ none. absurd (omega (arith, none, some));
        store = b.store ∙ a.store;
        makes = λ e supply is has any.
            let rest = option_map (skipped t) supply in
            subst (λ q. Makes (m + k) e (taken_shape bs (t + n) h e) supply q) (skipped_on t n supply)
            (subst (λ p. Makes (m + k) e (record e { formatter = unburst h; place = p }) supply (option_map (skipped n) rest)) (passed_on t n bs e.place some)
            (makes-add m k e (between e) (taken_shape (drop t bs) n h (between e)) supply rest (option_map (skipped n) rest) (a.makes e supply is has before) (makes_line e supply is has)));
        saves = λ e supply is has any.
            let first = a.makes e supply is has before in
            subst (λ p. Saves 20 (m + k) e (record e { formatter = unburst h; place = p })) (passed_on t n bs e.place some)
            (saves_first 20 m k e (between e) (taken_shape (drop t bs) n h (between e)) first.limit first.most (a.saves e supply is has before) (makes_line e supply is has).spends);
      }

-- ---- what may be put after some text

-- the next byte is put, if it is plain and the line not full
abbrev pub Takes : List ℕ → Formatter → ℕ → Type 0
Takes bs g n = 0 < length bs → IsPlain (slice_index bs 0) → text_cells (collected g) ≢ g.line.limit → 0 < n

-- the text after the first t bytes, put in a line that has begun there, is put after what was put
abbrev pub GoesOn : List ℕ → ℕ → ℕ → Formatter → Formatter → Type 0
GoesOn bs t m f g = (n k : ℕ) (h : Formatter) → Takes (drop t bs) g n → PutsText (drop t bs) n k g h → PutsText bs (t + n) (m + k) f h

-- nothing was put yet
pub goes_first : (bs : List ℕ) (f : Formatter) → GoesOn bs 0 0 f f
goes_first bs f n k h takes puts =
    let count : n ≡ 0 + n = omega arith in
    let moves : k ≡ 0 + k = omega arith in
    subst (λ i. PutsText bs i (0 + k) f h) count (subst (λ j. PutsText bs n j f h) moves puts)

-- all of it was put
pub goes_put : (t m : ℕ) (bs : List ℕ) (f g : Formatter) → PutsText bs t m f g → GoesOn bs t m f g
goes_put t m bs f g before n k h takes puts = puts_on t m n k bs f g h before puts

-- a line's text begins there
pub goes_begun : (t m : ℕ) (bs : List ℕ) (f g h : Formatter) → 0 < t → PutsText bs t m f g → is_at_text g ≡ true → IsBeforeLine g.reader.half → BeginsText (drop t bs) g → h ≡ text_begun g
    → GoesOn bs t m f h
goes_begun t m bs f g h before a at half begins is n k i takes puts =
    let takes_there : Takes (drop t bs) (text_begun g) n = subst (λ (x : Formatter). Takes (drop t bs) x n) is takes in
    puts_line t m n k bs f g i before a at half begins (takes_there begins.some begins.plain begins.room) (subst (λ (x : Formatter). PutsText (drop t bs) n k x i) is puts)

-- where as many bytes were put as could be, the next one was put
pub takes_longest : (bs : List ℕ) (n k : ℕ) (f g : Formatter) → is_in_line f ≡ true → PutsText bs n k f g → LongestWords bs n g → Takes bs f n
takes_longest bs zero k f g line puts longest some plain room =
    let same : g ≡ f = puts.none refl in
    absurd (room (sym (ap (λ (x : Formatter). text_cells (collected x)) same) ∙ longest.stops some (ap is_in_line same ∙ line) plain ∙ ap (λ (x : Formatter). x.line.limit) same))
takes_longest bs (suc n) k f g line puts longest some plain room = omega arith

-- ---- as many bytes as could be

-- what is so of the bytes after the first t is so among all
pub words_after : (t n : ℕ) (bs : List ℕ) (f : Formatter) → LongestWords (drop t bs) n f → LongestWords bs (t + n) f
words_after t n bs f longest =
    let left : length (drop t bs) ≡ length bs - t = length-drop t bs in
    let same : slice_index bs (t + n) ≡ slice_index (drop t bs) n = sym (get_or-drop t bs n 0) in
    record {
      stops = λ below line plain. longest.stops (omega (arith, left, below)) line (subst IsPlain same plain);
      blank = λ below line blank. longest.blank (omega (arith, left, below)) line (sym same ∙ blank);
    }

-- after the words of a line comes no plain newline, no font escape, and no other that is put at once
pub longest_line : (bs : List ℕ) (t m : ℕ) (f : Formatter) → t ≤ m → m ≤ 5 * t → LongestWords bs t f → (is_at_text f ≡ true → is_in_line f ≡ true)
    → (t < length bs → slice_index bs t ≡ code "\n" → IsNewline f → ⊥) → (is_in_line f ≡ true → BeginsFont (is_in_text f.reader.half) (drop t bs) → ⊥)
    → (is_in_line f ≡ true → BeginsEscape (drop t bs) f → ⊥) → Longest bs t m f
longest_line bs t m f least most words line newline font escape = record {
  least = least;
  most = most;
  words = words;
  newline = newline;
  begins = λ at out begins. let wrong : true ≡ false = sym (line at) ∙ out in cc;
  font = λ at plain begins. font (line at) begins;
  escape = escape;
}

-- no line goes on, and none begins
pub longest_out : (bs : List ℕ) (t m : ℕ) (f : Formatter) → t ≤ m → m ≤ 5 * t → (is_in_line f ≡ true → ⊥) → (is_at_text f ≡ true → BeginsText (drop t bs) f → ⊥)
    → (is_at_text f ≡ true → interpolates f.reader.half ≡ true → BeginsFont (is_in_text f.reader.half) (drop t bs) → ⊥) → Longest bs t m f
longest_out bs t m f least most out begins font = record {
  least = least;
  most = most;
  words = record { stops = λ below line. absurd (out line); blank = λ below line. absurd (out line) };
  newline = λ below is newline. out newline.line;
  begins = λ at no. begins at;
  font = font;
  escape = λ line. absurd (out line);
}

-- where no `\` comes next no font escape does
pub no_font : (t : ℕ) (bs : List ℕ) (in_line : Bool) → (t < length bs → slice_index bs t ≡ code "\\" → ⊥) → BeginsFont in_line (drop t bs) → ⊥
no_font t bs in_line other begins =
    let left : length (drop t bs) ≡ length bs - t = length-drop t bs in
    let some = begins.some in
    let same : t + 0 ≡ t = omega arith in
    other (omega (arith, left, some)) (ap (slice_index bs) (sym same) ∙ sym (get_or-drop t bs 0 0) ∙ begins.backslash)

-- nor another
pub no_escape : (t : ℕ) (bs : List ℕ) (f : Formatter) → (t < length bs → slice_index bs t ≡ code "\\" → ⊥) → BeginsEscape (drop t bs) f → ⊥
no_escape t bs f other begins = elim begins [
  | inl point ↦ by (omega (arith, point.some)) point.backslash
  | inr minus ↦ by (omega (arith, minus.0.some)) minus.0.backslash
]
  where
    by : 0 < length (drop t bs) → slice_index (drop t bs) 0 ≡ code "\\" → ⊥
    by some backslash =
        let left : length (drop t bs) ≡ length bs - t = length-drop t bs in
        let same : t + 0 ≡ t = omega arith in
        other (omega (arith, left, some)) (ap (slice_index bs) (sym same) ∙ sym (get_or-drop t bs 0 0) ∙ backslash)

idle_task : (e : Event) (t : Task) → reads_next e t ≡ true → t ≡ tasks.Read
idle_task events.Nothing tasks.Read is = refl
idle_task e t is = absurd (let wrong : false ≡ true = is in cc)

-- full lines go out next
pub flows_out : (g h : Formatter) → h ≡ newline_flows g → is_in_line h ≡ true → ⊥
flows_out g h is line = let wrong : tasks.Flow afters.Line false ≡ tasks.Read = sym (ap (λ (x : Formatter). x.task) is) ∙ (in_line h line).task in cc

pub flows_away : (g h : Formatter) → h ≡ newline_flows g → is_at_text h ≡ true → ⊥
flows_away g h is at =
    let all = and_parts ((is_none h.springs && reads_next h.event h.task) && reads_text h.reader.half) (not (begins_line (collected h))) at in
    let two = and_parts (is_none h.springs && reads_next h.event h.task) (reads_text h.reader.half) all.0 in
    let one = and_parts (is_none h.springs) (reads_next h.event h.task) two.0 in
    let wrong : tasks.Flow afters.Line false ≡ tasks.Read = sym (ap (λ (x : Formatter). x.task) is) ∙ idle_task h.event h.task one.1 in
    cc

-- a line begins next
pub before_out : (f : Formatter) → IsBeforeLine f.reader.half → is_in_line f ≡ true → ⊥
before_out f half line = let wrong : modes.Start ≡ modes.Text = sym half.mode ∙ (in_text f.reader.half (in_line f line).half).mode in cc
