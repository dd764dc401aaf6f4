-- Words that come of levels, put and taken, with the newline that ends their line.
use Prim.Native.Char.{code}
use Rattle.std.proofs.Common.{◌≡◌, ℕ, ◌+◌, Bool, true, false, List, length, take, refl, sym, ap, ◌∙◌, subst, arith}
use Rattle.nr_store.specs.Laws.{left_times-run}
use Rattle.nr_store.specs.Store.{Stored, shown}
use Rattle.nr_store.specs.Windows.{left_times, rest_of, run_left}
use Rattle.nr_store.specs.declared.element.Element.TheVariants as elements
use Rattle.nr_store.specs.declared.shown.Shown.TheVariants as shows
use Rattle.fast_input.specs.Gathering.{GathersMost, IsGathered, Leaves}
use Rattle.fast_input.specs.declared.gathering.Gathered.{Gathered}
use Rattle.nr_input.specs.declared.reader.Reader.{Reader}
use Rattle.fast_input.proofs.TextBytes.{stays_there}
use Rattle.nr_formatter.specs.Access.{collected}
use Rattle.nr_formatter.specs.Limits.{FitsMemory}
use Rattle.nr_formatter.specs.Many.LineEnds.{IsNewline, line_gapped, newline_flows, newline_put}
use Rattle.nr_formatter.specs.Lines.{fits_line}
use Rattle.nr_formatter.specs.Many.Runs.{is_in_line}
use Rattle.nr_formatter.specs.declared.formatter.Formatter.{Formatter}
use Rattle.nr_formatter.specs.declared.tasks.Resume.{Resume}
use Rattle.fast_machine.specs.Running.{EndsLine, IsFurther, LongestOfLevels, LongestWords, MakesInPlace, MakesInText, PutsOfFlow, with_read}
use Rattle.fast_machine.proofs.Flows.{fits_brought, further_brought, further_here, further_is, further_led, further_of, leads_on, left_is, text-add}
use Rattle.fast_machine.proofs.LevelNewlines.{makes_ended, makes_line}
use Rattle.fast_machine.proofs.LinesAtHand.{before_out, flows_out, line_before}

-- ---- words

module _ (bs : List ℕ) (taken moves besides : ℕ) (goes : Bool) (f g : Formatter) (w : Stored Resume) (q : Reader) (puts : PutsOfFlow bs taken moves f g)
    (leaves : Leaves goes besides (take taken bs) f.store f.reader w q) where
  -- where the words end
  abbrev there : Formatter
  there = with_read leaves.there leaves.reader g

  further_there : IsFurther f leaves.there leaves.reader
  further_there = further_brought f (take taken bs) leaves.before f.store f.reader leaves.there leaves.reader (further_here f) leaves.brings

  -- of what is stored and read little is other
  pub left_further : IsFurther g w q
  left_further = further_of f g w q puts.store puts.reader (further_led f leaves.afterwards leaves.there leaves.reader w q further_there leaves.leads)

  module _ (fits : FitsMemory f) where
    first : MakesInText (moves + leaves.before) f there
    first = puts.makes leaves.before f.store f.reader leaves.there leaves.reader (further_here f) fits leaves.brings

    fits_there : FitsMemory there
    fits_there =
        let brought = fits_brought f (take taken bs) leaves.before f.store f.reader leaves.there leaves.reader fits leaves.brings in
        record { stored = brought.stored; depth = brought.depth; line = puts.within fits.line }

    counted : moves + leaves.before + leaves.afterwards ≡ moves + besides
    counted = omega (arith, leaves.counted)

    -- the line goes on
    pub left_on : is_in_line g ≡ true → MakesInText (moves + besides) f (with_read w q g)
    left_on line =
        subst (λ n. MakesInText n f (with_read w q g)) counted
        (text-add (moves + leaves.before) leaves.afterwards f there (with_read w q g) first (leads_on leaves.afterwards g leaves.there leaves.reader w q line fits_there leaves.leads))

    -- it does not
    pub left_there : goes ≡ false → MakesInText (moves + besides) f (with_read w q g)
    left_there stops =
        let stays = leaves.stays stops in
        let count : moves + leaves.before ≡ moves + besides = omega (arith, leaves.counted, stays.0) in
        subst (λ n. MakesInText n f (with_read w q g)) count
        (subst (λ (x : Stored Resume). MakesInText (moves + leaves.before) f (with_read x q g)) (sym stays.1)
        (subst (λ (x : Reader). MakesInText (moves + leaves.before) f (with_read leaves.there x g)) (sym stays.2) first))

-- so far as what the words were put with says
leaves_of : (bs : List ℕ) (taken besides : ℕ) (goes : Bool) (f g : Formatter) (w : Stored Resume) (q : Reader) → g.store ≡ f.store → g.reader ≡ f.reader
    → Leaves goes besides (take taken bs) g.store g.reader w q → Leaves goes besides (take taken bs) f.store f.reader w q
leaves_of bs taken besides goes f g w q store reader leaves =
    subst (λ (x : Stored Resume). Leaves goes besides (take taken bs) x f.reader w q) store (subst (λ (x : Reader). Leaves goes besides (take taken bs) g.store x w q) reader leaves)

-- whether it does
left_by : (bs : List ℕ) (taken moves besides : ℕ) (goes : Bool) (f g : Formatter) (w : Stored Resume) (q : Reader) → PutsOfFlow bs taken moves f g
    → Leaves goes besides (take taken bs) f.store f.reader w q → FitsMemory f → goes ≡ is_in_line g → MakesInText (moves + besides) f (with_read w q g)
left_by bs taken moves besides true f g w q puts leaves fits is = left_on bs taken moves besides true f g w q puts leaves fits (sym is)
left_by bs taken moves besides false f g w q puts leaves fits is = left_there bs taken moves besides false f g w q puts leaves fits refl

pub left_text : (bs : List ℕ) (taken moves besides : ℕ) (goes : Bool) (f g : Formatter) (w : Stored Resume) (q : Reader) → PutsOfFlow bs taken moves f g
    → Leaves goes besides (take taken bs) g.store g.reader w q → FitsMemory f → goes ≡ is_in_line g → MakesInText (moves + besides) f (with_read w q g)
left_text bs taken moves besides goes f g w q puts leaves fits is = left_by bs taken moves besides goes f g w q puts (leaves_of bs taken besides goes f g w q puts.store puts.reader leaves) fits is

-- ---- as many as could be

-- what is read further does not matter
pub words_further : (bs : List ℕ) (taken : ℕ) (f : Formatter) (v : Stored Resume) (r : Reader) → IsFurther f v r → LongestWords bs taken f → LongestWords bs taken (with_read v r f)
words_further bs taken f v r is words =
    subst (LongestWords bs taken) (further_is f v r is)
    (record { stops = words.stops; blank = λ below line blank gap. words.blank below line blank (record { plain = gap.plain; within = gap.within }) })

-- nor does it whether the line goes on
pub line_back : (f : Formatter) (v : Stored Resume) (r : Reader) → IsFurther f v r → is_in_line (with_read v r f) ≡ true → is_in_line f ≡ true
line_back f v r is line = subst (λ (x : Formatter). is_in_line x ≡ true) (sym (further_is f v r is)) line

-- the bytes that were gathered are those still
pub gathered_still : (bs : List ℕ) (f g : Formatter) (gathered : Gathered) → g.store ≡ f.store → g.reader ≡ f.reader → IsGathered bs f.store f.reader gathered → IsGathered bs g.store g.reader gathered
gathered_still bs f g gathered store reader are =
    subst (λ (x : Stored Resume). IsGathered bs x g.reader gathered) (sym store) (subst (λ (x : Reader). IsGathered bs f.store x gathered) (sym reader) are)

pub longest_none : (bs : List ℕ) (f : Formatter) (gathered : Gathered) → IsGathered bs f.store f.reader gathered → GathersMost (rest_of f.store.levels) gathered → length bs ≡ 0 → gathered.ends ≡ false
    → LongestOfLevels f.store f.reader f
longest_none bs f gathered are most none stops = record {
  bytes = bs;
  gathered = gathered;
  are = are;
  most = most;
  taken = 0;
  goes = false;
  moves = 0;
  there = f.store;
  reader = f.reader;
  leaves = record {
    before = 0;
    afterwards = 0;
    there = f.store;
    reader = f.reader;
    counted = refl;
    brings = (refl, refl, refl);
    leads = stays_there f.store f.reader;
    stays = λ goes. (refl, refl, refl);
  };
  newlines = 0;
  left = left_times-run 0 f.store (omega arith);
  words = record { stops = λ below line plain. absurd (omega (arith, none, below)); blank = λ below line is gap. absurd (omega (arith, none, below)) };
  newline = λ all ends newline. absurd (let wrong : true ≡ false = sym ends ∙ stops in cc);
}

module _ (bs : List ℕ) (taken moves besides : ℕ) (goes : Bool) (f g : Formatter) (w : Stored Resume) (q : Reader) (gathered : Gathered) (are : IsGathered bs f.store f.reader gathered)
    (most : GathersMost (rest_of f.store.levels) gathered)
    (puts : PutsOfFlow bs taken moves f g) (leaves : Leaves goes besides (take taken bs) g.store g.reader w q) where
  -- no newline after them was put
  pub longest_left : LongestWords bs taken g → (taken ≡ length bs → gathered.ends ≡ true → IsNewline (with_read w q g) → ⊥) → LongestOfLevels f.store f.reader (with_read w q g)
  longest_left words newline =
      let from = leaves_of bs taken besides goes f g w q puts.store puts.reader leaves in
      record {
        bytes = bs;
        gathered = gathered;
        are = are;
        most = most;
        taken = taken;
        goes = goes;
        moves = besides;
        there = w;
        reader = q;
        leaves = from;
        newlines = 0;
        left = left_times-run 0 w (omega arith);
        words = words_further bs taken g w q (left_further bs taken moves besides goes f g w q puts from) words;
        newline = newline;
      }

  -- all were put, and then a newline
  pub longest_ended : (h : Formatter) → taken ≡ length bs → EndsLine (with_read w q g) h → LongestOfLevels f.store f.reader h
  longest_ended h all ends = record {
    bytes = bs;
    gathered = gathered;
    are = are;
    most = most;
    taken = taken;
    goes = goes;
    moves = besides;
    there = w;
    reader = q;
    leaves = leaves_of bs taken besides goes f g w q puts.store puts.reader leaves;
    newlines = ends.newlines;
    left = ends.left;
    words = record { stops = λ below line plain. absurd (omega (arith, all, below)); blank = λ below line is gap. absurd (omega (arith, all, below)) };
    newline = λ all ends_so newline. ends.newline newline;
  }

  -- the line does not go on, so none comes
  pub no_newline : goes ≡ is_in_line g → goes ≡ false → IsNewline (with_read w q g) → ⊥
  no_newline is stops newline =
      let line = line_back g w q (left_further bs taken moves besides goes f g w q puts (leaves_of bs taken besides goes f g w q puts.store puts.reader leaves)) newline.line in
      let wrong : true ≡ false = sym line ∙ sym is ∙ stops in
      cc

-- ---- the newline

-- it is taken
skipped : (f g : Formatter) (v : Stored Resume) → shown f.store.levels ≡ shows.Item (elements.Byte (code "\n")) → g.store ≡ f.store → v ≡ left_times 1 g.store → v ≡ run_left 1 f.store
skipped f g v shows same is = is ∙ ap (left_times 1) same ∙ left_is f.store (code "\n") shows

module _ (f g : Formatter) (v : Stored Resume) (newline : IsNewline f) (shows : shown f.store.levels ≡ shows.Item (elements.Byte (code "\n"))) (taken : v ≡ left_times 1 g.store) where
  -- the line that is collected is full
  pub text_ended : g ≡ newline_flows f → MakesInText 2 f (record g { store = v })
  text_ended is = λ e.
      let there : v ≡ run_left 1 f.store = skipped f g v shows (ap (λ (x : Formatter). x.store) is) taken in
      let same : record (newline_flows f) { store = run_left 1 f.store } ≡ record g { store = v } =
      ap (λ (x : Stored Resume). record (newline_flows f) { store = x }) (sym there) ∙ ap (λ (x : Formatter). record x { store = v }) (sym is) in
      subst (λ (x : Formatter). MakesInPlace 2 (record e { formatter = f }) (record e { formatter = x })) same
      (record { makes = λ supply. makes_ended (record e { formatter = f }) supply newline shows; place = refl })

  pub ended_flows : g ≡ newline_flows f → EndsLine f (record g { store = v })
  ended_flows is = record {
    newlines = 1;
    left = skipped f g v shows (ap (λ (x : Formatter). x.store) is) taken;
    newline = λ again. flows_out f g is again.line;
  }

  -- it is not
  pub text_line : g ≡ newline_put f → fits_line (line_gapped (collected f)) ≡ true → MakesInText 5 f (record g { store = v })
  text_line is fits = λ e.
      let there : v ≡ run_left 1 f.store = skipped f g v shows (ap (λ (x : Formatter). x.store) is) taken in
      let same : record (newline_put f) { store = run_left 1 f.store } ≡ record g { store = v } =
      ap (λ (x : Stored Resume). record (newline_put f) { store = x }) (sym there) ∙ ap (λ (x : Formatter). record x { store = v }) (sym is) in
      subst (λ (x : Formatter). MakesInPlace 5 (record e { formatter = f }) (record e { formatter = x })) same
      (record { makes = λ supply. makes_line (record e { formatter = f }) supply newline shows fits; place = refl })

  pub ended_line : g ≡ newline_put f → EndsLine f (record g { store = v })
  ended_line is = record {
    newlines = 1;
    left = skipped f g v shows (ap (λ (x : Formatter). x.store) is) taken;
    newline = λ again. before_out g (line_before f g newline is) again.line;
  }

-- it is left
pub ended_not : (f g : Formatter) → g ≡ f → (IsNewline f → ⊥) → EndsLine f g
ended_not f g is left = record {
  newlines = 0;
  left = ap (λ (x : Formatter). x.store) is ∙ left_times-run 0 f.store (omega arith);
  newline = λ newline. left (subst IsNewline is newline);
}
