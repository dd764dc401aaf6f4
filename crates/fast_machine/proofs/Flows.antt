-- Bytes that come of levels in a text line that has begun, with the moves that lead to each.
use Rattle.std.proofs.Common.{◌≡◌, ℕ, ◌+◌, ◌≤◌, true, List, [], ◌∷◌, ◌++◌, length, drop, refl, sym, ap, ◌∙◌, subst, arith}
use Rattle.std.proofs.lemmas.List.Sums.{sum_by-cons}
use Rattle.nr_fill.specs.Piece.{line_cells}
use Rattle.nr_store.specs.Laws.{left_times-run}
use Rattle.nr_store.specs.Store.{Level, Mark, Read, Stored, charge_of, left, level_charge, shown}
use Rattle.nr_store.specs.Windows.{levels_after, run_left}
use Rattle.nr_store.specs.declared.element.Element.TheVariants as elements
use Rattle.nr_store.specs.declared.shown.Shown.TheVariants as shows
use Rattle.nr_reading.specs.declared.event.Event.{Event}
use Rattle.nr_reading.specs.declared.event.Event.TheVariants as events
use Rattle.fast_input.specs.Gathering.{Brings, LeadsInText}
use Rattle.nr_input.specs.Limits as limits
use Rattle.nr_input.specs.declared.reader.Reader.{Reader}
use Rattle.fast_input.proofs.LevelParts.{many_of_all}
use Rattle.nr_formatter.specs.Access.{collected}
use Rattle.nr_formatter.specs.Limits.{FitsMemory}
use Rattle.nr_formatter.specs.Many.Runs.{is_in_line}
use Rattle.nr_formatter.specs.declared.formatter.Formatter.{Formatter}
use Rattle.nr_formatter.specs.declared.tasks.Resume.{Resume}
use Rattle.nr_formatter.proofs.PlainText.{in_line}
use Rattle.nr_machine.specs.Holding.{Shape}
use Rattle.fast_machine.specs.Running.{Flows, IsFurther, MakesInPlace, MakesInText, with_read}
use Rattle.fast_machine.proofs.LevelText.{one_left, showing}
use Rattle.fast_machine.proofs.ReadRuns.{makes_reading}
use Rattle.fast_machine.proofs.Running.{in_place-add, in_place-none}

-- ---- what stays as the formatter has it

-- what differs is put in
pub further_is : (f : Formatter) (v : Stored Resume) (r : Reader) → IsFurther f v r
    → record f {
      store = record f.store { levels = v.levels; texts = v.texts; arguments = v.arguments };
      reader = record f.reader { half = record f.reader.half { notes = record f.reader.half.notes { asked = r.half.notes.asked } }; burst = r.burst };
    } ≡ with_read v r f
further_is f v r is =
    ap (λ (x : Stored Resume). record f {
      store = x;
      reader = record f.reader { half = record f.reader.half { notes = record f.reader.half.notes { asked = r.half.notes.asked } }; burst = r.burst };
    }) (sym is.stored)
    ∙ ap (λ (x : Reader). record f { store = v; reader = x }) (sym is.reader)

-- nothing is other
pub further_here : (f : Formatter) → IsFurther f f.store f.reader
further_here f = record { stored = refl; reader = refl }

-- another formatter has the same
pub further_of : (f g : Formatter) (v : Stored Resume) (r : Reader) → g.store ≡ f.store → g.reader ≡ f.reader → IsFurther f v r → IsFurther g v r
further_of f g v r store reader is = record {
  stored = is.stored ∙ ap (λ (x : Stored Resume). record x { levels = v.levels; texts = v.texts; arguments = v.arguments }) (sym store);
  reader = is.reader ∙ ap (λ (x : Reader). record x { half = record x.half { notes = record x.half.notes { asked = r.half.notes.asked } }; burst = r.burst }) (sym reader);
}

-- after moves that lead to more
pub further_led : (f : Formatter) (n : ℕ) (v : Stored Resume) (r : Reader) (w : Stored Resume) (q : Reader) → IsFurther f v r → LeadsInText n v r w q → IsFurther f w q
further_led f n v r w q is leads = record {
  stored = leads.stored ∙ ap (λ (x : Stored Resume). record x { levels = w.levels; texts = w.texts; arguments = w.arguments }) is.stored;
  reader = leads.reader ∙ ap (λ (x : Reader). record x { half = record x.half { notes = record x.half.notes { asked = q.half.notes.asked } }; burst = q.burst }) is.reader;
}

-- after a byte
further_left : (f : Formatter) (v : Stored Resume) (r : Reader) → IsFurther f v r → IsFurther f (run_left 1 v) r
further_left f v r is = record {
  stored = ap (λ (x : Stored Resume). record x { levels = levels_after 1 v.levels; texts = v.texts; arguments = v.arguments }) is.stored;
  reader = is.reader;
}

-- ---- what has a limit

-- what is left of a text is charged nothing
charge_after : (v : Stored Resume) (levels : List (Level Resume)) → charge_of (record v { levels = levels_after 1 levels }) ≡ charge_of (record v { levels = levels })
charge_after v [] = refl
charge_after v (Mark mode ∷ ls) = refl
charge_after v (Read l ∷ ls) = omega (arith, sum_by-cons level_charge (Read l) ls, sum_by-cons level_charge (Read (record l { rest = drop 1 l.rest })) ls)

depth_after : (levels : List (Level Resume)) → length (levels_after 1 levels) ≡ length levels
depth_after [] = refl
depth_after (l ∷ ls) = refl

-- after moves that lead to more
pub fits_led : (f : Formatter) (n : ℕ) (v : Stored Resume) (r : Reader) (w : Stored Resume) (q : Reader) → LeadsInText n v r w q → FitsMemory (with_read v r f) → FitsMemory (with_read w q f)
fits_led f n v r w q leads fits = record { stored = leads.charge fits.stored; depth = leads.depth fits.depth; line = fits.line }

-- after a byte
fits_left : (f : Formatter) (v : Stored Resume) (r : Reader) → FitsMemory (with_read v r f) → FitsMemory (with_read (run_left 1 v) r f)
fits_left f v r fits = record {
  stored = subst (λ n. n ≤ v.limit) (sym (charge_after v v.levels)) fits.stored;
  depth = subst (λ n. n ≤ v.deepest) (sym (depth_after v.levels)) fits.depth;
  line = fits.line;
}

-- ---- bytes one after another

-- a byte is taken
pub left_is : (v : Stored Resume) (b : ℕ) → shown v.levels ≡ shows.Item (elements.Byte b) → left v.levels v ≡ run_left 1 v
left_is v b is = left_times-run 1 v (one_left v.levels (elements.Byte b) (showing v.levels (elements.Byte b) is))

-- these come, and then those
record Split (xs ys : List ℕ) (n : ℕ) (v : Stored Resume) (r : Reader) (w : Stored Resume) (q : Reader) : Type 0 where
  before : ℕ
  afterwards : ℕ
  there : Stored Resume
  reader : Reader
  counted : n ≡ before + afterwards
  first : Brings before xs v r there reader
  more : Brings afterwards ys there reader w q

split : (xs ys : List ℕ) (n : ℕ) (v : Stored Resume) (r : Reader) (w : Stored Resume) (q : Reader) → Brings n (xs ++ ys) v r w q → Split xs ys n v r w q
split [] ys n v r w q brings = record { before = 0; afterwards = n; there = v; reader = r; counted = omega arith; first = (refl, refl, refl); more = brings }
split (x ∷ xs) ys n v r w q brings =
    let u : Stored Resume = brings.2 in
    let rest = split xs ys brings.1 (left u.levels u) brings.3 w q brings.7 in
    record {
      before = brings.0 + rest.before;
      afterwards = rest.afterwards;
      there = rest.there;
      reader = rest.reader;
      counted = omega (arith, brings.4, rest.counted);
      first = (brings.0, rest.before, u, brings.3, refl, brings.5, brings.6, rest.first);
      more = rest.more;
    }

-- what stays and what has a limit, after them
pub further_brought : (f : Formatter) (bs : List ℕ) (n : ℕ) (v : Stored Resume) (r : Reader) (w : Stored Resume) (q : Reader) → IsFurther f v r → Brings n bs v r w q → IsFurther f w q
further_brought f [] n v r w q is brings =
    subst (λ (x : Stored Resume). IsFurther f x q) (sym brings.1) (subst (λ (x : Reader). IsFurther f v x) (sym brings.2) is)
further_brought f (b ∷ bs) n v r w q is brings =
    let u : Stored Resume = brings.2 in
    let there = further_led f brings.0 v r u brings.3 is brings.5 in
    further_brought f bs brings.1 (left u.levels u) brings.3 w q
    (subst (λ (x : Stored Resume). IsFurther f x brings.3) (sym (left_is u b brings.6)) (further_left f u brings.3 there)) brings.7

pub fits_brought : (f : Formatter) (bs : List ℕ) (n : ℕ) (v : Stored Resume) (r : Reader) (w : Stored Resume) (q : Reader) → FitsMemory (with_read v r f) → Brings n bs v r w q
    → FitsMemory (with_read w q f)
fits_brought f [] n v r w q fits brings =
    subst (λ (x : Stored Resume). FitsMemory (with_read x q f)) (sym brings.1) (subst (λ (x : Reader). FitsMemory (with_read v x f)) (sym brings.2) fits)
fits_brought f (b ∷ bs) n v r w q fits brings =
    let u : Stored Resume = brings.2 in
    let there = fits_led f brings.0 v r u brings.3 brings.5 fits in
    fits_brought f bs brings.1 (left u.levels u) brings.3 w q
    (subst (λ (x : Stored Resume). FitsMemory (with_read x brings.3 f)) (sym (left_is u b brings.6)) (fits_left f u brings.3 there)) brings.7

-- ---- moves that lead to more

same_limits : (n : ℕ) (v : Stored Resume) (r : Reader) (w : Stored Resume) (q : Reader) → LeadsInText n v r w q → limits.limits_of w q ≡ limits.limits_of v r
same_limits n v r w q leads = ap (λ (x : Stored Resume). limits.limits_of x q) leads.stored ∙ ap (λ (x : Reader). limits.limits_of v x) leads.reader

-- a line goes on
pub line_further : (f : Formatter) (v : Stored Resume) (r : Reader) → IsFurther f v r → is_in_line f ≡ true → is_in_line (with_read v r f) ≡ true
line_further f v r is line = subst (λ (x : Formatter). is_in_line x ≡ true) (further_is f v r is) line

-- They are moves of the engine.
pub leads_on : (n : ℕ) (f : Formatter) (v : Stored Resume) (r : Reader) (w : Stored Resume) (q : Reader) → is_in_line f ≡ true → FitsMemory (with_read v r f) → LeadsInText n v r w q
    → MakesInText n (with_read v r f) (with_read w q f)
leads_on n f v r w q is fits leads = λ e.
    let line = in_line f is in
    let from : Shape = record e { formatter = with_read v r f } in
    let there = fits_led f n v r w q leads fits in
    subst (λ (x : Event). MakesInPlace n from (record e { formatter = record f { store = w; reader = q; event = x } })) (sym line.event)
    (record {
      makes = λ supply.
          makes_reading n events.Nothing w q e.place from supply supply (record { springs = line.springs; event = line.event; task = line.task }) (λ c holds. leads.reads c e.place supply holds)
          (many_of_all n v w e.place e.place r q events.Nothing (leads.pays e.place)) (same_limits n v r w q leads) (record { stored = there.stored; depth = there.depth; line = there.line });
      place = refl;
    })

-- ---- moves in text

pub text_none : (f : Formatter) → MakesInText 0 f f
text_none f = λ e. in_place-none (record e { formatter = f })

pub text-add : (n m : ℕ) (f g h : Formatter) → MakesInText n f g → MakesInText m g h → MakesInText (n + m) f h
text-add n m f g h a b = λ e. in_place-add n m (record e { formatter = f }) (record e { formatter = g }) (record e { formatter = h }) (a e) (b e)

-- no bytes
pub flows_none : (f : Formatter) → Flows [] 0 f f
flows_none f = λ n v r w q is fits brings.
    let from : Formatter = with_read v r f in
    subst (λ k. MakesInText (0 + k) from (with_read w q f)) (sym brings.0)
    (subst (λ (x : Stored Resume). MakesInText 0 from (with_read x q f)) (sym brings.1) (subst (λ (x : Reader). MakesInText 0 from (with_read v x f)) (sym brings.2) (text_none from)))

-- One byte: it is put from one formatter to the other wherever it is shown.
abbrev pub Puts : ℕ → ℕ → Formatter → Formatter → Type 0
Puts b moves f g = (v : Stored Resume) (r : Reader) → IsFurther f v r → shown v.levels ≡ shows.Item (elements.Byte b) → MakesInText moves (with_read v r f) (with_read (run_left 1 v) r g)

pub flows_one : (b moves : ℕ) (f g : Formatter) → is_in_line f ≡ true → Puts b moves f g → Flows (b ∷ []) moves f g
flows_one b moves f g line puts = λ n v r w q is fits brings.
    let k = brings.0 in
    let u : Stored Resume = brings.2 in
    let s : Reader = brings.3 in
    let last = brings.7 in
    let from : Formatter = with_read v r f in
    let after : Formatter = with_read (run_left 1 u) s g in
    let put = puts u s (further_led f k v r u s is brings.5) brings.6 in
    let count : k + moves ≡ moves + n = omega (arith, brings.4, last.0) in
    subst (λ m. MakesInText m from (with_read w q g)) count
    (subst (λ (x : Stored Resume). MakesInText (k + moves) from (with_read x q g)) (sym (last.1 ∙ left_is u b brings.6))
    (subst (λ (x : Reader). MakesInText (k + moves) from (with_read (run_left 1 u) x g)) (sym last.2)
    (text-add k moves from (with_read u s f) after (leads_on k f v r u s line fits brings.5) put)))

-- some bytes, and then more
pub flows-add : (xs ys : List ℕ) (m k : ℕ) (f g h : Formatter) → g.store ≡ f.store → g.reader ≡ f.reader → (line_cells (collected f) ≤ f.line.limit → line_cells (collected g) ≤ g.line.limit)
    → Flows xs m f g → Flows ys k g h → Flows (xs ++ ys) (m + k) f h
flows-add xs ys m k f g h store reader within first more = λ n v r w q is fits brings.
    let parts = split xs ys n v r w q brings in
    let from : Formatter = with_read v r f in
    let after : Formatter = with_read w q h in
    let there = fits_brought f xs parts.before v r parts.there parts.reader fits parts.first in
    let fits_there : FitsMemory (with_read parts.there parts.reader g) = record { stored = there.stored; depth = there.depth; line = within fits.line } in
    let further = further_of f g parts.there parts.reader store reader (further_brought f xs parts.before v r parts.there parts.reader is parts.first) in
    let count : m + parts.before + (k + parts.afterwards) ≡ m + k + n = omega (arith, parts.counted) in
    subst (λ j. MakesInText j from after) count
    (text-add (m + parts.before) (k + parts.afterwards) from (with_read parts.there parts.reader g) after (first parts.before v r parts.there parts.reader is fits parts.first)
    (more parts.afterwards parts.there parts.reader w q further fits_there parts.more))
