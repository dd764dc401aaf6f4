-- The line of a request, taken in at once.
use Prim.Native.Char.{code}
use Rattle.std.specs.Prelude.{slice_get, map, drop, All, ◌==◌, nat_lt}
use Rattle.std.specs.Int.{from_bool}
use Rattle.std.specs.Option.{option_map}
use Rattle.std.proofs.Common.{◌≡◌, ℕ, zero, suc, ◌+◌, ◌<◌, ◌≤◌, Bool, true, false, if◌then◌else◌, List, [], ◌∷◌, ◌++◌, length, take, get_or, Some, refl, sym, subst, ap, ◌∙◌, inl, inr, add-one, length-drop, arith}
use Rattle.std.proofs.lemmas.Bool.{ne_eqb, cases_lt, lt-ltb, le-ltb}
use Rattle.std.proofs.lemmas.List.{get_or-take, length-map, length-take, take_all, take-take, take_more, get_or-drop}
use Rattle.std.proofs.lemmas.List.Elements.{All-get_or}
use Rattle.std.proofs.lemmas.Option.{slice_get-map, slice_get-get_or}
use Rattle.nr_reading.specs.declared.ask.Ask.{Ask}
use Rattle.nr_reading.specs.declared.event.Event.{Event}
use Rattle.nr_reading.specs.declared.event.Event.TheVariants as events
use Rattle.nr_reading.specs.declared.next_item.NextItem.{NextItem}
use Rattle.nr_reading.specs.declared.next_item.NextItem.TheVariants as next_items
use Rattle.nr_reading.specs.declared.half.Half.{Half}
use Rattle.nr_reading.specs.declared.mode.PendingAct.{PendingAct}
use Rattle.nr_reading.specs.declared.mode.PendingAct.TheVariants as pending_acts
use Rattle.nr_reading.specs.declared.mode.Escape.{Escape}
use Rattle.nr_reading.specs.declared.mode.Escape.TheVariants as escapes
use Rattle.nr_reading.specs.declared.mode.Mode.{Mode}
use Rattle.nr_reading.specs.declared.mode.Mode.TheVariants as modes
use Rattle.nr_reading.specs.declared.mode.Signs.{Signs}
use Rattle.nr_reading.specs.declared.notes.Notes.{Notes}
use Rattle.nr_reading.specs.Delimited.{Texts}
use Rattle.nr_reading.specs.Many.InArgument.{IsPlain}
use Rattle.nr_reading.specs.Kept.{kept}
use Rattle.nr_reading.specs.Half.{take_in, reads_next, reads_next_at}
use Rattle.nr_reading.specs.Many.Passing.{quiet}
use Rattle.nr_reading.specs.Many.RequestLines.{after_request_line}
use Rattle.nr_reading.specs.Many.Runs.{HasTakenIn}
use Rattle.nr_reading.specs.Spelled.{is_blank}
use Rattle.nr_reading.proofs.Asked.{half_at}
use Rattle.nr_reading.proofs.Moving.{taken_in_counted}
use Rattle.nr_reading.proofs.Paying.{pays_for}
use Rattle.nr_reading.proofs.Weighing.{at}

-- ---- one byte

abbrev TakesIn : ℕ → Half → Half → Event → Bool → Type 0
TakesIn b h k e takes = take_in (next_items.Byte b) h ≡ record { half = k; event = e; takes = takes }

-- a blank begins no escape
blank_apart : (b : ℕ) → is_blank b ≡ true → (b == code "\\") ≡ false
blank_apart b is = ne_eqb b (code "\\") (λ e. let wrong : false ≡ true = subst (λ x. is_blank x ≡ true) e is in absurd cc)

module _ (c n : Bool) (s : Signs) (d : Texts) (o : Notes) where
  -- before the line's arguments, and in them, so much being noted
  abbrev before : Half
  before = half_at (at modes.RequestBlanks escapes.Plain c n) s [] d o

  abbrev within : List ℕ → Half
  within line = half_at (at modes.RequestLine escapes.Plain c n) s [] d (record o { line = line })

  abbrev afterwards : List ℕ → Half
  afterwards line = half_at (at modes.Start escapes.Plain c n) s [] d (record o { line = line })

  takes_in_blank : (b : ℕ) → is_blank b ≡ true → TakesIn b before before events.Nothing true
  takes_in_blank b blank = rw (blank_apart b blank, blank) refl

  takes_in_other : (b : ℕ) → is_blank b ≡ false → (b == code "\\") ≡ false → TakesIn b before (within []) events.Nothing false
  takes_in_other b other apart = rw (apart, other) refl

  takes_in_plain : (b : ℕ) (line : List ℕ) → (b == code "\\") ≡ false → (b == code "\n") ≡ false → TakesIn b (within line) (within (kept b line)) events.Nothing true
  takes_in_plain b line apart goes_on = rw (apart, goes_on) refl

  takes_in_newline : (line : List ℕ) → TakesIn (code "\n") (within line) (afterwards line) events.Request true
  takes_in_newline line = refl

-- ---- what is kept of a line

kept_by : (line : List ℕ) (i : ℕ) → i < length line → kept (get_or line i 0) (take 256 (take i line)) ≡ take 256 (take (i + 1) line)
kept_by line i inside = elim (cases_lt i 256) [
  | inl few ↦
      let short : take 256 (take i line) ≡ take i line = take_all 256 (take i line) (omega (arith, few, length-take i line)) in
      let long : take 256 (take (i + 1) line) ≡ take (i + 1) line = take_all 256 (take (i + 1) line) (omega (arith, few, length-take (i + 1) line)) in
      let fits : nat_lt (length (take i line)) 256 ≡ true = lt-ltb (length (take i line)) 256 (omega (arith, few, length-take i line)) in
      ap (λ l. kept (get_or line i 0) l) short
      ∙ ap (λ (x : Bool). if x then take i line ++ get_or line i 0 ∷ [] else take i line) fits
      ∙ sym (take_more line i 0 inside) ∙ sym long
  | inr many ↦
      let all : take 256 (take i line) ≡ take 256 line = take-take 256 i line many in
      let more : take 256 (take (i + 1) line) ≡ take 256 line = take-take 256 (i + 1) line (omega (arith, many)) in
      let full : nat_lt (length (take 256 line)) 256 ≡ false = le-ltb (length (take 256 line)) 256 (omega (arith, many, inside, length-take 256 line)) in
      ap (λ l. kept (get_or line i 0) l) all
      ∙ ap (λ (x : Bool). if x then take 256 line ++ get_or line i 0 ∷ [] else take 256 line) full
      ∙ sym more
]

-- ---- the line

-- a byte is one move more
more : (n taken b : ℕ) (e : Event) (takes : Bool) (fs : List NextItem) (h j k : Half) → HasTakenIn n fs h (quiet taken j) → taken < length fs → j.reading.pending_act ≡ pending_acts.Look
    → slice_get fs taken ≡ Some (next_items.Byte b) → TakesIn b j k e takes → HasTakenIn (n + 1) fs h (record { taken = taken + from_bool takes; half = k; event = e })
more n taken b e takes fs h j k has within look some takes_in =
    taken_in_counted n taken (from_bool takes) b fs h j k (record { event = e; takes = takes }) has within look some (sym takes_in)
    (pays_for (next_items.Byte b) j k (record { event = e; takes = takes }) (sym takes_in) look) refl

nothing_taken_in : (fs : List NextItem) (h : Half) → HasTakenIn 0 fs h (quiet 0 h)
nothing_taken_in fs h = record { leads = refl; goes = λ k few. absurd (omega (arith, few)); within = omega arith; pays = omega arith; tells = refl }

module _ (bs : List ℕ) (c n : Bool) (s : Signs) (d : Texts) (o : Notes) where
  abbrev fs : List NextItem
  fs = map next_items.Byte bs

  got : (i : ℕ) → i < length bs → slice_get fs i ≡ Some (next_items.Byte (get_or bs i 0))
  got i less = slice_get-map next_items.Byte bs i ∙ ap (option_map next_items.Byte) (slice_get-get_or bs i 0 less)

  blanks_taken_in : (k : ℕ) → k ≤ length bs → ((i : ℕ) → i < k → is_blank (get_or bs i 0) ≡ true) → HasTakenIn k fs (before c n s d o) (quiet k (before c n s d o))
  blanks_taken_in zero few all = nothing_taken_in fs (before c n s d o)
  blanks_taken_in (suc k) few all =
      subst (λ j. HasTakenIn j fs (before c n s d o) (quiet j (before c n s d o))) (add-one k)
      (more k k (get_or bs k 0) events.Nothing true fs (before c n s d o) (before c n s d o) (before c n s d o)
      (blanks_taken_in k (omega (arith, few)) (λ i less. all i (omega (arith, less)))) (omega (arith, few, length-map bs next_items.Byte)) refl (got k (omega (arith, few)))
      (takes_in_blank c n s d o (get_or bs k 0) (all k (omega arith))))

  -- after k blanks the arguments begin, of which so many bytes are noted
  module _ (k : ℕ) (line : List ℕ) (begins : HasTakenIn (k + 1) fs (before c n s d o) (quiet k (within c n s d o []))) (fits : k + length line ≤ length bs) (same : (i : ℕ) → i < length line → get_or bs (k + i) 0 ≡ get_or line i 0)
      (plain : (i : ℕ) → i < length line → IsPlain (code "\n") (get_or line i 0)) where
    noted : (i : ℕ) → i ≤ length line → HasTakenIn (k + 1 + i) fs (before c n s d o) (quiet (k + i) (within c n s d o (take 256 (take i line))))
    noted zero few = let one : k + 1 ≡ k + 1 + 0 = omega arith in let none : k ≡ k + 0 = omega arith in
        subst (λ m. HasTakenIn m fs (before c n s d o) (quiet (k + 0) (within c n s d o []))) one (subst (λ m. HasTakenIn (k + 1) fs (before c n s d o) (quiet m (within c n s d o []))) none begins)
    noted (suc i) few =
        let less : i < length line = omega (arith, few) in
        let p = plain i less in
        let moves : k + 1 + i + 1 ≡ k + 1 + suc i = omega arith in
        let taken : k + i + 1 ≡ k + suc i = omega arith in
        let next : i + 1 ≡ suc i = omega arith in
        subst (λ m. HasTakenIn m fs (before c n s d o) (quiet (k + suc i) (within c n s d o (take 256 (take (suc i) line))))) moves
        (subst (λ m. HasTakenIn (k + 1 + i + 1) fs (before c n s d o) (quiet m (within c n s d o (take 256 (take (suc i) line))))) taken
        (subst (λ m. HasTakenIn (k + 1 + i + 1) fs (before c n s d o) (quiet (k + i + 1) (within c n s d o (take 256 (take m line))))) next
        (subst (λ l. HasTakenIn (k + 1 + i + 1) fs (before c n s d o) (quiet (k + i + 1) (within c n s d o l))) (kept_by line i less)
        (more (k + 1 + i) (k + i) (get_or line i 0) events.Nothing true fs (before c n s d o) (within c n s d o (take 256 (take i line))) (within c n s d o (kept (get_or line i 0) (take 256 (take i line))))
        (noted i (omega (arith, few))) (omega (arith, few, fits, length-map bs next_items.Byte)) refl
        (got (k + i) (omega (arith, few, fits)) ∙ ap (λ b. Some (next_items.Byte b)) (same i less))
        (takes_in_plain c n s d o (get_or line i 0) (take 256 (take i line)) (ne_eqb _ (code "\\") p.2) (ne_eqb _ (code "\n") p.1))))))

    ended : k + length line < length bs → get_or bs (k + length line) 0 ≡ code "\n"
        → HasTakenIn (k + length line + 2) fs (before c n s d o) (record { taken = k + length line + 1; half = afterwards c n s d o (take 256 line); event = events.Request })
    ended less is =
        let moves : k + 1 + length line + 1 ≡ k + length line + 2 = omega arith in
        let whole : take (length line) line ≡ line = take_all (length line) line (omega arith) in
        subst (λ m. HasTakenIn m fs (before c n s d o) (record { taken = k + length line + 1; half = afterwards c n s d o (take 256 line); event = events.Request })) moves
        (subst (λ l. HasTakenIn (k + 1 + length line + 1) fs (before c n s d o) (record { taken = k + length line + 1; half = afterwards c n s d o (take 256 l); event = events.Request })) whole
        (more (k + 1 + length line) (k + length line) (code "\n") events.Request true fs (before c n s d o) (within c n s d o (take 256 (take (length line) line))) (afterwards c n s d o (take 256 (take (length line) line)))
        (noted (length line) (omega arith)) (omega (arith, less, length-map bs next_items.Byte)) refl
        (got (k + length line) less ∙ ap (λ b. Some (next_items.Byte b)) is)
        (takes_in_newline c n s d o (take 256 (take (length line) line)))))

  -- the arguments begin with a byte that is no blank, and begins no escape
  begun : (k : ℕ) → k < length bs → ((i : ℕ) → i < k → is_blank (get_or bs i 0) ≡ true) → is_blank (get_or bs k 0) ≡ false → (get_or bs k 0 == code "\\") ≡ false
      → HasTakenIn (k + 1) fs (before c n s d o) (quiet k (within c n s d o []))
  begun k less all other apart =
      let none : k + 0 ≡ k = omega arith in
      subst (λ m. HasTakenIn (k + 1) fs (before c n s d o) (quiet m (within c n s d o []))) none
      (more k k (get_or bs k 0) events.Nothing false fs (before c n s d o) (before c n s d o) (within c n s d o [])
      (blanks_taken_in k (omega (arith, less)) all) (omega (arith, less, length-map bs next_items.Byte)) refl (got k less)
      (takes_in_other c n s d o (get_or bs k 0) other apart))

-- with nothing asked, and nothing pending, before a request's arguments
begins : (h : Half) → h.reading.mode ≡ modes.RequestBlanks → reads_next h ≡ true → h ≡ before h.reading.continued h.reading.no_break h.signs h.delimited h.notes
begins h blanks next = by h.reading.pending_act h.asks h.reading.escape h.reading.mode next blanks
  where
    by : (x : PendingAct) (asks : List Ask) (e : Escape) (m : Mode) → reads_next_at x asks e ≡ true → m ≡ modes.RequestBlanks
        → half_at (record { mode = m; escape = e; pending_act = x; continued = h.reading.continued; no_break = h.reading.no_break }) h.signs asks h.delimited h.notes
        ≡ before h.reading.continued h.reading.no_break h.signs h.delimited h.notes
    by pending_acts.Look [] escapes.Plain m next blanks = rw blanks refl
    by pending_acts.Look [] escapes.Begun m next blanks = absurd (let wrong : false ≡ true = next in cc)
    by pending_acts.Look [] escapes.Comment m next blanks = absurd (let wrong : false ≡ true = next in cc)
    by pending_acts.Look (a ∷ asks) e m next blanks = absurd (let wrong : false ≡ true = next in cc)
    by x asks e m next blanks = absurd (let wrong : false ≡ true = next in cc)

-- k blanks come, then the line's arguments, and a newline
pub request-line-taken_in : (bs : List ℕ) (k : ℕ) (line : List ℕ) (h : Half) → h.reading.mode ≡ modes.RequestBlanks → reads_next h ≡ true → k + length line < length bs
    → ((i : ℕ) → i < k → is_blank (get_or bs i 0) ≡ true) → is_blank (get_or bs k 0) ≡ false
    → ((i : ℕ) → i < length line → get_or bs (k + i) 0 ≡ get_or line i 0) → ((i : ℕ) → i < length line → IsPlain (code "\n") (get_or line i 0)) → get_or bs (k + length line) 0 ≡ code "\n"
    → HasTakenIn (k + length line + 2) (map next_items.Byte bs) h (record { taken = k + length line + 1; half = after_request_line line h; event = events.Request })
request-line-taken_in bs k line h blanks next less all other same plain newline =
    let c = h.reading.continued in
    let n = h.reading.no_break in
    let is_h = begins h blanks next in
    let apart : (get_or bs k 0 == code "\\") ≡ false = ne_eqb (get_or bs k 0) (code "\\") (first line same plain newline) in
    subst (λ (j : Half). HasTakenIn (k + length line + 2) (map next_items.Byte bs) j (record { taken = k + length line + 1; half = after_request_line line j; event = events.Request })) (sym is_h)
    (ended bs c n h.signs h.delimited h.notes k line (begun bs c n h.signs h.delimited h.notes k (omega (arith, less)) all other apart) (omega (arith, less)) same plain less newline)
  where
    first : (l : List ℕ) → ((i : ℕ) → i < length l → get_or bs (k + i) 0 ≡ get_or l i 0) → ((i : ℕ) → i < length l → IsPlain (code "\n") (get_or l i 0)) → get_or bs (k + length l) 0 ≡ code "\n" → get_or bs k 0 ≡ code "\\" → ⊥
    first [] same plain newline e =
        let none : k + 0 ≡ k = omega arith in
        let wrong : code "\\" ≡ code "\n" = sym e ∙ ap (λ m. get_or bs m 0) (sym none) ∙ newline in absurd (omega (arith, wrong))
    first (b ∷ l) same plain newline e =
        let none : k + 0 ≡ k = omega arith in
        (plain 0 (omega arith)).2 (sym (same 0 (omega arith)) ∙ ap (λ m. get_or bs m 0) none ∙ e)

-- the same of what lies near, as the program finds it
pub line-at-hand : (bs rest : List ℕ) (m k count : ℕ) (h : Half) → rest ≡ drop k (take m bs) → h.reading.mode ≡ modes.RequestBlanks → reads_next h ≡ true → k ≤ length (take m bs)
    → All (λ b. is_blank b ≡ true) (take k (take m bs)) → (k < length (take m bs) → is_blank (get_or (take m bs) k 0) ≡ false)
    → All (IsPlain (code "\n")) (take count rest) → count < length rest → get_or rest count 0 ≡ code "\n"
    → HasTakenIn (k + count + 2) (map next_items.Byte bs) h (record { taken = k + count + 1; half = after_request_line (take count rest) h; event = events.Request })
line-at-hand bs rest m k count h is blanks next next_item all stops plain inside newline =
    let near = take m bs in
    let line = take count rest in
    let near_length = length-take m bs in
    let rest_length = ap length is ∙ length-drop k near in
    let long : length line ≡ count = omega (arith, length-take count rest, inside) in
    let in_near : (i : ℕ) → i < length near → get_or near i 0 ≡ get_or bs i 0 = λ i less. get_or-take m bs i 0 (omega (arith, less, near_length)) in
    let in_rest : (i : ℕ) → i < length rest → get_or rest i 0 ≡ get_or bs (k + i) 0 =
    λ i less. ap (λ ys. get_or ys i 0) is ∙ get_or-drop k near i 0 ∙ in_near (k + i) (omega (arith, less, rest_length, next_item)) in
    let below : k < length near = omega (arith, inside, rest_length) in
    subst (λ n. HasTakenIn (k + n + 2) (map next_items.Byte bs) h (record { taken = k + n + 1; half = after_request_line line h; event = events.Request })) long
    (request-line-taken_in bs k line h blanks next (omega (arith, long, inside, rest_length, near_length))
    (λ i less.
    subst (λ b. is_blank b ≡ true) (get_or-take k near i 0 less ∙ in_near i (omega (arith, less, below)))
    (All-get_or (λ b. is_blank b ≡ true) (take k near) i 0 (omega (arith, less, below, length-take k near)) all))
    (ap is_blank (sym (in_near k below)) ∙ stops below)
    (λ i less. sym (in_rest i (omega (arith, less, long, inside))) ∙ sym (get_or-take count rest i 0 (omega (arith, less, long))))
    (λ i less. All-get_or (IsPlain (code "\n")) line i 0 less plain)
    (ap (λ i. get_or bs (k + i) 0) long ∙ sym (in_rest count inside) ∙ newline))
