-- What comes before an argument of a macro and what it begins with, taken in byte by byte.
use Prim.Native.Char.{code}
use Rattle.std.specs.Prelude.{slice_get, map}
use Rattle.std.specs.Int.{from_bool}
use Rattle.std.specs.Option.{option_map}
use Rattle.std.proofs.Common.{◌≡◌, ◌≢◌, ℕ, zero, suc, ◌+◌, ◌<◌, ◌≤◌, ◌==◌, Bool, true, false, List, [], ◌∷◌, length, take, get_or, All, Some, inl, inr, refl, sym, subst, ap, ◌∙◌, add-one, arith}
use Rattle.std.proofs.lemmas.Bool.{ne_eqb, cases_Bool}
use Rattle.std.proofs.lemmas.List.{get_or-take, length-map, length-take}
use Rattle.std.proofs.lemmas.List.Elements.{All-get_or}
use Rattle.std.proofs.lemmas.Option.{slice_get-map, slice_get-get_or}
use Rattle.nr_reading.specs.declared.ask.Ask.{Ask}
use Rattle.nr_reading.specs.declared.event.Event.TheVariants as events
use Rattle.nr_reading.specs.declared.next_item.NextItem.{NextItem}
use Rattle.nr_reading.specs.declared.next_item.NextItem.TheVariants as next_items
use Rattle.nr_reading.specs.declared.half.Half.{Half}
use Rattle.nr_reading.specs.declared.mode.PendingAct.{PendingAct}
use Rattle.nr_reading.specs.declared.mode.PendingAct.TheVariants as pending_acts
use Rattle.nr_reading.specs.declared.mode.Escape.{Escape}
use Rattle.nr_reading.specs.declared.mode.Escape.TheVariants as escapes
use Rattle.nr_reading.specs.declared.mode.Mode.{Mode}
use Rattle.nr_reading.specs.declared.mode.Mode.TheVariants as modes
use Rattle.nr_reading.specs.Half.{take_in, reads_next_at}
use Rattle.nr_reading.specs.Many.Passing.{quiet}
use Rattle.nr_reading.specs.Many.Runs.{HasTakenIn}
use Rattle.nr_reading.proofs.Asked.{half_at}
use Rattle.nr_reading.proofs.Moving.{taken_in_counted}
use Rattle.nr_reading.proofs.Paying.{pays_for}
use Rattle.nr_reading.proofs.Weighing.{at}
use Rattle.fast_input.specs.MacroLines.{is_before_argument, is_before_argument_in, blanks_left, begun_with}

-- ---- one byte

abbrev pub TakesIn : ℕ → Half → Half → Bool → Type 0
TakesIn b h k takes = take_in (next_items.Byte b) h ≡ record { half = k; event = events.Nothing; takes = takes }

-- a byte is one move more
pub taken_in_byte : (n taken b : ℕ) (takes : Bool) (fs : List NextItem) (h j k : Half) → HasTakenIn n fs h (quiet taken j) → taken < length fs → j.reading.pending_act ≡ pending_acts.Look
    → slice_get fs taken ≡ Some (next_items.Byte b) → TakesIn b j k takes → HasTakenIn (n + 1) fs h (quiet (taken + from_bool takes) k)
taken_in_byte n taken b takes fs h j k has within look some takes_in =
    taken_in_counted n taken (from_bool takes) b fs h j k (record { event = events.Nothing; takes = takes }) has within look some (sym takes_in)
    (pays_for (next_items.Byte b) j k (record { event = events.Nothing; takes = takes }) (sym takes_in) look) refl

pub nothing_taken_in : (fs : List NextItem) (h : Half) → HasTakenIn 0 fs h (quiet 0 h)
nothing_taken_in fs h = record { leads = refl; goes = λ k few. absurd (omega (arith, few)); within = omega arith; pays = omega arith; tells = refl }

pub byte_there : (bs : List ℕ) (i : ℕ) → i < length bs → slice_get (map next_items.Byte bs) i ≡ Some (next_items.Byte (get_or bs i 0))
byte_there bs i less = slice_get-map next_items.Byte bs i ∙ ap (option_map next_items.Byte) (slice_get-get_or bs i 0 less)

-- ---- where nothing is half read before an argument

pub record IsIdle (d : PendingAct) (asks : List Ask) (e : Escape) : Type 0 where
  pub pending_act : d ≡ pending_acts.Look
  pub asks_none : asks ≡ []
  pub escape : e ≡ escapes.Plain

pub idle : (d : PendingAct) (asks : List Ask) (e : Escape) → reads_next_at d asks e ≡ true → IsIdle d asks e
idle pending_acts.Look [] escapes.Plain is = record { pending_act = refl; asks_none = refl; escape = refl }
idle pending_acts.Look [] escapes.Begun is = absurd (let wrong : false ≡ true = is in cc)
idle pending_acts.Look [] escapes.Comment is = absurd (let wrong : false ≡ true = is in cc)
idle pending_acts.Look (a ∷ asks) e is = absurd (let wrong : false ≡ true = is in cc)
idle d asks e is = absurd (let wrong : false ≡ true = is in cc)

before_idle : (m : Mode) (h : Half) → is_before_argument_in m h ≡ true → IsIdle h.reading.pending_act h.asks h.reading.escape
before_idle modes.MacroBlanks h is = idle h.reading.pending_act h.asks h.reading.escape is
before_idle modes.MacroGap h is = idle h.reading.pending_act h.asks h.reading.escape is
before_idle m h is = absurd (let wrong : false ≡ true = is in cc)

pub idle_before : (h : Half) → is_before_argument h ≡ true → IsIdle h.reading.pending_act h.asks h.reading.escape
idle_before h is = before_idle h.reading.mode h is

space_by : (m : Mode) (h : Half) → is_before_argument_in m h ≡ true → h.reading.mode ≡ m → h.asks ≡ [] → h.reading.escape ≡ escapes.Plain
    → take_in (next_items.Byte (code " ")) h ≡ record { half = record h { reading = record h.reading { escape = escapes.Plain } }; event = events.Nothing; takes = true }
space_by modes.MacroBlanks h is mode none escape = rw (none, mode, escape) refl
space_by modes.MacroGap h is mode none escape = rw (none, mode, escape) refl
space_by m h is mode none escape = absurd (let wrong : false ≡ true = is in cc)

-- a space does nothing
pub takes_in_space : (h : Half) → is_before_argument h ≡ true → TakesIn (code " ") h h true
takes_in_space h is =
    let i = idle_before h is in
    space_by h.reading.mode h is refl i.asks_none i.escape
    ∙ ap (λ e. record { half = record h { reading = record h.reading { escape = e } }; event = events.Nothing; takes = true }) (sym i.escape)

spaces_taken_in : (bs : List ℕ) (h : Half) (k : ℕ) → is_before_argument h ≡ true → k ≤ length bs → ((i : ℕ) → i < k → get_or bs i 0 ≡ code " ") → HasTakenIn k (map next_items.Byte bs) h (quiet k h)
spaces_taken_in bs h zero is few all = nothing_taken_in (map next_items.Byte bs) h
spaces_taken_in bs h (suc k) is few all =
    subst (λ j. HasTakenIn j (map next_items.Byte bs) h (quiet j h)) (add-one k)
    (taken_in_byte k k (code " ") true (map next_items.Byte bs) h h h (spaces_taken_in bs h k is (omega (arith, few)) (λ i less. all i (omega (arith, less)))) (omega (arith, few, length-map bs next_items.Byte)) (idle_before h is).pending_act
    (byte_there bs k (omega (arith, few)) ∙ ap (λ b. Some (next_items.Byte b)) (all k (omega arith))) (takes_in_space h is))

-- the first spaces
pub spaces_passed : (bs : List ℕ) (h : Half) (k : ℕ) → is_before_argument h ≡ true → k ≤ length bs → All (λ b. b ≡ code " ") (take k bs) → HasTakenIn k (map next_items.Byte bs) h (quiet k h)
spaces_passed bs h k is few all =
    spaces_taken_in bs h k is few (λ i less. sym (get_or-take k bs i 0 less) ∙ All-get_or (λ b. b ≡ code " ") (take k bs) i 0 (omega (arith, less, few, length-take k bs)) all)

-- ---- what an argument begins with

-- nothing is half read, in this mode
abbrev pub half_in : Mode → Half → Half
half_in m h = half_at (at m escapes.Plain h.reading.continued h.reading.no_break) h.signs [] h.delimited h.notes

abbrev with_reading : Mode → Escape → PendingAct → List Ask → Half → Half
with_reading m e d asks h = half_at (record { mode = m; escape = e; pending_act = d; continued = h.reading.continued; no_break = h.reading.no_break }) h.signs asks h.delimited h.notes

pub is_half_in : (m : Mode) (h : Half) → h.reading.mode ≡ m → IsIdle h.reading.pending_act h.asks h.reading.escape → h ≡ half_in m h
is_half_in m h mode i =
    ap (λ (x : Mode). with_reading x h.reading.escape h.reading.pending_act h.asks h) mode
    ∙ ap (λ (x : Escape). with_reading m x h.reading.pending_act h.asks h) i.escape
    ∙ ap (λ (x : PendingAct). with_reading m escapes.Plain x h.asks h) i.pending_act
    ∙ ap (λ (x : List Ask). with_reading m escapes.Plain pending_acts.Look x h) i.asks_none

-- a byte that is no blank stays after the blanks
leaves_blanks : (b : ℕ) (h : Half) → (b == code "\\") ≡ false → (b == code " ") ≡ false → (b == code "\t") ≡ false → TakesIn b (half_in modes.MacroBlanks h) (half_in modes.MacroGap h) false
leaves_blanks b h apart other tab = rw (apart, other, tab) refl

begins_argument : (b : ℕ) (h : Half) → (b == code "\\") ≡ false → (b == code " ") ≡ false → TakesIn b (half_in modes.MacroGap h) (begun_with b (half_in modes.MacroGap h)) true
begins_argument b h apart other = elim (cases_Bool (b == code "\n")) [
  | inl newline ↦ rw (apart, newline) refl
  | inr more ↦ elim (cases_Bool (b == code "\"")) [
    | inl quote ↦ rw (apart, more, other, quote) refl
    | inr plain ↦ rw (apart, more, other, plain) refl
  ]
]

-- the mode before it is of no account
begun_alike : (b : ℕ) (h : Half) → h ≡ half_in modes.MacroBlanks h → begun_with b (half_in modes.MacroGap h) ≡ begun_with b h
begun_alike b h e = elim (cases_Bool (b == code "\n")) [
  | inl newline ↦ rw newline (ap (λ (j : Half). record j { reading = record j.reading { mode = modes.Start; pending_act = pending_acts.Call } }) (sym e))
  | inr more ↦ elim (cases_Bool (b == code "\"")) [
    | inl quote ↦ rw (more, quote) (ap (λ (j : Half). record j { reading = record j.reading { mode = modes.Quoted } }) (sym e))
    | inr plain ↦ rw (more, plain) (ap (λ (j : Half). record j { reading = record j.reading { mode = modes.Word; pending_act = pending_acts.Put b } }) (sym e))
  ]
]

module _ (bs : List ℕ) (h : Half) (k : ℕ) (before : is_before_argument h ≡ true) (less : k < length bs) (spaces : All (λ b. b ≡ code " ") (take k bs)) (apart : get_or bs k 0 ≢ code "\\") (tab : get_or bs k 0 ≢ code "\t") (other : get_or bs k 0 ≢ code " ") where
  abbrev b : ℕ
  b = get_or bs k 0

  abbrev fs : List NextItem
  fs = map next_items.Byte bs

  passed : HasTakenIn k fs h (quiet k h)
  passed = spaces_passed bs h k before (omega (arith, less)) spaces

  long : k < length fs
  long = omega (arith, less, length-map bs next_items.Byte)

  -- before the first argument the blanks are left
  begun_by : (m : Mode) → h.reading.mode ≡ m → is_before_argument_in m h ≡ true → HasTakenIn (k + blanks_left m + 1) fs h (quiet (k + 1) (begun_with b h))
  begun_by modes.MacroGap mode is =
      let e = is_half_in modes.MacroGap h mode (idle_before h before) in
      let none : k + 1 ≡ k + 0 + 1 = omega arith in
      subst (λ n. HasTakenIn n fs h (quiet (k + 1) (begun_with b h))) none
      (taken_in_byte k k b true fs h h (begun_with b h) passed long (idle_before h before).pending_act (byte_there bs k less)
      (subst (λ (j : Half). TakesIn b j (begun_with b j) true) (sym e) (begins_argument b h (ne_eqb b (code "\\") apart) (ne_eqb b (code " ") other))))
  begun_by modes.MacroBlanks mode is =
      let e = is_half_in modes.MacroBlanks h mode (idle_before h before) in
      let gap = half_in modes.MacroGap h in
      let same : k + 0 ≡ k = omega arith in
      let left : HasTakenIn (k + 1) fs h (quiet k gap) =
      subst (λ n. HasTakenIn (k + 1) fs h (quiet n gap)) same
      (taken_in_byte k k b false fs h h gap passed long (idle_before h before).pending_act (byte_there bs k less)
      (subst (λ (j : Half). TakesIn b j gap false) (sym e) (leaves_blanks b h (ne_eqb b (code "\\") apart) (ne_eqb b (code " ") other) (ne_eqb b (code "\t") tab)))) in
      let ends : begun_with b gap ≡ begun_with b h = begun_alike b h e in
      subst (λ (j : Half). HasTakenIn (k + 1 + 1) fs h (quiet (k + 1) j)) ends
      (taken_in_byte (k + 1) k b true fs h gap (begun_with b gap) left long refl (byte_there bs k less) (begins_argument b h (ne_eqb b (code "\\") apart) (ne_eqb b (code " ") other)))
  begun_by m mode is = absurd (let wrong : false ≡ true = is in cc)

  pub begun_taken_in : HasTakenIn (k + blanks_left h.reading.mode + 1) fs h (quiet (k + 1) (begun_with b h))
  begun_taken_in = begun_by h.reading.mode refl before
