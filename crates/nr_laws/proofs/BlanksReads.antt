-- What is read while blanks of a line's beginning wait for what comes after them.
use Prim.Native.Char.{code}
use Rattle.std.specs.Prelude.{nat_le, not, ◌||◌, ◌&&◌}
use Rattle.std.proofs.Common.{◌≡◌, ℕ, ◌+◌, ◌==◌, ◌≤◌, Bool, true, false, if◌then◌else◌, List, [], ◌∷◌, Option, None, Some, refl, sym, subst, ◌∙◌, arith}
use Rattle.nr_reading.specs.declared.ask.Ask.{Ask}
use Rattle.nr_reading.specs.declared.ask.Kind.{Kind}
use Rattle.nr_reading.specs.declared.ask.Kind.TheVariants as kinds
use Rattle.nr_reading.specs.declared.ask.Sign.{Sign}
use Rattle.nr_reading.specs.declared.ask.Sign.TheVariants as signs
use Rattle.nr_reading.specs.declared.ask.Stage.{Stage}
use Rattle.nr_reading.specs.declared.ask.Stage.TheVariants as stages
use Rattle.nr_reading.specs.declared.event.Event.{Event}
use Rattle.nr_reading.specs.declared.event.Event.TheVariants as events
use Rattle.nr_reading.specs.declared.next_item.NextItem.{NextItem}
use Rattle.nr_reading.specs.declared.next_item.NextItem.TheVariants as next_items
use Rattle.nr_reading.specs.declared.half.Half.{Half}
use Rattle.nr_reading.specs.declared.mode.PendingAct.TheVariants as pending_acts
use Rattle.nr_reading.specs.declared.mode.Escape.{Escape}
use Rattle.nr_reading.specs.declared.mode.Escape.TheVariants as escapes
use Rattle.nr_reading.specs.declared.mode.Mode.TheVariants as modes
use Rattle.nr_reading.specs.declared.mode.Reading.{Reading}
use Rattle.nr_reading.specs.declared.mode.Signs.{Signs}
use Rattle.nr_reading.specs.Ask.{begun_ask, answer, answer_byte, argument_asked, answer_first, answer_two, answer_bracket, answer_digit, cut, is_argument, is_digit, is_given, is_unsigned, reads_argument}
use Rattle.nr_reading.specs.Ended.{pending_of, event_of}
use Rattle.nr_reading.specs.Escape.{offer, offer_byte, raw_offer, escaped as copied_escape}
use Rattle.nr_reading.specs.Half.{TakenIn, take_in, taken_in_directly, answered, offered, hear_by, over_by, offer_to, take_in_by, asking, too_deep, beginning, silent, escaping as escaping_half}
use Rattle.nr_reading.specs.Mode.{is_direct, reads_arguments}
use Rattle.nr_reading.specs.Nesting.{may_nest}
use Rattle.nr_reading.specs.Notes.{Note}
use Rattle.nr_reading.specs.Notes as notes
use Rattle.nr_reading.specs.Reader.{unescaped, after_backslash, ends_comment, direct, direct_by}
use Rattle.nr_reading.specs.Spelled.{is_blank, is_empty, name_of, spelled}
use Rattle.nr_reading.specs.Step.{Step, to, escaping, go, tell}
use Rattle.nr_reading.specs.Text.{begin_escape, one_blank_more, text_after_blanks, leading}
use Rattle.nr_reading.specs.TextEscape.{plain, interpolated, escape_by, spliced_or, escaped}
use Rattle.nr_reading.specs.Weights.{blanks_of_mode, blanks_of_pending}

-- what may be emitted while blanks wait
abbrev pub IsQuiet : Event → Type 0
IsQuiet events.Nothing = Unit {0}
IsQuiet events.Given = Unit {0}
IsQuiet events.Width = Unit {0}
IsQuiet events.Font = Unit {0}
IsQuiet events.Special = Unit {0}
IsQuiet events.Horizontal = Unit {0}
IsQuiet events.Rule = Unit {0}
IsQuiet e = ⊥

-- After an item the blanks still wait, or they are pending, or there are none but one.
pub data After (e : Event) (r : Reading) : Type 0 where
  Wait : (n : ℕ) → r.mode ≡ modes.Leading n → blanks_of_pending r.pending_act ≡ 0 → IsQuiet e → After e r
  Tell : (n : ℕ) → r.mode ≡ modes.Text → r.pending_act ≡ pending_acts.Lead n → e ≡ events.Nothing → After e r
  Few : blanks_of_mode r.mode + blanks_of_pending r.pending_act ≤ 1 → After e r

abbrev Steps : Step → Type 0
Steps s = After s.event s.reading

abbrev TakesIn : TakenIn → Type 0
TakesIn m = After m.event m.half.reading

choose : (c : Bool) (x y : Step) → Steps x → Steps y → Steps (if c then x else y)
choose true x y first second = first
choose false x y first second = second

-- ---- items as they are

module _ (n : ℕ) (r : Reading) (mode : r.mode ≡ modes.Leading n) (none : blanks_of_pending r.pending_act ≡ 0) where
  leading-after : (f : NextItem) → Steps (leading f n r)
  leading-after next_items.Mark = Wait n mode none tt
  leading-after (next_items.Byte b) =
      let c3 : Step = if b == code "\\" then begin_escape r else text_after_blanks n r in
      let c2 : Step = if b == code " " then go (to (modes.Leading (one_blank_more n)) r) else c3 in
      choose (b == code "\n") (tell events.Empty (to modes.Start r)) c2 (Few (omega (arith, none)))
      (choose (b == code " ") (go (to (modes.Leading (one_blank_more n)) r)) c3 (Wait (one_blank_more n) refl none tt)
      (choose (b == code "\\") (begin_escape r) (text_after_blanks n r) (Wait n mode none tt) (Tell n refl refl refl)))
  leading-after (next_items.Cell x) = Tell n refl refl refl
  leading-after (next_items.LineEnd k) = Few (omega (arith, none))
  leading-after next_items.Resume = Few (omega (arith, none))
  leading-after next_items.Over = Few (omega (arith, none))

  spliced-after : (b : ℕ) (k : Option Kind) (long : Bool) → Steps (spliced_or b k long r)
  spliced-after b (Some k) long = Wait n mode none tt
  spliced-after b None long =
      choose (b == code "\n") (go (plain r)) (if b == code "\"" then go (escaping escapes.Comment r) else escape_by b long r.mode r) (Wait n mode none tt)
      (choose (b == code "\"") (go (escaping escapes.Comment r)) (escape_by b long r.mode r) (Wait n mode none tt) (rw mode (Tell n refl refl refl)))

  escaped-after : (f : NextItem) (long : Bool) → Steps (escaped f long r)
  escaped-after next_items.Mark long = Wait n mode none tt
  escaped-after (next_items.Byte b) long = spliced-after b (interpolated b) long
  escaped-after (next_items.Cell x) long = rw mode (Tell n refl refl refl)
  escaped-after (next_items.LineEnd k) long = rw mode (Tell n refl refl refl)
  escaped-after next_items.Resume long = rw mode (Tell n refl refl refl)
  escaped-after next_items.Over long = rw mode (Tell n refl refl refl)

  unescaped-after : (f : NextItem) (s : Signs) → Steps (unescaped r.mode f s r)
  unescaped-after f s = subst (λ m. Steps (unescaped m f s r)) (sym mode) (leading-after f)

direct-after : (e : Escape) (n : ℕ) (f : NextItem) (s : Signs) (r : Reading) → r.mode ≡ modes.Leading n → blanks_of_pending r.pending_act ≡ 0 → Steps (direct_by e f s r)
direct-after escapes.Plain n f s r mode none = unescaped-after n r mode none f s
direct-after escapes.Begun n f s r mode none = subst (λ m. Steps (after_backslash m f s r)) (sym mode) (escaped-after n r mode none f s.long)
direct-after escapes.Comment n f s r mode none =
    choose (ends_comment f) (unescaped r.mode f s (plain r)) (go r) (unescaped-after n (plain r) mode none f s) (Wait n mode none tt)

directly-by : (k : Note) (s : Step) (h : Half) → Steps s → TakesIn (taken_in_directly (record s { note = k }) h)
directly-by (notes.Begin a) s h after = after
directly-by k s h after = after

directly : (s : Step) (h : Half) → Steps s → TakesIn (taken_in_directly s h)
directly s h after = directly-by s.note s h after

-- ---- escapes whose arguments are still to be read

-- the blanks still wait, and what is no item of its own is not taken
record Asked (n : ℕ) (next_item : Bool) (m : TakenIn) : Type 0 where
  mode : m.half.reading.mode ≡ modes.Leading n
  none : blanks_of_pending m.half.reading.pending_act ≡ 0
  quiet : IsQuiet m.event
  stays : next_item ≡ false → m.takes ≡ false

-- where an item of its own may be taken or not
from-left : {n : ℕ} {m : TakenIn} → Asked n false m → Asked n true m
from-left h = record { mode = h.mode; none = h.none; quiet = h.quiet; stays = λ x. h.stays refl }

abbrev is_no_resume : NextItem → Bool
is_no_resume next_items.Resume = false
is_no_resume f = true

given : (c : Bool) → IsQuiet (if c then events.Given else events.Nothing)
given true = tt
given false = tt

ended-quiet : (k : Kind) (name : List ℕ) → IsQuiet (event_of k name)
ended-quiet (kinds.Register s) name = given (is_given name)
ended-quiet kinds.Width name = tt
ended-quiet kinds.Font name = tt
ended-quiet kinds.Special name = tt
ended-quiet kinds.Horizontal name = tt
ended-quiet kinds.Rule name = tt
ended-quiet k name = tt

register-none : (c : Bool) (s : Sign) → blanks_of_pending (if c then pending_acts.Look else pending_acts.Register s) ≡ 0
register-none true s = refl
register-none false s = refl

ended-none : (k : Kind) (name : List ℕ) → blanks_of_pending (pending_of k name) ≡ 0
ended-none kinds.String name = refl
ended-none (kinds.Register s) name = register-none (is_given name) s
ended-none k name = refl

deep-none : (k : Kind) (h : Half) → blanks_of_pending h.reading.pending_act ≡ 0 → blanks_of_pending (too_deep k h).reading.pending_act ≡ 0
deep-none (kinds.Register s) h none = refl
deep-none k h none = none

deep-mode : (k : Kind) (h : Half) → (too_deep k h).reading.mode ≡ h.reading.mode
deep-mode (kinds.Register s) h = refl
deep-mode k h = refl

begins-none : (c : Bool) (k : Kind) (h : Half) → blanks_of_pending h.reading.pending_act ≡ 0 → blanks_of_pending (if c then asking (begun_ask k) h else too_deep k h).reading.pending_act ≡ 0
begins-none true k h none = none
begins-none false k h none = deep-none k h none

begins-mode : (c : Bool) (k : Kind) (h : Half) → (if c then asking (begun_ask k) h else too_deep k h).reading.mode ≡ h.reading.mode
begins-mode true k h = refl
begins-mode false k h = deep-mode k h

module _ (n : ℕ) (h : Half) (mode : h.reading.mode ≡ modes.Leading n) (none : blanks_of_pending h.reading.pending_act ≡ 0) where
  argument-asked : (next_item : Bool) (b : ℕ) (a : Ask) → Asked n next_item (answered next_item (argument_asked b a) h)
  argument-asked next_item b a = by (nat_le (code "1") b && nat_le b (code "9")) refl
    where
      by : (c : Bool) → (nat_le (code "1") b && nat_le b (code "9")) ≡ c → Asked n next_item (answered next_item (argument_asked b a) h)
      by true e = rw e (record { mode = mode; none = refl; quiet = tt; stays = λ x. x })
      by false e = rw e (record { mode = mode; none = ended-none a.kind (name_of a.name); quiet = ended-quiet a.kind (name_of a.name); stays = λ x. x })

  first-asked : (next_item : Bool) (b : ℕ) (long : Bool) (a : Ask) → Asked n next_item (answered next_item (answer_first b long a) h)
  first-asked next_item b long a = by (b == code "(") ((b == code "[") && long) ((b == code "+") && is_unsigned a.kind) ((b == code "-") && is_unsigned a.kind) refl refl refl refl
    where
      by : (c d e f : Bool) → (b == code "(") ≡ c → ((b == code "[") && long) ≡ d → ((b == code "+") && is_unsigned a.kind) ≡ e → ((b == code "-") && is_unsigned a.kind) ≡ f
          → Asked n next_item (answered next_item (answer_first b long a) h)
      by true d e f c-is d-is e-is f-is = rw c-is (record { mode = mode; none = none; quiet = tt; stays = λ x. x })
      by false true e f c-is d-is e-is f-is = rw (c-is, d-is) (record { mode = mode; none = none; quiet = tt; stays = λ x. x })
      by false false true f c-is d-is e-is f-is = rw (c-is, d-is, e-is) (record { mode = mode; none = none; quiet = tt; stays = λ x. x })
      by false false false true c-is d-is e-is f-is = rw (c-is, d-is, e-is, f-is) (record { mode = mode; none = none; quiet = tt; stays = λ x. x })
      by false false false false c-is d-is e-is f-is =
          let name = name_of (spelled b a.name) in
          rw (c-is, d-is, e-is, f-is) (record { mode = mode; none = ended-none a.kind name; quiet = ended-quiet a.kind name; stays = λ x. x })

  two-asked : (next_item : Bool) (b : ℕ) (a : Ask) → Asked n next_item (answered next_item (answer_two b a) h)
  two-asked next_item b a = by (is_empty a.name.bytes) refl
    where
      by : (c : Bool) → is_empty a.name.bytes ≡ c → Asked n next_item (answered next_item (answer_two b a) h)
      by true e = rw e (record { mode = mode; none = none; quiet = tt; stays = λ x. x })
      by false e = let name = name_of (spelled b a.name) in rw e (record { mode = mode; none = ended-none a.kind name; quiet = ended-quiet a.kind name; stays = λ x. x })

  bracket-asked : (next_item : Bool) (b : ℕ) (a : Ask) → Asked n next_item (answered next_item (answer_bracket b a) h)
  bracket-asked next_item b a = by (b == code "]") (is_blank b) refl refl
    where
      by : (c d : Bool) → (b == code "]") ≡ c → is_blank b ≡ d → Asked n next_item (answered next_item (answer_bracket b a) h)
      by true d c-is d-is = rw c-is (record { mode = mode; none = ended-none a.kind (name_of a.name); quiet = ended-quiet a.kind (name_of a.name); stays = λ x. x })
      by false true c-is d-is = rw (c-is, d-is) (record { mode = mode; none = none; quiet = tt; stays = λ x. x })
      by false false c-is d-is = rw (c-is, d-is) (record { mode = mode; none = none; quiet = tt; stays = λ x. x })

  digit-asked : (next_item : Bool) (b : ℕ) (signed : Bool) (a : Ask) → Asked n next_item (answered next_item (answer_digit b signed a) h)
  digit-asked next_item b signed a = by (is_digit b) (not signed && nat_le (code "1") b && nat_le b (code "3")) refl refl
    where
      by : (c d : Bool) → is_digit b ≡ c → (not signed && nat_le (code "1") b && nat_le b (code "3")) ≡ d → Asked n next_item (answered next_item (answer_digit b signed a) h)
      by false d c-is d-is = rw c-is (record { mode = mode; none = ended-none a.kind (name_of a.name); quiet = ended-quiet a.kind (name_of a.name); stays = λ x. refl })
      by true true c-is d-is = rw (c-is, d-is) (record { mode = mode; none = none; quiet = tt; stays = λ x. x })
      by true false c-is d-is = rw (c-is, d-is) (record { mode = mode; none = ended-none a.kind (name_of a.name); quiet = ended-quiet a.kind (name_of a.name); stays = λ x. x })

  kind-asked : (next_item : Bool) (b : ℕ) (long : Bool) (a : Ask) → Asked n next_item (answered next_item (answer_byte b long stages.First a) h)
  kind-asked next_item b long a = by (is_argument a.kind) refl
    where
      by : (c : Bool) → is_argument a.kind ≡ c → Asked n next_item (answered next_item (answer_byte b long stages.First a) h)
      by true e = rw e (argument-asked next_item b a)
      by false e = rw e (first-asked next_item b long a)

  stage-asked : (next_item : Bool) (b : ℕ) (long : Bool) (s : Stage) (a : Ask) → Asked n next_item (answered next_item (answer_byte b long s a) h)
  stage-asked next_item b long stages.First a = kind-asked next_item b long a
  stage-asked next_item b long stages.Two a = two-asked next_item b a
  stage-asked next_item b long stages.Bracket a = bracket-asked next_item b a
  stage-asked next_item b long stages.Delimiter a = record { mode = mode; none = none; quiet = tt; stays = λ x. x }
  stage-asked next_item b long (stages.Inside d) a = by (b == d) refl
    where
      by : (c : Bool) → (b == d) ≡ c → Asked n next_item (answered next_item (answer_byte b long (stages.Inside d) a) h)
      by true e = rw e (record { mode = mode; none = ended-none a.kind (name_of a.name); quiet = ended-quiet a.kind (name_of a.name); stays = λ x. x })
      by false e = rw e (record { mode = mode; none = none; quiet = tt; stays = λ x. x })
  stage-asked next_item b long stages.Sign a = by ((b == code "+") || (b == code "-")) refl
    where
      by : (c : Bool) → ((b == code "+") || (b == code "-")) ≡ c → Asked n next_item (answered next_item (answer_byte b long stages.Sign a) h)
      by true e = rw e (record { mode = mode; none = none; quiet = tt; stays = λ x. x })
      by false e = rw e (record { mode = mode; none = none; quiet = tt; stays = λ x. refl })
  stage-asked next_item b long (stages.Digit signed) a = digit-asked next_item b signed a
  stage-asked next_item b long stages.Second a = by (is_digit b) refl
    where
      by : (c : Bool) → is_digit b ≡ c → Asked n next_item (answered next_item (answer_byte b long stages.Second a) h)
      by true e = rw e (record { mode = mode; none = ended-none a.kind (name_of a.name); quiet = ended-quiet a.kind (name_of a.name); stays = λ x. x })
      by false e = rw e (record { mode = mode; none = ended-none a.kind (name_of a.name); quiet = ended-quiet a.kind (name_of a.name); stays = λ x. refl })

  answer-asked : (next_item : Bool) (b : ℕ) (long : Bool) (a : Ask) → Asked n next_item (answered next_item (answer b long a) h)
  answer-asked next_item b long a = by (b == code "\n") refl
    where
      by : (c : Bool) → (b == code "\n") ≡ c → Asked n next_item (answered next_item (answer b long a) h)
      by true e =
          let cutted = cut a.stage a in
          rw e (record { mode = mode; none = ended-none cutted.kind (name_of cutted.name); quiet = ended-quiet cutted.kind (name_of cutted.name); stays = λ x. refl })
      by false e = rw e (stage-asked next_item b long a.stage a)

  hear-asked : (asks : List Ask) (next_item : Bool) (b : ℕ) → Asked n next_item (hear_by asks next_item b h)
  hear-asked [] next_item b = rw mode (record { mode = refl; none = none; quiet = tt; stays = λ x. x })
  hear-asked (a ∷ asks) next_item b = answer-asked next_item b h.signs.long a

  over-asked : (asks : List Ask) → Asked n false (over_by asks h)
  over-asked [] = rw mode (record { mode = refl; none = none; quiet = tt; stays = λ x. x })
  over-asked (a ∷ asks) = answer-asked false (code "\n") h.signs.long a

  -- a byte after `\`
  begun-asked : (b : ℕ) (argument : Bool) → Asked n true (offered (copied_escape b argument) h)
  begun-asked b argument =
      by (b == code "\\") (b == code ".") (b == code "t") (b == code "a") (b == code "\n") (b == code "\"") (b == code "*") (b == code "$") (b == code "n") ((b == code "w") && argument)
      refl refl refl refl refl refl refl refl refl refl
    where
      begins : (k : Kind) → Asked n true (silent (beginning k (escaping_half escapes.Plain h)))
      begins k =
          let new = escaping_half escapes.Plain h in
          record { mode = begins-mode (may_nest h.reading.mode h.asks) k new ∙ mode; none = begins-none (may_nest h.reading.mode h.asks) k new none; quiet = tt; stays = λ x. x }

      by : (c1 c2 c3 c4 c5 c6 c7 c8 c9 c10 : Bool) → (b == code "\\") ≡ c1 → (b == code ".") ≡ c2 → (b == code "t") ≡ c3 → (b == code "a") ≡ c4 → (b == code "\n") ≡ c5 → (b == code "\"") ≡ c6
          → (b == code "*") ≡ c7 → (b == code "$") ≡ c8 → (b == code "n") ≡ c9 → ((b == code "w") && argument) ≡ c10 → Asked n true (offered (copied_escape b argument) h)
      by true c2 c3 c4 c5 c6 c7 c8 c9 c10 e1 e2 e3 e4 e5 e6 e7 e8 e9 e10 = rw e1 (hear-asked h.asks true (code "\\"))
      by false true c3 c4 c5 c6 c7 c8 c9 c10 e1 e2 e3 e4 e5 e6 e7 e8 e9 e10 = rw (e1, e2) (hear-asked h.asks true (code "."))
      by false false true c4 c5 c6 c7 c8 c9 c10 e1 e2 e3 e4 e5 e6 e7 e8 e9 e10 = rw (e1, e2, e3) (hear-asked h.asks true (code "\t"))
      by false false false true c5 c6 c7 c8 c9 c10 e1 e2 e3 e4 e5 e6 e7 e8 e9 e10 = rw (e1, e2, e3, e4) (hear-asked h.asks true 1)
      by false false false false true c6 c7 c8 c9 c10 e1 e2 e3 e4 e5 e6 e7 e8 e9 e10 = rw (e1, e2, e3, e4, e5) (record { mode = mode; none = none; quiet = tt; stays = λ x. x })
      by false false false false false true c7 c8 c9 c10 e1 e2 e3 e4 e5 e6 e7 e8 e9 e10 = rw (e1, e2, e3, e4, e5, e6) (record { mode = mode; none = none; quiet = tt; stays = λ x. x })
      by false false false false false false true c8 c9 c10 e1 e2 e3 e4 e5 e6 e7 e8 e9 e10 = rw (e1, e2, e3, e4, e5, e6, e7) (begins kinds.String)
      by false false false false false false false true c9 c10 e1 e2 e3 e4 e5 e6 e7 e8 e9 e10 = rw (e1, e2, e3, e4, e5, e6, e7, e8) (begins kinds.Argument)
      by false false false false false false false false true c10 e1 e2 e3 e4 e5 e6 e7 e8 e9 e10 = rw (e1, e2, e3, e4, e5, e6, e7, e8, e9) (begins (kinds.Register signs.None))
      by false false false false false false false false false true e1 e2 e3 e4 e5 e6 e7 e8 e9 e10 = rw (e1, e2, e3, e4, e5, e6, e7, e8, e9, e10) (begins kinds.Width)
      by false false false false false false false false false false e1 e2 e3 e4 e5 e6 e7 e8 e9 e10 =
          rw (e1, e2, e3, e4, e5, e6, e7, e8, e9, e10) (from-left (hear-asked h.asks false (code "\\")))

  byte-asked : (b : ℕ) (e : Escape) (argument : Bool) → Asked n true (offered (offer_byte b e argument) h)
  byte-asked b escapes.Plain argument = by (b == code "\\") refl
    where
      by : (c : Bool) → (b == code "\\") ≡ c → Asked n true (offered (offer_byte b escapes.Plain argument) h)
      by true e = rw e (record { mode = mode; none = none; quiet = tt; stays = λ x. x })
      by false e = rw e (hear-asked h.asks true b)
  byte-asked b escapes.Begun argument = begun-asked b argument
  byte-asked b escapes.Comment argument = by (b == code "\n") refl
    where
      by : (c : Bool) → (b == code "\n") ≡ c → Asked n true (offered (offer_byte b escapes.Comment argument) h)
      by true e = rw e (hear-asked h.asks true (code "\n"))
      by false e = rw e (record { mode = mode; none = none; quiet = tt; stays = λ x. x })

  offered-asked : (f : NextItem) (e : Escape) (argument : Bool) → Asked n (is_no_resume f) (offered (offer f e argument) h)
  offered-asked next_items.Mark e argument = record { mode = mode; none = none; quiet = tt; stays = λ x. x }
  offered-asked (next_items.Byte b) e argument = byte-asked b e argument
  offered-asked (next_items.Cell x) escapes.Plain argument = hear-asked h.asks true x.byte
  offered-asked (next_items.Cell x) escapes.Begun argument = from-left (hear-asked h.asks false (code "\\"))
  offered-asked (next_items.Cell x) escapes.Comment argument = record { mode = mode; none = none; quiet = tt; stays = λ x. x }
  offered-asked (next_items.LineEnd n) escapes.Begun argument = from-left (hear-asked h.asks false (code "\\"))
  offered-asked (next_items.LineEnd n) escapes.Plain argument = hear-asked h.asks true (code "\n")
  offered-asked (next_items.LineEnd n) escapes.Comment argument = hear-asked h.asks true (code "\n")
  offered-asked next_items.Resume escapes.Begun argument = hear-asked h.asks false (code "\\")
  offered-asked next_items.Resume escapes.Plain argument = over-asked h.asks
  offered-asked next_items.Resume escapes.Comment argument = over-asked h.asks
  offered-asked next_items.Over escapes.Begun argument = from-left (hear-asked h.asks false (code "\\"))
  offered-asked next_items.Over escapes.Plain argument = from-left (over-asked h.asks)
  offered-asked next_items.Over escapes.Comment argument = from-left (over-asked h.asks)

  raw-asked : (f : NextItem) (e : Escape) → Asked n (is_no_resume f) (offered (raw_offer f e) h)
  raw-asked next_items.Mark e = record { mode = mode; none = none; quiet = tt; stays = λ x. x }
  raw-asked (next_items.Byte b) e = hear-asked h.asks true b
  raw-asked (next_items.Cell x) e = from-left (over-asked h.asks)
  raw-asked (next_items.LineEnd k) e = from-left (over-asked h.asks)
  raw-asked next_items.Resume e = over-asked h.asks
  raw-asked next_items.Over e = from-left (over-asked h.asks)

  to-asked : (k : Kind) (f : NextItem) (e : Escape) → Asked n (is_no_resume f) (offered (offer_to k f e) h)
  to-asked kinds.Size f e = raw-asked f e
  to-asked k f e = offered-asked f e (reads_argument k)

-- ---- the next item

asked-after : (n : ℕ) (next_item : Bool) (m : TakenIn) → Asked n next_item m → TakesIn m
asked-after n next_item m h = Wait n h.mode h.none h.quiet

by-asks : (asks : List Ask) (n : ℕ) (f : NextItem) (h : Half) → h.reading.mode ≡ modes.Leading n → blanks_of_pending h.reading.pending_act ≡ 0 → TakesIn (take_in_by asks f h)
by-asks [] n f h mode none =
    subst (λ m. TakesIn (if is_direct m then taken_in_directly (direct f h.signs h.reading) h else offered (offer f h.reading.escape (reads_arguments h.reading.mode)) h)) (sym mode)
    (directly (direct f h.signs h.reading) h (direct-after h.reading.escape n f h.signs h.reading mode none))
by-asks (a ∷ asks) n f h mode none = asked-after n (is_no_resume f) (offered (offer_to a.kind f h.reading.escape) h) (to-asked n h mode none a.kind f h.reading.escape)

pub take_in-after : (n : ℕ) (f : NextItem) (h : Half) → h.reading.mode ≡ modes.Leading n → blanks_of_pending h.reading.pending_act ≡ 0 → TakesIn (take_in f h)
take_in-after n f h mode none = by-asks h.asks n f h mode none

-- ---- a resume mark is left

resume-direct : (e : Escape) (n : ℕ) (s : Signs) (r : Reading) → r.mode ≡ modes.Leading n → (direct_by e next_items.Resume s r).takes ≡ false
resume-direct escapes.Plain n s r mode = rw mode refl
resume-direct escapes.Begun n s r mode = rw mode refl
resume-direct escapes.Comment n s r mode = rw mode refl

resume-asks : (asks : List Ask) (n : ℕ) (h : Half) → h.reading.mode ≡ modes.Leading n → blanks_of_pending h.reading.pending_act ≡ 0 → (take_in_by asks next_items.Resume h).takes ≡ false
resume-asks [] n h mode none =
    subst (λ m. (if is_direct m then taken_in_directly (direct next_items.Resume h.signs h.reading) h else offered (offer next_items.Resume h.reading.escape (reads_arguments h.reading.mode)) h).takes ≡ false) (sym mode)
    (resume-direct h.reading.escape n h.signs h.reading mode)
resume-asks (a ∷ asks) n h mode none = (to-asked n h mode none a.kind next_items.Resume h.reading.escape).stays refl

pub resume-stays : (n : ℕ) (h : Half) → h.reading.mode ≡ modes.Leading n → blanks_of_pending h.reading.pending_act ≡ 0 → (take_in next_items.Resume h).takes ≡ false
resume-stays n h mode none = resume-asks h.asks n h mode none
