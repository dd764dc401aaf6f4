-- Texts that are turned, one after the other.
use Rattle.std.proofs.Common.{◌≡◌, ℕ, List, [], ◌∷◌, ◌++◌, length, arith, Bool, true, false, ◌||◌, Option, Some, None, refl, sym, ap, subst, ◌∙◌, if◌then◌else◌}
use Rattle.std.specs.Io.KnownBytes.{Appends, Keeps}
use Rattle.std.proofs.KnownBytes.{Keeps-refl}
use Rattle.nr_units.specs.Failures.{SinkFailures}
use Rattle.filters.specs.Disk.{AreUnread, Opened, Opening, named}
use Rattle.filters.specs.Program.{RanOver, TurnsNames, is_unread}
use Rattle.filters.specs.Turning.{AllTurned, AllWentOut, Filter, Ran, Stopped, Turned, WentOut}
use Rattle.filters.specs.declared.endings.Ending.{Ending}
use Rattle.filters.specs.declared.endings.Ending.TheVariants.{Done, Complained, TooLong, ReadFault, WriteFault, BadWord, CannotOpen, CannotRead, OutOfMemory}

-- ---- one more went out whole

or-false : (b : Bool) → (b || false) ≡ b
or-false true = refl
or-false false = refl

or-true : (b : Bool) → (b || true) ≡ true
or-true true = refl
or-true false = refl

or_assoc : (a b c : Bool) → ((a || b) || c) ≡ (a || (b || c))
or_assoc true b c = refl
or_assoc false b c = refl

Keeps-Appends : (a b c : Option (List ℕ)) (bs : List ℕ) → Keeps a b → Appends b c bs → Appends a c bs
Keeps-Appends None b c bs p q = tt
Keeps-Appends (Some x) None c bs p q = absurd p
Keeps-Appends (Some x) (Some y) None bs p q = absurd q
Keeps-Appends (Some x) (Some y) (Some z) bs p q = q ∙ ap (λ (l : List ℕ). l ++ bs) p

WentOut-kept : (f : Filter) (left a b c : Option (List ℕ)) (complained : Bool) → Keeps a b → WentOut f left b c complained → WentOut f left a c complained
WentOut-kept f left a b c complained keeps w = record {
  text = w.text;
  all = w.all;
  end = w.end;
  may_end = w.may_end;
  went_out = Keeps-Appends a b c (f.whole w.text ++ w.end) keeps w.went_out;
  complains = w.complains;
}

last_of : (first last : Bool) → first ≡ false → (first || last) ≡ (last || false)
last_of first last none = ap (λ (b : Bool). b || last) none ∙ sym (or-false last)

AllWentOut-last : (f : Filter) (texts : List Opened) (text : Opened) (held between new : Option (List ℕ)) (first last : Bool)
    → AllWentOut f texts held between first → WentOut f text.left between new last → AllWentOut f (texts ++ text ∷ []) held new (first || last)
AllWentOut-last f [] text held between new first last all w =
    (new, last, false, WentOut-kept f text.left held between new last all.0 w, (Keeps-refl new, refl), last_of first last all.1)
AllWentOut-last f (t ∷ texts) text held between new first last all w = (
  all.0,
  all.1,
  all.2 || last,
  all.3,
  AllWentOut-last f texts text all.0 between new all.2 last all.4 w,
  ap (λ (b : Bool). b || last) all.5 ∙ or_assoc all.1 all.2 last,
)

-- by how it ended
pub next-done : (f g : Filter) (texts texts' : List Opened) (text : Opened) (held between new : Option (List ℕ)) (complained : Bool) (ending : Ending)
    → g ≡ f → texts' ≡ texts ++ text ∷ [] → ending ≡ Done → AllWentOut f texts held between complained → Turned g text between new ending
    → AllWentOut f texts' held new complained
next-done f g texts texts' text held between new complained ending same grown is all turned =
    let here : Turned f text between new Done = subst (λ (e : Ending). Turned f text between new e) is (subst (λ (x : Filter). Turned x text between new ending) same turned) in
    rw grown (subst (AllWentOut f (texts ++ text ∷ []) held new) (or-false complained) (AllWentOut-last f texts text held between new complained false all here))

pub next-complained : (f g : Filter) (texts texts' : List Opened) (text : Opened) (held between new : Option (List ℕ)) (complained : Bool) (ending : Ending)
    → g ≡ f → texts' ≡ texts ++ text ∷ [] → ending ≡ Complained → AllWentOut f texts held between complained → Turned g text between new ending
    → AllWentOut f texts' held new true
next-complained f g texts texts' text held between new complained ending same grown is all turned =
    let here : Turned f text between new Complained = subst (λ (e : Ending). Turned f text between new e) is (subst (λ (x : Filter). Turned x text between new ending) same turned) in
    rw grown (subst (AllWentOut f (texts ++ text ∷ []) held new) (or-true complained) (AllWentOut-last f texts text held between new complained true all here))

-- ---- one came to a fault

of-fault : (f : Filter) (texts : List Opened) (held new : Option (List ℕ)) (ending : Ending) → (ending ≡ Done → ⊥) → (ending ≡ Complained → ⊥)
    → Stopped f texts held new ending → AllTurned f texts held new ending
of-fault f texts held new Done undone nor s = absurd (undone refl)
of-fault f texts held new Complained undone nor s = absurd (nor refl)
of-fault f texts held new (TooLong name) undone nor s = s
of-fault f texts held new (ReadFault name at) undone nor s = s
of-fault f texts held new WriteFault undone nor s = s
of-fault f texts held new (BadWord what word) undone nor s = s
of-fault f texts held new (CannotOpen name) undone nor s = s
of-fault f texts held new (CannotRead name) undone nor s = s
of-fault f texts held new OutOfMemory undone nor s = s

pub stops-at : (f g : Filter) (before all rest : List Opened) (text : Opened) (held between new : Option (List ℕ)) (complained : Bool) (ending : Ending)
    → g ≡ f → all ≡ before ++ text ∷ rest → (ending ≡ Done → ⊥) → (ending ≡ Complained → ⊥) → AllWentOut f before held between complained
    → Turned g text between new ending → AllTurned f all held new ending
stops-at f g before all rest text held between new complained ending same parted undone nor went turned =
    of-fault f all held new ending undone nor (record {
      before = before;
      text = text;
      rest = rest;
      texts_are = parted;
      between = between;
      complained = complained;
      went_out = went;
      stops = subst (λ (x : Filter). Turned x text between new ending) same turned;
    })

-- ---- a run over texts, or none

read_all : (f : Filter) (texts : List Opened) (held between : Option (List ℕ)) (failed : Bool) (turned ending : Ending)
    → ending ≡ (if failed then WriteFault else turned) → AllTurned f texts held between turned → is_unread ending ≡ true → ⊥
read_all f texts held between true turned ending is all unread = let no : is_unread WriteFault ≡ true = ap is_unread (sym is) ∙ unread in cc
read_all f texts held between false (BadWord what word) ending is all unread = absurd all.stops
read_all f texts held between false (CannotOpen name) ending is all unread = absurd all.stops
read_all f texts held between false (CannotRead name) ending is all unread = absurd all.stops
read_all f texts held between false OutOfMemory ending is all unread = absurd all.stops
read_all f texts held between false Done ending is all unread = let no : is_unread Done ≡ true = ap is_unread (sym is) ∙ unread in cc
read_all f texts held between false Complained ending is all unread = let no : is_unread Complained ≡ true = ap is_unread (sym is) ∙ unread in cc
read_all f texts held between false (TooLong name) ending is all unread = let no : is_unread (TooLong name) ≡ true = ap is_unread (sym is) ∙ unread in cc
read_all f texts held between false (ReadFault name at) ending is all unread = let no : is_unread (ReadFault name at) ≡ true = ap is_unread (sym is) ∙ unread in cc
read_all f texts held between false WriteFault ending is all unread = let no : is_unread WriteFault ≡ true = ap is_unread (sym is) ∙ unread in cc

ran-read : (f : Filter) (texts : List Opened) (held new : Option (List ℕ)) (writes writes' : SinkFailures) (passed_on : Bool) (ending : Ending)
    → Ran f texts held new writes writes' passed_on ending → is_unread ending ≡ true → ⊥
ran-read f texts held new writes writes' passed_on ending r = read_all f texts held r.between r.flush_failed r.turned ending r.ending_is r.all

pub were-turned : (may_come : List ℕ → Opening → Type 0) (asked asked' : Option (List (List ℕ))) (held new : Option (List ℕ)) (writes writes' : SinkFailures)
    (passed_on : Bool) (f : Filter) (names : List (List ℕ)) (ending : Ending)
    → RanOver may_come asked asked' held new writes writes' passed_on f (named names) ending
    → TurnsNames may_come asked asked' held new writes writes' passed_on f names ending
were-turned may_come asked asked' held new writes writes' passed_on f names Done r = r
were-turned may_come asked asked' held new writes writes' passed_on f names Complained r = r
were-turned may_come asked asked' held new writes writes' passed_on f names (TooLong name) r = r
were-turned may_come asked asked' held new writes writes' passed_on f names (ReadFault name at) r = r
were-turned may_come asked asked' held new writes writes' passed_on f names WriteFault r = r
were-turned may_come asked asked' held new writes writes' passed_on f names (BadWord what word) r = r
were-turned may_come asked asked' held new writes writes' passed_on f names (CannotRead name) r = r
were-turned may_come asked asked' held new writes writes' passed_on f names (CannotOpen name) r =
    absurd (ran-read f r.texts held new writes writes' passed_on (CannotOpen name) r.ran refl)
were-turned may_come asked asked' held new writes writes' passed_on f names OutOfMemory r =
    absurd (ran-read f r.texts held new writes writes' passed_on OutOfMemory r.ran refl)

pub were-unread : (may_come : List ℕ → Opening → Type 0) (asked asked' : Option (List (List ℕ))) (held : Option (List ℕ)) (writes : SinkFailures)
    (passed_on : Bool) (f : Filter) (names : List (List ℕ)) (ending : Ending)
    → AreUnread may_come asked asked' (named names) ending → TurnsNames may_come asked asked' held held writes writes passed_on f names ending
were-unread may_come asked asked' held writes passed_on f names (CannotOpen name) u = (u, (refl, refl))
were-unread may_come asked asked' held writes passed_on f names OutOfMemory u = (u, (refl, refl))
were-unread may_come asked asked' held writes passed_on f names Done u = absurd u
were-unread may_come asked asked' held writes passed_on f names Complained u = absurd u
were-unread may_come asked asked' held writes passed_on f names (TooLong name) u = absurd u
were-unread may_come asked asked' held writes passed_on f names (ReadFault name at) u = absurd u
were-unread may_come asked asked' held writes passed_on f names WriteFault u = absurd u
were-unread may_come asked asked' held writes passed_on f names (BadWord what word) u = absurd u
were-unread may_come asked asked' held writes passed_on f names (CannotRead name) u = absurd u

pub was-read : (f : Filter) (texts : List Opened) (held new : Option (List ℕ)) (writes writes' : SinkFailures) (passed_on : Bool) (ending : Ending) (P : Type 0)
    → Ran f texts held new writes writes' passed_on ending → is_unread ending ≡ true → P
was-read f texts held new writes writes' passed_on ending P r unread = absurd (ran-read f texts held new writes writes' passed_on ending r unread)

-- ---- places

pub list_done : {X : Type 0} (l : List X) → length l ≡ 0 → l ≡ []
list_done [] is = refl
list_done (x ∷ l) is = absurd (omega arith)
