-- Texts that are turned after another text was looked at.
use Rattle.std.proofs.Common.{◌≡◌, ℕ, List, [], ◌∷◌, ◌++◌, Bool, Option, inl, inr, refl}
use Rattle.std.specs.List.{AllZip}
use Rattle.nr_units.specs.Failures.{SinkFailures}
use Rattle.filters.specs.Disk.{AreOpened, AreUnread, Asks, IsFirstRefused, IsOpened, IsUnlooked, MayCome, Opened, Opening, Opens, named, paths_of}
use Rattle.filters.specs.Program.{AnswersText, Puts, RanOver, TurnsAfterText, TurnsNames}
use Rattle.filters.specs.Turning.{Filter}
use Rattle.filters.specs.declared.endings.Ending.{Ending}
use Rattle.filters.specs.declared.endings.Ending.TheVariants.{Done, Complained, TooLong, ReadFault, WriteFault, BadWord, CannotOpen, CannotRead, OutOfMemory}
use Rattle.filters.proofs.Opening.{MayCome-first}

-- ---- what may come of a name later, may at first

opened-first : (a b : List ℕ → Opening → Type 0) (names : List (List ℕ)) (texts : List Opened)
    → ((name : List ℕ) → (o : Opening) → a name o → b name o) → AreOpened a names texts → AreOpened b names texts
opened-first a b [] [] first all = tt
opened-first a b [] (t ∷ texts) first all = absurd all
opened-first a b (n ∷ names) [] first all = absurd all
opened-first a b (n ∷ names) (t ∷ texts) first all =
    ((all.0.0, first n (Opens t.left) all.0.1), opened-first a b names texts first all.1)

refused-first : (a b : List ℕ → Opening → Type 0) (asked asked' : Option (List (List ℕ))) (names : List (List ℕ)) (name : List ℕ)
    → ((name : List ℕ) → (o : Opening) → a name o → b name o) → IsFirstRefused a asked asked' names name → IsFirstRefused b asked asked' names name
refused-first a b asked asked' names name first r = record {
  before = r.before;
  rest = r.rest;
  names_are = r.names_are;
  texts = r.texts;
  opened = opened-first a b r.before r.texts first r.opened;
  refused = first name _ r.refused;
  asks = r.asks;
}

ran-first : (a b : List ℕ → Opening → Type 0) (asked asked' : Option (List (List ℕ))) (held new : Option (List ℕ)) (writes writes' : SinkFailures)
    (passed_on : Bool) (f : Filter) (names : List (List ℕ)) (ending : Ending) → ((name : List ℕ) → (o : Opening) → a name o → b name o)
    → RanOver a asked asked' held new writes writes' passed_on f names ending → RanOver b asked asked' held new writes writes' passed_on f names ending
ran-first a b asked asked' held new writes writes' passed_on f names ending first r = record {
  texts = r.texts;
  opened = opened-first a b names r.texts first r.opened;
  asks = r.asks;
  ran = r.ran;
}

turns-first : (a b : List ℕ → Opening → Type 0) (asked asked' : Option (List (List ℕ))) (held new : Option (List ℕ)) (writes writes' : SinkFailures)
    (passed_on : Bool) (f : Filter) (names : List (List ℕ)) (ending : Ending) → ((name : List ℕ) → (o : Opening) → a name o → b name o)
    → TurnsNames a asked asked' held new writes writes' passed_on f names ending → TurnsNames b asked asked' held new writes writes' passed_on f names ending
turns-first a b asked asked' held new writes writes' passed_on f names (CannotOpen name) first t = (refused-first a b asked asked' (named names) name.now first t.0, t.1)
turns-first a b asked asked' held new writes writes' passed_on f names OutOfMemory first t = t
turns-first a b asked asked' held new writes writes' passed_on f names Done first t = ran-first a b asked asked' held new writes writes' passed_on f (named names) Done first t
turns-first a b asked asked' held new writes writes' passed_on f names Complained first t = ran-first a b asked asked' held new writes writes' passed_on f (named names) Complained first t
turns-first a b asked asked' held new writes writes' passed_on f names (TooLong name) first t = ran-first a b asked asked' held new writes writes' passed_on f (named names) (TooLong name) first t
turns-first a b asked asked' held new writes writes' passed_on f names (ReadFault name at) first t = ran-first a b asked asked' held new writes writes' passed_on f (named names) (ReadFault name at) first t
turns-first a b asked asked' held new writes writes' passed_on f names WriteFault first t = ran-first a b asked asked' held new writes writes' passed_on f (named names) WriteFault first t
turns-first a b asked asked' held new writes writes' passed_on f names (BadWord what word) first t = ran-first a b asked asked' held new writes writes' passed_on f (named names) (BadWord what word) first t
turns-first a b asked asked' held new writes writes' passed_on f names (CannotRead name) first t = ran-first a b asked asked' held new writes writes' passed_on f (named names) (CannotRead name) first t

-- ---- texts that are turned after it

pub turned-after : (standard first : Option (List ℕ)) (new old : List ℕ → Opening → Type 0) (asked between asked' : Option (List (List ℕ)))
    (held last : Option (List ℕ)) (writes writes' : SinkFailures) (passed_on : Bool) (text : Opened) (f : Filter) (names : List (List ℕ)) (ending : Ending)
    → standard ≡ first → ((other : List ℕ) → (o : Opening) → new other o → old other o)
    → MayCome first old text.name (Opens text.left) → Asks asked between (paths_of text.name)
    → TurnsNames (MayCome standard new) between asked' held last writes writes' passed_on f names ending
    → TurnsAfterText (MayCome first old) asked asked' held last writes writes' passed_on text f names ending
turned-after standard first new old asked between asked' held last writes writes' passed_on text f names ending same stays opened asks turns =
    inr (record {
      opened = opened;
      between = between;
      asks = asks;
      turns = turns-first (MayCome standard new) (MayCome first old) between asked' held last writes writes' passed_on f names ending
          (λ name o. MayCome-first standard first new old name o same stays) turns;
    })

-- it was not looked at
pub unlooked : (may_come : List ℕ → Opening → Type 0) (asked asked' : Option (List (List ℕ))) (held : Option (List ℕ)) (writes : SinkFailures)
    (passed_on : Bool) (text : Opened) (f : Filter) (names : List (List ℕ)) (ending : Ending) → IsUnlooked may_come asked asked' text.name ending
    → TurnsAfterText may_come asked asked' held held writes writes passed_on text f names ending
unlooked may_come asked asked' held writes passed_on text f names ending u = inl (record { unlooked = u; silent = (refl, refl) })

-- nor answered
pub unanswered : (may_come : List ℕ → Opening → Type 0) (asked asked' : Option (List (List ℕ))) (held : Option (List ℕ)) (writes : SinkFailures)
    (passed_on : Bool) (text : Opened) (line : List ℕ) (ending : Ending) → IsUnlooked may_come asked asked' text.name ending
    → AnswersText may_come asked asked' held held writes writes passed_on text line ending
unanswered may_come asked asked' held writes passed_on text line ending u = inl (record { unlooked = u; silent = (refl, refl) })
