-- A page is read from a source.
use Rattle.std.specs.Prelude.{◌≡◌, ℕ, ◌+◌, ◌*◌, ◌<◌, ◌≤◌, List, [], ◌++◌, length, Option, None, Some, ⊤, ◌⊎◌, Bool, true, false}
use Rattle.nr_units.specs.Failures.{next_count}
use Rattle.nr_units.specs.Source.{Supply}
use Rattle.tbl_reader.specs.declared.reader.Limits.{Limits}
use Rattle.tbl_reader.specs.declared.running.ReadEnd.{ReadEnd}
use Rattle.tbl_reader.specs.declared.running.ReadEnd.TheVariants.{Done, ReadFault, TooLong, WriteFault}
use Rattle.tbl_reader.specs.declared.running.TurnResult.{TurnResult}
use Rattle.tbl_reader.specs.declared.running.TurnResult.TheVariants as turns
use Rattle.tbl_reader.specs.Ending.{finished, first_page, page_said}
use Rattle.tbl_reader.specs.Pages.{Page}
use Rattle.tbl_reader.specs.Reading.{Fits, fed}
use Rattle.tbl_reader.specs.Telling.{Piece, Tells}

-- these bytes came
abbrev pub Came : Option Supply → List ℕ → Option Supply → Type 0
Came None bytes new = ⊤
Came (Some q) bytes None = ⊥
Came (Some q) bytes (Some t) = q.bytes ≡ bytes ++ t.bytes

-- the end came: nothing more is to come
abbrev pub Ends : Option Supply → Option Supply → Type 0
Ends None new = ⊤
Ends (Some q) None = ⊥
Ends (Some q) (Some t) = t.bytes ≡ []

-- so many bytes came, and were read
pub record Took {A S : Type 0} (shows : A → S → Type 0) (hears : Piece → S → S) (a b : Option Supply)
    (p q : Page) (old new : A) (n : ℕ) : Type 0 where
  pub bytes : List ℕ
  pub came : Came a bytes b
  pub count : length bytes ≡ n
  pub page : q ≡ (fed bytes p).page
  pub emitted : Tells shows hears (fed bytes p).pieces old new
  pub fits : Fits q
  pub lines : q.state.line ≤ p.state.line + n

-- the end came
pub record Ended {A S : Type 0} (shows : A → S → Type 0) (hears : Piece → S → S) (a b : Option Supply)
    (p q : Page) (old new : A) : Type 0 where
  pub came : Came a [] b
  pub ends : Ends a b
  pub page : q ≡ (finished p).page
  pub emitted : Tells shows hears (finished p).pieces old new

abbrev pub Turns : {A S : Type 0} → (A → S → Type 0) → (Piece → S → S) → Option Supply → Option Supply → Page
    → Page → A → A → TurnResult → Type 0
Turns shows hears a b p q old new (turns.Took n) = Took shows hears a b p q old new n
Turns shows hears a b p q old new turns.End = Ended shows hears a b p q old new
Turns shows hears a b p q old new turns.ReadFault = Took shows hears a b p q old new 0

-- one byte at least is taken, and not too many
abbrev pub IsMeasured : ℕ → TurnResult → Type 0
IsMeasured most (turns.Took n) = (0 < n) × (n ≤ most)
IsMeasured most turn = Unit {0}

abbrev pub is_fault : TurnResult → Bool
is_fault turns.ReadFault = true
is_fault turn = false

-- ---- a run

-- where a run stands that took these bytes
pub record Stands {A S : Type 0} (shows : A → S → Type 0) (hears : Piece → S → S) (l : Limits)
    (first supply : Option Supply) (p : Page) (old now : A) (taken : ℕ) : Type 0 where
  pub bytes : List ℕ
  pub came : Came first bytes supply
  pub count : length bytes ≡ taken
  pub page : p ≡ (fed bytes (first_page l)).page
  pub emitted : Tells shows hears (fed bytes (first_page l)).pieces old now
  pub fits : Fits p
  pub lines : p.state.line ≤ taken + 1

-- all bytes came, and what they say was emitted: sixteen pieces for each at most, and as many more
pub record IsDone {A S : Type 0} (shows : A → S → Type 0) (hears : Piece → S → S) (l : Limits)
    (first last : Option Supply) (old new : A) : Type 0 where
  pub bytes : List ℕ
  pub came : Came first bytes last
  pub ends : Ends first last
  pub emitted : Tells shows hears (page_said l bytes) old new
  pub few : length (page_said l bytes) ≤ 16 * (length bytes + 1)

-- so many bytes came, and what they say was emitted, but of what is half read
pub record IsCut {A S : Type 0} (shows : A → S → Type 0) (hears : Piece → S → S) (l : Limits)
    (first last : Option Supply) (old new : A) (at : ℕ) : Type 0 where
  pub bytes : List ℕ
  pub came : Came first bytes last
  pub count : length bytes ≡ at
  pub emitted : Tells shows hears (fed bytes (first_page l)).pieces old new
  pub few : length (fed bytes (first_page l)).pieces ≤ 16 * length bytes

-- some bytes came, and what they say was emitted, without the end or with it, to one who could not put all of it out
pub record IsBroken {A S : Type 0} (shows : A → S → Type 0) (hears : Piece → S → S) (l : Limits)
    (first last : Option Supply) (old new : A) : Type 0 where
  pub bytes : List ℕ
  pub came : Came first bytes last
  pub emitted : Tells shows hears (fed bytes (first_page l)).pieces old new ⊎ Tells shows hears
      (page_said l bytes) old new
  pub few : length (page_said l bytes) ≤ 16 * (length bytes + 1)

abbrev pub Ran : {A S : Type 0} → (A → S → Type 0) → (Piece → S → S) → Limits → Option Supply → Option Supply
    → A → A → ReadEnd → Type 0
Ran shows hears l first last old new Done = IsDone shows hears l first last old new
Ran shows hears l first last old new (ReadFault at) = IsCut shows hears l first last old new at
Ran shows hears l first last old new TooLong =
    IsCut shows hears l first last old new 1099511627776
Ran shows hears l first last old new WriteFault = IsBroken shows hears l first last old new

abbrev pub is_write_fault : ReadEnd → Bool
is_write_fault WriteFault = true
is_write_fault outcome = false

-- a read fault is emitted where a call of the source failed, and else none failed, but where what was emitted could not be put out
abbrev pub TellsReads : ReadEnd → ℕ → ℕ → Type 0
TellsReads Done before after = after ≡ before
TellsReads (ReadFault at) before after = after ≡ next_count before
TellsReads TooLong before after = after ≡ before
TellsReads WriteFault before after = (after ≡ before) ⊎ (after ≡ next_count before)
