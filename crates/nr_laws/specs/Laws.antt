-- Laws of the output: what limits do to it, and that there is one.
use Rattle.std.specs.Prelude.{◌≡◌, ℕ, ◌+◌, ◌≤◌, Bool, true, false, List, [], ◌++◌, Some}
use Rattle.nr_units.specs.Source.{Supply, Faults, Never, After, Anytime}
use Rattle.nr_options.specs.Limits.{Bounds}
use Rattle.nr_options.specs.declared.options.Options.{Options}
use Rattle.nr_machine.specs.State.{State, start}
use Rattle.nr_machine.specs.Machine.{step, state_after}
use Rattle.nr_machine.specs.Printing.{text}
use Rattle.nr_machine.specs.Run.{Answers, Ends, kind, Over}
use Rattle.nr_machine.specs.declared.outcome.Outcome.{Outcome}
use Rattle.nr_machine.specs.declared.outcome.Outcome.TheVariants.{Done, Limit, ReadFault, WriteFault}
use Rattle.nr_laws.specs.Limited.{state_under}

-- ---- the words of the laws

-- the whole begins with this prefix
pub record IsPrefixOf (prefix whole : List ℕ) : Type 0 where
  pub rest : List ℕ
  pub whole_is : whole ≡ prefix ++ rest

-- each limit of the second is at least that of the first
pub record AtLeast (b b' : Bounds) : Type 0 where
  pub stored : b.stored ≤ b'.stored
  pub depth : b.depth ≤ b'.depth
  pub cells : b.cells ≤ b'.cells
  pub expansions : b.expansions ≤ b'.expansions
  pub moves : b.moves ≤ b'.moves

-- a source fails at no call, or at each call after so many bytes
abbrev pub are_reported : Faults → Bool
are_reported Never = true
are_reported (After n) = true
are_reported Anytime = false

-- no fault ended the run but one at which each run over such a source stops
abbrev pub is_settled : Faults → Outcome → Bool
is_settled faults (ReadFault at) = are_reported faults
is_settled faults WriteFault = false
is_settled faults o = true

-- a limit ended it
abbrev pub is_limit : Outcome → Bool
is_limit (Limit which at) = true
is_limit o = false

-- A run under limits answers so after n moves, over a sink that is empty at first and holds these bytes then.
abbrev pub AnswersWith : Bounds → Options → Supply → ℕ → Outcome → List ℕ → Type 0
AnswersWith b options supply n outcome out = Answers b (start b options supply) n outcome (Some []) (Some out)

-- ---- the run without limits

-- what its states have where limits stand: no move asks
abbrev pub nothing_allowed : Bounds
nothing_allowed = record { stored = 0; depth = 0; cells = 0; expansions = 0; moves = 0 }

-- after n moves, whatever limits they pass
abbrev pub unlimited : Options → Supply → ℕ → State
unlimited options supply n = state_after n (start nothing_allowed options supply)

-- what has gone out then
abbrev pub unlimited_text : Options → Supply → ℕ → List ℕ
unlimited_text options supply n = text (unlimited options supply n).pages

-- the run without limits comes to an end, and this has gone out then
pub record UnlimitedOutput (options : Options) (supply : Supply) (whole : List ℕ) : Type 0 where
  pub moves : ℕ
  pub over : kind (unlimited options supply moves) ≡ Over
  pub whole_is : whole ≡ unlimited_text options supply moves

-- ---- limits only stop a run

-- No move asks for a limit: it is the same under any, and leaves them as they are.
abbrev pub NoLimitAsked : Type 0
NoLimitAsked = (b : Bounds) (s : State) → step (state_under b s) ≡ state_under b (step s)

-- So the states of a run under limits, as far as it goes, are those of the run without.
abbrev pub LimitsOnlyStop : Type 0
LimitsOnlyStop =
    (b : Bounds) (options : Options) (supply : Supply) (n : ℕ) → state_after n (start b options supply)
    ≡ state_under b (unlimited options supply n)

-- ---- a prefix

-- What goes out under limits is a prefix of what goes out without, one move later and from then on.
abbrev pub LimitsCut : Type 0
LimitsCut =
    (b : Bounds) (options : Options) (supply : Supply) (n : ℕ) (outcome : Outcome) (out : List ℕ)
    → AnswersWith b options supply n outcome out → (m : ℕ) → n + 1 ≤ m
    → IsPrefixOf out (unlimited_text options supply m)

-- Where the run without limits ends, it is a prefix of all that goes out there.
abbrev pub LimitsCutOutput : Type 0
LimitsCutOutput =
    (b : Bounds) (options : Options) (supply : Supply) (n : ℕ) (outcome : Outcome) (out whole : List ℕ)
    → AnswersWith b options supply n outcome out → UnlimitedOutput options supply whole → IsPrefixOf out whole

-- Where no limit and no fault stops the run, it is all of it.
abbrev pub DoneIsWhole : Type 0
DoneIsWhole =
    (b : Bounds) (options : Options) (supply : Supply) (n : ℕ) (out : List ℕ)
    → AnswersWith b options supply n Done out → UnlimitedOutput options supply out

-- There is one output without limits.
abbrev pub OneWhole : Type 0
OneWhole = (options : Options) (supply : Supply) (a b : List ℕ) → UnlimitedOutput options supply a
    → UnlimitedOutput options supply b → a ≡ b

-- ---- wider limits

-- Under wider limits no less goes out, unless that run is ended by a fault of the sink, or of a source that
-- may fail at any call.
abbrev pub WiderLimits : Type 0
WiderLimits =
    (b b' : Bounds) (options : Options) (supply : Supply) (n n' : ℕ) (outcome outcome' : Outcome)
    (out out' : List ℕ)
    → AtLeast b b' → AnswersWith b options supply n outcome out
    → AnswersWith b' options supply n' outcome' out'
    → is_settled supply.faults outcome' ≡ true → IsPrefixOf out out'

-- Where neither a limit nor such a fault stops a run, it is the same under wider limits.
abbrev pub LimitsUnmet : Type 0
LimitsUnmet =
    (b b' : Bounds) (options : Options) (supply : Supply) (n n' : ℕ) (outcome outcome' : Outcome)
    (out out' : List ℕ)
    → AtLeast b b' → AnswersWith b options supply n outcome out
    → AnswersWith b' options supply n' outcome' out' → is_limit outcome ≡ false
    → is_settled supply.faults outcome ≡ true → is_settled supply.faults outcome' ≡ true → (n ≡ n')
    × (outcome ≡ outcome') × (out ≡ out')

-- ---- one answer

-- Without such a fault there is one number of moves, one outcome and one output.
abbrev pub OneAnswer : Type 0
OneAnswer =
    (b : Bounds) (options : Options) (supply : Supply) (n n' : ℕ) (outcome outcome' : Outcome)
    (out out' : List ℕ)
    → AnswersWith b options supply n outcome out → AnswersWith b options supply n' outcome' out'
    → is_settled supply.faults outcome ≡ true → is_settled supply.faults outcome' ≡ true → (n ≡ n')
    × (outcome ≡ outcome') × (out ≡ out')

-- A source that fails at no call ends no run by a read fault.
abbrev pub FaultsAreOfTheSource : Type 0
FaultsAreOfTheSource =
    (b : Bounds) (options : Options) (supply : Supply) (most n at : ℕ)
    → supply.faults ≡ Never → Ends most n (state_after n (start b options supply)) (ReadFault at) → ⊥
