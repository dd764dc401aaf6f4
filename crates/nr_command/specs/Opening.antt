-- Texts that are opened, and one that can't be.
use Rattle.std.specs.Prelude.{◌≡◌, ℕ, List, [], ◌∷◌, ◌++◌, Option, None, Some, Result, Ok, Err, ⊤, codes}
use Rattle.std.specs.List.{AllZip}
use Rattle.nr_units.specs.Source.{Supply}
use Rattle.nr_command_options.specs.Inputs.{Reading, ReadsMacros, ReadsFile, ReadsStandard, macro_path}

-- what comes of opening a text: it is open and about to give this, where that is known, or it can't be opened
pub data Opening : Type 0 where
  Opens : Option Supply → Opening
  Refuses : Opening

-- what came of it where a call gave this result
abbrev pub opening_of : {T E : Type 0} → (T → Option Supply) → Result T E → Opening
opening_of supply (Ok text) = Opens (supply text)
opening_of supply (Err error) = Refuses

-- these texts were opened, each its own, and are about to give this
abbrev pub AreOpen : (Reading → Opening → Type 0) → List Reading → List (Option Supply) → Type 0
AreOpen may_come readings given = AllZip (λ reading supply. may_come reading (Opens supply)) readings given

-- what was asked for, where that is known, grew by these, in this order
abbrev pub Asks : {A : Type 0} → Option (List A) → Option (List A) → List A → Type 0
Asks None new more = ⊤
Asks (Some xs) None more = ⊥
Asks (Some xs) (Some ys) more = ys ≡ xs ++ more

-- The first of these texts that can't be opened; those before it were. What was asked for grew by these and
-- it.
pub record IsFirstRefused (may_come : Reading → Opening → Type 0) (asked asked' : Option (List Reading))
    (readings : List Reading) (reading : Reading) : Type 0 where
  pub before : List Reading
  pub rest : List Reading
  pub readings_are : readings ≡ before ++ reading ∷ rest
  pub given : List (Option Supply)
  pub opened : AreOpen may_come before given
  pub refused : may_come reading Refuses
  pub tried : Asks asked asked' (before ++ reading ∷ [])

-- what a text is called
abbrev pub name_of : Reading → List ℕ
name_of (ReadsMacros folder name) = macro_path folder name
name_of (ReadsFile name) = name
name_of ReadsStandard = codes "-"

-- the line that reports that it can't be opened
abbrev pub unopened_text : Reading → List ℕ
unopened_text reading = codes "nroff: cannot open " ++ name_of reading ++ codes "\n"
