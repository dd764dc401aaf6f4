-- The texts of a system, by their names.
use Rattle.std.specs.Prelude.{◌≡◌, ℕ, List, [], ◌∷◌, ◌++◌, Bool, true, false, Option, None, Some, Result, Ok, Err, ⊤, ◌⊎◌, codes}
use Rattle.std.specs.List.{AllZip}
use Rattle.std.specs.Str.{bytes_eq}
use Rattle.filters.specs.declared.disk.Stream.{Stream}
use Rattle.filters.specs.declared.disk.Stream.TheVariants.{File, Standard}
use Rattle.filters.specs.declared.disk.Text.{Text}
use Rattle.filters.specs.declared.endings.Ending.{Ending}
use Rattle.filters.specs.declared.endings.Ending.TheVariants.{CannotOpen, CannotRead, OutOfMemory}

-- the bytes that are left to be read, where they are known
abbrev pub left_of :
    {F I : Type 0} → (F → Option (List ℕ)) → (I → Option (List ℕ)) → Stream F I → Option (List ℕ)
left_of file standard (File f) = file f
left_of file standard (Standard i) = standard i

-- what comes of opening a text: these bytes are left of it, where they are known, or it can't be opened
pub data Opening : Type 0 where
  Opens : Option (List ℕ) → Opening
  Refuses : Opening

-- what came of it where a call gave this result
abbrev pub opening_of : {T E : Type 0} → (T → Option (List ℕ)) → Result T E → Opening
opening_of left (Ok text) = Opens (left text)
opening_of left (Err error) = Refuses

-- what was asked for, where that is known, grew by these, in this order
abbrev pub Asks : Option (List (List ℕ)) → Option (List (List ℕ)) → List (List ℕ) → Type 0
Asks None new more = ⊤
Asks (Some xs) None more = ⊥
Asks (Some xs) (Some ys) more = ys ≡ xs ++ more

-- ---- by names

-- the names of what is read: standard input where there is none
abbrev pub named : List (List ℕ) → List (List ℕ)
named [] = codes "-" ∷ []
named (name ∷ names) = name ∷ names

-- standard input has this name
abbrev pub is_standard : List ℕ → Bool
is_standard name = bytes_eq name (codes "-")

-- the paths that a name asks for: none for standard input, and else its own
abbrev pub path_where : Bool → List ℕ → List (List ℕ)
path_where true name = []
path_where false name = name ∷ []

abbrev pub paths_of : List ℕ → List (List ℕ)
paths_of name = path_where (is_standard name) name

abbrev pub all_paths : List (List ℕ) → List (List ℕ)
all_paths [] = []
all_paths (name ∷ names) = paths_of name ++ all_paths names

-- what may come of opening a name: standard input is always open, with these bytes left, and else what may of the path
abbrev pub MayComeWhere : Bool → Option (List ℕ) → (List ℕ → Opening → Type 0) → List ℕ → Opening → Type 0
MayComeWhere true standard may_open name opening = opening ≡ Opens standard
MayComeWhere false standard may_open name opening = may_open name opening

abbrev pub MayCome : Option (List ℕ) → (List ℕ → Opening → Type 0) → List ℕ → Opening → Type 0
MayCome standard may_open name opening = MayComeWhere (is_standard name) standard may_open name opening

-- ---- texts that are open

-- a text: its name, and the bytes that are left of it, where they are known
pub record Opened : Type 0 where
  pub name : List ℕ
  pub left : Option (List ℕ)

abbrev pub opened_of :
    {F I : Type 0} → (F → Option (List ℕ)) → (I → Option (List ℕ)) → Text F I → Opened
opened_of file standard text = record { name = text.name.now; left = left_of file standard text.stream }

-- the text of this name, and what may come of opening it
abbrev pub IsOpened : (List ℕ → Opening → Type 0) → List ℕ → Opened → Type 0
IsOpened may_come name text = (text.name ≡ name) × may_come name (Opens text.left)

-- those of these names, in order
abbrev pub AreOpened : (List ℕ → Opening → Type 0) → List (List ℕ) → List Opened → Type 0
AreOpened may_come names texts = AllZip (IsOpened may_come) names texts

-- One text was opened by its name, or can't be; its path was asked for.
pub record OpensName {T E : Type 0} (standard : Option (List ℕ)) (may_open : List ℕ → Opening → Type 0)
    (asked asked' : Option (List (List ℕ))) (shown : T → Opened) (name : List ℕ) (result : Result T E)
    : Type 0 where
  pub comes : MayCome standard may_open name (opening_of (λ text. (shown text).left) result)
  pub asks : Asks asked asked' (paths_of name)

-- The first of these names that can't be opened; those before it were. The paths of these and of it were asked for.
pub record IsFirstRefused (may_come : List ℕ → Opening → Type 0) (asked asked' : Option (List (List ℕ)))
    (names : List (List ℕ)) (name : List ℕ) : Type 0 where
  pub before : List (List ℕ)
  pub rest : List (List ℕ)
  pub names_are : names ≡ before ++ name ∷ rest
  pub texts : List Opened
  pub opened : AreOpened may_come before texts
  pub refused : may_come name Refuses
  pub asks : Asks asked asked' (all_paths (before ++ name ∷ []))

-- Why these texts are not read: one can't be opened, or there was not enough memory, and then none was asked for.
abbrev pub AreUnread : (List ℕ → Opening → Type 0) → Option (List (List ℕ)) → Option (List (List ℕ))
    → List (List ℕ) → Ending → Type 0
AreUnread may_come asked asked' names (CannotOpen name) =
    IsFirstRefused may_come asked asked' names name.now
AreUnread may_come asked asked' names OutOfMemory = Asks asked asked' []
AreUnread may_come asked asked' names ending = ⊥

-- ---- a text that is looked at

-- before the text of this name was opened, or after it
abbrev pub AsksOrNot : Option (List (List ℕ)) → Option (List (List ℕ)) → List ℕ → Type 0
AsksOrNot asked asked' name = Asks asked asked' [] ⊎ Asks asked asked' (paths_of name)

-- why it was not looked at: it can't be opened or read, or there was not enough memory
abbrev pub IsUnlooked : (List ℕ → Opening → Type 0) → Option (List (List ℕ)) → Option (List (List ℕ)) → List ℕ
    → Ending → Type 0
IsUnlooked may_come asked asked' name (CannotOpen reported) =
    (reported.now ≡ name) × may_come name Refuses × Asks asked asked' (paths_of name)
IsUnlooked may_come asked asked' name (CannotRead reported) = (reported.now ≡ name) × Asks asked asked' (paths_of name)
IsUnlooked may_come asked asked' name OutOfMemory = AsksOrNot asked asked' name
IsUnlooked may_come asked asked' name ending = ⊥
