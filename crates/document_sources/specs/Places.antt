-- Files that are opened by their paths.
use Rattle.std.specs.Prelude.{◌≡◌, ℕ, List, [], ◌∷◌, ◌++◌, Option, None, Some, ⊤, codes}
use Rattle.document_sources.specs.Names.{LiesIn}

-- what was asked for, where that is known, grew by these, in this order
abbrev pub Asks : Option (List (List ℕ)) → Option (List (List ℕ)) → List (List ℕ) → Type 0
Asks None new more = ⊤
Asks (Some xs) None more = ⊥
Asks (Some xs) (Some ys) more = ys ≡ xs ++ more

-- each of these paths lies in the folder
abbrev pub AllLieIn : List ℕ → List (List ℕ) → Type 0
AllLieIn folder [] = Unit {0}
AllLieIn folder (path ∷ paths) = LiesIn folder path × AllLieIn folder paths

-- NOTHING OUTSIDE OF THE FOLDER WAS ASKED FOR
pub record AsksIn (folder : List ℕ) (asked asked' : Option (List (List ℕ))) : Type 0 where
  pub paths : List (List ℕ)
  pub asks : Asks asked asked' paths
  pub within : AllLieIn folder paths

-- a path below another
abbrev pub joined_path : List ℕ → List ℕ → List ℕ
joined_path root name = root ++ codes "/" ++ name
