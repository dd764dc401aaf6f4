-- The name of the table that a page takes.
use Rattle.std.specs.Prelude.{◌≡◌, ℕ, List, [], ◌∷◌, ◌++◌, take, Bool, true, false, not, ◌==◌, ◌&&◌, ◌||◌}
use Rattle.std.specs.Prelude.{if◌then◌else◌, Option, None, Some, ⊤, codes}
use Rattle.std.specs.List.{starts_with}
use Rattle.utf8_characters.specs.declared.table.FixedTable.{FixedTable}
use Rattle.utf8_characters.specs.Tables.{name_of}
use Rattle.utf8_converter.specs.Choosing.{chosen, looked_at}
use Rattle.utf8_own_page.specs.Needing.{has_all, may_need_own}
use Rattle.filters.specs.Disk.{is_standard}
use Rattle.filters.specs.Program as programs
use Rattle.filters_own.specs.Looking.{LookIsShort, counts_in, prefix_in}

-- ---- frames

-- the rest of a page, from the beginning of a line or from within one
abbrev pub has_table_from : Bool → List ℕ → Bool
has_table_from begins [] = false
has_table_from begins (byte ∷ bytes) =
    (if begins then starts_with (λ a b. a == b) (byte ∷ bytes) (codes ".TS") else false)
    || has_table_from (byte == 10) bytes

-- a line of the page begins with `.TS`
abbrev pub has_tables : List ℕ → Bool
has_tables page = has_table_from true page

-- ---- the choice, by the first 512 KiB of a page

-- the fixed table
abbrev pub fixed_for : List ℕ → FixedTable
fixed_for prefix = chosen (take looked_at prefix)

-- it lacks some of what the page prints, and of what its frames are drawn with
abbrev pub lacks : FixedTable → List ℕ → Bool
lacks fixed prefix = not (has_all fixed (counts_in (has_tables prefix) prefix))

-- a page that is no standard input, and is beyond ASCII or names such characters, is asked whether it does
abbrev pub asks_for_own : List ℕ → List ℕ → Bool
asks_for_own name prefix = not (is_standard name) && may_need_own prefix

abbrev pub needs_own : List ℕ → List ℕ → Bool
needs_own name prefix = asks_for_own name prefix && lacks (fixed_for prefix) prefix

-- THE LINE OF A PAGE, by its name
abbrev pub line_for : List ℕ → List ℕ → List ℕ
line_for name prefix =
    (if needs_own name prefix then codes "own:" ++ name else name_of (fixed_for prefix)) ++ codes "\n"

abbrev pub IsShortIf : Bool → List ℕ → Type 0
IsShortIf false prefix = ⊤
IsShortIf true prefix = LookIsShort prefix

-- it is this one, where what each stage is given that is asked has less than 2^40 bytes
abbrev pub IsLine : List ℕ → List ℕ → List ℕ → Type 0
IsLine name prefix line = IsShortIf (asks_for_own name prefix) prefix → line ≡ line_for name prefix

abbrev pub IsLineIn : List ℕ → Option (List ℕ) → List ℕ → Type 0
IsLineIn name None line = ⊤
IsLineIn name (Some bytes) line = IsLine name (prefix_in bytes) line

-- The line of the table of this text is to be printed.
pub record AsksForChoice (name : List ℕ) (job : programs.Job) : Type 0 where
  pub left : Option (List ℕ)
  pub line : List ℕ
  pub is : IsLineIn name left line
  pub job_is : job ≡ programs.Answers (record { name = name; left = left }) line

-- and was, up to this ending
abbrev pub ComesToChoice : {Ending : Type 0} → List ℕ → (programs.Job → Ending → Type 0) → Ending → Type 0
ComesToChoice name Comes ending = (job : programs.Job) × AsksForChoice name job × Comes job ending
