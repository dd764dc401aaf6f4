-- Text outside of tables goes out as it came (Lesk, "Usage"; tbl(1), "Description").
use Rattle.std.specs.Prelude.{◌≡◌, ℕ, ◌≤◌, List, [], ◌∷◌, ◌++◌, codes, Bool, true, not, ◌==◌, ◌&&◌}
use Prim.Native.Char.{code}
use Rattle.tbl_reader.specs.declared.command.Start.TheVariants.{Nothing}
use Rattle.tbl_reader.specs.declared.reader.Limits.{Limits}
use Rattle.tbl_reader.specs.declared.state.Mode.TheVariants as modes
use Rattle.tbl_reader.specs.Ending.{first_page}
use Rattle.tbl_reader.specs.Pages.{Page}
use Rattle.tbl_reader.specs.Reading.{fed}
use Rattle.tbl_reader.specs.Untouched.{is_untouched}
use Rattle.tbl_setting.specs.Bounds.{Bounds}
use Rattle.tbl_setting.specs.Running.{set_page}

abbrev pub BeginsWith : List ℕ → List ℕ → Type 0
BeginsWith text out = (more : List ℕ) × (out ≡ text ++ more)

-- ---- a page in which no line begins a table, and what stands before the first such line of another one

abbrev pub PagesStay : Type 0
PagesStay =
    (b : Bounds) (page : List ℕ) → is_untouched page ≡ true
    → set_page b page ≡ page

abbrev pub FirstTextStays : Type 0
FirstTextStays =
    (b : Bounds) (text rest : List ℕ) → is_untouched text ≡ true
    → BeginsWith text (set_page b (text ++ rest))

-- ---- what stands after `.TE`

abbrev pub table_end : List ℕ
table_end = codes ".TE\n"

-- a line ends here, and not with a backslash; or the page begins here
abbrev pub ends_after : ℕ → ℕ → List ℕ → Bool
ends_after a b [] = not (a == code "\\") && (b == code "\n")
ends_after a b (c ∷ cs) = ends_after b c cs

abbrev pub ends_line : List ℕ → Bool
ends_line page = ends_after (code "\n") (code "\n") page

-- outside of tables, where a line begins
abbrev pub IsOutside : Page → Type 0
IsOutside p = p.state.mode ≡ modes.Passing Nothing

abbrev pub TablesEnd : Type 0
TablesEnd =
    (limits : Limits) (before : List ℕ) → 3 ≤ limits.row → ends_line before ≡ true
    → IsOutside (fed (before ++ table_end) (first_page limits)).page

-- up to the end of the page, or to where a table begins
abbrev pub LastTextStays : Type 0
LastTextStays =
    (b : Bounds) (before text : List ℕ) → 3 ≤ b.limits.row → ends_line before ≡ true
    → is_untouched text ≡ true
    → set_page b (before ++ table_end ++ text)
    ≡ set_page b (before ++ table_end) ++ text

abbrev pub TextBetweenStays : Type 0
TextBetweenStays =
    (b : Bounds) (before text rest : List ℕ) → 3 ≤ b.limits.row
    → ends_line before ≡ true → is_untouched text ≡ true
    → BeginsWith (set_page b (before ++ table_end) ++ text)
    (set_page b (before ++ table_end ++ text ++ rest))
