-- The rows that go into a diversion. (CSTR 54, section 7.4.)
use Rattle.std.specs.Prelude.{◌≡◌, ℕ, ◌<◌, ◌^◌, ◌-◌, ◌&&◌, min, Bool, true, false, not, if◌then◌else◌, List, [], ◌++◌, map, replicate}
use Rattle.std.proofs.Common.{sym, append_assoc, subst}
use Rattle.std.proofs.lemmas.List.{append-nil}
use Rattle.nr_vectors.specs.Cell.{blank, is_blank, is_plain, trimmed}
use Rattle.nr_vectors.specs.declared.cell.Cell.{Cell}
use Rattle.nr_store.specs.declared.element.Element.TheVariants as elements
use Rattle.nr_store.specs.Store.{Stored, added, charge_of}
use Rattle.nr_formatter.specs.declared.tasks.Resume.{Resume}
use Rattle.nr_formatter.specs.Limits.{stored_limits}

-- a blank is a plain blank
abbrev pub plain : Cell → Cell
plain x = if is_blank x then blank else x

-- what goes into a diversion of a row's cells: not the blanks at its end
abbrev pub diverted_cells : List Cell → List Cell
diverted_cells row = trimmed (map plain row)

-- with these cells more in the newest text being built
abbrev pub with_cells : List Cell → Stored Resume → Stored Resume
with_cells cells v = added (map elements.Cell cells) v

-- a blank that isn't plain
abbrev pub is_faced_blank : Cell → Bool
is_faced_blank x = not (is_plain x.look) && is_blank x

-- cells with which a row ends that has no blank to leave out
pub record EndsRow (cells : List Cell) : Type 0 where
  pub plain_is : map plain cells ≡ cells
  pub all_written : (xs : List Cell) → trimmed (xs ++ cells) ≡ xs ++ cells

-- Of a row of these cells what stands before some blanks was added to what was stored, while that could be afforded, and the blanks wait.
pub record HoldsRow (before : Stored Resume) (row : List Cell) (store : Stored Resume) (blanks : ℕ)
    (refused : Bool) : Type 0 where
  pub done : List Cell
  pub waiting : ℕ
  pub row_is : map plain row ≡ done ++ replicate waiting blank
  pub all_written : trimmed done ≡ done
  pub blanks_are : refused ≡ false → blanks ≡ min waiting (2 ^ 64 - 1)
  pub store_is : refused ≡ false → store ≡ with_cells done before
  pub passed : refused ≡ true → before.limit < charge_of (with_cells done before)
  pub limits : stored_limits store ≡ stored_limits before

-- these cells were added to a row
abbrev pub AddsToDiversion : Stored Resume → ℕ → Bool → List Cell → Stored Resume → ℕ → Bool → Type 0
AddsToDiversion store blanks refused cells store_now blanks_now refused_now =
    (before : Stored Resume) → (row : List Cell) → HoldsRow before row store blanks refused
    → HoldsRow before (row ++ cells) store_now blanks_now refused_now

-- nothing was added
pub AddsToDiversion-nothing : (store : Stored Resume) (blanks : ℕ) (refused : Bool)
    → AddsToDiversion store blanks refused [] store blanks refused
AddsToDiversion-nothing store blanks refused =
    λ before row holds. subst (λ (zs : List Cell). HoldsRow before zs store blanks refused)
    (sym (append-nil row)) holds

-- one after the other
pub AddsToDiversion-both : (store : Stored Resume) (blanks : ℕ) (refused : Bool) (store_then : Stored Resume)
    (blanks_then : ℕ) (refused_then : Bool)
    (store_now : Stored Resume) (blanks_now : ℕ) (refused_now : Bool) (xs ys : List Cell)
    → AddsToDiversion store blanks refused xs store_then blanks_then refused_then
    → AddsToDiversion store_then blanks_then refused_then ys store_now blanks_now refused_now
    → AddsToDiversion store blanks refused (xs ++ ys) store_now blanks_now refused_now
AddsToDiversion-both store blanks refused store_then blanks_then refused_then store_now blanks_now refused_now
    xs ys first second =
    λ before row holds. subst (λ (zs : List Cell). HoldsRow before zs store_now blanks_now refused_now)
    (append_assoc row xs ys) (second before (row ++ xs) (first before row holds))
