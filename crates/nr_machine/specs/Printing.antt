-- Which pages are printed, and their bytes. (CSTR 54, usage, option -o.)
use Rattle.std.specs.Prelude.{ℕ, Bool, true, ◌&&◌, if◌then◌else◌, List, [], Option, None, Some, ℤ, pos, int_le}
use Rattle.std.specs.List.{flat_map, list_any}
use Rattle.nr_page.specs.PageBytes.{page_bytes}
use Rattle.nr_page.specs.declared.selection.PageRange.{PageRange}
use Rattle.nr_page.specs.declared.selection.PageRange.TheVariants.{One, Between, UpTo, From}
use Rattle.nr_machine.specs.State.{Ended}

abbrev pub includes : PageRange → ℤ → Bool
includes (One n) page = int_le (pos n) page && int_le page (pos n)
includes (Between n m) page = int_le (pos n) page && int_le page (pos m)
includes (UpTo n) page = int_le page (pos n)
includes (From n) page = int_le (pos n) page

-- a page of this number is printed: an item of the list names it, or there is no list
abbrev pub selects : Option (List PageRange) → ℤ → Bool
selects None page = true
selects (Some items) page = list_any (λ item. includes item page) items

-- the bytes of a page that has ended: none where it is not printed
abbrev pub bytes_of : Ended → List ℕ
bytes_of p = if p.printed then page_bytes p.faces p.rows p.lines else []

-- the bytes of the pages
abbrev pub text : List Ended → List ℕ
text pages = flat_map bytes_of pages
