-- Pages and vertical spacing (CSTR 54, page control; vertical spacing; three-part titles).
use Prim.Native.Char.{code}
use Rattle.std.specs.Prelude.{ℕ, true, false, List, Option, Some, None, ℤ, pos}
use Rattle.std.specs.Option.{option_and_then}
use Rattle.nr_units.specs.Units.{in_range}
use Rattle.nr_units.specs.declared.units.Scale.TheVariants.{VerticalSpace, Point, Unit as OneUnit}
use Rattle.nr_settings.specs.Arguments.{byte_in}
use Rattle.nr_settings.specs.Lengths.{height_of}
use Rattle.nr_settings.specs.Numbers.{first_value, first_change, applied}
use Rattle.nr_settings.specs.declared.numbers.Change.{Change}
use Rattle.nr_settings.specs.declared.pages.Pages.{Pages}

-- `.pl ±N`: the page length; without N 11 inches
abbrev pub new_length : Option Change → ℕ → ℕ
new_length None old = 2640
new_length (Some change) old = height_of (applied change (pos old))

abbrev pub pl : List ℕ → ℤ → Pages → Pages
pl line here s =
    record s { page_length = new_length (first_change VerticalSpace s.spacing here line) s.page_length }

-- `.vs N`: the vertical space; without N the one before the last change
abbrev pub with_spacing : Option ℤ → Pages → Pages
with_spacing None s = record s { spacing = s.previous_spacing; previous_spacing = s.spacing }
with_spacing (Some units) s = record s { spacing = height_of units; previous_spacing = s.spacing }

abbrev pub vs : List ℕ → ℤ → Pages → Pages
vs line here s = with_spacing (first_value Point s.spacing here line) s

-- `.ns`, `.rs`: no-space mode on and off
abbrev pub ns : Pages → Pages
ns s = record s { no_space = true }

abbrev pub rs : Pages → Pages
rs s = record s { no_space = false }

-- `.pc c`: the page number character in titles; without c none
abbrev pub pc : List ℕ → Pages → Pages
pc line s = record s { number_character = byte_in line }

-- `.bp ±N`, `.pn ±N`: the number of a page, of which the signs count from the number at hand. One that is out of range
-- counts as absent.
abbrev pub page_number : List ℕ → ℕ → ℤ → Option ℤ
page_number line v number =
    option_and_then (λ change. in_range (applied change number)) (first_change OneUnit v (pos 0) line)

-- those at first: pages of 11 inches, lines of a sixth, `%` for the page number
abbrev pub first_pages : Pages
first_pages =
    record {
      page_length = 2640;
      spacing = 40;
      previous_spacing = 40;
      no_space = false;
      mark = 0;
      number_character = Some (code "%");
    }
