-- What the formatter is to read of a page: the composition of the stages' definitions.
use Rattle.std.specs.Prelude.{ℕ, ◌<◌, List, length, Bool, true, false}
use Rattle.nr_units.specs.Source.{Faults, Never, After, Anytime, Supply}
use Rattle.preconv_characters.specs.declared.target.Target.{Target}
use Rattle.mdoc_converter.specs.Reading as mdoc
use Rattle.mdoc_converter.specs.Staged as mdoc_part
use Rattle.preconv_converter.specs.Reading as preconv
use Rattle.preconv_converter.specs.Staged as preconv_part
use Rattle.preconv_characters.specs.declared.target.Target.TheVariants.{Utf8}
use Rattle.utf8_own_characters.specs.Table.{Characters}
use Rattle.utf8_own_stage.specs.Coding.{coded_text}
use Rattle.document_reader.specs.declared.page.Stages.{Stages}

abbrev pub man_of : Bool → List ℕ → List ℕ
man_of true page = mdoc.converted page
man_of false page = page

abbrev pub characters_of : Bool → Target → List ℕ → List ℕ
characters_of true table page = preconv.converted table page
characters_of false table page = page

-- THE TEXT: characters (mdoc page)
abbrev pub plain_of : Stages → Target → List ℕ → List ℕ
plain_of stages table page = characters_of stages.characters table (man_of stages.mdoc page)

-- a page breaks off: from some byte on each call fails
abbrev pub breaks_off : Faults → Bool
breaks_off Never = false
breaks_off (After n) = true
breaks_off Anytime = false

-- the text of a page that doesn't, which fails where the page does
abbrev pub plain_supply : Stages → Target → Supply → Supply
plain_supply stages table q = record { bytes = plain_of stages table q.bytes; faults = q.faults }

-- the text of a page that has a table of its own: coded (characters (mdoc page))
abbrev pub own_of : Stages → Characters → List ℕ → List ℕ
own_of stages table page = coded_text table true (plain_of stages Utf8 page)

abbrev pub own_supply : Stages → Characters → Supply → Supply
own_supply stages table q = record { bytes = own_of stages table q.bytes; faults = q.faults }

-- ---- of the first bytes of a page, where more are to come

abbrev pub man_so_far : Bool → List ℕ → List ℕ
man_so_far true bytes = mdoc_part.said mdoc.first_state false bytes
man_so_far false bytes = bytes

abbrev pub characters_so_far : Bool → Target → List ℕ → List ℕ
characters_so_far true table bytes = preconv_part.said (preconv.first_reader table) false bytes
characters_so_far false table bytes = bytes

abbrev pub plain_so_far : Stages → Target → List ℕ → List ℕ
plain_so_far stages table bytes = characters_so_far stages.characters table (man_so_far stages.mdoc bytes)

abbrev pub own_so_far : Stages → Characters → List ℕ → List ℕ
own_so_far stages table bytes = coded_text table false (plain_so_far stages Utf8 bytes)

-- a page, and what mdoc makes of it, have less than 2^40 bytes
pub record IsShort (page man : List ℕ) : Type 0 where
  pub page_is : length page < 1099511627776
  pub man_is : length man < 1099511627776
