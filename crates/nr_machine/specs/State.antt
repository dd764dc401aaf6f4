-- The state of the machine, between two moves.
use Rattle.std.specs.Prelude.{ℕ, Bool, List, [], ◌∷◌, map, Option, ℤ}
use Rattle.nr_units.specs.Source.{Supply}
use Rattle.nr_vectors.specs.declared.cell.Cell.{Cell}
use Rattle.nr_fill.specs.Piece.{nothing_collected}
use Rattle.nr_page.specs.Grid.{Placed}
use Rattle.nr_page.specs.declared.faces.Faces.{Faces}
use Rattle.nr_page.specs.declared.selection.PageRange.{PageRange}
use Rattle.nr_store.specs.Store.{nothing}
use Rattle.nr_store.specs.Request.{request_names}
use Rattle.nr_input.specs.Place.{Coming, whole}
use Rattle.nr_options.specs.Limits.{Bounds}
use Rattle.nr_options.specs.declared.options.Options.{Options}
use Rattle.nr_formatter.specs.Beginning.{first_formatter}
use Rattle.nr_formatter.specs.declared.formatter.Formatter.{Formatter}

-- a page that has ended: whether it is one to print, the faces that it shows, how many rows its length holds, and the lines
-- placed on it
pub record Ended : Type 0 where
  pub printed : Bool
  pub faces : Faces
  pub rows : ℕ
  pub lines : List Placed

-- what a run is given before its input
pub data Choice : Type 0 where
  -- the number of the first page
  First : ℤ → Choice
  -- a register of a name of one byte, and its number
  Register : ℕ → ℤ → Choice

pub record State : Type 0 where
  -- what of the options has still to take effect
  pub chosen : List Choice
  -- what is to come of the source
  pub coming : Coming
  -- all that is kept but pages
  pub formatter : Formatter
  -- the diverted line that is being read again
  pub row : List Cell
  -- the lines on the open page, the latest last
  pub lines : List Placed
  -- the pages that have ended, the latest last
  pub pages : List Ended
  -- what the open page may be charged
  pub page_limit : ℕ
  -- the pages to print; all where there is no list
  pub select : Option (List PageRange)
  -- the faces that they show
  pub faces : Faces

-- the number of the first page, and then the registers in order
abbrev pub choices : Options → List Choice
choices options = First options.first ∷ map (λ r. Register r.0 r.1) options.registers.items

-- with nothing read
abbrev pub formatter_at_first : Bounds → Formatter
formatter_at_first b =
    first_formatter (nothing request_names b.stored b.depth)
    (record { collected = nothing_collected; limit = b.cells }) b.expansions

-- with the whole input before it
abbrev pub start : Bounds → Options → Supply → State
start b options supply = record {
  chosen = choices options;
  coming = whole supply;
  formatter = formatter_at_first b;
  row = [];
  lines = [];
  pages = [];
  page_limit = b.cells;
  select = options.select;
  faces = options.faces;
}

-- a move that touches neither the source nor a page
abbrev pub plainly : (Formatter → Formatter) → State → State
plainly f s = record s { formatter = f s.formatter }
