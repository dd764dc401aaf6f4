-- How long the vectors of a desk are.
use Rattle.std.specs.Prelude.{ℕ, ◌+◌, ◌*◌, ◌/◌, min}
use Rattle.nr_options.specs.Limits.{Bounds}
use Rattle.nr_machine.specs.declared.lengths.Sizes.{Sizes}

-- the lengths that limits ask for
abbrev pub sizes_of : Bounds → Sizes
sizes_of b = record {
  elements = b.stored;
  slots = b.stored / 16 + 1;
  names = b.stored / 48 + 57;
  drafts = b.stored / 48 + 1;
  frames = b.depth;
  modes = b.depth;
  bytes = b.stored;
  places = 9 * min b.depth (b.stored / 16);
  gathering = b.stored;
  registers = b.stored / 48 + 1;
  traps = b.stored / 48 + 1;
  trap_order = b.stored / 48 + 1;
  words = b.stored / 16 + 1;
  kinds = 1280;
  cells = b.cells;
  pieces = b.cells;
  row = b.cells + 4096;
  page_cells = b.cells;
  page_texts = b.cells / 2;
  page_rows = b.cells / 2;
}

-- the elements of all vectors
abbrev pub sum_of : Sizes → ℕ
sum_of s =
    s.elements + s.slots + s.names + s.drafts + s.frames + s.modes + s.bytes + s.places + s.gathering
    + s.registers + s.traps + s.trap_order + s.words + s.kinds + s.cells + s.pieces + s.row + s.page_cells
    + s.page_texts + s.page_rows
