-- Blocks as they are held: their parts, their lines, and the strings that are known.
use Rattle.std.specs.Prelude.{ℕ, ◌+◌, Bool, true, false, List, [], length, slice_range}
use Rattle.nr_vectors.specs.Items.{Items}
use Rattle.tbl_blocks.specs.declared.blocks.Blocks.{Blocks}
use Rattle.tbl_blocks.specs.declared.parts.Font.{Font}
use Rattle.tbl_blocks.specs.declared.parts.Font.TheVariants as fonts
use Rattle.tbl_blocks.specs.declared.parts.Part.{Part}
use Rattle.tbl_blocks.specs.Filling.{lines_of, longest}
use Rattle.tbl_blocks.specs.Lists.{added_all}
use Rattle.tbl_blocks.specs.Reading.{reading_of}
use Rattle.tbl_blocks.specs.Words.{block_ended, lines_read, with_reading, words_read}

abbrev pub none_of : {T : Type 0} → Items T → Items T
none_of xs = record { items = []; capacity = xs.capacity }

abbrev pub first_blocks : ℕ → ℕ → ℕ → Blocks
first_blocks most_parts most_lines most_strings = record {
  parts = record { items = []; capacity = most_parts };
  lines = record { items = []; capacity = most_lines };
  strings = record { items = []; capacity = most_strings };
  reading = reading_of fonts.Roman false;
}

abbrev pub cleared : Blocks → Blocks
cleared s = record s { parts = none_of s.parts; lines = none_of s.lines; reading = reading_of fonts.Roman false }

abbrev pub without_lines : Blocks → Blocks
without_lines s = record s { lines = none_of s.lines }

-- its rooms: as much as there is room for, and nothing held
abbrev pub emptied : Blocks → Blocks
emptied s = record {
  parts = none_of s.parts;
  lines = none_of s.lines;
  strings = none_of s.strings;
  reading = reading_of fonts.Roman false;
}

-- ---- reading

abbrev pub block_read : List ℕ → ℕ → Font → Bool → Blocks → Blocks
block_read text place f spread s =
    block_ended (place + length text) (lines_read text place (with_reading (reading_of f spread) s))

abbrev pub field_read : List ℕ → ℕ → Font → Blocks → Blocks
field_read text place f s = words_read text place (with_reading (reading_of f false) s)

-- ---- filling

abbrev pub some_parts : ℕ → ℕ → Blocks → List Part
some_parts first end s = slice_range s.parts.items first end

abbrev pub filled : ℕ → ℕ → ℕ → Bool → Blocks → Blocks
filled first end width spread s =
    record s { lines = added_all (lines_of first (record { width = width; spread = spread }) (some_parts first end s)) s.lines }

abbrev pub longest_run : ℕ → ℕ → Blocks → ℕ
longest_run first end s = longest false (some_parts first end s)

abbrev pub longest_word : ℕ → ℕ → Blocks → ℕ
longest_word first end s = longest true (some_parts first end s)
