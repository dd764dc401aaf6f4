-- An address in a block (man(7), `.UR`, `.MT`): the first word of the request waits, and stands in angle brackets after the text up to `.UE` or
-- `.ME`, whose words follow it without a blank. It is one part, which no line divides.
use Rattle.std.specs.Prelude.{ℕ, ◌+◌, true, false, ◌&&◌, List, slice_range, Option, None, Some}
use Rattle.tbl_blocks.specs.declared.addresses.Address.{Address}
use Rattle.tbl_blocks.specs.declared.arguments.Argument.{Argument}
use Rattle.tbl_blocks.specs.declared.blocks.Blocks.{Blocks}
use Rattle.tbl_blocks.specs.declared.parts.Join.TheVariants as joins
use Rattle.tbl_blocks.specs.declared.parts.Known.{Known}
use Rattle.tbl_blocks.specs.declared.parts.Part.{Part}
use Rattle.tbl_blocks.specs.declared.reading.Reading.{Reading}
use Rattle.tbl_blocks.specs.Arguments.{argument}
use Rattle.tbl_blocks.specs.Extents.{extent_of}
use Rattle.tbl_blocks.specs.Lists.{added}
use Rattle.tbl_blocks.specs.Parts.{sum}

abbrev pub address_part : Address → Reading → Part
address_part a r = record {
  start = a.start;
  «end» = a.«end»;
  cells = sum a.cells 2;
  font = r.face.font;
  join = r.join;
  indent = r.margins.indent;
  bracketed = true;
}

abbrev pub after_address : Address → Reading → Reading
after_address a r = record r {
  address = None;
  join = joins.Glued;
  ends = false;
  begun = true;
  seen = record r.seen { sure = r.seen.sure && a.sure };
}

abbrev pub address_in : Option Argument → List ℕ → ℕ → List Known → Option Address
address_in None text place strings = None
address_in (Some a) text place strings =
    let extent = extent_of (slice_range text a.start a.«end») strings in
    Some (record { start = place + a.start; «end» = place + a.«end»; cells = extent.cells; sure = extent.sure })

abbrev pub address_of : List ℕ → ℕ → List Known → Option Address
address_of text place strings = address_in (argument text) text place strings

abbrev pub address_put_in : Option Address → Blocks → Blocks
address_put_in None s = s
address_put_in (Some a) s = record s { parts = added (address_part a s.reading) s.parts; reading = after_address a s.reading }

-- one that waits stands here
abbrev pub address_put : Blocks → Blocks
address_put s = address_put_in s.reading.address s

abbrev pub address_begun : List ℕ → ℕ → Blocks → Blocks
address_begun text place s = record s { reading = record s.reading { address = address_of text place s.strings.items } }

abbrev pub address_read : List ℕ → ℕ → Blocks → Blocks
address_read text place s = address_begun text place (address_put s)
