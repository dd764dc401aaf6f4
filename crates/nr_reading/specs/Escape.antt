-- Copy mode and argument mode: what the next item is (CSTR 54, 7.2; the groff manual, Copy Mode).
use Prim.Native.Char.{code}
use Rattle.std.specs.Prelude.{ℕ, ◌==◌, ◌&&◌, Bool, if◌then◌else◌}
use Rattle.nr_vectors.specs.declared.cell.Cell.{Cell}
use Rattle.nr_reading.specs.declared.ask.Kind.TheVariants as kinds
use Rattle.nr_reading.specs.declared.ask.Sign.TheVariants as signs
use Rattle.nr_reading.specs.declared.escape.Offer.{Offer}
use Rattle.nr_reading.specs.declared.escape.Offer.TheVariants as offers
use Rattle.nr_reading.specs.declared.next_item.NextItem.{NextItem}
use Rattle.nr_reading.specs.declared.next_item.NextItem.TheVariants as next_items
use Rattle.nr_reading.specs.declared.mode.Escape.{Escape}
use Rattle.nr_reading.specs.declared.mode.Escape.TheVariants as escapes

-- A byte after `\`: `\n`, `\*`, `\$` interpolate, in arguments `\w` too; `\` with a newline vanishes; `\"` begins a comment;
-- `\t` and `\a` become tab and SOH, `\\` becomes `\`, `\.` becomes `.`. Before any other byte the `\` is kept.
abbrev pub escaped : ℕ → Bool → Offer
escaped b argument =
    if b == code "\\" then offers.Byte (code "\\")
    else (if b == code "." then offers.Byte (code ".")
    else (if b == code "t" then offers.Byte (code "\t")
    else (if b == code "a" then offers.Byte 1
    else (if b == code "\n" then offers.Skip escapes.Plain
    else (if b == code "\"" then offers.Skip escapes.Comment
    else (if b == code "*" then offers.Begin kinds.String
    else (if b == code "$" then offers.Begin kinds.Argument
    else (if b == code "n" then offers.Begin (kinds.Register signs.None)
    else (if (b == code "w") && argument then offers.Begin kinds.Width
    else offers.Backslash)))))))))

-- a byte, by what of an escape was read; a comment vanishes up to the newline
abbrev pub offer_byte : ℕ → Escape → Bool → Offer
offer_byte b escapes.Plain argument = if b == code "\\" then offers.Skip escapes.Begun else offers.Byte b
offer_byte b escapes.Begun argument = escaped b argument
offer_byte b escapes.Comment argument =
    if b == code "\n" then offers.Byte (code "\n") else offers.Skip escapes.Comment

-- A cell of a diversion is read as its byte, which never begins an escape.
abbrev pub offer_cell : Cell → Escape → Offer
offer_cell c escapes.Plain = offers.Byte c.byte
offer_cell c escapes.Begun = offers.Backslash
offer_cell c escapes.Comment = offers.Skip escapes.Comment

-- Its line end is read as a newline.
abbrev pub offer_line_end : Escape → Offer
offer_line_end escapes.Begun = offers.Backslash
offer_line_end e = offers.Byte (code "\n")

-- A resume mark and the empty list end what is read.
abbrev pub offer_over : Escape → Offer
offer_over escapes.Begun = offers.Backslash
offer_over e = offers.Over

-- A level's end mark is taken before what is after it is looked at.
abbrev pub offer : NextItem → Escape → Bool → Offer
offer next_items.Mark e argument = offers.Skip e
offer (next_items.Byte b) e argument = offer_byte b e argument
offer (next_items.Cell c) e argument = offer_cell c e
offer (next_items.LineEnd h) e argument = offer_line_end e
offer next_items.Resume e argument = offer_over e
offer next_items.Over e argument = offer_over e

-- what is read as it stands
abbrev pub raw_offer : NextItem → Escape → Offer
raw_offer next_items.Mark e = offers.Skip e
raw_offer (next_items.Byte b) e = offers.Byte b
raw_offer f e = offers.Over
