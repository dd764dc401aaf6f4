-- Text blocks (Tbl, "Data"; tbl(1), "Text blocks"): lines from a field `T{` to a line that begins with `T}`, after which the row goes on.
use Rattle.std.specs.Prelude.{ℕ, ◌+◌, ◌-◌, List, [], ◌∷◌, ◌++◌, length, drop, Bool, false, ◌==◌, ◌&&◌, if◌then◌else◌, nat_lt}
use Rattle.std.specs.Prelude.{get_or, min, nat_le, take}
use Rattle.std.specs.List.{prefix_len}
use Prim.Native.Char.{code}
use Rattle.nr_units.specs.Name.{capacity}
use Rattle.tbl_blocks.specs.Words.{is_unset, request_name}
use Rattle.tbl_reader.specs.declared.complaint.Kind.TheVariants.{OpenBlock, UnsetRequest}
use Rattle.tbl_reader.specs.declared.state.Mode.TheVariants as modes
use Rattle.tbl_reader.specs.declared.telling.Tell.TheVariants as tells
use Rattle.tbl_reader.specs.Commands.{is_command}
use Rattle.tbl_reader.specs.Fields.{without_blanks_before}
use Rattle.tbl_reader.specs.Pages.{Page, Effect, effect, and_then, with_state, at_mode, forgotten, wrong}
use Rattle.tbl_reader.specs.RowLines.{row_ended, row_line, row_overflown, table_ended, long_end}
use Rattle.tbl_reader.specs.States.{field_counted}
use Rattle.tbl_reader.specs.Telling.{Piece, piece, each}

abbrev pub ends_block : List ℕ → Bool
ends_block [] = false
ends_block (a ∷ []) = false
ends_block (a ∷ b ∷ rest) = (a == code "T") && (b == code "}")

-- where the row goes on after `T}`: after the blanks there
abbrev pub rest_at : List ℕ → ℕ
rest_at line = length line - length (without_blanks_before (drop 2 line))

-- something stands after it
abbrev pub goes_on : Page → Bool
goes_on p = nat_lt (rest_at p.kept) (length p.kept)

-- after what separates fields, or where the row goes on
abbrev pub field_at : Page → ℕ
field_at p = let rest = rest_at p.kept in
    if get_or p.kept rest 0 == p.state.options.tab then rest + 1 else rest

-- a text block has ended: the row goes on after it, or ends
abbrev pub block_left : Page → Effect
block_left p =
    effect (if goes_on p then record p {
      state = record (field_counted p.state) { mode = modes.Row };
      from = field_at p;
      start = field_at p;
    }
    else with_state (field_counted p.state) p) (piece tells.BlockEnd [] ∷ [])

-- a line that begins with `T}` ends
abbrev pub block_ended : Page → Effect
block_ended p = and_then (block_left p) (if goes_on p then row_line else row_ended)

-- a byte prints in ASCII, and is no blank
abbrev pub prints : ℕ → Bool
prints b = nat_le (code "!") b && nat_le b (code "~")

-- a text block has no end: it ends with its row
abbrev pub block_closed : Page → Effect
block_closed p = effect p (wrong (OpenBlock p.state.block) p.state ∷ piece tells.BlockEnd [] ∷ piece tells.Row [] ∷ [])

abbrev pub printed_len : List ℕ → ℕ
printed_len name = prefix_len prints name

-- of a name the bytes before the first that doesn't print are reported, so many at most
abbrev pub reported_name : List ℕ → List ℕ
reported_name name = take (min (printed_len name) capacity) name

-- a request that isn't set is reported
abbrev pub unset_reported : Page → List Piece
unset_reported p =
    if is_unset p.kept then wrong (UnsetRequest (reported_name (request_name p.kept))) p.state ∷ [] else []

-- a line of it is said
abbrev pub block_said : Page → Effect
block_said p = effect (forgotten p) (unset_reported p ++ (each tells.BlockText p.kept ++ each tells.BlockText (code "\n" ∷ [])))

-- the beginning of one is said, the rest of which is not kept
abbrev pub block_line_begun : Page → Effect
block_line_begun p = effect (forgotten (at_mode modes.BlockLine p)) (unset_reported p ++ each tells.BlockText p.kept)

-- a line in a text block ends
abbrev pub block_line : Page → Effect
block_line p =
    if ends_block p.kept then block_ended p else
    if is_command (code "E") p.kept then and_then (block_closed p) table_ended else block_said p

-- it is longer than what is kept
abbrev pub block_overflown : Page → Effect
block_overflown p =
    if ends_block p.kept then and_then (block_left p) row_overflown else
    if is_command (code "E") p.kept then and_then (block_closed p) long_end
    else block_line_begun p
