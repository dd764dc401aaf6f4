-- Macros are called (mdoc(7), MACRO SYNTAX): what is pending from the one before, and what they say before
-- their words.
use Rattle.std.specs.Prelude.{◌≡◌, ℕ, ◌+◌, ◌-◌, List, [], ◌∷◌, ◌++◌, length, take, slice_index, Bool, true}
use Rattle.std.specs.Prelude.{false, not, ◌==◌, ◌&&◌, nat_lt, if◌then◌else◌, Option, None, Some}
use Rattle.mdoc_layout.specs.declared.acts.Act.TheVariants as acts
use Rattle.mdoc_layout.specs.declared.acts.Text.TheVariants as texts
use Rattle.mdoc_layout.specs.declared.macros.Macro.{Macro}
use Rattle.mdoc_layout.specs.declared.macros.Macro.TheVariants as macros
use Rattle.mdoc_layout.specs.declared.macros.Pair.{Pair}
use Rattle.mdoc_layout.specs.declared.macros.Pair.TheVariants as pairs
use Rattle.mdoc_layout.specs.declared.page.Page.{Page}
use Rattle.mdoc_layout.specs.declared.page.Scan.TheVariants as scans
use Rattle.mdoc_layout.specs.declared.seen.Seen.{Seen}
use Rattle.mdoc_words.specs.Macros.{macro_of}
use Rattle.mdoc_words.specs.Meanings.{is_callable, is_nothing, is_opened_by, is_pending_from, joins_next}
use Rattle.mdoc_words.specs.Meanings.{pending_from}
use Rattle.mdoc_words.specs.Rules.{function_closes, is_none, seen_with, takes_no_more, with_place}
use Rattle.mdoc_layout.specs.Columns.{is_column}
use Rattle.mdoc_layout.specs.Seeing.{Offered, offered, left, two, taken, and_taken}
use Rattle.mdoc_layout.specs.Texts.{closer}

-- ---- what a word is

abbrev pub callable : Bool → Option Macro → Option Macro
callable quoted None = None
callable quoted (Some m) = if not quoted && is_callable m then Some m else None

-- the macro that a word calls
abbrev pub called_by : Bool → List ℕ → Option Macro
called_by quoted word = callable quoted (macro_of word)

-- ---- changes

-- ---- macros that stand for text where they took no word

abbrev pub is_enclosure_pending : Page → Bool
is_enclosure_pending p = is_opened_by p.call.taker && not p.call.some

abbrev pub is_pending : Page → Bool
is_pending p = is_pending_from p.call.taker p.call.some (not (is_none p.name))

abbrev pub pending : Page → Offered
pending p = pending_from p.call.taker p

unfoldable pub leaves : Page → Offered
leaves p = seen_with (takes_no_more (pending p).page) (pending p)

-- ---- enclosures

-- to the end of the line: what closes it is kept
abbrev pub encloses : Pair → Page → Offered
encloses pair p =
    offered (if nat_lt (length p.closers) 8 then record p { closers = p.closers ++ closer pair ∷ [] } else p)
    (left acts.Nothing)

abbrev pub deeper : Page → Page
deeper p = if nat_lt p.place.depth 255 then with_place (record p.place { depth = p.place.depth + 1 }) p else p

abbrev pub shallower : Page → Page
shallower p =
    if nat_lt 0 p.place.depth then with_place (record p.place { depth = p.place.depth - 1 }) p else p

-- to its partner, on this line or another, which ends no sentence
abbrev pub opens : Page → Offered
opens p = offered (deeper p) (left acts.Nothing)

abbrev pub closes : Pair → Page → Offered
closes pair p =
    offered (shallower p)
    (if is_nothing pair then left acts.Apart
    else two (acts.Close (texts.Closing (closer pair))) (acts.Close texts.Empty))

-- ---- macros are called

-- at the beginning of a line it has no effect
abbrev pub joins : Page → Seen
joins p = if p.call.first then left acts.Nothing else left acts.Join

abbrev pub called : Macro → Page → Offered
called (macros.Encloses pair) p = encloses pair p
called (macros.Opens pair) p = opens p
called (macros.Closes pair) p = closes pair p
called macros.Joins p = offered p (joins p)
called macros.Apostrophe p = offered p (two (acts.Close texts.Apostrophe) acts.Join)
called macros.FunctionCloses p = function_closes p
called macros.Cell p = offered p (left acts.Cell)
called m p = offered p (left acts.Nothing)

-- a macro takes words
abbrev pub taking : Macro → Page → Page
taking m p =
    record p {
      scan = scans.Between;
      call = record p.call {
        taker = m;
        first = false;
        some = false;
        listed = false;
      };
    }

abbrev pub is_cell : Macro → Bool
is_cell macros.Cell = true
is_cell m = false

-- `Ta` in a list of columns: what its cell opened ends before it
abbrev pub ends_cell : Macro → Page → Bool
ends_cell m p = is_cell m && is_column p.block.kind

abbrev pub calls : Macro → Page → Offered
calls m p =
    if ends_cell m p then offered (taking m p) (two acts.Closers acts.Cell) else called m (taking m p)

abbrev pub is_item : Macro → Bool
is_item macros.Item = true
is_item m = false

-- an item of columns, whose cells tabs end too
abbrev pub has_cells : Page → Bool
has_cells p = is_item p.call.line && is_column p.block.kind

-- a tab between words: in such an item it ends all that its cell opened, and what its macro takes
abbrev pub tab : Page → Offered
tab p =
    if not (has_cells p) then offered p (taken acts.Cell) else
    if is_pending p then leaves p else
    if not (is_none p.marks) then offered p (two acts.Closers acts.Marks) else
    offered (takes_no_more p) (and_taken (two acts.Closers acts.Cell))

-- what the next macro says joins a dash that no word followed
abbrev pub joining : Bool → Offered → Offered
joining joins m = if joins then offered m.page (record m.seen { second = acts.Join }) else m

-- ---- an address of mail in angle brackets stands between signs

abbrev pub is_in_angles : Macro → Bool
is_in_angles (macros.Encloses pairs.Angles) = true
is_in_angles m = false

abbrev pub is_mail : Macro → Bool
is_mail macros.Mail = true
is_mail m = false

abbrev pub ends_in_angle : List ℕ → Bool
ends_in_angle closers =
    nat_lt 0 (length closers) && (slice_index closers (length closers - 1) == closer pairs.Angles)

abbrev pub encloses_address : Macro → Page → Bool
encloses_address m p = is_in_angles p.call.taker && is_mail m && ends_in_angle p.closers

abbrev pub has_closer : Page → Type 0
has_closer p = ends_in_angle p.closers ≡ true

abbrev pub opens_address : Page → Offered
opens_address p =
    let closers = take (length p.closers - 1) p.closers ++ closer pairs.Signs ∷ [] in
    offered (takes_no_more (record p { closers = closers }))
    (two (acts.Text (texts.Opening pairs.Signs)) acts.Join)

unfoldable pub call : Macro → Page → Offered
call m p =
    if not (is_pending p) then calls m p else
    if encloses_address m p then opens_address p else joining (joins_next p.call.taker) (leaves p)
