-- Bytes are read, one after another, and what comes of a whole page.
use Rattle.std.specs.Prelude.{ℕ, zero, suc, ◌+◌, ◌-◌, List, [], ◌∷◌, ◌++◌, length, take, Bool, true, false}
use Rattle.std.specs.Prelude.{◌==◌, nat_lt, if◌then◌else◌, slice_get, Option, None, Some}
use Prim.Native.Char.{code}
use Rattle.mdoc_layout.specs.declared.acts.Stack.{Stack}
use Rattle.mdoc_layout.specs.declared.acts.Stack.TheVariants.{Stay, Opens, Closes, Empties}
use Rattle.mdoc_layout.specs.declared.macros.Font.TheVariants.{Roman}
use Rattle.mdoc_layout.specs.declared.macros.Macro.TheVariants as macros
use Rattle.mdoc_layout.specs.declared.page.At.TheVariants as ats
use Rattle.mdoc_layout.specs.declared.page.Block.{Block}
use Rattle.mdoc_layout.specs.declared.page.Prefix.TheVariants as prefixes
use Rattle.mdoc_layout.specs.declared.page.Last.TheVariants as lasts
use Rattle.mdoc_layout.specs.declared.page.Lay.{Lay}
use Rattle.mdoc_layout.specs.declared.page.Page.{Page}
use Rattle.mdoc_layout.specs.declared.page.Parameters.TheVariants.{Outside}
use Rattle.mdoc_layout.specs.declared.page.Place.{Place}
use Rattle.mdoc_layout.specs.declared.page.RowPart.TheVariants as rows
use Rattle.mdoc_layout.specs.declared.page.Scan.{Scan}
use Rattle.mdoc_layout.specs.declared.page.Scan.TheVariants as scans
use Rattle.mdoc_layout.specs.declared.page.Section.TheVariants as sections
use Rattle.mdoc_layout.specs.declared.page.Split.TheVariants as splits
use Rattle.mdoc_converter.specs.declared.reader.Reader.{Reader}
use Rattle.mdoc_layout.specs.declared.seen.Seen.{Seen}
use Rattle.mdoc_converter.specs.declared.pending.Pending.{Pending}
use Rattle.mdoc_converter.specs.declared.pending.Pending.TheVariants as pendings
use Rattle.mdoc_converter.specs.declared.pending.Pending.TheVariants.{Nothing}
use Rattle.mdoc_layout.specs.Blocks.{no_block}
use Rattle.mdoc_layout.specs.Laying.{Laid, then_laid}
use Rattle.mdoc_layout.specs.LayingOut.{lay_out}
use Rattle.mdoc_layout.specs.OwnLines.{line_end}
use Rattle.mdoc_converter.specs.Lines.{call_of}
use Rattle.mdoc_converter.specs.Scanning.{offer}
use Rattle.mdoc_layout.specs.Seeing.{Offered}
use Rattle.mdoc_converter.specs.Strings.{offered_by, takes_strings}
use Rattle.mdoc_layout.specs.Texts.{prefix_of}
use Rattle.mdoc_converter.specs.declared.strings.Next.{Next}
use Rattle.mdoc_converter.specs.declared.strings.Next.TheVariants as nexts

-- what is half read: the page, and the blocks open around the innermost, the outermost first
pub record State : Type 0 where
  pub page : Page
  pub pending : Pending
  pub blocks : List Block

abbrev pub state : Reader → List Block → State
state r blocks = record { page = r.page; pending = r.pending; blocks = blocks }

-- what is half read then, what goes out, and in how many steps: in each a byte is offered to what is half
-- read
pub record Emitted : Type 0 where
  pub state : State
  pub bytes : List ℕ
  pub steps : ℕ

abbrev pub emitted : State → List ℕ → ℕ → Emitted
emitted s bytes steps = record { state = s; bytes = bytes; steps = steps }

-- these bytes, in so many steps, and then what comes
abbrev pub preceded : List ℕ → ℕ → Emitted → Emitted
preceded bytes steps t = record { state = t.state; bytes = bytes ++ t.bytes; steps = steps + t.steps }

-- first the one, then the other
abbrev pub then_emitted : Emitted → (State → Emitted) → Emitted
then_emitted t next = preceded t.bytes t.steps (next t.state)

-- ---- a page begins

abbrev pub first_lay : Lay
first_lay = record {
  at = ats.Start;
  joined = false;
  spaced = true;
  tag = false;
  literal = false;
  kept = false;
  cell = 0;
  quiet = true;
  font = Roman;
  partial = false;
  bare = false;
}

abbrev pub first_place : Place
first_place = record {
  section = sections.Other;
  last = lasts.Other;
  split = splits.Never;
  parameters = Outside;
  depth = 0;
  reference = false;
  listed = false;
  authors = 0;
  titled = false;
  width = 0;
}

abbrev pub first_page : Page
first_page = record {
  scan = scans.Asleep prefixes.Nothing 0;
  word = [];
  marks = [];
  held = [];
  parts = [];
  closers = [];
  name = [];
  own = [];
  title = [];
  chapter = [];
  month = [];
  day = [];
  year = [];
  lay = first_lay;
  call = call_of macros.Silent;
  place = first_place;
  block = no_block;
}

abbrev pub first_reader : Reader
first_reader = record { page = first_page; pending = Nothing }

abbrev pub first_state : State
first_state = state first_reader []

-- ---- a byte is offered once

unfoldable pub said : Seen → Page → Laid
said seen p =
    then_laid (then_laid (lay_out seen.first p) (λ q. lay_out seen.second q)) (λ q. lay_out seen.third q)

-- a list or a display within sixty-four others is none
abbrev pub refused : Block → Page → Page
refused outer p =
    record p { block = outer; call = record p.call { line = macros.Silent; taker = macros.Silent } }

abbrev pub block_or : Option Block → Block
block_or None = no_block
block_or (Some b) = b

abbrev pub stacked : Stack → Block → State → State
stacked Stay outer s = s
stacked Opens outer s =
    if nat_lt (length s.blocks) 64 then record s { blocks = s.blocks ++ outer ∷ [] }
    else record s { page = refused outer s.page }
stacked Closes outer s =
    let n = length s.blocks - 1 in
    record s { page = record s.page { block = block_or (slice_get s.blocks n) }; blocks = take n s.blocks }
stacked Empties outer s = record s { page = record s.page { block = no_block }; blocks = [] }

pub record Once : Type 0 where
  pub state : State
  pub bytes : List ℕ
  pub takes : Bool

abbrev pub once_seen : Offered → Block → State → Once
once_seen m outer s = record {
  state = stacked m.seen.stack outer (record s { page = (said m.seen m.page).page });
  bytes = (said m.seen m.page).bytes;
  takes = m.seen.takes;
}

unfoldable pub once : ℕ → State → Once
once b s = once_seen (offer b s.page) s.page.block s

-- ---- a byte is offered until it is taken

abbrev pub heard_in : ℕ → ℕ → State → Emitted
heard_in zero b s = emitted s [] 0
heard_in (suc n) b s =
    let o = once b s in preceded o.bytes 1 (if o.takes then emitted o.state [] 0 else heard_in n b o.state)

-- Sixteen times are enough: at a line's end its last word may be offered five times, its enclosures are eight
-- at most.
unfoldable pub heard : ℕ → State → Emitted
heard b s = heard_in 16 b s

-- ---- escapes that name strings: what they stand for is heard in their place

-- a byte of such a text, which a NUL ends
abbrev pub heard_some : ℕ → State → Emitted
heard_some b s = if b == 0 then emitted s [] 0 else heard b s

abbrev pub heard_text : ℕ → ℕ → ℕ → ℕ → State → Emitted
heard_text a b c d s =
    then_emitted (then_emitted (then_emitted (heard_some a s) (λ t. heard_some b t)) (λ t. heard_some c t))
    (λ t. heard_some d t)

abbrev pub heard_star : State → Emitted
heard_star s = then_emitted (heard (code "\\") s) (λ t. heard (code "*") t)

abbrev pub heard_then : (State → Emitted) → ℕ → State → Emitted
heard_then f b s = then_emitted (f s) (λ t. heard b t)

-- what was read of an escape that names no string is heard as it is
abbrev pub heard_raw : Pending → State → Emitted
heard_raw Nothing s = emitted s [] 0
heard_raw pendings.Backslash s = heard (code "\\") s
heard_raw pendings.Star s = heard_star s
heard_raw pendings.Open s = heard_then heard_star (code "(") s
heard_raw (pendings.Pair a) s = heard_then (heard_then heard_star (code "(")) a s
heard_raw pendings.Bracket s = heard_then heard_star (code "[") s
heard_raw (pendings.One a) s = heard_then (heard_then heard_star (code "[")) a s
heard_raw (pendings.Two a b) s = heard_then (heard_then (heard_then heard_star (code "[")) a) b s

abbrev pub with_pending : Pending → State → State
with_pending pending s = record s { pending = pending }

abbrev pub read_by : Next → ℕ → State → Emitted
read_by (nexts.Waits pending) b s = emitted (with_pending pending s) [] 0
read_by (nexts.Says a b c d) byte s = heard_text a b c d (with_pending Nothing s)
read_by nexts.Breaks b s = then_emitted (heard_raw s.pending (with_pending Nothing s)) (λ t. heard b t)

unfoldable pub read : ℕ → State → Emitted
read b s = read_by (offered_by s.pending b (takes_strings s.page.scan)) b s

-- ---- the end: a line that is begun ends, and all is put on a line

unfoldable pub line_finished : State → Emitted
line_finished s = let t = heard (code "\n") s in emitted t.state (t.bytes ++ line_end t.state.page) t.steps

abbrev pub finished_at : Scan → State → Emitted
finished_at (scans.Asleep prefix lines) s = emitted s (prefix_of prefix) 0
finished_at scans.Passes s = emitted s [] 0
finished_at scans.Start s = emitted s (line_end s.page) 0
finished_at (scans.Table rows.Start) s = emitted s (line_end s.page) 0
finished_at scan s = line_finished s

abbrev pub page_finished : State → Emitted
page_finished s = finished_at s.page.scan s

unfoldable pub finished : State → Emitted
finished s = then_emitted (heard_raw s.pending (with_pending Nothing s)) (λ t. page_finished t)

-- ---- many bytes

abbrev pub fed : State → List ℕ → Emitted
fed s [] = emitted s [] 0
fed s (b ∷ bs) = then_emitted (read b s) (λ t. fed t bs)

-- ---- the definition: what comes of all bytes of an input

abbrev pub converted : List ℕ → List ℕ
converted input = let t = fed first_state input in t.bytes ++ (finished t.state).bytes
