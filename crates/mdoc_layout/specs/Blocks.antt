-- Lists, their items, and displays (mdoc(7), Bl, It, El, Bd, Ed, D1, Dl).
use Rattle.std.specs.Prelude.{ℕ, ◌+◌, ◌-◌, Bool, true, false, not, ◌==◌, ◌&&◌, ◌||◌, nat_lt, if◌then◌else◌, Option, None, Some}
use Rattle.mdoc_layout.specs.declared.acts.Act.{Act}
use Rattle.mdoc_layout.specs.declared.acts.Act.TheVariants as acts
use Rattle.mdoc_layout.specs.declared.acts.Request.{Request}
use Rattle.mdoc_layout.specs.declared.acts.Request.TheVariants as requests
use Rattle.mdoc_layout.specs.declared.acts.Sized.TheVariants as sizes
use Rattle.mdoc_layout.specs.declared.acts.Stack.TheVariants.{Opens, Closes}
use Rattle.mdoc_layout.specs.declared.macros.Font.{Font}
use Rattle.mdoc_layout.specs.declared.macros.Font.TheVariants.{Roman, Bold}
use Rattle.mdoc_layout.specs.declared.macros.Macro.TheVariants as macros
use Rattle.mdoc_layout.specs.declared.page.Block.{Block}
use Rattle.mdoc_layout.specs.declared.page.Kind.{Kind}
use Rattle.mdoc_layout.specs.declared.page.Kind.TheVariants as kinds
use Rattle.mdoc_layout.specs.declared.page.Page.{Page}
use Rattle.mdoc_layout.specs.declared.seen.Seen.{Seen}
use Rattle.mdoc_layout.specs.Columns.{gap, is_column}
use Rattle.mdoc_layout.specs.Lengths.{at_most}
use Rattle.mdoc_layout.specs.Seeing.{Offered, left, none, offered, three, two, with_stack}

-- ---- blocks

abbrev pub fresh_block : Kind → ℕ → Block
fresh_block kind offset =
    record {
      kind = kind;
      width = None;
      columns = 0;
      offset = offset;
      items = 0;
      compact = false;
      begun = false;
    }

-- no block, or none of whose options was read
abbrev pub no_block : Block
no_block = fresh_block kinds.Page 0

abbrev pub is_list : Kind → Bool
is_list kinds.Page = false
is_list kinds.Filled = false
is_list kinds.Literal = false
is_list kinds.Unfilled = false
is_list kinds.Centered = false
is_list kind = true

abbrev pub has_tags : Kind → Bool
has_tags kinds.Bullet = true
has_tags kinds.Dash = true
has_tags kinds.Number = true
has_tags kinds.Tag = true
has_tags kinds.Hang = true
has_tags kind = false

abbrev pub usual_width : Kind → ℕ
usual_width kinds.Bullet = 2
usual_width kinds.Dash = 2
usual_width kinds.Number = 3
usual_width kind = 6

-- what tags take, with the gap of two after them
abbrev pub tag_width_of : Option ℕ → Kind → ℕ
tag_width_of None kind = usual_width kind + 2
tag_width_of (Some width) kind = at_most 900 width + 2

abbrev pub tag_width : Block → ℕ
tag_width b = tag_width_of b.width b.kind

abbrev pub is_tagged : Block → Bool
is_tagged b = b.begun && has_tags b.kind

-- what begins inside an item is indented as its text is
abbrev pub inner : Block → ℕ
inner b = if is_tagged b then tag_width b else 0

abbrev pub space : Bool → Act
space compact = if compact then acts.Fresh else acts.Space

-- ---- a block begins and ends

abbrev pub block_opens : Kind → Page → Offered
block_opens kind p =
    offered (record p { block = fresh_block kind (inner p.block) }) (with_stack Opens (left acts.Fresh))

abbrev pub indent : Page → Act
indent p = acts.Sized sizes.Indent (at_most 999 p.block.offset)

-- where its columns stand
abbrev pub stops : Page → Act
stops p = if p.block.columns == 0 then acts.Nothing else acts.Stops (gap p.block.columns)

abbrev pub list_begins : Page → Offered
list_begins p =
    offered p (if is_column p.block.kind
    then three (space p.block.compact) (indent p) (stops p) else left (indent p))

abbrev pub with_literal : Bool → Page → Page
with_literal literal p = record p { lay = record p.lay { literal = literal } }

-- its lines stay
abbrev pub literal : Act → Act → Request → Page → Offered
literal space indent request p = offered (with_literal true p) (three space indent (acts.Request request))

abbrev pub display_begins_of : Kind → Page → Offered
display_begins_of kinds.Literal p = literal (space p.block.compact) (indent p) requests.Literal p
display_begins_of kinds.Unfilled p = literal (space p.block.compact) (indent p) requests.Unfilled p
display_begins_of kinds.Centered p = literal (space p.block.compact) (indent p) requests.Centered p
display_begins_of kind p = offered p (two (space p.block.compact) (indent p))

abbrev pub display_begins : Page → Offered
display_begins p = display_begins_of p.block.kind p

abbrev pub list_ends : Page → Offered
list_ends p =
    if not (is_list p.block.kind) then none p else
    if not (is_column p.block.kind)
    then offered p (with_stack Closes (left (acts.Request requests.IndentEnds))) else
    offered p (with_stack Closes (two (acts.Request requests.Tabs) (acts.Request requests.IndentEnds)))

abbrev pub literal_ends : Request → Page → Offered
literal_ends request p =
    offered (with_literal false p)
    (with_stack Closes (two (acts.Request request) (acts.Request requests.IndentEnds)))

abbrev pub display_ends_of : Kind → Page → Offered
display_ends_of kinds.Literal p = literal_ends requests.LiteralEnds p
display_ends_of kinds.Unfilled p = literal_ends requests.LiteralEnds p
display_ends_of kinds.Centered p = literal_ends requests.CenteredEnds p
display_ends_of kinds.Filled p = offered p (with_stack Closes (left (acts.Request requests.IndentEnds)))
display_ends_of kind p = none p

abbrev pub display_ends : Page → Offered
display_ends p = display_ends_of p.block.kind p

-- the item around what ended goes on, as far to the right as its text
abbrev pub outer_goes_on : Act → Page → Seen
outer_goes_on act p =
    if is_tagged p.block then two act (acts.Sized sizes.Inner (tag_width p.block)) else left act

abbrev pub taking : Font → Page → Page
taking font p = record p { call = record p.call { taker = macros.Words font } }

abbrev pub line_opens : Page → Offered
line_opens p = offered (taking Roman p) (left (acts.Sized sizes.Indent (inner p.block + 6)))

-- ---- items

abbrev pub more_items : ℕ → ℕ
more_items n = if nat_lt n 9999 then n + 1 else n

abbrev pub counts : Page → Page
counts p = record p { block = record p.block { begun = true; items = more_items p.block.items } }

abbrev pub item_head_of : Kind → Page → Act
item_head_of kinds.Bullet p = acts.Sized sizes.Bullet (tag_width p.block)
item_head_of kinds.Dash p = acts.Sized sizes.Dash (tag_width p.block)
item_head_of kinds.Number p = acts.Numbered p.block.items (tag_width p.block)
item_head_of kinds.Tag p = acts.Tag (tag_width p.block)
item_head_of kinds.Hang p = acts.Tag (tag_width p.block)
item_head_of kinds.Column p = acts.Row
item_head_of kind p = acts.Request requests.Break

abbrev pub item_head : Page → Act
item_head p = item_head_of p.block.kind p

abbrev pub is_diagnosis : Kind → Bool
is_diagnosis kinds.Diagnosis = true
is_diagnosis kind = false

abbrev pub new_item : Page → Page
new_item p = taking Roman (record p { place = record p.place { depth = 0 } })

-- the words of a head of `-diag` call no macro
abbrev pub plainly : Page → Page
plainly p = record p { call = record p.call { plain = true } }

abbrev pub counted_item : Page → Page
counted_item p = if is_diagnosis p.block.kind then plainly (taking Bold (counts p)) else counts p

abbrev pub stands_close : Block → Bool
stands_close b = b.compact || is_column b.kind

-- the item before has a head alone, in a list of `-diag`
abbrev pub is_bare : Page → Bool
is_bare p = p.lay.bare && is_diagnosis p.block.kind

-- space before an item
abbrev pub before_item : Page → Act
before_item p =
    if stands_close p.block || not p.block.begun then space (stands_close p.block) else
    if is_bare p then acts.Fresh else acts.Request requests.Space

abbrev pub item : Page → Offered
item p =
    if not (is_list p.block.kind) then none (new_item p) else
    offered (counted_item (new_item p))
    (two (before_item p) (item_head (counted_item (new_item p))))

-- two blanks stand between a tag and its text, or the tag stands alone; that of `-hang` goes on
abbrev pub tag_ends_of : Kind → Block → Act
tag_ends_of kinds.Tag b = acts.TagEnds (tag_width b - 1)
tag_ends_of kinds.Hang b = acts.HangEnds (tag_width b - 2)
tag_ends_of kind b = acts.Fresh

abbrev pub tag_ends : Page → Act
tag_ends p = tag_ends_of p.block.kind p.block

abbrev pub item_ends_of : Kind → Seen
item_ends_of kinds.Overhang = left (acts.Request requests.Break)
item_ends_of kinds.Diagnosis = left acts.HeadEnds
item_ends_of kind = left acts.Nothing

abbrev pub item_ends : Page → Seen
item_ends p = item_ends_of p.block.kind
