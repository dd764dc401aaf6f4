-- What a byte does: what is said, what becomes of the open blocks, and whether it is taken.
use Rattle.std.specs.Prelude.{true, false}
use Rattle.mdoc_layout.specs.declared.acts.Act.{Act}
use Rattle.mdoc_layout.specs.declared.acts.Act.TheVariants.{Nothing}
use Rattle.mdoc_layout.specs.declared.acts.Stack.{Stack}
use Rattle.mdoc_layout.specs.declared.acts.Stack.TheVariants.{Stay}
use Rattle.mdoc_layout.specs.declared.seen.Seen.{Seen}
use Rattle.mdoc_layout.specs.declared.page.Page.{Page}

-- what is half read then, and what was seen
pub record Offered : Type 0 where
  pub page : Page
  pub seen : Seen

abbrev pub offered : Page → Seen → Offered
offered p seen = record { page = p; seen = seen }

-- a byte that is left is offered again
abbrev pub three : Act → Act → Act → Seen
three first second third =
    record { first = first; second = second; third = third; stack = Stay; takes = false }

abbrev pub two : Act → Act → Seen
two first second = three first second Nothing

abbrev pub left : Act → Seen
left act = three act Nothing Nothing

abbrev pub and_taken : Seen → Seen
and_taken seen = record seen { takes = true }

abbrev pub taken : Act → Seen
taken act = and_taken (left act)

abbrev pub with_stack : Stack → Seen → Seen
with_stack stack seen = record seen { stack = stack }

-- nothing goes out
abbrev pub none : Page → Offered
none p = offered p (left Nothing)
