-- How a title that is being read lies in a row of cells.
use Rattle.std.specs.Prelude.{ℕ, ◌+◌, ◌-◌, List, [], take, drop, Option, None, Some}
use Rattle.nr_vectors.specs.declared.cell.Cell.{Cell}
use Rattle.nr_fill.specs.declared.title.TitleState.{TitleState}
use Rattle.nr_fill.specs.declared.title.TitleState.TheVariants as states
use Rattle.nr_fill.specs.declared.title.TitlePart.TheVariants as parts
use Rattle.nr_fill.specs.Title.{Title}

-- the title whose cells these are
abbrev pub title_of : Option TitleState → List Cell → Option Title
title_of None cells = None
title_of (Some states.Left) cells = Some (record { left = cells; centre = []; right = []; part = parts.Left })
title_of (Some (states.Centre left)) cells =
    Some (record { left = take left cells; centre = drop left cells; right = []; part = parts.Centre })
title_of (Some (states.Right left centre)) cells =
    Some (record {
      left = take left cells;
      centre = take centre (drop left cells);
      right = drop centre (drop left cells);
      part = parts.Right;
    })

-- how many cells of a title's state are its first parts'
abbrev pub parted_title : TitleState → ℕ
parted_title states.Left = 0
parted_title (states.Centre left) = left
parted_title (states.Right left centre) = left + centre

-- where the parts end once the one that is being read does, of so many cells
abbrev pub next_state : ℕ → TitleState → TitleState
next_state n states.Left = states.Centre n
next_state n (states.Centre left) = states.Right left (n - left)
next_state n (states.Right left centre) = states.Right left centre
