-- The blocks of a page that are open, the last that was opened first.
use Rattle.std.specs.Prelude.{ℕ, ◌+◌, List, [], ◌∷◌, if◌then◌else◌, Option, None, Some}
use Rattle.std.specs.Str.{bytes_eq}
use Rattle.filters_complaints.specs.declared.blocks.OpenBlock.{OpenBlock}

-- the place of the last that a macro opened, where the first of these has this place
abbrev pub place_from : ℕ → List ℕ → List OpenBlock → Option ℕ
place_from place name [] = None
place_from place name (block ∷ blocks) =
    if bytes_eq block.name name then Some place else place_from (place + 1) name blocks

abbrev pub place_of : List ℕ → List OpenBlock → Option ℕ
place_of name blocks = place_from 0 name blocks
