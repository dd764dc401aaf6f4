-- What a handle keeps, and what it owns.
use Rattle.std.specs.Prelude.{◌≡◌, ℕ, List, Option, None, Some}
use Rattle.std.specs.Coded.{coded_option}
use base.Fml.{Fml, ftrue}
use base.Stored.{Coded}
use denote.RawPtr.{Ptr}
use Rattle.std.specs.Box.Ownership.{box_owns}
use Rattle.std.specs.Global.{Global}
use Rattle.std_heap.specs.contracts.GlobalAllocator.TheImpl.{ghosts}
use Rattle.nulbiko.specs.Document.{IsAllowed}
use Rattle.nulbiko.specs.Formatting.{bounds_of}
use Rattle.nulbiko.specs.declared.document.DocumentSetup.{DocumentSetup}
use Rattle.nulbiko.specs.declared.kept.Kept.{Kept}
use Rattle.nulbiko.specs.contracts.kept.Kept.{the_row}

-- this setup, whose numbers are in range, these macros, and a desk under its limits
abbrev pub Keeps : Option Kept → DocumentSetup → List ℕ → Type 0
Keeps None setup macros = ⊥
Keeps (Some kept) setup macros = IsAllowed setup × (kept.setup ≡ setup) × (kept.macros.items ≡ macros) × (kept.memory.desk ≡ bounds_of setup.limits)

-- the memory of what is kept, as a box of it does
abbrev pub handle_owns : Global → Ptr → Option Kept → Fml
handle_owns alloc at None = ftrue
handle_owns alloc at (Some kept) = box_owns (ghosts.dealloc_token alloc) the_row at kept

abbrev pub kept_coded : Coded (Option Kept)
kept_coded = coded_option the_row.coded
