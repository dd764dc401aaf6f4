-- Escapes whose text is dropped (groff(7)): \H, \R, \S, \X, \Z and \?.
use Prim.Native.Char.{code}
use Rattle.std.specs.Prelude.{ℕ, [], Bool, false, ◌==◌, ◌&&◌, if◌then◌else◌}
use Rattle.preconv_characters.specs.declared.said.Said.TheVariants as says
use Rattle.preconv_lines.specs.declared.half.Half.{Half}
use Rattle.preconv_lines.specs.declared.half.Escape.TheVariants as escapes
use Rattle.preconv_lines.specs.Half.{Offered, taken, abandoned}
use Rattle.preconv_lines.specs.Endings.{dropped}

abbrev pub skip : Half → Offered
skip h = taken says.Nothing (record h { kept = []; escape = escapes.Skip })

abbrev pub skip_from : ℕ → Half → Offered
skip_from b h =
    if b == code "\n" then abandoned h else taken says.Nothing (record h { escape = escapes.Skipped b })

abbrev pub skipped : ℕ → ℕ → Half → Offered
skipped end b h = if b == code "\n" then abandoned h else if b == end then dropped h else taken says.Nothing h

-- what stands in \?..\? is for diversions that are read again
abbrev pub embed : Half → Offered
embed h = taken says.Nothing (record h { kept = []; escape = escapes.Embedded false })

abbrev pub embedded : Bool → ℕ → Half → Offered
embedded backslash b h =
    if b == code "\n" then abandoned h else
    if backslash && (b == code "?") then dropped h
    else taken says.Nothing (record h { escape = escapes.Embedded (b == code "\\") })
