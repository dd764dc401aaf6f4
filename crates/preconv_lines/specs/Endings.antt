-- How an escape goes on and ends.
use Prim.Native.Char.{code}
use Rattle.std.specs.Prelude.{ℕ, List, [], ◌∷◌, ◌++◌, if◌then◌else◌}
use Rattle.nr_units.specs.Name.{is_full}
use Rattle.preconv_characters.specs.declared.said.Said.{Said}
use Rattle.preconv_characters.specs.declared.said.Said.TheVariants as says
use Rattle.preconv_lines.specs.declared.half.Half.{Half}
use Rattle.preconv_lines.specs.declared.half.Escape.{Escape}
use Rattle.preconv_characters.specs.declared.marks.Mark.TheVariants.{Other}
use Rattle.preconv_lines.specs.Half.{Offered, taken, is_beginning, without_escape, in_text, in_fonts}
use Rattle.preconv_lines.specs.Hyphens.{placed}

-- one byte more, of those that a name holds
abbrev pub with_byte : ℕ → List ℕ → List ℕ
with_byte b bs = if is_full bs then bs else bs ++ b ∷ []

abbrev pub keeping : ℕ → Half → Half
keeping b h = record h { kept = with_byte b h.kept }

abbrev pub spelling : ℕ → Half → Half
spelling b h = record h { spelled = with_byte b h.spelled }

abbrev pub going_on : ℕ → Escape → Half → Offered
going_on b escape h = taken says.Nothing (record (keeping b h) { escape = escape })

-- it has ended, and this is said for it
abbrev pub ended : Said → Half → Offered
ended said h = taken said (in_text (without_escape h))

-- it was that of a font
abbrev pub ended_font : Said → Half → Offered
ended_font said h = taken said (in_fonts (without_escape h))

-- It was that of a size: blanks after it that begin a line are printed, as after a font.
abbrev pub ended_size : Half → Offered
ended_size h = ended_font (says.Kept h.kept) (placed Other h)

-- it goes out as it was kept
abbrev pub ended_kept : Half → Offered
ended_kept h = ended (says.Kept h.kept) (placed Other h)

abbrev pub ends_with : ℕ → Half → Offered
ends_with b h = ended_kept (keeping b h)

-- Nothing is said for it; but a line that begins with it is a text line, whatever comes next.
abbrev pub dropped : Half → Offered
dropped h = ended (if is_beginning h.line then says.Escape (code "&") else says.Nothing) h

-- What the language has under an escape of its own goes out as it was kept, or as the byte of this character.
abbrev pub kept_or : ℕ → Half → Offered
kept_or c h = ended (says.Native h.kept c) (placed Other h)
