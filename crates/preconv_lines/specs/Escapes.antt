-- Escapes (the groff manual, Escapes; groff(7)): which go out as they are, which become others, and which are
-- dropped.
use Prim.Native.Char.{code}
use Rattle.std.specs.Prelude.{ℕ, length, ◌==◌, nat_lt, if◌then◌else◌}
use Rattle.nr_units.specs.Name.{is_full}
use Rattle.preconv_characters.specs.declared.said.Said.TheVariants as says
use Rattle.preconv_lines.specs.declared.half.Half.{Half}
use Rattle.preconv_lines.specs.declared.half.Escape.{Escape}
use Rattle.preconv_lines.specs.declared.half.Escape.TheVariants as escapes
use Rattle.preconv_characters.specs.declared.marks.Mark.TheVariants.{Other}
use Rattle.preconv_lines.specs.Half.{Offered, taken, abandoned}
use Rattle.preconv_lines.specs.Hyphens.{placed, after_hyphen, after_sentence}
use Rattle.preconv_lines.specs.Endings.{ended, ends_with}
use Rattle.preconv_lines.specs.Skipping.{skip_from, skipped, embedded}
use Rattle.preconv_lines.specs.Letters.{newline_hidden, after_backslash}
use Rattle.preconv_lines.specs.Spelling.{target, font_escape, pair, spelled_up_to, delimiter, bracketed}
use Rattle.preconv_lines.specs.Spelling.{nested}

abbrev pub argument : ℕ → Half → Offered
argument b h =
    if b == code "*" then ended (says.Arguments (nat_lt 2 (length h.kept))) (placed Other h) else
    if b == code "@" then ended (says.QuotedArguments (nat_lt 2 (length h.kept))) (placed Other h) else
    if b == code "\n" then abandoned h else ends_with b h

abbrev pub noted : ℕ → Half → Offered
noted b h = if b == code "\n" then newline_hidden h else taken says.Nothing h

abbrev pub in_part : Escape → ℕ → Half → Offered
in_part escapes.Plain b h = abandoned h
in_part escapes.Begun b h = after_backslash b h
in_part escapes.Argument b h = argument b h
in_part (escapes.Target kind) b h = target kind b h
in_part escapes.FontEscape b h = font_escape b h
in_part (escapes.Pair kind) b h = pair kind b h
in_part (escapes.Bracket kind) b h = bracketed kind b h
in_part (escapes.Nested kind) b h = nested kind b h
in_part (escapes.Delimiter kind) b h = delimiter kind b h
in_part (escapes.Delimited kind end) b h = spelled_up_to end kind b h
in_part escapes.Skip b h = skip_from b h
in_part (escapes.Skipped end) b h = skipped end b h
in_part (escapes.Embedded backslash) b h = embedded backslash b h
in_part escapes.Note b h = noted b h
in_part escapes.Hyphen b h = after_hyphen b h
in_part escapes.Sentence b h = after_sentence b h

-- an escape that is longer than what is kept goes out
abbrev pub in_escape : ℕ → Half → Offered
in_escape b h = if is_full h.kept then abandoned h else in_part h.escape b h
