use Rattle.std.proofs.Common.{◌≡◌, ◌-◌, ◌∷◌, []}
use Rattle.tbl_blocks.specs.declared.parts.Font.TheVariants as fonts
use Rattle.tbl_drawing.specs.Drawing.{last_font, parts_text}
use Rattle.tbl_drawing.specs.Pens.{Bytes}
use Rattle.tbl_drawing.specs.Tapes.{Tape, Draws}
use Rattle.tbl_drawing.proofs.layout.Layout.put_parts_of.Given as goal

-- what is left, drawn now, makes all of it
abbrev pub invariant-loop-number : goal.invariant-loop-number
invariant-loop-number g l = record {
  draws : (b : Tape) → Draws l.out b (Bytes (parts_text (l.line.«end» - l.number) l.self l.number l.line l.font l.gap) ∷ [])
      → Draws l.initial.out b (Bytes (parts_text (l.line.«end» - l.line.first) l.self l.line.first l.line fonts.Roman 0) ∷ []);
  font : last_font (l.line.«end» - l.number) l.self l.number l.font ≡ last_font (l.line.«end» - l.line.first) l.self l.line.first fonts.Roman;
}
