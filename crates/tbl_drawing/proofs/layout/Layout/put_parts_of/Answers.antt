use Rattle.std.proofs.Common.{◌≡◌, ℕ, ◌+◌, ◌-◌, ◌<◌, ◌≤◌, ◌++◌, ◌∷◌, [], refl, sym, ap, ◌∙◌, arith}
use Rattle.tbl_blocks.specs.declared.parts.Font.{Font}
use Rattle.tbl_blocks.specs.declared.parts.Part.{Part}
use Rattle.tbl_drawing.specs.Drawing.{gaps_if, last_font, part, part_after, parts_text}
use Rattle.tbl_drawing.proofs.Joined.{bytes_as}
use Rattle.tbl_drawing.proofs.Nexts.{font_next, parts_next}
use Rattle.tbl_drawing.proofs.Tapes.{draws_both, draws_no_bytes}
use Rattle.tbl_drawing.proofs.layout.Layout.put_parts_of.Goals as goal

pub loop-number-init : goal.loop-number-init
loop-number-init g c = record { draws = λ b d. d; font = refl }

pub loop-number-preserved : goal.loop-number-preserved
loop-number-preserved g c =
    let l = c.args.self.now in
    let line = c.args.line in
    let n = c.loop-number.number in
    let font = c.loop-number.font in
    let gap = c.loop-number.gap in
    record {
      draws = λ b d. c.loop-number.invariant.draws b
          (bytes_as (draws_both c.put_part.ensures d)
          (parts_next l n line.«end» line font gap c.loop-number-test.true
          ∙ ap (λ (f : Part). part_after l n line font gap ++ parts_text (line.«end» - (n + 1)) l (n + 1) line f.font (gaps_if l n line gap)) (sym c.part-part.ensures)
          ∙ ap (λ (k : ℕ). part_after l n line font gap ++ parts_text (line.«end» - (n + 1)) l (n + 1) line c.part-part.result.font k) (sym c.gaps_if-gap.ensures)));
      font = ap (λ (f : Part). last_font (line.«end» - (n + 1)) l (n + 1) f.font) c.part-part.ensures
          ∙ sym (font_next l n line.«end» font c.loop-number-test.true)
          ∙ c.loop-number.invariant.font;
    }

pub returns : goal.returns
returns g c =
    let l = c.args.self.now in
    let line = c.args.line in
    let n = c.loop-number.number in
    let none : line.«end» - n ≡ 0 = omega (arith, c.loop-number-test.false) in
    record {
      draws = c.loop-number.invariant.draws _
          (bytes_as (draws_no_bytes _) (ap (λ (k : ℕ). parts_text k l n line c.loop-number.font c.loop-number.gap) none));
      font = sym (ap (λ (k : ℕ). last_font k l n c.loop-number.font) none) ∙ c.loop-number.invariant.font;
    }
