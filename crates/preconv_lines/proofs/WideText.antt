-- A character beyond ASCII in a text line is taken at once.
use Rattle.std.proofs.Common.{◌≡◌, ℕ, Bool, true, false, ◌&&◌, if◌then◌else◌, refl, sym, ◌∙◌, ap}
use Rattle.preconv_characters.specs.declared.said.Said.{Said}
use Rattle.preconv_characters.specs.declared.said.Said.TheVariants.{Character}
use Rattle.preconv_characters.specs.declared.marks.Before.{Before}
use Rattle.preconv_lines.specs.declared.half.Coming.TheVariants.{Wide}
use Rattle.preconv_lines.specs.declared.half.Escape.{Escape}
use Rattle.preconv_lines.specs.declared.half.Escape.TheVariants.{Plain}
use Rattle.preconv_lines.specs.declared.half.Half.{Half}
use Rattle.preconv_lines.specs.declared.half.Line.{Line}
use Rattle.preconv_lines.specs.declared.half.Line.TheVariants.{Text}
use Rattle.preconv_lines.specs.Half.{character_said, taken}
use Rattle.preconv_characters.specs.Marks.{followed, wide_mark}
use Rattle.preconv_lines.specs.Hyphens.{placed}
use Rattle.preconv_lines.specs.Lines.{wide_at}
use Rattle.preconv_lines.specs.Offering.{offer, wide_by}

with_line : (x : Bool) (b : Before) (h : Half) → h.line ≡ Text → record (if x then record h { before = b } else h) { line = Text } ≡ (if x then record h { before = b } else h)
with_line true b h e = ap (λ (l : Line). record h { before = b; line = l }) (sym e)
with_line false b h e = ap (λ (l : Line). record h { line = l }) (sym e)

never : (x : Bool) (a b : Said) → (if x && false then a else b) ≡ b
never true a b = refl
never false a b = refl

text_said : (c : ℕ) → character_said Text c ≡ Character c
text_said c = never _ _ _

pub wide_offered : (c : ℕ) (h : Half) → h.escape ≡ Plain → h.line ≡ Text → taken (Character c) (placed (wide_mark c) h) ≡ offer (Wide c) h
wide_offered c h escape line =
    let k : Half = record (placed (wide_mark c) h) { line = Text } in
    sym (ap (λ (e : Escape). wide_by e c h) escape
    ∙ ap (λ (l : Line). wide_at l c h) line
    ∙ ap (λ (l : Line). taken (character_said l c) k) line
    ∙ ap (λ (s : Said). taken s k) (text_said c)
    ∙ ap (λ (j : Half). taken (Character c) j) (with_line h.manual (followed (wide_mark c) h.before) h line))
