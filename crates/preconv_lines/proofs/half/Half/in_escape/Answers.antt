use Rattle.std.proofs.Common.{Bool, if◌then◌else◌, sym, ◌∙◌, ap}
use Rattle.preconv_lines.specs.declared.half.Escape.{Escape}
use Rattle.preconv_lines.specs.Half.{abandoned}
use Rattle.preconv_lines.specs.Escapes.{in_part}
use Rattle.preconv_lines.proofs.half.Half.in_escape.Goals as goal

pub returns-in-Begun : goal.returns-in-Begun
returns-in-Begun c =
    let b = c.args.byte in
    let h = c.args.self.now in
    c.after_backslash.ensures
    ∙ ap (λ (e : Escape). in_part e b h) (sym c.in-Begun.is)
    ∙ ap (λ (x : Bool). if x then abandoned h else in_part h.escape b h) (sym (sym c.is_full.ensures.value ∙ c.if-is_full.false))
