use Rattle.std.proofs.Common.{◌≡◌, List, [], sym, subst, ap, ◌∙◌}
use Rattle.utf8_own_characters.specs.declared.counting.Count.{Count}
use Rattle.utf8_own_page.specs.Lacking.{left_of, names_of}
use Rattle.utf8_own_page.proofs.Left.{none_left}
use Rattle.utf8_own_page.proofs.cells.Cells.left_out.Goals as goal

pub returns-then-self-eq0 : goal.returns-then-self-eq0
returns-then-self-eq0 c =
    let all = none_left c.self.inside.ranked.items (sym c.self.inside.left_is ∙ c.if-self-eq0.true) in
    c.new.ensures.items ∙ ap names_of (sym (subst (λ (xs : List Count). left_of xs ≡ []) c.self.view_is all))
