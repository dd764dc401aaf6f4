use Rattle.std.proofs.Common.{◌≡◌, ℕ, List, ◌++◌, ◌∙◌, ap, append_assoc}
use Rattle.std.specs.Prelude.{codes}
use Rattle.mdoc_layout.specs.OwnLines.{digits, line_end}
use Rattle.mdoc_layout.proofs.page.Page.put_stops.Goals as goal

one-after-other : (a b c d e x y z w : List ℕ) → x ≡ a ++ b → y ≡ x ++ c → z ≡ y ++ d → w ≡ z ++ e
    → w ≡ a ++ (((b ++ c) ++ d) ++ e)
one-after-other a b c d e x y z w f g h i =
    i ∙ ap (λ (v : List ℕ). v ++ e) (h ∙ ap (λ (v : List ℕ). v ++ d) (g ∙ ap (λ (v : List ℕ). v ++ c) f ∙ append_assoc a b c)
    ∙ append_assoc a (b ++ c) d) ∙ append_assoc a ((b ++ c) ++ d) e

pub returns-clause-items : goal.returns-clause-items
returns-clause-items c =
    one-after-other c.args.out.now.items (line_end c.args.self.now) (codes ".nr %g ")
    (digits c.args.gap) (codes "n\n.ta \\*(%c\n") c.freshen.new.out.items c.extend.new.self.items
    c.put_number.new.out.items c.extend-2.new.self.items
    c.freshen.ensures.items c.extend.ensures.items c.put_number.ensures.items c.extend-2.ensures.items
