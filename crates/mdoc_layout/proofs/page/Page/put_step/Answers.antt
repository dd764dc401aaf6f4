use Rattle.std.proofs.Common.{◌≡◌, ℕ, List, ◌++◌, ◌∙◌, ap, append_assoc}
use Rattle.std.specs.Prelude.{codes}
use Rattle.mdoc_layout.specs.Columns.{next_cell, step_to}
use Rattle.mdoc_layout.proofs.page.Page.put_step.Goals as goal

one-after-other : (a b c d x y z : List ℕ) → x ≡ a ++ b → y ≡ x ++ c → z ≡ y ++ d → z ≡ a ++ ((b ++ c) ++ d)
one-after-other a b c d x y z f g h =
    h ∙ ap (λ (v : List ℕ). v ++ d) (g ∙ ap (λ (v : List ℕ). v ++ c) f ∙ append_assoc a b c)
    ∙ append_assoc a (b ++ c) d

pub returns-clause-items : goal.returns-clause-items
returns-clause-items c =
    one-after-other c.args.out.now.items (codes ".%b ") (step_to (next_cell c.args.self.now) c.args.self.now.block) (codes "\n")
    c.extend.new.self.items c.put_step_to.new.out.items c.extend-2.new.self.items
    c.extend.ensures.items
    (c.put_step_to.ensures.items ∙ ap (λ n. c.extend.new.self.items ++ step_to n c.args.self.now.block) c.requires.cell)
    c.extend-2.ensures.items
