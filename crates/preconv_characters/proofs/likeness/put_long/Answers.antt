use Rattle.std.proofs.Common.{ℕ, List, ◌++◌, ◌∙◌, ap}
use Rattle.preconv_characters.proofs.Long.{long_bytes}
use Rattle.preconv_characters.proofs.likeness.put_long.Goals as goal

pub returns-clause-items : goal.returns-clause-items
returns-clause-items c =
    c.extend.ensures.items ∙ ap (λ (xs : List ℕ). c.args.out.now.items ++ xs) (long_bytes c.args.code c.requires.long)
