use Rattle.std.proofs.Common.{ℕ, List, ◌++◌, sym, ◌∙◌, ap}
use Rattle.preconv_characters.proofs.Long.{long-sent}
use Rattle.preconv_characters.proofs.said.say_character.Goals as goal

pub returns-then-is_long-clause-items : goal.returns-then-is_long-clause-items
returns-then-is_long-clause-items c =
    c.put_long.ensures.items
    ∙ ap (λ (xs : List ℕ). c.args.out.now.items ++ xs)
    (long-sent c.args.target c.args.code (sym c.is_long.ensures ∙ c.if-is_long.true) (sym c.is_utf8.ensures ∙ c.if-is_utf8.true))
