use Rattle.std.proofs.Common.{ℕ, List, ◌++◌, sym, ◌∙◌, ap, arith}
use Rattle.std.proofs.lemmas.Bool.Decides.{nat_tests}
use Rattle.preconv_characters.proofs.SentWhole.{byte-sent, itself-sent}
use Rattle.preconv_characters.proofs.said.say_other.Goals as goal

pub returns-then-is_utf8-clause-items : goal.returns-then-is_utf8-clause-items
returns-then-is_utf8-clause-items c =
    c.put_itself.ensures.items
    ∙ ap (λ (xs : List ℕ). c.args.out.now.items ++ xs)
    (itself-sent c.args.target c.args.code (omega (arith, c.if-code-lt128.false)) (grind (arith, nat_tests, c.if-code-eq-CUT.false)) (sym c.is_utf8.ensures ∙ c.if-is_utf8.true))

pub returns-in-Some-clause-items : goal.returns-in-Some-clause-items
returns-in-Some-clause-items c =
    c.push.ensures.items
    ∙ ap (λ (xs : List ℕ). c.args.out.now.items ++ xs)
    (byte-sent c.args.target c.args.code c.in-Some.byte (omega (arith, c.if-code-lt128.false)) (grind (arith, nat_tests, c.if-code-eq-CUT.false)) (sym c.is_utf8.ensures ∙ c.if-is_utf8.false)
    (sym c.byte_in_force.ensures ∙ c.in-Some.is))
