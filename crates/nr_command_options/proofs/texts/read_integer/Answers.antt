use Rattle.std.proofs.Common.{inl, inr, lit<, arith, rules}
use Rattle.std.proofs.lemmas.Str.Pattern.{strip_prefix_char}
use Rattle.nr_command_options.proofs.texts.read_integer.Goals as goal

-- it does not begin with `-`, and it is no number
pub returns-in_err-size-in-None-clause-none : goal.returns-in_err-size-in-None-clause-none
returns-in_err-size-in-None-clause-none c =
    let stripped = strip_prefix_char 45 c.args.text.now c.strip_prefix.result c.strip_prefix.ensures.cases (lit< tt) in
    let none = rw c.in-None.is at stripped in
    rw c.from_residual-in_err-size-in-None.ensures (λ n writes. elim writes [
      | inl plain ↦ c.in_err-size-in-None.ensures (plain.1.digits, omega (arith, plain.1.value, plain.1.in_range))
      | inr negative ↦ none negative.1 negative.2
    ])

pub returns-in_ok-size-in-Some-clause-found : goal.returns-in_ok-size-in-Some-clause-found
returns-in_ok-size-in-Some-clause-found c = search rules
