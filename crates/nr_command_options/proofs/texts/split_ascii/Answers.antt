use Rattle.std.proofs.Common.{◌≡◌, ℕ, ◌∷◌, sym, ap, ◌∙◌, arith, rules}
use Rattle.std.proofs.lemmas.Str.Pattern.{strip_prefix_char}
use Rattle.nr_command_options.proofs.texts.split_ascii.Goals as goal

-- the text begins with that very byte
pub returns-in_err-rest-clause-none : goal.returns-in_err-rest-clause-none
returns-in_err-rest-clause-none c =
    let stripped = strip_prefix_char c.from.result c.args.text.now c.strip_prefix.result c.strip_prefix.ensures.cases (omega arith) in
    let none = rw c.in_err-rest.was at stripped in
    rw c.from_residual-in_err-rest.ensures (λ byte rest small is.
    let same : c.from.result ≡ byte = search rules in
    none rest (is ∙ ap (λ (b : ℕ). b ∷ rest) (sym same)))
