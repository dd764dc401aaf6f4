use Rattle.std.proofs.Common.{◌≡◌, Some, slice_get, drop, arith, rules}
use Rattle.std.proofs.lemmas.Grind.{common_steps}
use Rattle.std.proofs.lemmas.Str.Pattern.{strip_prefix_char}
use Rattle.program_options.proofs.Parting.{begins_with}
use Rattle.program_options.proofs.words.first_byte.Goals as goal

-- the text begins with that very byte
pub returns-in_err-rest : goal.returns-in_err-rest
returns-in_err-rest c =
    let text = c.args.text.now in
    let stripped = strip_prefix_char c.from.result text c.strip_prefix.result c.strip_prefix.ensures.cases (omega arith) in
    let none = rw c.in_err-rest.was at stripped in
    let first : Some c.from.result ≡ slice_get text 0 = first_of (search rules, cc, grind (arith, common_steps)) in
    absurd (none (drop 1 text) (begins_with c.from.result text first))
