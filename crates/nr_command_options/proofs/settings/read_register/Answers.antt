use Rattle.std.proofs.Common.{◌≡◌, subst, ℕ, List}
use Rattle.nr_command_options.specs.Settings.{WritesInteger}
use Rattle.nr_command_options.proofs.Letters.{register_value}
use Rattle.nr_command_options.proofs.settings.read_register.Goals as goal

pub returns-in_err-number : goal.returns-in_err-number
returns-in_err-number c =
    rw c.from_residual-in_err-number.ensures (λ other has.
    let parts = register_value c.args.value.now other has in
    let found = c.in_ok-name.ensures.found in
    let same : parts.2 ≡ c.in_ok-name.number.now = cc in
    c.in_err-number.ensures.none parts.1 (subst (λ (number : List ℕ). WritesInteger parts.1 number) same parts.4))
