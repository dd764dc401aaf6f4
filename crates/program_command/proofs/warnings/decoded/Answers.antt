use Rattle.std.proofs.Common.{rules, ◌≡◌, [], true, Option, ap, ◌∙◌}
use Rattle.nr_units.specs.Source.{Supply}
use Rattle.program_command.specs.Running.{under}
use Rattle.program_command.proofs.Warning.{decoded-is}
use Rattle.program_command.proofs.warnings.decoded.Goals as goal

pub returns : goal.returns
returns c =
    let all : c.in_ok-add_all.field-0 ≡ true = search rules in
    let none : c.new-page.result.items ≡ [] = search rules in
    let known = c.under_coding-text.ensures ∙ ap (λ (s : Option Supply). under c.args.looks.coding s) c.over.ensures.supply in
    decoded-is c.args.looks.coding c.args.bytes.now _ _ _ known none (c.in_ok-add_all.ensures all)
