use Rattle.std.proofs.Common.{IsTrue, rules}
use Rattle.nr_command_options.specs.Settings.{is_among, known_letters}
use Rattle.nr_command_options.proofs.Letters.{unknown_beyond, ReadsOption-of_value}
use Rattle.nr_command_options.proofs.settings.read_option.Goals as goal

pub returns-then-contains : goal.returns-then-contains
returns-then-contains c = search rules

pub returns-in_default : goal.returns-in_default
returns-in_default c = unknown_beyond c.args.word.now c.requires c.in_default.ensures.none

pub returns : goal.returns
returns c =
    let known : IsTrue (is_among known_letters c.in-Some.letter) = search rules in
    rw c.ok_or.ensures.value (ReadsOption-of_value c.read_value.result c.args.word.now c.in-Some.letter c.in-Some.value.now c.in-Some.ensures.found known c.read_value.ensures)
