use Rattle.std.proofs.Common.{rules}
use Rattle.nr_units.proofs.number_text.format_number.Goals as goal

pub returns-in-Arabic-clause-text : goal.returns-in-Arabic-clause-text
returns-in-Arabic-clause-text c = search rules

pub returns-in-Arabic-clause-computed : goal.returns-in-Arabic-clause-computed
returns-in-Arabic-clause-computed c = search rules

pub returns-in-LowerRoman-clause-text : goal.returns-in-LowerRoman-clause-text
returns-in-LowerRoman-clause-text c = search rules

pub returns-in-LowerRoman-clause-computed : goal.returns-in-LowerRoman-clause-computed
returns-in-LowerRoman-clause-computed c = search rules

pub returns-in-UpperRoman-clause-text : goal.returns-in-UpperRoman-clause-text
returns-in-UpperRoman-clause-text c = search rules

pub returns-in-UpperRoman-clause-computed : goal.returns-in-UpperRoman-clause-computed
returns-in-UpperRoman-clause-computed c = search rules

pub returns-in-LowerAlphabetic-clause-text : goal.returns-in-LowerAlphabetic-clause-text
returns-in-LowerAlphabetic-clause-text c = search rules

pub returns-in-LowerAlphabetic-clause-computed : goal.returns-in-LowerAlphabetic-clause-computed
returns-in-LowerAlphabetic-clause-computed c = search rules

pub returns-in-UpperAlphabetic-clause-text : goal.returns-in-UpperAlphabetic-clause-text
returns-in-UpperAlphabetic-clause-text c = search rules

pub returns-in-UpperAlphabetic-clause-computed : goal.returns-in-UpperAlphabetic-clause-computed
returns-in-UpperAlphabetic-clause-computed c = search rules
