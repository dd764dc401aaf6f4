use Rattle.mdoc_converter.proofs.word_laws.words_are_said.Goals as goal
use Rattle.mdoc_converter.proofs.Closing.{last_is_closed_first}
use Rattle.mdoc_converter.proofs.HeadingLines.{headings_are_said}
use Rattle.mdoc_converter.proofs.LinesSaid.{lines_are_said}
use Rattle.mdoc_converter.proofs.QuotedLines.{words_are_said}
use Rattle.mdoc_converter.proofs.TextSaid.{text_is_said}

pub returns-clause-text : goal.returns-clause-text
returns-clause-text c = text_is_said

pub returns-clause-words : goal.returns-clause-words
returns-clause-words c = words_are_said

pub returns-clause-headings : goal.returns-clause-headings
returns-clause-headings c = headings_are_said

pub returns-clause-lines : goal.returns-clause-lines
returns-clause-lines c = lines_are_said

pub returns-clause-enclosures : goal.returns-clause-enclosures
returns-clause-enclosures c = last_is_closed_first
