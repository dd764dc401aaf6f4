use Rattle.preconv_converter.proofs.word_laws.words_go_out.Goals as goal
use Rattle.preconv_converter.proofs.LinesGo.{lines_go_out, pages_go_out}

pub returns-clause-lines : goal.returns-clause-lines
returns-clause-lines c = lines_go_out

pub returns-clause-pages : goal.returns-clause-pages
returns-clause-pages c = pages_go_out
