use Rattle.tbl_laws.proofs.Texts.{bars_have_their_texts, edges_have_none, rows_have_their_texts, rules_have_their_texts, texts_go_out}
use Rattle.tbl_laws.proofs.laws.each_text_once.Goals as goal

pub returns : goal.returns
returns c = record {
  rows = rows_have_their_texts;
  bars = bars_have_their_texts;
  rules = rules_have_their_texts;
  edges = edges_have_none;
  bytes = texts_go_out;
}
