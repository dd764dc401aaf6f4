use Rattle.tbl_laws.proofs.OutsideText.{first_text_stays, last_text_stays, pages_stay, text_between_stays}
use Rattle.tbl_laws.proofs.TableEnds.{table_ends}
use Rattle.tbl_laws.proofs.laws.text_outside_stays.Goals as goal

pub returns : goal.returns
returns c = record {
  pages = pages_stay;
  first = first_text_stays;
  last = last_text_stays;
  between = text_between_stays;
  ends = table_ends;
}
