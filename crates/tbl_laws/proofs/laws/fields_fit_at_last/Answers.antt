use Rattle.tbl_laws.proofs.EqualColumns.{equal_at_last}
use Rattle.tbl_laws.proofs.FinalColumns.{fields_fit_at_last, least_fits_at_last, spans_fit_at_last}
use Rattle.tbl_laws.proofs.laws.fields_fit_at_last.Goals as goal

pub returns : goal.returns
returns c = record { one = fields_fit_at_last; several = spans_fit_at_last; least = least_fits_at_last; equal = equal_at_last }
