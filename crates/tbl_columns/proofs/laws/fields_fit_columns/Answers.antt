use Rattle.tbl_columns.proofs.Fits.{fields_fit}
use Rattle.tbl_columns.proofs.SpansFit.{spans_fit}
use Rattle.tbl_columns.proofs.laws.fields_fit_columns.Goals as goal

pub returns-clause-one : goal.returns-clause-one
returns-clause-one c = fields_fit

pub returns-clause-several : goal.returns-clause-several
returns-clause-several c = spans_fit
